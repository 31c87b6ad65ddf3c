-- One call more: the file is replayed, and the image is one of those after it.
use Rattle.std.proofs.Common.{◌≡◌, ◌+◌, ℕ, List, [], ◌∷◌, ◌++◌, take, sym, ◌∙◌, ap, subst}
use Rattle.std.proofs.lemmas.Grind.{take_at_read}
use Rattle.fh_disk.specs.Images.{synced_by}
use Rattle.fh_disk.specs.Recorded.{replayed, Leaves}
use Rattle.fh_disk.specs.declared.record.Call.{Call}
use Rattle.fh_disk.proofs.Calls.{replayed-push, image_goes_on}
use Rattle.fh_disk.proofs.Images.{synced_by-push}
use Rattle.fh_disk.proofs.image.image_of.Goals as goal

pub loop-call-preserved : goal.loop-call-preserved
loop-call-preserved c =
    let first = c.args.first.now in
    let before = take c.loop-call.call-index c.args.calls.now in
    let call = c.call-item.result in
    let images = λ (new : List ℕ). new ≡ first in
    let so_far = c.loop-call.invariant in
    let then = c.in_ok-go_on.ensures in
    let more : take (c.loop-call.call-index + 1) c.args.calls.now ≡ before ++ call ∷ [] =
    (take_at_read c.args.calls.now c.loop-call.call-index call c.loop-call-test.true).1
    ∙ ap (λ (x : Call). before ++ x ∷ []) (sym c.call-item.is) in
    let image = subst (λ (file : List ℕ). Leaves file (λ new. new ≡ c.loop-call.image.items) (call ∷ [])
    c.go_on.new.image.items) so_far.file then.image in
    record {
      choice = then.choice ∙ so_far.choice;
      file = then.file ∙ ap (λ (file : List ℕ). replayed file (call ∷ [])) so_far.file
          ∙ sym (replayed-push first before call) ∙ ap (replayed first) (sym more);
      image = subst (λ (calls : List Call). Leaves first images calls c.go_on.new.image.items) (sym more)
          (image_goes_on first images before call c.loop-call.image.items c.go_on.new.image.items so_far.image image);
      lost = λ zero.
          then.lost (so_far.choice ∙ zero)
          ∙ ap (λ (synced : List ℕ). synced_by synced c.loop-call.file.items (call ∷ [])) (so_far.lost zero)
          ∙ ap (λ (file : List ℕ). synced_by (synced_by first first before) file (call ∷ [])) so_far.file
          ∙ sym (synced_by-push first first before call)
          ∙ ap (synced_by first first) (sym more);
      whole = λ one. then.whole (so_far.choice ∙ one) (so_far.whole one) ∙ sym then.file;
    }
