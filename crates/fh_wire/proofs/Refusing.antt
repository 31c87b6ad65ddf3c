-- What is refused stays refused, and a whole head is seen by the scan.
use Rattle.std.proofs.Common.{◌≡◌, ℕ, ◌==◌, nat_le, Bool, true, ◌||◌, ◌&&◌, List, [], ◌∷◌, ◌++◌, sym, ap, ◌∙◌, arith, append_assoc}
use Rattle.std.specs.List.{fold}
use Rattle.std.proofs.lemmas.List.Sums.{fold-append}
use Rattle.httparse.specs.Grammar.{HasNoRequest}
use Rattle.fh_wire.specs.declared.scan.Place.TheVariants.{Ended}
use Rattle.fh_wire.specs.declared.scan.Scan.{Scan}
use Rattle.fh_wire.specs.Scan.{fresh, stepped}
use Rattle.fh_wire.specs.Fronts.{IsRefusedRequest}
use Rattle.fh_wire.specs.Fronts.IsRefusedRequest.{long, wide, never}
use Rattle.fh_wire.proofs.HeadLines.{head_lines-append}
use Rattle.fh_wire.proofs.Fronts.{request_whole_place}

wide_stays : (scan : Scan) (more : List ℕ) → scan.wide ≡ true → (fold stepped scan more).wide ≡ true
wide_stays scan [] is = is
wide_stays scan (b ∷ more) is =
    wide_stays (stepped scan b) more (ap (λ (w : Bool). w || (scan.lines == 0 && nat_le 128 b)) is)

-- what is refused stays refused, whatever follows
pub refused_onward : (bytes more : List ℕ) → IsRefusedRequest bytes → IsRefusedRequest (bytes ++ more)
refused_onward bytes more (long many) = long (omega (arith, many, head_lines-append bytes more))
refused_onward bytes more (wide is) =
    wide (ap (λ (s : Scan). s.wide) (fold-append stepped fresh bytes more)
    ∙ wide_stays (fold stepped fresh bytes) more is)
refused_onward bytes more (never none) =
    never (λ after h rest reads. none (more ++ after) h rest (reads.0, sym (append_assoc bytes more after) ∙ reads.1))

-- bytes in which the scan saw no end have no head
pub headless : (bytes : List ℕ) → ((fold stepped fresh bytes).place ≡ Ended → ⊥) → HasNoRequest bytes
headless bytes unended h rest reads = unended (request_whole_place bytes h rest reads)
