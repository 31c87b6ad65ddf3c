-- A walk over the frames of a file.
use Rattle.std.proofs.Common.{◌≡◌, ℕ, ◌+◌, List, [], ◌∷◌, ◌++◌, length, take, drop, Option, Some, None, IfSome, Result, Ok, Err, refl, sym, ◌∙◌, ap, subst, arith, take-add, take-append-drop, length-append, w32}
use Rattle.std.specs.List.{All}
use Rattle.std.specs.Int.{to_be_bytes}
use Rattle.std.proofs.lemmas.List.{take_at}
use Rattle.std.proofs.lemmas.List.Elements.{All-append, All-nil, All-replicate}
use Rattle.fh_journal.specs.Journal.{header, frame, opened, IsShort, Stands}
use Rattle.fh_journal.specs.Frames.{payloads_of, frames_from}
use Rattle.fh_journal.specs.Reading.{EndsAt, FrameAt, Refuses, RefusesFile, ReadsFrame, ReadsFrames}
use Rattle.fh_journal.specs.declared.faults.MountFault.{MountFault}
use Rattle.fh_journal.specs.declared.faults.MountFault.TheVariants.{BadHeader, BadFrame, DiskFault, NoMemory}
use Rattle.fh_journal.specs.declared.frames.Frame.{Frame}
use Rattle.fh_journal.specs.declared.mounting.Prepared.{Prepared}
use Rattle.fh_journal.proofs.Bytes.{opened-push}

-- the place behind the frames of these payloads, of which the first stands here
abbrev pub place_behind : ℕ → List (List ℕ) → ℕ
place_behind at [] = at
place_behind at (payload ∷ payloads) = place_behind (at + 5 + length payload) payloads

pub frames_from-push : (at : ℕ) (payloads : List (List ℕ)) (payload : List ℕ)
    → frames_from at (payloads ++ payload ∷ []) ≡ frames_from at payloads
    ++ record { at = place_behind at payloads; payload = payload } ∷ []
frames_from-push at [] payload = refl
frames_from-push at (first ∷ payloads) payload =
    ap (λ (l : List Frame). record { at = at; payload = first } ∷ l)
    (frames_from-push (at + 5 + length first) payloads payload)

pub place_behind-push : (at : ℕ) (payloads : List (List ℕ)) (payload : List ℕ)
    → place_behind at (payloads ++ payload ∷ []) ≡ place_behind at payloads + 5 + length payload
place_behind-push at [] payload = refl
place_behind-push at (first ∷ payloads) payload = place_behind-push (at + 5 + length first) payloads payload

pub payloads_of-push : (frames : List Frame) (frame : Frame)
    → payloads_of (frames ++ frame ∷ []) ≡ payloads_of frames ++ frame.payload ∷ []
payloads_of-push [] frame = refl
payloads_of-push (first ∷ frames) frame = ap (λ (l : List (List ℕ)). first.payload ∷ l) (payloads_of-push frames frame)

-- one more frame has its place behind the others
pub places_more : (frames new : List Frame) (at : ℕ) (payload : List ℕ)
    → new ≡ frames ++ record { at = at; payload = payload } ∷ []
    → frames ≡ frames_from 6 (payloads_of frames) → at ≡ place_behind 6 (payloads_of frames)
    → new ≡ frames_from 6 (payloads_of new)
places_more frames new at payload is places place =
    let last : Frame = record { at = at; payload = payload } in
    let old = payloads_of frames in
    rw is (
    ap (λ (l : List Frame). l ++ last ∷ []) places
    ∙ ap (λ (n : ℕ). frames_from 6 old ++ record { at = n; payload = payload } ∷ []) place
    ∙ sym (ap (frames_from 6) (payloads_of-push frames last) ∙ frames_from-push 6 old payload)
    )

-- the file begins with frames of these payloads, and they end here
pub record IsRead (file : List ℕ) (payloads : List (List ℕ)) (at : ℕ) : Type 0 where
  pub front : take at file ≡ opened payloads
  pub place : at ≡ length (opened payloads)
  pub short : All IsShort payloads

begins : (file : List ℕ) → take 6 file ≡ header → IsRead file [] 6
begins file is = record { front = is; place = refl; short = All-nil IsShort }

goes_on : (file : List ℕ) (payloads : List (List ℕ)) (at : ℕ) (payload : List ℕ) → IsRead file payloads at
    → FrameAt file at payload
    → IsRead file (payloads ++ payload ∷ []) (at + 5 + length payload)
goes_on file payloads at payload read here =
    let size : length (frame payload) ≡ 5 + length payload =
    omega (arith, length-append (to_be_bytes w32 (length payload)) payload) in
    let more : take (5 + length payload) (drop at file) ≡ frame payload =
    ap (take (5 + length payload)) here.here ∙ take_at (frame payload) here.rest (5 + length payload) size in
    let ends : at + 5 + length payload ≡ at + (5 + length payload) = omega arith in
    record {
      front =
          ap (λ (n : ℕ). take n file) ends
          ∙ take-add at (5 + length payload) file
          ∙ ap (λ (l : List ℕ). l ++ take (5 + length payload) (drop at file)) read.front
          ∙ ap (λ (l : List ℕ). opened payloads ++ l) more
          ∙ sym (opened-push payloads payload);
      place =
          omega (
            arith,
            size,
            read.place,
            ap length (opened-push payloads payload),
            length-append (opened payloads) (frame payload),
          );
      short = All-append IsShort payloads (payload ∷ []) read.short (All-replicate IsShort 1 payload here.short);
    }

whole_file : (file : List ℕ) (payloads : List (List ℕ)) (at : ℕ) (rest : List ℕ) → IsRead file payloads at
    → drop at file ≡ rest → file ≡ opened payloads ++ rest
whole_file file payloads at rest read is =
    sym (take-append-drop at file) ∙ ap (λ (l : List ℕ). l ++ drop at file) read.front
    ∙ ap (λ (l : List ℕ). opened payloads ++ l) is

stands_here : (file : List ℕ) (payloads : List (List ℕ)) (at : ℕ) → IsRead file payloads at → EndsAt file at
    → Stands file payloads at
stands_here file payloads at read ends = record {
  closed = ends.closed;
  rest = ends.rest;
  shut = ends.shut;
  place = read.place;
  whole = whole_file file payloads at (ends.closed ∷ ends.rest) read ends.here;
  short = read.short;
}

refused_here : (file : List ℕ) (payloads : List (List ℕ)) (at : ℕ) (fault : MountFault) → IsRead file payloads at
    → Refuses file at fault → RefusesFile file fault
refused_here file payloads at BadHeader read refuses = refuses
refused_here file payloads at (BadFrame place rule) read refuses = record {
  payloads = payloads;
  behind = refuses.1.behind;
  short = read.short;
  place = refuses.0 ∙ read.place;
  whole = whole_file file payloads at (1 ∷ refuses.1.behind) read refuses.1.here;
  breaks = refuses.1.breaks;
}
refused_here file payloads at DiskFault read refuses = tt
refused_here file payloads at NoMemory read refuses = tt

-- the same where the file is told
abbrev pub IsReadTold : Option (List ℕ) → ℕ → List (List ℕ) → ℕ → Type 0
IsReadTold told end payloads at = IfSome told
    (λ file. length file ≡ end → take 6 file ≡ header → IsRead file payloads at)

pub told_begins : (told : Option (List ℕ)) (end : ℕ) → IsReadTold told end [] 6
told_begins None end = tt
told_begins (Some file) end = λ long is. begins file is

pub told_goes_on : (told now : Option (List ℕ)) (end at next : ℕ) (payloads more : List (List ℕ)) (payload : List ℕ)
    (found : Option (List ℕ))
    → now ≡ told → found ≡ Some payload → next ≡ at + 5 + length payload → more ≡ payloads ++ payload ∷ []
    → IsReadTold told end payloads at → IfSome now (λ file. length file ≡ end → ReadsFrame file at (Ok found))
    → IsReadTold told end more next
told_goes_on None now end at next payloads more payload found same is place pushed read here = tt
told_goes_on (Some file) now end at next payloads more payload found same is place pushed read here =
    λ long begun. rw (pushed, place) (
    goes_on file payloads at payload (read long begun)
    (subst (λ (o : Option (List ℕ)). ReadsFrame file at (Ok o)) is
    (subst (λ (o : Option (List ℕ)). IfSome o (λ file. length file ≡ end → ReadsFrame file at (Ok found)))
    same here long)))

pub told_stands : (told now : Option (List ℕ)) (end at : ℕ) (payloads : List (List ℕ)) (found : Option (List ℕ))
    → now ≡ told → found ≡ None
    → IsReadTold told end payloads at → IfSome now (λ file. length file ≡ end → ReadsFrame file at (Ok found))
    → IfSome told (λ file. length file ≡ end → take 6 file ≡ header → Stands file payloads at)
told_stands None now end at payloads found same is read here = tt
told_stands (Some file) now end at payloads found same is read here = λ long begun.
    stands_here file payloads at (read long begun)
    (subst (λ (o : Option (List ℕ)). ReadsFrame file at (Ok o)) is
    (subst (λ (o : Option (List ℕ)). IfSome o (λ file. length file ≡ end → ReadsFrame file at (Ok found)))
    same here long))

pub told_refused : (told now : Option (List ℕ)) (end at : ℕ) (payloads : List (List ℕ)) (fault : MountFault)
    (result : Result Prepared MountFault) → now ≡ told
    → result ≡ Err fault → IsReadTold told end payloads at
    → IfSome now (λ file. length file ≡ end → Refuses file at fault)
    → IfSome told (λ file. length file ≡ end → take 6 file ≡ header → ReadsFrames file result)
told_refused None now end at payloads fault result same is read here = tt
told_refused (Some file) now end at payloads fault result same is read here = λ long begun.
    rw is (refused_here file payloads at fault (read long begun)
    (subst (λ (o : Option (List ℕ)). IfSome o (λ file. length file ≡ end → Refuses file at fault)) same here long))
