-- What a read at a gate finds.
use Rattle.std.proofs.Common.{◌≡◌, inr, ℕ, zero, suc, ◌+◌, ◌-◌, ◌<◌, ◌≤◌, Bool, true, false, List, [], ◌∷◌, ◌++◌, length, take, drop, get_or, Option, Some, None, IfSome, Result, Ok, Err, refl, sym, ◌∙◌, ap, subst, arith, take-append-drop, length-drop, length-append, append_assoc, w32}
use Rattle.std.specs.Int.{to_be_bytes, from_be_bytes}
use Rattle.std.proofs.lemmas.List.{drop-drop}
use Rattle.std.proofs.lemmas.Nat.{be_bytes_4, from_be_bytes-to_be_bytes_4}
use Rattle.fh_disk.specs.Disk.{Fills}
use Rattle.fh_journal.specs.Reading.{OpensAt, FrameAt, RuleBrokenAt, ReadsSize, ReadsFrame}
use Rattle.fh_journal.specs.Mounting.{length_field}
use Rattle.fh_journal.specs.declared.faults.MountFault.{MountFault}
use Rattle.fh_journal.specs.declared.faults.MountFault.TheVariants.{BadFrame}
use Rattle.fh_journal.specs.declared.faults.FrameRule.TheVariants.{Cut, Length}

-- a list of five numbers
five : (buf : List ℕ) → length buf ≡ 5 → buf
    ≡ get_or buf 0 0 ∷ get_or buf 1 0 ∷ get_or buf 2 0 ∷ get_or buf 3 0 ∷ get_or buf 4 0 ∷ []
five [] long = absurd (omega (arith, long))
five (a ∷ []) long = absurd (omega (arith, long))
five (a ∷ b ∷ []) long = absurd (omega (arith, long))
five (a ∷ b ∷ d ∷ []) long = absurd (omega (arith, long))
five (a ∷ b ∷ d ∷ e ∷ []) long = absurd (omega (arith, long))
five (a ∷ b ∷ d ∷ e ∷ f ∷ []) long = refl
five (a ∷ b ∷ d ∷ e ∷ f ∷ h ∷ rest) long = absurd (omega (arith, long))

-- the four bytes behind the first
abbrev pub field_of : List ℕ → List ℕ
field_of buf = get_or buf 1 0 ∷ get_or buf 2 0 ∷ get_or buf 3 0 ∷ get_or buf 4 0 ∷ []

field_fits : (buf : List ℕ) → ((i : ℕ) → get_or buf i 0 < 256) → (i : ℕ) → get_or (field_of buf) i 0 < 256
field_fits buf fit zero = fit 1
field_fits buf fit (suc zero) = fit 2
field_fits buf fit (suc (suc zero)) = fit 3
field_fits buf fit (suc (suc (suc zero))) = fit 4
field_fits buf fit (suc (suc (suc (suc i)))) = omega arith

-- a gate and a length are read
begun_at : (file : List ℕ) (at : ℕ) (buf : List ℕ) → Fills file at buf true → length buf ≡ 5 → get_or buf 0 0 ≡ 1
    → drop at file ≡ 1 ∷ (field_of buf ++ drop 5 (drop at file))
begun_at file at buf fills long first =
    let rest = drop 5 (drop at file) in
    let here : take 5 (drop at file) ≡ get_or buf 0 0 ∷ field_of buf =
    ap (λ (n : ℕ). take n (drop at file)) (sym long) ∙ sym fills.0 ∙ five buf long in
    sym (take-append-drop 5 (drop at file)) ∙ ap (λ (l : List ℕ). l ++ rest) here
    ∙ ap (λ (n : ℕ). n ∷ (field_of buf ++ rest)) first

opens_in : (file : List ℕ) (at : ℕ) (buf : List ℕ) (size : ℕ) → Fills file at buf true → length buf ≡ 5
    → ((i : ℕ) → get_or buf i 0 < 256)
    → get_or buf 0 0 ≡ 1 → size ≡ from_be_bytes w32 (field_of buf) → size ≤ 16777216 → OpensAt file at size
opens_in file at buf size fills long fit first given short = record {
  behind = field_of buf ++ drop 5 (drop at file);
  here = begun_at file at buf fills long first;
  given = sym (be_bytes_4 (field_of buf) size refl (field_fits buf fit) given);
  short = short;
}

pub opens_at : (told : Option (List ℕ)) (end at : ℕ) (buf : List ℕ) (full : Bool) (size : ℕ) → full ≡ true
    → IfSome told (λ file. Fills file at buf full) → length buf ≡ 5 → ((i : ℕ) → get_or buf i 0 < 256)
    → get_or buf 0 0 ≡ 1 → size ≡ from_be_bytes w32 (field_of buf) → size ≤ 16777216
    → IfSome told (λ file. length file ≡ end → OpensAt file at size)
opens_at None end at buf full size is fills long fit first given short = tt
opens_at (Some file) end at buf false size is fills long fit first given short = absurd (cc is)
opens_at (Some file) end at buf true size is fills long fit first given short =
    λ _. opens_in file at buf size fills long fit first given short

pub too_long_at : (told : Option (List ℕ)) (end at : ℕ) (buf : List ℕ) (full : Bool) (size : ℕ) → full ≡ true
    → IfSome told (λ file. Fills file at buf full) → length buf ≡ 5
    → get_or buf 0 0 ≡ 1 → size ≡ from_be_bytes w32 (field_of buf) → 16777216 < size
    → IfSome told (λ file. length file ≡ end → (at ≡ at) × RuleBrokenAt file at (Length size))
too_long_at None end at buf full size is fills long first given great = tt
too_long_at (Some file) end at buf false size is fills long first given great = absurd (cc is)
too_long_at (Some file) end at buf true size is fills long first given great = λ _. (
  refl,
  record {
    behind = field_of buf ++ drop 5 (drop at file);
    here = begun_at file at buf fills long first;
    breaks = (omega (arith, length-append (field_of buf) (drop 5 (drop at file))), given, great);
  },
)

-- the bytes behind a gate, of which the file has so many
length-behind : (file : List ℕ) (at gate : ℕ) (behind : List ℕ) → drop at file ≡ gate ∷ behind
    → length behind + 1 ≡ length file - at
length-behind file at gate behind here = omega (arith, ap length here, length-drop at file)

field_is : (file : List ℕ) (at size : ℕ) (opens : OpensAt file at size) → length_field opens.behind ≡ size
field_is file at size opens = ap (from_be_bytes w32) opens.given
    ∙ from_be_bytes-to_be_bytes_4 size (omega (arith, opens.short))

cut_in : (file : List ℕ) (at size : ℕ) → OpensAt file at size → length file - at - 5 ≤ size → RuleBrokenAt file at Cut
cut_in file at size opens short =
    let field : length_field opens.behind ≡ size = field_is file at size opens in
    record {
      behind = opens.behind;
      here = opens.here;
      breaks = inr (
        omega (arith, field, opens.short),
        omega
            (arith, field, short, length-behind file at 1 opens.behind opens.here),
      );
    }

-- the file ends in the payload, or before the gate that must follow
pub cut_at : (told : Option (List ℕ)) (end at size : ℕ) (found : Option ℕ)
    (result : Result (Option (List ℕ)) MountFault) → found ≡ Some size
    → IfSome told (λ file. length file ≡ end → ReadsSize file at (Ok found)) → end - at - 5 ≤ size
    → result ≡ Err (BadFrame at Cut)
    → IfSome told (λ file. length file ≡ end → ReadsFrame file at result)
cut_at None end at size found result is reads short refused = tt
cut_at (Some file) end at size found result is reads short refused = λ long. rw refused (
  refl,
  cut_in file at size (subst (λ (o : Option ℕ). ReadsSize file at (Ok o)) is (reads long)) (omega (arith, long, short)),
)

frame_in : (file : List ℕ) (at size : ℕ) (buf : List ℕ) → OpensAt file at size → Fills file (at + 5) buf true
    → length buf ≡ size → FrameAt file at buf
frame_in file at size buf opens fills long =
    let rest = drop size (drop (at + 5) file) in
    let behind : drop 4 opens.behind ≡ drop (at + 5) file = ap (drop 5) (sym opens.here) ∙ drop-drop 5 at file in
    let payload : drop (at + 5) file ≡ buf ++ rest =
    sym (take-append-drop size (drop (at + 5) file))
    ∙ ap (λ (l : List ℕ). l ++ rest) (ap (λ (n : ℕ). take n (drop (at + 5) file)) (sym long) ∙ sym fills.0) in
    let whole : opens.behind ≡ to_be_bytes w32 (length buf) ++ (buf ++ rest) =
    sym (take-append-drop 4 opens.behind)
    ∙ ap (λ (l : List ℕ). l ++ drop 4 opens.behind) (opens.given ∙ ap (to_be_bytes w32) (sym long))
    ∙ ap (λ (l : List ℕ). to_be_bytes w32 (length buf) ++ l) (behind ∙ payload) in
    record {
      rest = rest;
      here = opens.here ∙ ap (λ (l : List ℕ). 1 ∷ l)
          (whole ∙ sym (append_assoc (to_be_bytes w32 (length buf)) buf rest));
      short = omega (arith, long, opens.short);
    }

pub frame_at : (told : Option (List ℕ)) (end at size : ℕ) (found : Option ℕ) (full : Bool) (buf payload : List ℕ)
    → found ≡ Some size → full ≡ true
    → IfSome told (λ file. length file ≡ end → ReadsSize file at (Ok found))
    → IfSome told (λ file. Fills file (at + 5) buf full)
    → length buf ≡ size → payload ≡ buf → IfSome told (λ file. length file ≡ end → FrameAt file at payload)
frame_at None end at size found full buf payload is filled reads fills long same = tt
frame_at (Some file) end at size found full buf payload is filled reads fills long same = λ whole. rw same (
    frame_in file at size buf (subst (λ (o : Option ℕ). ReadsSize file at (Ok o)) is (reads whole))
    (subst (λ (b : Bool). Fills file (at + 5) buf b) filled fills) long
    )
