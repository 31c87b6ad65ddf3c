-- A write is one of its own torn outcomes, and so is no write.
use Rattle.std.specs.Prelude.{◌≡◌, ℕ, ◌+◌, ◌-◌, ◌<◌, ◌≤◌, max, List, ◌++◌, length, take, drop, replicate, slice_get, Some, refl}
use Rattle.std.proofs.Common.{get_or, sym, ◌∙◌, ap, arith, length-append, length-take, length-drop}
use Rattle.std.proofs.lemmas.List.{length-replicate, get_or_append_left, get_or-append_right, get_or-take, get_or-drop}
use Rattle.std.proofs.lemmas.Option.{slice_get-get_or}
use Rattle.fh_disk.specs.Disk.{written_at, Torn}

pub torn_same : (at n : ℕ) (file : List ℕ) → Torn at n file file
torn_same at n file = record {
  before = λ i within below. refl;
  behind = λ i within past. refl;
  no_shorter =
      omega arith;
  no_longer = omega arith;
}

-- two lists that have one number at a place within both
pub same_place : (xs ys : List ℕ) (i : ℕ) → i < length xs → i < length ys → get_or xs i 0 ≡ get_or ys i 0
    → slice_get xs i ≡ slice_get ys i
same_place xs ys i in_xs in_ys same =
    slice_get-get_or xs i 0 in_xs ∙ ap (λ (x : ℕ). Some x) same ∙ sym (slice_get-get_or ys i 0 in_ys)

-- the part of the file in front of the bytes, and these
abbrev pub front_and_bytes : ℕ → List ℕ → List ℕ → List ℕ
front_and_bytes at bytes file = take at file ++ replicate (at - length file) 0 ++ bytes

length-front_and_bytes : (at : ℕ) (bytes file : List ℕ) → length (front_and_bytes at bytes file) ≡ at + length bytes
length-front_and_bytes at bytes file =
    let zeros = replicate {A = ℕ} (at - length file) 0 in
    omega (
      arith,
      length-append (take at file ++ zeros) bytes,
      length-append (take at file) zeros,
      length-take at file,
      length-replicate {A = ℕ} (at - length file) 0,
    )

pub length-written_at : (at : ℕ) (bytes file : List ℕ)
    → length (written_at at bytes file) ≡ max (length file) (at + length bytes)
length-written_at at bytes file =
    let end = at + length bytes in
    omega (
      arith,
      length-append (front_and_bytes at bytes file) (drop end file),
      length-front_and_bytes at bytes file,
      length-drop end file,
    )

pub written_before : (at : ℕ) (bytes file : List ℕ) (i : ℕ) → i < length file → i < at
    → get_or (written_at at bytes file) i 0 ≡ get_or file i 0
written_before at bytes file i within below =
    let zeros = replicate {A = ℕ} (at - length file) 0 in
    let end = at + length bytes in
    let short : i < length (take at file) = omega (arith, length-take at file) in
    let short_zeros : i < length (take at file ++ zeros) = omega (arith, short, length-append (take at file) zeros) in
    let short_bytes : i < length (front_and_bytes at bytes file) =
    omega (arith, length-front_and_bytes at bytes file) in
    get_or_append_left (front_and_bytes at bytes file) (drop end file) 0 i short_bytes
    ∙ get_or_append_left (take at file ++ zeros) bytes 0 i short_zeros
    ∙ get_or_append_left (take at file) zeros 0 i short
    ∙ get_or-take at file i 0 below

pub written_behind : (at : ℕ) (bytes file : List ℕ) (i : ℕ) → i < length file → at + length bytes ≤ i
    → get_or (written_at at bytes file) i 0 ≡ get_or file i 0
written_behind at bytes file i within past =
    let end = at + length bytes in
    get_or-append_right (front_and_bytes at bytes file) (drop end file) end i 0 (length-front_and_bytes at bytes file)
    past
    ∙ get_or-drop end file (i - end) 0
    ∙ ap (λ (j : ℕ). get_or file j 0) (omega arith)

pub torn_written : (at : ℕ) (bytes file : List ℕ) → Torn at (length bytes) file (written_at at bytes file)
torn_written at bytes file =
    let long = length-written_at at bytes file in
    record {
      before = λ i within below. same_place _ _ i (omega (arith, long)) within
          (written_before at bytes file i within below);
      behind = λ i within past. same_place _ _ i (omega (arith, long)) within
          (written_behind at bytes file i within past);
      no_shorter = omega (arith, long);
      no_longer = omega (arith, long);
    }
