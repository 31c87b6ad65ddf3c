-- A buffer that is filled from a file, piece by piece.
use Rattle.std.proofs.Common.{◌≡◌, ℕ, ◌+◌, ◌-◌, ◌≤◌, List, ◌++◌, length, take, drop, Option, Some, None, IfSome, true, sym, ◌∙◌, ap, arith, take-add, take_all, length-take, length-append, refl}
use Rattle.std.proofs.lemmas.List.{drop-drop, take-append-le, take_at, drop_at}
use Rattle.fh_disk.specs.Disk.{Fills, ReadsAt}

-- so many bytes at the front of the buffer are those of the file from this place on
pub record IsFilling (file : List ℕ) (at filled : ℕ) (buf : List ℕ) : Type 0 where
  pub front : take filled buf ≡ take filled (drop at file)
  pub within : filled ≤ length file - at

pub starts : (told : Option (List ℕ)) (at : ℕ) (buf : List ℕ) → IfSome told (λ file. IsFilling file at 0 buf)
starts None at buf = tt
starts (Some file) at buf = record { front = refl; within = omega arith }

-- a piece that is put behind them
taken : (front piece rest : List ℕ) (filled n : ℕ) → length front ≡ filled → n ≤ length piece
    → take (filled + n) (front ++ (piece ++ rest)) ≡ front ++ take n piece
taken front piece rest filled n long short =
    take-add filled n (front ++ (piece ++ rest))
    ∙ ap (λ (l : List ℕ). l ++ take n (drop filled (front ++ (piece ++ rest))))
    (take_at front (piece ++ rest) filled long)
    ∙ ap (λ (l : List ℕ). front ++ take n l) (drop_at front (piece ++ rest) filled long)
    ∙ ap (λ (l : List ℕ). front ++ l) (take-append-le n piece rest short)

more : (file : List ℕ) (at filled n : ℕ) (buf piece rest : List ℕ) → filled ≤ length buf → n ≤ length piece
    → IsFilling file at filled buf → ReadsAt file (at + filled) piece n
    → IsFilling file at (filled + n) (take filled buf ++ (piece ++ rest))
more file at filled n buf piece rest short some so_far reads =
    let long : length (take filled buf) ≡ filled = omega (arith, length-take filled buf) in
    record {
      front =
          taken (take filled buf) piece rest filled n long some
          ∙ ap (λ (l : List ℕ). l ++ take n piece) so_far.front
          ∙ ap (λ (l : List ℕ). take filled (drop at file) ++ l)
          (reads.bytes ∙ ap (take n) (sym (drop-drop filled at file)))
          ∙ sym (take-add filled n (drop at file));
      within = omega (arith, reads.within, so_far.within);
    }

-- a read behind them brings more
pub goes_on : (told read : Option (List ℕ)) (at filled n : ℕ) (buf piece rest : List ℕ) → read ≡ told
    → filled ≤ length buf → n ≤ length piece
    → IfSome told (λ file. IsFilling file at filled buf) → IfSome read (λ file. ReadsAt file (at + filled) piece n)
    → IfSome told (λ file. IsFilling file at (filled + n) (take filled buf ++ (piece ++ rest)))
goes_on None read at filled n buf piece rest same short some so_far reads = tt
goes_on (Some file) read at filled n buf piece rest same short some so_far reads =
    more file at filled n buf piece rest short some so_far (rw same at reads)

pub ends : (told : Option (List ℕ)) (at filled : ℕ) (buf : List ℕ) → filled ≤ length buf → length buf ≤ filled
    → IfSome told (λ file. IsFilling file at filled buf) → IfSome told (λ file. Fills file at buf true)
ends None at filled buf short long filling = tt
ends (Some file) at filled buf short long filling =
    let same : filled ≡ length buf = omega arith in
    let front : buf ≡ take filled (drop at file) = sym (take_all filled buf long) ∙ filling.front in
    (front ∙ ap (λ (n : ℕ). take n (drop at file)) same, omega (arith, filling.within))

pub fits : (filled n : ℕ) (buf piece rest : List ℕ) → filled ≤ length buf → n ≤ length piece
    → filled + n ≤ length (take filled buf ++ (piece ++ rest))
fits filled n buf piece rest short some =
    omega (arith, length-append (take filled buf) (piece ++ rest), length-append piece rest, length-take filled buf)
