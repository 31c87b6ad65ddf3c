-- Writing over a file that zeros have made long enough is writing at the place.
use Rattle.std.proofs.Common.{◌≡◌, ◌⊎◌, inl, inr, ℕ, ◌+◌, ◌-◌, ◌<◌, ◌≤◌, List, [], ◌++◌, length, take, drop, replicate, refl, sym, ◌∙◌, ap, arith, length-append}
use Rattle.std.proofs.lemmas.Bool.{cases_lt}
use Rattle.std.proofs.lemmas.List.{append-nil, take_all, drop_all, length-replicate, take-append-le, take-replicate}
use Rattle.std.proofs.Math.Seq.{take-append-add}
use Rattle.fh_disk.specs.Disk.{written_at}

none : (n : ℕ) → n ≡ 0 → replicate {A = ℕ} n 0 ≡ []
none n zero_of = ap (λ (m : ℕ). replicate {A = ℕ} m 0) zero_of

take_in_zeros : (at m : ℕ) (file : List ℕ) → at - length file ≤ m → (length file < at) ⊎ (at ≤ length file)
    → take at (file ++ replicate m 0) ≡ take at file ++ replicate (at - length file) 0
take_in_zeros at m file room (inl past) =
    let more = at - length file in
    let split : at ≡ length file + more = omega arith in
    ap (λ (n : ℕ). take n (file ++ replicate m 0)) split
    ∙ take-append-add file (replicate m 0) more
    ∙ ap (λ (l : List ℕ). file ++ l) (take-replicate more m 0 room)
    ∙ ap (λ (l : List ℕ). l ++ replicate more 0) (sym (take_all at file (omega arith)))
take_in_zeros at m file room (inr within) =
    take-append-le at file (replicate m 0) within
    ∙ sym (append-nil (take at file))
    ∙ ap (λ (l : List ℕ). take at file ++ l) (sym (none (at - length file) (omega arith)))

drop_zeros : (end m : ℕ) (file : List ℕ) → m ≡ end - length file → (length file < end) ⊎ (end ≤ length file)
    → drop end (file ++ replicate m 0) ≡ drop end file
drop_zeros end m file room (inl past) =
    drop_all end (file ++ replicate m 0) (omega
    (arith, length-append file (replicate m 0), length-replicate {A = ℕ} m 0))
    ∙ sym (drop_all end file (omega arith))
drop_zeros end m file room (inr within) =
    ap (λ (l : List ℕ). drop end (file ++ l)) (none m (omega arith)) ∙ ap (drop end) (append-nil file)

pub written_over : (at : ℕ) (bytes file long : List ℕ) → long ≡ file ++ replicate (at + length bytes - length file) 0
    → take at long ++ bytes ++ drop (at + length bytes) long ≡ written_at at bytes file
written_over at bytes file long is =
    let end = at + length bytes in
    let front : take at long ≡ take at file ++ replicate (at - length file) 0 =
    ap (take at) is ∙ take_in_zeros at (end - length file) file (omega arith) (cases_lt (length file) at) in
    let back : drop end long ≡ drop end file =
    ap (drop end) is ∙ drop_zeros end (end - length file) file refl (cases_lt (length file) end) in
    ap (λ (l : List ℕ). l ++ bytes ++ drop end long) front
    ∙ ap (λ (l : List ℕ). take at file ++ replicate (at - length file) 0 ++ bytes ++ l) back
