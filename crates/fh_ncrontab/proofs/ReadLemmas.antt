-- What a text reads as, once its fields are counted and judged.
use Rattle.std.proofs.Common.{◌≡◌, ◌≢◌, ℕ, List, length, Bool, true, false, ◌||◌, nat_eq, cond, Some, None, Ok, Err, sym, ap, ◌∙◌, arith, pos}
use Rattle.std.specs.Option.{is_some}
use Rattle.std.proofs.lemmas.Bool.Decides.{nat_tests}
use Rattle.fh_ncrontab.specs.declared.fault.CronFault.{CronFault}
use Rattle.fh_ncrontab.specs.declared.fault.CronFault.TheVariants.{FieldCount, NeverRuns}
use Rattle.fh_ncrontab.specs.declared.schedule.Schedule.{Schedule}
use Rattle.fh_ncrontab.specs.Schedule.{first_from}
use Rattle.fh_ncrontab.specs.Texts.{words, field_fault, sets_of, running, schedule_or, schedule_of}

abbrev pub is_count : ℕ → Bool
is_count n = nat_eq n 5 || nat_eq n 6

pub count_five : (n : ℕ) → n ≡ 5 → is_count n ≡ true
count_five n e = ap is_count e

pub count_six : (n : ℕ) → n ≡ 6 → is_count n ≡ true
count_six n e = ap is_count e

other_count : (n : ℕ) → n ≢ 5 → n ≢ 6 → is_count n ≡ false
other_count n five six = grind (arith, nat_tests)

pub by_count : (text : List ℕ) (n : ℕ) → n ≡ length (words text) → n ≢ 5 → n ≢ 6 → Err (FieldCount n) ≡ schedule_of text
unfolding schedule_of
by_count text n e five six =
    let other : is_count (length (words text)) ≡ false = ap is_count (sym e) ∙ other_count n five six in
    ap (λ k. Err (FieldCount k)) e
    ∙ sym (ap (λ b. schedule_or (cond b (field_fault text) (Some (FieldCount (length (words text))))) (sets_of text))
    other)

counted : (text : List ℕ) → is_count (length (words text)) ≡ true
    → schedule_of text ≡ schedule_or (field_fault text) (sets_of text)
unfolding schedule_of
counted text count = ap (λ b. schedule_or (cond b (field_fault text) (Some (FieldCount (length (words text)))))
    (sets_of text)) count

pub by_fault : (text : List ℕ) (e : CronFault) → is_count (length (words text)) ≡ true → field_fault text ≡ Some e
    → Err e ≡ schedule_of text
by_fault text e count fault = sym (counted text count ∙ ap (λ f. schedule_or f (sets_of text)) fault)

pub by_seconds : (text : List ℕ) (s : Schedule) (runs : Bool) → is_count (length (words text)) ≡ true
    → field_fault text ≡ None
    → s ≡ sets_of text → is_some (first_from s (pos 0)) ≡ runs → cond runs (Ok s) (Err NeverRuns) ≡ schedule_of text
by_seconds text s runs count faultless sets is =
    sym (counted text count ∙ ap (λ f. schedule_or f (sets_of text)) faultless ∙ ap running (sym sets)
    ∙ ap (λ b. cond b (Ok s) (Err NeverRuns)) is)
