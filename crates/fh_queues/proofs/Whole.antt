-- Each act keeps the queues whole.
use Rattle.std.proofs.Common.{◌≡◌, ℕ, ◌+◌, ◌≤◌, Bool, true, false, List, [], ◌∷◌, length, Option, Some, None, filter, refl, sym, ◌∙◌, ap, arith, length-append}
use Rattle.std.specs.Prelude.{◌==◌, ◌&&◌, nat_le, nat_lt, if◌then◌else◌, is_some, not, option_map}
use Rattle.std.specs.List.{list_all}
use Rattle.std.proofs.lemmas.Bool.Decides.{nat_tests}
use Rattle.fh_queues.specs.declared.row.Message.{Message}
use Rattle.fh_queues.specs.declared.done.Ending.{Ending}
use Rattle.fh_queues.specs.declared.act.NewMessage.{NewMessage}
use Rattle.fh_queues.specs.declared.act.RowChange.{RowChange}
use Rattle.fh_queues.specs.declared.act.Which.{Which}
use Rattle.fh_queues.specs.declared.act.Act.{Act}
use Rattle.fh_queues.specs.declared.act.Act.TheVariants.{AddQueue, AddRow, ChangeRow, EndRows}
use Rattle.fh_queues.specs.Rows.{row_of}
use Rattle.fh_queues.specs.Part.{QueuePart, no_queues, end_of}
use Rattle.fh_queues.specs.Acts.{numbered, count_or, changed, is_one, with_queue, with_row, with_row_change, with_ends, acted, by_acts}
use Rattle.fh_queues.specs.Seen.{Unborn, seen_by, seen}
use Rattle.fh_queues.specs.Whole.{is_counted, IsWhole}
use Rattle.fh_queues.proofs.Finding.{keep_if, row_of-number, row_of-above, all_row_of, any-row_of, row_of-filter, row_of-with_change, row_of-push, list_all-filter, list_all-push, list_all-weaker, list_all-with_change, are_rising-filter, are_rising-push, are_rising-with_change, all_positive}
use Rattle.fh_queues.proofs.Naming.{in_order-with_name}
use Rattle.fh_queues.proofs.Ends.{is_given, end_of-push, end_of-past, length-with_ends, end_of-with_ends}

pub Whole-none : IsWhole no_queues
Whole-none = record { ordered = refl; numbers = refl; receipts = omega arith; rising = refl; below = refl; counted = refl; placed = λ n low high. absurd (omega (arith, low, high)) }

module _ (part : QueuePart) (h : IsWhole part) where
  pub all_given : list_all (is_given (length part.ends)) part.rows ≡ true
  all_given =
      all_both part.rows (all_positive 0 part.rows h.rising) h.below
    where
      all_both : (rows : List Message) → list_all (λ row. nat_lt 0 row.number) rows ≡ true → list_all (λ row. nat_lt row.number part.next_number) rows ≡ true → list_all (is_given (length part.ends)) rows ≡ true
      all_both [] low high = refl
      all_both (row ∷ rows) low high = grind (arith, nat_tests, h.numbers, all_both rows)

  -- a number that wasn't given has no row
  pub row_of-new : (n : ℕ) → part.next_number ≤ n → row_of n part.rows ≡ None
  row_of-new n new = by_found (row_of n part.rows) refl
    where
      by_found : (found : Option Message) → row_of n part.rows ≡ found → found ≡ None
      by_found None is = refl
      by_found (Some row) is =
          let low : nat_lt row.number part.next_number ≡ true = all_row_of (λ r. nat_lt r.number part.next_number) n part.rows row h.below is in
          let same = row_of-number n part.rows row is in
          absurd (grind (arith, nat_tests))

  pub seen-new : (n : ℕ) → part.next_number ≤ n → seen n part ≡ Unborn
  seen-new n new =
      ap (λ row. seen_by row (end_of n part.ends)) (row_of-new n new) ∙ ap (seen_by None) (end_of-past n part.ends (omega (arith, h.numbers, new)))

  pub seen-zero : seen 0 part ≡ Unborn
  seen-zero = ap (λ row. seen_by row None) (row_of-above 0 0 part.rows (omega arith) h.rising)

  pub Whole-with_queue : (queue : List ℕ) → IsWhole (with_queue queue part)
  Whole-with_queue queue = record { ordered = in_order-with_name queue part.queues h.ordered; numbers = h.numbers; receipts = h.receipts; rising = h.rising; below = h.below; counted = h.counted; placed = h.placed }

  pub Whole-with_row : (new : NewMessage) → IsWhole (with_row new part)
  Whole-with_row new =
      let row : Message = numbered part.next_number part.next_receipt new in
      let next = part.next_number in
      record {
        ordered = h.ordered;
        numbers = omega (arith, h.numbers, length-append part.ends (None ∷ []));
        receipts = omega arith;
        rising = are_rising-push 0 part.rows row (omega (arith, h.numbers)) h.below h.rising;
        below = list_all-push (λ r. nat_lt r.number (next + 1)) part.rows row (list_all-weaker (λ r. nat_lt r.number next) (λ r. nat_lt r.number (next + 1)) (λ r is. grind (arith, nat_tests)) part.rows h.below) (grind (arith, nat_tests));
        counted = list_all-push (is_counted (part.next_receipt + 1)) part.rows row (list_all-weaker (is_counted part.next_receipt) (is_counted (part.next_receipt + 1)) (λ r is. grind (arith, nat_tests)) part.rows h.counted) (grind (arith, nat_tests));
        placed = λ n low high. grind (arith, nat_tests, row_of-push n part.rows row (row_of-new next (omega arith)), end_of-push n part.ends, end_of-past n part.ends, h.numbers, h.placed n low);
      }

  pub Whole-with_row_change : (number : ℕ) (change : RowChange) → nat_le (count_or change.count 0) part.next_receipt ≡ true → IsWhole (with_row_change number change part)
  Whole-with_row_change number change fair =
      let next = part.next_receipt in
      let anew : Message → Message = changed next change in
      record {
        ordered = h.ordered;
        numbers = h.numbers;
        receipts = omega arith;
        rising = are_rising-with_change 0 number anew (λ row. refl) part.rows h.rising;
        below = list_all-with_change (λ r. nat_lt r.number part.next_number) number anew part.rows (λ row is. is) h.below;
        counted = list_all-with_change (is_counted (next + 1)) number anew part.rows (λ row is. counts change.count row fair is) (list_all-weaker (is_counted next) (is_counted (next + 1)) (λ r is. grind (arith, nat_tests)) part.rows h.counted);
        placed = λ n low high. ap is_some (row_of-with_change n number anew (λ row. refl) part.rows) ∙ same_some (n == number) anew (row_of n part.rows) ∙ h.placed n low high;
      }
    where
      counts : (count : Option ℕ) (row : Message) → nat_le (count_or count 0) part.next_receipt ≡ true → is_counted (part.next_receipt + 1) row ≡ true → (nat_le (count_or count row.count) part.next_receipt && nat_lt part.next_receipt (part.next_receipt + 1)) ≡ true
      counts None row fair is = grind (arith, nat_tests)
      counts (Some count) row fair is = grind (arith, nat_tests)

      same_some : (test : Bool) (anew : Message → Message) (row : Option Message) → is_some (if test then option_map anew row else row) ≡ is_some row
      same_some true anew None = refl
      same_some true anew (Some row) = refl
      same_some false anew row = refl

  pub Whole-with_ends : (which : Which) (ending : Ending) → IsWhole (with_ends which ending part)
  Whole-with_ends which ending =
      let out : Message → Bool = is_one which in
      let stays : Message → Bool = λ row. not (out row) in
      let gone = filter out part.rows in
      record {
        ordered = h.ordered;
        numbers = omega (arith, h.numbers, length-with_ends ending gone part.ends);
        receipts = h.receipts;
        rising = are_rising-filter 0 stays part.rows h.rising;
        below = list_all-filter (λ r. nat_lt r.number part.next_number) stays part.rows h.below;
        counted = list_all-filter (is_counted part.next_receipt) stays part.rows h.counted;
        placed = λ n low high.
            ap is_some (row_of-filter n 0 stays part.rows h.rising)
            ∙ by_row (row_of n part.rows) (end_of n part.ends) (h.placed n low high)
            ∙ ap (λ any. not (is_some (if any then Some ending else end_of n part.ends))) (sym (any-row_of n gone ∙ ap is_some (row_of-filter n 0 out part.rows h.rising)))
            ∙ ap (λ end. not (is_some end)) (sym (end_of-with_ends n (length part.ends) ending gone part.ends refl (list_all-filter (is_given (length part.ends)) out part.rows all_given)));
      }
    where
      by_test : (row : Message) (end : Option Ending) (out : Bool) → true ≡ not (is_some end) → is_some (if not out then Some row else None) ≡ not (is_some (if is_some (if out then Some row else None) then Some ending else end))
      by_test row end true placed = refl
      by_test row end false placed = placed

      by_row : (row : Option Message) (end : Option Ending) → is_some row ≡ not (is_some end) → is_some (keep_if (λ r. not (is_one which r)) row) ≡ not (is_some (if is_some (keep_if (is_one which) row) then Some ending else end))
      by_row None end placed = placed
      by_row (Some row) end placed = by_test row end (is_one which row) placed

-- an act gives no count above the receipts that were given
abbrev pub is_fair : ℕ → Act → Bool
is_fair next (ChangeRow number change) = nat_le (count_or change.count 0) next
is_fair next act = true

pub Whole-acted : (part : QueuePart) (act : Act) → IsWhole part → is_fair part.next_receipt act ≡ true → IsWhole (acted part act)
unfolding acted
Whole-acted part (AddQueue queue) h fair = Whole-with_queue part h queue
Whole-acted part (AddRow new) h fair = Whole-with_row part h new
Whole-acted part (ChangeRow number change) h fair = Whole-with_row_change part h number change fair
Whole-acted part (EndRows which ending) h fair = Whole-with_ends part h which ending

more : (part : QueuePart) (act : Act) → part.next_receipt ≤ (acted part act).next_receipt
unfolding acted
more part (AddQueue queue) = omega arith
more part (AddRow new) = omega arith
more part (ChangeRow number change) = omega arith
more part (EndRows which ending) = omega arith

fair_later : (part : QueuePart) (act next : Act) → is_fair part.next_receipt next ≡ true → is_fair (acted part act).next_receipt next ≡ true
fair_later part act (AddQueue queue) fair = refl
fair_later part act (AddRow new) fair = refl
fair_later part act (ChangeRow number change) fair = grind (arith, nat_tests, more part act)
fair_later part act (EndRows which ending) fair = refl

pub Whole-by_acts : (part : QueuePart) (acts : List Act) → IsWhole part → list_all (is_fair part.next_receipt) acts ≡ true → IsWhole (by_acts part acts)
Whole-by_acts part [] h fair = h
Whole-by_acts part (act ∷ acts) h fair =
    let here : is_fair part.next_receipt act ≡ true = grind (arith, nat_tests) in
    let rest : list_all (is_fair part.next_receipt) acts ≡ true = grind (arith, nat_tests) in
    Whole-by_acts (acted part act) acts (Whole-acted part act h here) (list_all-weaker (is_fair part.next_receipt) (is_fair (acted part act).next_receipt) (fair_later part act) acts rest)
