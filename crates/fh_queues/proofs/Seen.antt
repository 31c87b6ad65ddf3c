-- Where a message is, as acts are done.
use Rattle.std.proofs.Common.{◌≡◌, ℕ, Bool, true, false, length, Option, Some, None, filter, refl, ◌∙◌, ap}
use Rattle.std.specs.Prelude.{◌==◌, if◌then◌else◌, is_some, not, option_map}
use Rattle.std.specs.List.{list_all, list_any}
use Rattle.fh_queues.specs.declared.row.Message.{Message}
use Rattle.fh_queues.specs.declared.done.Ending.{Ending}
use Rattle.fh_queues.specs.declared.act.NewMessage.{NewMessage}
use Rattle.fh_queues.specs.declared.act.RowChange.{RowChange}
use Rattle.fh_queues.specs.declared.act.Which.{Which}
use Rattle.fh_queues.specs.Rows.{row_of}
use Rattle.fh_queues.specs.Part.{QueuePart, end_of}
use Rattle.fh_queues.specs.Acts.{numbered, changed, is_one, with_row, with_row_change, with_ends}
use Rattle.fh_queues.specs.Seen.{Seen, Unborn, Stands, Ended, seen_by, seen}
use Rattle.fh_queues.specs.Order.{are_rising}
use Rattle.fh_queues.proofs.Finding.{keep_if, any-row_of, row_of-filter, row_of-with_change, row_of-push, list_all-filter}
use Rattle.fh_queues.proofs.Ends.{is_given, end_of-push, end_of-with_ends}

abbrev pub ended_by : Which → Ending → Seen → Seen
ended_by which ending Unborn = Unborn
ended_by which ending (Stands row) = if is_one which row then Ended ending else Stands row
ended_by which ending (Ended end) = Ended end

abbrev pub with_row_of : (Message → Message) → Seen → Seen
with_row_of change Unborn = Unborn
with_row_of change (Stands row) = Stands (change row)
with_row_of change (Ended end) = Ended end

module _ (n : ℕ) (part : QueuePart) where
  pub seen-with_ends : (last : ℕ) (which : Which) (ending : Ending) → are_rising 0 part.rows ≡ true → list_all (is_given last) part.rows ≡ true → length part.ends ≡ last → seen n (with_ends which ending part) ≡ ended_by which ending (seen n part)
  seen-with_ends last which ending rising given long =
      let out : Message → Bool = is_one which in
      let rows_is : row_of n (filter (λ r. not (out r)) part.rows) ≡ keep_if (λ r. not (out r)) (row_of n part.rows) = row_of-filter n 0 (λ r. not (out r)) part.rows rising in
      let gone : list_any (λ r. r.number == n) (filter out part.rows) ≡ is_some (keep_if out (row_of n part.rows)) = any-row_of n (filter out part.rows) ∙ ap is_some (row_of-filter n 0 out part.rows rising) in
      let ends_is = end_of-with_ends n last ending (filter out part.rows) part.ends long (list_all-filter (is_given last) out part.rows given) in
      ap (λ row. seen_by row (end_of n (with_ends which ending part).ends)) rows_is
      ∙ ap (seen_by (keep_if (λ r. not (out r)) (row_of n part.rows))) (ends_is ∙ ap (λ any. if any then Some ending else end_of n part.ends) gone)
      ∙ by_row (row_of n part.rows) (end_of n part.ends)
    where
      by_end : (end : Option Ending) → seen_by None end ≡ ended_by which ending (seen_by None end)
      by_end None = refl
      by_end (Some end) = refl

      by_test : (row : Message) (end : Option Ending) (out : Bool) → seen_by (if not out then Some row else None) (if is_some (if out then Some row else None) then Some ending else end) ≡ (if out then Ended ending else Stands row)
      by_test row end true = refl
      by_test row end false = refl

      by_row : (row : Option Message) (end : Option Ending) → seen_by (keep_if (λ r. not (is_one which r)) row) (if is_some (keep_if (is_one which) row) then Some ending else end) ≡ ended_by which ending (seen_by row end)
      by_row None end = by_end end
      by_row (Some row) end = by_test row end (is_one which row)

  pub seen-with_row_change : (number : ℕ) (change : RowChange) → seen n (with_row_change number change part) ≡ (if n == number then with_row_of (changed part.next_receipt change) (seen n part) else seen n part)
  seen-with_row_change number change =
      ap (λ row. seen_by row (end_of n part.ends)) (row_of-with_change n number (changed part.next_receipt change) (λ row. refl) part.rows)
      ∙ by_test (n == number) (row_of n part.rows) (end_of n part.ends)
    where
      by_row : (row : Option Message) (end : Option Ending) → seen_by (option_map (changed part.next_receipt change) row) end ≡ with_row_of (changed part.next_receipt change) (seen_by row end)
      by_row None None = refl
      by_row None (Some end) = refl
      by_row (Some row) end = refl

      by_test : (same : Bool) (row : Option Message) (end : Option Ending) → seen_by (if same then option_map (changed part.next_receipt change) row else row) end ≡ (if same then with_row_of (changed part.next_receipt change) (seen_by row end) else seen_by row end)
      by_test true row end = by_row row end
      by_test false row end = refl

  pub seen-with_row : (new : NewMessage) → row_of part.next_number part.rows ≡ None → seen n (with_row new part) ≡ (if n == part.next_number then Stands (numbered part.next_number part.next_receipt new) else seen n part)
  seen-with_row new none =
      ap (λ row. seen_by row (end_of n (with_row new part).ends)) (row_of-push n part.rows (numbered part.next_number part.next_receipt new) none)
      ∙ ap (seen_by (if n == part.next_number then Some (numbered part.next_number part.next_receipt new) else row_of n part.rows)) (end_of-push n part.ends)
      ∙ by_test (n == part.next_number)
    where
      by_test : (same : Bool) → seen_by (if same then Some (numbered part.next_number part.next_receipt new) else row_of n part.rows) (end_of n part.ends) ≡ (if same then Stands (numbered part.next_number part.next_receipt new) else seen n part)
      by_test true = refl
      by_test false = refl
