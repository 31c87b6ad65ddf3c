-- What a take lists are visible messages of its queue.
use Rattle.std.proofs.Common.{◌≡◌, ℕ, zero, suc, ◌+◌, ◌≤◌, Bool, true, false, List, [], ◌∷◌, take, Option, Some, None, refl, sym, ◌∙◌, ap, subst, arith}
use Rattle.std.specs.Prelude.{◌==◌, if◌then◌else◌}
use Rattle.std.proofs.lemmas.Bool.Decides.{nat_tests}
use Rattle.fh_event.specs.declared.reply.Item.{Item}
use Rattle.fh_queues.specs.declared.row.Message.{Message}
use Rattle.fh_queues.specs.Rows.{is_visible, visible, row_of}
use Rattle.fh_queues.specs.Order.{are_rising}
use Rattle.fh_queues.specs.Part.{QueuePart}
use Rattle.fh_queues.specs.Outcome.{taken_items}
use Rattle.fh_queues.specs.Receipts.{item_of}
use Rattle.fh_queues.specs.Laws.{IsTakenFrom}
use Rattle.fh_queues.proofs.Finding.{all_row_of, all_pass, row_of-filter, keep_if}
use Rattle.fh_queues.proofs.Ways.{chosen, listed}

-- a message that is listed, with its row
record IsListed (rows : List Message) (n receipt : ℕ) (item : Item) : Type 0 where
  pub row : Message
  pub stands : row_of n rows ≡ Some row
  pub number : item.number ≡ n
  pub count : item.count ≡ row.count + 1
  pub text : item.text ≡ row.text
  pub newer : receipt ≤ item.receipt

listed_with : (n receipt : ℕ) (rows : List Message) (item : Item) → item_of n (taken_items receipt rows) ≡ Some item → IsListed rows n receipt item
listed_with n receipt [] item found = absurd (cc)
listed_with n receipt (r ∷ rows) item found = by_test (r.number == n) refl found (listed_with n (receipt + 1) rows item)
  where
    first : Item
    first = record { number = r.number; receipt = receipt; count = r.count + 1; text = r.text }

    by_test : (same : Bool) → (r.number == n) ≡ same → (if same then Some first else item_of n (taken_items (receipt + 1) rows)) ≡ Some item → (item_of n (taken_items (receipt + 1) rows) ≡ Some item → IsListed rows n (receipt + 1) item) → IsListed (r ∷ rows) n receipt item
    by_test true is found later =
        let its : first ≡ item = cc in
        let mine : r.number ≡ n = grind (arith, nat_tests) in
        record {
          row = r;
          stands = ap (λ same. if same then Some r else row_of n rows) is;
          number = ap (λ (i : Item). i.number) (sym its) ∙ mine;
          count = ap (λ (i : Item). i.count) (sym its);
          text = ap (λ (i : Item). i.text) (sym its);
          newer = omega (arith, ap (λ (i : Item). i.receipt) its);
        }
    by_test false is found later =
        let rest = later found in
        record { row = rest.row; stands = ap (λ same. if same then Some r else row_of n rows) is ∙ rest.stands; number = rest.number; count = rest.count; text = rest.text; newer = omega (arith, rest.newer) }

row_of-take : (n count : ℕ) (rows : List Message) (row : Message) → row_of n (take count rows) ≡ Some row → row_of n rows ≡ Some row
row_of-take n zero rows row found = absurd (cc)
row_of-take n (suc count) [] row found = absurd (cc)
row_of-take n (suc count) (r ∷ rows) row found = grind (arith, nat_tests, row_of-take n count rows row)

was_kept : (p : Message → Bool) (found : Option Message) (row : Message) → keep_if p found ≡ Some row → found ≡ Some row
was_kept p None row is = absurd (cc)
was_kept p (Some r) row is = by_test (p r) is
  where
    by_test : (passes : Bool) → (if passes then Some r else None) ≡ Some row → Some r ≡ Some row
    by_test true is = is
    by_test false is = absurd (cc)

-- an item was taken from a visible row, and has a new receipt
pub record IsTaken (part : QueuePart) (m : ℕ) (queue : List ℕ) (n : ℕ) (item : Item) : Type 0 where
  pub from : IsTakenFrom part m queue item
  pub number : item.number ≡ n
  pub newer : part.next_receipt ≤ item.receipt

pub taken : (part : QueuePart) (m : ℕ) (queue : List ℕ) (count n : ℕ) (item : Item) → are_rising 0 part.rows ≡ true → item_of n (listed part m queue count) ≡ Some item → IsTaken part m queue n item
taken part m queue count n item rising found =
    let is = listed_with n part.next_receipt (chosen part m queue count) item found in
    let seen : row_of n (visible queue m part.rows) ≡ Some is.row = row_of-take n count (visible queue m part.rows) is.row is.stands in
    let stands : row_of n part.rows ≡ Some is.row = was_kept (is_visible queue m) (row_of n part.rows) is.row (sym (row_of-filter n 0 (is_visible queue m) part.rows rising) ∙ seen) in
    record {
      from = record {
        row = is.row;
        stands = subst (λ (k : ℕ). row_of k part.rows ≡ Some is.row) (sym is.number) stands;
        visible = all_row_of (is_visible queue m) n (visible queue m part.rows) is.row (all_pass (is_visible queue m) part.rows) seen;
        count = is.count;
        text = is.text;
      };
      number = is.number;
      newer = is.newer;
    }

-- items of rows above a number don't have it
pub item_of-above : (n low receipt : ℕ) (rows : List Message) → n ≤ low → are_rising low rows ≡ true → item_of n (taken_items receipt rows) ≡ None
item_of-above n low receipt [] less rising = refl
item_of-above n low receipt (row ∷ rows) less rising = grind (arith, nat_tests, item_of-above n row.number (receipt + 1) rows)
