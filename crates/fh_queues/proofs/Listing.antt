-- What a peek lists stands in order of number.
use Rattle.std.proofs.Common.{◌≡◌, ℕ, true, List, [], ◌∷◌, take, map, Option, Some, None, refl, sym, ◌∙◌, ap}
use Rattle.std.specs.Prelude.{◌&&◌, nat_lt, Ok}
use Rattle.fh_base.specs.declared.rule.Rule.{Rule}
use Rattle.fh_event.specs.declared.reply.Item.{Item}
use Rattle.fh_queues.specs.declared.row.Message.{Message}
use Rattle.fh_queues.specs.Rows.{is_visible, visible}
use Rattle.fh_queues.specs.Rules.{peek_rule}
use Rattle.fh_queues.specs.Order.{are_rising, are_listed}
use Rattle.fh_queues.specs.Outcome.{peeked_item, listed_unless, peeked}
use Rattle.fh_queues.specs.Part.{QueuePart}
use Rattle.fh_queues.specs.Whole.{IsWhole}
use Rattle.fh_queues.specs.Laws.{ListsInOrder}
use Rattle.fh_queues.proofs.Finding.{are_rising-filter, are_rising-take}

listed-rising : (low : ℕ) (rows : List Message) → are_listed low (map peeked_item rows) ≡ are_rising low rows
listed-rising low [] = refl
listed-rising low (row ∷ rows) = ap (λ b. nat_lt low row.number && b) (listed-rising row.number rows)

listed_items : (rule : Option Rule) (given items : List Item) → listed_unless rule given ≡ Ok items → given ≡ items
listed_items None given items is = cc
listed_items (Some rule) given items is = absurd (cc)

pub lists_in_order : (part : QueuePart) → IsWhole part → ListsInOrder part
unfolding peeked
lists_in_order part h queue count m items is =
    let rows = take count (visible queue m part.rows) in
    let rising : are_rising 0 rows ≡ true = are_rising-take 0 count (visible queue m part.rows) (are_rising-filter 0 (is_visible queue m) part.rows h.rising) in
    ap (are_listed 0) (sym (listed_items (peek_rule part queue count) (map peeked_item rows) items is)) ∙ listed-rising 0 rows ∙ rising
