-- Numbers and receipts are given in turn, each once.
use Rattle.std.proofs.Common.{◌≡◌, ℕ, ◌≤◌, List, arith}
use Rattle.std.proofs.lemmas.Bool.Decides.{nat_tests}
use Rattle.fh_hub.specs.Replay.{Entry, trace, replay}
use Rattle.fh_hub.specs.Laws.{births, receipts, IsGivenInTurn}
use Rattle.fh_hub.proofs.Told.{once_below, told}

at_most_one : (k next times : ℕ) → times ≡ once_below next k → times ≤ 1
at_most_one k next times is = grind (arith, nat_tests)

in_turn : (k next times : ℕ) → times ≡ once_below next k → IsGivenInTurn k next times
in_turn k next times is = (
  λ once. (grind (arith, nat_tests), grind (arith, nat_tests)),
  λ within. grind (arith, nat_tests),
)

pub numbers_once : (history : List Entry) (n : ℕ) → births n (trace history) ≤ 1
numbers_once history n = at_most_one n (replay history).parts.queues.next_number _ ((told history).births n)

pub numbers_in_turn : (history : List Entry) (n : ℕ)
    → IsGivenInTurn n (replay history).parts.queues.next_number (births n (trace history))
numbers_in_turn history n = in_turn n (replay history).parts.queues.next_number _ ((told history).births n)

pub receipts_once : (history : List Entry) (k : ℕ) → receipts k (trace history) ≤ 1
receipts_once history k = at_most_one k (replay history).parts.queues.next_receipt _ ((told history).receipts k)

pub receipts_in_turn : (history : List Entry) (k : ℕ)
    → IsGivenInTurn k (replay history).parts.queues.next_receipt (receipts k (trace history))
receipts_in_turn history k = in_turn k (replay history).parts.queues.next_receipt _ ((told history).receipts k)
