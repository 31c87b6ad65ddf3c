-- Rows end slot by slot, in order of number.
use Rattle.std.proofs.Common.{◌≡◌, ℕ, zero, suc, ◌+◌, ◌<◌, ◌≤◌, Bool, true, false, List, [], ◌∷◌, length, map, refl, sym, ap, ◌∙◌, inl, inr, arith}
use Rattle.std.specs.Prelude.{set, get_or, nat_lt}
use Rattle.std.proofs.lemmas.Bool.{cases_eq}
use Rattle.std.proofs.lemmas.Bool.Decides.{nat_tests}
use Rattle.std.proofs.lemmas.List.{get_or-set_same, get_or-set_other, length-set, length-map, same_lists, get_or_default}
use Rattle.fh_queues.specs.declared.row.Message.{Message}
use Rattle.fh_queues.specs.declared.done.Ending.{Ending}
use Rattle.fh_queues.specs.declared.done.Ending.TheVariants.{Expired}
use Rattle.fh_queues.specs.declared.slot.Slot.{Slot}
use Rattle.fh_queues.specs.declared.slot.Slot.TheVariants.{Row, Ended}
use Rattle.fh_queues.specs.Index.{slot_at, ended_slot, Skips}

nothing : Slot
nothing = Ended Expired

module _ (test : Message → Bool) (ending : Ending) where
  stays : (slot : Slot) → ((row : Message) (place : ℕ) → slot ≡ Row row place → test row ≡ false) → ended_slot test ending slot ≡ slot
  stays (Row row place) fails = rw (fails row place refl) refl
  stays (Ended end) fails = refl

  at-ended : (i : ℕ) (slots : List Slot) → slot_at (map (ended_slot test ending) slots) i ≡ ended_slot test ending (slot_at slots i)
  at-ended i [] = refl
  at-ended zero (slot ∷ slots) = refl
  at-ended (suc i) (slot ∷ slots) = at-ended i slots

  -- the slots before that place have ended where they pass, and the others are as they were
  pub record Sweeps (from : ℕ) (was now : List Slot) : Type 0 where
    pub same : length now ≡ length was
    pub before : (i : ℕ) → i < from → slot_at now i ≡ ended_slot test ending (slot_at was i)
    pub after : (i : ℕ) → from ≤ i → slot_at now i ≡ slot_at was i

  pub sweeps-start : (slots : List Slot) → Sweeps 0 slots slots
  sweeps-start slots = record { same = refl; before = λ i low. absurd (omega arith); after = λ i high. refl }

  pub sweeps-skip : (from to : ℕ) (was now : List Slot) → Sweeps from was now → from ≤ to → Skips test now from to → Sweeps to was now
  sweeps-skip from to was now sweeps order skips = record { same = sweeps.same; before = before; after = λ i high. sweeps.after i (omega (arith, order, high)) }
    where
      before : (i : ℕ) → i < to → slot_at now i ≡ ended_slot test ending (slot_at was i)
      before i low = by_test (nat_lt i from) refl
        where
          by_test : (b : Bool) → nat_lt i from ≡ b → slot_at now i ≡ ended_slot test ending (slot_at was i)
          by_test true first = sweeps.before i (grind (arith, nat_tests))
          by_test false later =
              let above : from ≤ i = grind (arith, nat_tests) in
              sym (stays (slot_at now i) (λ row place is. skips i row place above low is)) ∙ ap (ended_slot test ending) (sweeps.after i above)

  pub sweeps-one : (at : ℕ) (was now : List Slot) → Sweeps at was now → at < length now → Sweeps (at + 1) was (set now at (ended_slot test ending (slot_at now at)))
  sweeps-one at was now sweeps within = record { same = length-set now at new ∙ sweeps.same; before = before; after = after }
    where
      new : Slot
      new = ended_slot test ending (slot_at now at)

      before : (i : ℕ) → i < at + 1 → slot_at (set now at new) i ≡ ended_slot test ending (slot_at was i)
      before i low = elim (cases_eq i at) [
        | inl same ↦
            ap (slot_at (set now at new)) same ∙ get_or-set_same now at new (Ended Expired) within
            ∙ ap (ended_slot test ending) (sweeps.after at (omega arith)) ∙ ap (λ k. ended_slot test ending (slot_at was k)) (sym same)
        | inr differ ↦ get_or-set_other now at i new (Ended Expired) differ ∙ sweeps.before i (omega (arith, low, differ))
      ]

      after : (i : ℕ) → at + 1 ≤ i → slot_at (set now at new) i ≡ slot_at was i
      after i high = get_or-set_other now at i new (Ended Expired) (λ same. absurd (omega (arith, high, same))) ∙ sweeps.after i (omega (arith, high))

  pub sweeps-end : (was now : List Slot) → Sweeps (length now) was now → now ≡ map (ended_slot test ending) was
  sweeps-end was now sweeps = same_lists now (map (ended_slot test ending) was) (sweeps.same ∙ sym (length-map was (ended_slot test ending))) each
    where
      each : (i : ℕ) (d : Slot) → i < length now → get_or now i d ≡ get_or (map (ended_slot test ending) was) i d
      each i d within =
          get_or_default now i d (Ended Expired) within ∙ sweeps.before i within ∙ sym (at-ended i was)
          ∙ get_or_default (map (ended_slot test ending) was) i (Ended Expired) d (omega (arith, within, sweeps.same, length-map was (ended_slot test ending)))
