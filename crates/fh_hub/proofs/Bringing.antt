-- Each event of a trace keeps to the bounds of functions' jobs.
use Rattle.std.proofs.Common.{◌≡◌, ℕ, false, List, Option, Some, None, refl, ap}
use Rattle.std.specs.Prelude.{◌==◌}
use Rattle.std.specs.List.{All}
use Rattle.std.proofs.lemmas.List.Elements.{All-nil, All-push}
use Rattle.fh_event.specs.declared.command.Command.{Command}
use Rattle.fh_event.specs.declared.command.Command.TheVariants.{Fetch, Arm, Tick}
use Rattle.fh_event.specs.declared.reply.Reply.{Reply}
use Rattle.fh_timers.specs.declared.done.TimerRun.{TimerRun}
use Rattle.fh_timers.specs.Outcome as timers
use Rattle.fh_dispatch.specs.declared.timer.Timer.{Timer}
use Rattle.fh_dispatch.specs.Asks as work
use Rattle.fh_dispatch.specs.Laws as work_specs
use Rattle.fh_dispatch.specs.Part.{WorkPart}
use Rattle.fh_dispatch.specs.Timers.{timer_of}
use Rattle.fh_dispatch.proofs.Lawful as work_laws
use Rattle.fh_hub.specs.World.{World, effective_moment}
use Rattle.fh_hub.specs.Asked.{arming, ticking, asks_in}
use Rattle.fh_hub.specs.Stores.{Parts, others_of, function_asked, run_made, ready_by}
use Rattle.fh_hub.specs.Replay.{Entry, Event, trace}
use Rattle.fh_hub.specs.Bringing.{IsWithinBound, is_timer_of, brings, KeepsToBounds}
use Rattle.fh_hub.proofs.Steps.{Made, asks_at, no_run, IsKept, event, kept_by_all}

one_ready : (part : WorkPart) (f function : ℕ) (run : Option TimerRun) → (function == f) ≡ false
    → work_specs.brings_jobs part f (ready_by function run) ≡ false
one_ready part f function None apart = refl
one_ready part f function (Some run) apart = apart

-- what the command brings is what it asks of the work
asks_bring : (parts : Parts) (command : Command) (m f : ℕ) → brings f parts.work command ≡ false
    → work_specs.brings_jobs parts.work f (asks_in parts command m).work ≡ false
asks_bring parts (Fetch function) m f apart = apart
asks_bring parts (Arm function) m f apart = by_timer (timer_of function parts.work.functions) apart
  where
    by_timer : (found : Option Timer) → is_timer_of f found ≡ false
        → work_specs.brings_jobs parts.work f (ready_by (function_asked (arming parts.work found))
        (run_made (timers.outcome parts.timers (arming parts.work found) m))) ≡ false
    by_timer None apart = ap (λ run. work_specs.brings_jobs parts.work f (ready_by 0 run)) (no_run parts.timers m)
    by_timer (Some timer) apart = one_ready parts.work f timer.function _ apart
asks_bring parts (Tick function) m f apart = by_timer (timer_of function parts.work.functions) apart
  where
    by_timer : (found : Option Timer) → is_timer_of f found ≡ false
        → work_specs.brings_jobs parts.work f (ready_by (function_asked (ticking parts.work found))
        (run_made (timers.outcome parts.timers (ticking parts.work found) m))) ≡ false
    by_timer None apart = ap (λ run. work_specs.brings_jobs parts.work f (ready_by 0 run)) (no_run parts.timers m)
    by_timer (Some timer) apart = one_ready parts.work f timer.function _ apart
asks_bring parts command m f apart = refl

-- what is bounded of the ask of a fetch is bounded of its event
within : (w : World) (command : Command) (now : ℕ) (new : World) (reply : Reply) (made : Made w command now new reply)
    → work_specs.IsWhole w.parts.work
    → IsWithinBound (event w command now reply new) command
within w (Fetch function) now new reply made whole =
    work_laws.keeps_to_the_bound w.parts.work (others_of w.parts) (work.Fetch function) (effective_moment w now)
    new.parts.work made.done.work whole made.work
within w command now new reply made whole = tt

record Bounded (events : List Event) (w : World) : Type 0 where
  whole : work_specs.IsWhole w.parts.work
  all : All KeepsToBounds events

bounded_kept : IsKept Bounded
bounded_kept events w command now new reply h made =
    let m = effective_moment w now in
    let given = (asks_at w command now).work in
    record {
      whole = work_laws.Whole-outcome w.parts.work (others_of w.parts)
          given m new.parts.work made.done.work h.whole made.work;
      all = All-push KeepsToBounds events (event w command now reply new) h.all (record {
        fetch = within w command now new reply made h.whole;
        others = λ f apart.
            work_laws.brings_no_others w.parts.work (others_of w.parts)
            given m new.parts.work made.done.work h.whole made.work f
            (asks_bring w.parts command m f apart);
      });
    }

pub all_bounded : (history : List Entry) → All KeepsToBounds (trace history)
all_bounded history =
    (kept_by_all Bounded bounded_kept (record { whole = work_laws.Whole-none; all = All-nil KeepsToBounds })
    history).all
