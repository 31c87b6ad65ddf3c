-- What is asked of the work, with the names themselves.
use Rattle.std.specs.Prelude.{⊤, ℕ, List}
use Rattle.fh_event.specs.declared.outcome.Outcome.{Outcome}
use Rattle.fh_event.specs.declared.settings.FunctionSettings.{FunctionSettings}
use Rattle.fh_event.specs.Settings.{HasGoodMasks}
use Rattle.fh_timers.specs.declared.done.TimerRun.{TimerRun}
use Rattle.fh_dispatch.specs.declared.ask.WorkAsk.{WorkAsk}
use Rattle.fh_dispatch.specs.declared.ask.WorkAsk.TheVariants as asks

pub data Ask : Type 0 where
  Configure : List ℕ → FunctionSettings → Ask
  Ready : ℕ → TimerRun → Ask
  Session : Ask
  Fetch : List ℕ → Ask
  Begin : List ℕ → ℕ → ℕ → Ask
  Finish : ℕ → Outcome → Ask
  Renewals : Ask
  Nothing : Ask

-- the settings that the ask gives have good masks
abbrev pub GivesGoodMasks : Ask → Type 0
GivesGoodMasks (Configure function settings) = HasGoodMasks settings
GivesGoodMasks ask = ⊤

abbrev pub ask_of : WorkAsk → Ask
ask_of (asks.Configure function settings) = Configure function.now settings.now
ask_of (asks.Ready function run) = Ready function run
ask_of asks.Session = Session
ask_of (asks.Fetch function) = Fetch function.now
ask_of (asks.Begin function high low) = Begin function.now high low
ask_of (asks.Finish invocation outcome) = Finish invocation outcome.now
ask_of asks.Renewals = Renewals
ask_of asks.Nothing = Nothing
