-- What each line comes to: its answer, its entries, and the world and the moment behind it.
use Rattle.std.specs.Prelude.{ℕ, nat_le, List, [], ◌∷◌, ◌++◌, codes, Option, Some, None, Result, Ok, Err, if◌then◌else◌, fold}
use Rattle.fh_base.specs.Moments.{greatest_moment}
use Rattle.fh_base.specs.declared.rule.Rule.{Rule}
use Rattle.fh_base.specs.declared.rule.Rule.TheVariants.{MomentTooLate}
use Rattle.fh_event.specs.declared.command.Command.{Command}
use Rattle.fh_event.specs.declared.reply.Reply.{Reply}
use Rattle.fh_event.specs.Lines.{reply_line, rule_line, spaced}
use Rattle.fh_hub.specs.World.{World, step}
use Rattle.fh_hub.specs.Hub.{answer}
use Rattle.fh_hub.specs.Replay.{Entry, noted, replay, world_after}
use Rattle.fh_script.specs.declared.faults.WordFault.{WordFault}
use Rattle.fh_script.specs.declared.faults.WordFault.TheVariants.{BadText, BadWord, BadCount, BadNumber, BadSchedule, NoMemory}
use Rattle.fh_script.specs.declared.grammar.LineAsk.{LineAsk}
use Rattle.fh_script.specs.declared.grammar.LineAsk.TheVariants.{Blank, At, Ask}
use Rattle.fh_script.specs.Grammar.{line_of}

-- the text of the answer, or none; the entries; the world; and the moment that later lines hand in
pub record Done : Type 0 where
  pub text : Option (List ℕ)
  pub entries : List Entry
  pub world : World
  pub now : ℕ

-- the answer alone
abbrev pub says : World → ℕ → List ℕ → Done
says w now text = record { text = Some text; entries = []; world = w; now = now }

-- want of memory ends the run, and has no answer
abbrev pub fault_text : WordFault → List ℕ
fault_text BadText = codes "bad text"
fault_text BadWord = codes "bad word"
fault_text BadCount = codes "bad count"
fault_text BadNumber = codes "bad number"
fault_text BadSchedule = codes "bad schedule"
fault_text NoMemory = []

abbrev pub text_of_answer : Result Reply Rule → List ℕ
text_of_answer (Ok reply) = reply_line reply
text_of_answer (Err rule) = rule_line rule

-- `at`, where the moment isn't too late
abbrev pub at_text : ℕ → List ℕ
at_text ms = if nat_le ms greatest_moment then codes "at" ++ spaced ms else rule_line MomentTooLate

abbrev pub moment_after : ℕ → ℕ → ℕ
moment_after now ms = if nat_le ms greatest_moment then ms else now

-- a command: one step of the machine
abbrev pub make_step : World → ℕ → Command → Done
make_step w now command = record {
  text = Some (text_of_answer (answer (step w command now)));
  entries = noted w command now;
  world = world_after w (step w command now);
  now = now;
}

-- what a line that was read comes to
abbrev pub answer_read : World → ℕ → Result LineAsk WordFault → Done
answer_read w now (Err fault) = says w now (fault_text fault)
answer_read w now (Ok Blank) = record { text = None; entries = []; world = w; now = now }
answer_read w now (Ok (At ms)) = record { text = Some (at_text ms); entries = []; world = w; now = moment_after now ms }
answer_read w now (Ok (Ask command)) = make_step w now command

unfoldable pub answer_line : World → ℕ → List ℕ → Done
answer_line w now line = answer_read w now (line_of line)

-- an answer is a line of its own; a line of no words has none
abbrev pub printed : Option (List ℕ) → List ℕ
printed None = []
printed (Some text) = text ++ 10 ∷ []

-- what lines in order come to
pub record State : Type 0 where
  pub world : World
  pub now : ℕ
  pub entries : List Entry
  pub written : List ℕ

abbrev pub opening_in : World → State
opening_in w = record { world = w; now = 0; entries = []; written = [] }

abbrev pub after_line : State → List ℕ → State
after_line s line =
    let done = answer_line s.world s.now line in
    record {
      world = done.world;
      now = done.now;
      entries = s.entries ++ done.entries;
      written = s.written ++ printed
          done.text;
    }

abbrev pub run_from : World → List (List ℕ) → State
run_from w lines = fold after_line (opening_in w) lines

-- the same in the world of a history
abbrev pub run : List Entry → List (List ℕ) → State
run opening lines = run_from (replay opening) lines
