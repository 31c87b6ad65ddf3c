-- A run between two lines, and one whose lines have ended.
use Rattle.std.specs.Prelude.{◌≡◌, ℕ, List, ◌++◌, length, IfSome}
use Rattle.fh_base.specs.declared.ends.PlainEnd.{PlainEnd}
use Rattle.fh_base.specs.declared.source.Source.{Ghosts as SourceGhosts}
use Rattle.fh_base.specs.declared.sink.Sink.{Ghosts as SinkGhosts}
use Rattle.fh_disk.specs.declared.disk.Disk.{Ghosts}
use Rattle.fh_disk.specs.Disk.{StaysTold}
use Rattle.fh_hub.specs.Hub.{StandsForHistory}
use Rattle.fh_hub.specs.Replay.{Entry}
use Rattle.fh_hub.specs.State.{world_of}
use Rattle.fh_hub.specs.World.{World}
use Rattle.fh_script.specs.declared.answerer.Answerer.{Answerer}
use Rattle.fh_script.specs.Lines.{line_feeds}
use Rattle.fh_script.specs.Machine.{run}
use Rattle.fh_script.specs.Outside.{Imaging, Outside, crash_of, outside_of}
use Rattle.fh_script.specs.Script.{Answered, HasPlainReason, StandsForPart, joined}

-- What the answered lines of a run come to: this world, this moment and this history, for which the journal stands,
-- also after a crash.
pub record Running (was now : Outside) (leaves : Imaging) (world : World) (moment : ℕ)
    (history : List Entry) : Type 0 where
  pub lines : Answered was now.left now.written
  pub entries : List Entry
  pub texts : List ℕ
  pub comes : run lines.opening lines.done ≡ record { world = world; now = moment; entries = entries; written = texts }
  pub longer : history ≡ lines.opening ++ entries
  pub stands : IfSome now.told (StandsForHistory history)
  pub images : leaves (StandsForPart lines.opening entries)

-- what the objects of a run tell
abbrev pub outside_in : {A B D : Type 0} {J : Ghosts D} → SourceGhosts A → SinkGhosts B → A → B → Answerer D J → Outside
outside_in {A} {B} {D} {J} S O source sink answerer = outside_of S O J source sink answerer.hub.journal.disk.now

-- Between two lines of a run that began with this disk, the hub is where the answered lines lead.
pub record RunsOn {A B D : Type 0} {J : Ghosts D} (S : SourceGhosts A) (O : SinkGhosts B) (was : Outside) (first : D)
    (source : A) (sink : B) (answerer : Answerer D J) : Type 0 where
  pub run :
      Running was (outside_in S O source sink answerer) (crash_of J first answerer.hub.journal.disk.now)
      (world_of answerer.hub.state) answerer.now answerer.hub.state.history
  pub feeds : line_feeds (joined run.lines.done) ≡ length run.lines.done
  pub told : StaysTold (J.told first) (J.told answerer.hub.journal.disk.now)

-- the lines of such a run have ended
abbrev pub EndsWith : {A B D : Type 0} {J : Ghosts D} → SourceGhosts A → SinkGhosts B → Outside → D → A → B
    → Answerer D J → PlainEnd → Type 0
EndsWith {A} {B} {D} {J} S O was first source sink answerer end =
    HasPlainReason was (outside_in S O source sink answerer) (crash_of J first answerer.hub.journal.disk.now) end
