use Rattle.std.proofs.Common.{◌≡◌, ◌++◌, length}
use Rattle.std.specs.Vec.Iter.{into_iter_items, into_iter_len}
use Rattle.fh_journal.specs.Frames.{payloads_of as payloads_in, frames_from}
use Rattle.fh_journal.specs.Journal.{opened}
use Rattle.fh_hub.specs.Replay.{payloads_of}
use Rattle.fh_hub.specs.State.{IsIdle, IsFaithful}
use Rattle.fh_hub.proofs.state.State.replay.Given as goal

abbrev pub invariant-loop-frame : goal.invariant-loop-frame
invariant-loop-frame l = record {
  whole : payloads_of l.self.history ++ payloads_in (into_iter_items l.frame-iterator) ≡ payloads_in l.fn.frames.items;
  follow : into_iter_items l.frame-iterator ≡ frames_from (length (opened (payloads_of l.self.history)))
      (payloads_in (into_iter_items l.frame-iterator));
  len : into_iter_len l.frame-iterator ≡ length (into_iter_items l.frame-iterator);
  idle : IsIdle l.self;
  faithful : IsFaithful l.self;
}
