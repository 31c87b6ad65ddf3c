-- The acts of which each change of the work is made.
use Rattle.std.specs.Prelude.{ℕ, ◌+◌, ◌==◌, if◌then◌else◌, List, [], fold}
use Rattle.fh_rows.specs.Rows.{with_row_at}
use Rattle.fh_dispatch.specs.declared.function.Function.{Function}
use Rattle.fh_dispatch.specs.declared.act.Act.{Act}
use Rattle.fh_dispatch.specs.declared.act.Act.TheVariants.{Set, AddJob, TakeFirst, AddRunning, EndRunning, RenewRunning, DropJobs, BeginSession}
use Rattle.fh_dispatch.specs.declared.running.NewRun.{NewRun}
use Rattle.fh_dispatch.specs.declared.running.Running.{Running}
use Rattle.fh_dispatch.specs.Invocations.{with_run, with_renewal, without_run, without_runs_of}
use Rattle.fh_dispatch.specs.Ready.{with_job, without_first, without_jobs_of}
use Rattle.fh_dispatch.specs.Part.{WorkPart, by_name}

-- the next number, after this one was given
abbrev pub next_after : ℕ → ℕ → ℕ
next_after next number = if number == next then next + 1 else next

-- the function of this name is this one; where its number is the next one, that is given now
abbrev pub with_function : Function → WorkPart → WorkPart
with_function function part = record part {
  functions = with_row_at (by_name function.name) function part.functions;
  next_function = next_after part.next_function function.number;
}

abbrev pub numbered : ℕ → NewRun → Running
numbered invocation new = record {
  invocation = invocation;
  function = new.function;
  name = new.name;
  job = new.job;
  due = new.due;
}

-- another invocation runs, under the next number
abbrev pub with_invocation : NewRun → WorkPart → WorkPart
with_invocation new part = record part {
  running = with_run (numbered part.next_invocation new) part.running;
  next_invocation = part.next_invocation + 1;
}

-- the function has no ready job, and none that runs
abbrev pub without_work_of : ℕ → WorkPart → WorkPart
without_work_of function part = record part {
  ready = without_jobs_of function part.ready;
  running = without_runs_of function part.running;
}

unfoldable pub acted : WorkPart → Act → WorkPart
acted part (Set function) = with_function function part
acted part (AddJob job) = record part { ready = with_job job part.ready }
acted part (TakeFirst function) = record part { ready = without_first function part.ready }
acted part (AddRunning new) = with_invocation new part
acted part (EndRunning invocation) = record part { running = without_run invocation part.running }
acted part (RenewRunning invocation receipt due) =
    record part { running = with_renewal invocation receipt due part.running }
acted part (DropJobs function) = without_work_of function part
acted part BeginSession = record part { ready = []; running = []; session = part.session + 1 }

abbrev pub by_acts : WorkPart → List Act → WorkPart
by_acts part acts = fold acted part acts
