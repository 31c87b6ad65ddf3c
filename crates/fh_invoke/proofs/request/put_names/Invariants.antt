use Rattle.std.proofs.Common.{◌≡◌, drop}
use Rattle.serde_json.specs.View.{members_view}
use Rattle.fh_invoke.specs.Requests.{with_names}
use Rattle.fh_invoke.proofs.request.put_names.Given as goal

abbrev pub invariant-loop-name : goal.invariant-loop-name
invariant-loop-name l = with_names l.names (members_view l.fn.members.entries)
    ≡ with_names (drop l.name-index l.names) (members_view l.members.entries)
