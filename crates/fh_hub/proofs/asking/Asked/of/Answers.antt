use Rattle.std.proofs.Common.{subst, sym, ◌≡◌, IfOk}
use Rattle.fh_event.specs.declared.command.Command.{Command}
use Rattle.fh_hub.specs.Asked.{asked}
use Rattle.fh_hub.specs.Asking.{asked_as}
use Rattle.fh_hub.specs.StoreEdits.{parts_of}
use Rattle.fh_hub.proofs.asking.Asked.of.Goals as goal

pub returns-in-Note : goal.returns-in-Note
unfolding asked
returns-in-Note c =
    subst (λ (command : Command). IfOk c.noting.result
    (λ a. asked_as a ≡ asked (parts_of c.args.stores.now) command c.args.m)) (sym c.in-Note.is) c.noting.ensures
