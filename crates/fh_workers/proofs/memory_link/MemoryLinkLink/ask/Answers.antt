use Rattle.std.proofs.Common.{Some, sym, ap}
use Rattle.fh_workers.proofs.Replies.{kept_by_failure}
use Rattle.fh_workers.proofs.memory_link.MemoryLinkLink.ask.Goals as goal

pub returns-then-fails_now-clause-replies : goal.returns-then-fails_now-clause-replies
returns-then-fails_now-clause-replies c = ap (λ replies. Some replies) (sym (kept_by_failure c.args.self.now.replies.items))
