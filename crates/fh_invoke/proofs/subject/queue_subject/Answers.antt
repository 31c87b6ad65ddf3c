use Rattle.std.proofs.Common.{refl}
use Rattle.fh_invoke.proofs.subject.queue_subject.Goals as goal

pub returns-in_ok-decimal_text-in-Message : goal.returns-in_ok-decimal_text-in-Message
returns-in_ok-decimal_text-in-Message c = rw (
  c.in-Message.is,
  c.in_ok-decoded-in-Message.ensures,
  c.in_ok-expiry_text-in-Message.ensures,
  c.in_ok-message_id-in-Message.ensures,
  c.in_ok-offset_text-in-Message.ensures,
  c.in_ok-offset_text-in-Message-2.ensures,
  c.in_ok-decimal_text-in-Message.ensures,
  c.as_str.ensures,
)
    refl
