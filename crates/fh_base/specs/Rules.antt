-- The numbers and names of the rules.
use Rattle.std.specs.Prelude.{ℕ, List, codes}
use Rattle.fh_base.specs.declared.rule.Rule.{Rule}
use Rattle.fh_base.specs.declared.rule.Rule.TheVariants.{MomentTooLate, BadName, TooLarge, OutOfRange, NoSuchFunction, QueueNotFound, BlobNotFound, MessageNotFound, NoSuchInvocation, PopReceiptMismatch, LeaseHeld, LeaseMismatch, StoreFull, JournalFull, OldJournal, TokensFull, BadZone}

abbrev pub rule_number : Rule → ℕ
rule_number MomentTooLate = 1
rule_number BadName = 2
rule_number (TooLarge size limit) = 3
rule_number (OutOfRange given low high) = 4
rule_number NoSuchFunction = 5
rule_number QueueNotFound = 6
rule_number BlobNotFound = 7
rule_number MessageNotFound = 8
rule_number NoSuchInvocation = 9
rule_number (PopReceiptMismatch current) = 10
rule_number (LeaseHeld holder until) = 11
rule_number (LeaseMismatch holder) = 12
rule_number (StoreFull live) = 13
rule_number (JournalFull length) = 14
rule_number (OldJournal version) = 15
rule_number (TokensFull kept) = 16
rule_number BadZone = 17

abbrev pub rule_name : Rule → List ℕ
rule_name MomentTooLate = codes "MomentTooLate"
rule_name BadName = codes "BadName"
rule_name (TooLarge size limit) = codes "TooLarge"
rule_name (OutOfRange given low high) = codes "OutOfRange"
rule_name NoSuchFunction = codes "NoSuchFunction"
rule_name QueueNotFound = codes "QueueNotFound"
rule_name BlobNotFound = codes "BlobNotFound"
rule_name MessageNotFound = codes "MessageNotFound"
rule_name NoSuchInvocation = codes "NoSuchInvocation"
rule_name (PopReceiptMismatch current) = codes "PopReceiptMismatch"
rule_name (LeaseHeld holder until) = codes "LeaseHeld"
rule_name (LeaseMismatch holder) = codes "LeaseMismatch"
rule_name (StoreFull live) = codes "StoreFull"
rule_name (JournalFull length) = codes "JournalFull"
rule_name (OldJournal version) = codes "OldJournal"
rule_name (TokensFull kept) = codes "TokensFull"
rule_name BadZone = codes "BadZone"
