-- The decoded text of a message, and ids as texts.
use Rattle.std.specs.Prelude.{ℕ, ◌+◌, ◌*◌, ◌^◌, Bool, List, Result, Ok, Err, if◌then◌else◌}
use Rattle.std.specs.Int.{w128, to_be_bytes}
use Rattle.std.specs.Str.{is_utf8}
use Rattle.base64.specs.Engines.{standard}
use Rattle.base64.specs.GeneralPurpose.{decode_of, encode_of}
use Rattle.base64.specs.declared.engine.general_purpose.GeneralPurpose.{GeneralPurpose}
use Rattle.uuid.specs.Text.{hyphenated_text, lower}
use Rattle.uuid.specs.Parts.{with_version, with_variant}
use Rattle.uuid.specs.declared.Version.TheVariants.{Random}
use Rattle.uuid.specs.declared.Variant.TheVariants.{RFC4122}

abbrev pub text_or_stored : {E : Type 0} → Result (List ℕ) E → List ℕ → List ℕ
text_or_stored (Err _) stored = stored
text_or_stored (Ok bytes) stored = if is_utf8 bytes then bytes else stored

-- the text that the stored one decodes to, or the stored one where it doesn't decode to UTF-8
unfoldable pub decoded_by : GeneralPurpose → List ℕ → List ℕ
decoded_by engine stored = text_or_stored (decode_of engine stored) stored

-- the same by standard base64 (RFC 4648)
unfoldable pub plain_text : List ℕ → List ℕ
plain_text stored = decoded_by standard stored

-- what a queue's stored text stands for: queue texts are base64, or plain
abbrev pub decoded : Bool → List ℕ → List ℕ
decoded base64 stored = if base64 then plain_text stored else stored

unfoldable pub standard_text : List ℕ → List ℕ
standard_text text = encode_of standard text

-- a text as a queue stores it
abbrev pub coded : Bool → List ℕ → List ℕ
coded base64 text = if base64 then standard_text text else text

-- a message's number as a UUID of 128 bits
abbrev pub message_id : ℕ → List ℕ
message_id number = hyphenated_text lower (to_be_bytes w128 number)

-- the 16 bytes of two words, the high one first, as a UUID of version 4 (RFC 9562)
unfoldable pub random_id : ℕ → ℕ → List ℕ
random_id high low = with_version (with_variant (to_be_bytes w128 (high * 2 ^ 64 + low)) RFC4122) Random

abbrev pub rand_guid : ℕ → ℕ → List ℕ
rand_guid high low = hyphenated_text lower (random_id high low)
