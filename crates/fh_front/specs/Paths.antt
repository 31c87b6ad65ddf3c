-- The parts of a request's target (RFC 9112, origin form): a path, and a query behind the first question mark.
use Rattle.std.specs.Prelude.{ℕ, if◌then◌else◌, List, Result, Ok, Err}
use Rattle.std.specs.Str.{is_utf8}
use Rattle.form_urlencoded.specs.Form.{split_once}
use Rattle.percent_encoding.specs.Percent.{percent_decode}
use Rattle.fh_front.specs.declared.fault.FrontFault.{FrontFault}
use Rattle.fh_front.specs.declared.fault.FrontFault.TheVariants.{BadBody}

abbrev pub path_of : List ℕ → List ℕ
path_of target = (split_once 63 target).0

abbrev pub query_of : List ℕ → List ℕ
query_of target = (split_once 63 target).1

-- the bytes before the first slash
abbrev pub up_to_slash : List ℕ → List ℕ
up_to_slash path = (split_once 47 path).0

-- the bytes behind the first slash
abbrev pub behind_slash : List ℕ → List ℕ
behind_slash path = (split_once 47 path).1

-- what stands behind the word of a path: `orders/messages` of `/queues/orders/messages`
abbrev pub behind_word : List ℕ → List ℕ
behind_word path = behind_slash (behind_slash path)

-- `orders` of `/queues/orders/messages`
abbrev pub name_part : List ℕ → List ℕ
name_part path = up_to_slash (behind_word path)

-- `a/b.txt` of `/blobs/inbox/a/b.txt`
abbrev pub blob_part : List ℕ → List ℕ
blob_part path = behind_slash (behind_word path)

-- `7` of `/queues/orders/messages/7`
abbrev pub message_part : List ℕ → List ℕ
message_part path = behind_slash (behind_slash (behind_word path))

-- bytes as a text
unfoldable pub text_of : List ℕ → Result (List ℕ) FrontFault
text_of bytes = if is_utf8 bytes then Ok bytes else Err BadBody

-- a part of a path as a text: each escape stands for its byte
abbrev pub text_of_part : List ℕ → Result (List ℕ) FrontFault
text_of_part part = text_of (percent_decode part)
