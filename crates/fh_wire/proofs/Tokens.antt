-- A token of one crate is a token of the other.
use Rattle.std.proofs.Common.{ℕ, List}
use Rattle.httparse.specs.Grammar.{is_token_byte, IsToken}
use Rattle.http_header.specs.Token.{is_token_byte as is_method_byte, IsToken as IsMethod}

pub method_token : (text : List ℕ) → IsToken text → IsMethod text
unfolding is_token_byte is_method_byte
method_token text is = is
