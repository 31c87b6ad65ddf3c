-- What is asked of the blobs, with the names and texts themselves.
use Rattle.std.specs.Prelude.{ℕ, List}
use Rattle.fh_blobs.specs.declared.ask.NewBlob.{NewBlob}
use Rattle.fh_blobs.specs.declared.ask.BlobAsk.{BlobAsk}
use Rattle.fh_blobs.specs.declared.ask.BlobAsk.TheVariants as asks

pub data Ask : Type 0 where
  Put : List ℕ → List ℕ → List ℕ → Ask
  Remove : List ℕ → List ℕ → Ask
  Note : ℕ → List ℕ → List ℕ → Ask
  PutAll : List NewBlob → Ask
  Nothing : Ask

abbrev pub ask_of : BlobAsk → Ask
ask_of (asks.Put container name text) = Put container name.now text.now
ask_of (asks.Remove container name) = Remove container name.now
ask_of (asks.Note function container name) = Note function container name.now
ask_of (asks.PutAll blobs) = PutAll blobs.now
ask_of asks.Nothing = Nothing
