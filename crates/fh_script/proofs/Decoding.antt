-- What a word stands for as a text, by whether its decoded bytes are UTF-8.
use Rattle.std.proofs.Common.{◌≡◌, ℕ, false, List, Ok, Err, refl}
use Rattle.std.specs.Prelude.{codes}
use Rattle.std.specs.Str.{IsUtf8, bytes_eq}
use Rattle.percent_encoding.specs.Percent.{percent_decode}
use Rattle.fh_script.specs.declared.faults.WordFault.TheVariants.{BadText}
use Rattle.fh_script.specs.Forms.{text_of}
use Rattle.fh_base.proofs.Utf8.{is_text, is_no_text}

module _ (word decoded : List ℕ) (longer : bytes_eq word (codes "%") ≡ false) (is : decoded ≡ percent_decode word) where
  pub text_of-decoded : (text : List ℕ) → IsUtf8 decoded → text ≡ decoded → text_of word ≡ Ok text
  unfolding text_of
  text_of-decoded text utf8 same = rw (longer, ← is, is_text decoded utf8, same) refl

  pub text_of-bad : ¬ (IsUtf8 decoded) → text_of word ≡ Err BadText
  unfolding text_of
  text_of-bad no_text = rw (longer, ← is, is_no_text decoded no_text) refl
