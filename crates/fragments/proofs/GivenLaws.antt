-- What places keep of their tokens and their text. Assumes nothing.
use Prim.Native.Nat.{ℕ, ◌≤◌, ◌<◌}
use mathlib.Core.Path.{◌≡◌}
use mathlib.Core.Bool.{true, false}
use mathlib.Core.List.{List}
use lib.ListN.{length}
use Rattle.utf8.specs.Chars.{valid}
use Rattle.model.specs.Check.{bad_token}
use Rattle.model.specs.Model.{TokenList, contents, token_at, tokens_of}
use Rattle.sections.proofs.SeekLaws.{Sound, first_sound}
use Rattle.fragments.specs.declared.Places.{Places}

-- The text is valid, and so are the contents, of which none is empty.
pub record Fine (t : TokenList) (text : List ℕ) : Type 0 where
  pub text_valid : valid text ≡ true
  pub contents-fine : bad_token (contents t) ≡ false

-- No content is longer than that.
pub record Longest (t : TokenList) (n : ℕ) : Type 0 where
  pub bounds : (row : ℕ) → row < length (contents t) → length (token_at t row).content ≤ n

module _ (p : Places) where
  pub fine_by : Fine (tokens_of p.tokens) p.text.now
  fine_by = record { text_valid = p.text_valid; contents-fine = p.contents_fine }

  pub sound_by : Sound p.begins.now (contents (tokens_of p.tokens))
  sound_by = rw p.first (first_sound _ _)

  pub long_by : Longest (tokens_of p.tokens) p.longest
  long_by = record { bounds = p.long }
