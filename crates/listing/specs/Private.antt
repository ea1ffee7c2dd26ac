-- What private functions promise each other; nothing here need be believed.
use Rattle.std.specs.Prelude.{ℕ, ◌+◌, ◌≡◌, List, length}
use Rattle.std.proofs.lemmas.List.Edits.{sets}
use Rattle.text.specs.Text.{place_after, with_text}

-- a text that has room was put into a buffer at a place: the place after it, and what the buffer holds then
pub record Puts (out : List ℕ) (at : ℕ) (text : List ℕ) (next : ℕ) (last : List ℕ) : Type 0 where
  pub place : next ≡ at + length text
  pub stored : last ≡ sets out at text

-- a text was put at the start of a buffer where it has room
abbrev pub PutsWhole : (out text : List ℕ) (next : ℕ) (last : List ℕ) → Type 0
PutsWhole out text next last = (next ≡ place_after out 0 text) × (last ≡ with_text out 0 text)
