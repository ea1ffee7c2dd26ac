-- 14: "required or partner property missing", at the node. The lines of the node's kind are ls, its body is s, its properties start at
-- `starts`.
use Rattle.std.specs.Prelude.{ℕ, Bool, false, not, ◌&&◌, ◌||◌, List, [], ◌∷◌, ◌==◌}
use Rattle.base.specs.Letters.{letters}
use Rattle.kinds.specs.Kinds.{mesh}
use Rattle.rules.specs.Table.{Line}
use Rattle.judge.specs.Properties.{has}

-- a line that is required and has no property
abbrev pub is_missing : Line → (s starts : List ℕ) → Bool
is_missing l s starts = l.required && not (has s starts l.name)

-- one of some lines is missing
unfoldable pub misses : List Line → (s starts : List ℕ) → Bool
misses [] s starts = false
misses (l ∷ ls) s starts = is_missing l s starts || misses ls s starts

-- "wb and wv come only together and with mi ...; mi may stand alone"
abbrev pub partnered : (wb wv mi : Bool) → Bool
partnered wb wv mi = (not wb && not wv) || ((wb && wv) && mi)

abbrev pub unpartnered : (kind : ℕ) (s starts : List ℕ) → Bool
unpartnered kind s starts =
    (kind == mesh) && not (partnered (has s starts (letters "wb")) (has s starts (letters "wv")) (has s starts (letters "mi")))

unfoldable pub lacks : (kind : ℕ) → List Line → (s starts : List ℕ) → Bool
lacks kind ls s starts = misses ls s starts || unpartnered kind s starts
