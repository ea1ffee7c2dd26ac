-- Rows that are moved together with their bodies emit the same bytes.
use Prim.Native.Nat.{ℕ, suc, ◌+◌}
use mathlib.Core.Path.{◌≡◌, refl, ap}
use mathlib.Core.Bool.{Bool, true, false}
use mathlib.Core.List.{List, [], ◌∷◌, map}
use Rattle.table.specs.declared.Row.{Row}
use Rattle.format.specs.Rows.{body_of, own_bytes}
use Rattle.emit.specs.Emission.{sizes_under, nodes_bytes, roots, file_bytes}
use Rattle.writer.specs.Forest.{moved_to, laid_out}
use Rattle.removal.specs.Left.{unmarked_of, renumbered_from}

roots_laid : (at : ℕ) (rs : List Row) → roots (laid_out at rs) ≡ roots rs
unfolding roots laid_out
roots_laid at [] = refl
roots_laid at (r ∷ rs) = rw (roots_laid (at + own_bytes r) rs)

module _ (s s' : List ℕ) where
  abbrev Moved : (at : ℕ) → List Row → Type 0
  Moved at rs = map (body_of s') (laid_out at rs) ≡ map (body_of s) rs

  first_moved : (at : ℕ) (r : Row) (rs : List Row) → Moved at (r ∷ rs) → (body_of s' (moved_to at r) ≡ body_of s r) × Moved (at + own_bytes r) rs
  unfolding laid_out
  first_moved at r rs e = (cc, cc)

  sizes_laid : (p at k : ℕ) (rs : List Row) → Moved at rs → sizes_under s' p k (laid_out at rs) ≡ sizes_under s p k rs
  unfolding sizes_under laid_out
  sizes_laid p at k [] e = refl
  sizes_laid p at k (r ∷ rs) e =
      let moved = first_moved at r rs e in
      let later : ℕ = at + own_bytes r in
      rw (sizes_laid p later (suc k) rs moved.1, sizes_laid k later (suc k) rs moved.1, moved.0)

  nodes_laid : (at k : ℕ) (rs : List Row) → Moved at rs → nodes_bytes s' k (laid_out at rs) ≡ nodes_bytes s k rs
  unfolding nodes_bytes laid_out
  nodes_laid at k [] e = refl
  nodes_laid at k (r ∷ rs) e =
      let moved = first_moved at r rs e in
      let later : ℕ = at + own_bytes r in
      rw (sizes_laid k later (suc k) rs moved.1, moved.0, nodes_laid later (suc k) rs moved.1)

  pub file_laid : (flags : ℕ) (rs : List Row) → map (body_of s') (laid_out 16 rs) ≡ map (body_of s) rs
      → file_bytes flags s' (laid_out 16 rs) ≡ file_bytes flags s rs
  unfolding file_bytes
  file_laid flags rs e = rw (roots_laid 16 rs, nodes_laid 16 0 rs e)

pub renumbered_bodies : (s : List ℕ) (all : List Row) (marked : List Bool) (i : ℕ) (rs : List Row) (ms : List Bool)
    → map (body_of s) (renumbered_from all marked i rs ms) ≡ map (body_of s) (unmarked_of rs ms)
unfolding renumbered_from unmarked_of
renumbered_bodies s all marked i [] ms = refl
renumbered_bodies s all marked i (r ∷ rs) [] = refl
renumbered_bodies s all marked i (r ∷ rs) (true ∷ ms) = renumbered_bodies s all marked (suc i) rs ms
renumbered_bodies s all marked i (r ∷ rs) (false ∷ ms) = ap (λ l. body_of s r ∷ l) (renumbered_bodies s all marked (suc i) rs ms)
