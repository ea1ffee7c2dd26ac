-- Texts in small buffers, computed.
use Rattle.std.specs.Prelude.{◌≡◌, refl, [], ◌∷◌}
use Rattle.text.specs.Text.{fitted, with_text, place_after}

-- two letters at place 1 of four bytes, of three, and of two
puts : (with_text (1 ∷ 2 ∷ 3 ∷ 4 ∷ []) 1 (7 ∷ 8 ∷ []) ∷ with_text (1 ∷ 2 ∷ 3 ∷ []) 1 (7 ∷ 8 ∷ []) ∷ with_text (1 ∷ 2 ∷ []) 1 (7 ∷ 8 ∷ []) ∷ [])
    ≡ (1 ∷ 7 ∷ 8 ∷ 4 ∷ []) ∷ (1 ∷ 7 ∷ 8 ∷ []) ∷ (1 ∷ 2 ∷ []) ∷ []
unfolding fitted with_text
puts = refl

-- with room, without, and past the end
ends : (place_after (1 ∷ 2 ∷ 3 ∷ 4 ∷ []) 1 (7 ∷ 8 ∷ []) ∷ place_after (1 ∷ 2 ∷ []) 1 (7 ∷ 8 ∷ []) ∷ place_after (1 ∷ 2 ∷ 3 ∷ 4 ∷ []) 5 (7 ∷ []) ∷ []) ≡ 3 ∷ 1 ∷ 5 ∷ []
unfolding fitted place_after
ends = refl
