-- How the games of a base are numbered anew if some of them go (this project's own).
use Rattle.std.specs.Prelude.{◌≡◌, ℕ, ◌+◌, List, [], ◌∷◌, Option, Some, None, filter, is_some, map}
use Rattle.std.specs.List.{zip}

-- For each game its new number, or none if it goes; and how many games stay.
pub record Numbering : Type 0 where
  pub to : List (Option ℕ)
  pub kept : ℕ

-- The new numbers are those from `next` on up to `kept`, each once, in rising order.
abbrev pub Rises : ℕ → List (Option ℕ) → ℕ → Type 0
Rises next [] kept = kept ≡ next
Rises next (None ∷ to) kept = Rises next to kept
Rises next (Some number ∷ to) kept = (number ≡ next) × Rises (next + 1) to kept

-- What is listed for each game, of the games that stay, in their order.
abbrev pub renumbered : {T : Type 0} → List (Option ℕ) → List T → List T
renumbered {T} to xs = map (λ (game : Option ℕ × T). game.1) (filter (λ (game : Option ℕ × T). is_some game.0) (zip to xs))
