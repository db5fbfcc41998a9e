-- What an error line is. This project's own.
use Rattle.std.specs.Prelude.{◌≡◌, ℕ, ◌++◌, List, codes}

-- A text begins with `error: `.
abbrev pub IsError : List ℕ → Type 0
IsError text = (more : List ℕ) × (text ≡ codes "error: " ++ more)
