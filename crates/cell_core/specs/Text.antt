-- Texts: names, tags and comments (this project's own).
use Rattle.std.specs.Prelude.{ℕ, ◌≢◌, List, All}

-- No byte is zero (this project's own: a zero byte ends a stored text).
abbrev pub IsZeroFree : List ℕ → Type 0
IsZeroFree bytes = All (λ byte. byte ≢ 0) bytes
