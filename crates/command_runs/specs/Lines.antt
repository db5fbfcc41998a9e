-- The first line of a piece of text. Only private functions cite this.
use Rattle.std.specs.Prelude.{ℕ, suc, ◌==◌, if◌then◌else◌, List, [], ◌∷◌}

-- How many bytes the first line has, with its line feed.
unfoldable pub line_size : List ℕ → ℕ
line_size [] = 0
line_size (byte ∷ bytes) = if byte == 10 then 1 else suc (line_size bytes)
