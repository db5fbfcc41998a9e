-- Text whose lines stand behind a tag. This project's own.
use Rattle.std.specs.Prelude.{ℕ, zero, suc, ◌==◌, Bool, true, if◌then◌else◌, List, [], ◌∷◌, ◌++◌}

-- Each line behind the tag; a line begins with the first byte if `begins` says so, and behind each line feed.
unfoldable pub tagged_lines : Bool → List ℕ → List ℕ → List ℕ
tagged_lines begins tag [] = []
tagged_lines begins tag (byte ∷ bytes) = (if begins then tag else []) ++ byte ∷ tagged_lines (byte == 10) tag bytes

-- A text, each of whose lines stands behind the tag.
abbrev pub tagged : List ℕ → List ℕ → List ℕ
tagged tag text = tagged_lines true tag text

-- Whether a line begins behind these bytes: behind none it begins where it did before.
unfoldable pub line_begins : Bool → List ℕ → Bool
line_begins begins [] = begins
line_begins begins (byte ∷ bytes) = line_begins (byte == 10) bytes

-- The text without its tags, which are so long; of the tag in which it begins so many bytes are left.
unfoldable pub untagged : ℕ → ℕ → List ℕ → List ℕ
untagged size left [] = []
untagged size zero (byte ∷ bytes) = byte ∷ untagged size (if byte == 10 then size else 0) bytes
untagged size (suc left) (byte ∷ bytes) = untagged size left bytes
