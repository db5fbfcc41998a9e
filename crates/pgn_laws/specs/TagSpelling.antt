-- How a tag is spelled: a bracket, a name, a value between quotation marks and a bracket, with white space between or without
-- (PGN standard, 8.1). In the value a backslash stands before each quotation mark, and before a backslash that is not to stand for itself.
use Rattle.std.specs.Prelude.{◌≡◌, ◌≤◌, ◌==◌, ◌||◌, ⊤, ℕ, Bool, true, false, List, [], ◌∷◌, ◌++◌, length}
use Rattle.std.specs.List.{list_all}
use Rattle.game_tree.specs.TagName.{is_tag_byte}
use Rattle.pgn_read.specs.Bytes.{is_white, has_zero}

-- A value as it is spelled, piece by piece: a byte that stands for itself; a backslash with the byte that it escapes; and a
-- backslash that escapes nothing, with the byte behind it.
pub data Spelling : Type 0 where
  done : Spelling
  byte : ℕ → Spelling → Spelling
  escape : ℕ → Spelling → Spelling
  alone : ℕ → Spelling → Spelling

abbrev pub spelled : Spelling → List ℕ
spelled done = []
spelled (byte b s) = b ∷ spelled s
spelled (escape b s) = 92 ∷ b ∷ spelled s
spelled (alone b s) = 92 ∷ b ∷ spelled s

abbrev pub said_by : Spelling → List ℕ
said_by done = []
said_by (byte b s) = b ∷ said_by s
said_by (escape b s) = b ∷ said_by s
said_by (alone b s) = 92 ∷ b ∷ said_by s

-- The quotation mark and the backslash are escaped, and no other byte.
abbrev pub is_escaped : ℕ → Bool
is_escaped b = (b == 34) || (b == 92)

abbrev pub IsSpelling : Spelling → Type 0
IsSpelling done = ⊤
IsSpelling (byte b s) = (is_escaped b ≡ false) × IsSpelling s
IsSpelling (escape b s) = (is_escaped b ≡ true) × IsSpelling s
IsSpelling (alone b s) = (is_escaped b ≡ false) × IsSpelling s

-- The parts of a tag: white space before and behind the name and behind the value, the name, and the value as it is spelled. No byte
-- of it is zero.
pub record TagParts : Type 0 where
  pub before : List ℕ
  pub name : List ℕ
  pub between : List ℕ
  pub value : Spelling
  pub behind : List ℕ

pub record AreParts (tag : TagParts) : Type 0 where
  pub before : list_all is_white tag.before ≡ true
  pub between : list_all is_white tag.between ≡ true
  pub behind : list_all is_white tag.behind ≡ true
  pub some : 1 ≤ length tag.name
  pub name : list_all is_tag_byte tag.name ≡ true
  pub value : IsSpelling tag.value
  pub zero_free : has_zero (spelled tag.value) ≡ false

abbrev pub tag_before : TagParts → List ℕ → List ℕ
tag_before tag rest = 91 ∷ (tag.before ++ (tag.name ++ (tag.between ++ (34 ∷ (spelled tag.value ++ (34 ∷ (tag.behind ++ (93 ∷ rest))))))))
