-- What the code looks for, from the square that is attacked to the attacker. No public contract cites these words.
use Rattle.std.specs.Prelude.{◌≡◌, ℕ, ◌<◌, ◌⊎◌, Any, Bool, ◌&&◌, ◌==◌, List, [], slice_index_or, Some, None, is_some}
use Rattle.std.specs.Int.RustNames.{bit_and, bit_or}
use Rattle.std.specs.List.{position_or_len}
use Rattle.cell_core.specs.declared.man.Colour.{Colour}
use Rattle.cell_core.specs.declared.man.Kind.{Kind}
use Rattle.cell_core.specs.declared.man.Kind.TheVariants.{King, Queen, Rook, Bishop, Knight, Pawn}
use Rattle.cell_core.specs.declared.man.Man.{Man}
use Rattle.cell_core.specs.Board.{Men, man_at, put}
use Rattle.cell_core.specs.Man.{is_man, man, other}
use Rattle.cell_core.specs.Sets.{is_kind, set_of}
use Rattle.chess_laws.specs.declared.setup.Setup.{Setup}
use Rattle.chess_laws.specs.Attacks.{IsInCheck}
use Rattle.chess_laws.specs.Geometry.{Offset, bishop_steps, by, king_steps, knight_steps, pawn_captures, rook_steps, Leaps, Runs}

-- The steps that the code has, by their rows in its tables.
abbrev pub offset_at : ℕ → Offset
offset_at row = slice_index_or king_steps row (by 0 0 0 0)

-- The row of a step.
abbrev pub same_offset : Offset → Offset → Bool
same_offset a b = ((a.right == b.right) && (a.left == b.left)) && ((a.up == b.up) && (a.down == b.down))

abbrev pub row_of : Offset → ℕ
row_of o = position_or_len (same_offset o) king_steps

-- The squares of the men of a colour that slide as this kind of man does: a queen does too.
abbrev pub sliders : Men → Colour → Kind → ℕ
sliders men c k = bit_or (set_of (is_man c k) men) (set_of (is_man c Queen) men)

-- This man stands where the step leads from s.
pub record LeapsFrom (men : Men) (m : Man) (s : ℕ) (o : Offset) : Type 0 where
  pub from : ℕ
  pub on_board : from < 64
  pub stands : man_at men from ≡ Some m
  pub target : s < 64
  pub leaps : Leaps s from o

-- Such a man, or a queen, stands where equal steps lead from s over empty squares.
pub record SlidesFrom (men : Men) (c : Colour) (k : Kind) (s : ℕ) (o : Offset) : Type 0 where
  pub from : ℕ
  pub on_board : from < 64
  pub stands : (man_at men from ≡ Some (man c k)) ⊎ (man_at men from ≡ Some (man c Queen))
  pub target : s < 64
  pub runs : Runs men s from o

-- What a table says of a row and a square.
abbrev pub entry : List (List ℕ) → ℕ → ℕ → ℕ
entry table row s = slice_index_or (slice_index_or table row []) s 0

-- A rook, a bishop or a queen of this colour slides to s.
abbrev pub SlidesTo : Men → Colour → ℕ → Type 0
SlidesTo men c s = Any (SlidesFrom men c Rook s) rook_steps ⊎ Any (SlidesFrom men c Bishop s) bishop_steps

-- The mover's king is not in check, is not what leaves the square, and no enemy slides to it where the square is empty.
pub record Shut (p : Setup) (king a : ℕ) : Type 0 where
  pub unchecked : IsInCheck p.board p.side → ⊥
  pub apart : a ≡ king → ⊥
  pub covered : SlidesTo (put p.board a None) (other p.side) king → ⊥

-- A man of this kind leaps from a to b.
abbrev pub LeapsAs : Colour → Kind → ℕ → ℕ → Type 0
LeapsAs c King a b = Any (Leaps a b) king_steps
LeapsAs c Knight a b = Any (Leaps a b) knight_steps
LeapsAs c Pawn a b = Any (Leaps a b) (pawn_captures c)
LeapsAs c k a b = ⊥

-- A man of this colour stands on a and leaps to b.
pub record Hits (men : Men) (c : Colour) (a b : ℕ) : Type 0 where
  pub kind : Kind
  pub stands : man_at men a ≡ Some (man c kind)
  pub leaps : LeapsAs c kind a b

-- Of the men of a colour on one board these squares are left on another, and on these squares some man stands there.
pub record Leaves (men : Men) (c : Colour) (own full : ℕ) (new : Men) : Type 0 where
  pub of_kind : (k : Kind) → bit_and own (set_of (is_kind k) men) ≡ set_of (is_man c k) new
  pub occupied : full ≡ set_of is_some new
