-- A board as sets of squares, a bit a square, which are kept beside its squares (this project's own).
use Rattle.std.specs.Prelude.{◌≡◌, ℕ, Bool, false, ◌∷◌, [], map, Option, Some, None, length}
use Rattle.std.proofs.Common.{sym}
use lib.Lanes.{mask_l}
use Rattle.cell_core.specs.declared.man.Man.{Man}
use Rattle.cell_core.specs.declared.man.Colour.{Colour}
use Rattle.cell_core.specs.declared.man.Colour.TheVariants.{White, Black}
use Rattle.cell_core.specs.declared.man.Kind.{Kind}
use Rattle.cell_core.specs.declared.man.Kind.TheVariants.{King, Queen, Rook, Bishop, Knight, Pawn}
use Rattle.cell_core.specs.declared.sets.Sets.{Sets}
use Rattle.cell_core.specs.Board.{Men}
use Rattle.cell_core.specs.Man.{is_of, same_kind}

-- The squares on which what stands passes the test, as bits.
unfoldable pub set_of : (Option Man → Bool) → Men → ℕ
set_of test men = mask_l (map test men)

-- Whether a man of this kind stands on a square.
abbrev pub is_kind : Kind → Option Man → Bool
is_kind k None = false
is_kind k (Some m) = same_kind m.kind k

-- The number of a colour.
abbrev pub colour_number : Colour → ℕ
colour_number White = 0
colour_number Black = 1

-- The squares of each kind, and of each colour.
unfoldable pub sets_of : Men → Sets
sets_of men =
    record {
      kinds =
          set_of (is_kind King) men ∷ set_of (is_kind Queen) men ∷ set_of (is_kind Rook) men ∷ set_of (is_kind Bishop) men
          ∷ set_of (is_kind Knight) men ∷ set_of (is_kind Pawn) men ∷ [];
      colours = set_of (is_of White) men ∷ set_of (is_of Black) men ∷ [];
    }

-- 64 squares, and the sets that are theirs.
pub record Fit (cells : Men) (kept : Sets) : Type 0 where
  pub squares : length cells ≡ 64
  pub sets : kept ≡ sets_of cells

-- The sets follow from the squares, so a board is its squares.
pub sets_back : (cells : Men) (kept : Sets) → Fit cells kept → sets_of cells ≡ kept
sets_back cells kept h = sym h.sets
