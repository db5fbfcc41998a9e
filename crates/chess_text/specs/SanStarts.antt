-- From which squares a man may go as a text says. No public contract cites these words.
use Rattle.std.specs.Prelude.{◌≡◌, ℕ, ◌<◌, ◌+◌, ◌-◌, ◌==◌, ◌||◌, not, if◌then◌else◌, Bool, true, false, List, is_none, is_some, ⊤}
use Rattle.std.specs.Int.{bit_at}
use Rattle.std.specs.Option.{option_map_or}
use Rattle.cell_core.specs.Board.{man_at}
use Rattle.cell_core.specs.Man.{same_kind}
use Rattle.cell_core.specs.declared.man.Kind.{Kind}
use Rattle.cell_core.specs.declared.man.Kind.TheVariants.{King, Queen, Rook, Bishop, Knight, Pawn}
use Rattle.cell_core.specs.declared.step.Move.{Move}
use Rattle.chess_laws.specs.declared.setup.Setup.{Setup}
use Rattle.chess_laws.specs.Geometry.{file_of, rank_of}
use Rattle.chess_text.specs.declared.san_playing.Starts.{Starts}
use Rattle.chess_text.specs.declared.san_playing.Starts.TheVariants as of
use Rattle.chess_text.specs.declared.shape.Going.{Going}
use Rattle.chess_text.specs.declared.shape.Shape.TheVariants.{Goes}
use Rattle.chess_text.specs.SanReads.{Fits}
use Rattle.chess_text.specs.SanSearch.{StandsSo, step_on}

-- How far two files or ranks are apart, and whether a man of this kind may reach one square from the other by them.
abbrev pub gap : ℕ → ℕ → ℕ
gap a b = (a - b) + (b - a)

abbrev pub may_reach : Kind → ℕ → ℕ → Bool
may_reach Rook a b = (gap (file_of a) (file_of b) == 0) || (gap (rank_of a) (rank_of b) == 0)
may_reach Bishop a b = gap (file_of a) (file_of b) == gap (rank_of a) (rank_of b)
may_reach Knight a b = gap (file_of a) (file_of b) + gap (rank_of a) (rank_of b) == 3
may_reach _ a b = true

-- Whether a man of this kind may land there: a pawn keeps its file just where no man stands on its target, unless it captures en passant.
abbrev pub may_land : Setup → Kind → ℕ → ℕ → Bool
may_land p k a b =
    not (same_kind k Pawn)
    || (option_map_or (λ s. s == b) p.en_passant false
    || (if file_of a == file_of b then is_none (man_at p.board b) else is_some (man_at p.board b)))

-- These squares and one more.
abbrev pub and_one : Starts → ℕ → Starts
and_one of.None s = of.One s
and_one (of.One first) s = of.More
and_one of.More s = of.More

-- The square is among these, and every legal move that goes so from it comes from one of these.
abbrev pub IsAmong : Starts → ℕ → Type 0
IsAmong of.None s = ⊥
IsAmong (of.One first) s = s ≡ first
IsAmong of.More s = ⊤

abbrev pub Covers : Setup → Going → Starts → ℕ → Type 0
Covers p g starts s = (m : Move) → Fits p (Goes g) m → m.from ≡ s → IsAmong starts s

-- If there is one square alone, such a man stands there.
abbrev pub StandThere : Setup → Going → Starts → Type 0
StandThere p g of.None = ⊤
StandThere p g (of.One first) = StandsSo p g first
StandThere p g of.More = ⊤

-- So it is after one more square, after the first n squares to which these steps lead from the target, and where the squares of the men that
-- are left to be tried are the bits of a word.
pub record StartsWith (p : Setup) (g : Going) (s : ℕ) (before after : Starts) : Type 0 where
  pub stand : StandThere p g before → StandThere p g after
  pub kept : (t : ℕ) → Covers p g before t → Covers p g after t
  pub here : Covers p g after s

pub record StartsBy (p : Setup) (g : Going) (steps : List ℕ) (n : ℕ) (starts : Starts) : Type 0 where
  pub stand : StandThere p g starts
  pub covers : (k : ℕ) → k < n → Covers p g starts (step_on steps g.target k)

pub record StartsBut (p : Setup) (g : Going) (left : ℕ) (starts : Starts) : Type 0 where
  pub stand : StandThere p g starts
  pub covers : (s : ℕ) → bit_at left s ≡ 0 → Covers p g starts s

-- Every legal move that goes so comes from one of these.
pub record AreStarts (p : Setup) (g : Going) (starts : Starts) : Type 0 where
  pub stand : StandThere p g starts
  pub all : (m : Move) → Fits p (Goes g) m → IsAmong starts m.from
