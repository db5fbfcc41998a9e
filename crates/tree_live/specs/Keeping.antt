-- What the functions of this crate keep on their way.
use Rattle.std.specs.Prelude.{◌≡◌, ℕ, ◌+◌, ◌*◌, ◌<◌, ◌==◌, ◌||◌, if◌then◌else◌, Bool, true, false, List, [], ◌∷◌, ◌++◌, Option, None, IfSome, slice_index_or, nat_lt, length, take, All}
use Rattle.std.specs.Int.{bit_at}
use Rattle.cell_core.specs.declared.step.Move.{Move}
use Rattle.tree_rows.specs.declared.row.Row.{Row}
use Rattle.tree_rows.specs.Keys.{same_key}
use Rattle.tree_rows.specs.Rows.{IsHit, row_at, rows_of}
use Rattle.tree_live.specs.declared.entry.Entry.{Entry}
use Rattle.tree_live.specs.declared.marks.Marks.{Marks}
use Rattle.tree_live.specs.Watching.{hits_in, under, wanted}

-- How many rows stand before the first with this key.
abbrev pub place_of : Option Move → List Row → ℕ
place_of key [] = 0
place_of key (row ∷ rows) = if same_key row.key key then 0 else place_of key rows + 1

-- Whether a key is among these.
abbrev pub is_among : Option Move → List (Option Move) → Bool
is_among key [] = false
is_among key (other ∷ keys) = same_key other key || is_among key keys

-- The rows of these keys are those of the table, and all others are as before.
pub record Tells (keys : List (Option Move)) (table before after : List Row) : Type 0 where
  pub own : (key : Option Move) → is_among key keys ≡ true → row_at key after ≡ row_at key table
  pub others : (key : Option Move) → is_among key keys ≡ false → row_at key after ≡ row_at key before

-- A game that is out and has no hit.
abbrev pub no_game : Entry
no_game = record { hit = None; is_in = false }

-- The game with this number.
abbrev pub entry_at : List Entry → ℕ → Entry
entry_at games i = slice_index_or games i no_game

-- These rows sum the hits of the games that are in, whose numbers have 16 bits.
pub record Sums (games : List Entry) (rows : List Row) : Type 0 where
  pub summed : rows ≡ rows_of (hits_in games)
  pub ranges : All IsHit (hits_in games)

-- A game with its mark.
abbrev pub marked : Marks → Entry → Option ℕ → Entry
marked marks game mark = record game { is_in = wanted marks game.is_in mark }

-- The games with one more, which has no hit, unless there is one of this number.
abbrev pub reaching : ℕ → List Entry → List Entry
reaching i games = if nat_lt i (length games) then games else games ++ no_game ∷ []

-- The bits of a word tell which of the 64 games from number 64 k on are in.
abbrev pub TellsBlock : List Entry → ℕ → ℕ → Type 0
TellsBlock games k word = (j : ℕ) → j < 64 → 64 * k + j < length games → (bit_at word j == 1) ≡ (entry_at games (64 * k + j)).is_in

-- Of each 64 games the bits by which they are in or out, if these are known.
abbrev pub AreBrought : List (Option ℕ) → List Entry → Type 0
AreBrought blocks games = (k : ℕ) → IfSome (slice_index_or blocks k None) (TellsBlock games k)

-- The first n games are in or out by a filter, and the others as before.
abbrev pub partly : ℕ → List (Option ℕ) → List Entry → List Entry
partly n plies games = under (take n plies) games
