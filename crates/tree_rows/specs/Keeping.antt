-- What the functions of this crate keep on their way.
use Rattle.std.specs.Prelude.{◌≡◌, ℕ, zero, suc, ◌+◌, ◌-◌, ◌*◌, ◌^◌, ◌<◌, ◌≤◌, if◌then◌else◌, Bool, false, List, [], ◌∷◌, Option, None}
use Rattle.std.specs.Ordering.{match_ordering, is_lt}
use Rattle.cell_core.specs.declared.step.Move.{Move}
use Rattle.game_tree.specs.declared.head.Outcome.TheVariants.{Unknown, White, Black, Draw}
use Rattle.tree_rows.specs.declared.hit.GameHit.{GameHit}
use Rattle.tree_rows.specs.declared.row.Row.{Row}
use Rattle.tree_rows.specs.declared.numbers.Numbers.{Numbers}
use Rattle.tree_rows.specs.Keys.{key_cmp, same_key}
use Rattle.tree_rows.specs.Rows.{ended, known, rows_of}
use Rattle.tree_rows.specs.TreeText.{row_before}

-- A row of no hit, and a row with one hit more and with one less.
abbrev pub no_hits : Option Move → Row
no_hits key =
    record {
      key = key;
      games = 0;
      white = 0;
      draws = 0;
      black = 0;
      unfinished = 0;
      mover_sum = 0;
      mover_rated = 0;
      other_sum = 0;
      other_rated = 0;
      year_sum = 0;
      dated = 0;
    }

unfoldable pub grown : GameHit → Row → Row
grown hit row =
    record {
      key = row.key;
      games = row.games + 1;
      white = row.white + ended White hit.result;
      draws = row.draws + ended Draw hit.result;
      black = row.black + ended Black hit.result;
      unfinished = row.unfinished + ended Unknown hit.result;
      mover_sum = row.mover_sum + hit.mover;
      mover_rated = row.mover_rated + known hit.mover;
      other_sum = row.other_sum + hit.other;
      other_rated = row.other_rated + known hit.other;
      year_sum = row.year_sum + hit.year;
      dated = row.dated + known hit.year;
    }

unfoldable pub shrunk : GameHit → Row → Row
shrunk hit row =
    record {
      key = row.key;
      games = row.games - 1;
      white = row.white - ended White hit.result;
      draws = row.draws - ended Draw hit.result;
      black = row.black - ended Black hit.result;
      unfinished = row.unfinished - ended Unknown hit.result;
      mover_sum = row.mover_sum - hit.mover;
      mover_rated = row.mover_rated - known hit.mover;
      other_sum = row.other_sum - hit.other;
      other_rated = row.other_rated - known hit.other;
      year_sum = row.year_sum - hit.year;
      dated = row.dated - known hit.year;
    }

-- The hit is counted in the row.
pub record IsCounted (hit : GameHit) (row : Row) : Type 0 where
  pub games : 1 ≤ row.games
  pub white : ended White hit.result ≤ row.white
  pub draws : ended Draw hit.result ≤ row.draws
  pub black : ended Black hit.result ≤ row.black
  pub unfinished : ended Unknown hit.result ≤ row.unfinished
  pub mover_sum : hit.mover ≤ row.mover_sum
  pub mover_rated : known hit.mover ≤ row.mover_rated
  pub other_sum : hit.other ≤ row.other_sum
  pub other_rated : known hit.other ≤ row.other_rated
  pub year_sum : hit.year ≤ row.year_sum
  pub dated : known hit.year ≤ row.dated

-- A row has room for one hit more.
pub record HasRoom (row : Row) : Type 0 where
  pub games : row.games < 2 ^ 31
  pub white : row.white < 2 ^ 31
  pub draws : row.draws < 2 ^ 31
  pub black : row.black < 2 ^ 31
  pub unfinished : row.unfinished < 2 ^ 31
  pub mover_sum : row.mover_sum < 2 ^ 63
  pub mover_rated : row.mover_rated < 2 ^ 31
  pub other_sum : row.other_sum < 2 ^ 63
  pub other_rated : row.other_rated < 2 ^ 31
  pub year_sum : row.year_sum < 2 ^ 63
  pub dated : row.dated < 2 ^ 31

-- These are the rows of some hits, so that their keys rise.
pub record AreSums (rows : List Row) : Type 0 where
  pub hits : List GameHit
  pub summed : rows ≡ rows_of hits

-- How many rows stand before a key, and whether the row at a place has it.
abbrev pub place_in : List Row → Option Move → ℕ
place_in [] key = 0
place_in (row ∷ rows) key = if is_lt (key_cmp row.key key) then place_in rows key + 1 else 0

abbrev pub has_key : List Row → ℕ → Option Move → Bool
has_key [] place key = false
has_key (row ∷ rows) zero key = same_key row.key key
has_key (row ∷ rows) (suc place) key = has_key rows place key

-- The rows with one hit more.
abbrev pub added : GameHit → List Row → List Row
added hit [] = grown hit (no_hits hit.next) ∷ []
added hit (row ∷ rows) =
    match_ordering (key_cmp row.key hit.next) (row ∷ added hit rows) (grown hit row ∷ rows) (grown hit (no_hits hit.next) ∷ row ∷ rows)

-- How many rows stand before a row in the order of the text.
abbrev pub row_place : List Row → Row → ℕ
row_place [] row = 0
row_place (first ∷ rows) row = if row_before first row then row_place rows row + 1 else 0

-- What numbers give of each field.
abbrev pub given_by : Numbers → (Row → ℕ) → ℕ
given_by n field =
    field
    (record {
      key = None;
      games = n.games;
      white = n.white;
      draws = n.draws;
      black = n.black;
      unfinished = n.unfinished;
      mover_sum = n.mover_sum;
      mover_rated = n.mover_rated;
      other_sum = n.other_sum;
      other_rated = n.other_rated;
      year_sum = n.year_sum;
      dated = n.dated;
    })

-- Numbers with those of a row more, and room for them.
unfoldable pub plus : Numbers → Row → Numbers
plus n row =
    record {
      games = n.games + row.games;
      white = n.white + row.white;
      draws = n.draws + row.draws;
      black = n.black + row.black;
      unfinished = n.unfinished + row.unfinished;
      mover_sum = n.mover_sum + row.mover_sum;
      mover_rated = n.mover_rated + row.mover_rated;
      other_sum = n.other_sum + row.other_sum;
      other_rated = n.other_rated + row.other_rated;
      year_sum = n.year_sum + row.year_sum;
      dated = n.dated + row.dated;
    }

-- The numbers are not above those of so many rows.
pub record AreWithin (rows : ℕ) (n : Numbers) : Type 0 where
  pub games : n.games ≤ 2 ^ 32 * rows
  pub white : n.white ≤ 2 ^ 32 * rows
  pub draws : n.draws ≤ 2 ^ 32 * rows
  pub black : n.black ≤ 2 ^ 32 * rows
  pub unfinished : n.unfinished ≤ 2 ^ 32 * rows
  pub mover_sum : n.mover_sum ≤ 2 ^ 64 * rows
  pub mover_rated : n.mover_rated ≤ 2 ^ 32 * rows
  pub other_sum : n.other_sum ≤ 2 ^ 64 * rows
  pub other_rated : n.other_rated ≤ 2 ^ 32 * rows
  pub year_sum : n.year_sum ≤ 2 ^ 64 * rows
  pub dated : n.dated ≤ 2 ^ 32 * rows

-- One row more leaves each number below 2 ^ 128 and each count of rows below 2 ^ 64.
pub record AreFew (n : Numbers) : Type 0 where
  pub rows : ℕ
  pub within : AreWithin rows n
  pub few : rows + 1 < 2 ^ 64
