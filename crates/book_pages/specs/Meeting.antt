-- What is kept of the boards that games reach while these are counted. Only models and private functions cite these words.
use Rattle.std.specs.Prelude.{◌≡◌, ◌≤◌, ◌<◌, ℕ, ◌+◌, ◌^◌, nat_le, Bool, true, false, All, List, [], ◌∷◌, ◌++◌, Option, Some, None, filter, length, slice_index_or, ⊤}
use Rattle.std.specs.List.{IsDistinct, position_or_len}
use Rattle.cell_core.specs.Packed.{Packed}
use Rattle.game_tree.specs.Game.{GameTree}
use Rattle.indexmap.specs.IndexSet.{insert_all, insert_key}
use Rattle.book_pages.specs.Book.{has_page, packed_eq}
use Rattle.book_pages.specs.Reached.{met_below, reaching_below}
use Rattle.book_pages.specs.declared.reach.Reach.{Reach}

-- How many games reach a board, and the last of them.
pub record HowMany : Type 0 where
  pub games : ℕ
  pub last : Option ℕ

-- Each game was counted once at most, in their order; and a game's number has 32 bits.
abbrev pub IsUpTo : ℕ → Option ℕ → Type 0
IsUpTo games None = games ≡ 0
IsUpTo games (Some last) = games ≤ last + 1

abbrev pub IsHowMany : ℕ → Option ℕ → Type 0
IsHowMany games last = IsUpTo games last × (games < 2 ^ 32)

abbrev pub no_game : HowMany
no_game = record { games = 0; last = None }

-- And one game more.
abbrev pub with_game : ℕ → HowMany → HowMany
with_game i many = record { games = many.games + 1; last = Some i }

-- The last game that was counted, if one was, is below a number.
abbrev pub IsBefore : ℕ → Option ℕ → Type 0
IsBefore i None = ⊤
IsBefore i (Some last) = last < i

-- How many games reach a board: none, where it was not met.
abbrev pub how_many : List Packed → List HowMany → Packed → HowMany
how_many boards met board = slice_index_or met (position_or_len (packed_eq board) boards) no_game

-- The numbers, with one more where a board is new.
abbrev pub with_place : Bool → List HowMany → List HowMany
with_place true met = met
with_place false met = met ++ no_game ∷ []

-- The boards that were met, of which no two are the same, with a number for each, after games with numbers below this one were counted.
pub record AreCounts (i : ℕ) (boards : List Packed) (met : List HowMany) : Type 0 where
  pub count : length met ≡ length boards
  pub distinct : IsDistinct packed_eq boards
  pub before : All (λ many. IsBefore i many.last) met

-- Where game i reaches a board, it counts, unless it did before.
abbrev pub IsMetBy : ℕ → Bool → HowMany → HowMany → Type 0
IsMetBy i true old new = (old.last ≡ Some i → new ≡ old) × ((old.last ≡ Some i → ⊥) → new ≡ with_game i old)
IsMetBy i false old new = new ≡ old

pub record Meets (i : ℕ) (board : Packed) (boards : List Packed) (met : List HowMany) (boards' : List Packed) (met' : List HowMany) : Type 0 where
  pub order : boards' ≡ insert_key packed_eq boards board
  pub each : (other : Packed) → IsMetBy i (packed_eq other board) (how_many boards met other) (how_many boards' met' other)

-- Game i reached these boards.
abbrev pub HasReached : ℕ → Bool → HowMany → HowMany → Type 0
HasReached i true old new = new ≡ with_game i old
HasReached i false old new = new ≡ old

pub record Reaches (i : ℕ) (reached : List Packed) (boards : List Packed) (met : List HowMany) (boards' : List Packed) (met' : List HowMany) : Type 0 where
  pub order : boards' ≡ insert_all packed_eq boards reached
  pub each : (board : Packed) → HasReached i (has_page board reached) (how_many boards met board) (how_many boards' met' board)

-- The first n games of a filter were counted.
pub record HaveReached (reach : Reach) (plies : List (Option ℕ)) (games : List GameTree) (n : ℕ) (boards : List Packed) (met : List HowMany) : Type 0 where
  pub order : boards ≡ met_below reach plies games n
  pub each : (board : Packed) → (how_many boards met board).games ≡ reaching_below reach plies games board n

-- How many boards so many games reach at least, and which these are.
abbrev pub count_from : List HowMany → ℕ → ℕ
count_from met least = length (filter (λ many. nat_le least many.games) met)

abbrev pub well_met : List Packed → List HowMany → ℕ → List Packed
well_met boards met least = filter (λ board. nat_le least (how_many boards met board).games) boards
