-- Which games of a base are twins of earlier ones (this project's own).
use Rattle.std.specs.Prelude.{◌≡◌, ◌<◌, ◌==◌, ◌&&◌, ℕ, nat_eq, not, Bool, false, None, List, filter, length, slice_index_or, take}
use Rattle.std.specs.Cmp.Lexicographic.{pointwise}
use Rattle.std.specs.List.{list_any, range_with_len}
use Rattle.std.specs.Option.{option_eq}
use Rattle.std.specs.Str.{bytes_eq}
use Rattle.cell_core.specs.declared.step.Move.{Move}
use Rattle.cell_core.specs.Board.{same_men}
use Rattle.cell_core.specs.Man.{same_colour, same_kind}
use Rattle.chess_laws.specs.declared.setup.Setup.{Setup}
use Rattle.chess_laws.specs.Position.{bits_of, start_setup}
use Rattle.game_tree.specs.Game.{GameTree}
use Rattle.game_tree.specs.Outcome.{outcome_number}
use Rattle.game_tree.specs.Replay.{main_moves}
use Rattle.game_tree.specs.Tree.{ends}
use Rattle.game_tree.specs.declared.date.Date.{Date}
use Rattle.game_tree.specs.declared.head.Head.{Head}
use Rattle.sig_index.specs.Games.{head_in}

-- A game without moves from the initial position.
abbrev pub no_game : GameTree
no_game = record { start = start_setup; lead = None; line = ends }

-- The game with a number; past the last one, one without moves.
abbrev pub game_in : List GameTree → ℕ → GameTree
game_in games i = slice_index_or games i no_game

-- The first moves of a main line, so many of them, or all if the line ends before.
abbrev pub first_moves : ℕ → GameTree → List Move
first_moves depth game = take depth (main_moves game)

-- Two heads agree: in the names of White and Black, byte by byte, in the date and in the result.
pub record Agree (a b : Head) : Type 0 where
  pub white : a.white ≡ b.white
  pub black : a.black ≡ b.black
  pub date : a.date ≡ b.date
  pub result : a.result ≡ b.result

-- Two games begin alike: at the same position, with the same first moves.
pub record BeginAlike (depth : ℕ) (a b : GameTree) : Type 0 where
  pub start : a.start ≡ b.start
  pub moves : first_moves depth a ≡ first_moves depth b

-- Game i is a twin: it is undeleted, and some undeleted game before it agrees with it and begins like it.
pub record Twin (heads : List Head) (games : List GameTree) (depth i : ℕ) : Type 0 where
  pub there : i < length heads
  pub undeleted : (head_in heads i).deleted ≡ false
  pub earlier : ℕ
  pub before : earlier < i
  pub earlier_undeleted : (head_in heads earlier).deleted ≡ false
  pub agree : Agree (head_in heads earlier) (head_in heads i)
  pub begin_alike : BeginAlike depth (game_in games earlier) (game_in games i)

-- The same as tests.
abbrev pub same_date : Date → Date → Bool
same_date a b = (a.year == b.year) && ((a.month == b.month) && (a.day == b.day))

unfoldable pub agrees : Head → Head → Bool
agrees a b =
    bytes_eq a.white b.white && (bytes_eq a.black b.black && (same_date a.date b.date && (outcome_number a.result == outcome_number b.result)))

abbrev pub same_start : Setup → Setup → Bool
same_start a b = same_men a.board b.board && (same_colour a.side b.side && ((bits_of a.rights == bits_of b.rights) && option_eq nat_eq a.en_passant b.en_passant))

abbrev pub same_move : Move → Move → Bool
same_move a b = (a.from == b.from) && ((a.to == b.to) && option_eq same_kind a.promo b.promo)

unfoldable pub begins_like : ℕ → GameTree → GameTree → Bool
begins_like depth a b = same_start a.start b.start && pointwise same_move (first_moves depth a) (first_moves depth b)

-- Game j is undeleted, agrees with game i and begins like it.
abbrev pub matches : List Head → List GameTree → ℕ → ℕ → ℕ → Bool
matches heads games depth i j =
    not (head_in heads j).deleted && (agrees (head_in heads j) (head_in heads i) && begins_like depth (game_in games j) (game_in games i))

abbrev pub is_twin : List Head → List GameTree → ℕ → ℕ → Bool
is_twin heads games depth i = not (head_in heads i).deleted && list_any (matches heads games depth i) (range_with_len 0 i)

-- The numbers of the twins, in order.
abbrev pub twins_of : List Head → List GameTree → ℕ → List ℕ
twins_of heads games depth = filter (is_twin heads games depth) (range_with_len 0 (length heads))
