-- At which plies a game matches a search of a position (this project's own).
use Rattle.std.specs.Prelude.{◌≡◌, ◌<◌, ◌≤◌, ℕ, zero, suc, ◌+◌, ◌&&◌, ◌==◌, ◌⊎◌, nat_eq, if◌then◌else◌, Bool, true, false, IsTrue, List, Option, Some, None, map, option_map, slice_get}
use Rattle.std.specs.Cmp.Lexicographic.{pointwise}
use Rattle.std.specs.List.{find, list_all, range_with_len}
use Rattle.std.specs.Option.{option_eq, option_or}
use Rattle.cell_core.specs.declared.man.Colour.{Colour}
use Rattle.cell_core.specs.declared.man.Colour.TheVariants.{White, Black}
use Rattle.cell_core.specs.declared.man.Kind.TheVariants.{Pawn}
use Rattle.cell_core.specs.declared.man.Man.{Man}
use Rattle.cell_core.specs.declared.step.Move.{Move}
use Rattle.cell_core.specs.Board.{Men, man_at, same_men}
use Rattle.cell_core.specs.Man.{is_man, same_colour, same_kind}
use Rattle.cell_core.specs.Packed.{packed_of}
use Rattle.chess_laws.specs.Counts.{counts_of}
use Rattle.chess_laws.specs.Geometry.{square}
use Rattle.chess_laws.specs.declared.setup.Setup.{Setup}
use Rattle.game_codec.specs.Visits.{places}
use Rattle.game_tree.specs.Game.{GameTree}
use Rattle.game_tree.specs.Replay.{next_at, plies_of, position_at}
use Rattle.pos_index.specs.Hits.{IsLegalOn}
use Rattle.sig_index.specs.declared.pos_query.Mode.{Mode}
use Rattle.sig_index.specs.declared.pos_query.Mode.TheVariants.{Exact, Pawns, Files, Material}
use Rattle.sig_index.specs.declared.pos_query.PosQuery.{PosQuery}

-- Two boards have the same ten counts of men: queens, rooks, bishops, knights and pawns of each side.
unfoldable pub same_counts : Men → Men → Bool
same_counts a b = pointwise nat_eq (counts_of a) (counts_of b)

-- The side of the pawn on a square, if one stands there.
abbrev pub pawn_on : Option Man → Option Colour
pawn_on None = None
pawn_on (Some man) = if same_kind man.kind Pawn then Some man.colour else None

-- They have pawns of the same side on a square, or both none; and so on each square.
abbrev pub same_pawn : Men → Men → ℕ → Bool
same_pawn a b s = option_eq same_colour (pawn_on (man_at a s)) (pawn_on (man_at b s))

unfoldable pub same_pawns : Men → Men → Bool
same_pawns a b = list_all (same_pawn a b) (range_with_len 0 64)

-- The pawns of a side on a file, on its first so many ranks.
abbrev pub pawns_below : Men → Colour → ℕ → ℕ → ℕ
pawns_below men c file zero = 0
pawns_below men c file (suc rank) = pawns_below men c file rank + (if is_man c Pawn (man_at men (square file rank)) then 1 else 0)

-- They have as many pawns of each side on a file, and on each file.
abbrev pub same_file : Men → Men → ℕ → Bool
same_file a b file = (pawns_below a White file 8 == pawns_below b White file 8) && (pawns_below a Black file 8 == pawns_below b Black file 8)

unfoldable pub same_files : Men → Men → Bool
same_files a b = list_all (same_file a b) (range_with_len 0 8)

-- They have in common what a mode says.
abbrev pub alike : Mode → Men → Men → Bool
alike Exact a b = same_men a b
alike Pawns a b = same_counts a b && same_pawns a b
alike Files a b = same_counts a b && same_files a b
alike Material a b = same_counts a b

-- A position is one that is sought: the same side is to move, and its board has in common with the query's what the mode says. Castling
-- rights and the en passant square are not compared.
unfoldable pub matches : PosQuery → Setup → Bool
matches query p = same_colour p.side query.side && alike query.mode p.board query.board

-- A game matches after so many moves of its main line.
abbrev pub matches_at : PosQuery → GameTree → ℕ → Bool
matches_at query game ply = matches query (position_at game ply)

-- The first ply of the main line at which it matches, or none if it never does; ply 0 is the start.
abbrev pub first_on_main : PosQuery → GameTree → Option ℕ
first_on_main query game = find (λ ply. matches query (position_at game ply)) (range_with_len 0 (plies_of game + 1))

-- The ply of the first place in its variations, as they are written, whose position is one that is sought, if the query looks there.
abbrev pub is_sought : PosQuery → Setup × ℕ → Bool
is_sought query place = matches query place.0

abbrev pub first_if_aside : PosQuery → GameTree → Option ℕ
first_if_aside query game = if query.vars then option_map (λ (place : Setup × ℕ). place.1) (find (λ (place : Setup × ℕ). matches query place.0) (places game)) else None

-- The first ply of the main line, and if there is none that of the variations.
abbrev pub first_of : PosQuery → GameTree → Option ℕ
first_of query game = option_or (first_on_main query game) (first_if_aside query game)

-- The same as a relation: the game matches at this ply of its main line and at none before; or at none, and this is the ply of the first
-- place of its variations that does; or nowhere.
abbrev pub NoneOnMain : PosQuery → GameTree → Type 0
NoneOnMain query game = (ply : ℕ) → ply ≤ plies_of game → matches_at query game ply ≡ false

pub record FirstOnMain (query : PosQuery) (game : GameTree) (ply : ℕ) : Type 0 where
  pub within : ply ≤ plies_of game
  pub here : matches_at query game ply ≡ true
  pub before : (earlier : ℕ) → earlier < ply → matches_at query game earlier ≡ false

pub record FirstAside (query : PosQuery) (game : GameTree) (ply : ℕ) : Type 0 where
  pub looks : IsTrue query.vars
  pub none : NoneOnMain query game
  pub number : ℕ
  pub position : Setup
  pub place : slice_get (places game) number ≡ Some (position, ply)
  pub here : matches query position ≡ true
  pub before : (earlier : ℕ) (other : Setup × ℕ) → earlier < number → slice_get (places game) earlier ≡ Some other → is_sought query other ≡ false

abbrev pub NoneAside : PosQuery → GameTree → Type 0
NoneAside query game = (number : ℕ) (place : Setup × ℕ) → slice_get (places game) number ≡ Some place → is_sought query place ≡ false

abbrev pub FirstPly : PosQuery → GameTree → Option ℕ → Type 0
FirstPly query game (Some ply) = FirstOnMain query game ply ⊎ FirstAside query game ply
FirstPly query game None = NoneOnMain query game × (IsTrue query.vars → NoneAside query game)

-- That ply, and on the main line the move after it, if there is one. A place in a variation has none.
abbrev pub hit_on_main : PosQuery → GameTree → Option (ℕ × Option Move)
hit_on_main query game = option_map (λ ply. (ply, next_at game ply)) (first_on_main query game)

abbrev pub hit_of : PosQuery → GameTree → Option (ℕ × Option Move)
hit_of query game = option_or (hit_on_main query game) (option_map (λ ply. (ply, None)) (first_if_aside query game))

-- The first matching plies of all games.
abbrev pub firsts_of : PosQuery → List GameTree → List (Option ℕ)
firsts_of query games = map (first_of query) games

-- The move after a match of an exact search is legal in some position that keeps the rules, with the query's board and side to move.
abbrev pub IsLegalFrom : PosQuery → Option (ℕ × Option Move) → Type 0
IsLegalFrom query hit = (ply : ℕ) (m : Move) → query.mode ≡ Exact → hit ≡ Some (ply, Some m) → IsLegalOn (packed_of query.board query.side) m
