-- What boards have at least.
use Rattle.std.proofs.Common.{◌≡◌, ◌<◌, ◌≤◌, ◌+◌, ℕ, true, false, List, get_or, length, Some, take, sym, ap, subst, arith, inl, inr}
use Rattle.std.specs.Prelude.{All, max, min, slice_get}
use Rattle.std.proofs.lemmas.Bool.{cases_Bool}
use Rattle.std.proofs.lemmas.List.Elements.{All-more}
use Rattle.std.proofs.lemmas.Option.{get_or_from_slice_get, slice_get_within}
use Rattle.cell_core.specs.Packed.{ArePacked, Packed}
use Rattle.cell_core.specs.Board.{Men}
use Rattle.chess_laws.specs.Counts.{is_home}
use Rattle.chess_laws.specs.Position.{Sound}
use Rattle.game_tree.specs.Game.{GameTree}
use Rattle.game_tree.specs.Legal.{IsLegalGame}
use Rattle.game_tree.specs.Replay.{position_at}
use Rattle.pos_search.specs.Matching.{matches_at}
use Rattle.sig_index.proofs.PrefixLemmas.{stood_before}
use Rattle.book_pages.specs.Keeping.{AreMetNoMore, HasHomes, IsBoard, IsPast, men_in, query_of}
use Rattle.book_pages.proofs.HomeLemmas.{no_part}
use Rattle.pos_search.proofs.MenLemmas.{men_fall}
use Rattle.book_pages.proofs.PlaceLemmas.{matched, no_board}

lower : (old new : ℕ) (board : Packed) → new ≤ old → IsBoard old board → IsBoard new board
lower old new board less is = record { packed = is.packed; men = omega (arith, less, is.men) }

-- One board more of a list.
pub boards_more : (boards : List Packed) (k old one new : ℕ) (board : Packed) → k < length boards → new ≤ old → new ≤ one
    → IsBoard one board → board ≡ get_or boards k board → All (IsBoard old) (take k boards) → All (IsBoard new) (take (k + 1) boards)
boards_more boards k old one new board lt below beside is at all =
    All-more (IsBoard new) boards k board lt (λ i d less. lower old new _ below (all i d less))
    (subst (IsBoard new) at (lower one new board beside is))

pub lesser : (a b c : ℕ) → c ≡ min a b → (c ≤ a) × (c ≤ b)
lesser a b c is = (grind (arith, is), grind (arith, is))

pub greater : (a b c : ℕ) → c ≡ max a b → (a ≤ c) × (b ≤ c)
greater a b c is = (grind (arith, is), grind (arith, is))

pub each_packed : (fewest : ℕ) (boards : List Packed) → All (IsBoard fewest) boards → All (λ (board : Packed). ArePacked board.cells) boards
each_packed fewest boards all = λ i d less. (all i d less).packed

-- Where a game is past the boards, no position of it stands on one from then on: a pawn at home stood there before.
pub none_later : (fewest : ℕ) (homes : List ℕ) (boards : List Packed) (game : GameTree) (ply later k : ℕ) (board : Packed) → All (IsBoard fewest) boards
    → All (HasHomes homes) boards → IsPast fewest homes (position_at game ply).board → Sound game.start → IsLegalGame game → ply ≤ later
    → ((v : ℕ) → v < 16 → is_home (position_at game later).board v ≡ true → is_home (position_at game ply).board v ≡ true)
    → slice_get boards k ≡ Some board → matches_at (query_of board) game later ≡ false
none_later fewest homes boards game ply later k board all have past sound legal from stood there = elim (cases_Bool (matches_at (query_of board) game later)) [
  | inr fails ↦ fails
  | inl holds ↦
      let within = slice_get_within boards k board there in
      let same = get_or_from_slice_get boards k board no_board there in
      let is : IsBoard fewest board = subst (IsBoard fewest) same (all k no_board within) in
      let has : HasHomes homes board = subst (HasHomes homes) same (have k no_board within) in
      let on = matched board (position_at game later) holds in
      elim past [
        | inl few ↦ absurd (omega (arith, is.men, few, men_fall game ply later sound legal from, ap men_in on.1))
        | inr less ↦ absurd (no_part homes board (position_at game ply).board has less
            (λ v small home. stood v small (subst (λ (men : Men). is_home men v ≡ true) (sym on.1) home)))
      ]
]

pub no_more : (fewest : ℕ) (homes : List ℕ) (boards : List Packed) (game : GameTree) (ply : ℕ) → All (IsBoard fewest) boards → All (HasHomes homes) boards
    → IsPast fewest homes (position_at game ply).board → Sound game.start → IsLegalGame game → AreMetNoMore boards game ply
no_more fewest homes boards game ply all have past sound legal = λ k later board there after within.
    none_later fewest homes boards game ply later k board all have past sound legal (omega (arith, after))
    (λ v small home. stood_before game v ply later sound legal small (omega (arith, after)) within home) there
