-- The position at the end of a main line, move by move.
use Rattle.std.proofs.Common.{◌≡◌, ℕ, ◌+◌, ◌<◌, ◌≤◌, List, ◌∷◌, length, get_or, drop, sym, ap, ◌∙◌, subst, arith}
use Rattle.std.specs.Prelude.{fold}
use Rattle.std.proofs.lemmas.List.{drop_all, drop_more, take_all}
use Rattle.cell_core.specs.declared.step.Move.{Move}
use Rattle.chess_laws.specs.Step.{Step, stepped}
use Rattle.chess_laws.specs.declared.setup.Setup.{Setup}
use Rattle.chess_laws.proofs.Stepping.{Step-stepped}
use Rattle.game_tree.specs.Game.{GameTree}
use Rattle.game_tree.specs.Legal.{IsLegalGame, IsLegalLine}
use Rattle.game_tree.specs.Replay.{main_moves, plies_of, position_at}
use Rattle.game_tree.specs.Tree.{Line, Played, line_of, moves_of}

-- What is left of a main line goes on from a position, and leads to the last one of the game.
pub record Ends (game : GameTree) (line : Line) (position : Setup) : Type 0 where
  pub legal : IsLegalLine position line
  pub last : fold stepped position (moves_of line) ≡ position_at game (plies_of game)

pub Ends-begin : (game : GameTree) (line : List Played) (p : Setup) → IsLegalGame game → game.line ≡ line_of line → p ≡ game.start → Ends game (line_of line) p
Ends-begin game line p legal same at = rw at (record {
  legal = subst (IsLegalLine game.start) same legal.line;
  last = ap (λ (l : Line). fold stepped game.start (moves_of l)) (sym same)
      ∙ ap (λ (moves : List Move). fold stepped game.start moves) (sym (take_all (plies_of game) (main_moves game) (omega arith)));
})

pub Ends-more : (game : GameTree) (line : List Played) (i : ℕ) (n : Played) (p q : Setup) → i < length line → n ≡ get_or line i n
    → Ends game (line_of (drop i line)) p → Step p n.mv q → Ends game (line_of (drop (i + 1) line)) q
Ends-more game line i n p q under item ends step =
    let rest : drop i line ≡ n ∷ drop (i + 1) line = drop_more line i n under ∙ ap (λ (m : Played). m ∷ drop (i + 1) line) (sym item) in
    let all = subst (λ (ns : List Played). Ends game (line_of ns) p) rest ends in
    let e = Step-stepped p n.mv q step in
    record {
      legal = subst (λ (s : Setup). IsLegalLine s (line_of (drop (i + 1) line))) (sym e) all.legal.1.1.1;
      last = ap (λ (s : Setup). fold stepped s (moves_of (line_of (drop (i + 1) line)))) e ∙ all.last;
    }

pub Ends-all : (game : GameTree) (line : List Played) (i : ℕ) (p : Setup) → length line ≤ i → Ends game (line_of (drop i line)) p → p ≡ position_at game (plies_of game)
Ends-all game line i p over ends =
    let all = subst (λ (ns : List Played). Ends game (line_of ns) p) (drop_all i line over) ends in
    all.last
