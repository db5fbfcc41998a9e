-- Among the moves of all lines those of the main line are its replay.
use Rattle.std.proofs.Common.{◌≡◌, ℕ, suc, true, false, ◌∷◌, ◌++◌, List, refl, ap, ◌∙◌, append_assoc}
use Rattle.std.specs.Prelude.{filter}
use Rattle.chess_laws.specs.declared.setup.Setup.{Setup}
use Rattle.chess_laws.specs.Step.{stepped}
use Rattle.game_tree.specs.Game.{GameTree}
use Rattle.game_tree.specs.Replay.{main_moves}
use Rattle.game_tree.specs.Tree.{Line, ends, goes, Branches, none, more, moves_of}
use Rattle.game_codec.specs.Visits.{Visit, all_visits, branch_visits, line_visits, main_visits, visit_from}

mutual
  off_line : (p : Setup) (ply : ℕ) (line : Line) (rest : List Visit) → filter (λ (v : Visit). v.main) (line_visits false p ply line ++ rest) ≡ filter (λ (v : Visit). v.main) rest
  off_line p ply ends rest = refl
  off_line p ply (goes mv nags comment variations line) rest =
      let inner = branch_visits p ply variations in
      let later = line_visits false (stepped p mv) (suc ply) line in
      ap (filter (λ (v : Visit). v.main)) (append_assoc inner later rest)
      ∙ off_branches p ply variations (later ++ rest)
      ∙ off_line (stepped p mv) (suc ply) line rest

  off_branches : (p : Setup) (ply : ℕ) (variations : Branches) (rest : List Visit)
      → filter (λ (v : Visit). v.main) (branch_visits p ply variations ++ rest) ≡ filter (λ (v : Visit). v.main) rest
  off_branches p ply none rest = refl
  off_branches p ply (more lead line others) rest =
      let first = line_visits false p ply line in
      let later = branch_visits p ply others in
      ap (filter (λ (v : Visit). v.main)) (append_assoc first later rest)
      ∙ off_line p ply line (later ++ rest)
      ∙ off_branches p ply others rest

main_line : (p : Setup) (ply : ℕ) (line : Line) → filter (λ (v : Visit). v.main) (line_visits true p ply line) ≡ main_visits p ply (moves_of line)
main_line p ply ends = refl
main_line p ply (goes mv nags comment variations line) =
    ap (λ (vs : List Visit). visit_from true p ply mv ∷ vs)
    (off_branches p ply variations (line_visits true (stepped p mv) (suc ply) line) ∙ main_line (stepped p mv) (suc ply) line)

pub main_of : (game : GameTree) → filter (λ (v : Visit). v.main) (all_visits game) ≡ main_visits game.start 0 (main_moves game)
main_of game = main_line game.start 0 game.line
