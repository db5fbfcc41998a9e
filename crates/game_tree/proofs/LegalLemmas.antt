-- Legal lines, move by move.
use Rattle.std.proofs.Common.{◌≡◌, ℕ, ◌+◌, ◌<◌, zero, suc, List, ◌∷◌, Some, length, get_or, take, drop, refl, sym, ap, ◌∙◌, subst, add-one, arith}
use Rattle.std.specs.Prelude.{◌↔◌, fold, slice_get}
use Rattle.std.proofs.lemmas.List.{drop_more}
use Rattle.cell_core.specs.declared.step.Move.{Move}
use Rattle.chess_laws.specs.declared.setup.Setup.{Setup}
use Rattle.chess_laws.specs.Step.{Step, stepped}
use Rattle.chess_laws.proofs.Stepping.{Step-stepped}
use Rattle.game_tree.specs.Tree.{Line, ends, goes, Played, line_of, moves_of}
use Rattle.game_tree.specs.Game.{GameTree}
use Rattle.game_tree.specs.Replay.{plies_of, next_at, position_at}
use Rattle.game_tree.specs.Legal.{IsComment, IsLegalLine, AreLegalBranches, IsLegalGame}

here : (p q : Setup) (n : Played) (ns : List Played) → Step p n.mv q → IsComment n.comment → AreLegalBranches p n.variations → IsLegalLine q (line_of ns) ↔ IsLegalLine p (line_of (n ∷ ns))
here p q n ns step comment branches =
    let e = Step-stepped p n.mv q step in (
      λ rest. (subst (Step p n.mv) e step, (comment, (branches, subst (λ (r : Setup). IsLegalLine r (line_of ns)) e rest))),
      λ whole. subst (λ (r : Setup). IsLegalLine r (line_of ns)) (sym e) whole.1.1.1,
    )

-- One more move of a line: what is left is legal exactly where it was with this move.
pub IsLegalLine-more : (p q : Setup) (line : List Played) (i : ℕ) (n : Played) (whole : Type 0) → i < length line → n ≡ get_or line i n → Step p n.mv q → IsComment n.comment → AreLegalBranches p n.variations → (IsLegalLine p (line_of (drop i line)) ↔ whole) → (IsLegalLine q (line_of (drop (i + 1) line)) ↔ whole)
IsLegalLine-more p q line i n whole under item step comment branches before =
    let left : drop i line ≡ n ∷ drop (i + 1) line = drop_more line i n under ∙ ap (λ (m : Played). m ∷ drop (i + 1) line) (sym item) in
    let one = here p q n (drop (i + 1) line) step comment branches in
    let with_it = subst (λ (ns : List Played). IsLegalLine p (line_of ns) ↔ whole) left before in
    (λ rest. with_it.0 (one.0 rest), λ all. one.1 (with_it.1 all))

line_next : (p : Setup) (l : Line) → IsLegalLine p l → (k : ℕ) → k < length (moves_of l) → (m : Move) × ((slice_get (moves_of l) k ≡ Some m) × Step (fold stepped p (take k (moves_of l))) m (fold stepped p (take (suc k) (moves_of l))))
line_next p ends legal k under = absurd (omega (arith, under))
line_next p (goes mv nags comment variations line) legal zero under = (mv, (refl, legal.0))
line_next p (goes mv nags comment variations line) legal (suc k) under = line_next (stepped p mv) line legal.1.1.1 k (omega (arith, under))

-- The replay of a legal game goes by legal moves, one for each ply.
pub IsLegalGame-next : (g : GameTree) → IsLegalGame g → (k : ℕ) → k < plies_of g → (m : Move) × ((next_at g k ≡ Some m) × Step (position_at g k) m (position_at g (k + 1)))
IsLegalGame-next g legal k under = rw add-one (line_next g.start g.line legal.line k under)
