-- The first moves of a main line, one after the other.
use Rattle.std.proofs.Common.{◌≡◌, ℕ, ◌+◌, ◌≤◌, zero, suc, List, [], ◌∷◌, ◌++◌, take, None, Some, sym, ap, ◌∙◌, arith, add-one}
use Rattle.std.specs.Prelude.{slice_get}
use Rattle.std.proofs.lemmas.List.{take_all}
use Rattle.cell_core.specs.declared.step.Move.{Move}
use Rattle.game_tree.specs.Game.{GameTree}
use Rattle.game_tree.specs.Replay.{main_moves, next_at}
use Rattle.sig_index.proofs.RecordLemmas.{no_next}
use Rattle.twin_games.specs.Twins.{first_moves}

next_taken : (moves : List Move) (k : ℕ) (m : Move) → slice_get moves k ≡ Some m → take (suc k) moves ≡ take k moves ++ m ∷ []
next_taken [] k m there = absurd (cc)
next_taken (x ∷ moves) zero m there = ap (λ (first : Move). first ∷ []) (let same : x ≡ m = cc in same)
next_taken (x ∷ moves) (suc k) m there = ap (λ (rest : List Move). x ∷ rest) (next_taken moves k m there)

-- A move more was played.
pub one_more : (game : GameTree) (moves after : List Move) (k next : ℕ) (m : Move) → moves ≡ first_moves k game → after ≡ moves ++ m ∷ [] → Some m ≡ next_at game k → next ≡ k + 1
    → after ≡ first_moves next game
one_more game moves after k next m so_far pushed there is =
    pushed ∙ ap (λ (front : List Move). front ++ m ∷ []) so_far ∙ sym (next_taken (main_moves game) k m (sym there))
    ∙ ap (λ (n : ℕ). take n (main_moves game)) (sym (is ∙ add-one k))

-- The line ends before the depth.
pub line_ends : (game : GameTree) (moves : List Move) (k depth : ℕ) → moves ≡ first_moves k game → k ≤ depth → None ≡ next_at game k → moves ≡ first_moves depth game
line_ends game moves k depth so_far within over =
    let last = no_next game k (sym over) in
    so_far ∙ take_all k (main_moves game) last ∙ sym (take_all depth (main_moves game) (omega (arith, last, within)))
