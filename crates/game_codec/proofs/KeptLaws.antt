-- The place behind a move, as the code keeps it.
use Rattle.std.proofs.Common.{◌≡◌, ℕ, zero, suc, ◌<◌, ◌≤◌, List, drop, ap, ◌∙◌, true, false, inl, inr, arith}
use Rattle.std.specs.Prelude.{◌⊎◌}
use Rattle.cell_core.specs.declared.step.Move.{Move}
use Rattle.move_codec.specs.Numbers.{Numbered}
use Rattle.game_codec.specs.Place.{Place, after_move, numbered_after}
use Rattle.game_codec.specs.Nests.{IsCalm, IsCalmBehind, IsKept, with_before}

pub calm : (bytes : List ℕ) (used : ℕ) → 0 < used → used ≤ 2 → IsCalmBehind bytes → IsCalm (drop used bytes)
calm bytes zero some few are = absurd (omega (arith, some))
calm bytes (suc zero) some few are = are.0
calm bytes (suc (suc zero)) some few are = are.1
calm bytes (suc (suc (suc more))) some few are = absurd (omega (arith, few))

pub kept_move : (p now : Place) (m : Move) (bytes : List ℕ) (used : ℕ) (n : Numbered) → now ≡ with_before now.before p
    → (now.before ≡ p.here) ⊎ IsCalmBehind bytes → 0 < used → used ≤ 2 → n ≡ numbered_after now.here m
    → IsKept (after_move p m) (record { depth = now.depth; before = now.before; here = n; has_move = true; has_comment = false }) (drop used bytes)
kept_move p now m bytes used n same (inl before) some few after =
    let depth : now.depth ≡ p.depth = ap (λ (q : Place). q.depth) same in
    let here : n ≡ numbered_after p.here m = after ∙ ap (λ (q : Place). numbered_after q.here m) same in
    inl (λ i. record { depth = depth i; before = before i; here = here i; has_move = true; has_comment = false })
kept_move p now m bytes used n same (inr are) some few after =
    let depth : now.depth ≡ p.depth = ap (λ (q : Place). q.depth) same in
    let here : n ≡ numbered_after p.here m = after ∙ ap (λ (q : Place). numbered_after q.here m) same in
    inr (
      λ i. record { depth = depth i; before = now.before; here = here i; has_move = true; has_comment = false },
      calm bytes used some few are,
    )
