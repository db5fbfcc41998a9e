-- An enemy's square, or the en passant square.
use Rattle.chess_laws.proofs.Words.{◌≡◌, inl, inr, Some, sym, ap, ◌∙◌}
use Rattle.chess_laws.specs.Targets.{MayTake}
use Rattle.chess_laws.proofs.Sets.{own_told}
use Rattle.chess_laws.proofs.targets.takeable.Goals as goal

pub returns-in-Some : goal.returns-in-Some
unfolding MayTake
returns-in-Some c = λ b.
    let enemy = own_told c.args.p.now.board c.other.result c.of_colour-enemies.result b c.of_colour-enemies.ensures.squares in (
      λ set. elim (c.with_bit.ensures.only b set) [
        | inl was ↦ inl (rw c.other.ensures.side at (enemy.0 was))
        | inr here ↦ inr (c.in-Some.is ∙ ap Some (sym (here ∙ c.index.ensures.number)))
      ],
      λ take. elim take [
        | inl on ↦ c.with_bit.ensures.kept b (enemy.1 (rw (← c.other.ensures.side) at on))
        | inr here ↦ let same : c.in-Some.s ≡ b = cc (c.in-Some.is, here) in rw (← same, ← c.index.ensures.number) c.with_bit.ensures.set
      ],
    )

pub returns-in-None : goal.returns-in-None
unfolding MayTake
returns-in-None c = λ b.
    let enemy = own_told c.args.p.now.board c.other.result c.of_colour-enemies.result b c.of_colour-enemies.ensures.squares in
    rw (← c.other.ensures.side) (λ set. inl (enemy.0 set), λ take. elim take [ inl on ↦ enemy.1 on | inr here ↦ absurd (cc (c.in-None.is, here)) ])
