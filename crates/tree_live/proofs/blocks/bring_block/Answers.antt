use Rattle.std.proofs.Common.{◌≡◌, ◌*◌, ◌+◌, ℕ, Option, IfSome, length, subst, sym, ◌∙◌, inl, inr, arith}
use Rattle.tree_live.specs.Keeping.{TellsBlock}
use Rattle.tree_live.proofs.BlockLaws.{block-already, block-told, partly-end}
use Rattle.tree_live.proofs.blocks.bring_block.Goals as goal

pub returns-then-known-marks-clause-games : goal.returns-then-known-marks-clause-games
returns-then-known-marks-clause-games c before same so_far =
    let told = subst (λ (block : Option ℕ). IfSome block (TellsBlock c.args.games.now c.args.k)) c.in-Some.is c.requires.brought in
    block-already c.args.filter.now before c.args.games.now c.args.k c.block-marks.result same so_far
    (subst (TellsBlock c.args.games.now c.args.k) c.if-known-marks.true told) c.block-marks.ensures.marks

pub overflow_mul-first : goal.overflow_mul-first
overflow_mul-first c = omega (arith, c.len-len.type_inv, c.len-len.ensures.len, c.requires.there)

pub returns-clause-games : goal.returns-clause-games
returns-clause-games c before same so_far =
    partly-end c.args.filter.now before c.mark_games.new.games c.end_behind.result (64 * c.args.k + 64)
    (c.in_ok-mark_games.ensures.games before same so_far)
    (elim c.end_behind.ensures.end [
      | inl past ↦ inl past
      | inr last ↦ inr (last ∙ c.len-len.ensures.len, omega (arith, last, c.len-len.ensures.len, c.end_behind.ensures.most))
    ])

pub returns-clause-brought : goal.returns-clause-brought
returns-clause-brought c before same so_far =
    block-told c.args.filter.now before c.mark_games.new.games c.args.k c.end_behind.result c.block-marks.result same
    (c.in_ok-mark_games.ensures.games before same so_far)
    (elim c.end_behind.ensures.end [
      | inl past ↦ inl past
      | inr last ↦ inr (last ∙ c.len-len.ensures.len)
    ]) c.block-marks.ensures.marks
