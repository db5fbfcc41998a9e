use Rattle.std.proofs.Common.{List, ◌≡◌, ◌*◌, ◌+◌, ℕ, length, take, sym, ap, subst, ◌∙◌, arith}
use Rattle.std.proofs.lemmas.List.{length-set}
use Rattle.tree_live.specs.declared.entry.Entry.{Entry}
use Rattle.tree_live.specs.Keeping.{partly}
use Rattle.tree_live.specs.declared.marks.Marks.TheVariants.{Plies}
use Rattle.tree_live.proofs.GameLaws.{length-marks}
use Rattle.tree_live.proofs.BlockLaws.{blocks-after, partly-all}
use Rattle.tree_live.proofs.blocks.bring.Goals as goal

pub bring_block-requires-clause-same_games : goal.bring_block-requires-clause-same_games
bring_block-requires-clause-same_games c =
    c.requires.same_games
    ∙ sym (ap (λ (l : List Entry). length l) c.loop-k.invariant.0 ∙ length-marks Plies (take (64 * c.loop-k.k) c.args.filter.now) c.args.games.now)

pub loop-k-preserved : goal.loop-k-preserved
loop-k-preserved c =
    let next = c.in_ok-bring_block.ensures.games c.args.games.now c.requires.same_games c.loop-k.invariant.0 in
    let block = c.in_ok-bring_block.ensures.brought c.args.games.now c.requires.same_games c.loop-k.invariant.0 in
    let more : 64 * c.loop-k.k + 64 ≡ 64 * (c.loop-k.k + 1) = omega arith in (
      subst (λ (n : ℕ). c.bring_block.new.games ≡ partly n c.args.filter.now c.args.games.now) more next,
      (
        blocks-after c.loop-k.blocks c.bring_block.new.block c.args.games.now c.loop-k.games c.bring_block.new.games c.args.filter.now c.loop-k.k
            (omega (arith, c.loop-k.invariant.1.1, c.requires.blocks))
            c.requires.same_games c.loop-k.invariant.0 next c.loop-k.invariant.1.0 block,
        length-set c.loop-k.blocks c.loop-k.k c.bring_block.new.block ∙ c.loop-k.invariant.1.1,
      ),
    )
