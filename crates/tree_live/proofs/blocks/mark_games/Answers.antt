use Rattle.std.proofs.Common.{◌∙◌, ℕ, List, Option, None, length, set, sym, ap, arith}
use Rattle.std.proofs.lemmas.Option.{get_or_from_slice_get}
use Rattle.std.proofs.lemmas.List.{length-set}
use Rattle.tree_live.specs.Keeping.{entry_at, marked}
use Rattle.tree_live.specs.declared.entry.Entry.{Entry}
use Rattle.tree_live.specs.declared.marks.Marks.TheVariants.{Plies}
use Rattle.tree_live.proofs.GameLaws.{marks-more}
use Rattle.tree_live.proofs.blocks.mark_games.Goals as goal

pub mark-requires : goal.mark-requires
mark-requires c = record { game = omega (arith, c.loop-i.invariant.0, c.requires.within) }

pub loop-i-preserved : goal.loop-i-preserved
loop-i-preserved c =
    let read = sym (get_or_from_slice_get c.args.filter.now c.loop-i.i c.get.result None c.get.ensures.entry) in
    let put = c.in_ok-mark.ensures.games ∙ ap (λ (mark : Option ℕ). set c.loop-i.games c.loop-i.i (marked Plies (entry_at c.loop-i.games c.loop-i.i) mark)) read in (
      ap (λ (l : List Entry). length l) c.in_ok-mark.ensures.games ∙ length-set c.loop-i.games c.loop-i.i _ ∙ c.loop-i.invariant.0,
      λ before same first.
          marks-more Plies c.args.filter.now before c.loop-i.games c.mark.new.self c.loop-i.i (omega (arith, c.requires.within)) same
          (c.loop-i.invariant.1 before same first) put,
    )
