use Rattle.std.proofs.Common.{List, take, sym, ap, ◌∙◌, subst}
use Rattle.index_entry.specs.Entry.{entry_in}
use Rattle.index_entry.specs.declared.entry.Entry.{Entry}
use Rattle.name_base.specs.NamesText.{Frequencies}
use Rattle.base_core.specs.Counting.{HasUses, with_uses}
use Rattle.base_core.specs.Entries.{HasNames}
use Rattle.base_core.specs.Uses.{frequencies_of}
use Rattle.base_core.proofs.GamesLaws.{at-all}
use Rattle.base_core.proofs.Lists.{take_next}
use Rattle.base_core.proofs.UseLaws.{has-uses, uses-more}
use Rattle.base_core.proofs.uses.uses_of.Goals as goal

pub add-requires : goal.add-requires
add-requires c =
    let has = at-all (HasNames c.args.names.now) c.args.entries.now c.loop-i.i (entry_in c.packed.result.now) c.requires.named c.packed.ensures.at in
    let U : Frequencies → Type 0 = λ f. HasUses f (entry_in c.packed.result.now) in
    record { ids = subst U (sym c.loop-i.invariant.same) (has-uses c.args.names.now (take c.loop-i.i c.args.entries.now) (entry_in c.packed.result.now) has) }

pub loop-i-preserved : goal.loop-i-preserved
loop-i-preserved c =
    let has = at-all (HasNames c.args.names.now) c.args.entries.now c.loop-i.i (entry_in c.packed.result.now) c.requires.named c.packed.ensures.at in
    record {
      same = c.add.ensures.added
          ∙ (ap (λ (f : Frequencies). with_uses f (entry_in c.packed.result.now)) c.loop-i.invariant.same
          ∙ (uses-more c.args.names.now (take c.loop-i.i c.args.entries.now) (entry_in c.packed.result.now) has
          ∙ ap (λ (es : List Entry). frequencies_of c.args.names.now es) (sym (take_next c.args.entries.now c.loop-i.i (entry_in c.packed.result.now) c.packed.ensures.at))));
    }
