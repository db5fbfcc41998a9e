use Rattle.std.proofs.Common.{◌≡◌, None, length, replicate, sym, ap, ◌∙◌}
use Rattle.game_filter.specs.Filter.{all_in}
use Rattle.index_entry.specs.declared.index.IndexHead.{IndexHead}
use Rattle.shell_state.proofs.Beginning.{begins_by}
use Rattle.shell_state.proofs.machine.Machine.new.Goals as goal
use Rattle.shell_state.specs.Slots.{tables_in}
use Rattle.tree_live.specs.Slots.{Slotted}

pub returns-clause-begins : goal.returns-clause-begins
returns-clause-begins c =
    let e : c.in_ok-filter.filter ≡ all_in (length c.args.base.entries) =
    c.in_ok-filter.ensures.all ∙ (ap (λ (h : IndexHead). all_in h.games) c.header.ensures.header ∙ ap all_in (sym c.header.ensures.sound.count)) in
    let hits : tables_in c.new-2.result.watches ≡ replicate 8 None = ap (λ (slots : Slotted). tables_in slots.watches) c.new-2.ensures.none in
    begins_by c.args.base _ c.header.ensures.sound (cc)
