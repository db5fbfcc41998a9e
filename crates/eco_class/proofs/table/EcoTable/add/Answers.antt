use Rattle.std.proofs.Common.{List, sym, ap, ◌∙◌, subst}
use Rattle.cell_core.specs.Packed.{Packed}
use Rattle.indexmap.proofs.CallerLemmas.{insert_entry-new}
use Rattle.eco_class.specs.declared.table.Named.{Named}
use Rattle.eco_class.specs.Kept.{IsKept, men_in}
use Rattle.eco_class.proofs.KeptLemmas.{entries_few, gives_back, joined_new, kept_more, lesser, not_found}
use Rattle.eco_class.proofs.table.EcoTable.add.Goals as goal

pub invariant_of-self-2 : goal.invariant_of-self-2
invariant_of-self-2 c =
    let key = c.pack-key.result in
    let entries = c.self.inside.lines.entries in
    let back = gives_back _ _ key c.pack-key.ensures.packed c.pack-key.ensures.given_back in
    let absent = not_found c.self.inside.least entries c.args.self.now key back c.self.invariant c.self.view_is (sym c.in_default.ensures.line) in
    let less = lesser c.self.inside.least c.men_in.result c.min-self-inside.result c.min-self-inside.ensures in
    subst (λ (after : List (Packed × Named)). IsKept after c.min-self-inside.result)
    (sym (c.in_ok-insert.ensures.entries ∙ insert_entry-new _ c.self.inside.lines key _ absent))
    (kept_more c.self.inside.least c.men_in.result c.min-self-inside.result entries (key, record { line = c.args.number; code = c.args.code }) c.self.invariant
    (entries_few entries c.args.self.now c.self.view_is c.requires.few) back c.requires.code.0 c.requires.code.1
    (c.men_in.ensures.men ∙ ap men_in (sym (c.pack-key.ensures.given_back ∙ c.board.ensures.board))) less.0 less.1)

pub returns-clause-table : goal.returns-clause-table
returns-clause-table c =
    let key = c.pack-key.result in
    let entries = c.self.inside.lines.entries in
    let back = gives_back _ _ key c.pack-key.ensures.packed c.pack-key.ensures.given_back in
    let absent = not_found c.self.inside.least entries c.args.self.now key back c.self.invariant c.self.view_is (sym c.in_default.ensures.line) in
    joined_new c.args.self.now c.args.number c.args.code c.args.place.now key entries c.insert.new.self.entries
    (c.pack-key.ensures.given_back ∙ c.board.ensures.board) (ap (λ (k : Packed). k.side) c.pack-key.ensures.packed ∙ c.side.ensures.side)
    (sym c.in_default.ensures.line) c.self.view_is (c.in_ok-insert.ensures.entries ∙ insert_entry-new _ c.self.inside.lines key _ absent)
