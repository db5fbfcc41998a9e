use Rattle.std.proofs.Common.{arith, rules}
use Rattle.std.specs.Vec.{with_items}
use Rattle.std.proofs.lemmas.List.{with_items_is}
use Rattle.game_filter.proofs.EntryLaws.{filled}
use Rattle.game_filter.proofs.entries.Entries.fill.Goals as goal

pub returns : goal.returns
returns c =
    let entries = c.self.inside in
    record {
      all = filled entries.inside.items entries.plies.items (with_items entries.inside c.fill-2.new.self).items (with_items entries.plies c.fill.new.self).items
          c.fill-2.new.self c.fill.new.self c.args.self.now c.self.view_is
          (omega (arith, entries.plies.ok.0, entries.inside.ok.0, c.self.invariant.1))
          (with_items_is entries.inside c.fill-2.new.self (search rules)) (with_items_is entries.plies c.fill.new.self (search rules)) (search rules) (search rules);
    }
