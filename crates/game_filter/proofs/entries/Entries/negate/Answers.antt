use Rattle.std.proofs.Common.{arith, rules}
use Rattle.std.specs.Vec.{with_items}
use Rattle.std.proofs.lemmas.List.{with_items_is}
use Rattle.game_filter.proofs.EntryLaws.{negation}
use Rattle.game_filter.proofs.entries.Entries.negate.Goals as goal

pub returns : goal.returns
returns c =
    let entries = c.self.inside in
    record {
      negated = negation entries.inside.items entries.plies.items (with_items entries.inside c.turn_words.new.words).items (with_items entries.plies c.fill.new.self).items
          c.turn_words.new.words c.fill.new.self c.args.self.now c.self.view_is
          (omega (arith, entries.plies.ok.0, entries.inside.ok.0, c.self.invariant.1))
          (with_items_is entries.inside c.turn_words.new.words (search rules)) (with_items_is entries.plies c.fill.new.self (search rules)) (search rules) (search rules);
    }
