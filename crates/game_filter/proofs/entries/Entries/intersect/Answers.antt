use Rattle.std.proofs.Common.{arith, get_or, rules, ◌∙◌}
use Rattle.std.specs.Int.Bits.{bit_and}
use Rattle.std.specs.Vec.{with_items}
use Rattle.std.proofs.lemmas.List.{with_items_is}
use Rattle.game_filter.proofs.EntryLaws.{common, entries-size, length-entries}
use Rattle.game_filter.proofs.entries.Entries.intersect.Goals as goal

pub keep_common-requires : goal.keep_common-requires
keep_common-requires c =
    let own = c.self.inside in
    let other = c.other.inside in
    record {
      same_count = omega (
        arith,
        c.as_mut_slice.ensures.len,
        c.as_slice.ensures.len,
        entries-size own.inside.items own.plies.items c.args.self.now c.self.view_is,
        entries-size other.inside.items other.plies.items c.args.other.now c.other.view_is,
        c.requires.same_games,
        own.plies.ok.0,
        other.plies.ok.0,
        c.self.invariant.1,
        c.other.invariant.1,
      );
    }

pub returns : goal.returns
returns c =
    let own = c.self.inside in
    let other = c.other.inside in
    let new = with_items own.inside c.keep_common.new.words in
    record {
      both = common own.inside.items other.inside.items own.plies.items other.plies.items new.items c.keep_common.new.words c.args.self.now c.args.other.now
          c.self.view_is c.other.view_is c.requires.same_games (omega (arith, own.plies.ok.0, own.inside.ok.0, c.self.invariant.1))
          (with_items_is own.inside c.keep_common.new.words (search rules))
          (λ k below. c.keep_common.ensures.both k (omega (arith, below, c.as_mut_slice.ensures.len, own.inside.ok.0))
          ∙ (λ i. bit_and (get_or (c.as_mut_slice.ensures.value i) k 0) (get_or (c.as_slice.ensures.value i) k 0)));
      len = length-entries 0 new.items own.plies.items ∙ entries-size own.inside.items own.plies.items c.args.self.now c.self.view_is;
    }
