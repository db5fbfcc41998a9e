use Rattle.std.proofs.Common.{ℕ, ◌<◌, ◌≤◌, ◌+◌, [], None, length, get_or, take, arith, refl, ap, sym, subst, ◌∙◌}
use Rattle.std.proofs.lemmas.List.{length-map}
use Rattle.std.proofs.lemmas.List.Elements.{All-nil}
use Rattle.std.proofs.lemmas.Option.{get_or_from_slice_get}
use Rattle.base_core.proofs.GamesLaws.{at-map}
use Rattle.base_core.proofs.Lists.{get_some}
use Rattle.base_core.specs.Entries.{extent_of, sig_in}
use Rattle.base_core.specs.Represents.{extents_of, sigs_of}
use Rattle.base_files.specs.Counters.{raised}
use Rattle.base_files.specs.Seen.{Seen}
use Rattle.game_filter.specs.declared.op.Op.TheVariants.{And}
use Rattle.pos_index.specs.Hits.{places_in}
use Rattle.game_search.specs.Questions.{cost_of}
use Rattle.pos_search.specs.Searching.{are_read, is_read}
use Rattle.pos_search.specs.Telling.{AreLegalHits}
use Rattle.pos_search.proofs.TellingLemmas.{read_at}
use Rattle.sig_index.specs.Costs.{price_by}
use Rattle.sig_index.specs.Games.{extent_in}
use Rattle.sig_index.proofs.CostLemmas.{asked_all, asked_more, least_more, price_all, price_front, price_more}
use Rattle.tree_rows.specs.Rows.{IsHit}
use Rattle.search_commands.proofs.TreeLaws.{no-keys, rows-all, rows-more}
use Rattle.search_commands.proofs.trees.read_rows.Goals as goal
use Rattle.shell_state.specs.Meeting.{tree_hits}

pub loop-i-init : goal.loop-i-init
loop-i-init g c = record {
  told = refl;
  legal = c.requires.legal;
  rows = λ contents all index same is told indexed. c.new-rows.ensures.none;
  counted = record { hits = []; summed = c.new-rows.ensures.none; few = omega arith; ranges = All-nil IsHit };
  keys = no-keys c.args.query.now c.new-rows.result c.new-rows.ensures.none;
  room = c.requires.room;
  seen = refl;
  asks = λ rows told. omega arith;
  asked = λ rows told. omega arith;
  files = omega arith;
}

pub returns-in-Err-clause-devices : goal.returns-in-Err-clause-devices
returns-in-Err-clause-devices g c = λ told all same is.
    c.in-Err.ensures.devices told all (ap (λ (s : Seen). s.games) c.loop-i.invariant.seen ∙ same) is

pub returns-in-Err-clause-asks : goal.returns-in-Err-clause-asks
returns-in-Err-clause-asks g c = λ rows told.
    let i = c.loop-i.i in
    let query = c.args.query.now in
    let kept = c.args.base.now in
    let extents = extents_of kept in
    let plies = c.args.filter.now in
    let here : i < length kept.entries = omega (arith, c.loop-i-test.true, c.len-i-end.ensures.len, c.requires.games) in
    let e = get_some kept.entries i here in
    let reads = are_read query rows (sigs_of kept) in
    let read = is_read query (places_in rows i) (sig_in e.0) in
    let cost = cost_of And in
    let first = g.F.Files.asked c.args.files.now in
    asked_all first (g.F.Files.asked c.add_game.new.files) (price_by cost (take (i + 1) reads) extents plies) (price_by cost reads extents plies)
    (asked_more first (g.F.Files.asked c.loop-i.files) (g.F.Files.asked c.add_game.new.files) (price_by cost (take i reads) extents plies)
    (cost read (extent_in extents i) c.get.result) (cost read (extent_in extents i) (get_or plies i None)) (price_by cost (take (i + 1) reads) extents plies)
    (c.loop-i.invariant.asks rows told) (c.add_game.ensures.asks (sig_in e.0) rows (at-map sig_in kept.entries i e.0 e.1) (c.loop-i.invariant.told ∙ told))
    (ap (cost read (extent_in extents i)) (sym (get_or_from_slice_get plies i c.get.result None c.get.ensures.entry)))
    (price_more cost reads extents plies i read (read_at query rows (sigs_of kept) i (sig_in e.0) (at-map sig_in kept.entries i e.0 e.1))
    (omega (arith, here, length-map kept.entries extent_of)) (omega (arith, here, c.requires.games))))
    (price_front cost reads extents plies (i + 1))

pub loop-i-preserved : goal.loop-i-preserved
loop-i-preserved g c =
    let i = c.loop-i.i in
    let query = c.args.query.now in
    let kept = c.args.base.now in
    let extents = extents_of kept in
    let plies = c.args.filter.now in
    let here : i < length kept.entries = omega (arith, c.loop-i-test.true, c.len-i-end.ensures.len, c.requires.games) in
    let e = get_some kept.entries i here in
    record {
      told = c.add_game.ensures.same ∙ c.loop-i.invariant.told;
      legal = subst (AreLegalHits query) (sym c.add_game.ensures.same) c.loop-i.invariant.legal;
      rows = λ contents all index same is told indexed.
          let held = get_some all.games i (omega (arith, here, is.count)) in
          rows-more query i plies all.games c.get.result held.0 c.add_game.new.rows c.get.ensures.entry held.1
          (c.in-Ok.ensures.added contents all held.0 index (tree_hits query (take i plies) (take i all.games)) (ap (λ (s : Seen). s.games) c.loop-i.invariant.seen ∙ same) is held.1
          (c.loop-i.invariant.told ∙ told) indexed (c.loop-i.invariant.rows contents all index same is told indexed));
      counted = c.in-Ok.ensures.counted;
      keys = c.in-Ok.ensures.keys c.loop-i.invariant.keys;
      room = c.add_game.ensures.room;
      seen = c.add_game.ensures.unchanged ∙ c.loop-i.invariant.seen;
      asks = λ rows told.
          let reads = are_read query rows (sigs_of kept) in
          let read = is_read query (places_in rows i) (sig_in e.0) in
          let cost = cost_of And in
          let first = g.F.Files.asked c.args.files.now in
          asked_more first (g.F.Files.asked c.loop-i.files) (g.F.Files.asked c.add_game.new.files) (price_by cost (take i reads) extents plies)
          (cost read (extent_in extents i) c.get.result) (cost read (extent_in extents i) (get_or plies i None)) (price_by cost (take (i + 1) reads) extents plies)
          (c.loop-i.invariant.asks rows told) (c.add_game.ensures.asks (sig_in e.0) rows (at-map sig_in kept.entries i e.0 e.1) (c.loop-i.invariant.told ∙ told))
          (ap (cost read (extent_in extents i)) (sym (get_or_from_slice_get plies i c.get.result None c.get.ensures.entry)))
          (price_more cost reads extents plies i read (read_at query rows (sigs_of kept) i (sig_in e.0) (at-map sig_in kept.entries i e.0 e.1))
          (omega (arith, here, length-map kept.entries extent_of)) (omega (arith, here, c.requires.games)));
      asked = λ rows told.
          let reads = are_read query rows (sigs_of kept) in
          let read = is_read query (places_in rows i) (sig_in e.0) in
          let cost = cost_of And in
          let first = g.F.Files.asked c.args.files.now in
          least_more first (g.F.Files.asked c.loop-i.files) (g.F.Files.asked c.add_game.new.files) (price_by cost (take i reads) extents plies)
          (cost read (extent_in extents i) c.get.result) (cost read (extent_in extents i) (get_or plies i None)) (price_by cost (take (i + 1) reads) extents plies)
          (c.loop-i.invariant.asked rows told) (c.in-Ok.ensures.asked (sig_in e.0) rows (at-map sig_in kept.entries i e.0 e.1) (c.loop-i.invariant.told ∙ told))
          (ap (cost read (extent_in extents i)) (sym (get_or_from_slice_get plies i c.get.result None c.get.ensures.entry)))
          (price_more cost reads extents plies i read (read_at query rows (sigs_of kept) i (sig_in e.0) (at-map sig_in kept.entries i e.0 e.1))
          (omega (arith, here, length-map kept.entries extent_of)) (omega (arith, here, c.requires.games)));
      files = omega (arith, c.add_game.ensures.causes.none_fell.files, c.loop-i.invariant.files);
    }

pub returns-clause-rows : goal.returns-clause-rows
returns-clause-rows g c = λ contents all index same is told indexed.
    let done : length c.args.filter.now ≤ c.loop-i.i = omega (arith, c.loop-i-test.false, c.len-i-end.ensures.len) in
    rows-all c.args.query.now c.loop-i.i c.args.filter.now all.games c.loop-i.rows done (omega (arith, done, c.requires.games, is.count))
    (c.loop-i.invariant.rows contents all index same is told indexed)

pub returns-clause-asks : goal.returns-clause-asks
returns-clause-asks g c = λ rows told.
    let kept = c.args.base.now in
    let reads = are_read c.args.query.now rows (sigs_of kept) in
    let cost = cost_of And in
    asked_all (g.F.Files.asked c.args.files.now) (g.F.Files.asked c.loop-i.files) (price_by cost (take c.loop-i.i reads) (extents_of kept) c.args.filter.now)
    (price_by cost reads (extents_of kept) c.args.filter.now) (c.loop-i.invariant.asks rows told) (price_front cost reads (extents_of kept) c.args.filter.now c.loop-i.i)

pub returns-clause-asked : goal.returns-clause-asked
returns-clause-asked g c = λ rows told.
    let kept = c.args.base.now in
    let reads = are_read c.args.query.now rows (sigs_of kept) in
    let past : length c.args.filter.now ≤ c.loop-i.i = omega (arith, c.loop-i-test.false, c.len-i-end.ensures.len) in
    subst (λ (n : ℕ). raised (g.F.Files.asked c.args.files.now) n ≤ g.F.Files.asked c.loop-i.files)
    (price_all (cost_of And) reads (extents_of kept) c.args.filter.now c.loop-i.i past) (c.loop-i.invariant.asked rows told)
