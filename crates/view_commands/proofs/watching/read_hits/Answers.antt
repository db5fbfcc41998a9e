use Rattle.std.proofs.Common.{◌≡◌, ◌<◌, ◌≤◌, ◌+◌, List, Option, length, map, option_copied, refl, arith, ap, sym, subst, ◌∙◌}
use Rattle.base_core.proofs.Lists.{get_some}
use Rattle.base_files.specs.Seen.{Seen}
use Rattle.index_entry.specs.declared.index.IndexHead.{IndexHead}
use Rattle.pos_index.specs.Hits.{rows_told}
use Rattle.pos_search.specs.Telling.{AreLegalHits, hits_told}
use Rattle.shell_state.specs.Slots.{hit_of_game}
use Rattle.sig_index.specs.declared.pos_query.PosQuery.{PosQuery}
use Rattle.tree_rows.specs.declared.hit.GameHit.{GameHit}
use Rattle.view_commands.proofs.PriceLaws.{asks_all, asks_more, hits_all, hits_next, price_of_all}
use Rattle.view_commands.proofs.watching.read_hits.Goals as goal

pub loop-i-init : goal.loop-i-init
loop-i-init g c = record {
  told = c.hits_told-told.ensures.told ∙ ap (λ (q : PosQuery). hits_told q (rows_told (option_copied c.args.index))) (sym c.new-sought.ensures.query);
  legal = subst (λ (q : PosQuery). AreLegalHits q c.hits_told-told.result) (sym c.new-sought.ensures.query) c.hits_told-told.ensures.legal;
  hits = λ told all same is indexed. c.new-hits.ensures.items;
  number = ap (λ (l : List (Option GameHit)). length l) c.new-hits.ensures.items;
  room = c.requires.room;
  seen = refl;
  asks = λ plies count. omega arith;
  files = omega arith;
}

pub read_hit-requires-clause-within : goal.read_hit-requires-clause-within
read_hit-requires-clause-within g c = omega (arith, c.requires.within, ap (λ (s : Seen). s.known) c.loop-i.invariant.seen)

pub returns-in-Err-clause-devices : goal.returns-in-Err-clause-devices
returns-in-Err-clause-devices g c = λ told all same is.
    c.in-Err.ensures.devices told all (ap (λ (s : Seen). s.games) c.loop-i.invariant.seen ∙ same) is

pub returns-in-Err-clause-asks : goal.returns-in-Err-clause-asks
returns-in-Err-clause-asks g c = λ plies count.
    let i = c.loop-i.i in
    let kept = c.args.base.now in
    let query = c.new-sought.result in
    let rows = rows_told (option_copied c.args.index) in
    let here : i < length kept.entries = omega (arith, c.loop-i-test.true, ap (λ (h : IndexHead). h.games) c.header.ensures.header, c.requires.sound.count) in
    let first = g.F.Files.asked c.args.files.now in
    let new = g.F.Files.asked c.read_hit.new.files in
    subst (λ (q : PosQuery). new ≤ first + price_of_all q rows kept plies) c.new-sought.ensures.query
    (asks_all query rows kept plies (i + 1) first new
    (asks_more query rows kept plies i first (g.F.Files.asked c.loop-i.files) new here count (c.loop-i.invariant.asks plies count)
    (λ sig at. c.read_hit.ensures.asks sig rows at c.loop-i.invariant.told)))

pub returns-in_err-push-in-Ok-clause-asks : goal.returns-in_err-push-in-Ok-clause-asks
returns-in_err-push-in-Ok-clause-asks g c = λ plies count.
    let i = c.loop-i.i in
    let kept = c.args.base.now in
    let query = c.new-sought.result in
    let rows = rows_told (option_copied c.args.index) in
    let here : i < length kept.entries = omega (arith, c.loop-i-test.true, ap (λ (h : IndexHead). h.games) c.header.ensures.header, c.requires.sound.count) in
    let first = g.F.Files.asked c.args.files.now in
    let new = g.F.Files.asked c.read_hit.new.files in
    subst (λ (q : PosQuery). new ≤ first + price_of_all q rows kept plies) c.new-sought.ensures.query
    (asks_all query rows kept plies (i + 1) first new
    (asks_more query rows kept plies i first (g.F.Files.asked c.loop-i.files) new here count (c.loop-i.invariant.asks plies count)
    (λ sig at. c.read_hit.ensures.asks sig rows at c.loop-i.invariant.told)))

pub loop-i-preserved : goal.loop-i-preserved
loop-i-preserved g c =
    let i = c.loop-i.i in
    let kept = c.args.base.now in
    let query = c.new-sought.result in
    let rows = rows_told (option_copied c.args.index) in
    let here : i < length kept.entries = omega (arith, c.loop-i-test.true, ap (λ (h : IndexHead). h.games) c.header.ensures.header, c.requires.sound.count) in
    record {
      told = c.read_hit.ensures.same ∙ c.loop-i.invariant.told;
      legal = subst (AreLegalHits query) (sym c.read_hit.ensures.same) c.loop-i.invariant.legal;
      hits = λ contents all same is indexed.
          let held = get_some all.games i (omega (arith, here, is.count)) in
          hits_next query all.games i held.0 c.loop-i.hits.items c.push.new.self.items c.in-Ok.hit held.1 (c.loop-i.invariant.hits contents all same is indexed)
          (c.in-Ok.ensures.hit contents all held.0 (option_copied c.args.index) (ap (λ (s : Seen). s.games) c.loop-i.invariant.seen ∙ same) is held.1 c.loop-i.invariant.told indexed)
          c.in_ok-push-in-Ok.ensures.items;
      number = omega (arith, c.in_ok-push-in-Ok.ensures.len, c.loop-i.invariant.number);
      room = c.read_hit.ensures.room;
      seen = c.read_hit.ensures.unchanged ∙ c.loop-i.invariant.seen;
      asks = λ plies count.
          asks_more query rows kept plies i (g.F.Files.asked c.args.files.now) (g.F.Files.asked c.loop-i.files) (g.F.Files.asked c.read_hit.new.files) here count
          (c.loop-i.invariant.asks plies count) (λ sig at. c.read_hit.ensures.asks sig rows at c.loop-i.invariant.told);
      files = omega (arith, c.read_hit.ensures.causes.none_fell.files, c.loop-i.invariant.files);
    }

pub returns-clause-hits : goal.returns-clause-hits
returns-clause-hits g c = λ told all same is indexed.
    subst (λ (q : PosQuery). c.loop-i.hits.items ≡ map (hit_of_game q) all.games) c.new-sought.ensures.query
    (hits_all c.new-sought.result all.games c.loop-i.i c.loop-i.hits.items
    (omega (arith, c.loop-i-test.false, ap (λ (h : IndexHead). h.games) c.header.ensures.header, c.requires.sound.count, is.count))
    (c.loop-i.invariant.hits told all same is indexed))

pub returns-clause-asks : goal.returns-clause-asks
returns-clause-asks g c = λ plies count.
    let rows = rows_told (option_copied c.args.index) in
    let first = g.F.Files.asked c.args.files.now in
    let new = g.F.Files.asked c.loop-i.files in
    subst (λ (q : PosQuery). new ≤ first + price_of_all q rows c.args.base.now plies) c.new-sought.ensures.query
    (asks_all c.new-sought.result rows c.args.base.now plies c.loop-i.i first new (c.loop-i.invariant.asks plies count))
