use Rattle.std.proofs.Common.{◌++◌, arith}
use Rattle.tree_rows.proofs.Dropping.{drops-of, drop-within, drop-counted, drop-gone, drop-smaller}
use Rattle.tree_rows.proofs.rows.Rows.drop_hit.Goals as goal

pub index-requires : goal.index-requires
index-requires c =
    let drops = drops-of c.as_slice.result.now c.self.inside.rows.items c.args.self.now c.requires.counted.before c.requires.counted.behind c.args.hit.now
    c.as_slice.ensures.value c.self.view_is c.requires.counted.summed in
    let within = drop-within c.as_slice.result.now c.self.inside.rows.items _ c.args.hit.now c.place_in-place.result c.as_slice.ensures.value c.place_in-place.ensures.place drops in
    omega (arith, within, c.self.inside.rows.ok.0)

pub remove-requires : goal.remove-requires
remove-requires c =
    let drops = drops-of c.as_slice.result.now c.self.inside.rows.items c.args.self.now c.requires.counted.before c.requires.counted.behind c.args.hit.now
    c.as_slice.ensures.value c.self.view_is c.requires.counted.summed in
    let within = drop-within c.as_slice.result.now c.self.inside.rows.items _ c.args.hit.now c.place_in-place.result c.as_slice.ensures.value c.place_in-place.ensures.place drops in
    omega (arith, within, c.self.inside.rows.ok.0)

pub index_mut-requires : goal.index_mut-requires
index_mut-requires c =
    let drops = drops-of c.as_slice.result.now c.self.inside.rows.items c.args.self.now c.requires.counted.before c.requires.counted.behind c.args.hit.now
    c.as_slice.ensures.value c.self.view_is c.requires.counted.summed in
    let within = drop-within c.as_slice.result.now c.self.inside.rows.items _ c.args.hit.now c.place_in-place.result c.as_slice.ensures.value c.place_in-place.ensures.place drops in
    omega (arith, within, c.self.inside.rows.ok.0)

pub drop_hit-requires : goal.drop_hit-requires
drop_hit-requires c =
    let drops = drops-of c.as_slice.result.now c.self.inside.rows.items c.args.self.now c.requires.counted.before c.requires.counted.behind c.args.hit.now
    c.as_slice.ensures.value c.self.view_is c.requires.counted.summed in
    record {
      counted = drop-counted c.as_slice.result.now c.self.inside.rows.items _ c.args.hit.now c.place_in-place.result c.index_mut.result.now
          c.as_slice.ensures.value c.place_in-place.ensures.place c.index_mut.ensures.value drops;
    }

pub returns-then-index-eq1 : goal.returns-then-index-eq1
returns-then-index-eq1 c = record {
  rows = λ before behind is.
      drop-gone c.as_slice.result.now c.self.inside.rows.items _ c.remove.new.self.items c.args.hit.now c.place_in-place.result c.index.result.now
      c.as_slice.ensures.value c.place_in-place.ensures.place c.index.ensures c.if-index-eq1.true c.remove.ensures.items
      (drops-of c.as_slice.result.now c.self.inside.rows.items c.args.self.now before behind c.args.hit.now c.as_slice.ensures.value c.self.view_is is);
}

pub returns-else-index-eq1 : goal.returns-else-index-eq1
returns-else-index-eq1 c = record {
  rows = λ before behind is.
      let drops = drops-of c.as_slice.result.now c.self.inside.rows.items c.args.self.now before behind c.args.hit.now c.as_slice.ensures.value c.self.view_is is in
      let within = drop-within c.as_slice.result.now c.self.inside.rows.items _ c.args.hit.now c.place_in-place.result c.as_slice.ensures.value c.place_in-place.ensures.place drops in
      drop-smaller c.as_slice.result.now c.self.inside.rows.items _ c.args.hit.now c.place_in-place.result c.index.result.now c.index_mut.result.now c.drop_hit.new.self
      c.as_slice.ensures.value c.place_in-place.ensures.place c.index.ensures c.if-index-eq1.false c.index_mut.ensures.value within c.drop_hit.ensures drops;
}

pub invariant_of-self : goal.invariant_of-self
invariant_of-self c =
    let hit = c.requires.counted in
    let drops = drops-of c.as_slice.result.now c.self.inside.rows.items c.args.self.now hit.before hit.behind c.args.hit.now c.as_slice.ensures.value c.self.view_is hit.summed in
    record {
      hits = hit.before ++ hit.behind;
      summed = drop-gone c.as_slice.result.now c.self.inside.rows.items _ c.remove.new.self.items c.args.hit.now c.place_in-place.result c.index.result.now
          c.as_slice.ensures.value c.place_in-place.ensures.place c.index.ensures c.if-index-eq1.true c.remove.ensures.items drops;
    }

pub invariant_of-self-else-index-eq1 : goal.invariant_of-self-else-index-eq1
invariant_of-self-else-index-eq1 c =
    let hit = c.requires.counted in
    let drops = drops-of c.as_slice.result.now c.self.inside.rows.items c.args.self.now hit.before hit.behind c.args.hit.now c.as_slice.ensures.value c.self.view_is hit.summed in
    let within = drop-within c.as_slice.result.now c.self.inside.rows.items _ c.args.hit.now c.place_in-place.result c.as_slice.ensures.value c.place_in-place.ensures.place drops in
    record {
      hits = hit.before ++ hit.behind;
      summed = drop-smaller c.as_slice.result.now c.self.inside.rows.items _ c.args.hit.now c.place_in-place.result c.index.result.now c.index_mut.result.now c.drop_hit.new.self
          c.as_slice.ensures.value c.place_in-place.ensures.place c.index.ensures c.if-index-eq1.false c.index_mut.ensures.value within c.drop_hit.ensures drops;
    }
