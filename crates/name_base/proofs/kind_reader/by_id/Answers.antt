-- Each name that is taken from the end is put among the names.
use Rattle.std.proofs.Common.{get_or, ◌∙◌, arith, length, ap}
use Rattle.std.proofs.lemmas.List.{length-set, length_push}
use Rattle.name_base.specs.Reading.{by_id}
use Rattle.name_base.proofs.LoopLemmas.{id_below, others_below, put_last, all_put, none_left}
use Rattle.name_base.proofs.MetLemmas.{zip_popped, zip-none}
use Rattle.name_base.proofs.kind_reader.by_id.Goals as goal

pub index_mut-requires : goal.index_mut-requires
index_mut-requires c =
    let last = zip_popped c.loop-name.met.keys c.pop.new.self.keys c.in-Some.name c.args.ids.now c.len.result c.in-Some.ensures.keys c.len.ensures.len c.loop-name.invariant.within in
    let lt = id_below (λ v. v.items) _ _ c.in-Some.name (get_or c.args.ids.now c.len.result 0) c.args.count last c.loop-name.invariant.below in
    omega (arith, lt, c.loop-name.invariant.long)

pub loop-name-preserved : goal.loop-name-preserved
loop-name-preserved c =
    let last = zip_popped c.loop-name.met.keys c.pop.new.self.keys c.in-Some.name c.args.ids.now c.len.result c.in-Some.ensures.keys c.len.ensures.len c.loop-name.invariant.within in
    let id = get_or c.args.ids.now c.len.result 0 in
    record {
      same = put_last (λ v. v.items) _ _ c.in-Some.name id c.loop-name.names.items _ last c.loop-name.invariant.same;
      long = length-set c.loop-name.names.items id c.in-Some.name ∙ c.loop-name.invariant.long;
      within = omega (arith, c.loop-name.invariant.within, ap length c.in-Some.ensures.keys, length_push c.pop.new.self.keys c.in-Some.name);
      below = others_below (λ v. v.items) _ _ c.in-Some.name id c.args.count last c.loop-name.invariant.below;
    }

pub returns : goal.returns
unfolding by_id
returns c = all_put (λ v. v.items) _ _ _ (zip-none c.loop-name.met.keys c.args.ids.now (none_left c.loop-name.met.keys c.in_default.ensures.found.1)) c.loop-name.invariant.same
