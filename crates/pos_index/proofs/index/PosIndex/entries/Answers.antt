use Rattle.std.proofs.Common.{rules, ◌≡◌, ◌<◌, ap, arith, length, sum_by, take, get_or, [], List}
use Rattle.std.proofs.lemmas.List.Sums.{sum_by-take-le, sum_by_more_le}
use Rattle.pos_index.specs.Hits.{Index, Place}
use Rattle.pos_index.proofs.IndexLemmas.{total-few}
use Rattle.pos_index.proofs.index.PosIndex.entries.Goals as goal

pub overflow_add-entries : goal.overflow_add-entries
overflow_add-entries c =
    let places = c.self.inside.places in
    let rows : places ≡ c.args.self.now.rows = ap (λ (i : Index). i.rows) c.self.view_is in
    let few = total-few c.self.inside.depth places c.self.invariant.1.1.0 c.self.invariant.1.0 in
    let within : c.loop-i.i < length places = search rules in
    let more = sum_by_more_le (λ (r : List Place). length r) places c.loop-i.i [] within in
    let so_far : c.loop-i.entries ≡ sum_by (λ (r : List Place). length r) (take c.loop-i.i places) = search (rules, rows) in
    let count : c.count.result ≡ length (get_or places c.loop-i.i []) = search rules in
    omega (arith, few, more, so_far, count)

pub returns-clause-few : goal.returns-clause-few
returns-clause-few c =
    let places = c.self.inside.places in
    let rows : places ≡ c.args.self.now.rows = ap (λ (i : Index). i.rows) c.self.view_is in
    let few = total-few c.self.inside.depth places c.self.invariant.1.1.0 c.self.invariant.1.0 in
    let so_far : c.loop-i.entries ≡ sum_by (λ (r : List Place). length r) (take c.loop-i.i places) = search (rules, rows) in
    omega (arith, few, so_far, sum_by-take-le (λ (r : List Place). length r) places c.loop-i.i)
