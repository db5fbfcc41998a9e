use Rattle.std.proofs.Common.{refl, set, sym, ap, ◌∙◌, List, arith}
use Rattle.tree_rows.specs.declared.row.Row.{Row}
use Rattle.tree_rows.specs.Keeping.{has_key}
use Rattle.tree_rows.proofs.Finding.{more-sums}
use Rattle.tree_rows.proofs.Placing.{grown-there, grown-anew, has-within, room-there}
use Rattle.tree_rows.proofs.rows.Rows.add.Goals as goal

pub index_mut-requires : goal.index_mut-requires
index_mut-requires c =
    let within = has-within c.as_slice-2.result.now c.place_in-place.result c.args.hit.now.next (sym c.if-has_key.ensures) in
    omega (arith, within, c.as_slice-2.ensures.len)

pub add-requires : goal.add-requires
add-requires c =
    let within = has-within c.as_slice-2.result.now c.place_in-place.result c.args.hit.now.next (sym c.if-has_key.ensures) in
    record {
      room = room-there c.self.inside.rows.items c.args.self.now c.place_in-place.result c.index_mut.result.now c.self.view_is
          (omega (arith, within, c.as_slice-2.ensures.len, c.self.inside.rows.ok.0)) c.index_mut.ensures.value c.requires.room;
    }

pub returns-then-has_key-clause-added : goal.returns-then-has_key-clause-added
returns-then-has_key-clause-added c =
    grown-there c.as_slice.result.now c.self.inside.rows.items c.args.self.now c.args.hit.now c.place_in-place.result c.index_mut.result.now c.add.new.self
    c.as_slice.ensures.value c.self.view_is c.place_in-place.ensures.place
    (c.if-has_key.ensures ∙ ap (λ (rows : List Row). has_key rows c.place_in-place.result c.args.hit.now.next) (c.as_slice-2.ensures.value ∙ sym c.as_slice.ensures.value))
    c.index_mut.ensures.value c.add.ensures.row

pub returns-clause-added : goal.returns-clause-added
returns-clause-added c =
    grown-anew c.as_slice.result.now c.self.inside.rows.items c.args.self.now c.insert.new.self.items c.args.hit.now c.place_in-place.result c.of.result
    c.as_slice.ensures.value c.self.view_is c.place_in-place.ensures.place
    (c.if-has_key.ensures ∙ ap (λ (rows : List Row). has_key rows c.place_in-place.result c.args.hit.now.next) (c.as_slice-2.ensures.value ∙ sym c.as_slice.ensures.value))
    c.of.ensures.row c.in_ok-insert.ensures.items

pub invariant_of-self : goal.invariant_of-self
invariant_of-self c =
    let items = c.self.inside.rows.items in
    let place = c.place_in-place.result in
    more-sums c.args.hit.now items (set items place c.add.new.self)
    (grown-there c.as_slice.result.now items items c.args.hit.now place c.index_mut.result.now c.add.new.self c.as_slice.ensures.value refl c.place_in-place.ensures.place
    (c.if-has_key.ensures ∙ ap (λ (rows : List Row). has_key rows place c.args.hit.now.next) (c.as_slice-2.ensures.value ∙ sym c.as_slice.ensures.value))
    c.index_mut.ensures.value c.add.ensures.row)
    c.self.invariant

pub invariant_of-self-2 : goal.invariant_of-self-2
invariant_of-self-2 c =
    let items = c.self.inside.rows.items in
    let place = c.place_in-place.result in
    more-sums c.args.hit.now items c.insert.new.self.items
    (grown-anew c.as_slice.result.now items items c.insert.new.self.items c.args.hit.now place c.of.result c.as_slice.ensures.value refl c.place_in-place.ensures.place
    (c.if-has_key.ensures ∙ ap (λ (rows : List Row). has_key rows place c.args.hit.now.next) (c.as_slice-2.ensures.value ∙ sym c.as_slice.ensures.value))
    c.of.ensures.row c.in_ok-insert.ensures.items)
    c.self.invariant
