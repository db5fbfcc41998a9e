use Rattle.std.proofs.Common.{◌≡◌, Option, ℕ, List, length, take, arith, ap, subst, ◌∙◌}
use Rattle.game_filter.specs.Renumbering.{renumbered}
use Rattle.game_filter.proofs.Renumberings.{cut_moved, cut_length, entry_at_number, length-renumbered, length-renumbered-le}
use Rattle.game_filter.proofs.plies.renumber.Goals as goal

pub truncate-requires : goal.truncate-requires
truncate-requires c =
    let numbers = c.args.renumbering.now in
    let entries = c.args.entries.now in
    omega (
      arith,
      c.kept.ensures.kept,
      c.move_to_front.ensures.len,
      length-renumbered 0 numbers.kept numbers.to entries c.to.ensures.rises c.requires.same_games,
      length-renumbered-le numbers.to entries,
    )

pub returns-clause-moved : goal.returns-clause-moved
returns-clause-moved c =
    let numbers = c.args.renumbering.now in
    let entries = c.args.entries.now in
    let now = c.move_to_front.new.entries in
    let Front : List (Option ℕ) → Type 0 = λ to. take (length (renumbered to entries)) now ≡ renumbered to entries in
    cut_moved numbers.kept numbers.to entries now c.truncate.new.self c.to.ensures.rises c.requires.same_games (subst Front c.to.ensures.to c.move_to_front.ensures.moved)
    (c.truncate.ensures.cut ∙ ap (λ (n : ℕ). take n now) c.kept.ensures.kept)

pub returns-clause-kept : goal.returns-clause-kept
returns-clause-kept c =
    let numbers = c.args.renumbering.now in
    cut_length numbers.kept numbers.to c.args.entries.now c.truncate.new.self c.to.ensures.rises c.requires.same_games (returns-clause-moved c)

pub returns-clause-entries : goal.returns-clause-entries
returns-clause-entries c = λ i number here.
    let numbers = c.args.renumbering.now in
    entry_at_number numbers.kept numbers.to c.args.entries.now c.truncate.new.self i number c.to.ensures.rises c.requires.same_games (returns-clause-moved c) here
