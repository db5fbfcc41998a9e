use Rattle.std.proofs.Common.{rules, arith, ap, subst}
use Rattle.game_filter.specs.Renumbering.{Numbering, Rises}
use Rattle.game_filter.proofs.Renumberings.{cut_moved, cut_length, entry_at_number, front_written}
use Rattle.game_filter.proofs.renumbering.Renumbering.apply.Goals as goal

pub returns-clause-stayed : goal.returns-clause-stayed
returns-clause-stayed g c =
    let numbers = c.args.self.now in
    let rises = subst (λ (n : Numbering). Rises 0 n.to n.kept) c.self.view_is c.self.invariant.2 in
    cut_moved numbers.kept numbers.to c.args.list.now.items c.move_to_front.new.list c.truncate.new.self.items rises c.requires.same_games (search rules)
    (front_written c.move_to_front.new.list c.args.list.now.items c.truncate.new.self.items c.args.list.now.len numbers.kept c.self.inside.kept
    (omega (arith, c.move_to_front.ensures.len, c.as_mut_slice.ensures.len)) (ap (λ (n : Numbering). n.kept) c.self.view_is) c.truncate.ensures.items)

pub returns-clause-kept : goal.returns-clause-kept
returns-clause-kept g c =
    let numbers = c.args.self.now in
    let rises = subst (λ (n : Numbering). Rises 0 n.to n.kept) c.self.view_is c.self.invariant.2 in
    cut_length numbers.kept numbers.to c.args.list.now.items c.truncate.new.self.items rises c.requires.same_games (returns-clause-stayed g c)

pub returns-clause-entries : goal.returns-clause-entries
returns-clause-entries g c = λ i number here.
    let numbers = c.args.self.now in
    let rises = subst (λ (n : Numbering). Rises 0 n.to n.kept) c.self.view_is c.self.invariant.2 in
    entry_at_number numbers.kept numbers.to c.args.list.now.items c.truncate.new.self.items i number rises c.requires.same_games (returns-clause-stayed g c) here
