use Rattle.std.proofs.Common.{rules, ◌≡◌, ◌∙◌, ap, sym, false}
use Rattle.std.specs.Prelude.{position, Some}
use Rattle.std.specs.List.{list_any}
use Rattle.pos_index.specs.Hits.{hits_from}
use Rattle.pos_index.specs.Keeping.{packed_eq}
use Rattle.pos_index.proofs.KeyLemmas.{absent_test, found_test}
use Rattle.pos_index.proofs.PlaceLemmas.{all_hits, no_hits}
use Rattle.pos_index.proofs.places.Places.find.Goals as goal

pub returns-in-Some : goal.returns-in-Some
returns-in-Some c =
    let keys = c.self.inside.boards.keys in
    let at : position (packed_eq c.args.board.now) keys ≡ Some c.in-Some.number = search rules in
    c.hits.ensures
    ∙ all_hits keys c.args.board.now c.in-Some.number 0 c.self.inside.lists.rows c.self.invariant.known (found_test keys c.args.board.now c.in-Some.number c.self.invariant.unique at)
    ∙ ap (hits_from c.args.board.now 0) c.self.view_is

pub returns-in-None : goal.returns-in-None
returns-in-None c =
    let keys = c.self.inside.boards.keys in
    let none : list_any (packed_eq c.args.board.now) keys ≡ false = search rules in
    sym (no_hits keys c.args.board.now 0 c.self.inside.lists.rows c.self.invariant.known (absent_test keys c.args.board.now none)) ∙ ap (hits_from c.args.board.now 0) c.self.view_is
