use Rattle.std.proofs.Common.{◌≤◌, ◌∙◌, ap, sym, subst, length}
use Rattle.game_filter.specs.Renumbering.{renumbered}
use Rattle.pos_index.specs.Keeping.{AreOn, Listed, places_by, row_places}
use Rattle.pos_index.proofs.ListedLemmas.{on_moved}
use Rattle.pos_index.proofs.PlaceLemmas.{map-renumbered}
use Rattle.pos_index.proofs.places.Places.renumber.Goals as goal

pub invariant_of-self : goal.invariant_of-self
invariant_of-self c =
    let keys = c.self.inside.boards.keys in
    record {
      unique = c.self.invariant.unique;
      known = subst (λ (l : Listed). AreOn (length keys) l.rows) (sym c.renumber.ensures) (on_moved (length keys) c.args.renumbering.now.to c.self.inside.lists.rows c.self.invariant.known);
      listed = subst (λ (l : Listed). length keys ≤ l.boards) (sym c.renumber.ensures) c.self.invariant.listed;
      few = c.self.invariant.few;
    }

pub returns : goal.returns
returns c =
    let keys = c.self.inside.boards.keys in
    ap (λ (l : Listed). places_by keys l.rows) c.renumber.ensures
    ∙ map-renumbered (row_places keys) c.args.renumbering.now.to c.self.inside.lists.rows ∙ ap (renumbered c.args.renumbering.now.to) c.self.view_is
