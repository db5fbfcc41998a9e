use Rattle.std.proofs.Common.{◌≤◌, ◌∙◌, ap, sym, subst}
use Rattle.pos_index.specs.Keeping.{AreOn, Listed, places_by}
use Rattle.pos_index.proofs.ListedLemmas.{on_front}
use Rattle.pos_index.proofs.PlaceLemmas.{ends_with}
use Rattle.pos_index.proofs.places.Places.pop_row.Goals as goal
use Rattle.std.proofs.Common.{length}

pub pop_row-requires : goal.pop_row-requires
pop_row-requires c =
    let found = ends_with c.self.inside.boards.keys c.self.inside.lists.rows c.requires.front (c.self.view_is ∙ c.requires.ends) in
    record { front = found.0; ends = found.1.0 }

pub invariant_of-self : goal.invariant_of-self
invariant_of-self c =
    let keys = c.self.inside.boards.keys in
    let found = ends_with keys c.self.inside.lists.rows c.requires.front (c.self.view_is ∙ c.requires.ends) in
    let after = c.pop_row.ensures found.0 found.1.0 in
    record {
      unique = c.self.invariant.unique;
      known = subst (λ (l : Listed). AreOn (length keys) l.rows) (sym after) (on_front (length keys) found.0 (subst (AreOn (length keys)) found.1.0 c.self.invariant.known));
      listed = subst (λ (l : Listed). length keys ≤ l.boards) (sym after) c.self.invariant.listed;
      few = c.self.invariant.few;
    }

pub returns : goal.returns
returns c = λ rows is.
    let keys = c.self.inside.boards.keys in
    let found = ends_with keys c.self.inside.lists.rows rows (c.self.view_is ∙ is) in
    ap (λ (l : Listed). places_by keys l.rows) (c.pop_row.ensures found.0 found.1.0) ∙ found.1.1
