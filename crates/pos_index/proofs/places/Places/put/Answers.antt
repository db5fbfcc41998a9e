use Rattle.std.proofs.Common.{◌≤◌, ◌<◌, ◌++◌, ◌∷◌, ◌∙◌, ap, sym, subst, List, [], length}
use Rattle.std.proofs.lemmas.Result.{on_err_weaker, on_ok_weaker}
use Rattle.cell_core.specs.Packed.{Packed}
use Rattle.pos_index.specs.declared.spot.Spot.{Spot}
use Rattle.pos_index.specs.Hits.{Place}
use Rattle.pos_index.specs.Keeping.{AreKept, AreOn, Listed, places_by, row_in, with_row}
use Rattle.pos_index.proofs.PlaceLemmas.{either_way, on_err, on_put, placed, same_places, there_is}
use Rattle.pos_index.proofs.places.Places.put.Goals as goal

pub returns-in_err-number-clause-unchanged : goal.returns-in_err-number-clause-unchanged
returns-in_err-number-clause-unchanged c =
    on_err c.from_residual.result
    (same_places c.self.inside.boards.keys c.number_of.new.boards.keys c.self.inside.lists.rows c.number_of.new.lists.rows c.number_of.ensures.begins.0 c.args.self.now c.self.invariant.known
    c.number_of.ensures.begins.1 c.number_of.ensures.rows c.self.view_is)

pub invariant_of-self-2 : goal.invariant_of-self-2
invariant_of-self-2 c =
    let keys = c.number_of.new.boards.keys in
    let old = c.number_of.new.lists in
    let kept = c.number_of.ensures.kept in
    let spot : Spot = record { board = c.in_ok-number.number; ply = c.args.ply; next = c.args.next.now } in
    let there : c.args.i < length old.rows =
    subst (λ (l : List (List Spot)). c.args.i < length l) (sym c.number_of.ensures.rows)
    (there_is c.self.inside.boards.keys c.self.inside.lists.rows c.args.self.now c.args.i c.self.view_is c.requires.game) in
    either_way c.put.result c.put.ensures.put c.put.ensures.unchanged
    (λ put. record {
      unique = kept.unique;
      known = subst (λ (l : Listed). AreOn (length keys) l.rows) (sym put) (on_put (length keys) c.args.i old.rows spot kept.known there c.in_ok-number.ensures.number.within);
      listed = subst (λ (l : Listed). length keys ≤ l.boards) (sym put) kept.listed;
      few = kept.few;
    })
    (λ same. subst (AreKept c.number_of.new.boards) (sym same) kept)

pub returns-clause-put : goal.returns-clause-put
returns-clause-put c =
    let keys = c.number_of.new.boards.keys in
    let old = c.number_of.new.lists in
    let spot : Spot = record { board = c.in_ok-number.number; ply = c.args.ply; next = c.args.next.now } in
    let place : Place = record { board = c.args.board; ply = c.args.ply; next = c.args.next.now } in
    let there : c.args.i < length old.rows =
    subst (λ (l : List (List Spot)). c.args.i < length l) (sym c.number_of.ensures.rows)
    (there_is c.self.inside.boards.keys c.self.inside.lists.rows c.args.self.now c.args.i c.self.view_is c.requires.game) in
    let same = same_places c.self.inside.boards.keys keys c.self.inside.lists.rows old.rows c.number_of.ensures.begins.0 c.args.self.now c.self.invariant.known
    c.number_of.ensures.begins.1 c.number_of.ensures.rows c.self.view_is in
    on_ok_weaker c.put.result
    (λ put.
    placed keys old.rows c.put.new.self.rows c.args.i spot place there (ap (λ (l : Listed). l.rows) put)
    (ap (λ (b : Packed). record { board = b; ply = c.args.ply; next = c.args.next.now }) c.in_ok-number.ensures.number.board_is)
    ∙ ap (λ (rows : List (List Place)). with_row rows c.args.i (row_in rows c.args.i ++ place ∷ [])) same)
    c.put.ensures.put

pub returns-clause-unchanged : goal.returns-clause-unchanged
returns-clause-unchanged c =
    let keys = c.number_of.new.boards.keys in
    on_err_weaker c.put.result
    (λ same.
    ap (λ (l : Listed). places_by keys l.rows) same
    ∙ same_places c.self.inside.boards.keys keys c.self.inside.lists.rows c.number_of.new.lists.rows c.number_of.ensures.begins.0 c.args.self.now c.self.invariant.known
    c.number_of.ensures.begins.1 c.number_of.ensures.rows c.self.view_is)
    c.put.ensures.unchanged
