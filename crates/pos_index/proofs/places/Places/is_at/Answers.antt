use Rattle.std.proofs.Common.{rules, ◌≡◌, ◌<◌, ◌∙◌, ℕ, Some, arith, ap, sym, length, slice_get, List}
use Rattle.pos_index.specs.declared.spot.Spot.{Spot}
use Rattle.pos_index.specs.Hits.{Place}
use Rattle.pos_index.specs.Keeping.{row_in, spot_in}
use Rattle.pos_index.proofs.PlaceLemmas.{row_length, stands_on, there_is}
use Rattle.pos_index.proofs.places.Places.is_at.Goals as goal

pub returns-then-eq : goal.returns-then-eq
returns-then-eq c =
    let keys = c.self.inside.boards.keys in
    let rows = c.self.inside.lists.rows in
    let there : c.args.i < length rows = there_is keys rows c.args.self.now c.args.i c.self.view_is c.requires.game in
    let within : c.args.k < length (row_in rows c.args.i) =
    omega (arith, c.requires.place, row_length keys rows c.args.i there, ap (λ (l : List (List Place)). length (row_in l c.args.i)) c.self.view_is) in
    let spot : spot_in (row_in rows c.args.i) c.args.k ≡ c.spot-spot.result = ap (λ (n : ℕ). spot_in (row_in rows c.args.i) n) (sym c.from.ensures) ∙ sym c.spot-spot.ensures in
    let board : slice_get keys c.spot-spot.result.board ≡ Some c.args.board.now = search rules in
    record {
      at = λ ply. stands_on keys rows c.args.self.now c.args.i c.args.k c.args.board.now c.self.view_is there within
          (ap (λ (s : Spot). slice_get keys s.board) spot ∙ board) (ap (λ (s : Spot). s.ply) spot ∙ (search (rules, ply)));
    }
