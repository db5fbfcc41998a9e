use Rattle.std.proofs.Common.{◌≡◌, ◌<◌, ◌∙◌, ap, length, map, sym, List, ℕ, []}
use Rattle.std.specs.Prelude.{slice_index_or}
use Rattle.std.proofs.lemmas.List.{get_or-map, length-map}
use Rattle.pos_index.specs.Hits.{Place}
use Rattle.pos_index.specs.Keeping.{board_of, row_in}
use Rattle.pos_index.proofs.PlaceLemmas.{row_length, there_is}
use Rattle.pos_index.proofs.places.Places.count.Goals as goal

pub returns : goal.returns
returns c =
    let keys = c.self.inside.boards.keys in
    let rows = c.self.inside.lists.rows in
    let there : c.args.i < length rows = there_is keys rows c.args.self.now c.args.i c.self.view_is c.requires in
    let row : c.boards.result.now ≡ map board_of (row_in rows c.args.i) =
    c.boards.ensures ∙ c.index-rows-i.is ∙ ap (λ (l : List (List ℕ)). slice_index_or l c.args.i c.index-rows-i.result) c.rows.ensures
    ∙ get_or-map (map board_of) rows c.args.i [] c.index-rows-i.result there in
    ap length row ∙ length-map (row_in rows c.args.i) board_of ∙ sym (row_length keys rows c.args.i there)
    ∙ ap (λ (l : List (List Place)). length (row_in l c.args.i)) c.self.view_is
