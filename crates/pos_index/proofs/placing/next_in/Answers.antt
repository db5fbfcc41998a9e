use Rattle.std.proofs.Common.{rules, ◌≡◌, ◌∙◌, ap, sym}
use Rattle.std.specs.Prelude.{Some, None, option_map, slice_get}
use Rattle.cell_core.specs.declared.step.Move.{Move}
use Rattle.game_tree.specs.Game.{GameTree}
use Rattle.game_tree.specs.Replay.{next_at}
use Rattle.game_tree.specs.Tree.{Played, line_of, moves_of}
use Rattle.pos_index.proofs.GameLemmas.{got_none, got_some, next_in}
use Rattle.pos_index.proofs.placing.next_in.Goals as goal

pub returns-in-Some : goal.returns-in-Some
returns-in-Some c =
    let line = c.game.inside.line.items in
    let at : slice_get line c.args.ply ≡ Some c.in-Some.node.now =
    got_some c.as_slice.result.now line c.from.result c.args.ply c.in-Some.node.now (search rules) (search rules) c.in-Some.ensures.lookup.3.0 c.in-Some.ensures.lookup.1 in
    let mv : Played → Move = λ p. p.mv in
    let node : mv c.in-Some.node.now ≡ c.node.inside.mv = ap mv (sym c.node.view_is) in
    let game : next_at c.args.game.now c.args.ply ≡ slice_get (moves_of (line_of line)) c.args.ply = ap (λ (g : GameTree). slice_get (moves_of g.line) c.args.ply) (sym c.game.view_is) in
    sym (game ∙ next_in line c.args.ply ∙ ap (option_map mv) at ∙ ap Some node)

pub returns-in-None : goal.returns-in-None
returns-in-None c =
    let line = c.game.inside.line.items in
    let at : slice_get line c.args.ply ≡ None = got_none c.as_slice.result.now line c.from.result c.args.ply (search rules) (search rules) c.in-None.ensures.lookup.3 in
    let mv : Played → Move = λ p. p.mv in
    let game : next_at c.args.game.now c.args.ply ≡ slice_get (moves_of (line_of line)) c.args.ply = ap (λ (g : GameTree). slice_get (moves_of g.line) c.args.ply) (sym c.game.view_is) in
    sym (game ∙ next_in line c.args.ply ∙ ap (option_map mv) at)
