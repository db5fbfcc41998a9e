use Rattle.std.proofs.Common.{◌∙◌, List, set, sym, ap}
use Rattle.std.proofs.lemmas.List.{set-set}
use Rattle.tree_live.specs.declared.entry.Entry.{Entry}
use Rattle.tree_live.specs.Watching.{counted}
use Rattle.tree_live.specs.Keeping.{no_game}
use Rattle.tree_live.proofs.HitLaws.{one-counted}
use Rattle.tree_live.proofs.GameLaws.{entry-read, on-ok}
use Rattle.tree_live.proofs.counting.Counting.change.Goals as goal

pub put-requires-clause-same : goal.put-requires-clause-same
put-requires-clause-same c =
    let is = c.self.view_is in
    let at = entry-read c.self.inside.games.items c.args.self.now c.args.i c.index.result.now is c.requires.game c.index.ensures in
    sym c.counted-2.ensures.counted ∙ sym (one-counted c.counted.result c.counted-2.result (sym c.if-same_counted.ensures.same))
    ∙ c.counted.ensures.counted ∙ ap counted at

pub returns : goal.returns
returns c = record {
  games = on-ok c.put_in.result
      (λ put. put ∙ ap (λ (games : List Entry). set games c.args.i c.args.game) c.take_out.ensures.games
      ∙ set-set c.args.self.now c.args.i no_game c.args.game)
      c.put_in.ensures.games;
}
