use Rattle.std.proofs.Common.{sym, ◌∙◌}
use Rattle.sig_index.specs.Games.{head_in}
use Rattle.twin_games.proofs.CountLemmas.{deleted_unshared, many_shared}
use Rattle.twin_games.proofs.counting.is_shared.Goals as goal

pub returns-then-is_deleted : goal.returns-then-is_deleted
returns-then-is_deleted g c =
    deleted_unshared (g.G.Games.heads c.args.games.now) c.args.i (sym c.is_deleted.ensures.deleted ∙ c.if-is_deleted.true)

pub returns : goal.returns
returns g c =
    let heads = g.G.Games.heads c.args.games.now in
    many_shared heads c.args.i c.count_of.result (sym c.is_deleted.ensures.deleted ∙ c.if-is_deleted.false)
    (c.count_of.ensures ∙ c.requires.counts (head_in heads c.args.i) c.pairing_of.result c.pairing_of.ensures)
