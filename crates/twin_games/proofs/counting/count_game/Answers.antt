use Rattle.std.proofs.Common.{sym, ◌∙◌, arith}
use Rattle.sig_index.specs.Games.{head_in}
use Rattle.twin_games.proofs.CountLemmas.{few_counted, none_more, one_counted}
use Rattle.twin_games.proofs.counting.count_game.Goals as goal

pub returns-then-is_deleted : goal.returns-then-is_deleted
returns-then-is_deleted g c =
    none_more c.args.counts.now (g.G.Games.heads c.args.games.now) c.args.i c.requires.head (sym c.is_deleted.ensures.deleted ∙ c.if-is_deleted.true) c.requires.counts

pub add-requires : goal.add-requires
add-requires g c =
    let heads = g.G.Games.heads c.args.games.now in
    let few = few_counted c.args.counts.now heads c.args.i (head_in heads c.args.i) c.pairing_of.result c.requires.counts c.pairing_of.ensures in
    omega (arith, few)

pub returns : goal.returns
returns g c =
    one_counted c.args.counts.now c.add.new.counts (g.G.Games.heads c.args.games.now) c.args.i c.pairing_of.result c.requires.head
    (sym c.is_deleted.ensures.deleted ∙ c.if-is_deleted.false) c.pairing_of.ensures c.in_ok-add.ensures c.requires.counts
