use Rattle.pgn_read.proofs.ItemLaws.{item_follows, ok_so}
use Rattle.pgn_read.proofs.reader.read_item.Goals as goal

pub returns-clause-item : goal.returns-clause-item
returns-clause-item g c =
    ok_so c.read_game.result _ _
    (λ item is. item_follows c.args.window.now c.begin.new.self _ _ _ item c.begin.ensures.begun c.in_default.ensures.first (rw c.new.ensures.unread at is))
    c.read_game.ensures.item
