use Rattle.std.proofs.Common.{length, arith}
use Rattle.tree_live.proofs.GameLaws.{on-ok}
use Rattle.tree_live.proofs.SlotLaws.{brought-shown, brought-told}
use Rattle.tree_live.proofs.slots.Slots.bring.Goals as goal

pub returns-clause-shown : goal.returns-clause-shown
returns-clause-shown g c =
    on-ok c.show_all.result
    (λ shown. brought-shown _ _ c.args.change.now (record { first = c.self.inside.first; count = c.self.inside.count; watches = c.self.inside.watches })
    c.args.self.now (length c.self.inside.watches) c.from.result c.follow_all.new.watches c.args.views.now c.show_all.new.views
    c.self.view_is c.requires.shown (omega arith) c.from.ensures c.in_ok-follow_all.ensures.followed shown)
    c.show_all.ensures.shown

pub returns-clause-told : goal.returns-clause-told
returns-clause-told g c =
    brought-told _ _ c.args.change.now (record { first = c.self.inside.first; count = c.self.inside.count; watches = c.self.inside.watches })
    c.args.self.now (length c.self.inside.watches) c.from.result c.follow_all.new.watches c.args.views.now c.show_all.new.views
    c.self.view_is c.requires.fits c.requires.shown (omega arith) c.from.ensures c.in_ok-follow_all.ensures.followed c.show_all.ensures.told
