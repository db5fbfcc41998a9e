use Rattle.std.proofs.Common.{◌∙◌, arith}
use Rattle.std.proofs.lemmas.Result.{err_from_is_err_and}
use Rattle.game_codec.specs.Reading.{BreaksLine}
use Rattle.game_codec.proofs.ReadingLaws.{BreaksLine-behind, Passes-none, Passes-then, Plays-behind}
use Rattle.game_codec.proofs.reading.At.next.Goals as goal

pub items-init : goal.items-init
items-init c = Passes-none c.args.self.now

pub item-requires-clause-main : goal.item-requires-clause-main
item-requires-clause-main c = c.items.invariant.reads.main ∙ c.requires.main

pub item-requires-clause-room : goal.item-requires-clause-room
item-requires-clause-room c = omega (arith, c.items.invariant.reads.room, c.requires.room)

pub returns-in_err-item-clause-fault : goal.returns-in_err-item-clause-fault
returns-in_err-item-clause-fault c =
    let told : BreaksLine c.args.self.now c.in_err-item.field-0.0 =
    BreaksLine-behind c.args.self.now c.items.self c.in_err-item.field-0.0 c.items.invariant.reads c.in_err-item.ensures.fault in
    let gone = err_from_is_err_and c.from_residual.result c.from_residual.ensures.1 in
    rw (gone.1, gone.2) told

pub items-preserved : goal.items-preserved
items-preserved c = Passes-then c.args.self.now c.items.self _ c.items.invariant (rw c.in-Mark.is at c.in_ok-item.ensures.does).0

pub returns-in-Play-clause-next : goal.returns-in-Play-clause-next
returns-in-Play-clause-next c =
    Plays-behind c.args.self.now c.items.self _ c.in-Play.m c.items.invariant (rw c.in-Play.is at c.in_ok-item.ensures.does)

pub returns-in-End-clause-next : goal.returns-in-End-clause-next
returns-in-End-clause-next c =
    let done = rw c.in-End.is at c.in_ok-item.ensures.does in
    (Passes-then c.args.self.now c.items.self _ c.items.invariant done.0, done.1)
