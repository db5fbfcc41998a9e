use Rattle.std.proofs.Common.{◌∙◌, arith}
use Rattle.std.proofs.lemmas.Result.{err_from_is_err_and}
use Rattle.game_codec.specs.Reading.{BreaksLine}
use Rattle.game_codec.proofs.ReadingLaws.{BreaksLine-behind, Reads-none, Reads-then}
use Rattle.game_codec.proofs.reading.At.to_end.Goals as goal

pub moves-init : goal.moves-init
moves-init c = Reads-none c.args.self.now

pub next-requires-clause-main : goal.next-requires-clause-main
next-requires-clause-main c = c.moves.invariant.main ∙ c.requires.main

pub next-requires-clause-room : goal.next-requires-clause-room
next-requires-clause-room c = omega (arith, c.moves.invariant.room, c.requires.room)

pub returns-in_err-next-clause-fault : goal.returns-in_err-next-clause-fault
returns-in_err-next-clause-fault c =
    let told : BreaksLine c.args.self.now c.in_err-next.field-0.0 =
    BreaksLine-behind c.args.self.now c.moves.self c.in_err-next.field-0.0 c.moves.invariant c.in_err-next.ensures.fault in
    let gone = err_from_is_err_and c.from_residual.result c.from_residual.ensures.1 in
    rw (gone.1, gone.2) told

pub moves-preserved : goal.moves-preserved
moves-preserved c = Reads-then c.args.self.now c.moves.self _ c.moves.invariant (rw c.in-Some.is at c.in_ok-next.ensures.next).reads

pub returns-in-None-clause-end : goal.returns-in-None-clause-end
returns-in-None-clause-end c =
    let done = rw c.in-None.is at c.in_ok-next.ensures.next in
    (Reads-then c.args.self.now c.moves.self _ c.moves.invariant done.0.reads, done.1)
