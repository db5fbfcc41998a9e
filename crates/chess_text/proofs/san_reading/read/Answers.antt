use Rattle.std.proofs.Common.{Err, sym, ◌∙◌}
use Rattle.chess_text.specs.declared.fault.SanFault.TheVariants as fault
use Rattle.chess_text.proofs.SearchLaws.{answers-text, answer-only, answer-first, shapeless}
use Rattle.chess_text.proofs.san_reading.read.Goals as goal

pub returns-in-Some-clause-found : goal.returns-in-Some-clause-found
returns-in-Some-clause-found c =
    (answers-text c.args.p.now c.args.text.now c.in-Some.shape c.move_of.result (sym c.shape_of.ensures.exact ∙ c.in-Some.is) c.move_of.ensures.answers).0

pub returns-in-Some-clause-only : goal.returns-in-Some-clause-only
returns-in-Some-clause-only c =
    let a = answers-text c.args.p.now c.args.text.now c.in-Some.shape c.move_of.result (sym c.shape_of.ensures.exact ∙ c.in-Some.is) c.move_of.ensures.answers in
    answer-only c.args.p.now c.args.text.now c.move_of.result a.0 a.1

pub returns-in-Some-clause-fault : goal.returns-in-Some-clause-fault
returns-in-Some-clause-fault c =
    (answers-text c.args.p.now c.args.text.now c.in-Some.shape c.move_of.result (sym c.shape_of.ensures.exact ∙ c.in-Some.is) c.move_of.ensures.answers).1

pub returns-in-Some-clause-first : goal.returns-in-Some-clause-first
returns-in-Some-clause-first c =
    let a = answers-text c.args.p.now c.args.text.now c.in-Some.shape c.move_of.result (sym c.shape_of.ensures.exact ∙ c.in-Some.is) c.move_of.ensures.answers in
    answer-first c.args.p.now c.args.text.now c.move_of.result a.0 a.1

pub returns-in-None-clause-only : goal.returns-in-None-clause-only
returns-in-None-clause-only c =
    answer-only c.args.p.now c.args.text.now (Err fault.Shape) tt (shapeless c.args.p.now c.args.text.now (sym c.shape_of.ensures.exact ∙ c.in-None.is))

pub returns-in-None-clause-fault : goal.returns-in-None-clause-fault
returns-in-None-clause-fault c = shapeless c.args.p.now c.args.text.now (sym c.shape_of.ensures.exact ∙ c.in-None.is)

pub returns-in-None-clause-first : goal.returns-in-None-clause-first
returns-in-None-clause-first c =
    answer-first c.args.p.now c.args.text.now (Err fault.Shape) tt (shapeless c.args.p.now c.args.text.now (sym c.shape_of.ensures.exact ∙ c.in-None.is))
