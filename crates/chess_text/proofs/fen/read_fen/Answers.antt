use Rattle.chess_text.proofs.AnswerLaws.{fen_is}
use Rattle.chess_text.proofs.FenLaws.{answers_found, answers_only, answers_fault, answers_first}
use Rattle.chess_text.proofs.fen.read_fen.Goals as goal

pub returns-clause-found : goal.returns-clause-found
returns-clause-found c = answers_found c.args.text.now c.read.result c.read.ensures.answers

pub returns-clause-only : goal.returns-clause-only
returns-clause-only c = answers_only c.args.text.now c.read.result c.read.ensures.answers

pub returns-clause-fault : goal.returns-clause-fault
returns-clause-fault c = answers_fault c.args.text.now c.read.result c.read.ensures.answers

pub returns-clause-first : goal.returns-clause-first
returns-clause-first c = answers_first c.args.text.now c.read.result c.read.ensures.answers

pub returns-clause-answers : goal.returns-clause-answers
returns-clause-answers c =
    fen_is c.args.text.now c.read.result (answers_found c.args.text.now c.read.result c.read.ensures.answers)
    (answers_fault c.args.text.now c.read.result c.read.ensures.answers)
