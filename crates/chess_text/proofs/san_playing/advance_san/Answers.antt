use Rattle.std.proofs.Common.{sym, ◌∙◌}
use Rattle.chess_text.proofs.StartLaws.{no-shape-answers, plays-on, shape-answers}
use Rattle.chess_text.proofs.san_playing.advance_san.Goals as goal

pub returns-in-Some-clause-answers : goal.returns-in-Some-clause-answers
returns-in-Some-clause-answers c =
    shape-answers c.args.p.now c.args.text.now c.in-Some.shape c.advance_shape.result c.setup-rules.ensures.sound (sym c.shape_of.ensures.exact ∙ c.in-Some.is) c.advance_shape.ensures.answers

pub returns-in-Some-clause-becomes : goal.returns-in-Some-clause-becomes
returns-in-Some-clause-becomes c = plays-on c.args.p.now c.advance_shape.new.p c.advance_shape.result c.advance_shape.ensures.step

pub returns-in-None-clause-answers : goal.returns-in-None-clause-answers
returns-in-None-clause-answers c = no-shape-answers c.args.p.now c.args.text.now c.setup-rules.ensures.sound (sym c.shape_of.ensures.exact ∙ c.in-None.is)
