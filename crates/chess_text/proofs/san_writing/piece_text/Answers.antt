use Rattle.chess_text.specs.SanWriting.{origin_by}
use Rattle.chess_text.proofs.RivalLaws.{origin-told}
use Rattle.chess_text.proofs.san_writing.piece_text.Goals as goal

pub returns-clause-text : goal.returns-clause-text
returns-clause-text c = record {
  origin = origin_by c.rivals_of-rivals.result c.args.m.now.from;
  is_origin = origin-told c.args.p.now c.args.kind c.args.m.now c.rivals_of-rivals.result c.rivals_of-rivals.ensures.found;
  spelled = c.spelled.ensures.text;
}
