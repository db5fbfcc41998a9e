use Rattle.std.proofs.Common.{◌∙◌, ap}
use Rattle.std.specs.Prelude.{fold}
use Rattle.chess_laws.specs.Step.{stepped}
use Rattle.pgn_read.proofs.TurnLaws.{legal_before, near_legal}
use Rattle.pgn_read.proofs.turn.come_near.Goals as goal

pub play_all-requires : goal.play_all-requires
play_all-requires c =
    record {
      legal =
          rw c.as_slice.ensures.value
          (legal_before c.args.earlier.now c.pop.new.self.items c.args.since.now.items c.in-Some.last c.in-Some.ensures.items c.requires.legal);
    }

pub returns-in-Some-clause-legal : goal.returns-in-Some-clause-legal
returns-in-Some-clause-legal c =
    rw (c.keep.ensures.kept, c.clear.ensures)
    (near_legal c.args.earlier.now c.play_all.new.position c.pop.new.self.items c.args.since.now.items c.in-Some.last c.in-Some.ensures.items
    (c.play_all.ensures.played ∙ ap (fold stepped c.args.earlier.now) c.as_slice.ensures.value) c.requires.legal)
