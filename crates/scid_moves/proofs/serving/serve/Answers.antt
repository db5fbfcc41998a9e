use Rattle.std.proofs.Common.{ℕ, List, refl, sym, subst, arith}
use Rattle.scid_moves.specs.Standing.{Reached}
use Rattle.scid_moves.proofs.ServingLaws.{failed_broken, piece_broken, reached_first}
use Rattle.scid_moves.proofs.serving.serve.Goals as goal

pub pieces-init : goal.pieces-init
pieces-init g c =
    let left = g.S.Source.left c.args.input.now in
    let taken = g.K.Sink.taken c.args.out.now in
    record {
      reached = subst (λ (l : List ℕ). Reached left left taken taken l) (sym c.new-line.ensures.items) (reached_first left taken);
      size = refl;
      reads = omega arith;
      writes = omega arith;
    }

pub returns-in-Err-clause-broken : goal.returns-in-Err-clause-broken
returns-in-Err-clause-broken g c =
    failed_broken (g.S.Source.left c.args.input.now) (g.S.Source.left c.pieces.input) (g.S.Source.left c.read.new.self) (g.K.Sink.taken c.args.out.now) (g.K.Sink.taken c.pieces.out)
    c.pieces.line.items c.pieces.invariant.reached c.in-Err.ensures.none_lost

pub returns-in-Err-take_piece-clause-broken : goal.returns-in-Err-take_piece-clause-broken
returns-in-Err-take_piece-clause-broken g c =
    piece_broken (g.S.Source.left c.args.input.now) (g.S.Source.left c.pieces.input) (g.S.Source.left c.read.new.self) (g.K.Sink.taken c.args.out.now) (g.K.Sink.taken c.pieces.out)
    (g.K.Sink.taken c.take_piece.new.out) c.pieces.line.items _ c.pieces.invariant.reached c.in-Ok.ensures.given c.in-Err-take_piece.ensures.stopped
