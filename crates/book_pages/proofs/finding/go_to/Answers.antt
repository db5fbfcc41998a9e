use Rattle.std.proofs.Common.{◌≡◌, ℕ, true, false, List, ap, sym, ◌∙◌, subst, arith}
use Rattle.cell_core.specs.Packed.{packed_of}
use Rattle.game_codec.specs.Record.{IsRecord}
use Rattle.sig_index.proofs.RecordLemmas.{no_next}
use Rattle.book_pages.specs.Reached.{board_at, packed_at}
use Rattle.book_pages.proofs.ReachLemmas.{IsMissed, missed_more, starts_at, starts_never, tested}
use Rattle.book_pages.proofs.finding.go_to.Goals as goal

pub returns-then-eq-clause-found : goal.returns-then-eq-clause-found
returns-then-eq-clause-found c = λ found tags tree is.
    let on = subst (λ (b : List ℕ). IsRecord b tags tree) (sym c.loop-walk.invariant.bytes) is in
    let here : c.pack.result ≡ board_at tree c.loop-walk.walk.ply =
    c.pack.ensures.packed ∙ (λ j. packed_of (c.board.ensures.board j) (c.side.ensures.side j)) ∙ ap packed_at (c.position-place.ensures.replay tags tree on) in
    let within = c.ply.ensures.within tags tree on in
    starts_at c.args.start.now tree c.loop-walk.walk.ply (omega (arith, within, c.ply.ensures.ply)) (c.loop-walk.invariant.missed tags tree is)
    (tested c.args.start.now c.pack.result (board_at tree c.loop-walk.walk.ply) true (sym c.eq.ensures ∙ c.if-eq.true) here)

pub returns-in-Ok-None-clause-absent : goal.returns-in-Ok-None-clause-absent
returns-in-Ok-None-clause-absent c = λ absent tags tree is.
    let on = subst (λ (b : List ℕ). IsRecord b tags tree) (sym c.loop-walk.invariant.bytes) is in
    let here : c.pack.result ≡ board_at tree c.loop-walk.walk.ply =
    c.pack.ensures.packed ∙ (λ j. packed_of (c.board.ensures.board j) (c.side.ensures.side j)) ∙ ap packed_at (c.position-place.ensures.replay tags tree on) in
    starts_never c.args.start.now tree c.loop-walk.walk.ply
    (no_next tree c.loop-walk.walk.ply (sym (c.in-Ok-None.ensures.next tags tree on) ∙ c.in-Ok-None.field-0-is))
    (missed_more c.args.start.now tree c.loop-walk.walk.ply (c.loop-walk.invariant.missed tags tree is)
    (tested c.args.start.now c.pack.result (board_at tree c.loop-walk.walk.ply) false (sym c.eq.ensures ∙ c.if-eq.false) here))

pub loop-walk-preserved : goal.loop-walk-preserved
loop-walk-preserved c =
    let played = rw c.in-Ok-Some.field-0-is at c.in-Ok-Some.ensures.played in
    record {
      bytes = played.1.1 ∙ c.loop-walk.invariant.bytes;
      missed = λ tags tree is.
          let on = subst (λ (b : List ℕ). IsRecord b tags tree) (sym c.loop-walk.invariant.bytes) is in
          let here : c.pack.result ≡ board_at tree c.loop-walk.walk.ply =
          c.pack.ensures.packed ∙ (λ j. packed_of (c.board.ensures.board j) (c.side.ensures.side j)) ∙ ap packed_at (c.position-place.ensures.replay tags tree on) in
          subst (IsMissed c.args.start.now tree) (sym played.1.0)
          (missed_more c.args.start.now tree c.loop-walk.walk.ply (c.loop-walk.invariant.missed tags tree is)
          (tested c.args.start.now c.pack.result (board_at tree c.loop-walk.walk.ply) false (sym c.eq.ensures ∙ c.if-eq.false) here));
    }
