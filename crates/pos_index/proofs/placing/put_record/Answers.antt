use Rattle.std.proofs.Common.{rules, ◌≡◌, ◌+◌, ◌∙◌, ap, sym, subst, List, arith, ℕ}
use Rattle.std.specs.Prelude.{None, Some}
use Rattle.cell_core.specs.Packed.{Packed}
use Rattle.chess_laws.specs.declared.setup.Setup.{Setup}
use Rattle.chess_laws.specs.Step.{Step}
use Rattle.game_codec.specs.Record.{IsRecord}
use Rattle.game_tree.specs.Replay.{next_at, position_at}
use Rattle.pos_index.specs.Hits.{Place}
use Rattle.pos_index.proofs.GameLemmas.{at_most-more, at_most-none, at_most-wider, legal_place, place_is, so_far-begin, so_far-ended, so_far-full, so_far-more, some_move}
use Rattle.pos_index.proofs.placing.put_record.Goals as goal

pub loop-ply-init : goal.loop-ply-init
loop-ply-init c = record {
  so = λ tags game is. so_far-begin game c.args.places.now c.args.i;
  most = at_most-none c.args.places.now c.args.i;
  bytes = c.in-Ok.ensures.bytes;
  ply = c.in-Ok.ensures.start;
}

pub returns-then-is_none-clause-put : goal.returns-then-is_none-clause-put
returns-then-is_none-clause-put c = λ yes tags game is.
    let on : IsRecord c.loop-ply.walk.bytes tags game = subst (λ (b : List ℕ). IsRecord b tags game) (sym c.loop-ply.invariant.bytes) is in
    let ply = c.loop-ply.ply in
    let place : Place = record { board = c.packed-board.result; ply = ply; next = c.in-Ok-step.next } in
    let at = c.position.ensures.replay tags game on ∙ ap (position_at game) c.loop-ply.invariant.ply in
    let then = c.in-Ok-step.ensures.next tags game on ∙ ap (next_at game) c.loop-ply.invariant.ply in
    let none : c.in-Ok-step.next ≡ None = search rules in
    so_far-ended game c.args.places.now c.loop-ply.places c.put.new.self c.args.i c.args.depth ply place (c.loop-ply.invariant.so tags game is) c.requires.number
    c.in_ok-put.ensures.put (place_is game c.position.result.now ply place c.in-Ok-step.next at then (ap (λ (b : Packed). record { board = b; ply = ply; next = c.in-Ok-step.next }) c.packed-board.ensures.packed))
    (sym then ∙ none) (omega (arith, c.loop-ply-test.true, c.loop-ply.auto))

pub returns-then-is_none-clause-some : goal.returns-then-is_none-clause-some
returns-then-is_none-clause-some c = λ yes.
    let ply = c.loop-ply.ply in
    let place : Place = record { board = c.packed-board.result; ply = ply; next = c.in-Ok-step.next } in
    let none : c.in-Ok-step.next ≡ None = search rules in
    let legal =
    legal_place c.position.result.now c.position.result.now c.packed-board.result ply c.in-Ok-step.next c.packed-board.ensures.sound c.packed-board.ensures.packed
    (λ m some. absurd (let e : None ≡ Some m = sym none ∙ some in cc)) in
    at_most-wider (ply + 1) (c.args.depth + 1) c.args.places.now c.put.new.self c.args.i
    (at_most-more ply c.args.places.now c.loop-ply.places c.put.new.self c.args.i place c.loop-ply.invariant.most c.requires.number legal c.in_ok-put.ensures.put)
    (omega (arith, c.loop-ply-test.true, c.loop-ply.auto))

pub loop-ply-preserved : goal.loop-ply-preserved
loop-ply-preserved c =
    let ply = c.loop-ply.ply in
    let place : Place = record { board = c.packed-board.result; ply = ply; next = c.in-Ok-step.next } in
    let found = some_move c.in-Ok-step.next (search rules) in
    let played = rw found.1 at c.in-Ok-step.ensures.played in
    record {
      so = λ tags game is.
          let on : IsRecord c.loop-ply.walk.bytes tags game = subst (λ (b : List ℕ). IsRecord b tags game) (sym c.loop-ply.invariant.bytes) is in
          let at = c.position.ensures.replay tags game on ∙ ap (position_at game) c.loop-ply.invariant.ply in
          let then = c.in-Ok-step.ensures.next tags game on ∙ ap (next_at game) c.loop-ply.invariant.ply in
          so_far-more game c.args.places.now c.loop-ply.places c.put.new.self c.args.i ply place found.0 (c.loop-ply.invariant.so tags game is) c.requires.number
          c.in_ok-put.ensures.put (place_is game c.position.result.now ply place c.in-Ok-step.next at then (ap (λ (b : Packed). record { board = b; ply = ply; next = c.in-Ok-step.next }) c.packed-board.ensures.packed))
          (sym then ∙ found.1);
      most =
          at_most-more ply c.args.places.now c.loop-ply.places c.put.new.self c.args.i place c.loop-ply.invariant.most c.requires.number
          (legal_place c.position.result.now c.step.new.self.position c.packed-board.result ply c.in-Ok-step.next c.packed-board.ensures.sound c.packed-board.ensures.packed
          (λ m is. subst (λ (p : Setup). Step p m c.step.new.self.position) (sym c.position.ensures.position) (rw is at c.in-Ok-step.ensures.played).0)) c.in_ok-put.ensures.put;
      bytes = played.1.1 ∙ c.loop-ply.invariant.bytes;
      ply = played.1.0 ∙ ap (λ (n : ℕ). n + 1) c.loop-ply.invariant.ply;
    }

pub returns-clause-put : goal.returns-clause-put
returns-clause-put c = λ yes tags game is.
    so_far-full game c.args.places.now c.loop-ply.places c.args.i c.args.depth c.loop-ply.ply (c.loop-ply.invariant.so tags game is) (omega (arith, c.loop-ply-test.false, c.loop-ply.auto))

pub returns-clause-some : goal.returns-clause-some
returns-clause-some c = λ yes.
    at_most-wider c.loop-ply.ply (c.args.depth + 1) c.args.places.now c.loop-ply.places c.args.i c.loop-ply.invariant.most (omega (arith, c.loop-ply.auto))
