use Rattle.std.proofs.Common.{◌≡◌, ◌<◌, ℕ, false, List, length, ap, arith, sym, subst, ◌∙◌, rules}
use Rattle.std.specs.Prelude.{All}
use Rattle.std.proofs.lemmas.Bool.{not-true}
use Rattle.chess_laws.specs.declared.setup.Setup.{Setup}
use Rattle.game_codec.specs.Record.{IsRecord, IsSomeRecord}
use Rattle.sig_index.proofs.RecordLemmas.{game_legal, game_sound, no_next}
use Rattle.eco_class.specs.Kept.{men_in}
use Rattle.eco_class.specs.Table.{Opening}
use Rattle.eco_class.proofs.LastLemmas.{last_end, last_here, last_next, last_over, last_start, next_within, or_small, start_within}
use Rattle.eco_class.proofs.table.EcoTable.classify.Goals as goal

pub loop-walk-init : goal.loop-walk-init
loop-walk-init c = record {
  bytes = c.in_ok-walk.ensures.bytes;
  within = λ tags game is. start_within game _ c.in_ok-walk.ensures.start;
  code = λ tags game is. last_start c.args.self.now game _ c.in_ok-walk.ensures.start;
  bounds = tt;
}

pub returns-then-not-can_follow-clause-code : goal.returns-then-not-can_follow-clause-code
returns-then-not-can_follow-clause-code c = λ tags game is.
    let table = c.args.self.now in
    let ply = c.loop-walk.walk.ply in
    let on : IsRecord c.loop-walk.walk.bytes tags game = subst (λ (b : List ℕ). IsRecord b tags game) (sym c.loop-walk.invariant.bytes) is in
    let at = c.position-place.ensures.replay tags game on in
    let none : c.can_follow.result ≡ false = search (rules, not-true c.can_follow.result) in
    let over = rw none at c.can_follow.ensures.over in
    last_over table game ply c.or-code.result (game_sound c.args.bytes.now tags game is) (game_legal c.args.bytes.now tags game is)
    (c.loop-walk.invariant.within tags game is)
    (subst (λ (p : Setup). All (λ (line : Opening). men_in p.board < men_in line.board) table) at over)
    (last_here table game ply c.position-place.result.now c.code_of.result c.loop-walk.code c.or-code.result c.code_of.ensures.code at (c.loop-walk.invariant.code tags game is) c.or-code.ensures)

pub returns-then-not-can_follow-clause-bounds : goal.returns-then-not-can_follow-clause-bounds
returns-then-not-can_follow-clause-bounds c =
    or_small c.code_of.result c.loop-walk.code c.or-code.result c.or-code.ensures c.code_of.ensures.bounds c.loop-walk.invariant.bounds

pub returns-in-Ok-None-clause-code : goal.returns-in-Ok-None-clause-code
returns-in-Ok-None-clause-code c = λ tags game is.
    let table = c.args.self.now in
    let ply = c.loop-walk.walk.ply in
    let on : IsRecord c.loop-walk.walk.bytes tags game = subst (λ (b : List ℕ). IsRecord b tags game) (sym c.loop-walk.invariant.bytes) is in
    last_end table game ply c.or-code.result (c.loop-walk.invariant.within tags game is)
    (no_next game ply (sym (c.in-Ok-None.ensures.next tags game on) ∙ c.in-Ok-None.field-0-is))
    (last_here table game ply c.position-place.result.now c.code_of.result c.loop-walk.code c.or-code.result c.code_of.ensures.code
    (c.position-place.ensures.replay tags game on) (c.loop-walk.invariant.code tags game is) c.or-code.ensures)

pub returns-in-Ok-None-clause-bounds : goal.returns-in-Ok-None-clause-bounds
returns-in-Ok-None-clause-bounds c =
    or_small c.code_of.result c.loop-walk.code c.or-code.result c.or-code.ensures c.code_of.ensures.bounds c.loop-walk.invariant.bounds

pub loop-walk-preserved : goal.loop-walk-preserved
loop-walk-preserved c =
    let table = c.args.self.now in
    let ply = c.loop-walk.walk.ply in
    let played = rw c.in-Ok-Some.field-0-is at c.in-Ok-Some.ensures.played in
    record {
      bytes = played.1.1 ∙ c.loop-walk.invariant.bytes;
      within = λ tags game is.
          let on : IsRecord c.loop-walk.walk.bytes tags game = subst (λ (b : List ℕ). IsRecord b tags game) (sym c.loop-walk.invariant.bytes) is in
          next_within game ply _ _ (sym c.in-Ok-Some.field-0-is ∙ c.in-Ok-Some.ensures.next tags game on) played.1.0;
      code = λ tags game is.
          let on : IsRecord c.loop-walk.walk.bytes tags game = subst (λ (b : List ℕ). IsRecord b tags game) (sym c.loop-walk.invariant.bytes) is in
          last_next table game ply _ c.or-code.result played.1.0
          (last_here table game ply c.position-place.result.now c.code_of.result c.loop-walk.code c.or-code.result c.code_of.ensures.code
          (c.position-place.ensures.replay tags game on) (c.loop-walk.invariant.code tags game is) c.or-code.ensures);
      bounds = or_small c.code_of.result c.loop-walk.code c.or-code.result c.or-code.ensures c.code_of.ensures.bounds c.loop-walk.invariant.bounds;
    }

pub loop-walk-smaller : goal.loop-walk-smaller
loop-walk-smaller c =
    let played = rw c.in-Ok-Some.field-0-is at c.in-Ok-Some.ensures.played in
    omega (arith, played.1.0, c.ply.ensures.ply, c.ply.ensures.bounded, ap length c.loop-walk.invariant.bytes)

pub returns-in-Err-clause-fault : goal.returns-in-Err-clause-fault
returns-in-Err-clause-fault c = λ some. c.in-Err.ensures.fault (subst IsSomeRecord (sym c.loop-walk.invariant.bytes) some)
