use Rattle.std.proofs.Common.{◌≡◌, ℕ, ◌+◌, List, Some, sym, ap, subst, ◌∙◌, arith}
use Rattle.std.proofs.lemmas.Bool.{and_parts}
use Rattle.game_codec.specs.Record.{IsRecord, IsSomeRecord}
use Rattle.sig_index.proofs.RecordLemmas.{game_legal, game_sound, no_next}
use Rattle.mat_search.specs.Looking.{is_none}
use Rattle.mat_search.specs.Streaks.{is_over}
use Rattle.mat_search.proofs.LookingLemmas.{at_start, seen}
use Rattle.mat_search.proofs.WalkLemmas.{IsAt, found_here, none_at_end, none_later}
use Rattle.mat_search.proofs.first_ply.first_ply.Goals as goal

pub loop-walk-init : goal.loop-walk-init
loop-walk-init c = record {
  bytes = c.in_ok-walk.ensures.bytes;
  kept = c.at_first-kept.ensures.kept;
  at = λ tags game is. at_start c.args.q.now game c.in_ok-walk.walk.ply c.at_first-kept.result.streaks.own c.at_first-kept.result.streaks.other
      c.in_ok-walk.ensures.start c.at_first-kept.ensures.own c.at_first-kept.ensures.other;
}

pub returns-in-Found-clause-first : goal.returns-in-Found-clause-first
returns-in-Found-clause-first c = λ tags game is.
    let q = c.args.q.now in
    let ply = c.ply-ply.result in
    let new = c.look.new.self in
    let on : IsRecord c.loop-walk.walk.bytes tags game = subst (λ (b : List ℕ). IsRecord b tags game) (sym c.loop-walk.invariant.bytes) is in
    let known = seen q game ply c.loop-walk.walk.ply c.exchanged-exchanged.result _ c.loop-walk.kept new _ (c.loop-walk.invariant.at tags game is) c.loop-walk.invariant.kept
    c.ply-ply.ensures.ply (c.position-in-loop-walk.ensures.replay tags game on) c.census-in-loop-walk.ensures.counts c.exchanged-exchanged.ensures c.look.ensures.looks in
    ap (λ (k : ℕ). Some k) c.saturating_sub.ensures
    ∙ found_here q game ply new.streaks.own new.streaks.other known.at known.own_short known.other_short c.requires.streak
    (c.ply-ply.ensures.within tags game on) (rw c.in-Found.is at c.look.ensures.tells)

pub returns-in-Over-clause-first : goal.returns-in-Over-clause-first
returns-in-Over-clause-first c = λ tags game is.
    let q = c.args.q.now in
    let ply = c.ply-ply.result in
    let new = c.look.new.self in
    let on : IsRecord c.loop-walk.walk.bytes tags game = subst (λ (b : List ℕ). IsRecord b tags game) (sym c.loop-walk.invariant.bytes) is in
    let known = seen q game ply c.loop-walk.walk.ply c.exchanged-exchanged.result _ c.loop-walk.kept new _ (c.loop-walk.invariant.at tags game is) c.loop-walk.invariant.kept
    c.ply-ply.ensures.ply (c.position-in-loop-walk.ensures.replay tags game on) c.census-in-loop-walk.ensures.counts c.exchanged-exchanged.ensures c.look.ensures.looks in
    let over = and_parts (is_none new) (is_over q c.exchanged-exchanged.result ply new.standing.counts) (rw c.in-Over.is at c.look.ensures.tells) in
    none_later q game ply new.streaks.own new.streaks.other new.standing.counts c.exchanged-exchanged.result known.at c.requires.streak
    (game_sound c.args.bytes.now tags game is) (game_legal c.args.bytes.now tags game is) known.counts_are c.exchanged-exchanged.ensures over.0 over.1

pub loop-walk-preserved : goal.loop-walk-preserved
loop-walk-preserved c =
    let played = rw c.in-Ok-Some.field-0-is at c.in-Ok-Some.ensures.played in
    record {
      bytes = played.1.1 ∙ c.loop-walk.invariant.bytes;
      kept = rw c.in-Open.is at c.look.ensures.tells;
      at = λ tags game is.
          let q = c.args.q.now in
          let ply = c.ply-ply.result in
          let new = c.look.new.self in
          let on : IsRecord c.loop-walk.walk.bytes tags game = subst (λ (b : List ℕ). IsRecord b tags game) (sym c.loop-walk.invariant.bytes) is in
          let known = seen q game ply c.loop-walk.walk.ply c.exchanged-exchanged.result _ c.loop-walk.kept new _ (c.loop-walk.invariant.at tags game is) c.loop-walk.invariant.kept
          c.ply-ply.ensures.ply (c.position-in-loop-walk.ensures.replay tags game on) c.census-in-loop-walk.ensures.counts c.exchanged-exchanged.ensures c.look.ensures.looks in
          let next : c.step.new.self.ply ≡ ply + 1 = played.1.0 ∙ ap (λ (n : ℕ). n + 1) (sym c.ply-ply.ensures.ply) in
          subst (λ (n : ℕ). IsAt q game n new.streaks.own new.streaks.other) (sym next) known.at;
    }

pub returns-in-Ok-None-clause-first : goal.returns-in-Ok-None-clause-first
returns-in-Ok-None-clause-first c = λ tags game is.
    let q = c.args.q.now in
    let ply = c.ply-ply.result in
    let new = c.look.new.self in
    let on : IsRecord c.loop-walk.walk.bytes tags game = subst (λ (b : List ℕ). IsRecord b tags game) (sym c.loop-walk.invariant.bytes) is in
    let known = seen q game ply c.loop-walk.walk.ply c.exchanged-exchanged.result _ c.loop-walk.kept new _ (c.loop-walk.invariant.at tags game is) c.loop-walk.invariant.kept
    c.ply-ply.ensures.ply (c.position-in-loop-walk.ensures.replay tags game on) c.census-in-loop-walk.ensures.counts c.exchanged-exchanged.ensures c.look.ensures.looks in
    let kept = rw c.in-Open.is at c.look.ensures.tells in
    let last = no_next game c.loop-walk.walk.ply (sym (c.in-Ok-None.ensures.next tags game on) ∙ c.in-Ok-None.field-0-is) in
    none_at_end q game ply new.streaks.own new.streaks.other known.at kept.own_short kept.other_short (omega (arith, last, c.ply-ply.ensures.ply))

pub returns-in-Err-clause-fault : goal.returns-in-Err-clause-fault
returns-in-Err-clause-fault c =
    λ some. c.in-Err.ensures.fault (subst (λ (b : List ℕ). IsSomeRecord b) (sym c.loop-walk.invariant.bytes) some)
