use Rattle.std.proofs.Common.{◌≡◌, ℕ, true, false, List, Some, refl, sym, ap, subst, ◌∙◌, rules}
use Rattle.std.proofs.lemmas.Bool.{not-true}
use Rattle.chess_laws.specs.Position.{Sound}
use Rattle.game_codec.specs.Record.{IsRecord, IsSomeRecord}
use Rattle.game_tree.specs.Replay.{position_at}
use Rattle.sig_index.proofs.RecordLemmas.{game_legal, game_sound, no_next}
use Rattle.pos_search.specs.Matching.{matches, matches_at}
use Rattle.pos_search.specs.Sought.{can_follow}
use Rattle.pos_search.proofs.WalkLemmas.{at_next, at_start, found_here, none_at_end, none_later}
use Rattle.pos_search.proofs.walking.walk_to.Goals as goal

pub loop-coming-init : goal.loop-coming-init
loop-coming-init c = record { bytes = refl; told = c.at_first-coming.ensures.told; at = λ tags game is. at_start c.args.q.now game _ c.requires.start }

pub returns-then-matches-clause-first : goal.returns-then-matches-clause-first
returns-then-matches-clause-first c = λ tags game is.
    let q = c.args.q.now in
    let on : IsRecord c.loop-coming.walk.bytes tags game = subst (λ (b : List ℕ). IsRecord b tags game) (sym c.loop-coming.invariant.bytes) is in
    let holds : matches_at q game c.loop-coming.walk.ply ≡ true =
    ap (matches q) (sym (c.position.ensures.replay tags game on)) ∙ (sym c.matches.ensures.matches ∙ c.if-matches.true) in
    ap (λ (k : ℕ). Some k) c.ply-ply.ensures.ply
    ∙ found_here q game c.loop-coming.walk.ply (c.loop-coming.invariant.at tags game is)
    (rw (← c.ply-ply.ensures.ply) (c.ply-ply.ensures.within tags game on)) holds

pub returns-then-matches-clause-met : goal.returns-then-matches-clause-met
returns-then-matches-clause-met c = record {
  at = sym c.ply-ply.ensures.ply;
  sound = subst Sound c.position.ensures.position c.matches.ensures.sound;
  here = ap (matches c.args.q.now) (sym c.position.ensures.position) ∙ (sym c.matches.ensures.matches ∙ c.if-matches.true);
}

pub returns-then-not-can_follow-clause-first : goal.returns-then-not-can_follow-clause-first
returns-then-not-can_follow-clause-first c = λ tags game is.
    let q = c.args.q.now in
    let on : IsRecord c.loop-coming.walk.bytes tags game = subst (λ (b : List ℕ). IsRecord b tags game) (sym c.loop-coming.invariant.bytes) is in
    let none : c.can_follow.result ≡ false = search (rules, not-true c.can_follow.result) in
    let over : can_follow q (position_at game c.loop-coming.walk.ply) ≡ false =
    ap (can_follow q) (sym (c.position-in-loop-coming.ensures.replay tags game on)) ∙ (sym c.can_follow.ensures.follows ∙ none) in
    none_later q game c.loop-coming.walk.ply (c.loop-coming.invariant.at tags game is)
    (game_sound c.args.walk.now.bytes tags game is) (game_legal c.args.walk.now.bytes tags game is) over

pub returns-in-Ok-None-clause-first : goal.returns-in-Ok-None-clause-first
returns-in-Ok-None-clause-first c = λ tags game is.
    let q = c.args.q.now in
    let on : IsRecord c.loop-coming.walk.bytes tags game = subst (λ (b : List ℕ). IsRecord b tags game) (sym c.loop-coming.invariant.bytes) is in
    let other : matches_at q game c.loop-coming.walk.ply ≡ false =
    ap (matches q) (sym (c.position.ensures.replay tags game on)) ∙ (sym c.matches.ensures.matches ∙ c.if-matches.false) in
    none_at_end q game c.loop-coming.walk.ply (c.loop-coming.invariant.at tags game is) other
    (no_next game c.loop-coming.walk.ply (sym (c.in-Ok-None.ensures.next tags game on) ∙ c.in-Ok-None.field-0-is))

pub loop-coming-preserved : goal.loop-coming-preserved
loop-coming-preserved c =
    let q = c.args.q.now in
    let played = rw c.in-Ok-Some.field-0-is at c.in-Ok-Some.ensures.played in
    record {
      bytes = played.1.1 ∙ c.loop-coming.invariant.bytes;
      told = c.can_follow.ensures.told;
      at = λ tags game is.
          let on : IsRecord c.loop-coming.walk.bytes tags game = subst (λ (b : List ℕ). IsRecord b tags game) (sym c.loop-coming.invariant.bytes) is in
          let other : matches_at q game c.loop-coming.walk.ply ≡ false =
          ap (matches q) (sym (c.position.ensures.replay tags game on)) ∙ (sym c.matches.ensures.matches ∙ c.if-matches.false) in
          at_next q game c.loop-coming.walk.ply _ (c.loop-coming.invariant.at tags game is) other played.1.0;
    }

pub returns-in-Err-clause-fault : goal.returns-in-Err-clause-fault
returns-in-Err-clause-fault c = λ some. c.in-Err.ensures.fault (subst IsSomeRecord (sym c.loop-coming.invariant.bytes) some)
