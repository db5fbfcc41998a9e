use Rattle.std.proofs.Common.{◌≡◌, ℕ, List, Option, sym, subst, ◌∙◌}
use Rattle.cell_core.specs.declared.step.Move.{Move}
use Rattle.game_codec.specs.Record.{IsRecord, IsSomeRecord}
use Rattle.game_tree.specs.Game.{GameTree}
use Rattle.game_tree.specs.declared.head.Tag.{Tag}
use Rattle.pos_search.specs.Matching.{IsLegalFrom, hit_of, hit_on_main}
use Rattle.pos_search.proofs.AsideLemmas.{end_hit, legal_aside, more_searched, none_searched, ok_map, start_hit, walk_hit}
use Rattle.pos_search.proofs.walking.first_in_lines.Goals as goal

pub returns-then-matches-clause-first : goal.returns-then-matches-clause-first
returns-then-matches-clause-first c =
    let q = c.args.q.now in
    ok_map
    (λ (hit : Option (ℕ × Option Move)). (tags : List Tag) (game : GameTree) → IsRecord c.args.bytes.now tags game → hit ≡ hit_on_main q game)
    (λ (hit : Option (ℕ × Option Move)). (tags : List Tag) (game : GameTree) → IsRecord c.args.bytes.now tags game → hit ≡ hit_of q game)
    c.first_on_main.result
    (λ hit told tags game is. told tags game is
    ∙ start_hit q game c.position.result.now (c.position.ensures.position ∙ c.in_ok-walk.ensures.start tags game is) (sym c.matches.ensures.matches ∙ c.if-matches.true))
    c.first_on_main.ensures.first

pub loop-fault-init : goal.loop-fault-init
loop-fault-init c = record {
  bytes = c.in_ok-walk.ensures.bytes;
  at = λ tags game is.
      none_searched c.args.q.now game c.position.result.now _ (c.position.ensures.position ∙ c.in_ok-walk.ensures.start tags game is) c.in_ok-walk.ensures.given
      (sym c.matches.ensures.matches ∙ c.if-matches.false);
}

pub returns-in-Ok-None-clause-first : goal.returns-in-Ok-None-clause-first
returns-in-Ok-None-clause-first c = λ tags game is.
    let on : IsRecord c.loop-fault.walk.bytes tags game = subst (λ (b : List ℕ). IsRecord b tags game) (sym c.loop-fault.invariant.bytes) is in
    let next = rw c.in-Ok-None.field-0-is at c.in-Ok-None.ensures.next in
    c.hit_aside.ensures
    ∙ end_hit c.args.q.now game c.loop-fault.walk.given c.loop-fault.found (c.loop-fault.invariant.at tags game is) c.requires.aside (next tags game on)

pub returns-in-Ok-None-clause-legal : goal.returns-in-Ok-None-clause-legal
returns-in-Ok-None-clause-legal c =
    subst (λ (hit : Option (ℕ × Option Move)). IsLegalFrom c.args.q.now hit) (sym c.hit_aside.ensures) (legal_aside c.args.q.now c.loop-fault.found)

pub returns-in-Err-clause-fault : goal.returns-in-Err-clause-fault
returns-in-Err-clause-fault c = λ some.
    c.in-Err.ensures.fault (subst (λ (b : List ℕ). IsSomeRecord b) (sym c.loop-fault.invariant.bytes) some)

pub returns-then-is_met-clause-first : goal.returns-then-is_met-clause-first
returns-then-is_met-clause-first c =
    let q = c.args.q.now in
    let next = rw c.in-Ok-Some.field-0-is at c.in-Ok-Some.ensures.next in
    ok_map
    (λ (hit : Option (ℕ × Option Move)). (tags : List Tag) (game : GameTree) → IsRecord c.args.bytes.now tags game → hit ≡ hit_on_main q game)
    (λ (hit : Option (ℕ × Option Move)). (tags : List Tag) (game : GameTree) → IsRecord c.args.bytes.now tags game → hit ≡ hit_of q game)
    c.first_on_main-then-is_met.result
    (λ hit told tags game is.
    let on : IsRecord c.loop-fault.walk.bytes tags game = subst (λ (b : List ℕ). IsRecord b tags game) (sym c.loop-fault.invariant.bytes) is in
    told tags game is
    ∙ walk_hit q game c.loop-fault.walk.given c.loop-fault.found _ c.step.new.self (c.loop-fault.invariant.at tags game is) (next tags game on)
    (sym c.is_met.ensures ∙ c.if-is_met.true))
    c.first_on_main-then-is_met.ensures.first

pub loop-fault-preserved : goal.loop-fault-preserved
loop-fault-preserved c =
    let next = rw c.in-Ok-Some.field-0-is at c.in-Ok-Some.ensures.next in
    let more = rw c.in-Ok-Some.field-0-is at c.in-Ok-Some.ensures.given in
    record {
      bytes = c.step.ensures.bytes ∙ c.loop-fault.invariant.bytes;
      at = λ tags game is.
          let on : IsRecord c.loop-fault.walk.bytes tags game = subst (λ (b : List ℕ). IsRecord b tags game) (sym c.loop-fault.invariant.bytes) is in
          more_searched c.args.q.now game c.loop-fault.walk.given _ c.loop-fault.found _ _ c.step.new.self (c.loop-fault.invariant.at tags game is) (next tags game on)
          (sym c.is_met.ensures ∙ c.if-is_met.false) more c.found_aside-found.ensures;
    }
