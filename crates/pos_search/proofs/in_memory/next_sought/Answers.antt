use Rattle.std.proofs.Common.{◌≡◌, ◌+◌, ◌∙◌, false, None, Some, refl, sym, rules, arith}
use Rattle.std.proofs.lemmas.Bool.{not-true}
use Rattle.game_tree.specs.Replay.{position_at}
use Rattle.pos_search.proofs.InMemoryLemmas.{legal_from, line_ends, next_move, next_step, walked-begin, walked-ended, walked-found, walked-more, walked-past}
use Rattle.pos_search.proofs.in_memory.next_sought.Goals as goal

pub returns-then-matches-clause-next : goal.returns-then-matches-clause-next
returns-then-matches-clause-next c =
    let at = c.loop-node in
    let then =
    next_move c.args.game.now _ c.game.inside.line.items c.as_slice-node-items.result.now at.node-index c.node-item.result _ c.game.view_is refl
    c.as_slice-node-items.ensures.value c.loop-node-test.true c.node-item.is c.node.view_is in
    walked-found c.args.q.now c.args.game.now at.node-index at.position (Some c.node.inside.mv) at.coming at.invariant c.requires.main
    (sym c.matches.ensures.matches ∙ c.if-matches.true) (omega (arith, then.1)) (sym then.0)

pub returns-then-matches-clause-legal : goal.returns-then-matches-clause-legal
returns-then-matches-clause-legal c =
    let at = c.loop-node in
    let then =
    next_move c.args.game.now _ c.game.inside.line.items c.as_slice-node-items.result.now at.node-index c.node-item.result _ c.game.view_is refl
    c.as_slice-node-items.ensures.value c.loop-node-test.true c.node-item.is c.node.view_is in
    legal_from c.args.q.now at.position (position_at c.args.game.now (at.node-index + 1)) c.node.inside.mv c.requires.exact c.matches.ensures.sound
    (sym c.matches.ensures.matches ∙ c.if-matches.true)
    (next_step c.args.game.now at.position at.node-index c.node.inside.mv c.requires.legal at.invariant.at then.1 then.0)

pub returns-then-not-can_follow-clause-next : goal.returns-then-not-can_follow-clause-next
returns-then-not-can_follow-clause-next c =
    let none : c.can_follow.result ≡ false = search (rules, not-true c.can_follow.result) in
    walked-past c.args.q.now c.args.game.now c.loop-node.node-index c.loop-node.position c.loop-node.coming c.loop-node.invariant c.requires.main
    c.matches.ensures.sound c.requires.legal (sym c.can_follow.ensures.follows ∙ none)

pub play-requires : goal.play-requires
play-requires c =
    let at = c.loop-node in
    let then =
    next_move c.args.game.now _ c.game.inside.line.items c.as_slice-node-items.result.now at.node-index c.node-item.result _ c.game.view_is refl
    c.as_slice-node-items.ensures.value c.loop-node-test.true c.node-item.is c.node.view_is in
    record {
      legal = (
        position_at c.args.game.now (at.node-index + 1),
        next_step c.args.game.now at.position at.node-index c.node.inside.mv c.requires.legal at.invariant.at then.1 then.0,
      );
    }

pub loop-node-preserved : goal.loop-node-preserved
loop-node-preserved c =
    let at = c.loop-node in
    let then =
    next_move c.args.game.now _ c.game.inside.line.items c.as_slice-node-items.result.now at.node-index c.node-item.result _ c.game.view_is refl
    c.as_slice-node-items.ensures.value c.loop-node-test.true c.node-item.is c.node.view_is in
    walked-more c.args.q.now c.args.game.now at.node-index at.position c.play.new.self c.node.inside.mv at.coming c.can_follow.new.coming at.invariant
    c.matches.ensures.sound c.requires.legal (sym c.matches.ensures.matches ∙ c.if-matches.false) c.can_follow.ensures.told then.1 then.0 c.play.ensures.only

pub returns-then-matches-2-clause-next : goal.returns-then-matches-2-clause-next
returns-then-matches-2-clause-next c =
    let at = c.loop-node in
    let last =
    line_ends c.args.game.now _ c.game.inside.line.items c.as_slice-node-items.result.now at.node-index c.game.view_is refl c.as_slice-node-items.ensures.value
    c.loop-node-test.false (omega (arith, at.auto)) in
    walked-found c.args.q.now c.args.game.now at.node-index at.position None at.coming at.invariant c.requires.main
    (sym c.matches-2.ensures.matches ∙ c.if-matches-2.true) (omega (arith, last.0)) (sym last.1)

pub returns-clause-next : goal.returns-clause-next
returns-clause-next c =
    let at = c.loop-node in
    let last =
    line_ends c.args.game.now _ c.game.inside.line.items c.as_slice-node-items.result.now at.node-index c.game.view_is refl c.as_slice-node-items.ensures.value
    c.loop-node-test.false (omega (arith, at.auto)) in
    walked-ended c.args.q.now c.args.game.now at.node-index at.position at.coming at.invariant c.requires.main
    (sym c.matches-2.ensures.matches ∙ c.if-matches-2.false) (omega (arith, last.0))
