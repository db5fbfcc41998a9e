use Rattle.std.proofs.Common.{◌≡◌, true, false, sym, subst, ◌∙◌, rules, arith}
use Rattle.std.proofs.lemmas.Bool.{not-false, not-true}
use Rattle.game_tree.specs.Game.{GameTree}
use Rattle.sig_index.specs.Games.{head_in}
use Rattle.sig_index.proofs.ReadLemmas.{some_at}
use Rattle.twin_games.specs.declared.meeting.Met.{Met}
use Rattle.twin_games.specs.Asking.{is_shared}
use Rattle.twin_games.specs.Keys.{IsMet, IsOpening}
use Rattle.twin_games.specs.Twins.{game_in}
use Rattle.twin_games.proofs.MeetLemmas.{game_there, just_met, not_met, twin_is, untwinned}
use Rattle.twin_games.proofs.meeting.meet.Goals as goal

pub returns-then-not-is_shared-clause-twin : goal.returns-then-not-is_shared-clause-twin
returns-then-not-is_shared-clause-twin g c = λ told list same holds before.
    let heads = g.G.Games.heads c.args.games.now in
    let unshared : is_shared heads c.args.i ≡ false = sym c.is_shared.ensures ∙ search (rules, not-true c.is_shared.result) in
    sym (untwinned heads list c.args.depth c.args.i (omega (arith, c.requires.heads, c.requires.game)) unshared)

pub returns-then-not-is_shared-clause-met : goal.returns-then-not-is_shared-clause-met
returns-then-not-is_shared-clause-met g c = λ told list same holds before.
    let heads = g.G.Games.heads c.args.games.now in
    let unshared : is_shared heads c.args.i ≡ false = sym c.is_shared.ensures ∙ search (rules, not-true c.is_shared.result) in
    not_met heads list c.args.depth c.args.i c.args.met.now unshared before

pub returns-clause-twin : goal.returns-clause-twin
returns-clause-twin g c = λ told list same holds before.
    let heads = g.G.Games.heads c.args.games.now in
    let i = c.args.i in
    let shared : is_shared heads i ≡ true = sym c.is_shared.ensures ∙ search (rules, not-false c.is_shared.result) in
    let game = some_at list i (omega (arith, holds.count, c.requires.game)) in
    let key : Met = record { pairing = c.pairing_of-pairing.result; opening = c.in-Ok.opening } in
    let is : IsMet c.args.depth key (head_in heads i) (game_in list i) = record {
      pairing = c.pairing_of-pairing.ensures;
      opening = subst (λ (g : GameTree). IsOpening c.args.depth c.in-Ok.opening g) (game_there list i game.0 game.1) (c.in-Ok.ensures.opening told list game.0 same holds game.1);
    } in
    twin_is heads list c.args.depth i c.args.met.now key c.in_ok-new.new (omega (arith, c.requires.heads, c.requires.game)) shared is c.in_ok-new.ensures.added before

pub returns-clause-met : goal.returns-clause-met
returns-clause-met g c = λ told list same holds before.
    let heads = g.G.Games.heads c.args.games.now in
    let i = c.args.i in
    let shared : is_shared heads i ≡ true = sym c.is_shared.ensures ∙ search (rules, not-false c.is_shared.result) in
    let game = some_at list i (omega (arith, holds.count, c.requires.game)) in
    let key : Met = record { pairing = c.pairing_of-pairing.result; opening = c.in-Ok.opening } in
    let is : IsMet c.args.depth key (head_in heads i) (game_in list i) = record {
      pairing = c.pairing_of-pairing.ensures;
      opening = subst (λ (g : GameTree). IsOpening c.args.depth c.in-Ok.opening g) (game_there list i game.0 game.1) (c.in-Ok.ensures.opening told list game.0 same holds game.1);
    } in
    just_met told (g.G.Games.extents c.args.games.now) (g.G.Games.sigs c.args.games.now) heads list c.args.depth i c.args.met.now c.insert.new.self key
    holds c.requires.heads (omega (arith, c.requires.heads, c.requires.game)) shared is c.in_ok-new.ensures.updates.0 before
