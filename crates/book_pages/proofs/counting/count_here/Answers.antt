use Rattle.std.proofs.Common.{◌≡◌, sym, ◌∙◌, subst}
use Rattle.cell_core.specs.declared.man.Colour.{Colour}
use Rattle.chess_laws.specs.Step.{Step}
use Rattle.chess_laws.specs.declared.setup.Setup.{Setup}
use Rattle.game_tree.specs.Replay.{position_at}
use Rattle.sig_index.proofs.RecordLemmas.{game_legal, game_sound}
use Rattle.book_pages.specs.Keeping.{IsPast}
use Rattle.book_pages.proofs.BoardLemmas.{no_more}
use Rattle.book_pages.proofs.HereLemmas.{Meets, end_met, hit_with, kept_met, met_here, next_within, past_met}
use Rattle.book_pages.proofs.counting.count_here.Goals as goal

pub returns-then-is_past-clause-met : goal.returns-then-is_past-clause-met
returns-then-is_past-clause-met c = λ unbroken tags tree is.
    let past : IsPast c.args.least.now.men c.args.least.now.homes.items (position_at tree c.args.walk.now.ply).board =
    subst (λ (p : Setup). IsPast c.args.least.now.men c.args.least.now.homes.items p.board) (c.position-place.ensures.replay tags tree is)
    (c.is_past.ensures.past c.if-is_past.true) in
    past_met c.args.least.now.men c.args.least.now.homes.items c.args.boards.now.keys c.args.game.now tree c.args.walk.now.ply c.args.tallies.now
    c.requires.boards.each c.requires.homes past (game_sound _ tags tree is) (game_legal _ tags tree is)

pub returns-then-is_past-clause-over : goal.returns-then-is_past-clause-over
returns-then-is_past-clause-over c = λ over tags tree is.
    let past : IsPast c.args.least.now.men c.args.least.now.homes.items (position_at tree c.args.walk.now.ply).board =
    subst (λ (p : Setup). IsPast c.args.least.now.men c.args.least.now.homes.items p.board) (c.position-place.ensures.replay tags tree is)
    (c.is_past.ensures.past c.if-is_past.true) in
    no_more c.args.least.now.men c.args.least.now.homes.items c.args.boards.now.keys tree c.args.walk.now.ply c.requires.boards.each c.requires.homes past
    (game_sound _ tags tree is) (game_legal _ tags tree is)

pub returns-in-Some-clause-kept : goal.returns-in-Some-clause-kept
returns-in-Some-clause-kept c = λ unbroken.
    let at : c.position-place.result.now ≡ c.args.walk.now.position = c.position-place.ensures.position in
    let meets = subst (λ (side : Colour). Meets c.place_of-here.result c.args.game.now.number (hit_with c.args.game.now c.in-Ok.next side) c.args.tallies.now c.meet.new.tallies)
    c.side-side.ensures.side c.in_ok-meet.ensures.met in
    kept_met c.args.boards.now.keys c.args.game.now c.position-place.result.now c.step.new.self.position c.in-Ok.next c.place_of-here.result c.args.tallies.now c.meet.new.tallies
    c.setup-rules.ensures.sound (λ m is. subst (λ (p : Setup). Step p m c.step.new.self.position) (sym at) (rw is at c.in-Ok.ensures.played).0)
    c.place_of-here.ensures.tells meets c.in_ok-meet.ensures.len c.requires.kept

pub returns-in-Some-clause-met : goal.returns-in-Some-clause-met
returns-in-Some-clause-met c = λ unbroken tags tree is.
    let meets = subst (λ (side : Colour). Meets c.place_of-here.result c.args.game.now.number (hit_with c.args.game.now c.in-Ok.next side) c.args.tallies.now c.meet.new.tallies)
    c.side-side.ensures.side c.in_ok-meet.ensures.met in
    met_here c.args.boards.now.keys c.args.game.now tree c.args.walk.now.ply c.position-place.result.now c.in-Ok.next c.place_of-here.result c.args.tallies.now c.meet.new.tallies
    (c.position-place.ensures.replay tags tree is) (c.in-Ok.ensures.next tags tree is) c.place_of-here.ensures.tells meets

pub returns-in-Some-clause-within : goal.returns-in-Some-clause-within
returns-in-Some-clause-within c = λ on tags tree is.
    let played = rw c.in-Some.is at c.in-Ok.ensures.played in
    next_within tree c.args.walk.now.ply _ c.in-Some.m (sym c.in-Some.is ∙ c.in-Ok.ensures.next tags tree is) played.1.0

pub returns-in-None-clause-kept : goal.returns-in-None-clause-kept
returns-in-None-clause-kept c = λ unbroken.
    let at : c.position-place.result.now ≡ c.args.walk.now.position = c.position-place.ensures.position in
    let meets = subst (λ (side : Colour). Meets c.place_of-here.result c.args.game.now.number (hit_with c.args.game.now c.in-Ok.next side) c.args.tallies.now c.meet.new.tallies)
    c.side-side.ensures.side c.in_ok-meet.ensures.met in
    kept_met c.args.boards.now.keys c.args.game.now c.position-place.result.now c.step.new.self.position c.in-Ok.next c.place_of-here.result c.args.tallies.now c.meet.new.tallies
    c.setup-rules.ensures.sound (λ m is. subst (λ (p : Setup). Step p m c.step.new.self.position) (sym at) (rw is at c.in-Ok.ensures.played).0)
    c.place_of-here.ensures.tells meets c.in_ok-meet.ensures.len c.requires.kept

pub returns-in-None-clause-met : goal.returns-in-None-clause-met
returns-in-None-clause-met c = λ unbroken tags tree is.
    let meets = subst (λ (side : Colour). Meets c.place_of-here.result c.args.game.now.number (hit_with c.args.game.now c.in-Ok.next side) c.args.tallies.now c.meet.new.tallies)
    c.side-side.ensures.side c.in_ok-meet.ensures.met in
    met_here c.args.boards.now.keys c.args.game.now tree c.args.walk.now.ply c.position-place.result.now c.in-Ok.next c.place_of-here.result c.args.tallies.now c.meet.new.tallies
    (c.position-place.ensures.replay tags tree is) (c.in-Ok.ensures.next tags tree is) c.place_of-here.ensures.tells meets

pub returns-in-None-clause-over : goal.returns-in-None-clause-over
returns-in-None-clause-over c = λ over tags tree is.
    end_met c.args.boards.now.keys tree c.args.walk.now.ply (sym c.in-None.is ∙ c.in-Ok.ensures.next tags tree is)
