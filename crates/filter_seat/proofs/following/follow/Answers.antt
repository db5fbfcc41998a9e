use Rattle.std.proofs.Common.{◌<◌, arith, length, refl, subst, sym}
use Rattle.filter_seat.specs.Following.{CanFollow, Moving, told_by}
use Rattle.filter_seat.specs.Seats.{Seat}
use Rattle.filter_seat.specs.declared.following.Moved.{Moved}
use Rattle.filter_seat.proofs.FollowLaws.{fits_after, fits_if, saved_same}
use Rattle.filter_seat.proofs.following.follow.Goals as goal

pub returns-in-Nothing-clause-saved : goal.returns-in-Nothing-clause-saved
returns-in-Nothing-clause-saved c = rw c.in-Nothing.is (sym (saved_same c.args.saved.now))

pub returns-in-Added-clause-fits : goal.returns-in-Added-clause-fits
returns-in-Added-clause-fits c =
    let old : Seat = record { filter = c.args.filter.now; saved = c.args.saved.now } in
    let new : Seat = record { filter = c.add_games.new.filter; saved = c.add_games.new.saved } in
    let few = subst (λ (m : Moved). CanFollow (told_by m) (length c.args.filter.now)) c.in-Added.is c.requires.follows in
    rw c.in-Added.is (fits_if c.add_games.result c.args.entry (Moving.added c.in-Added.games) old new (length c.args.filter.now) (record { filter = refl; saved = c.requires.same_games }) few tt c.add_games.ensures.filter c.add_games.ensures.saved)

pub returns-in-Started-clause-fits : goal.returns-in-Started-clause-fits
returns-in-Started-clause-fits c =
    let old : Seat = record { filter = c.args.filter.now; saved = c.args.saved.now } in
    let new : Seat = record { filter = c.put_at_start.new.filter; saved = c.put_at_start.new.saved } in
    let there = subst (λ (m : Moved). CanFollow (told_by m) (length c.args.filter.now)) c.in-Started.is c.requires.follows in
    rw c.in-Started.is (fits_after c.args.entry (Moving.started c.in-Started.game) old new (length c.args.filter.now) (record { filter = refl; saved = c.requires.same_games }) there tt c.put_at_start.ensures.filter c.put_at_start.ensures.saved)

pub returns-in-Renumbered-clause-fits : goal.returns-in-Renumbered-clause-fits
returns-in-Renumbered-clause-fits c =
    let numbering = c.in-Renumbered.numbering.now in
    let old : Seat = record { filter = c.args.filter.now; saved = c.args.saved.now } in
    let new : Seat = record { filter = c.renumber_all.new.filter; saved = c.renumber_all.new.saved } in
    let same = subst (λ (m : Moved). CanFollow (told_by m) (length c.args.filter.now)) c.in-Renumbered.is c.requires.follows in
    rw c.in-Renumbered.is (fits_after c.args.entry (Moving.numbered numbering) old new (length c.args.filter.now) (record { filter = refl; saved = c.requires.same_games }) same c.renumber_all.ensures.rises c.renumber_all.ensures.filter c.renumber_all.ensures.saved)

pub overflow_cast-game : goal.overflow_cast-game
overflow_cast-game c =
    let there : c.in-Started.game < length c.args.filter.now = subst (λ (m : Moved). CanFollow (told_by m) (length c.args.filter.now)) c.in-Started.is c.requires.follows in
    omega (arith, there, c.len-games.ensures.len)
