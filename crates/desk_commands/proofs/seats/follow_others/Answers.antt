use Rattle.std.proofs.Common.{◌≡◌, ◌+◌, List, All, OnOk, ap, refl, arith, drop, length, map, subst, sym, take, ◌∙◌}
use Rattle.std.proofs.lemmas.List.{length-take}
use Rattle.filter_seat.specs.Following.{seat_after, told_by}
use Rattle.filter_seat.specs.Seats.{FitsGames, Seat}
use Rattle.filter_seat.specs.declared.seat.Seat.{Seat as SeatStruct}
use Rattle.desk_commands.proofs.AroundLaws.{around_back, around_front, around_rest, ok_always, ok_same, seen_back, seen_front}
use Rattle.desk_commands.proofs.seats.follow_others.Goals as goal
use Rattle.desk_commands.specs.Standing.{seat_of, seats_of}

pub follow_all-requires : goal.follow_all-requires
follow_all-requires c =
    let place = c.args.client in
    let xs = c.args.seats.now in
    let all = c.requires.follows in
    record {
      follows = (
        all.0,
        (all.1.0, subst (λ (l : List Seat). All (λ (seat : Seat). FitsGames seat all.0) l) (seen_front seat_of place xs (take place xs) refl) all.1.1.0),
      );
    }

pub follow_all-requires-2 : goal.follow_all-requires-2
follow_all-requires-2 c =
    let place = c.args.client in
    let xs = c.args.seats.now in
    let front = c.follow_all.new.seats in
    let long : length front ≡ place = omega (arith, c.follow_all.ensures.number, length-take place xs, c.requires.there) in
    let all = c.requires.follows in
    record {
      follows = (
        all.0,
        (
          all.1.0,
          subst (λ (l : List SeatStruct). All (λ (seat : Seat). FitsGames seat all.0) (seats_of l)) (sym (around_rest place xs front long))
              (subst (λ (l : List Seat). All (λ (seat : Seat). FitsGames seat all.0) l) (seen_back seat_of (place + 1) xs (drop (place + 1) xs) refl) all.1.1.1),
        ),
      );
    }

pub returns-clause-before : goal.returns-clause-before
returns-clause-before c =
    let place = c.args.client in
    let xs = c.args.seats.now in
    let front = c.follow_all.new.seats in
    let long : length front ≡ place = omega (arith, c.follow_all.ensures.number, length-take place xs, c.requires.there) in
    ok_always c.follow_all-2.result _ _
    (seen_front seat_of place _ front (around_front place xs front c.follow_all-2.new.seats c.requires.there long)
    ∙ (c.in_ok-follow_all.ensures.follows ∙ ap (λ (l : List Seat). map (seat_after (told_by c.args.moved.now)) l) (sym (seen_front seat_of place xs (take place xs) refl))))

pub returns-clause-behind : goal.returns-clause-behind
returns-clause-behind c =
    let place = c.args.client in
    let xs = c.args.seats.now in
    let front = c.follow_all.new.seats in
    let back = c.follow_all-2.new.seats in
    let long : length front ≡ place = omega (arith, c.follow_all.ensures.number, length-take place xs, c.requires.there) in
    ok_same c.follow_all-2.result _ _ _ (seen_back seat_of (place + 1) _ back (around_back place xs front back c.requires.there long))
    (subst (λ (l : List Seat). OnOk c.follow_all-2.result (seats_of back ≡ map (seat_after (told_by c.args.moved.now)) l)) (sym (seen_back seat_of (place + 1) xs (drop (place + 1) xs) refl))
    (subst (λ (l : List SeatStruct). OnOk c.follow_all-2.result (seats_of back ≡ map (seat_after (told_by c.args.moved.now)) (seats_of l))) (around_rest place xs front long) c.follow_all-2.ensures.follows))
