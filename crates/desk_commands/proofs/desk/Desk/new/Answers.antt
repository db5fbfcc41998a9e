use Rattle.std.proofs.Common.{◌≡◌, ℕ, cond, length, replicate, ap, sym, ◌∙◌}
use Rattle.filter_seat.specs.Seats.{first_seat}
use Rattle.index_entry.specs.declared.index.IndexHead.{IndexHead}
use Rattle.shell_state.specs.Stands.{Holding}
use Rattle.desk_commands.proofs.BeginLaws.{all_seated, begin_sound, begin_stands, many_seats}
use Rattle.desk_commands.proofs.OwnLaws.{number_of}
use Rattle.desk_commands.proofs.desk.Desk.new.Goals as goal
use Rattle.desk_commands.specs.Standing.{seats_of, with_seat}

pub seated-requires-clause-number : goal.seated-requires-clause-number
seated-requires-clause-number c = many_seats c.in_ok-seats.seats.items _ _ c.in_ok-seats.ensures.first ∙ ap number_of c.is_tagged.ensures.tagged

pub seated-requires-clause-speaks : goal.seated-requires-clause-speaks
seated-requires-clause-speaks c = all_seated c.args.clients (length c.in_ok-seats.seats.items) c.requires.new (many_seats c.in_ok-seats.seats.items _ _ c.in_ok-seats.ensures.first ∙ ap number_of c.is_tagged.ensures.tagged)

pub returns-clause-sound : goal.returns-clause-sound
returns-clause-sound c = λ seen ends.
    let m : Holding = with_seat c.in_ok-machine.machine (first_seat (length c.args.base.entries)) in
    let n = cond c.args.clients.tagged 4 1 in
    let games : c.header.result.now.games ≡ length c.args.base.entries = ap (λ (h : IndexHead). h.games) c.header.ensures.header ∙ sym c.header.ensures.sound.count in
    let seats : seats_of c.in_ok-seats.seats.items ≡ replicate n (first_seat (length c.args.base.entries)) = c.in_ok-seats.ensures.first ∙ (ap (λ b. replicate (number_of b) (first_seat c.header.result.now.games)) c.is_tagged.ensures.tagged ∙ ap (λ (k : ℕ). replicate n (first_seat k)) games) in
    begin_sound c.args.base m c.seated.result n seen c.in_ok-machine.ensures.begins (ap (λ (h : Holding). h.kept) c.seated.ensures.holding) (ap (λ (h : Holding). h.tables) c.seated.ensures.holding) c.in_ok-machine.ensures.kept
    (c.seated.ensures.seats ∙ seats) ends

pub returns-clause-stands : goal.returns-clause-stands
returns-clause-stands c = λ seen created slots plain none opened.
    let m : Holding = with_seat c.in_ok-machine.machine (first_seat (length c.args.base.entries)) in
    let n = cond c.args.clients.tagged 4 1 in
    let games : c.header.result.now.games ≡ length c.args.base.entries = ap (λ (h : IndexHead). h.games) c.header.ensures.header ∙ sym c.header.ensures.sound.count in
    let seats : seats_of c.in_ok-seats.seats.items ≡ replicate n (first_seat (length c.args.base.entries)) = c.in_ok-seats.ensures.first ∙ (ap (λ b. replicate (number_of b) (first_seat c.header.result.now.games)) c.is_tagged.ensures.tagged ∙ ap (λ (k : ℕ). replicate n (first_seat k)) games) in
    begin_stands c.args.base m c.seated.result c.args.clients seen created slots plain c.in_ok-machine.ensures.begins (ap (λ (h : Holding). h.kept) c.seated.ensures.holding) (ap (λ (h : Holding). h.tables) c.seated.ensures.holding)
    (c.seated.ensures.seats ∙ seats) c.seated.ensures.clients c.requires.new none opened
