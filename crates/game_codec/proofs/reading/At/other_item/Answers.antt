use Rattle.std.proofs.Common.{refl, sym, subst}
use Rattle.std.specs.Prelude.{IfErr}
use Rattle.game_codec.specs.Place.{Place}
use Rattle.game_codec.specs.Reading.{BreaksLine, Ends, Passes}
use Rattle.game_codec.proofs.ReadingLaws.{Passes-none, ends, faults, keeps, nags, notes, plays-as}
use Rattle.game_codec.proofs.reading.At.other_item.Goals as goal

pub returns-in-Err-clause-fault : goal.returns-in-Err-clause-fault
returns-in-Err-clause-fault c = faults c.args.self.now _ refl c.in-Err.ensures.fault

pub returns-in-Err-clause-passes : goal.returns-in-Err-clause-passes
returns-in-Err-clause-passes c = keeps c.args.self.now _ c.in-Err.ensures.kept refl refl

pub returns-in-Play-clause-does : goal.returns-in-Play-clause-does
returns-in-Play-clause-does c = plays-as c.args.self.now _ c.in-Ok.next.used c.in-Ok.ensures.used.1 c.in-Ok.ensures.used.0 c.in-Ok.next.token c.in-Ok.ensures.takes c.in-Ok.ensures.past
    c.split_at.ensures.back c.add.ensures.added c.in-Play.m _ c.in-Play.is (cc c.in-Play.m-is)

pub returns-in-Nag-clause-does : goal.returns-in-Nag-clause-does
returns-in-Nag-clause-does c = nags c.args.self.now _ c.in-Ok.next.used c.in-Ok.ensures.used.1 c.in-Ok.ensures.used.0 c.in-Ok.next.token c.in-Ok.ensures.takes c.in-Ok.ensures.past
    c.split_at.ensures.back c.add.ensures.added _ c.in-Nag.is

pub returns-in-Comment-clause-does : goal.returns-in-Comment-clause-does
returns-in-Comment-clause-does c = notes c.args.self.now _ c.in-Ok.next.used c.in-Ok.ensures.used.1 c.in-Ok.ensures.used.0 c.in-Ok.next.token c.in-Ok.ensures.takes c.in-Ok.ensures.past
    c.split_at.ensures.back c.add.ensures.added c.in-Comment.is

pub returns-in-Open-clause-fault : goal.returns-in-Open-clause-fault
returns-in-Open-clause-fault c =
    let p = c.args.self.now in
    let same = rw c.in-Open.is at c.in-Ok.ensures.past in
    subst (λ (s : Place). IfErr c.variation.result (BreaksLine (record { place = record p.place { now = s }; rest = p.rest; tally = p.tally }))) same c.variation.ensures.fault

pub returns-in-End-clause-does : goal.returns-in-End-clause-does
returns-in-End-clause-does c =
    let p = c.args.self.now in
    let same = rw c.in-End.is at c.in-Ok.ensures.past in
    let takes = rw c.in-End.is at c.in-Ok.ensures.takes in
    subst (λ (s : Place). Passes p (record { place = record p.place { now = s }; rest = p.rest; tally = p.tally }) × Ends (record { place = record p.place { now = s }; rest = p.rest; tally = p.tally })) (sym same)
    (Passes-none p, ends p c.in-Ok.next.used takes)
