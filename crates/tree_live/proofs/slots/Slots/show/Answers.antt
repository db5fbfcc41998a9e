use Rattle.std.proofs.Common.{◌≡◌, ◌+◌, ◌-◌, ◌∙◌, ◌++◌, drop, length, take, ap, refl, arith}
use Rattle.std.proofs.lemmas.List.{length-take-le}
use Rattle.tree_live.specs.Watching.{Watched, under}
use Rattle.tree_live.proofs.GameLaws.{on-ok}
use Rattle.tree_live.proofs.WithinLaws.{part_count, shown_within, told_of}
use Rattle.tree_live.proofs.slots.Slots.show.Goals as goal

pub returns-clause-shown : goal.returns-clause-shown
returns-clause-shown g c =
    let all = c.as_mut_slice-all.result.now in
    let a = c.from-5.result in
    let n = (c.from-3.result + c.from-4.result) - a in
    let eight : length all ≡ 8 = ap length c.as_mut_slice-all.ensures.value ∙ c.self.invariant.1.0 in
    let many : n ≡ c.args.count = omega (arith, c.from-3.ensures, c.from-4.ensures, c.from-5.ensures) in
    let part = c.follow_all.ensures.number ∙ part_count all a n c.args.start c.args.count c.from-5.ensures many (omega (arith, eight, c.requires.room)) in
    on-ok c.show_all.result
    (λ shown. shown_within _ _ c.args.start c.args.count (c.from.result + c.from-2.result) _ c.follow_all.new.watches _ c.args.views.now c.show_all.new.views
    (record { first = c.self.inside.first; count = c.self.inside.count; watches = take a all ++ (c.follow_all.new.watches ++ drop n (drop a all)) })
    (omega (arith, c.from.ensures, c.from-2.ensures)) refl
    (length-take-le a all (omega (arith, eight, c.from-5.ensures, c.requires.room)) ∙ c.from-5.ensures) part shown)
    c.show_all.ensures.shown

pub returns-clause-told : goal.returns-clause-told
returns-clause-told g c =
    let all = c.as_mut_slice-all.result.now in
    let a = c.from-5.result in
    let n = (c.from-3.result + c.from-4.result) - a in
    let eight : length all ≡ 8 = ap length c.as_mut_slice-all.ensures.value ∙ c.self.invariant.1.0 in
    let many : n ≡ c.args.count = omega (arith, c.from-3.ensures, c.from-4.ensures, c.from-5.ensures) in
    let taken = part_count all a n c.args.start c.args.count c.from-5.ensures many (omega (arith, eight, c.requires.room)) in
    let change = λ (watch : Watched). record watch { games = under c.args.filter.now watch.games } in
    told_of _ _ c.args.start c.args.count (c.from.result + c.from-2.result) a n all c.follow_all.new.watches c.args.views.now c.show_all.new.views _ c.args.self.now change c.self.view_is
    (omega (arith, c.from.ensures, c.from-2.ensures)) c.as_mut_slice-all.ensures.value c.from-5.ensures many (c.follow_all.ensures.number ∙ taken)
    (λ j below. c.in_ok-follow_all.ensures.followed.watch j (omega (arith, below, taken))) c.show_all.ensures.told
