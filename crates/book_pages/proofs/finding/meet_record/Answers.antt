use Rattle.std.proofs.Common.{◌≡◌, ◌+◌, ℕ, List, drop, take, sym, ◌∙◌, subst}
use Rattle.std.proofs.lemmas.Result.{IfOk-weaker}
use Rattle.cell_core.specs.Packed.{Packed}
use Rattle.game_codec.specs.Record.{IsRecord}
use Rattle.book_pages.specs.Meeting.{Reaches}
use Rattle.book_pages.specs.Reached.{boards_of}
use Rattle.book_pages.proofs.CountLemmas.{reaches_none}
use Rattle.book_pages.proofs.ReachLemmas.{reached_none}
use Rattle.book_pages.proofs.finding.meet_record.Goals as goal

pub returns-in-Ok-true-clause-met : goal.returns-in-Ok-true-clause-met
returns-in-Ok-true-clause-met c =
    IfOk-weaker c.meet_on.result _ _
    (λ met told whole tags tree is.
    let on = subst (λ (b : List ℕ). IsRecord b tags tree) (sym c.in-Ok.ensures.bytes) is in
    let later = subst (λ (b : List ℕ). IsRecord b tags tree) (sym (c.in-Ok-true.ensures.bytes ∙ c.in-Ok.ensures.bytes)) is in
    subst (λ (n : ℕ). Reaches c.args.i (take (c.args.reach.now.depth + 1) (drop n (boards_of tree))) c.args.counts.now.boards.keys c.args.counts.now.met.items c.meet_on.new.counts.boards.keys c.meet_on.new.counts.met.items)
    (sym (c.in-Ok-true.ensures.found c.in-Ok-true.field-0-test tags tree on)) (told whole tags tree later))
    c.meet_on.ensures.met

pub returns-in-Ok-false-clause-met : goal.returns-in-Ok-false-clause-met
returns-in-Ok-false-clause-met c = λ whole tags tree is.
    let on = subst (λ (b : List ℕ). IsRecord b tags tree) (sym c.in-Ok.ensures.bytes) is in
    let never = c.in-Ok-false.ensures.absent c.in-Ok-false.field-0-test tags tree on in
    subst (λ (l : List Packed). Reaches c.args.i l c.args.counts.now.boards.keys c.args.counts.now.met.items c.args.counts.now.boards.keys c.args.counts.now.met.items)
    (sym (reached_none c.args.reach.now tree never)) (reaches_none c.args.i c.args.counts.now.boards.keys c.args.counts.now.met.items)
