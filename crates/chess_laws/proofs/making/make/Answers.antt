-- The man that came, if he leaps, and those who slide tell of check.
use Rattle.chess_laws.proofs.Words.{◌≡◌, ◌↔◌, ◌⊎◌, IsTrue, sym, ◌∙◌, ap, subst, in_check, Hits, SlidesTo, after, effect_of, OnFalse, counts_of}
use Rattle.chess_laws.proofs.Counting.{counts-after}
use Rattle.chess_laws.proofs.Opening.{check-told}
use Rattle.chess_laws.proofs.making.make.Goals as goal

pub returns-clause-check : goal.returns-clause-check
returns-clause-check c =
    let p = c.args.p.now in
    let m = c.args.m.now in
    let next : c.change_as-come.new.p ≡ after p m (effect_of p m) = c.change_as-come.ensures.becomes ∙ ap (after p m) c.requires.effect in
    let told =
    subst (λ q. IsTrue c.gives_check.result ↔ (Hits q.board p.side m.to c.args.resting ⊎ SlidesTo q.board p.side c.args.resting)) next c.gives_check.ensures in
    check-told p m c.args.resting c.gives_check.result c.requires.sound c.requires.legal c.requires.resting told ∙ ap in_check (sym next)

pub returns-clause-census : goal.returns-clause-census
returns-clause-census c =
    let p = c.args.p.now in
    let m = c.args.m.now in
    let next : c.change_as-come.new.p ≡ after p m (effect_of p m) = c.change_as-come.ensures.becomes ∙ ap (after p m) c.requires.effect in
    let one = rw (c.requires.census, c.at-taken.ensures.man) at c.recount.ensures.one in
    let all = subst (λ q. OnFalse c.takes_alone.result (c.recount.new.counts ≡ counts_of q.board)) next c.recount.ensures.all in
    counts-after p m c.takes_alone.result c.recount.new.counts c.requires.sound c.requires.legal (rw c.requires.effect at c.takes_alone.ensures) one all
    ∙ ap (λ q. counts_of q.board) (sym next)
