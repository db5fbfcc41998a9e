use Rattle.std.proofs.Common.{◌≤◌, List, arith, subst}
use Rattle.std.specs.Prelude.{All}
use Rattle.std.proofs.lemmas.List.{take_all}
use Rattle.std.proofs.lemmas.List.Elements.{All-more}
use Rattle.book_pages.specs.Meeting.{HowMany}
use Rattle.book_pages.proofs.BoardLemmas.{greater}
use Rattle.book_pages.proofs.ReachLemmas.{none_left}
use Rattle.book_pages.proofs.finding.above_all.Goals as goal

pub loop-one-preserved : goal.loop-one-preserved
loop-one-preserved c =
    let more = greater c.loop-one.most c.games.result c.max-most.result c.max-most.ensures in
    let here : c.one-item.result.games ≤ c.max-most.result = omega (arith, more.1, c.games.ensures.games) in
    record {
      each = All-more (λ many. many.games ≤ c.max-most.result) c.args.met.now c.loop-one.one-index c.one-item.result c.loop-one-test.true
          (λ i d less. let old = c.loop-one.invariant.each i d less in omega (arith, old, more.0))
          (subst (λ (many : HowMany). many.games ≤ c.max-most.result) c.one-item.is here);
      small = c.max-most.type_inv;
    }

pub returns : goal.returns
returns c =
    let all = subst (λ (l : List HowMany). All (λ many. many.games ≤ c.loop-one.most) l) (take_all c.loop-one.one-index c.args.met.now c.loop-one-test.false) c.loop-one.invariant.each in
    record { none = none_left c.args.met.now _ (λ k d less. let most = all k d less in omega (arith, most, c.from.ensures)) }
