use Rattle.std.proofs.Common.{◌≡◌, ◌<◌, ◌+◌, ◌*◌, ◌%◌, ◌^◌, ℕ, List, take, get_or, sym, ap, ◌∙◌, subst, arith}
use Rattle.std.specs.Int.{bit_at, bit_not, w16}
use Rattle.std.specs.Int.Bits.{bit_and}
use Rattle.std.proofs.lemmas.List.{get_or-take, length-take-le}
use Rattle.sig_index.proofs.AllowLemmas.{Lacks, all_at_first, found_set, lacks_more, last_set, never_again, none_more}
use Rattle.sig_index.proofs.homes.is_all_but_first.Goals as goal

pub loop-i-init : goal.loop-i-init
loop-i-init c = record {
  lacks = all_at_first (take c.args.s.now.home.count c.args.s.now.home.values);
  none = λ n less. absurd (omega (arith, less));
}

pub returns-then-still-set : goal.returns-then-still-set
returns-then-still-set c =
    let left : List ℕ = take c.args.s.now.home.count c.args.s.now.home.values in
    let long = length-take-le c.args.s.now.home.count c.args.s.now.home.values (omega (arith, c.requires.home.count, c.home_count-i-end.ensures.values)) in
    found_set left c.loop-i.still c.args.set c.loop-i.i (omega (arith, long, c.loop-i-test.true, c.home_count-i-end.ensures.count)) c.loop-i.invariant.lacks c.if-still-set.true

pub returns-then-set-value-eq1 : goal.returns-then-set-value-eq1
returns-then-set-value-eq1 c =
    let left : List ℕ = take c.args.s.now.home.count c.args.s.now.home.values in
    let long = length-take-le c.args.s.now.home.count c.args.s.now.home.values (omega (arith, c.requires.home.count, c.home_count-i-end.ensures.values)) in
    let under : c.loop-i.i < c.args.s.now.home.count = omega (arith, c.loop-i-test.true, c.home_count-i-end.ensures.count) in
    let value : c.home_value-value.result ≡ get_or left c.loop-i.i 0 =
    c.home_value-value.ensures.value
    ∙ c.home_word-word.ensures.values c.loop-i.i (omega (arith, under, c.requires.home.count)) under
    ∙ sym (get_or-take c.args.s.now.home.count c.args.s.now.home.values c.loop-i.i 0 under)
    in
    never_again left c.args.set c.loop-i.i (omega (arith, long, under))
    (subst (λ (v : ℕ). v < 16) (sym (get_or-take c.args.s.now.home.count c.args.s.now.home.values c.loop-i.i 0 under)) (c.requires.home.small c.loop-i.i))
    (subst (λ (v : ℕ). bit_at c.args.set v ≡ 1) value c.if-set-value-eq1.true)
    (none_more left c.loop-i.still c.args.set c.loop-i.i (omega arith) (omega arith) c.loop-i.invariant.lacks c.if-still-set.false c.loop-i.invariant.none)

pub loop-i-preserved : goal.loop-i-preserved
loop-i-preserved c =
    let left : List ℕ = take c.args.s.now.home.count c.args.s.now.home.values in
    let long = length-take-le c.args.s.now.home.count c.args.s.now.home.values (omega (arith, c.requires.home.count, c.home_count-i-end.ensures.values)) in
    let under : c.loop-i.i < c.args.s.now.home.count = omega (arith, c.loop-i-test.true, c.home_count-i-end.ensures.count) in
    let value : c.home_value-value.result ≡ get_or left c.loop-i.i 0 =
    c.home_value-value.ensures.value
    ∙ c.home_word-word.ensures.values c.loop-i.i (omega (arith, under, c.requires.home.count)) under
    ∙ sym (get_or-take c.args.s.now.home.count c.args.s.now.home.values c.loop-i.i 0 under)
    in
    let L : ℕ → Type 0 = λ v. Lacks (take (c.loop-i.i + 1) left) (bit_and c.loop-i.still (bit_not w16 (1 * 2 ^ v % 2 ^ 16))) in
    record {
      lacks = subst L (sym value) (lacks_more left c.loop-i.i c.loop-i.still (omega (arith, long, under))
          (subst (λ (v : ℕ). v < 16) (sym (get_or-take c.args.s.now.home.count c.args.s.now.home.values c.loop-i.i 0 under)) (c.requires.home.small c.loop-i.i))
          c.loop-i.invariant.lacks);
      none = none_more left c.loop-i.still c.args.set c.loop-i.i (omega arith) (omega arith) c.loop-i.invariant.lacks c.if-still-set.false
          c.loop-i.invariant.none;
    }

pub returns : goal.returns
returns c =
    let left : List ℕ = take c.args.s.now.home.count c.args.s.now.home.values in
    let long = length-take-le c.args.s.now.home.count c.args.s.now.home.values (omega (arith, c.requires.home.count, c.home_count-i-end.ensures.values)) in
    last_set left c.loop-i.still c.args.set c.loop-i.i (omega (arith, long, c.loop-i-test.false, c.home_count-i-end.ensures.count)) (omega arith) (omega arith)
    c.loop-i.invariant.lacks c.loop-i.invariant.none
