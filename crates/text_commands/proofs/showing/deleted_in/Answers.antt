use Rattle.std.proofs.Common.{◌≡◌, ◌<◌, ◌+◌, ℕ, [], cond, length, take, get_or, arith, ap, sym, ◌∙◌, rules}
use Rattle.std.proofs.lemmas.List.Sums.{sum_by_more}
use Rattle.std.proofs.lemmas.Option.{get_or_from_slice_get}
use Rattle.std.specs.Prelude.{count_by}
use Rattle.game_tree.specs.Head.{head_of}
use Rattle.game_tree.specs.declared.head.Head.{Head}
use Rattle.text_commands.proofs.showing.deleted_in.Goals as goal

pub loop-i-preserved : goal.loop-i-preserved
loop-i-preserved g c =
    let heads = g.G.Games.heads c.args.games.now in
    let inside : c.loop-i.i < length heads = omega (arith, c.len-i-end.ensures.one_head_each, c.loop-i-test.true) in
    let head : Head = head_of c.head.result [] in
    let here : get_or heads c.loop-i.i head ≡ head = get_or_from_slice_get heads c.loop-i.i head head c.head.ensures.head in
    let one : c.from-count.result ≡ cond c.head.result.deleted 1 0 = search rules in
    let more = sum_by_more (λ (h : Head). cond h.deleted 1 0) heads c.loop-i.i head inside in
    let so_far : ℕ = count_by (λ (h : Head). h.deleted) (take c.loop-i.i heads) in
    record {
      count =
          ap (λ (n : ℕ). n + c.from-count.result) c.loop-i.invariant.count
          ∙ (ap (λ (n : ℕ). so_far + n) (one ∙ ap (λ (h : Head). cond h.deleted 1 0) (sym here)) ∙ sym more);
    }
