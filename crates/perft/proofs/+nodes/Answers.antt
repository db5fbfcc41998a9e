use Rattle.std.proofs.Common.{◌≡◌, ℕ, suc, ◌+◌, ◌-◌, List, length, take, sym, subst, arith}
use Rattle.cell_core.specs.declared.step.Move.{Move}
use Rattle.chess_laws.specs.Moves.{ListsMoves}
use Rattle.perft.specs.Count.{AddsUp, IsCount}
use Rattle.perft.proofs.Counting.{Behind, all-counted, none-counted, one-counted, one-more}
use Rattle.perft.proofs.+nodes.Goals as goal

pub returns-then-depth-eq0 : goal.returns-then-depth-eq0
returns-then-depth-eq0 t c =
    let is : c.args.depth ≡ 0 = omega (arith, c.if-depth-eq0.true) in
    record { count = subst (λ (d : ℕ). IsCount d c.args.position.now 1) (sym is) (none-counted c.args.position.now) }

pub returns-then-depth-eq1 : goal.returns-then-depth-eq1
returns-then-depth-eq1 t c =
    let ms = c.legal_moves.new.into.items in
    let is : c.args.depth ≡ 1 = omega (arith, c.if-depth-eq1.true) in
    let counted = one-counted c.args.position.now ms c.if-not-legal_moves.ensures.listed in
    let many : c.len.result ≡ length ms = c.len.ensures.value in
    record {
      count = subst (λ (n : ℕ). IsCount c.args.depth c.args.position.now n) (sym many)
          (subst (λ (d : ℕ). IsCount d c.args.position.now (length ms)) (sym is) counted);
    }

pub loop-m-preserved : goal.loop-m-preserved
loop-m-preserved t c =
    let items = c.as_slice-m-items.result.now in
    let more = one-more (c.args.depth - 1) c.args.position.now c.play.new.self items c.loop-m.m-index c.m-item.result c.loop-m.all c.in_ok-nodes.field-0
    (omega (arith, c.loop-m-test.true, c.loop-m.invariant.within)) c.m-item.is c.loop-m.invariant.sum c.play.ensures.step c.in_ok-nodes.ensures.count in
    record {
      within = omega (arith, c.loop-m-test.true, c.loop-m.invariant.within);
      sum = subst (λ (n : ℕ). AddsUp (Behind (c.args.depth - 1) c.args.position.now) (take (c.loop-m.m-index + 1) items) n) (sym c.in_ok-all.ensures.1) more;
    }

pub returns : goal.returns
returns t c =
    let items = c.as_slice-m-items.result.now in
    let is : c.args.depth ≡ suc (c.args.depth - 1) = omega (arith, c.if-depth-eq0.false) in
    let whole : c.loop-m.m-index ≡ length items = omega (arith, c.loop-m-test.false, c.loop-m.invariant.within) in
    let lists = subst (λ (ms : List Move). ListsMoves c.args.position.now ms) (sym c.as_slice-m-items.ensures.value) c.if-not-legal_moves.ensures.listed in
    record { count = all-counted c.args.depth (c.args.depth - 1) c.args.position.now items c.loop-m.m-index c.loop-m.all is whole lists c.loop-m.invariant.sum }
