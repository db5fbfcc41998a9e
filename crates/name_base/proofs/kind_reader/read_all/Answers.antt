-- Each name that is read leaves one less to read.
use Rattle.std.proofs.Common.{◌≡◌, ◌-◌, length, ap, sym, ◌∙◌, subst, arith}
use Rattle.std.proofs.lemmas.Result.{err_from_is_err_and}
use Rattle.name_base.specs.Reading.{entries_at}
use Rattle.name_base.specs.KindRead.{AreMet}
use Rattle.name_base.proofs.KindLemmas.{AreMet-none}
use Rattle.name_base.proofs.LoopLemmas.{read_fails, read_goes, all_read}
use Rattle.name_base.proofs.kind_reader.read_all.Goals as goal

pub loop-index-init : goal.loop-index-init
loop-index-init c =
    let all : c.args.shape.count - 0 ≡ c.args.shape.count = omega arith in
    record {
      same = (λ i. entries_at c.args.kind c.args.shape (all i) (c.requires.none i) c.args.bytes.now);
      count = sym c.requires.count;
      index = sym (ap length c.requires.none);
      are = subst (AreMet c.args.shape.count) (sym c.requires.none) (AreMet-none c.args.shape.count);
      bytes = λ i. omega (arith, c.type_inv.bytes i);
    }

pub returns-in_err-rest-clause-gives : goal.returns-in_err-rest-clause-gives
returns-in_err-rest-clause-gives c =
    let p = err_from_is_err_and c.from_residual.result c.from_residual.ensures.1 in
    rw (p.1, p.2) (read_fails c.args.kind c.args.shape c.loop-index.index c.loop-index.reader.entries c.loop-index.rest.now _ c.loop-index-test.true c.loop-index.invariant.index c.loop-index.invariant.same c.in_err-rest.field-0.0 c.in_err-rest.ensures.gives)

pub loop-index-preserved : goal.loop-index-preserved
loop-index-preserved c =
    let g = read_goes c.args.kind c.args.shape c.loop-index.index c.loop-index.reader.entries c.loop-index.rest.now _ c.loop-index-test.true c.loop-index.invariant.index c.loop-index.invariant.same
    c.read.new.self.entries c.in_ok-rest.rest.now c.loop-index.invariant.are c.loop-index.invariant.bytes c.in_ok-rest.ensures.gives in
    record { same = g.same; count = c.in_ok-rest.ensures.count ∙ c.loop-index.invariant.count; index = g.next; are = g.are; bytes = g.bytes_left }

pub returns-clause-gives : goal.returns-clause-gives
returns-clause-gives c = all_read c.args.kind c.args.shape c.loop-index.index c.loop-index.reader.entries c.loop-index.rest.now _ c.loop-index-test.false c.loop-index.invariant.same
