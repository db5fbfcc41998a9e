-- Each name that is read leaves one less to read.
use Rattle.std.proofs.Common.{◌≡◌, ◌-◌, length, Some, refl, ap, sym, ◌∙◌, subst, arith}
use Rattle.name_base.specs.PartNames.{Part, entries_in_part}
use Rattle.name_base.specs.KindRead.{AreMet}
use Rattle.name_base.specs.Reading.{Fails, blamed, entry_at}
use Rattle.name_base.specs.declared.fault.NamesError.TheVariants.{Bad}
use Rattle.name_base.proofs.KindLemmas.{AreMet-none}
use Rattle.name_base.proofs.LoopLemmas.{read_goes}
use Rattle.name_base.proofs.PartLemmas.{no-memory, part_done, part_fails, part_goes}
use Rattle.name_base.proofs.kind_reader.read_as_far.Goals as goal

pub loop-index-init : goal.loop-index-init
loop-index-init c =
    let all : c.args.shape.count - 0 ≡ c.args.shape.count = omega arith in
    record {
      same = (λ i. entries_in_part c.args.shape (all i) (c.requires.none i) c.args.bytes.now);
      count = sym c.requires.count;
      index = sym (ap length c.requires.none);
      are = subst (AreMet c.args.shape.count) (sym c.requires.none) (AreMet-none c.args.shape.count);
      bytes = λ i. omega (arith, c.type_inv.bytes i);
    }

pub returns-in-Err-Bad-clause-names : goal.returns-in-Err-Bad-clause-names
returns-in-Err-Bad-clause-names c =
    let gives : Fails (Bad c.in-Err-Bad.field-0-0) (blamed (Some c.args.kind) c.loop-index.index (entry_at c.args.shape c.loop-index.reader.entries c.loop-index.rest.now)) = rw c.in-Err-Bad.field-0-is at c.in-Err-Bad.ensures.gives in
    let f = part_fails c.args.kind c.args.shape c.loop-index.index c.loop-index.reader.entries c.loop-index.rest.now _ c.loop-index-test.true c.loop-index.invariant.index c.loop-index.invariant.same c.in-Err-Bad.field-0-0 gives in
    let same = c.in-Err-Bad.ensures.unchanged (λ is. no-memory c.in-Err-Bad.field-0-0 (sym c.in-Err-Bad.field-0-is ∙ is)) in
    same ∙ sym (ap (λ (p : Part). p.0) f)

pub returns-in-Err-Bad-clause-rest : goal.returns-in-Err-Bad-clause-rest
returns-in-Err-Bad-clause-rest c =
    let gives : Fails (Bad c.in-Err-Bad.field-0-0) (blamed (Some c.args.kind) c.loop-index.index (entry_at c.args.shape c.loop-index.reader.entries c.loop-index.rest.now)) = rw c.in-Err-Bad.field-0-is at c.in-Err-Bad.ensures.gives in
    let f = part_fails c.args.kind c.args.shape c.loop-index.index c.loop-index.reader.entries c.loop-index.rest.now _ c.loop-index-test.true c.loop-index.invariant.index c.loop-index.invariant.same c.in-Err-Bad.field-0-0 gives in
    sym (ap (λ (p : Part). p.1) f)

pub loop-index-preserved : goal.loop-index-preserved
loop-index-preserved c =
    let g = read_goes c.args.kind c.args.shape c.loop-index.index c.loop-index.reader.entries c.loop-index.rest.now _ c.loop-index-test.true c.loop-index.invariant.index refl
    c.read.new.self.entries c.in-Ok.after.now c.loop-index.invariant.are c.loop-index.invariant.bytes c.in-Ok.ensures.gives in
    record {
      same = part_goes c.args.kind c.args.shape c.loop-index.index c.loop-index.reader.entries c.loop-index.rest.now _ c.loop-index-test.true c.loop-index.invariant.index c.loop-index.invariant.same
          c.read.new.self.entries c.in-Ok.after.now c.in-Ok.ensures.gives;
      count = c.read.ensures.count ∙ c.loop-index.invariant.count;
      index = g.next;
      are = g.are;
      bytes = g.bytes_left;
    }

pub returns-clause-names : goal.returns-clause-names
returns-clause-names c = sym (ap (λ (p : Part). p.0) (part_done c.args.shape c.loop-index.index c.loop-index.reader.entries c.loop-index.rest.now _ c.loop-index-test.false c.loop-index.invariant.same))

pub returns-clause-rest : goal.returns-clause-rest
returns-clause-rest c = sym (ap (λ (p : Part). p.1) (part_done c.args.shape c.loop-index.index c.loop-index.reader.entries c.loop-index.rest.now _ c.loop-index-test.false c.loop-index.invariant.same))
