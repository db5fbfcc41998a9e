use Rattle.std.proofs.Common.{◌+◌, List, refl, ap, arith}
use Rattle.eco_class.specs.Cutting.{lines_of}
use Rattle.eco_class.specs.Reading.{with_lines}
use Rattle.eco_class.specs.Table.{Opening}
use Rattle.eco_class.proofs.ReadingLemmas.{read_bad, read_end, read_on}
use Rattle.eco_class.proofs.table.EcoTable.read.Goals as goal

pub loop-line-init : goal.loop-line-init
loop-line-init c = record {
  table = ap (λ (table : List Opening). with_lines table 1 (lines_of c.args.text.now)) c.empty-table.ensures;
  few = omega arith;
}

pub loop-line-preserved : goal.loop-line-preserved
loop-line-preserved c = record {
  table = read_on c.loop-line.table c.read_line.new.self (c.loop-line.number + 1) _ c.loop-line.rest.now c.in-Some.line.text.now c.in-Some.line.behind.now _ c.in-Some.ensures.lines.0 c.in-Ok.ensures.table refl c.loop-line.invariant.table;
  few = omega (arith, c.in-Some.ensures.lines.1, c.loop-line.invariant.few);
}

pub overflow_add-number : goal.overflow_add-number
overflow_add-number c = omega (arith, c.in-Some.ensures.lines.1, c.loop-line.invariant.few, c.requires.few)

pub returns-in-Err-clause-fault : goal.returns-in-Err-clause-fault
returns-in-Err-clause-fault c = λ fault same.
    read_bad c.loop-line.table (c.loop-line.number + 1) c.loop-line.rest.now c.in-Some.line.text.now c.in-Some.line.behind.now fault _ c.in-Some.ensures.lines.0 (c.in-Err.ensures.fault fault same) c.loop-line.invariant.table

pub returns-clause-table : goal.returns-clause-table
returns-clause-table c = read_end c.loop-line.table _ c.loop-line.rest.now _ c.in_default.ensures.lines c.loop-line.invariant.table
