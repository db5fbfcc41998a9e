-- The names that are left give what all of them give.
use Rattle.std.proofs.Common.{◌≡◌, ◌-◌, [], length}
use Rattle.name_base.specs.KindRead.{AreMet}
use Rattle.name_base.specs.PartNames.{entries_in_part}
use Rattle.name_base.proofs.FieldLemmas.{IsBytes}
use Rattle.name_base.proofs.kind_reader.read_as_far.Given as goal

abbrev pub invariant-loop-index : goal.invariant-loop-index
invariant-loop-index l = record {
  same : entries_in_part l.fn.shape (l.fn.shape.count - l.index) l.reader.entries l.rest ≡ entries_in_part l.fn.shape l.fn.shape.count [] l.fn.bytes;
  count : l.reader.count ≡ l.fn.shape.count;
  index : l.index ≡ length l.reader.entries;
  are : AreMet l.fn.shape.count l.reader.entries;
  bytes : IsBytes l.rest;
}
