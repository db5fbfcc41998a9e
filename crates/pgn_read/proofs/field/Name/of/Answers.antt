use Rattle.std.proofs.Common.{codes, refl}
use Rattle.pgn_read.proofs.FieldLaws.{differs}
use Rattle.pgn_read.proofs.field.Name.of.Goals as goal

pub returns : goal.returns
returns c = record {
  own =
      rw (differs c.args.name.now _ (codes "Event") c.if-eq.ensures c.as_slice.ensures)
      rw (differs c.args.name.now _ (codes "Site") c.if-eq-2.ensures c.as_slice-2.ensures)
      rw (differs c.args.name.now _ (codes "Date") c.if-eq-3.ensures c.as_slice-3.ensures)
      rw (differs c.args.name.now _ (codes "Round") c.if-eq-4.ensures c.as_slice-4.ensures)
      rw (differs c.args.name.now _ (codes "White") c.if-eq-5.ensures c.as_slice-5.ensures)
      rw (differs c.args.name.now _ (codes "Black") c.if-eq-6.ensures c.as_slice-6.ensures)
      rw (differs c.args.name.now _ (codes "Result") c.if-eq-7.ensures c.as_slice-7.ensures)
      rw (differs c.args.name.now _ (codes "ECO") c.if-eq-8.ensures c.as_slice-8.ensures)
      rw (differs c.args.name.now _ (codes "SetUp") c.if-eq-9.ensures c.as_slice-9.ensures)
      rw (differs c.args.name.now _ (codes "Setup") c.if-eq-10.ensures c.as_slice-10.ensures)
      rw (differs c.args.name.now _ (codes "FEN") c.if-eq-11.ensures c.as_slice-11.ensures)
      rw (differs c.args.name.now _ (codes "ScidFlags") c.if-eq-12.ensures c.as_slice-12.ensures)
      refl;
}
