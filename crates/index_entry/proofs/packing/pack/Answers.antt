-- What the functions write is the written form.
use Rattle.std.proofs.Common.{◌≡◌, ◌<◌, ℕ, List, get_or, subst, sym, arith, rules}
use Rattle.index_entry.specs.Entry.{IsWritten}
use Rattle.index_entry.specs.Writing.{written}
use Rattle.index_entry.proofs.BitLemmas.{IsBytes}
use Rattle.index_entry.proofs.KeptLemmas.{written_is_cleared}
use Rattle.index_entry.proofs.WrittenLemmas.{is_written}
use Rattle.index_entry.proofs.packing.pack.Goals as goal

pub returns : goal.returns
returns c =
    let bytes : IsBytes c.write_entry.result = search rules in
    let whole : IsWritten c.write_entry.result c.args.e.now =
    subst (λ (b : List ℕ). IsWritten b c.args.e.now) (sym c.write_entry.ensures.is)
    (is_written c.args.e.now c.requires c.write_entry.ensures.fits (subst IsBytes c.write_entry.ensures.is bytes)) in
    record {
      written = whole;
      read_again = whole.says;
      cleared = λ read says. written_is_cleared read c.write_entry.result c.args.e.now says whole;
    }
