-- The parts of the header one after the other.
use Rattle.std.proofs.Common.{◌∷◌, []}
use Rattle.std.proofs.lemmas.Result.{on_ok_weaker}
use Rattle.name_base.proofs.TextLemmas.{header_put}
use Rattle.name_base.proofs.writing.put_header.Goals as goal

pub returns : goal.returns
returns c =
    on_ok_weaker c.put_four-2.result
    (header_put c.args.out.now.items c.extend_from_slice.new.self.items c.extend_from_slice-2.new.self.items c.put_four.new.out.items c.put_four-2.new.out.items (0 ∷ 0 ∷ 0 ∷ 0 ∷ []) c.args.header.now
    c.in_ok-extend_from_slice.ensures.items c.in_ok-extend_from_slice-2.ensures.items c.in_ok-put_four.ensures)
    c.put_four-2.ensures
