-- Four numbers one after the other.
use Rattle.std.proofs.lemmas.Result.{on_ok_weaker}
use Rattle.name_base.proofs.TextLemmas.{four_put}
use Rattle.name_base.proofs.writing.put_four.Goals as goal

pub returns : goal.returns
returns c =
    on_ok_weaker c.put_number-4.result
    (four_put c.args.out.now.items c.put_number.new.out.items c.put_number-2.new.out.items c.put_number-3.new.out.items c.put_number-4.new.out.items c.args.numbers.now
    c.in_ok-put_number.ensures c.in_ok-put_number-2.ensures c.in_ok-put_number-3.ensures)
    c.put_number-4.ensures
