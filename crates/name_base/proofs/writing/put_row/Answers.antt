-- The id, the frequency and the name one after the other.
use Rattle.std.proofs.Common.{◌++◌, ap, ◌∙◌}
use Rattle.std.specs.Option.{option_copied}
use Rattle.std.proofs.lemmas.Result.{on_ok_weaker}
use Rattle.byteorder.specs.Endian.{big_bytes}
use Rattle.name_base.proofs.TextLemmas.{row_put}
use Rattle.name_base.proofs.writing.put_row.Goals as goal

pub returns : goal.returns
returns c =
    let one = c.in_ok-put_number.ensures ∙ ap (λ w. c.args.out.now.items ++ big_bytes w c.args.row.now.id) c.id_width.ensures.width in
    let two = c.in_ok-put_number-2.ensures ∙ ap (λ w. c.put_number.new.out.items ++ big_bytes w c.args.row.now.frequency) c.frequency_width.ensures.width in
    on_ok_weaker c.put_name.result
    (row_put c.args.out.now.items c.put_number.new.out.items c.put_number-2.new.out.items c.put_name.new.out.items c.args.shape (option_copied c.args.before)
    (record { id = c.args.row.now.id; frequency = c.args.row.now.frequency; name = c.args.row.now.name.now }) one two)
    c.put_name.ensures
