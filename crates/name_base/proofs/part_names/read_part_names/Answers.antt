use Rattle.std.proofs.Common.{◌≡◌, ◌∙◌}
use Rattle.std.proofs.lemmas.Result.{IfOk-weaker}
use Rattle.name_base.specs.PartNames.{all_known, names_in_part}
use Rattle.name_base.proofs.PartLemmas.{part-whole}
use Rattle.name_base.proofs.part_names.read_part_names.Goals as goal

pub returns-clause-whole : goal.returns-clause-whole
returns-clause-whole c lists file =
    IfOk-weaker c.read_part_file.result (λ names. names ≡ names_in_part c.args.bytes.now) (λ names. names ≡ all_known lists) (λ names is. is ∙ part-whole c.args.bytes.now lists file) c.read_part_file.ensures.names
