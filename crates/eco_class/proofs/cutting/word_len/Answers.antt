use Rattle.std.proofs.Common.{◌≡◌}
use Rattle.std.specs.List.{position_or_len}
use Rattle.eco_class.specs.Cutting.{is_blank}
use Rattle.eco_class.proofs.CutLemmas.{len_is, len_within}
use Rattle.eco_class.proofs.cutting.word_len.Goals as goal

pub returns : goal.returns
returns c =
    let is : c.unwrap_or.result ≡ position_or_len is_blank c.args.line.now = len_is is_blank c.args.line.now c.first_blank.result c.unwrap_or.result c.first_blank.ensures c.unwrap_or.ensures in
    record { len = is; within = len_within is_blank c.args.line.now c.unwrap_or.result is }
