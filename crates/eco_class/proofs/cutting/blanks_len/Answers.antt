use Rattle.std.proofs.Common.{◌≡◌, ℕ, Bool, not}
use Rattle.std.specs.List.{position_or_len}
use Rattle.eco_class.specs.Cutting.{is_blank}
use Rattle.eco_class.proofs.CutLemmas.{len_is, len_within}
use Rattle.eco_class.proofs.cutting.blanks_len.Goals as goal

pub returns : goal.returns
returns c =
    let other : ℕ → Bool = λ byte. not (is_blank byte) in
    let is : c.unwrap_or.result ≡ position_or_len other c.args.line.now = len_is other c.args.line.now c.first_of_word.result c.unwrap_or.result c.first_of_word.ensures c.unwrap_or.ensures in
    record { len = is; within = len_within other c.args.line.now c.unwrap_or.result is }
