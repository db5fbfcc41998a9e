use Rattle.std.proofs.Common.{◌≡◌, ℕ, ◌==◌, Bool}
use Rattle.std.specs.List.{position_or_len}
use Rattle.eco_class.proofs.CutLemmas.{len_is, len_within}
use Rattle.eco_class.proofs.cutting.line_len.Goals as goal

pub returns : goal.returns
returns c =
    let feed : ℕ → Bool = λ byte. byte == 10 in
    let is : c.unwrap_or.result ≡ position_or_len feed c.args.text.now = len_is feed c.args.text.now c.first_line_feed.result c.unwrap_or.result c.first_line_feed.ensures c.unwrap_or.ensures in
    record { len = is; within = len_within feed c.args.text.now c.unwrap_or.result is }
