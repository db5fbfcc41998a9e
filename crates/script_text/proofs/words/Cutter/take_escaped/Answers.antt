use Rattle.std.proofs.Common.{rules}
use Rattle.script_text.specs.Cutting.{words_with}
use Rattle.script_text.proofs.WordLaws.{escaped_byte}
use Rattle.script_text.proofs.words.Cutter.take_escaped.Goals as goal

pub returns-clause-goes_on : goal.returns-clause-goes_on
unfolding words_with
returns-clause-goes_on c = λ rest.
    escaped_byte _ _ _ _ c.args.byte rest c.requires (search rules) (search rules)
