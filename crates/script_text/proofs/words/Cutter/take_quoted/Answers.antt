use Rattle.std.proofs.Common.{rules}
use Rattle.std.proofs.lemmas.Bool.{ne_eqb}
use Rattle.script_text.specs.Cutting.{words_with}
use Rattle.script_text.proofs.WordLaws.{quoted_byte}
use Rattle.script_text.proofs.words.Cutter.take_quoted.Goals as goal

pub returns-clause-goes_on : goal.returns-clause-goes_on
unfolding words_with
returns-clause-goes_on c = λ rest.
    quoted_byte _ _ _ _ c.args.byte rest c.requires
    (ne_eqb c.args.byte 34 c.if-byte-eq34.false) (ne_eqb c.args.byte 92 c.if-byte-eq92.false) (search rules)
