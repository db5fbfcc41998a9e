use Rattle.std.proofs.Common.{ap, ◌∙◌}
use Rattle.std.proofs.lemmas.Bool.{eq-eqb}
use Rattle.pos_search.specs.Columns.{on_file}
use Rattle.pos_search.proofs.ColumnLemmas.{pairs-told}
use Rattle.pos_search.proofs.PawnLemmas.{numbers_all}
use Rattle.pos_search.proofs.boards.same_numbers.Goals as goal

pub returns-then-a-b : goal.returns-then-a-b
returns-then-a-b c = numbers_all c.args.a c.args.b (λ file less. eq-eqb _ _ (ap (λ set. on_file set file 8) c.if-a-b.true))

pub returns : goal.returns
returns c = c.same_pairs.ensures ∙ pairs-told c.args.a c.args.b
