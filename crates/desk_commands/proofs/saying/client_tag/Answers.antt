use Rattle.std.proofs.Common.{ℕ, List, [], ◌∷◌, ◌++◌, ap, arith, sym}
use Rattle.std.proofs.lemmas.Fmt.{decimal_digit}
use Rattle.desk_commands.proofs.saying.client_tag.Goals as goal

pub returns : goal.returns
returns c = record { tag = ap (λ (l : List ℕ). 64 ∷ (l ++ 32 ∷ [])) (sym (decimal_digit c.args.client (omega (arith, c.requires.client)))) }
