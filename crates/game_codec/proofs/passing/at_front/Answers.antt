use Rattle.std.proofs.Common.{ℕ, List, sym, subst, arith}
use Rattle.std.specs.Prelude.{IfErr}
use Rattle.std.proofs.lemmas.List.{nil_from_length}
use Rattle.cell_core.specs.declared.step.Move.{Move}
use Rattle.move_codec.specs.Numbers.{Numbered}
use Rattle.game_codec.specs.Walking.{GoesOn}
use Rattle.game_codec.proofs.PassLaws.{first_byte}
use Rattle.game_codec.proofs.WalkLaws.{front_none}
use Rattle.game_codec.proofs.passing.at_front.Goals as goal

pub returns-in-empty-clause-fault : goal.returns-in-empty-clause-fault
returns-in-empty-clause-fault c = λ here left g.
    front_none here left (subst (GoesOn here left) (nil_from_length c.args.bytes.now (omega (arith, c.in-empty.len_below))) g)

pub returns-in-len1-up-clause-fault : goal.returns-in-len1-up-clause-fault
returns-in-len1-up-clause-fault c =
    subst (λ (bytes : List ℕ). IfErr c.front_of.result (λ e. (here : Numbered) (moves : List Move) → GoesOn here moves bytes → ⊥))
    (sym (first_byte c.args.bytes.now c.in-len1-up.len_at_least)) c.front_of.ensures.fault
