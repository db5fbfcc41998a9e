-- A machine over plain states: what each command makes of a state, and the text that it writes. This project's own.
use Rattle.std.specs.Prelude.{ℕ, List, [], ◌∷◌, ◌++◌}

-- The states S and the commands C are whatever the user of this crate gives.
pub record Plain (S C : Type 0) : Type 0 where
  pub after : S → C → S
  pub text : S → C → List ℕ

-- The state after a list of commands.
abbrev pub after_all : {S C : Type 0} → Plain S C → S → List C → S
after_all m s [] = s
after_all m s (c ∷ cs) = after_all m (m.after s c) cs

-- The texts of a list of commands, joined.
abbrev pub run : {S C : Type 0} → Plain S C → S → List C → List ℕ
run m s [] = []
run m s (c ∷ cs) = m.text s c ++ run m (m.after s c) cs
