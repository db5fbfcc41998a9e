-- The steps of a reading, each of which gives a value or a fault (this project's own).
use Rattle.std.specs.Prelude.{Result, Ok, Err}

infixl 10 ◌>>=◌
-- The second step, unless the first has a fault.
abbrev pub ◌>>=◌ : {A B E : Type 0} → Result A E → (A → Result B E) → Result B E
(Ok x) >>= next = next x
(Err fault) >>= next = Err fault

-- What was read, or the fault told in another way.
abbrev pub blamed : {A E F : Type 0} → (E → F) → Result A E → Result A F
blamed blame (Ok x) = Ok x
blamed blame (Err fault) = Err (blame fault)
