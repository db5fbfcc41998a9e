-- How a command ends, of what the sink tells before and after. This project's own.
use Rattle.std.specs.Prelude.{◌≡◌, ℕ, List, [], Option, Result, Ok, Err}
use Rattle.base_files.specs.Told.{adds, Grew}
use Rattle.command_runs.specs.Plain.{Plain}

-- The state stands, and the whole text was written.
pub record Done {S : Type 0} (Stands : S → Type 0) (state : S) (text : List ℕ) (before after : Option (List ℕ)) : Type 0 where
  pub stands : Stands state
  pub written : after ≡ adds before text

-- All of the one text was written, and no more than the other.
pub record Halted (sure most : List ℕ) (before after : Option (List ℕ)) : Type 0 where
  pub none_lost : Grew (adds before sure) after
  pub no_more : Grew after (adds before most)

-- Whatever a sink had taken before it has taken after, and perhaps more.
abbrev pub NoneLost : Option (List ℕ) → Option (List ℕ) → Type 0
NoneLost before after = (told : Option (List ℕ)) → Grew told before → Grew told after

-- A command that was broken off: a front part of its text was written, and `Broken` holds of it.
pub record Cut (Broken : Type 0) (text : List ℕ) (before after : Option (List ℕ)) : Type 0 where
  pub wrote : Halted [] text before after
  pub broken : Broken

-- What a command owes a state: the state after it stands and its text is written, or it was broken off by this error. `Broken` is told the
-- text, and what the sink told before and after.
abbrev pub Serves : {S C A E : Type 0} → Plain S C → (S → Type 0) → (S → C → E → List ℕ → Option (List ℕ) → Option (List ℕ) → Type 0) → S → C → Option (List ℕ) → Option (List ℕ) → Result A E → Type 0
Serves m Stands Broken s c before after (Ok _) = Done Stands (m.after s c) (m.text s c) before after
Serves m Stands Broken s c before after (Err e) = Cut (Broken s c e (m.text s c) before after) (m.text s c) before after
