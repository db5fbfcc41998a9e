-- A command that gives its last line instead of writing it, so that its caller writes it later. This project's own.
use Rattle.std.specs.Prelude.{◌≡◌, ◌++◌, ℕ, List, Option, Result, Ok, Err}
use Rattle.std.specs.Global.{Vec}
use Rattle.base_files.specs.Told.{adds}
use Rattle.command_runs.specs.Endings.{Cut}
use Rattle.command_runs.specs.Plain.{Plain}

-- The state stands, and the text was written but for this line.
pub record DoneBut {S : Type 0} (Stands : S → Type 0) (state : S) (text line : List ℕ) (before after : Option (List ℕ)) : Type 0 where
  pub stands : Stands state
  pub front : List ℕ
  pub written : after ≡ adds before front
  pub all : front ++ line ≡ text

-- What such a command owes a state: the state after it stands and its text is written but for the line that it gives, or it was broken off by
-- this error.
abbrev pub ServesBut : {S C E : Type 0} → Plain S C → (S → Type 0) → (S → C → E → List ℕ → Option (List ℕ) → Option (List ℕ) → Type 0) → S → C → Option (List ℕ) → Option (List ℕ) → Result (Vec ℕ) E → Type 0
ServesBut m Stands Broken s c before after (Ok line) = DoneBut Stands (m.after s c) (m.text s c) line.items before after
ServesBut m Stands Broken s c before after (Err e) = Cut (Broken s c e (m.text s c) before after) (m.text s c) before after
