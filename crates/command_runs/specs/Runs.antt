-- How a list of commands that is run one after the other may end early. This project's own.
use Rattle.std.specs.Prelude.{◌≡◌, ℕ, List, ◌∷◌, ◌++◌, Option}
use Rattle.base_files.specs.Told.{adds}
use Rattle.command_runs.specs.Plain.{Plain, after_all, run}
use Rattle.command_runs.specs.Endings.{Halted}

-- A run that stopped in the command `next`: those before it are done, and of its own text a front part was written, which may
-- be empty. Each rule of an early end is a part of `Broken`, which is told what the sink told before that text.
pub record Stopped {S C : Type 0} (m : Plain S C) (Broken : S → C → Option (List ℕ) → Type 0) (s : S) (cs : List C) (before after : Option (List ℕ)) : Type 0 where
  pub done : List C
  pub next : C
  pub left : List C
  pub all : cs ≡ done ++ next ∷ left
  pub wrote : Halted (run m s done) (run m s done ++ m.text (after_all m s done) next) before after
  pub broken : Broken (after_all m s done) next (adds before (run m s done))
