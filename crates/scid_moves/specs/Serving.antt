-- What was answered of an input, if it and the output tell their bytes (this project's own).
use Rattle.std.specs.Prelude.{◌≡◌, ℕ, List, Option}
use Rattle.base_files.specs.Told.{adds, before, Grew}
use Rattle.scid_moves.specs.Lines.{all_lines, answers, whole_lines}

-- These bytes were read, and the answers to these of their lines written: all, or those that were read whole.
pub record Answered (lines_of : List ℕ → List (List ℕ)) (left later taken given : Option (List ℕ)) : Type 0 where
  pub bytes : List ℕ
  pub read : left ≡ before bytes later
  pub written : given ≡ adds taken (answers (lines_of bytes))

-- No more was written than a front part of the answers to a front part of what was read.
pub record Broken (left later taken given : Option (List ℕ)) : Type 0 where
  pub bytes : List ℕ
  pub rest : List ℕ
  pub read : left ≡ before bytes (before rest later)
  pub kept : Grew taken given
  pub no_more : Grew given (adds taken (answers (all_lines bytes)))
