-- How far the lines of the input are answered (this project's own).
use Rattle.std.specs.Prelude.{◌≡◌, ℕ, List, ◌++◌, take, Option}
use Rattle.base_files.specs.Told.{adds, before, Grew}
use Rattle.scid_moves.specs.Lines.{all_lines, answers, open_line, whole_lines}

-- How many bytes of a line are kept.
abbrev pub most_kept : ℕ
most_kept = 1025

-- Of these bytes the lines that were read whole are answered, and the beginning of the open one is kept.
pub record Stands (bytes kept : List ℕ) (taken given : Option (List ℕ)) : Type 0 where
  pub line : kept ≡ take most_kept (open_line bytes)
  pub written : given ≡ adds taken (answers (whole_lines bytes))

-- No more was written than a front part of the answers to these bytes.
pub record Cut (bytes : List ℕ) (taken given : Option (List ℕ)) : Type 0 where
  pub kept : Grew taken given
  pub no_more : Grew given (adds taken (answers (all_lines bytes)))

-- The same of these bytes and a front part of the next ones.
pub record Stopped (bytes piece : List ℕ) (taken given : Option (List ℕ)) : Type 0 where
  pub front : List ℕ
  pub rest : List ℕ
  pub parts : piece ≡ front ++ rest
  pub cut : Cut (bytes ++ front) taken given

-- These bytes were read, and their lines are answered so far.
pub record Reached (left later taken given : Option (List ℕ)) (kept : List ℕ) : Type 0 where
  pub bytes : List ℕ
  pub read : left ≡ before bytes later
  pub stands : Stands bytes kept taken given
