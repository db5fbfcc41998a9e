-- What a files object shows of the base that was chosen (this project's own).
use Rattle.std.specs.Prelude.{◌≡◌, ℕ, ◌+◌, Bool, List, [], ◌∷◌, ◌++◌, length, Option, None, Some}
use Rattle.base_files.specs.Told.{adds, Grew}
use Rattle.base_files.specs.Chosen.{Choice, choice}
use Rattle.base_files.specs.declared.part.Part.{Part}
use Rattle.base_files.specs.declared.part.Part.TheVariants.{Index, Names}

-- What a files object shows: the contents of the three files and of the new games file, if the object tells them.
-- `choices` has the names that `choose` was given, the last one last, and `known` is the length of the games file that
-- is known. `added` counts the bytes that were added to the new games file since it was begun.
pub record Seen : Type 0 where
  pub index : Option (List ℕ)
  pub names : Option (List ℕ)
  pub games : Option (List ℕ)
  pub fresh : Option (List ℕ)
  pub choices : List Choice
  pub known : ℕ
  pub added : ℕ

-- After a name was chosen.
abbrev pub chose : List ℕ → Bool → Seen → Seen
chose name create seen = record seen { choices = seen.choices ++ choice name create ∷ [] }

-- After the length of the games file became known.
abbrev pub measured : ℕ → Seen → Seen
measured len seen = record seen { known = len }

-- The bytes in the place of what was told: an object that tells nothing goes on telling nothing.
abbrev pub told_instead : List ℕ → Option (List ℕ) → Option (List ℕ)
told_instead bytes None = None
told_instead bytes (Some told) = Some bytes

-- After the whole of a part was replaced.
abbrev pub replaced : Part → List ℕ → Seen → Seen
replaced Index bytes seen = record seen { index = told_instead bytes seen.index }
replaced Names bytes seen = record seen { names = told_instead bytes seen.names }

-- After bytes were added at the end of the games file.
abbrev pub appended : List ℕ → Seen → Seen
appended bytes seen = record seen { games = adds seen.games bytes; known = seen.known + length bytes }

-- After bytes were added in part or not at all: the games file begins with what it was, and nothing else changed.
pub record AppendedInPart (old new : Seen) : Type 0 where
  pub grew : Grew old.games new.games
  pub rest : new ≡ record old { games = new.games }

-- After a new games file was begun: it is empty, and told if the current one is.
abbrev pub begun : Seen → Seen
begun seen = record seen { fresh = told_instead [] seen.games; added = 0 }

-- After bytes were added at the end of the new games file.
abbrev pub lengthened : List ℕ → Seen → Seen
lengthened bytes seen = record seen { fresh = adds seen.fresh bytes; added = seen.added + length bytes }

-- After bytes were added to the new games file in part or not at all: it begins with what it was, and nothing else changed.
pub record LengthenedInPart (old new : Seen) : Type 0 where
  pub grew : Grew old.fresh new.fresh
  pub rest : new ≡ record old { fresh = new.fresh }

-- After the new games file and the two given parts became the current ones, all three: there is no new games file then.
abbrev pub committed : List ℕ → List ℕ → Seen → Seen
committed names index seen = record seen {
  index = told_instead index seen.index;
  names = told_instead names seen.names;
  games = seen.fresh;
  fresh = told_instead [] seen.fresh;
  known = seen.added;
  added = 0;
}

-- The new games file alone may have changed.
abbrev pub FreshAlone : Seen → Seen → Type 0
FreshAlone old new = new ≡ record old { fresh = new.fresh; added = new.added }

-- The contents of the three files are as before.
pub record SameContents (old new : Seen) : Type 0 where
  pub index : new.index ≡ old.index
  pub names : new.names ≡ old.names
  pub games : new.games ≡ old.games
