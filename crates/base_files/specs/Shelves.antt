-- The files of a base in memory (this project's own).
use Rattle.std.specs.Prelude.{ℕ, List, [], length, Option, None, Some}
use Rattle.base_files.specs.Planned.{Calls}
use Rattle.base_files.specs.Chosen.{Choice}
use Rattle.base_files.specs.Seen.{Seen}
use Rattle.base_files.specs.Swaps.{games_before, told_of}
use Rattle.base_files.specs.declared.swap.Swap.{Swap}
use Rattle.base_files.specs.declared.part.Part.{Part}
use Rattle.base_files.specs.declared.part.Part.TheVariants.{Index, Names}

-- The three contents and the new games file, with the names that were chosen. Beside them are the known length of the
-- games file, the bytes asked of it, and the calls. `swaps` has the bytes of the games file that change by themselves,
-- if any may.
pub record Shelf : Type 0 where
  pub index : List ℕ
  pub names : List ℕ
  pub games : List ℕ
  pub fresh : List ℕ
  pub choices : List Choice
  pub known : ℕ
  pub asked : ℕ
  pub calls : Calls
  pub swaps : Option (List Swap)

-- Three contents of which nothing was asked yet, and the numbers of the calls that are to fail.
abbrev pub new_shelf : List ℕ → List ℕ → List ℕ → List ℕ → Shelf
new_shelf index names games fails = record {
  index = index;
  names = names;
  games = games;
  fresh = [];
  choices = [];
  known = 0;
  asked = 0;
  calls = record { planned = fails; made = 0; faults = 0 };
  swaps = None;
}

-- Three contents of which nothing was asked yet, of a games file that changes by itself.
abbrev pub changing_shelf : List ℕ → List ℕ → List ℕ → List Swap → Shelf
changing_shelf index names games swaps = record (new_shelf index names games []) { swaps = Some swaps }

-- Right before the next call is served: the bytes that are planned before it were put.
abbrev pub changed : Shelf → Shelf
changed shelf = record shelf { games = games_before shelf.calls.made shelf.swaps shelf.games }

-- What files in memory show: all of their contents, but none if the games file changes by itself.
abbrev pub seen_of : Shelf → Seen
seen_of shelf = record {
  index = told_of shelf.swaps shelf.index;
  names = told_of shelf.swaps shelf.names;
  games = told_of shelf.swaps shelf.games;
  fresh = told_of shelf.swaps shelf.fresh;
  choices = shelf.choices;
  known = shelf.known;
  added = length shelf.fresh;
}

-- After the whole of a part was replaced.
abbrev pub put_on : Part → List ℕ → Shelf → Shelf
put_on Index bytes shelf = record shelf { index = bytes }
put_on Names bytes shelf = record shelf { names = bytes }

-- After the new games file and the two given parts became the current ones.
abbrev pub committed_on : List ℕ → List ℕ → Shelf → Shelf
committed_on names index shelf = record shelf {
  index = index;
  names = names;
  games = shelf.fresh;
  fresh = [];
  known = length shelf.fresh;
}
