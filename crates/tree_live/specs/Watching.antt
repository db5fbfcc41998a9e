-- What a watch keeps of the games of a base, and what changes when the filter or a game does (this project's own).
use Rattle.std.specs.Prelude.{ℕ, ◌+◌, ◌==◌, ◌&&◌, if◌then◌else◌, Bool, true, false, List, [], ◌∷◌, ◌++◌, Option, Some, None, map, is_some, option_to_list, length, slice_set, nat_lt}
use Rattle.cell_core.specs.Packed.{Packed}
use Rattle.game_tree.specs.declared.head.Outcome.{Outcome}
use Rattle.game_tree.specs.declared.head.Outcome.TheVariants.{Unknown, White, Black, Draw}
use Rattle.tree_rows.specs.declared.hit.GameHit.{GameHit}
use Rattle.tree_rows.specs.Keys.{same_key}
use Rattle.tree_live.specs.declared.entry.Entry.{Entry}
use Rattle.tree_live.specs.declared.marks.Marks.{Marks}
use Rattle.tree_live.specs.declared.marks.Marks.TheVariants.{Plies, Numbers}

-- A position that is watched: its board and side to move, and the games of the base, each with its hit, if it has one, and whether it
-- is in the filter.
pub record Watched : Type 0 where
  pub board : Packed
  pub games : List Entry

-- The hit of a game, if it is in the filter.
abbrev pub counted : Entry → Option GameHit
counted game = if game.is_in then game.hit else None

-- The hits of the games that are in, in the order of the games.
abbrev pub hits_in : List Entry → List GameHit
hits_in [] = []
hits_in (game ∷ games) = option_to_list (counted game) ++ hits_in games

-- Games with these hits, all of them out.
abbrev pub all_out : List (Option GameHit) → List Entry
all_out hits = map (λ hit. record { hit = hit; is_in = false }) hits

-- Whether a game that is in or out is in by a mark. A filter has a ply for each game that is in. A renumbering leaves
-- the games as they are, but those that get no new number are out.
abbrev pub wanted : Marks → Bool → Option ℕ → Bool
wanted Plies is_in mark = is_some mark
wanted Numbers is_in mark = is_in && is_some mark

-- The games with their marks, one each.
abbrev pub by_marks : Marks → List (Option ℕ) → List Entry → List Entry
by_marks marks [] games = games
by_marks marks (mark ∷ rest) [] = []
by_marks marks (mark ∷ rest) (game ∷ games) = record game { is_in = wanted marks game.is_in mark } ∷ by_marks marks rest games

-- The same games under a filter, and with those out that get no new number.
abbrev pub under : List (Option ℕ) → List Entry → List Entry
under plies games = by_marks Plies plies games

abbrev pub staying : List (Option ℕ) → List Entry → List Entry
staying to games = by_marks Numbers to games

-- The games with this one at its number, which may be theirs, for one that is added.
abbrev pub with_game : ℕ → Entry → List Entry → List Entry
with_game i game games = if nat_lt i (length games) then slice_set games i game else games ++ game ∷ []

-- Whether two games ended in the same way, and whether the same is counted of two.
abbrev pub same_outcome : Outcome → Outcome → Bool
same_outcome White White = true
same_outcome Draw Draw = true
same_outcome Black Black = true
same_outcome Unknown Unknown = true
same_outcome a b = false

abbrev pub same_hit : GameHit → GameHit → Bool
same_hit a b = same_key a.next b.next && same_outcome a.result b.result && (a.mover == b.mover) && (a.other == b.other) && (a.year == b.year)

abbrev pub same_counted : Option GameHit → Option GameHit → Bool
same_counted None None = true
same_counted (Some a) (Some b) = same_hit a b
same_counted a b = false

-- How many changes it is that a game counts so afterwards: none if it counts the same. Else it is one for the hit that
-- goes out, if there is one, and one for the hit that comes in, if there is one.
abbrev pub changes : Option GameHit → Option GameHit → ℕ
changes before after = if same_counted before after then 0 else length (option_to_list before) + length (option_to_list after)

-- The changes of all games. A game that was not there before counted nothing.
abbrev pub all_changes : List Entry → List Entry → ℕ
all_changes before [] = 0
all_changes [] (after ∷ games) = changes None (counted after) + all_changes [] games
all_changes (before ∷ games) (after ∷ later) = changes (counted before) (counted after) + all_changes games later
