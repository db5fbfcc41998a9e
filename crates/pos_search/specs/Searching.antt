-- What an index tells of games, and which of them a search of all games has to read (this project's own).
use Rattle.std.specs.Prelude.{ℕ, ◌-◌, ◌&&◌, ◌||◌, not, nat_lt, is_none, Bool, true, false, List, [], ◌∷◌, Option, None, Some, length, option_map, slice_get, sum}
use Rattle.std.specs.List.{find}
use Rattle.cell_core.specs.Packed.{men_of, packed_of}
use Rattle.cell_core.specs.declared.step.Move.{Move}
use Rattle.chess_laws.specs.Counts.{counts_of}
use Rattle.pos_index.specs.Hits.{Place, same_packed}
use Rattle.sig_index.specs.declared.pos_query.Mode.{Mode}
use Rattle.sig_index.specs.declared.pos_query.Mode.TheVariants.{Exact}
use Rattle.sig_index.specs.declared.pos_query.PosQuery.{PosQuery}
use Rattle.sig_index.specs.declared.signature.Sig.{Sig}
use Rattle.pos_search.specs.Passing.{has_homes, looks_into, passes}

-- The ply of a hit.
abbrev pub ply_of : Option (ℕ × Option Move) → Option ℕ
ply_of hit = option_map (λ (found : ℕ × Option Move). found.0) hit

-- A mode in which only the board that is sought matches.
abbrev pub is_exact : Mode → Bool
is_exact Exact = true
is_exact _ = false

-- The hit of a game by the places that an index has of it: the first that is sought, if the query is an exact one, for the board of that place.
abbrev pub hit_told : PosQuery → List Place → Option (ℕ × Option Move)
hit_told query places = option_map (λ (place : Place). (place.ply, place.next)) (find (λ (place : Place). is_exact query.mode && same_packed (packed_of query.board query.side) place.board) places)

-- No ply behind this place of a main line can have the board that is sought: the line ends there, there are fewer men than are sought, or
-- a pawn that is sought at home has left.
abbrev pub is_past : PosQuery → Option Place → Bool
is_past query None = false
is_past query (Some place) = is_none place.next || (nat_lt (sum (counts_of (men_of place.board.cells))) (sum (counts_of query.board)) || not (has_homes query.board (men_of place.board.cells)))

-- If none of these places is sought, neither is any other of the game: its variations are not looked at, and no later ply of its main line
-- can have the board.
abbrev pub is_out : PosQuery → List Place → Sig → Bool
is_out query places sig = is_exact query.mode && (not (looks_into sig query) && is_past query (slice_get places (length places - 1)))

-- A game has to be read: the index decides it by no hit and by none of this, and it can match.
abbrev pub is_read : PosQuery → List Place → Sig → Bool
is_read query places sig = is_none (hit_told query places) && (passes sig query && not (is_out query places sig))

-- Whether each game has to be read, by the places that an index has of it, if there is one, and by its signature.
abbrev pub are_read : PosQuery → List (List Place) → List Sig → List Bool
are_read query rows [] = []
are_read query [] (sig ∷ sigs) = is_read query [] sig ∷ are_read query [] sigs
are_read query (row ∷ rows) (sig ∷ sigs) = is_read query row sig ∷ are_read query rows sigs
