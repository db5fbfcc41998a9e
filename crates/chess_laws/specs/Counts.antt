-- How many men of each kind there are, and which pawns stand at home (this project's own).
use Rattle.std.specs.Prelude.{ℕ, ◌+◌, ◌-◌, nat_lt, if◌then◌else◌, Bool, List, [], ◌∷◌, count_by, map, Option, Some, None, slice_index_or, slice_set}
use Rattle.std.specs.List.{flat_map}
use Rattle.cell_core.specs.declared.man.Colour.{Colour}
use Rattle.cell_core.specs.declared.man.Colour.TheVariants.{White, Black}
use Rattle.cell_core.specs.declared.man.Kind.{Kind}
use Rattle.cell_core.specs.declared.man.Kind.TheVariants.{King, Queen, Rook, Bishop, Knight, Pawn}
use Rattle.cell_core.specs.Board.{Men, man_at}
use Rattle.cell_core.specs.Man.{is_man, kind_number, same_kind}
use Rattle.cell_core.specs.declared.man.Man.{Man}

-- How many men of this colour and kind stand on the board.
abbrev pub count_of : Men → Colour → Kind → ℕ
count_of men c k = count_by (is_man c k) men

-- What this says of each kind but the king, in their order: queens, rooks, bishops, knights and pawns of White, then of Black (this
-- project's own).
abbrev pub of_each : (Colour → Kind → ℕ) → List ℕ
of_each says = flat_map (λ c. map (says c) (Queen ∷ Rook ∷ Bishop ∷ Knight ∷ Pawn ∷ [])) (White ∷ Black ∷ [])

-- The ten counts in that order.
abbrev pub counts_of : Men → List ℕ
counts_of men = of_each (count_of men)

-- The place of a man's count among the ten; a king has none.
abbrev pub place_in : Colour → ℕ → ℕ
place_in White n = n
place_in Black n = 5 + n

abbrev pub slot : Man → ℕ
slot m = if same_kind m.kind King then 10 else place_in m.colour (kind_number m.kind - 1)

-- The counts with one man less.
abbrev pub fewer : List ℕ → Option Man → List ℕ
fewer counts None = counts
fewer counts (Some m) = if nat_lt (slot m) 10 then slice_set counts (slot m) (slice_index_or counts (slot m) 0 - 1) else counts

-- The home value of a pawn is 15 down to 8 for a2 to h2, and 7 down to 0 for a7 to h7: the side and the square of a value
-- (this project's own).
abbrev pub home_colour : ℕ → Colour
home_colour value = if nat_lt value 8 then Black else White

abbrev pub home_square : ℕ → ℕ
home_square value = if nat_lt value 8 then 55 - value else 23 - value

-- Whether the pawn with this home value stands on its own square.
abbrev pub is_home : Men → ℕ → Bool
is_home men value = is_man (home_colour value) Pawn (man_at men (home_square value))
