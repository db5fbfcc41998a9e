-- Men: their colours and their kinds (FIDE Laws, Article 2.2; the numbers of kinds are this project's own).
use Rattle.std.specs.Prelude.{ℕ, Bool, true, false, ◌&&◌, ◌==◌, Option, Some, None}
use Rattle.cell_core.specs.declared.man.Colour.{Colour}
use Rattle.cell_core.specs.declared.man.Colour.TheVariants.{White, Black}
use Rattle.cell_core.specs.declared.man.Kind.{Kind}
use Rattle.cell_core.specs.declared.man.Kind.TheVariants.{King, Queen, Rook, Bishop, Knight, Pawn}
use Rattle.cell_core.specs.declared.man.Man.{Man}

-- The other side.
abbrev pub other : Colour → Colour
other White = Black
other Black = White

-- The man of this colour and kind.
abbrev pub man : Colour → Kind → Man
man c k = record { colour = c; kind = k }

-- The number of a kind, from king to pawn.
abbrev pub kind_number : Kind → ℕ
kind_number King = 0
kind_number Queen = 1
kind_number Rook = 2
kind_number Bishop = 3
kind_number Knight = 4
kind_number Pawn = 5

-- Whether two colours, two kinds, or two men are the same.
abbrev pub same_colour : Colour → Colour → Bool
same_colour White White = true
same_colour White Black = false
same_colour Black White = false
same_colour Black Black = true

abbrev pub same_kind : Kind → Kind → Bool
same_kind a b = kind_number a == kind_number b

abbrev pub same_man : Man → Man → Bool
same_man a b = same_colour a.colour b.colour && same_kind a.kind b.kind

-- Whether such a man stands on a square, and whether some man of this colour does.
abbrev pub is_man : Colour → Kind → Option Man → Bool
is_man c k None = false
is_man c k (Some m) = same_colour m.colour c && same_kind m.kind k

abbrev pub is_of : Colour → Option Man → Bool
is_of c None = false
is_of c (Some m) = same_colour m.colour c
