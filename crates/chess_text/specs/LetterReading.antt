-- What the readers of the letters of men answer (PGN standard, 16.1.3.1).
use Rattle.std.specs.Prelude.{ℕ, ◌-◌, ◌==◌, [], ◌∷◌, Option, option_map, cond, nat_lt}
use Rattle.std.specs.List.{find}
use Rattle.cell_core.specs.declared.man.Colour.TheVariants.{White, Black}
use Rattle.cell_core.specs.declared.man.Kind.{Kind}
use Rattle.cell_core.specs.declared.man.Kind.TheVariants.{King, Queen, Rook, Bishop, Knight, Pawn}
use Rattle.cell_core.specs.declared.man.Man.{Man}
use Rattle.cell_core.specs.Man.{man}
use Rattle.chess_text.specs.Letters.{capital_of}

-- The kind that a capital letter names, or none.
unfoldable pub kind_named : ℕ → Option Kind
kind_named letter = find (λ kind. letter == capital_of kind) (King ∷ Queen ∷ Rook ∷ Bishop ∷ Knight ∷ Pawn ∷ [])

-- The man that a letter names, or none: letters below a are capital.
unfoldable pub man_named : ℕ → Option Man
man_named letter =
    cond (nat_lt letter 97) (option_map (man White) (kind_named letter)) (option_map (man Black) (kind_named (letter - 32)))
