-- That the test of boards is an equivalence, as `==` has to be. No public contract cites these words.
use Rattle.std.specs.Prelude.{◌≡◌, true}
use Rattle.std.proofs.Common.{refl, sym}
use Rattle.std.specs.Cmp.{IsEquivalence, and_equiv, on_equiv, nat_eq_equiv}
use Rattle.std.specs.Cmp.Lexicographic.{lists_equiv, options_equiv}
use Rattle.cell_core.specs.declared.man.Colour.{Colour}
use Rattle.cell_core.specs.declared.man.Colour.TheVariants.{White, Black}
use Rattle.cell_core.specs.declared.man.Man.{Man}
use Rattle.cell_core.specs.Man.{kind_number, same_colour}
use Rattle.cell_core.specs.Board.{same_men}

colour_refl : (a : Colour) → same_colour a a ≡ true
colour_refl White = refl
colour_refl Black = refl

colour_symm : (a b : Colour) → same_colour a b ≡ same_colour b a
colour_symm White White = refl
colour_symm White Black = refl
colour_symm Black White = refl
colour_symm Black Black = refl

colour_congr : (a b c : Colour) → same_colour a b ≡ true → same_colour a c ≡ same_colour b c
colour_congr White White c h = refl
colour_congr White Black White h = sym h
colour_congr White Black Black h = h
colour_congr Black White White h = h
colour_congr Black White Black h = sym h
colour_congr Black Black c h = refl

colours_equiv : IsEquivalence same_colour
colours_equiv = record { refl = colour_refl; symm = colour_symm; congr = colour_congr }

-- Men are the same by colour and kind, squares by men, boards by squares.
pub men_equiv : IsEquivalence same_men
unfolding same_men
men_equiv = lists_equiv (options_equiv (and_equiv (on_equiv (λ (m : Man). m.colour) colours_equiv) (on_equiv (λ (m : Man). kind_number m.kind) nat_eq_equiv)))
