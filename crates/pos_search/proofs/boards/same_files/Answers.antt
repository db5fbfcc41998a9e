use Rattle.std.proofs.Common.{◌≡◌, ◌&&◌, false, refl, sym, true, ◌∙◌}
use Rattle.cell_core.specs.declared.man.Colour.TheVariants.{Black}
use Rattle.cell_core.specs.declared.man.Kind.TheVariants.{Pawn}
use Rattle.cell_core.specs.Man.{is_man}
use Rattle.cell_core.specs.Sets.{set_of}
use Rattle.pos_search.specs.Columns.{same_numbers}
use Rattle.pos_search.proofs.PawnLemmas.{files-told}
use Rattle.pos_search.proofs.boards.same_files.Goals as goal

pub returns-then-same_numbers : goal.returns-then-same_numbers
returns-then-same_numbers c =
    let black = c.of_man-then-same_numbers in
    let black' = c.of_man-then-same_numbers-2 in
    let white : true ≡ same_numbers c.of_man.result c.of_man-2.result = sym c.if-same_numbers.true ∙ c.same_numbers.ensures in
    c.same_numbers-then-same_numbers.ensures ∙ (λ i. white i && same_numbers black.result black'.result)
    ∙ files-told c.args.a.now c.args.b.now c.of_man.result c.of_man-2.result black.result black'.result
    c.of_man.ensures.squares c.of_man-2.ensures.squares black.ensures.squares black'.ensures.squares

-- The other side is not looked at.
pub returns-else-same_numbers : goal.returns-else-same_numbers
returns-else-same_numbers c =
    let a = c.args.a.now in
    let b = c.args.b.now in
    let black = set_of (is_man Black Pawn) a in
    let black' = set_of (is_man Black Pawn) b in
    let white : false ≡ same_numbers c.of_man.result c.of_man-2.result = sym c.if-same_numbers.false ∙ c.same_numbers.ensures in
    c.if-same_numbers.false ∙ (λ i. white i && same_numbers black black')
    ∙ files-told a b c.of_man.result c.of_man-2.result black black' c.of_man.ensures.squares c.of_man-2.ensures.squares refl refl
