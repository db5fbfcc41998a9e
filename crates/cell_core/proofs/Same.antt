-- The tests of men and boards decide whether they are the same.
use Rattle.std.proofs.Common.{◌≡◌, Option, Some, None, ap, refl, rules}
use Rattle.std.specs.Bool.{Decides}
use Rattle.std.specs.Option.{option_eq}
use Rattle.std.proofs.lemmas.Bool.Decides.{Decides-and, Decides-like}
use Rattle.std.proofs.lemmas.Slice.Eq.{slice_eq-Decides}
use Rattle.cell_core.specs.declared.man.Colour.{Colour}
use Rattle.cell_core.specs.declared.man.Kind.{Kind}
use Rattle.cell_core.specs.declared.man.Man.{Man}
use Rattle.cell_core.specs.Man.{same_colour, same_kind, same_man}
use Rattle.cell_core.specs.Board.{Men, same_men}

pub same_colour-Decides : (a b : Colour) → Decides (same_colour a b) (a ≡ b)
same_colour-Decides a b = search rules

pub same_kind-Decides : (a b : Kind) → Decides (same_kind a b) (a ≡ b)
same_kind-Decides a b = search rules

pub same_man-Decides : (a b : Man) → Decides (same_man a b) (a ≡ b)
same_man-Decides a b =
    Decides-like (same_man a b)
    (λ (h : (a.colour ≡ b.colour) × (a.kind ≡ b.kind)). λ i. record { colour = h.0 i; kind = h.1 i })
    (λ (h : a ≡ b). (ap (λ (m : Man). m.colour) h, ap (λ (m : Man). m.kind) h))
    (Decides-and (same_colour a.colour b.colour) (same_kind a.kind b.kind) (same_colour-Decides a.colour b.colour) (same_kind-Decides a.kind b.kind))

same_cell-Decides : (a b : Option Man) → Decides (option_eq same_man a b) (a ≡ b)
same_cell-Decides None None = (λ h. refl, λ h. refl)
same_cell-Decides None (Some b) = (λ h. absurd (cc), λ h. absurd (cc))
same_cell-Decides (Some a) None = (λ h. absurd (cc), λ h. absurd (cc))
same_cell-Decides (Some a) (Some b) = Decides-like (same_man a b) (λ h. ap Some h) (λ h. cc) (same_man-Decides a b)

pub same_men-Decides : (a b : Men) → Decides (same_men a b) (a ≡ b)
unfolding same_men
same_men-Decides a b = slice_eq-Decides same_cell-Decides a b (same_men a b) refl
