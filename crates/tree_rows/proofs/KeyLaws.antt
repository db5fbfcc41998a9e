-- Keys have one order, in which no two of them tie.
use Rattle.std.proofs.Common.{◌≡◌, ◌↔◌, ℕ, ◌==◌, true, cond, List, [], ◌∷◌, Option, Some, None, Ordering, slice_index_or, refl, sym, ap, ◌∙◌}
use Rattle.std.proofs.lemmas.Bool.{false≢true}
use Rattle.std.proofs.lemmas.Cmp.{on_total, nat_list_cmp_total, tied_itself, tied_back}
use Rattle.std.proofs.lemmas.Map.Text.{is_eq-slice_cmp}
use Rattle.std.proofs.lemmas.Slice.Eq.{bytes_eq-Decides}
use Rattle.std.specs.declared.cmp.Ordering.TheVariants.{Less, Equal, Greater}
use Rattle.std.specs.Cmp.{IsTotalOrder}
use Rattle.std.specs.Ordering.{is_eq, ordering_reverse}
use Rattle.cell_core.specs.declared.man.Kind.{Kind}
use Rattle.cell_core.specs.declared.man.Kind.TheVariants.{King, Queen, Rook, Bishop, Knight, Pawn}
use Rattle.cell_core.specs.declared.step.Move.{Move}
use Rattle.chess_laws.specs.Moves.{promotion_number}
use Rattle.tree_rows.specs.Keys.{key_numbers, key_cmp, same_key}

pub key_total : IsTotalOrder key_cmp
unfolding key_cmp
key_total = on_total key_numbers nat_list_cmp_total

-- the promotion and the key of numbers
promotion_of : ℕ → Option Kind
promotion_of n = slice_index_or (None ∷ Some King ∷ Some Queen ∷ Some Rook ∷ Some Bishop ∷ Some Knight ∷ Some Pawn ∷ []) n None

promotion-back : (promo : Option Kind) → promotion_of (promotion_number promo) ≡ promo
unfolding promotion_of
promotion-back None = refl
promotion-back (Some King) = refl
promotion-back (Some Queen) = refl
promotion-back (Some Rook) = refl
promotion-back (Some Bishop) = refl
promotion-back (Some Knight) = refl
promotion-back (Some Pawn) = refl

key_of : List ℕ → Option Move
key_of (tag ∷ from ∷ to ∷ promo ∷ []) = cond (tag == 0) (Some (record { from = from; to = to; promo = promotion_of promo })) None
key_of numbers = None

key-back : (key : Option Move) → key_of (key_numbers key) ≡ key
unfolding key_of
key-back None = refl
key-back (Some m) = ap (λ (promo : Option Kind). Some (record { from = m.from; to = m.to; promo = promo })) (promotion-back m.promo)

-- keys that are the same are one
pub one-key : (a b : Option Move) → same_key a b ≡ true → a ≡ b
unfolding key_cmp
one-key a b h =
    let numbers : key_numbers a ≡ key_numbers b = (bytes_eq-Decides (key_numbers a) (key_numbers b)).0 (sym (is_eq-slice_cmp (key_numbers a) (key_numbers b)) ∙ h) in
    sym (key-back a) ∙ ap key_of numbers ∙ key-back b

pub tied : (o : Ordering) → is_eq o ≡ true → o ≡ Equal
tied Less h = absurd (false≢true h)
tied Equal h = refl
tied Greater h = absurd (false≢true h)

pub told-apart : (a b : Option Move) → (same_key a b ≡ true) ↔ (a ≡ b)
told-apart a b = (one-key a b, λ e. rw e (ap is_eq (tied_itself key_total b)))

-- turned round
pub is-less : (a b : Option Move) → key_cmp a b ≡ Greater → key_cmp b a ≡ Less
is-less a b e = key_total.antisymm b a ∙ ap ordering_reverse e

pub is-greater : (a b : Option Move) → key_cmp a b ≡ Less → key_cmp b a ≡ Greater
is-greater a b e = key_total.antisymm b a ∙ ap ordering_reverse e

pub is-tied : (a b : Option Move) → key_cmp a b ≡ Equal → key_cmp b a ≡ Equal
is-tied a b e = tied_back key_total a b e
