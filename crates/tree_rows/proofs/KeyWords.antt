-- Keys stand as the numbers whose bytes are theirs.
use Rattle.std.proofs.Common.{◌≡◌, ℕ, ◌+◌, ◌*◌, ◌<◌, List, [], ◌∷◌, Option, Some, None, Ordering, refl, sym, ap, ◌∙◌, arith}
use Rattle.std.specs.Prelude.{MatchOption}
use Rattle.std.specs.declared.cmp.Ordering.TheVariants.{Less, Equal, Greater}
use Rattle.std.specs.Cmp.{nat_cmp_is}
use Rattle.std.specs.Cmp.Lexicographic.{slice_cmp}
use Rattle.std.specs.Ordering.{MatchOrdering, nat_cmp, ordering_then}
use Rattle.std.proofs.lemmas.Cmp.{ranked}
use Rattle.cell_core.specs.declared.man.Kind.{Kind}
use Rattle.cell_core.specs.declared.man.Kind.TheVariants.{King, Queen, Rook, Bishop, Knight, Pawn}
use Rattle.cell_core.specs.declared.step.Move.{Move}
use Rattle.chess_laws.specs.Moves.{promotion_number}
use Rattle.tree_rows.specs.Keys.{key_cmp, key_word}

-- A byte more is compared where those before it are the same.
byte_more : (x y r s : ℕ) → r < 256 → s < 256 → ordering_then (nat_cmp x y) (nat_cmp r s) ≡ nat_cmp (256 * x + r) (256 * y + s)
byte_more x y r s few few' =
    nat_cmp_is (256 * x + r) (256 * y + s) (ordering_then (nat_cmp x y) (nat_cmp r s))
    (by (nat_cmp x y) (nat_cmp r s) (ranked x y (nat_cmp x y) refl) (ranked r s (nat_cmp r s) refl))
  where
    by : (o p : Ordering) → MatchOrdering o (x < y) (x ≡ y) (y < x) → MatchOrdering p (r < s) (r ≡ s) (s < r)
        → MatchOrdering (ordering_then o p) (256 * x + r < 256 * y + s) (256 * x + r ≡ 256 * y + s) (256 * y + s < 256 * x + r)
    by Less p first then = omega (arith, first, few, few')
    by Equal Less first then = omega (arith, first, then)
    by Equal Equal first then = omega (arith, first, then)
    by Equal Greater first then = omega (arith, first, then)
    by Greater p first then = omega (arith, first, few, few')

then_equal : (o : Ordering) → ordering_then o Equal ≡ o
then_equal Less = refl
then_equal Equal = refl
then_equal Greater = refl

then_assoc : (a b c : Ordering) → ordering_then a (ordering_then b c) ≡ ordering_then (ordering_then a b) c
then_assoc Less b c = refl
then_assoc Equal b c = refl
then_assoc Greater b c = refl

-- Four bytes, of which the first may be any number.
words_cmp : (t f o p t' f' o' p' : ℕ) → f < 256 → f' < 256 → o < 256 → o' < 256 → p < 256 → p' < 256
    → nat_cmp (256 * (256 * (256 * t + f) + o) + p) (256 * (256 * (256 * t' + f') + o') + p') ≡ slice_cmp nat_cmp (t ∷ f ∷ o ∷ p ∷ []) (t' ∷ f' ∷ o' ∷ p' ∷ [])
words_cmp t f o p t' f' o' p' few-f few-f' few-o few-o' few-p few-p' =
    let by-t = nat_cmp t t' in
    let by-f = nat_cmp f f' in
    let by-o = nat_cmp o o' in
    let by-p = nat_cmp p p' in
    sym
    (ap (λ (x : Ordering). ordering_then by-t (ordering_then by-f (ordering_then by-o x))) (then_equal by-p)
    ∙ ap (λ (x : Ordering). ordering_then by-t x) (then_assoc by-f by-o by-p)
    ∙ then_assoc by-t (ordering_then by-f by-o) by-p
    ∙ ap (λ (x : Ordering). ordering_then x by-p)
    (then_assoc by-t by-f by-o ∙ ap (λ (x : Ordering). ordering_then x by-o) (byte_more t t' f f' few-f few-f')
    ∙ byte_more (256 * t + f) (256 * t' + f') o o' few-o few-o')
    ∙ byte_more (256 * (256 * t + f) + o) (256 * (256 * t' + f') + o') p p' few-p few-p')

few_promotions : (promo : Option Kind) → promotion_number promo < 256
few_promotions None = omega arith
few_promotions (Some King) = omega arith
few_promotions (Some Queen) = omega arith
few_promotions (Some Rook) = omega arith
few_promotions (Some Bishop) = omega arith
few_promotions (Some Knight) = omega arith
few_promotions (Some Pawn) = omega arith

abbrev OnBoard : Option Move → Type 0
OnBoard key = MatchOption key (Unit {0}) (λ m. (m.from < 64) × (m.to < 64))

same_order : (a b : Option Move) → OnBoard a → OnBoard b → nat_cmp (key_word a) (key_word b) ≡ key_cmp a b
unfolding key_cmp
same_order (Some m) (Some n) on on' =
    let own : key_word (Some m) ≡ 256 * (256 * (256 * 0 + m.from) + m.to) + promotion_number m.promo = omega arith in
    let other : key_word (Some n) ≡ 256 * (256 * (256 * 0 + n.from) + n.to) + promotion_number n.promo = omega arith in
    (λ i. nat_cmp (own i) (other i))
    ∙ words_cmp 0 m.from m.to (promotion_number m.promo) 0 n.from n.to (promotion_number n.promo) (omega (arith, on.0)) (omega (arith, on'.0)) (omega (arith, on.1)) (omega (arith, on'.1))
    (few_promotions m.promo) (few_promotions n.promo)
same_order (Some m) None on on' =
    let own : key_word (Some m) ≡ 256 * (256 * (256 * 0 + m.from) + m.to) + promotion_number m.promo = omega arith in
    ap (λ (w : ℕ). nat_cmp w 16777216) own
    ∙ words_cmp 0 m.from m.to (promotion_number m.promo) 1 0 0 0 (omega (arith, on.0)) (omega arith) (omega (arith, on.1)) (omega arith) (few_promotions m.promo) (omega arith)
same_order None (Some n) on on' =
    let other : key_word (Some n) ≡ 256 * (256 * (256 * 0 + n.from) + n.to) + promotion_number n.promo = omega arith in
    ap (nat_cmp 16777216) other
    ∙ words_cmp 1 0 0 0 0 n.from n.to (promotion_number n.promo) (omega arith) (omega (arith, on'.0)) (omega arith) (omega (arith, on'.1)) (omega arith) (few_promotions n.promo)
same_order None None on on' = refl

-- What the order of the two numbers tells of the keys.
pub order_told : (a b : Option Move) (x y : ℕ) (r : Ordering) → MatchOption a (Unit {0}) (λ m. (m.from < 64) × (m.to < 64)) → MatchOption b (Unit {0}) (λ m. (m.from < 64) × (m.to < 64))
    → x ≡ key_word a → y ≡ key_word b → r ≡ nat_cmp x y → r ≡ key_cmp a b
order_told a b x y r on on' own other is = is ∙ (λ i. nat_cmp (own i) (other i)) ∙ same_order a b on on'
