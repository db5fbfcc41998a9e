-- What is left of a side's men after a move of the other side.
use Rattle.chess_laws.proofs.Words.{◌≡◌, ℕ, ◌-◌, ◌*◌, ◌%◌, ◌^◌, ◌<◌, Some, None, is_some, length, refl, sym, ◌∙◌, ap, arith, bit_and, bit_or, nat_tests, and_assoc, and_comm, Colour, Kind, Men, man_at, put, is_man, is_of, man, other, is_kind, set_of, come, filled, left, man-set, passed, Leaves}
use Rattle.chess_laws.proofs.Boards.{length-put, put-same}

-- a square is taken out of a set before or after another
and-last : (a b c : ℕ) → bit_and (bit_and a b) c ≡ bit_and (bit_and a c) b
and-last a b c = and_assoc c a b ∙ ap (bit_and a) (and_comm b c) ∙ sym (and_assoc b a c)

pub leaves-emptied : (men new : Men) (c : Colour) (own full s others : ℕ) → length new ≡ 64 → s < 64 → others ≡ 18446744073709551615 - 1 * 2 ^ s % 18446744073709551616
    → Leaves men c own full new → Leaves men c (bit_and own others) (bit_and full others) (put new s None)
leaves-emptied men new c own full s others squares less is l = record {
  of_kind = λ k.
      and-last own others (set_of (is_kind k) men)
      ∙ ap (λ w. bit_and w others) (l.of_kind k)
      ∙ ap (bit_and (set_of (is_man c k) new)) is
      ∙ left (is_man c k) refl new s squares less;
  occupied = (λ i. bit_and (l.occupied i) (is i)) ∙ left is_some refl new s squares less;
}

-- a man of the other side belongs to no set of this one
pub leaves-entered : (men new : Men) (c : Colour) (j : Kind) (own full s place : ℕ) → length new ≡ 64 → s < 64 → place ≡ 1 * 2 ^ s % 18446744073709551616
    → Leaves men (other c) own full new → Leaves men (other c) (bit_and own (18446744073709551615 - place)) (bit_or full place) (put new s (Some (man c j)))
leaves-entered men new c j own full s place squares less is l =
    let first = leaves-emptied men new (other c) own full s (18446744073709551615 - place) squares less (ap (λ p. 18446744073709551615 - p) is) l in
    let empty : man_at (put new s None) s ≡ None = put-same new s None squares less in
    let whole : put (put new s None) s (Some (man c j)) ≡ put new s (Some (man c j)) =
    filled new (put new s None) (put (put new s None) s (Some (man c j))) s (Some (man c j)) refl refl in
    record {
      of_kind = λ k.
          first.of_kind k
          ∙ passed (is_man (other c) k) refl (put new s None) s (man c j) (grind (arith, nat_tests)) empty (length-put new s None squares) less
          ∙ ap (set_of (is_man (other c) k)) whole;
      occupied = (λ i. bit_or (l.occupied i) (is i)) ∙ come is_some refl new s (man c j) refl squares less;
    }

-- a board leaves its own men
pub leaves-itself : (men : Men) (c : Colour) (own full : ℕ) → own ≡ set_of (is_of c) men → full ≡ set_of is_some men → Leaves men c own full men
leaves-itself men c own full is all = record {
  of_kind = λ k. ap (λ w. bit_and w (set_of (is_kind k) men)) is ∙ man-set c k men;
  occupied = all;
}
