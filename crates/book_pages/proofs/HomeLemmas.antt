-- Pawns on their own squares.
use Rattle.std.proofs.Common.{◌≡◌, ◌<◌, ◌+◌, ◌^◌, ℕ, Bool, true, false, List, [], ◌∷◌, ◌++◌, get_or, length, take, refl, sym, ap, ◌∙◌, subst, arith, inl, inr}
use Rattle.std.specs.Prelude.{All, IsBitSet, IsTrue, Any, bit_and, min}
use Rattle.std.specs.Int.{bit_at}
use Rattle.std.specs.List.{list_any}
use Rattle.std.proofs.lemmas.Bool.{cases_eq, eq-eqb, eqb-true}
use Rattle.std.proofs.lemmas.List.{get_or_append_left, get_or_push, length_push}
use Rattle.std.proofs.lemmas.List.Elements.{All-more}
use Rattle.std.proofs.lemmas.List.Folds.{Any-from_list_any, list_any_at}
use Rattle.std.proofs.lemmas.Nat.{and_le_l, and_le_r, bit_set_by_shift}
use Rattle.std.proofs.lemmas.Nat.Bits.{bit_at-lt, bit_at-zero, bit_at_and, same_from_bits_below, shr_and_one}
use Rattle.std.proofs.lemmas.Option.{get_or_from_slice_get, slice_get_read}
use Rattle.cell_core.specs.Board.{Men}
use Rattle.cell_core.specs.Packed.{Packed, men_of}
use Rattle.chess_laws.specs.Counts.{is_home}
use Rattle.book_pages.specs.Keeping.{HasHomes, HasNoHomes, HasPart, StayHomes, is_part}

-- A bit that is set is one.
one_if_set : (n k : ℕ) → IsBitSet n k → bit_at n k ≡ 1
one_if_set n k set = sym (shr_and_one n k) ∙ (bit_set_by_shift n k).1 set

set_if_one : (n k : ℕ) → bit_at n k ≡ 1 → IsBitSet n k
set_if_one n k one = (bit_set_by_shift n k).0 (shr_and_one n k ∙ one)

-- A set is a part of another, if that has its bits; and then that has them.
part_if_bits : (part set : ℕ) → part < 2 ^ 16 → ((v : ℕ) → v < 16 → IsBitSet part v → IsBitSet set v) → bit_and part set ≡ part
part_if_bits part set small bits =
    same_from_bits_below 16 (bit_and part set) part (omega (arith, and_le_l part set, small)) small (λ v less. bit_at_and part set v ∙ least v less)
  where
    least : (v : ℕ) → v < 16 → min (bit_at part v) (bit_at set v) ≡ bit_at part v
    least v less = elim (cases_eq (bit_at part v) 0) [
      | inl none ↦ grind (arith, none)
      | inr some ↦
          let one : bit_at part v ≡ 1 = omega (arith, some, bit_at-lt part v) in
          let other : bit_at set v ≡ 1 = one_if_set set v (bits v less (set_if_one part v one)) in
          grind (arith, one, other)
    ]

bits_if_part : (part set v : ℕ) → bit_and part set ≡ part → IsBitSet part v → IsBitSet set v
bits_if_part part set v is bit =
    let one : bit_at part v ≡ 1 = one_if_set part v bit in
    let both : bit_at part v ≡ min (bit_at part v) (bit_at set v) = ap (λ (n : ℕ). bit_at n v) (sym is) ∙ bit_at_and part set v in
    set_if_one set v (grind (arith, one, both, bit_at-lt set v))

-- A board none of whose sets a position has is not come to from there.
pub no_part : (homes : List ℕ) (board : Packed) (men : Men) → HasHomes homes board → HasNoHomes homes men
    → ((v : ℕ) → v < 16 → is_home (men_of board.cells) v ≡ true → is_home men v ≡ true) → ⊥
no_part homes board men has less stood =
    let part = get_or homes has.place 0 in
    let is : bit_and part less.set ≡ part =
    part_if_bits part less.set has.small (λ v small bit. (less.bits v small).1 (stood v small (has.home v small bit))) in
    absurd (let same : false ≡ true = sym less.none ∙ list_any_at (is_part less.set) homes has.place 0 has.within (eq-eqb (bit_and part less.set) part is) in cc)

-- A set that was found, and one that was added.
pub part_there : (homes : List ℕ) (set : ℕ) → true ≡ list_any (is_part set) homes → HasPart homes set
part_there homes set any =
    let at = Any-from_list_any (is_part set) homes (sym any) in
    let same : get_or homes at.0 0 ≡ at.1 = get_or_from_slice_get homes at.0 at.1 0 (slice_get_read homes (length homes) at.0 at.1 refl at.2 (sym at.3)) in
    record { place = at.0; within = at.2; part = subst (λ (n : ℕ). bit_and n set ≡ n) (sym same) (eqb-true (bit_and at.1 set) at.1 at.4) }

pub part_added : (homes homes' : List ℕ) (set : ℕ) → set < 2 ^ 16 → homes' ≡ homes ++ set ∷ [] → HasPart homes' set
part_added homes homes' set small is = rw is record {
  place = length homes;
  within = omega (arith, length_push homes set);
  part = rw (get_or_push homes set 0 (length homes) refl) (part_if_bits set set small (λ v less bit. bit));
}

pub homes_stay : (homes homes' : List ℕ) (set : ℕ) → homes' ≡ homes ++ set ∷ [] → StayHomes homes homes'
homes_stay homes homes' set is = rw is (λ place within. (omega (arith, within, length_push homes set), get_or_append_left homes (set ∷ []) 0 place within))

-- A board that has one of the sets, and one more board.
pub stay_home : (homes homes' : List ℕ) → StayHomes homes homes' → (board : Packed) → HasHomes homes board → HasHomes homes' board
stay_home homes homes' stay board has =
    let at = stay has.place has.within in
    record {
      place = has.place;
      within = at.0;
      small = subst (λ (n : ℕ). n < 2 ^ 16) (sym at.1) has.small;
      home = λ v less bit. has.home v less (subst (λ (n : ℕ). IsBitSet n v) at.1 bit);
    }

pub home_more : (homes : List ℕ) (set : ℕ) (board : Packed) → set < 2 ^ 16 → HasPart homes set
    → ((v : ℕ) → v < 16 → IsBitSet set v → IsTrue (is_home (men_of board.cells) v)) → HasHomes homes board
home_more homes set board small has home =
    let part = get_or homes has.place 0 in
    record {
      place = has.place;
      within = has.within;
      small = omega (arith, ap (λ (n : ℕ). n) has.part, and_le_r part set, small);
      home = λ v less bit. home v less (bits_if_part part set v has.part bit);
    }

pub homes_next : (boards : List Packed) (k : ℕ) (homes homes' : List ℕ) (board : Packed) → k < length boards → StayHomes homes homes' → HasHomes homes' board
    → board ≡ get_or boards k board → All (HasHomes homes) (take k boards) → All (HasHomes homes') (take (k + 1) boards)
homes_next boards k homes homes' board lt stay has at all =
    All-more (HasHomes homes') boards k board lt (λ i d less. stay_home homes homes' stay _ (all i d less)) (subst (HasHomes homes') at has)

-- No bit of nothing is set.
pub no_bits : (men : Men) (v : ℕ) → IsBitSet 0 v → IsTrue (is_home men v)
no_bits men v bit = absurd (omega (arith, one_if_set 0 v bit, bit_at-zero v))
