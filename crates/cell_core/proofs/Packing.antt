-- That packing and unpacking are inverse, and the steps of their loops.
use Rattle.std.proofs.Common.{◌≡◌, ℕ, ◌+◌, ◌*◌, ◌<◌, List, [], ◌∷◌, Bool, false, cond, max, length, map, take, set, Option, Some, None, refl, sym, ap, ◌∙◌, arith}
use Rattle.std.specs.List.{range_with_len}
use Rattle.std.specs.Int.RustNames.{bit_or}
use Rattle.std.proofs.lemmas.List.{ext_get_or, take_all, take_more_set}
use Rattle.std.proofs.lemmas.List.FromFn.{get_or-map-range_with_len, length-map-range_with_len, map-range_with_len_more}
use Rattle.std.proofs.lemmas.Nat.Bits.{bit_at_or}
use Rattle.cell_core.specs.declared.man.Colour.{Colour}
use Rattle.cell_core.specs.declared.man.Colour.TheVariants.{White, Black}
use Rattle.cell_core.specs.declared.man.Kind.{Kind}
use Rattle.cell_core.specs.declared.man.Kind.TheVariants.{King, Queen, Rook, Bishop, Knight, Pawn}
use Rattle.cell_core.specs.declared.man.Man.{Man}
use Rattle.cell_core.specs.Board.{Men, man_at}
use Rattle.cell_core.specs.Man.{is_of}
use Rattle.cell_core.specs.Sets.{is_kind, set_of}
use Rattle.cell_core.specs.Packed.{ArePacked, cells_of, has_bit, man_of, men_of, nibble_at}
use Rattle.cell_core.proofs.Squares.{bit-set_of, set-is}

abbrev bit : Bool → ℕ
bit b = cond b 1 0

-- the bits of a nibble by the kind and the colour of the man, and the man by the bits
record Bits (x : Option Man) : Type 0 where
  lowest : max (max (bit (is_kind King x)) (bit (is_kind Rook x))) (bit (is_kind Knight x)) ≡ bit (has_bit 0 x)
  second : max (max (bit (is_kind Queen x)) (bit (is_kind Rook x))) (bit (is_kind Pawn x)) ≡ bit (has_bit 1 x)
  third : max (max (bit (is_kind Bishop x)) (bit (is_kind Knight x))) (bit (is_kind Pawn x)) ≡ bit (has_bit 2 x)
  highest : bit (is_of Black x) ≡ bit (has_bit 3 x)
  back : man_of (bit (has_bit 0 x) + 2 * bit (has_bit 1 x) + 4 * bit (has_bit 2 x) + 8 * bit (has_bit 3 x)) ≡ x

bits-man : (c : Colour) (k : Kind) → Bits (Some (record { colour = c; kind = k }))
unfolding man_of
bits-man White King = record { lowest = refl; second = refl; third = refl; highest = refl; back = refl }
bits-man White Queen = record { lowest = refl; second = refl; third = refl; highest = refl; back = refl }
bits-man White Rook = record { lowest = refl; second = refl; third = refl; highest = refl; back = refl }
bits-man White Bishop = record { lowest = refl; second = refl; third = refl; highest = refl; back = refl }
bits-man White Knight = record { lowest = refl; second = refl; third = refl; highest = refl; back = refl }
bits-man White Pawn = record { lowest = refl; second = refl; third = refl; highest = refl; back = refl }
bits-man Black King = record { lowest = refl; second = refl; third = refl; highest = refl; back = refl }
bits-man Black Queen = record { lowest = refl; second = refl; third = refl; highest = refl; back = refl }
bits-man Black Rook = record { lowest = refl; second = refl; third = refl; highest = refl; back = refl }
bits-man Black Bishop = record { lowest = refl; second = refl; third = refl; highest = refl; back = refl }
bits-man Black Knight = record { lowest = refl; second = refl; third = refl; highest = refl; back = refl }
bits-man Black Pawn = record { lowest = refl; second = refl; third = refl; highest = refl; back = refl }

bits-of : (x : Option Man) → Bits x
unfolding man_of
bits-of None = record { lowest = refl; second = refl; third = refl; highest = refl; back = refl }
bits-of (Some man) = bits-man man.colour man.kind

-- three kinds have a bit
three-sets : (a b c test : Option Man → Bool) → a None ≡ false → b None ≡ false → c None ≡ false → test None ≡ false
    → ((x : Option Man) → max (max (bit (a x)) (bit (b x))) (bit (c x)) ≡ bit (test x)) → (men : Men)
    → bit_or (bit_or (set_of a men) (set_of b men)) (set_of c men) ≡ set_of test men
three-sets a b c test no-a no-b no-c none same men =
    set-is test none men (bit_or (bit_or (set_of a men) (set_of b men)) (set_of c men))
    (λ i. bit_at_or (bit_or (set_of a men) (set_of b men)) (set_of c men) i
    ∙ (λ j. max (bit_at_or (set_of a men) (set_of b men) i j) (bit-set_of c no-c men i j))
    ∙ (λ j. max (max (bit-set_of a no-a men i j) (bit-set_of b no-b men i j)) (bit (c (man_at men i))))
    ∙ same (man_at men i))

pub four_words : (men : Men) (kings queens rooks bishops knights pawns black : ℕ) → kings ≡ set_of (is_kind King) men → queens ≡ set_of (is_kind Queen) men
    → rooks ≡ set_of (is_kind Rook) men → bishops ≡ set_of (is_kind Bishop) men → knights ≡ set_of (is_kind Knight) men
    → pawns ≡ set_of (is_kind Pawn) men → black ≡ set_of (is_of Black) men
    → bit_or (bit_or kings rooks) knights ∷ bit_or (bit_or queens rooks) pawns ∷ bit_or (bit_or bishops knights) pawns ∷ black ∷ [] ≡ cells_of men
unfolding cells_of
four_words men kings queens rooks bishops knights pawns black king queen rook bishop knight pawn of_black =
    rw (king, queen, rook, bishop, knight, pawn, of_black)
    (λ i. three-sets (is_kind King) (is_kind Rook) (is_kind Knight) (has_bit 0) refl refl refl refl (λ x. (bits-of x).lowest) men i
    ∷ three-sets (is_kind Queen) (is_kind Rook) (is_kind Pawn) (has_bit 1) refl refl refl refl (λ x. (bits-of x).second) men i
    ∷ three-sets (is_kind Bishop) (is_kind Knight) (is_kind Pawn) (has_bit 2) refl refl refl refl (λ x. (bits-of x).third) men i
    ∷ set-is (has_bit 3) refl men (set_of (is_of Black) men) (λ s. bit-set_of (is_of Black) refl men s ∙ (bits-of (man_at men s)).highest) i
    ∷ [])

-- what stands on the first squares of words
abbrev pub first_men : List ℕ → ℕ → Men
first_men cells n = map (λ s. man_of (nibble_at cells s)) (range_with_len 0 n)

-- the words of a board give back what stands on a square
back-at : (men : Men) (s : ℕ) → man_of (nibble_at (cells_of men) s) ≡ man_at men s
unfolding cells_of nibble_at
back-at men s =
    rw (bit-set_of (has_bit 0) refl men s, bit-set_of (has_bit 1) refl men s, bit-set_of (has_bit 2) refl men s, bit-set_of (has_bit 3) refl men s)
    (bits-of (man_at men s)).back

pub given_back : (men : Men) → length men ≡ 64 → men_of (cells_of men) ≡ men
unfolding men_of
given_back men squares =
    ext_get_or None (first_men (cells_of men) 64) men (length-map-range_with_len (λ s. man_of (nibble_at (cells_of men) s)) 0 64 ∙ sym squares)
    (λ i less. get_or-map-range_with_len (λ s. man_of (nibble_at (cells_of men) s)) 0 64 i i None (omega (arith, less, squares)) (omega arith) ∙ back-at men i)

-- the words of a board stand for its squares
pub packs : (men : Men) → length men ≡ 64 → ArePacked (cells_of men)
packs men h = ap cells_of (given_back men h)

-- a square of the words is read, and at the end all are
pub unpack-next : (men : Men) (cells : List ℕ) (s : ℕ) (man : Option Man) → length men ≡ 64 → s < 64 → man ≡ man_of (nibble_at cells s)
    → take s men ≡ first_men cells s → take (s + 1) (set men s man) ≡ first_men cells (s + 1)
unpack-next men cells s man squares less is so_far =
    take_more_set men s man (omega (arith, squares, less))
    ∙ rw (so_far, is) (sym (map-range_with_len_more (λ s. man_of (nibble_at cells s)) 0 s s (omega arith)))

pub unpack-end : (men : Men) (cells : List ℕ) (s : ℕ) → length men ≡ 64 → s ≡ 64 → take s men ≡ first_men cells s → men ≡ men_of cells
unfolding men_of
unpack-end men cells s squares ends so_far = sym (take_all 64 men (omega (arith, squares))) ∙ (rw ends at so_far)
