-- Sets of home values that lack the first of those that left.
use Rattle.std.proofs.Common.{◌≡◌, ◌≢◌, ℕ, ◌+◌, ◌-◌, ◌*◌, ◌%◌, ◌^◌, ◌<◌, ◌≤◌, zero, suc, Bool, true, false, cond, ◌||◌, eqb, List, length, take, get_or, refl, sym, ap, ◌∙◌, subst, arith, add-one, eq-eqb, inl, inr}
use Rattle.std.proofs.Math.Nat.{pow-succ'}
use Rattle.std.specs.Int.{bit_at, bit_not, w16}
use Rattle.std.specs.Int.Bits.{bit_and}
use Rattle.std.specs.List.{list_any, range_with_len}
use Rattle.std.proofs.lemmas.Bool.{cases_Bool, cases_eq, cases_lt, eqb-true, ne_eqb}
use Rattle.std.proofs.lemmas.List.{get_or-take, length-take-le, take_all}
use Rattle.std.proofs.lemmas.List.Folds.{list_any_at, list_any_more}
use Rattle.std.proofs.lemmas.Nat.Bits.{bit_at_ones, bit_at_cat_high, bit_at_cat_low, bit_at_clear_other, bit_at_clear_same, same_from_bits_below}
use Rattle.cell_core.specs.Board.{Men}
use Rattle.chess_laws.specs.Counts.{is_home}
use Rattle.sig_index.specs.Homes.{home_bits, home_set, is_all_but, is_all_but_first}
use Rattle.sig_index.proofs.LeavingLemmas.{same_tests}
use Rattle.sig_index.proofs.Ranges.{all_each, all_from, any_from, any_last}

-- A value's bit in a set is 0 if the value is among these, and 1 if it is not.
abbrev pub Lacks : List ℕ → ℕ → Type 0
Lacks left set = (v : ℕ) → v < 16 → bit_at set v ≡ cond (list_any (eqb v) left) 0 1

-- ---- the test of a set

-- A set that lacks these passes the test, and every set that passes it lacks these.
pub lacks_passes : (left : List ℕ) (set : ℕ) → Lacks left set → is_all_but left set ≡ true
unfolding is_all_but
lacks_passes left set lacks =
    all_from (λ v. eqb (bit_at set v) (cond (list_any (eqb v) left) 0 1)) 0 16 (λ v from less. eq-eqb (bit_at set v) _ (lacks v less))

passes_lacks : (left : List ℕ) (set : ℕ) → is_all_but left set ≡ true → Lacks left set
unfolding is_all_but
passes_lacks left set all v less =
    eqb-true (bit_at set v) _ (all_each (λ v. eqb (bit_at set v) (cond (list_any (eqb v) left) 0 1)) 0 16 v all (omega arith) less)

-- So it is the set that lacks them.
pub only_set : (left : List ℕ) (still set : ℕ) → still < 2 ^ 16 → set < 2 ^ 16 → Lacks left still → eqb still set ≡ is_all_but left set
only_set left still set small small' lacks =
    same_tests (eqb still set) (is_all_but left set)
    (λ e. lacks_passes left set (subst (Lacks left) (eqb-true still set e) lacks))
    (λ all. eq-eqb still set (same_from_bits_below 16 still set small small' (λ v less. lacks v less ∙ sym (passes_lacks left set all v less))))

-- ---- one value more

both_false : (a b : Bool) → b ≡ false → (a || b) ≡ a
both_false true b h = refl
both_false false b h = h

either : (a b : Bool) → b ≡ true → (a || b) ≡ true
either true b h = refl
either false b h = h

pub lacks_more : (values : List ℕ) (i still : ℕ) → i < length values → get_or values i 0 < 16 → Lacks (take i values) still
    → Lacks (take (i + 1) values) (bit_and still (bit_not w16 (1 * 2 ^ get_or values i 0 % 2 ^ 16)))
lacks_more values i still under small lacks v less =
    let value : ℕ = get_or values i 0 in
    let more : list_any (eqb v) (take (i + 1) values) ≡ (list_any (eqb v) (take i values) || eqb v value) = list_any_more (eqb v) values i 0 under in
    elim (cases_eq v value) [
      | inl same ↦
          rw same (bit_at_clear_same w16 still value small)
          ∙ ap (λ (t : Bool). cond t 0 1) (sym (more ∙ either (list_any (eqb v) (take i values)) (eqb v value) (eq-eqb v value same)))
      | inr apart ↦
          bit_at_clear_other w16 still value small v less apart
          ∙ lacks v less
          ∙ ap (λ (t : Bool). cond t 0 1) (sym (more ∙ both_false (list_any (eqb v) (take i values)) (eqb v value) (ne_eqb v value apart)))
    ]

-- ---- all first ones

-- None so far, and this one.
pub front_found : (left : List ℕ) (set i : ℕ) → i ≤ length left → is_all_but (take i left) set ≡ true → is_all_but_first left set ≡ true
front_found left set i within holds = any_from (λ n. is_all_but (take n left) set) 0 (length left + 1) i (omega arith) (omega (arith, within)) holds

pub last_first : (left : List ℕ) (set i : ℕ) → length left ≤ i → ((n : ℕ) → n < i → is_all_but (take n left) set ≡ false)
    → is_all_but_first left set ≡ is_all_but (take i left) set
last_first left set i all none =
    ap (λ (k : ℕ). list_any (λ n. is_all_but (take n left) set) (range_with_len 0 k)) (add-one (length left))
    ∙ any_last (λ n. is_all_but (take n left) set) 0 (length left) (λ n from less. none n (omega (arith, less, all)))
    ∙ ap (λ (first : List ℕ). is_all_but first set)
    (ap (λ (n : ℕ). take n left) (let same : 0 + length left ≡ length left = omega arith in same)
    ∙ take_all (length left) left (omega arith) ∙ sym (take_all i left all))

-- ---- the loop

pub all_at_first : (left : List ℕ) → Lacks (take 0 left) 65535
all_at_first left v less = bit_at_ones 16 v less

pub found_set : (left : List ℕ) (still set i : ℕ) → i < length left → Lacks (take i left) still → still ≡ set → true ≡ is_all_but_first left set
found_set left still set i within lacks same =
    sym (front_found left set i (omega (arith, within)) (lacks_passes (take i left) set (subst (Lacks (take i left)) same lacks)))

pub none_more : (left : List ℕ) (still set i : ℕ) → still < 2 ^ 16 → set < 2 ^ 16 → Lacks (take i left) still → still ≢ set
    → ((n : ℕ) → n < i → is_all_but (take n left) set ≡ false) → (n : ℕ) → n < i + 1 → is_all_but (take n left) set ≡ false
none_more left still set i small small' lacks apart none n less = elim (cases_eq n i) [
  | inl same ↦
      ap (λ (k : ℕ). is_all_but (take k left) set) same ∙ sym (only_set (take i left) still set small small' lacks) ∙ ne_eqb still set apart
  | inr before ↦ none n (omega (arith, less, before))
]

pub last_set : (left : List ℕ) (still set i : ℕ) → length left ≤ i → still < 2 ^ 16 → set < 2 ^ 16 → Lacks (take i left) still
    → ((n : ℕ) → n < i → is_all_but (take n left) set ≡ false) → eqb still set ≡ is_all_but_first left set
last_set left still set i all small small' lacks none =
    only_set (take i left) still set small small' lacks ∙ sym (last_first left set i all none)

-- ---- a value of the set that left

-- Once a value of the set is among those that left, they are not all that the set lacks.
holds_left : (left : List ℕ) (set i n : ℕ) → i < n → i < length left → get_or left i 0 < 16 → bit_at set (get_or left i 0) ≡ 1 → is_all_but (take n left) set ≡ false
holds_left left set i n before within small has =
    let v : ℕ = get_or left i 0 in
    let among : list_any (eqb v) (take n left) ≡ true =
    list_any_at (eqb v) (take n left) i 0 (under n left i before within) (eq-eqb v (get_or (take n left) i 0) (sym (get_or-take n left i 0 before)))
    in
    elim (cases_Bool (is_all_but (take n left) set)) [
      | inl all ↦
          let gone : 1 ≡ 0 = sym has ∙ passes_lacks (take n left) set all v small ∙ ap (λ (t : Bool). cond t 0 1) among in
          absurd (omega (arith, gone))
      | inr fails ↦ fails
    ]
  where
    under : (n : ℕ) (left : List ℕ) (i : ℕ) → i < n → i < length left → i < length (take n left)
    under n left i before within = elim (cases_lt n (length left)) [
      | inl few ↦ subst (λ (k : ℕ). i < k) (sym (length-take-le n left (omega (arith, few)))) before
      | inr all ↦ subst (λ (xs : List ℕ). i < length xs) (sym (take_all n left all)) within
    ]

-- So no first ones of them are, where none were before.
pub never_again : (left : List ℕ) (set i : ℕ) → i < length left → get_or left i 0 < 16 → bit_at set (get_or left i 0) ≡ 1
    → ((n : ℕ) → n < i + 1 → is_all_but (take n left) set ≡ false) → false ≡ is_all_but_first left set
never_again left set i within small has none =
    let none_at : (n : ℕ) → is_all_but (take n left) set ≡ false = λ n. elim (cases_lt n (i + 1)) [
      | inl before ↦ none n before
      | inr from ↦ holds_left left set i n (omega (arith, from)) within small has
    ] in
    sym (ap (λ (k : ℕ). list_any (λ n. is_all_but (take n left) set) (range_with_len 0 k)) (add-one (length left))
    ∙ any_last (λ n. is_all_but (take n left) set) 0 (length left) (λ n from less. none_at n)
    ∙ none_at (0 + length left))

-- ---- the set of a board

bits_under : (men : Men) (n : ℕ) → home_bits men n < 2 ^ n
bits_under men zero = omega arith
bits_under men (suc n) =
    subst (λ (k : ℕ). home_bits men (suc n) < k) (sym (pow-succ' 2 n)) (more (is_home men n) (home_bits men n) (2 ^ n) (bits_under men n))
  where
    more : (t : Bool) (bits power : ℕ) → bits < power → bits + cond t power 0 < 2 * power
    more true bits power small = omega (arith, small)
    more false bits power small = omega (arith, small)

with_top : (t : Bool) (bits power : ℕ) → bits + cond t power 0 ≡ cond t 1 0 * power + bits
with_top true bits power = omega arith
with_top false bits power = omega arith

low_bit : (t : Bool) → bit_at (cond t 1 0) 0 ≡ cond t 1 0
low_bit true = refl
low_bit false = refl

bit_is : (men : Men) (n v : ℕ) → v < n → bit_at (home_bits men n) v ≡ cond (is_home men v) 1 0
bit_is men zero v less = absurd (omega (arith, less))
bit_is men (suc n) v less =
    let top : ℕ = cond (is_home men n) 1 0 in
    ap (λ (bits : ℕ). bit_at bits v) (with_top (is_home men n) (home_bits men n) (2 ^ n))
    ∙ elim (cases_eq v n) [
      | inl same ↦
          let none : v - n ≡ 0 = omega (arith, same) in
          bit_at_cat_high top n (home_bits men n) v (bits_under men n) (omega (arith, same))
          ∙ ap (bit_at top) none
          ∙ low_bit (is_home men n)
          ∙ ap (λ (k : ℕ). cond (is_home men k) 1 0) (sym same)
      | inr apart ↦
          let under : v < n = omega (arith, less, apart) in
          bit_at_cat_low top n (home_bits men n) v under ∙ bit_is men n v under
    ]

-- A value's bit is set where its pawn stands at home.
pub home_bit : (men : Men) (v : ℕ) → v < 16 → bit_at (home_set men) v ≡ cond (is_home men v) 1 0
unfolding home_set
home_bit men v less = bit_is men 16 v less

pub home_small : (men : Men) → home_set men < 2 ^ 16
unfolding home_set
home_small men = bits_under men 16

-- A set whose bits tell which pawns stand at home is that of the board.
pub set_is : (men : Men) (set : ℕ) → set < 2 ^ 16 → ((v : ℕ) → v < 16 → bit_at set v ≡ cond (is_home men v) 1 0) → set ≡ home_set men
set_is men set small bits = same_from_bits_below 16 set (home_set men) small (home_small men) (λ v less. bits v less ∙ sym (home_bit men v less))

-- Boards with the same pawns at home have the same set.
pub same_set : (a b : Men) → ((v : ℕ) → v < 16 → is_home a v ≡ is_home b v) → home_set a ≡ home_set b
same_set a b same =
    set_is b (home_set a) (home_small a) (λ v less. home_bit a v less ∙ ap (λ (t : Bool). cond t 1 0) (same v less))
