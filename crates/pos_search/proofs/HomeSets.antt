-- The pawns at home of two boards, as the squares of sets.
use Rattle.std.proofs.Common.{◌≡◌, ℕ, zero, suc, ◌+◌, ◌-◌, ◌<◌, ◌≤◌, ◌&&◌, ◌||◌, not, eqb, min, Bool, true, false, cond, Option, None, refl, sym, ap, ◌∙◌, arith, inl, inr}
use Rattle.std.specs.Prelude.{nat_lt}
use Rattle.std.specs.Int.{bit_at}
use Rattle.std.specs.Int.RustNames.{bit_and}
use Rattle.std.proofs.lemmas.Bool.{agree_below_at, and_from, and_parts, cases_lt, eq-eqb, eqb-true, false≢true, ltb-true}
use Rattle.std.proofs.lemmas.Nat.Bits.{bit_at-lt, bit_at_above, bit_at_and, same_from_bits}
use Rattle.cell_core.specs.declared.man.Colour.{Colour}
use Rattle.cell_core.specs.declared.man.Colour.TheVariants.{White, Black}
use Rattle.cell_core.specs.declared.man.Kind.TheVariants.{Pawn}
use Rattle.cell_core.specs.declared.man.Man.{Man}
use Rattle.cell_core.specs.Board.{Men, man_at}
use Rattle.cell_core.specs.Man.{is_man, same_colour}
use Rattle.cell_core.specs.Sets.{set_of}
use Rattle.cell_core.proofs.Same.{same_colour-Decides}
use Rattle.cell_core.proofs.Squares.{bit-set_of}
use Rattle.chess_laws.specs.Counts.{home_colour, home_square, is_home}
use Rattle.sig_index.specs.Homes.{home_set}
use Rattle.sig_index.proofs.AllowLemmas.{home_bit, home_small}
use Rattle.sig_index.proofs.LeavingLemmas.{same_tests}
use Rattle.sig_index.proofs.Ranges.{all_each, all_from}
use Rattle.pos_search.specs.declared.homes.Homes.{Homes}
use Rattle.pos_search.specs.Passing.{has_homes}
use Rattle.pos_search.specs.Sought.{AreHomes}

-- ---- the squares and the values

-- The squares of a side's pawns at home.
abbrev pub home_rank : Colour → ℕ
home_rank White = 65280
home_rank Black = 71776119061217280

abbrev value_on : Colour → ℕ → ℕ
value_on White s = 23 - s
value_on Black s = 55 - s

abbrev is_value : Colour → ℕ → ℕ → Bool
is_value c s v = nat_lt v 16 && (eqb (home_square v) s && same_colour (home_colour v) c)

on_rank : (v : ℕ) → v < 16 → bit_at (home_rank (home_colour v)) (home_square v) ≡ 1
on_rank v less =
    eqb-true (bit_at (home_rank (home_colour v)) (home_square v)) 1
    (agree_below_at (λ (n : ℕ). eqb (bit_at (home_rank (home_colour n)) (home_square n)) 1) (λ (n : ℕ). true) 16 v refl less)

has_value : (c : Colour) (s : ℕ) → s < 64 → (not (eqb (bit_at (home_rank c) s) 1) || is_value c s (value_on c s)) ≡ true
has_value White s less = agree_below_at (λ (n : ℕ). not (eqb (bit_at 65280 n) 1) || is_value White n (23 - n)) (λ (n : ℕ). true) 64 s refl less
has_value Black s less = agree_below_at (λ (n : ℕ). not (eqb (bit_at 71776119061217280 n) 1) || is_value Black n (55 - n)) (λ (n : ℕ). true) 64 s refl less

above : (c : Colour) (s : ℕ) → 64 ≤ s → bit_at (home_rank c) s ≡ 0
above White s past = bit_at_above 65280 64 s (omega arith) past
above Black s past = bit_at_above 71776119061217280 64 s (omega arith) past

value_there : (c : Colour) (s : ℕ) → bit_at (home_rank c) s ≡ 1 → is_value c s (value_on c s) ≡ true
value_there c s on = elim (cases_lt s 64) [
  | inl less ↦ ap (λ (t : Bool). not t || is_value c s (value_on c s)) (sym (eq-eqb (bit_at (home_rank c) s) 1 on)) ∙ has_value c s less
  | inr past ↦ let none = above c s past in absurd (omega (arith, on, none))
]

-- ---- one side

-- Each man of a kind that stands on a square of a mask on one board stands there on another.
abbrev Keeps : (Option Man → Bool) → Men → Men → ℕ → Type 0
Keeps test sought men mask = (s : ℕ) → bit_at mask s ≡ 1 → test (man_at sought s) ≡ true → test (man_at men s) ≡ true

bit_there : (t : Bool) (bit : ℕ) → bit ≡ cond t 1 0 → bit ≡ 1 → t ≡ true
bit_there true bit is one = refl
bit_there false bit is one = absurd (omega (arith, is, one))

kept_on : (test : Option Man → Bool) → test None ≡ false → (sought men : Men) (mask word homes : ℕ) → word ≡ set_of test men → homes ≡ bit_and (set_of test sought) mask
    → bit_and word homes ≡ homes → Keeps test sought men mask
kept_on test none sought men mask word homes is homes_is same s on there =
    let set : bit_at (set_of test sought) s ≡ 1 = bit-set_of test none sought s ∙ ap (λ (t : Bool). cond t 1 0) there in
    let theirs : bit_at homes s ≡ min (bit_at (set_of test sought) s) (bit_at mask s) = ap (λ (h : ℕ). bit_at h s) homes_is ∙ bit_at_and (set_of test sought) mask s in
    let both : bit_at homes s ≡ min (bit_at word s) (bit_at homes s) = ap (λ (h : ℕ). bit_at h s) (sym same) ∙ bit_at_and word homes s in
    let few = bit_at-lt word s in
    let one : bit_at word s ≡ 1 = omega (arith, set, on, theirs, both, few) in
    bit_there (test (man_at men s)) (bit_at word s) (ap (λ (w : ℕ). bit_at w s) is ∙ bit-set_of test none men s) one

least : (t u : Bool) (m h : ℕ) → m < 2 → h ≡ min (cond t 1 0) m → (m ≡ 1 → t ≡ true → u ≡ true) → min (cond u 1 0) h ≡ h
least true true m h few is keeps = omega (arith, few, is)
least true false zero h few is keeps = omega (arith, is)
least true false (suc m) h few is keeps = absurd (false≢true (keeps (omega (arith, few)) refl))
least false true m h few is keeps = omega (arith, is)
least false false m h few is keeps = omega (arith, is)

on_kept : (test : Option Man → Bool) → test None ≡ false → (sought men : Men) (mask word homes : ℕ) → word ≡ set_of test men → homes ≡ bit_and (set_of test sought) mask
    → Keeps test sought men mask → bit_and word homes ≡ homes
on_kept test none sought men mask word homes is homes_is keeps = same_from_bits (bit_and word homes) homes at
  where
    at : (s : ℕ) → bit_at (bit_and word homes) s ≡ bit_at homes s
    at s =
        bit_at_and word homes s
        ∙ ap (λ (b : ℕ). min b (bit_at homes s)) (ap (λ (w : ℕ). bit_at w s) is ∙ bit-set_of test none men s)
        ∙ least (test (man_at sought s)) (test (man_at men s)) (bit_at mask s) (bit_at homes s) (bit_at-lt mask s)
        (ap (λ (h : ℕ). bit_at h s) homes_is ∙ bit_at_and (set_of test sought) mask s ∙ ap (λ (b : ℕ). min b (bit_at mask s)) (bit-set_of test none sought s))
        (keeps s)

-- ---- both sides

implied : (a b : Bool) → (a ≡ true → b ≡ true) → (not a || b) ≡ true
implied true b h = h refl
implied false b h = refl

then_other : (a b : Bool) → (not a || b) ≡ true → a ≡ true → b ≡ true
then_other true b h there = h
then_other false b h there = absurd (false≢true there)

stand_all : (sought men : Men) → ((c : Colour) → Keeps (is_man c Pawn) sought men (home_rank c)) → has_homes sought men ≡ true
unfolding has_homes
stand_all sought men keeps =
    all_from (λ (v : ℕ). not (is_home sought v) || is_home men v) 0 16
    (λ v from less. implied (is_home sought v) (is_home men v) (keeps (home_colour v) (home_square v) (on_rank v less)))

all_stand : (sought men : Men) → has_homes sought men ≡ true → (c : Colour) → Keeps (is_man c Pawn) sought men (home_rank c)
unfolding has_homes
all_stand sought men all c s on there =
    let v = value_on c s in
    let fits = and_parts (nat_lt v 16) (eqb (home_square v) s && same_colour (home_colour v) c) (value_there c s on) in
    let parts = and_parts (eqb (home_square v) s) (same_colour (home_colour v) c) fits.1 in
    let square : home_square v ≡ s = eqb-true (home_square v) s parts.0 in
    let colour : home_colour v ≡ c = (same_colour-Decides (home_colour v) c).0 parts.1 in
    let less : v < 16 = ltb-true v 16 fits.0 in
    let here = all_each (λ (n : ℕ). not (is_home sought n) || is_home men n) 0 16 v all (omega arith) less in
    sym (λ i. is_man (colour i) Pawn (man_at men (square i)))
    ∙ then_other (is_home sought v) (is_home men v) here ((λ i. is_man (colour i) Pawn (man_at sought (square i))) ∙ there)

of_side : (sought men : Men) → Keeps (is_man White Pawn) sought men 65280 → Keeps (is_man Black Pawn) sought men 71776119061217280
    → (c : Colour) → Keeps (is_man c Pawn) sought men (home_rank c)
of_side sought men white black White = white
of_side sought men white black Black = black

-- What the sets of two boards tell of their pawns at home.
homes_told : (sought men : Men) (white black own other : ℕ) → white ≡ set_of (is_man White Pawn) men → black ≡ set_of (is_man Black Pawn) men
    → own ≡ bit_and (set_of (is_man White Pawn) sought) 65280 → other ≡ bit_and (set_of (is_man Black Pawn) sought) 71776119061217280
    → (eqb (bit_and white own) own && eqb (bit_and black other) other) ≡ has_homes sought men
homes_told sought men white black own other white_is black_is own_is other_is =
    same_tests (eqb (bit_and white own) own && eqb (bit_and black other) other) (has_homes sought men)
    (λ both.
    let each = and_parts (eqb (bit_and white own) own) (eqb (bit_and black other) other) both in
    stand_all sought men
    (of_side sought men
    (kept_on (is_man White Pawn) refl sought men 65280 white own white_is own_is (eqb-true (bit_and white own) own each.0))
    (kept_on (is_man Black Pawn) refl sought men 71776119061217280 black other black_is other_is (eqb-true (bit_and black other) other each.1))))
    (λ all.
    and_from (eqb (bit_and white own) own) (eqb (bit_and black other) other)
    (eq-eqb (bit_and white own) own (on_kept (is_man White Pawn) refl sought men 65280 white own white_is own_is (all_stand sought men all White)))
    (eq-eqb (bit_and black other) other (on_kept (is_man Black Pawn) refl sought men 71776119061217280 black other black_is other_is (all_stand sought men all Black))))

pub homes_stand : (sought men : Men) (homes : Homes) (white black : ℕ) → AreHomes sought homes → white ≡ set_of (is_man White Pawn) men
    → black ≡ set_of (is_man Black Pawn) men → (eqb (bit_and white homes.white) homes.white && eqb (bit_and black homes.black) homes.black) ≡ has_homes sought men
unfolding AreHomes
homes_stand sought men homes white black are white_is black_is = homes_told sought men white black homes.white homes.black white_is black_is are.0 are.1

-- ---- the values as bits

-- What the home values of two boards tell, as bits.
values_all : (sought men : Men) → bit_and (home_set men) (home_set sought) ≡ home_set sought → has_homes sought men ≡ true
unfolding has_homes
values_all sought men same =
    all_from (λ (v : ℕ). not (is_home sought v) || is_home men v) 0 16
    (λ v from less. implied (is_home sought v) (is_home men v)
    (λ home.
    let set : bit_at (home_set sought) v ≡ 1 = home_bit sought v less ∙ ap (λ (t : Bool). cond t 1 0) home in
    let both : bit_at (home_set sought) v ≡ min (bit_at (home_set men) v) (bit_at (home_set sought) v) =
    ap (λ (h : ℕ). bit_at h v) (sym same) ∙ bit_at_and (home_set men) (home_set sought) v in
    let few = bit_at-lt (home_set men) v in
    bit_there (is_home men v) (bit_at (home_set men) v) (home_bit men v less) (omega (arith, set, both, few))))

all_values : (sought men : Men) → has_homes sought men ≡ true → bit_and (home_set men) (home_set sought) ≡ home_set sought
unfolding has_homes
all_values sought men all = same_from_bits (bit_and (home_set men) (home_set sought)) (home_set sought) at
  where
    kept : (t u : Bool) (a b : ℕ) → (not t || u) ≡ true → b ≡ cond t 1 0 → a ≡ cond u 1 0 → min a b ≡ b
    kept true true a b h is other = omega (arith, is, other)
    kept true false a b h is other = absurd (false≢true h)
    kept false u a b h is other = omega (arith, is)

    at : (v : ℕ) → bit_at (bit_and (home_set men) (home_set sought)) v ≡ bit_at (home_set sought) v
    at v = bit_at_and (home_set men) (home_set sought) v ∙ elim (cases_lt v 16) [
      | inl less ↦
          kept (is_home sought v) (is_home men v) (bit_at (home_set men) v) (bit_at (home_set sought) v)
          (all_each (λ (n : ℕ). not (is_home sought n) || is_home men n) 0 16 v all (omega arith) less) (home_bit sought v less) (home_bit men v less)
      | inr past ↦ let none = bit_at_above (home_set sought) 16 v (home_small sought) past in omega (arith, none)
    ]

pub values_told : (sought men : Men) → eqb (bit_and (home_set men) (home_set sought)) (home_set sought) ≡ has_homes sought men
values_told sought men =
    same_tests (eqb (bit_and (home_set men) (home_set sought)) (home_set sought)) (has_homes sought men)
    (λ same. values_all sought men (eqb-true (bit_and (home_set men) (home_set sought)) (home_set sought) same))
    (λ all. eq-eqb (bit_and (home_set men) (home_set sought)) (home_set sought) (all_values sought men all))
