-- The sets that are kept beside a board are those of its squares.
use Rattle.std.proofs.Common.{◌≡◌, ℕ, zero, suc, ◌+◌, ◌-◌, ◌*◌, ◌%◌, ◌^◌, ◌<◌, ◌≤◌, Bool, true, false, cond, ◌&&◌, min, max, is_some, [], ◌∷◌, ◌++◌, length, map, take, replicate, Option, Some, None, refl, ap, sym, ◌∙◌, inl, inr, arith, w64, slice_index_or, slice_set, get_or}
use Rattle.std.specs.Prelude.{count_by}
use Rattle.std.specs.Int.{bit_at}
use Rattle.std.specs.Int.RustNames.{bit_or, bit_and, count_ones}
use Rattle.std.proofs.lemmas.Bool.{cases_eq, cases_lt}
use Rattle.std.proofs.lemmas.List.{append_assoc, append-nil, ext_get_or, get_or_at, get_or-set_same, get_or-set_other, get_or_past, length-append, length-replicate, length-set, length-take-le, set-get_or, set_at, set-set, take_all, take_more}
use Rattle.std.proofs.lemmas.Nat.Bits.{bit_at_and, bit_at_or, bit_at_set_same, bit_at_set_other, bit_at_clear_same, bit_at_clear_other, same_from_bits}
use Rattle.std.proofs.lemmas.Simd.{bit_mask_l, ones-mask_l}
use Rattle.cell_core.specs.declared.man.Colour.{Colour}
use Rattle.cell_core.specs.declared.man.Colour.TheVariants.{White, Black}
use Rattle.cell_core.specs.declared.man.Kind.{Kind}
use Rattle.cell_core.specs.declared.man.Kind.TheVariants.{King, Queen, Rook, Bishop, Knight, Pawn}
use Rattle.cell_core.specs.declared.man.Man.{Man}
use Rattle.cell_core.specs.declared.sets.Sets.{Sets}
use Rattle.cell_core.specs.Board.{Men, man_at, put}
use Rattle.cell_core.specs.Man.{is_man, is_of, kind_number, same_colour, same_kind}
use Rattle.cell_core.specs.Sets.{set_of, sets_of, is_kind, colour_number, Fit}

-- a test of what stands on a square of the board
test-at : (test : Option Man → Bool) → test None ≡ false → (men : Men) (i : ℕ) → get_or (map test men) i false ≡ test (get_or men i None)
test-at test none [] i = sym none
test-at test none (x ∷ men) zero = refl
test-at test none (x ∷ men) (suc i) = test-at test none men i

-- a square is in a set where what stands on it passes the test
pub bit-set_of : (test : Option Man → Bool) → test None ≡ false → (men : Men) (i : ℕ) → bit_at (set_of test men) i ≡ cond (test (man_at men i)) 1 0
unfolding set_of
bit-set_of test none men i = bit_mask_l (map test men) i ∙ ap (λ b. cond b 1 0) (test-at test none men i)

-- a word with these bits is the set
pub set-is : (test : Option Man → Bool) → test None ≡ false → (men : Men) (word : ℕ) → ((i : ℕ) → bit_at word i ≡ cond (test (man_at men i)) 1 0) → word ≡ set_of test men
set-is test none men word bits = same_from_bits word (set_of test men) (λ i. bits i ∙ sym (bit-set_of test none men i))

-- a square is emptied
pub left : (test : Option Man → Bool) → test None ≡ false → (men : Men) (s : ℕ) → length men ≡ 64 → s < 64
    → bit_and (set_of test men) (18446744073709551615 - 1 * 2 ^ s % 18446744073709551616) ≡ set_of test (put men s None)
left test none men s squares less =
    set-is test none (put men s None) (bit_and (set_of test men) (18446744073709551615 - 1 * 2 ^ s % 18446744073709551616))
    (λ i. elim (cases_eq i s) [
      | inl same ↦
          let gone : man_at (put men s None) s ≡ None = get_or-set_same men s None None (omega (arith, squares, less)) in
          rw (same, gone, none) (bit_at_clear_same w64 (set_of test men) s less)
      | inr apart ↦
          let kept : man_at (put men s None) i ≡ man_at men i = get_or-set_other men s i None None apart in
          let was : bit_at (set_of test men) i ≡ cond (test (man_at men i)) 1 0 = bit-set_of test none men i in
          rw kept
          (elim (cases_lt i 64) [
            | inl within ↦ bit_at_clear_other w64 (set_of test men) s less i within apart ∙ was
            | inr above ↦
                let past : man_at men i ≡ None = get_or_past men i None (omega (arith, squares, above)) in
                let zero_bit : bit_at (set_of test men) i ≡ 0 = was ∙ rw (past, none) refl in
                rw (past, none) (bit_at_and (set_of test men) (18446744073709551615 - 1 * 2 ^ s % 18446744073709551616) i ∙ rw zero_bit (omega arith))
          ])
    ])

-- and who did not pass the test has left it
stays : (test : Option Man → Bool) → test None ≡ false → (men : Men) (s : ℕ) (man : Man) → test (Some man) ≡ false → man_at men s ≡ Some man → length men ≡ 64 → s < 64
    → set_of test men ≡ set_of test (put men s None)
stays test none men s man fails stands squares less =
    set-is test none (put men s None) (set_of test men)
    (λ i. elim (cases_eq i s) [
      | inl same ↦
          let gone : man_at (put men s None) s ≡ None = get_or-set_same men s None None (omega (arith, squares, less)) in
          rw (same, gone, none) (bit-set_of test none men s ∙ rw (stands, fails) refl)
      | inr apart ↦
          let kept : man_at (put men s None) i ≡ man_at men i = get_or-set_other men s i None None apart in
          rw kept (bit-set_of test none men i)
    ])

-- a man comes to an empty square, who passes the test, or does not
pub come : (test : Option Man → Bool) → test None ≡ false → (men : Men) (s : ℕ) (man : Man) → test (Some man) ≡ true → length men ≡ 64 → s < 64
    → bit_or (set_of test men) (1 * 2 ^ s % 18446744073709551616) ≡ set_of test (put men s (Some man))
come test none men s man passes squares less =
    set-is test none (put men s (Some man)) (bit_or (set_of test men) (1 * 2 ^ s % 18446744073709551616))
    (λ i. elim (cases_eq i s) [
      | inl same ↦
          let there : man_at (put men s (Some man)) s ≡ Some man = get_or-set_same men s (Some man) None (omega (arith, squares, less)) in
          rw (same, there, passes) (bit_at_set_same w64 (set_of test men) s less)
      | inr apart ↦
          let kept : man_at (put men s (Some man)) i ≡ man_at men i = get_or-set_other men s i (Some man) None apart in
          rw kept (bit_at_set_other w64 (set_of test men) s less i apart ∙ bit-set_of test none men i)
    ])

pub passed : (test : Option Man → Bool) → test None ≡ false → (men : Men) (s : ℕ) (man : Man) → test (Some man) ≡ false → man_at men s ≡ None → length men ≡ 64 → s < 64
    → set_of test men ≡ set_of test (put men s (Some man))
passed test none men s man fails empty squares less =
    set-is test none (put men s (Some man)) (set_of test men)
    (λ i. elim (cases_eq i s) [
      | inl same ↦
          let there : man_at (put men s (Some man)) s ≡ Some man = get_or-set_same men s (Some man) None (omega (arith, squares, less)) in
          rw (same, there, fails) (bit-set_of test none men s ∙ rw (empty, none) refl)
      | inr apart ↦
          let kept : man_at (put men s (Some man)) i ≡ man_at men i = get_or-set_other men s i (Some man) None apart in
          rw kept (bit-set_of test none men i)
    ])

-- a man of each kind and colour comes to an empty square
pub kinds-come : (k : Kind) (c : Colour) (men : Men) (s n : ℕ) → n ≡ kind_number k → man_at men s ≡ None → length men ≡ 64 → s < 64
    → slice_set (sets_of men).kinds n (bit_or (slice_index_or (sets_of men).kinds n 0) (1 * 2 ^ s % 18446744073709551616))
    ≡ (sets_of (put men s (Some (record { colour = c; kind = k })))).kinds
unfolding sets_of
kinds-come King c men s n is empty squares less =
    rw is
    (λ i.
    come (is_kind King) refl men s (record { colour = c; kind = King }) refl squares less i
    ∷ passed (is_kind Queen) refl men s (record { colour = c; kind = King }) refl empty squares less i
    ∷ passed (is_kind Rook) refl men s (record { colour = c; kind = King }) refl empty squares less i
    ∷ passed (is_kind Bishop) refl men s (record { colour = c; kind = King }) refl empty squares less i
    ∷ passed (is_kind Knight) refl men s (record { colour = c; kind = King }) refl empty squares less i
    ∷ passed (is_kind Pawn) refl men s (record { colour = c; kind = King }) refl empty squares less i
    ∷ [])
kinds-come Queen c men s n is empty squares less =
    rw is
    (λ i.
    passed (is_kind King) refl men s (record { colour = c; kind = Queen }) refl empty squares less i
    ∷ come (is_kind Queen) refl men s (record { colour = c; kind = Queen }) refl squares less i
    ∷ passed (is_kind Rook) refl men s (record { colour = c; kind = Queen }) refl empty squares less i
    ∷ passed (is_kind Bishop) refl men s (record { colour = c; kind = Queen }) refl empty squares less i
    ∷ passed (is_kind Knight) refl men s (record { colour = c; kind = Queen }) refl empty squares less i
    ∷ passed (is_kind Pawn) refl men s (record { colour = c; kind = Queen }) refl empty squares less i
    ∷ [])
kinds-come Rook c men s n is empty squares less =
    rw is
    (λ i.
    passed (is_kind King) refl men s (record { colour = c; kind = Rook }) refl empty squares less i
    ∷ passed (is_kind Queen) refl men s (record { colour = c; kind = Rook }) refl empty squares less i
    ∷ come (is_kind Rook) refl men s (record { colour = c; kind = Rook }) refl squares less i
    ∷ passed (is_kind Bishop) refl men s (record { colour = c; kind = Rook }) refl empty squares less i
    ∷ passed (is_kind Knight) refl men s (record { colour = c; kind = Rook }) refl empty squares less i
    ∷ passed (is_kind Pawn) refl men s (record { colour = c; kind = Rook }) refl empty squares less i
    ∷ [])
kinds-come Bishop c men s n is empty squares less =
    rw is
    (λ i.
    passed (is_kind King) refl men s (record { colour = c; kind = Bishop }) refl empty squares less i
    ∷ passed (is_kind Queen) refl men s (record { colour = c; kind = Bishop }) refl empty squares less i
    ∷ passed (is_kind Rook) refl men s (record { colour = c; kind = Bishop }) refl empty squares less i
    ∷ come (is_kind Bishop) refl men s (record { colour = c; kind = Bishop }) refl squares less i
    ∷ passed (is_kind Knight) refl men s (record { colour = c; kind = Bishop }) refl empty squares less i
    ∷ passed (is_kind Pawn) refl men s (record { colour = c; kind = Bishop }) refl empty squares less i
    ∷ [])
kinds-come Knight c men s n is empty squares less =
    rw is
    (λ i.
    passed (is_kind King) refl men s (record { colour = c; kind = Knight }) refl empty squares less i
    ∷ passed (is_kind Queen) refl men s (record { colour = c; kind = Knight }) refl empty squares less i
    ∷ passed (is_kind Rook) refl men s (record { colour = c; kind = Knight }) refl empty squares less i
    ∷ passed (is_kind Bishop) refl men s (record { colour = c; kind = Knight }) refl empty squares less i
    ∷ come (is_kind Knight) refl men s (record { colour = c; kind = Knight }) refl squares less i
    ∷ passed (is_kind Pawn) refl men s (record { colour = c; kind = Knight }) refl empty squares less i
    ∷ [])
kinds-come Pawn c men s n is empty squares less =
    rw is
    (λ i.
    passed (is_kind King) refl men s (record { colour = c; kind = Pawn }) refl empty squares less i
    ∷ passed (is_kind Queen) refl men s (record { colour = c; kind = Pawn }) refl empty squares less i
    ∷ passed (is_kind Rook) refl men s (record { colour = c; kind = Pawn }) refl empty squares less i
    ∷ passed (is_kind Bishop) refl men s (record { colour = c; kind = Pawn }) refl empty squares less i
    ∷ passed (is_kind Knight) refl men s (record { colour = c; kind = Pawn }) refl empty squares less i
    ∷ come (is_kind Pawn) refl men s (record { colour = c; kind = Pawn }) refl squares less i
    ∷ [])

pub colours-come : (c : Colour) (k : Kind) (men : Men) (s n : ℕ) → n ≡ colour_number c → man_at men s ≡ None → length men ≡ 64 → s < 64
    → slice_set (sets_of men).colours n (bit_or (slice_index_or (sets_of men).colours n 0) (1 * 2 ^ s % 18446744073709551616))
    ≡ (sets_of (put men s (Some (record { colour = c; kind = k })))).colours
unfolding sets_of
colours-come White k men s n is empty squares less =
    rw is
    (λ i.
    come (is_of White) refl men s (record { colour = White; kind = k }) refl squares less i
    ∷ passed (is_of Black) refl men s (record { colour = White; kind = k }) refl empty squares less i
    ∷ [])
colours-come Black k men s n is empty squares less =
    rw is
    (λ i.
    passed (is_of White) refl men s (record { colour = Black; kind = k }) refl empty squares less i
    ∷ come (is_of Black) refl men s (record { colour = Black; kind = k }) refl squares less i
    ∷ [])

-- a man of each kind and colour leaves his square
pub kinds-leave : (k : Kind) (c : Colour) (men : Men) (s n : ℕ) → n ≡ kind_number k → man_at men s ≡ Some (record { colour = c; kind = k }) → length men ≡ 64 → s < 64
    → slice_set (sets_of men).kinds n (bit_and (slice_index_or (sets_of men).kinds n 0) (18446744073709551615 - 1 * 2 ^ s % 18446744073709551616))
    ≡ (sets_of (put men s None)).kinds
unfolding sets_of
kinds-leave King c men s n is stands squares less =
    rw is
    (λ i.
    left (is_kind King) refl men s squares less i
    ∷ stays (is_kind Queen) refl men s (record { colour = c; kind = King }) refl stands squares less i
    ∷ stays (is_kind Rook) refl men s (record { colour = c; kind = King }) refl stands squares less i
    ∷ stays (is_kind Bishop) refl men s (record { colour = c; kind = King }) refl stands squares less i
    ∷ stays (is_kind Knight) refl men s (record { colour = c; kind = King }) refl stands squares less i
    ∷ stays (is_kind Pawn) refl men s (record { colour = c; kind = King }) refl stands squares less i
    ∷ [])
kinds-leave Queen c men s n is stands squares less =
    rw is
    (λ i.
    stays (is_kind King) refl men s (record { colour = c; kind = Queen }) refl stands squares less i
    ∷ left (is_kind Queen) refl men s squares less i
    ∷ stays (is_kind Rook) refl men s (record { colour = c; kind = Queen }) refl stands squares less i
    ∷ stays (is_kind Bishop) refl men s (record { colour = c; kind = Queen }) refl stands squares less i
    ∷ stays (is_kind Knight) refl men s (record { colour = c; kind = Queen }) refl stands squares less i
    ∷ stays (is_kind Pawn) refl men s (record { colour = c; kind = Queen }) refl stands squares less i
    ∷ [])
kinds-leave Rook c men s n is stands squares less =
    rw is
    (λ i.
    stays (is_kind King) refl men s (record { colour = c; kind = Rook }) refl stands squares less i
    ∷ stays (is_kind Queen) refl men s (record { colour = c; kind = Rook }) refl stands squares less i
    ∷ left (is_kind Rook) refl men s squares less i
    ∷ stays (is_kind Bishop) refl men s (record { colour = c; kind = Rook }) refl stands squares less i
    ∷ stays (is_kind Knight) refl men s (record { colour = c; kind = Rook }) refl stands squares less i
    ∷ stays (is_kind Pawn) refl men s (record { colour = c; kind = Rook }) refl stands squares less i
    ∷ [])
kinds-leave Bishop c men s n is stands squares less =
    rw is
    (λ i.
    stays (is_kind King) refl men s (record { colour = c; kind = Bishop }) refl stands squares less i
    ∷ stays (is_kind Queen) refl men s (record { colour = c; kind = Bishop }) refl stands squares less i
    ∷ stays (is_kind Rook) refl men s (record { colour = c; kind = Bishop }) refl stands squares less i
    ∷ left (is_kind Bishop) refl men s squares less i
    ∷ stays (is_kind Knight) refl men s (record { colour = c; kind = Bishop }) refl stands squares less i
    ∷ stays (is_kind Pawn) refl men s (record { colour = c; kind = Bishop }) refl stands squares less i
    ∷ [])
kinds-leave Knight c men s n is stands squares less =
    rw is
    (λ i.
    stays (is_kind King) refl men s (record { colour = c; kind = Knight }) refl stands squares less i
    ∷ stays (is_kind Queen) refl men s (record { colour = c; kind = Knight }) refl stands squares less i
    ∷ stays (is_kind Rook) refl men s (record { colour = c; kind = Knight }) refl stands squares less i
    ∷ stays (is_kind Bishop) refl men s (record { colour = c; kind = Knight }) refl stands squares less i
    ∷ left (is_kind Knight) refl men s squares less i
    ∷ stays (is_kind Pawn) refl men s (record { colour = c; kind = Knight }) refl stands squares less i
    ∷ [])
kinds-leave Pawn c men s n is stands squares less =
    rw is
    (λ i.
    stays (is_kind King) refl men s (record { colour = c; kind = Pawn }) refl stands squares less i
    ∷ stays (is_kind Queen) refl men s (record { colour = c; kind = Pawn }) refl stands squares less i
    ∷ stays (is_kind Rook) refl men s (record { colour = c; kind = Pawn }) refl stands squares less i
    ∷ stays (is_kind Bishop) refl men s (record { colour = c; kind = Pawn }) refl stands squares less i
    ∷ stays (is_kind Knight) refl men s (record { colour = c; kind = Pawn }) refl stands squares less i
    ∷ left (is_kind Pawn) refl men s squares less i
    ∷ [])

pub colours-leave : (c : Colour) (k : Kind) (men : Men) (s n : ℕ) → n ≡ colour_number c → man_at men s ≡ Some (record { colour = c; kind = k }) → length men ≡ 64 → s < 64
    → slice_set (sets_of men).colours n (bit_and (slice_index_or (sets_of men).colours n 0) (18446744073709551615 - 1 * 2 ^ s % 18446744073709551616))
    ≡ (sets_of (put men s None)).colours
unfolding sets_of
colours-leave White k men s n is stands squares less =
    rw is
    (λ i.
    left (is_of White) refl men s squares less i
    ∷ stays (is_of Black) refl men s (record { colour = White; kind = k }) refl stands squares less i
    ∷ [])
colours-leave Black k men s n is stands squares less =
    rw is
    (λ i.
    stays (is_of White) refl men s (record { colour = Black; kind = k }) refl stands squares less i
    ∷ left (is_of Black) refl men s squares less i
    ∷ [])

-- the sets fit the board again when a man has left his square, and when one has come to an empty one
pub removed : (cells : Men) (s : ℕ) (kept new : Sets) (man : Man) → Fit cells kept → get_or cells s None ≡ Some man
    → ((men : Men) → length men ≡ 64 → kept ≡ sets_of men → man_at men s ≡ Some man → new ≡ sets_of (put men s None))
    → Fit (put cells s None) new
removed cells s kept new man fit stands leave =
    record { squares = length-set cells s None ∙ fit.squares; sets = leave cells fit.squares fit.sets stands }

pub entered : (cells : Men) (s : ℕ) (kept new : Sets) (man : Man) → Fit cells kept → get_or cells s None ≡ None
    → ((men : Men) → length men ≡ 64 → kept ≡ sets_of men → man_at men s ≡ None → new ≡ sets_of (put men s (Some man)))
    → Fit (put cells s (Some man)) new
entered cells s kept new man fit empty add =
    record { squares = length-set cells s (Some man) ∙ fit.squares; sets = add cells fit.squares fit.sets empty }

-- an empty square is emptied
pub empty_already : (men : Men) (s : ℕ) → man_at men s ≡ None → men ≡ put men s None
empty_already men s empty = sym (ap (put men s) (sym empty) ∙ set-get_or men s None)

-- a square is empty when it was emptied, and then a man comes to it
pub emptied : (men new : Men) (s : ℕ) → new ≡ put men s None → length new ≡ 64 → s < 64 → man_at new s ≡ None
emptied men new s is squares less =
    rw is (get_or-set_same men s None None (omega (arith, sym (length-set men s None) ∙ ap length (sym is) ∙ squares, less)))

pub filled : (men left new : Men) (s : ℕ) (man : Option Man) → left ≡ put men s None → new ≡ put left s man → new ≡ put men s man
filled men left new s man gone is = is ∙ ap (λ m. put m s man) gone ∙ set-set men s None man

pub filled_behind : (men first left new : Men) (a s : ℕ) (man : Option Man) → first ≡ put men a None → left ≡ put first s None → new ≡ put left s man
    → new ≡ put (put men a None) s man
filled_behind men first left new a s man before gone is = filled first left new s man gone is ∙ ap (λ m. put m s man) before

-- the squares so far, and no man on the others
abbrev pub so_far : ℕ → Men → Men
so_far s cells = take s cells ++ replicate (64 - s) None

so_far-here : (cells : Men) (s : ℕ) → s < 64 → so_far s cells ≡ take s cells ++ None ∷ replicate (63 - s) None
so_far-here cells s less = let rest : 64 - s ≡ suc (63 - s) = omega arith in rw rest refl

so_far-more : (cells : Men) (s : ℕ) (cell : Option Man) → s < 64 → length cells ≡ 64 → get_or cells s None ≡ cell → so_far (s + 1) cells ≡ take s cells ++ cell ∷ replicate (63 - s) None
so_far-more cells s cell less squares is =
    let rest : 64 - (s + 1) ≡ 63 - s = omega arith in
    rw (rest, take_more cells s None (omega (arith, squares, less)), is, append_assoc (take s cells) (cell ∷ []) (replicate (63 - s) None)) refl

pub so_far-none : (cells : Men) (s : ℕ) → s < 64 → length cells ≡ 64 → get_or cells s None ≡ None → so_far s cells ≡ so_far (s + 1) cells
so_far-none cells s less squares is = so_far-here cells s less ∙ sym (so_far-more cells s None less squares is)

pub so_far-some : (cells : Men) (s : ℕ) (man : Man) → s < 64 → length cells ≡ 64 → get_or cells s None ≡ Some man → put (so_far s cells) s (Some man) ≡ so_far (s + 1) cells
so_far-some cells s man less squares is =
    ap (λ men. put men s (Some man)) (so_far-here cells s less)
    ∙ set_at (take s cells) None (replicate (63 - s) None) (Some man) s (length-take-le s cells (omega (arith, squares, less)))
    ∙ sym (so_far-more cells s (Some man) less squares is)

pub so_far-squares : (cells : Men) (s : ℕ) → s ≤ 64 → length cells ≡ 64 → length (so_far s cells) ≡ 64
so_far-squares cells s most squares =
    let none : Option Man = None in
    length-append (take s cells) (replicate (64 - s) none)
    ∙ omega (arith, length-take-le s cells (omega (arith, squares, most)), length-replicate (64 - s) none, most)

pub so_far-empty : (cells : Men) (s : ℕ) → s < 64 → length cells ≡ 64 → man_at (so_far s cells) s ≡ None
so_far-empty cells s less squares =
    ap (λ men. man_at men s) (so_far-here cells s less)
    ∙ get_or_at (take s cells) None (replicate (63 - s) None) None s (length-take-le s cells (omega (arith, squares, less)))

pub so_far-all : (cells : Men) → length cells ≡ 64 → so_far 64 cells ≡ cells
so_far-all cells squares = rw (take_all 64 cells (omega (arith, squares))) (append-nil cells)

-- a square is told by the sets in which it is
told_by : (colour : Colour) (k q r b n p : Bool) → Option Man
told_by c k q r b n p =
    cond k (Some (record { colour = c; kind = King })) (cond q (Some (record { colour = c; kind = Queen })) (cond r (Some (record { colour = c; kind = Rook }))
    (cond b (Some (record { colour = c; kind = Bishop })) (cond n (Some (record { colour = c; kind = Knight })) (cond p (Some (record { colour = c; kind = Pawn })) None)))))

told : (x : Option Man) → Option Man
told x = told_by (cond (is_of White x) White Black) (is_kind King x) (is_kind Queen x) (is_kind Rook x) (is_kind Bishop x) (is_kind Knight x) (is_kind Pawn x)

told-is : (x : Option Man) → told x ≡ x
unfolding told told_by
told-is None = refl
told-is (Some m) =
    elim m.colour as (λ c. told (Some (record { colour = c; kind = m.kind })) ≡ Some (record { colour = c; kind = m.kind })) [
      | White ↦ elim m.kind as (λ k. told (Some (record { colour = White; kind = k })) ≡ Some (record { colour = White; kind = k })) [
        | King ↦ refl
        | Queen ↦ refl
        | Rook ↦ refl
        | Bishop ↦ refl
        | Knight ↦ refl
        | Pawn ↦ refl
      ]
      | Black ↦ elim m.kind as (λ k. told (Some (record { colour = Black; kind = k })) ≡ Some (record { colour = Black; kind = k })) [
        | King ↦ refl
        | Queen ↦ refl
        | Rook ↦ refl
        | Bishop ↦ refl
        | Knight ↦ refl
        | Pawn ↦ refl
      ]
    ]

one_bit : (x y : Bool) → ◌≡◌ {A = ℕ} (cond x 1 0) (cond y 1 0) → x ≡ y
one_bit true true h = refl
one_bit true false h = absurd (omega (arith, h))
one_bit false true h = absurd (omega (arith, h))
one_bit false false h = refl

same_test : (test : Option Man → Bool) → test None ≡ false → (a b : Men) → set_of test a ≡ set_of test b → (i : ℕ) → test (man_at a i) ≡ test (man_at b i)
same_test test none a b same i =
    one_bit (test (man_at a i)) (test (man_at b i)) (sym (bit-set_of test none a i) ∙ ap (λ w. bit_at w i) same ∙ bit-set_of test none b i)

-- boards with the same sets are the same
same_squares : (a b : Men) → length a ≡ length b → sets_of a ≡ sets_of b → a ≡ b
unfolding sets_of told
same_squares a b long same =
    ext_get_or None a b long
    (λ i less.
    let of_white = same_test (is_of White) refl a b (ap (λ (s : Sets). slice_index_or s.colours 0 0) same) i in
    let of_king = same_test (is_kind King) refl a b (ap (λ (s : Sets). slice_index_or s.kinds 0 0) same) i in
    let of_queen = same_test (is_kind Queen) refl a b (ap (λ (s : Sets). slice_index_or s.kinds 1 0) same) i in
    let of_rook = same_test (is_kind Rook) refl a b (ap (λ (s : Sets). slice_index_or s.kinds 2 0) same) i in
    let of_bishop = same_test (is_kind Bishop) refl a b (ap (λ (s : Sets). slice_index_or s.kinds 3 0) same) i in
    let of_knight = same_test (is_kind Knight) refl a b (ap (λ (s : Sets). slice_index_or s.kinds 4 0) same) i in
    let of_pawn = same_test (is_kind Pawn) refl a b (ap (λ (s : Sets). slice_index_or s.kinds 5 0) same) i in
    sym (told-is (man_at a i))
    ∙ (λ j. told_by (cond (of_white j) White Black) (of_king j) (of_queen j) (of_rook j) (of_bishop j) (of_knight j) (of_pawn j))
    ∙ told-is (man_at b i))

pub same_from_sets : (a b : Men) (kept other : Sets) → Fit a kept → Fit b other → kept ≡ other → a ≡ b
same_from_sets a b kept other fit fits same = same_squares a b (fit.squares ∙ sym fits.squares) (sym fit.sets ∙ same ∙ fits.sets)

pub sets_from_same : (a b : Men) (kept other : Sets) → Fit a kept → Fit b other → a ≡ b → kept ≡ other
sets_from_same a b kept other fit fits same = fit.sets ∙ ap sets_of same ∙ sym fits.sets

-- the set of a kind or of a colour, at its place
pub kind-set : (k : Kind) (men : Men) (n : ℕ) → n ≡ kind_number k → slice_index_or (sets_of men).kinds n 0 ≡ set_of (is_kind k) men
unfolding sets_of
kind-set King men n is = rw is refl
kind-set Queen men n is = rw is refl
kind-set Rook men n is = rw is refl
kind-set Bishop men n is = rw is refl
kind-set Knight men n is = rw is refl
kind-set Pawn men n is = rw is refl

pub colour-set : (c : Colour) (men : Men) (n : ℕ) → n ≡ colour_number c → slice_index_or (sets_of men).colours n 0 ≡ set_of (is_of c) men
unfolding sets_of
colour-set White men n is = rw is refl
colour-set Black men n is = rw is refl

-- a man of a colour and a kind stands in both sets
both_bits : (a b : Bool) → ◌≡◌ {A = ℕ} (min (cond a 1 0) (cond b 1 0)) (cond (a && b) 1 0)
both_bits true true = refl
both_bits true false = refl
both_bits false true = refl
both_bits false false = refl

both-sets : (c : Colour) (k : Kind) (x : Option Man) → ◌≡◌ {A = ℕ} (min (cond (is_of c x) 1 0) (cond (is_kind k x) 1 0)) (cond (is_man c k x) 1 0)
both-sets c k None = refl
both-sets c k (Some m) = both_bits (same_colour m.colour c) (same_kind m.kind k)

pub man-set : (c : Colour) (k : Kind) (men : Men) → bit_and (set_of (is_of c) men) (set_of (is_kind k) men) ≡ set_of (is_man c k) men
man-set c k men =
    set-is (is_man c k) refl men (bit_and (set_of (is_of c) men) (set_of (is_kind k) men))
    (λ i. bit_at_and (set_of (is_of c) men) (set_of (is_kind k) men) i
    ∙ (λ j. min (bit-set_of (is_of c) refl men i j) (bit-set_of (is_kind k) refl men i j))
    ∙ both-sets c k (man_at men i))

-- a man stands in the set of one of the colours
either-sets : (x : Option Man) → ◌≡◌ {A = ℕ} (max (cond (is_of White x) 1 0) (cond (is_of Black x) 1 0)) (cond (is_some x) 1 0)
either-sets None = refl
either-sets (Some m) =
    elim m.colour as (λ c. ◌≡◌ {A = ℕ} (max (cond (is_of White (Some (record { colour = c; kind = m.kind }))) 1 0) (cond (is_of Black (Some (record { colour = c; kind = m.kind }))) 1 0)) 1) [
      | White ↦ refl
      | Black ↦ refl
    ]

pub some-set : (men : Men) → bit_or (set_of (is_of White) men) (set_of (is_of Black) men) ≡ set_of is_some men
some-set men =
    set-is is_some refl men (bit_or (set_of (is_of White) men) (set_of (is_of Black) men))
    (λ i. bit_at_or (set_of (is_of White) men) (set_of (is_of Black) men) i
    ∙ (λ j. max (bit-set_of (is_of White) refl men i j) (bit-set_of (is_of Black) refl men i j))
    ∙ either-sets (man_at men i))

-- a set has as many squares as pass its test
pub ones-set_of : (test : Option Man → Bool) (men : Men) → count_ones (set_of test men) ≡ count_by test men
unfolding set_of
ones-set_of test men = ones-mask_l test men
