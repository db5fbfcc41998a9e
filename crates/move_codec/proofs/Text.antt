-- The numbers at the standard start, and those from a placement text, are those of the men.
use Rattle.move_codec.proofs.Words.{◌≡◌, ℕ, ◌<◌, ◌≤◌, Bool, true, cond, eqb, ltb, ◌&&◌, List, Some, None, length, get_or, slice_get, inl, inr, refl, sym, ◌∙◌, ap, arith, and_parts, cases_lt, eqb-true, ltb-true, false≢true, get_or_past, get_or_from_slice_get, slice_get_within, Colour, White, Black, King, Men, man_at, is_of, start_men, is_man-Some, king-only, AreNumbers, IsNumbering, number_of, standard_numbers, start_ranks, zero, suc, ◌+◌, ◌-◌, ◌*◌, ◌/◌, ◌%◌, false, not, [], ◌∷◌, ◌++◌, Option, subst, length-append, zero-add, add-one, drop, drop-cons, count_by, sum_by, list_all, sum_by-cons, sum_by-append, sum_by-drop_more, cases_Bool, eq-eqb, ne_eqb, not-true, eqb_tells, none-some, Man, is_man, HasKings, HasFewMen, king_square, text_numbers, text_squares, with_king, with_square, fold, range_with_len}
use Rattle.move_codec.proofs.Tables.{all_below, below}
use Rattle.move_codec.proofs.Lists.{found-within, at, found}
use Rattle.move_codec.proofs.Boards.{holds, Numbering, are_numbers, king_held}
use Rattle.move_codec.specs.Numbers.{text_numbers_of}
use Rattle.move_codec.proofs.Steps.{numbered}
use Rattle.move_codec.proofs.Tracking.{Tracked, Tracked-push, Tracked-went, Tracked-like, Tracks-other, away}

-- whether the square with a number has a man of the side and is found there, and whether a man of the side on a square is in the list
abbrev is_held : Colour → Men → List ℕ → ℕ → Bool
is_held c men squares n = holds c men (get_or squares n 64) && eqb (number_of squares (get_or squares n 64)) n

abbrev is_listed : Colour → Men → List ℕ → ℕ → Bool
is_listed c men squares s = cond (holds c men s) (ltb (number_of squares s) (length squares)) true

pub held_on_board : (men : Men) (c : Colour) (s : ℕ) → length men ≡ 64 → holds c men s ≡ true → s < 64
held_on_board men c s size h = elim (cases_lt s 64) [
  | inl less ↦ less
  | inr past ↦ absurd (false≢true (sym (ap (is_of c) (get_or_past men s None (omega arith))) ∙ h))
]

IsNumbering-by_tests : (men : Men) (c : Colour) (squares : List ℕ) → length squares ≤ 16 → length men ≡ 64
    → all_below (is_held c men squares) (length squares) ≡ true → all_below (is_listed c men squares) 64 ≡ true → IsNumbering men c squares
IsNumbering-by_tests men c squares few size held listed =
    let at : (n s : ℕ) → slice_get squares n ≡ Some s → (holds c men s ≡ true) × (number_of squares s ≡ n) = λ n s e.
    let both = and_parts _ _ (rw (get_or_from_slice_get squares n s 64 e) at (below (is_held c men squares) (length squares) n held (slice_get_within squares n s e))) in
    (both.0, eqb-true (number_of squares s) n both.1) in
    record {
      few = few;
      held = λ n s e. (at n s e).0;
      once = λ j k s ej ek. sym (at j s ej).1 ∙ (at k s ek).1;
      whole = λ s t. found-within squares s (ltb-true (number_of squares s) (length squares) (rw t at (below (is_listed c men squares) 64 s listed (held_on_board men c s size t))));
    }

pub AreNumbers-standard : AreNumbers start_men standard_numbers
AreNumbers-standard = record {
  white = IsNumbering-by_tests start_men White (start_ranks 0 8) (omega arith) refl refl refl;
  black = IsNumbering-by_tests start_men Black (start_ranks 56 48) (omega arith) refl refl refl;
  white_king = λ s is. ap (λ (v : ℕ). Some v) (sym (king-only start_men White s refl (is_man-Some White King (man_at start_men s) is)));
  black_king = λ s is. ap (λ (v : ℕ). Some v) (sym (king-only start_men Black s refl (is_man-Some Black King (man_at start_men s) is)));
}

-- How many numbers there are

-- 1 where a man of the side stands
abbrev count_at : Men → Colour → ℕ → ℕ
count_at men c s = cond (holds c men s) 1 0

length-with_king : (squares : List ℕ) (x : ℕ) → length (with_king squares x) ≡ length squares + 1
length-with_king [] x = refl
length-with_king (y ∷ ys) x = omega (arith, length-append ys (y ∷ []))

length-with_square : (men : Men) (c : Colour) (squares : List ℕ) (x : ℕ) → length (with_square men c squares x) ≡ length squares + cond (holds c men x) 1 0
length-with_square men c squares x = elim (cases_Bool (is_man c King (man_at men x))) [
  | inl king ↦ rw (king, king_held c (man_at men x) king) (length-with_king squares x)
  | inr no_king ↦ elim (cases_Bool (is_of c (man_at men x))) [
    | inl man ↦ rw (no_king, man) (length-append squares (x ∷ []))
    | inr none ↦ rw (no_king, none) (omega arith)
  ]
]

-- what stands on the squares of a text is added
unfoldable pub with_squares : Men → Colour → List ℕ → List ℕ → List ℕ
with_squares men side squares later = fold (with_square men side) squares later

pub text_is : (men : Men) (c : Colour) → with_squares men c [] text_squares ≡ text_numbers_of men c
unfolding with_squares text_numbers_of
text_is men c = refl

length-with_squares : (men : Men) (c : Colour) (squares later : List ℕ) → length (with_squares men c squares later) ≡ length squares + count_by (holds c men) later
unfolding with_squares
length-with_squares men c squares [] = omega arith
length-with_squares men c squares (x ∷ later) =
    omega (arith, length-with_squares men c (with_square men c squares x) later, length-with_square men c squares x, sum_by-cons (count_at men c) x later)

-- how many men of the side stand on squares that are counted in order, and in the text's order
abbrev pub upto : ℕ → ℕ → List ℕ
upto a zero = []
upto a (suc n) = a ∷ upto (a + 1) n

count_upto : (men : Men) (count : Option Man → ℕ) (at : ℕ → ℕ) (a : ℕ)
    → ((i : ℕ) → at (a + i) ≡ count (get_or men i None)) → sum_by at (upto a (length men)) ≡ sum_by count men
count_upto [] count at a same = refl
count_upto (x ∷ men) count at a same =
    let here : at a ≡ count x = ap at (omega arith) ∙ same 0 in
    let rest = count_upto men count at (a + 1) (λ i. ap at (omega arith) ∙ same (suc i)) in
    sum_by-cons at a (upto (a + 1) (length men)) ∙ omega (arith, here, rest) ∙ sym (sum_by-cons count x men)

ranks : (f : ℕ → ℕ) (a b c d e g h i : List ℕ)
    → sum_by f (a ++ (b ++ (c ++ (d ++ (e ++ (g ++ (h ++ i))))))) ≡ sum_by f (i ++ (h ++ (g ++ (e ++ (d ++ (c ++ (b ++ a)))))))
ranks f a b c d e g h i = simp sum_by-append (omega arith)

few-text : (men : Men) (c : Colour) → length men ≡ 64 → count_by (is_of c) men ≤ 16 → length (with_squares men c [] text_squares) ≤ 16
few-text men c size few =
    let r : ℕ → List ℕ = λ rank. range_with_len (8 * rank) 8 in
    let order : sum_by (count_at men c) text_squares ≡ sum_by (count_at men c) (upto 0 64) = ranks (count_at men c) (r 7) (r 6) (r 5) (r 4) (r 3) (r 2) (r 1) (r 0) in
    let board : sum_by (count_at men c) (upto 0 64) ≡ count_by (is_of c) men = ap (λ n. sum_by (count_at men c) (upto 0 n)) (sym size)
    ∙ count_upto men (λ o. cond (is_of c o) 1 0) (count_at men c) 0 (λ i. ap (count_at men c) (zero-add i)) in
    omega (arith, length-with_squares men c [] text_squares, order, board)

-- What stands on a board but for the squares of a text that are still to come

abbrev before : Men → List ℕ → ℕ → Option Man
before men [] = man_at men
before men (x ∷ later) = at (before men later) x None

before-some : (p : Option Man → Bool) (men : Men) (later : List ℕ) (s : ℕ) → p None ≡ false → p (before men later s) ≡ true → p (man_at men s) ≡ true
before-some p men [] s none h = h
before-some p men (x ∷ later) s none h = before-some p men later s none (away p (before men later) x None s none h).1

-- no square comes twice
abbrev fresh : List ℕ → Bool
fresh [] = true
fresh (x ∷ later) = list_all (λ y. not (eqb x y)) later && fresh later

before-fresh : (men : Men) (later : List ℕ) (x : ℕ) → list_all (λ y. not (eqb x y)) later ≡ true → before men later x ≡ man_at men x
before-fresh men [] x h = refl
before-fresh men (y ∷ later) x h = let both = and_parts _ _ h in rw (not-true (eqb x y) both.0) (before-fresh men later x both.1)

-- A square is added

module _ (men : Men) (c : Colour) (one : count_by (is_man c King) men ≡ 1) where
  -- a king takes the number 0, and the man that had it goes to the end
  Tracked-king : (f : ℕ → Option Man) (squares : List ℕ) (x : ℕ) → Tracked c f squares → f x ≡ None
      → ((s : ℕ) → is_man c King (f s) ≡ true → s ≡ x) → is_man c King (man_at men x) ≡ true → length squares < 16
      → Tracked c (at f x (man_at men x)) (with_king squares x)
  Tracked-king f [] x h none only king room = Tracked-push c f [] h x (man_at men x) room (ap (is_of c) none) (king_held c (man_at men x) king) (λ is. refl)
  Tracked-king f (y ∷ ys) x h none only king room =
      let held : is_of c (f y) ≡ true = (h.1.numbered 0 y refl).0 in
      let apart : y ≡ x → ⊥ = λ e. false≢true (sym (ap (is_of c) none) ∙ ap (λ s. is_of c (f s)) (sym e) ∙ held) in
      let went : Tracked c (at (at f y None) x (man_at men x)) (x ∷ ys) = rw (eq-eqb y y refl) at
      (Tracked-went c f (y ∷ ys) h x (man_at men x) y (found (y ∷ ys) 0 y refl) (λ is. refl) (ap (is_of c) none) (king_held c (man_at men x) king)) in
      let pushed = Tracked-push c (at (at f y None) x (man_at men x)) (x ∷ ys) went y (f y) room (rw (ne_eqb y x apart, eq-eqb y y refl) refl) held
      (λ is. absurd (apart (only y is))) in
      Tracked-like (x ∷ (ys ++ y ∷ [])) pushed
      (λ s. elim (eqb_tells s y) [ inl same ↦ rw (same.0, ne_eqb s x (λ e. apart (sym same.1 ∙ e))) (ap f same.1) | inr other ↦ rw other.0 refl ])

  Tracked-square : (f : ℕ → Option Man) (squares : List ℕ) (x : ℕ) → Tracked c f squares → f x ≡ None
      → ((s : ℕ) → is_man c King (f s) ≡ true → is_man c King (man_at men s) ≡ true) → length (with_square men c squares x) ≤ 16
      → Tracked c (at f x (man_at men x)) (with_square men c squares x)
  Tracked-square f squares x h none kings room =
      let size = length-with_square men c squares x in
      let fits : holds c men x ≡ true → length squares < 16 = λ held. let more : cond {A = ℕ} (holds c men x) 1 0 ≡ 1 = rw held refl in omega (arith, more) in
      elim (cases_Bool (is_man c King (man_at men x))) [
        | inl king ↦
            let sole : (s : ℕ) → is_man c King (man_at men s) ≡ true → s ≡ king_square men c = λ s is. king-only men c s one (is_man-Some c King (man_at men s) is) in
            rw king (Tracked-king f squares x h none (λ s is. sole s (kings s is) ∙ sym (sole x king)) king (fits (king_held c (man_at men x) king)))
        | inr no_king ↦ elim (cases_Bool (is_of c (man_at men x))) [
          | inl own ↦
              rw (no_king, own) (Tracked-push c f squares h x (man_at men x) (fits own) (ap (is_of c) none) own (λ is. absurd (false≢true (sym no_king ∙ is))))
          | inr other ↦ rw (no_king, other) (h.0, Tracks-other c f (slice_get squares) h.1 x (man_at men x) (ap (is_of c) none) other)
        ]
      ]

  Tracked-squares : (later squares : List ℕ) → fresh later ≡ true → length (with_squares men c squares later) ≤ 16 → Tracked c (before men later) squares
      → Tracked c (man_at men) (with_squares men c squares later)
  unfolding with_squares
  Tracked-squares [] squares ok room h = h
  Tracked-squares (x ∷ later) squares ok room h =
      let both = and_parts _ _ ok in
      let next = with_square men c squares x in
      let added = Tracked-square (before men (x ∷ later)) squares x h (rw (eq-eqb x x refl) refl) (λ s. before-some (is_man c King) men (x ∷ later) s refl)
      (omega (arith, length-with_squares men c next later)) in
      Tracked-squares later next both.1 room (Tracked-like next added (λ s. elim (eqb_tells s x) [
        | inl same ↦ rw same.0 (ap (before men later) same.1 ∙ before-fresh men later x both.0)
        | inr other ↦ rw other.0 refl
      ]))

-- the numbers from a placement text are those of a side's men, of which there are at most sixteen, its king's first
numbers-text : (men : Men) (c : Colour) → length men ≡ 64 → count_by (is_man c King) men ≡ 1 → count_by (is_of c) men ≤ 16 → Numbering men c (text_numbers_of men c)
numbers-text men c size one few =
    let nothing : (s : ℕ) → is_of c (before men text_squares s) ≡ true → ⊥ = λ s h.
    let on_board = held_on_board men c s size (before-some (is_of c) men text_squares s refl h) in
    false≢true (sym (not-true (is_of c (before men text_squares s)) (below (λ t. not (is_of c (before men text_squares t))) 64 s refl on_board)) ∙ h) in
    subst (Numbering men c) (text_is men c) (numbered men c (with_squares men c [] text_squares) (Tracked-squares men c one text_squares [] refl (few-text men c size few) (
      omega arith,
      record {
        place = λ s. s;
        numbered = λ n s e. absurd (none-some s e);
        whole = λ s own. absurd (nothing s own);
        first = λ s is. absurd (nothing s (king_held c (before men text_squares s) is));
      },
    )))

pub AreNumbers-text : (men : Men) → length men ≡ 64 → HasKings men → HasFewMen men → AreNumbers men (text_numbers men)
AreNumbers-text men size kings few =
    are_numbers men (text_numbers men) (numbers-text men White size (kings White) (few White)) (numbers-text men Black size (kings Black) (few Black))

-- How far a loop over the places of the text has come: what is left gives the same as all.
abbrev pub InText : Men → Colour → ℕ → List ℕ → Type 0
InText men c place squares = with_squares men c squares (drop place text_squares) ≡ text_numbers_of men c

-- the square at a place of the text
text_square : (place : ℕ) → place < 64 → get_or text_squares place 0 ≡ 8 * (7 - place / 8) + place % 8
text_square place h =
    eqb-true (get_or text_squares place 0) (8 * (7 - place / 8) + place % 8)
    (below (λ k. eqb (get_or text_squares k 0) (8 * (7 - k / 8) + k % 8)) 64 place refl h)

pub InText-room : (men : Men) (c : Colour) (place : ℕ) (squares : List ℕ) → length men ≡ 64 → count_by (is_of c) men ≤ 16 → place < 64
    → InText men c place squares → length squares + cond (is_of c (man_at men (8 * (7 - place / 8) + place % 8))) 1 0 ≤ 16
InText-room men c place squares size few h same =
    omega (
      arith,
      few-text men c size few,
      ap length (same ∙ sym (text_is men c)),
      length-with_squares men c squares (drop place text_squares),
      sum_by-drop_more (count_at men c) text_squares place 0 h,
      ap (count_at men c) (text_square place h),
    )

at_place : (xs : List ℕ) (i x : ℕ) → i < length xs → get_or xs i 0 ≡ x → drop i xs ≡ x ∷ drop (i + 1) xs
at_place xs i x h is = drop-cons xs i 0 h ∙ rw (is, add-one) refl

pub InText-next : (men : Men) (c : Colour) (place : ℕ) (squares next : List ℕ) → place < 64
    → next ≡ with_square men c squares (8 * (7 - place / 8) + place % 8) → InText men c place squares → InText men c (place + 1) next
unfolding with_squares
InText-next men c place squares next h is same = rw is (rw (at_place text_squares place (8 * (7 - place / 8) + place % 8) h (text_square place h)) at same)

pub InText-end : (men : Men) (c : Colour) (place : ℕ) (squares : List ℕ) → place ≡ 64 → InText men c place squares → squares ≡ text_numbers_of men c
unfolding with_squares
InText-end men c place squares all same = rw all at same
