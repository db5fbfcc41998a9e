-- Runs of bytes, and which byte a byte is not.
use Rattle.std.proofs.Common.{◌≡◌, ◌≤◌, ◌==◌, ◌||◌, ◌&&◌, nat_le, ℕ, Bool, true, false, not, cond, List, [], ◌∷◌, ◌++◌, refl, sym, ap, ◌∙◌, arith, inl, inr}
use Rattle.std.proofs.lemmas.Bool.{cases_Bool, cases_lt, eqb-true, true≢false, le-leb, ne_eqb, and_parts, and_right, not-true, agree_below_at}
use Rattle.std.specs.List.{list_all}
use Rattle.std.specs.Char.{is_ascii_alphabetic, is_ascii_digit}
use Rattle.pgn_read.specs.Bytes.{is_white, is_move_byte, front, behind}
use Rattle.pgn_laws.proofs.SpelledLaws.{stops}

-- A byte that passes a test is none that does not.
pub apart : (test : ℕ → Bool) (b k : ℕ) → test b ≡ true → test k ≡ false → (b == k) ≡ false
apart test b k passes fails = elim (cases_Bool (b == k)) [
  | inl is ↦ absurd (true≢false (sym passes ∙ ap test (eqb-true b k is) ∙ fails))
  | inr other ↦ other
]

-- A choice behind two that fail.
pub past_two : {A : Type 0} (a b : Bool) (x y z : A) → a ≡ false → b ≡ false → cond a x (cond b y z) ≡ z
past_two a b x y z p q = rw p rw q refl

-- Where a run ends: at the end of the text, or before a byte that is not of its kind.
abbrev pub ends_run : (ℕ → Bool) → List ℕ → Bool
ends_run test [] = true
ends_run test (byte ∷ text) = not (test byte)

front_none : (test : ℕ → Bool) (more : List ℕ) → ends_run test more ≡ true → front test more ≡ []
front_none test [] ends = refl
front_none test (b ∷ more) ends = rw (not-true (test b) ends) refl

behind_none : (test : ℕ → Bool) (more : List ℕ) → ends_run test more ≡ true → behind test more ≡ more
behind_none test [] ends = refl
behind_none test (b ∷ more) ends = rw (not-true (test b) ends) refl

pub front_run : (test : ℕ → Bool) (run more : List ℕ) → list_all test run ≡ true → ends_run test more ≡ true → front test (run ++ more) ≡ run
front_run test [] more all ends = front_none test more ends
front_run test (b ∷ run) more all ends =
    let both = and_parts (test b) (list_all test run) all in
    rw both.0 (ap (λ l. b ∷ l) (front_run test run more both.1 ends))

pub behind_run : (test : ℕ → Bool) (run more : List ℕ) → list_all test run ≡ true → ends_run test more ≡ true → behind test (run ++ more) ≡ more
behind_run test [] more all ends = behind_none test more ends
behind_run test (b ∷ run) more all ends =
    let both = and_parts (test b) (list_all test run) all in
    rw both.0 (behind_run test run more both.1 ends)

-- White space and a closing bracket end a run of which they are not.
stop_byte : (test : ℕ → Bool) (b : ℕ) (c d : Bool) → (b == 32) ≡ c → (b == 10) ≡ d → (c || (d || (b == 41))) ≡ true
    → test 32 ≡ false → test 10 ≡ false → test 41 ≡ false → test b ≡ false
stop_byte test b true d is other stop space feed bracket = ap test (eqb-true b 32 is) ∙ space
stop_byte test b false true is other stop space feed bracket = ap test (eqb-true b 10 other) ∙ feed
stop_byte test b false false is other stop space feed bracket = ap test (eqb-true b 41 stop) ∙ bracket

pub stops_run : (test : ℕ → Bool) (more : List ℕ) → stops more ≡ true → test 32 ≡ false → test 10 ≡ false → test 41 ≡ false → ends_run test more ≡ true
stops_run test [] stop space feed bracket = refl
stops_run test (b ∷ more) stop space feed bracket = ap not (stop_byte test b (b == 32) (b == 10) refl refl stop space feed bracket)

-- ---- bytes of moves

capital_or : (c : Bool) (b : ℕ) → 97 ≤ b → b ≤ 122 → (c || (nat_le 97 b && nat_le b 122)) ≡ true
capital_or true b low high = refl
capital_or false b low high = rw (le-leb 97 b low) rw (le-leb b 122 high) refl

letter_moves : (c d : Bool) (b : ℕ) → c ≡ true → (c || d || (b == 43) || (b == 35) || (b == 61) || (b == 45) || (b == 58)) ≡ true
letter_moves c d b is = rw is refl

digit_moves : (c d : Bool) (b : ℕ) → d ≡ true → (c || d || (b == 43) || (b == 35) || (b == 61) || (b == 45) || (b == 58)) ≡ true
digit_moves true d b is = refl
digit_moves false d b is = rw is refl

pub small_letter : (b : ℕ) → 97 ≤ b → b ≤ 122 → is_move_byte b ≡ true
small_letter b low high = letter_moves (is_ascii_alphabetic b) (is_ascii_digit b) b (capital_or (nat_le 65 b && nat_le b 90) b low high)

pub digit_byte : (b : ℕ) → 48 ≤ b → b ≤ 57 → is_ascii_digit b ≡ true
digit_byte b low high = rw (le-leb 48 b low) rw (le-leb b 57 high) refl

pub digit_moving : (b : ℕ) → is_ascii_digit b ≡ true → is_move_byte b ≡ true
digit_moving b digit = digit_moves (is_ascii_alphabetic b) (is_ascii_digit b) b digit

-- ---- a byte of a move is no white space

is_gap_byte : ℕ → Bool
is_gap_byte b = is_white b || (b == 37)

true_and : (a b : Bool) → a ≡ true → (a && b) ≡ false → b ≡ false
true_and a b is e = rw is at e

far_byte : (b : ℕ) → 38 ≤ b → is_gap_byte b ≡ false
unfolding is_gap_byte
far_byte b far =
    let high : nat_le b 13 ≡ false = search (arith, far) in
    rw (ne_eqb b 32 (λ e. omega (arith, e, far))) rw high rw (and_right (nat_le 9 b) false refl) rw (ne_eqb b 37 (λ e. omega (arith, e, far))) refl

pub move_no_gap : (b : ℕ) → is_move_byte b ≡ true → (is_white b || (b == 37)) ≡ false
unfolding is_gap_byte
move_no_gap b moves = elim (cases_lt b 38) [
  | inl near ↦ true_and (is_move_byte b) (is_gap_byte b) moves (agree_below_at (λ k. is_move_byte k && is_gap_byte k) (λ k. false) 38 b refl near)
  | inr far ↦ far_byte b far
]
