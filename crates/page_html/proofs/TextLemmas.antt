-- HTML shows the characters of a text in what is written of it.
use Rattle.std.proofs.Common.{◌≡◌, ◌<◌, ◌≤◌, ◌+◌, ◌-◌, ◌*◌, ◌^◌, ◌&&◌, nat_lt, ◌==◌, ℕ, zero, suc, Bool, true, false, eqb, List, [], ◌∷◌, ◌++◌, drop, get_or, length, Option, None, Some, append-nil, append_assoc, refl, sym, ap, ◌∙◌, inl, inr, arith}
use Rattle.std.specs.Prelude.{codes, fold, nat_le, not, option_map, slice_index, if◌then◌else◌}
use Rattle.std.specs.Char.{IsScalar, is_ascii_digit}
use Rattle.std.specs.Fmt.{decimal}
use Rattle.std.specs.List.{flat_map, list_all}
use Rattle.std.proofs.lemmas.Bool.{and_parts, cases_Bool, cases_eq, leb-true, lt-ltb, ltb-false, ltb-true, eqb-true, ne_eqb}
use Rattle.std.proofs.lemmas.List.{length-append}
use lib.Utf8.{scalar_cases}
use Rattle.std.proofs.lemmas.Bool.Decides.{nat_tests}
use Rattle.std.proofs.lemmas.Option.{same_Some, none-some}
use Rattle.bstr.specs.Utf8.{decoded}
use Rattle.bstr.proofs.lemmas.PieceLemmas.{piece-bounds}
use Rattle.bstr.proofs.lemmas.SoundLemmas.{SpellsChar-decoded}
use Rattle.game_tree.specs.Decimal.{decimal_read, decimal_value}
use Rattle.game_tree.proofs.DecimalLemmas.{decimal_read-decimal}
use Rattle.page_html.specs.Text.{char_or_byte, characters_behind, front, is_plain, number_behind, read_behind, reference_at, shown, shown_at, with_first, written_char}

-- ---- one character

-- A character that is shown as it is.
pub record IsShown (char : ℕ) : Type 0 where
  pub low : 31 < char
  pub high : char < 1114112
  pub not_delete : char ≡ 127 → ⊥

-- What passes so many bytes.
passed : (front html : List ℕ) → read_behind (length front) (front ++ html) ≡ read_behind 0 html
unfolding read_behind
passed [] html = refl
passed (byte ∷ front) html = passed front html

-- The digits of a number and a semicolon.
record Digits (char : ℕ) : Type 0 where
  some : 1 ≤ length (decimal char)
  digits : list_all is_ascii_digit (decimal char) ≡ true
  value : decimal_value (decimal char) ≡ char

digits_of : (char : ℕ) → char < 1114112 → Digits char
unfolding decimal_read
digits_of char small =
    let text = decimal char in
    let read : decimal_read 1114111 text ≡ Some char = decimal_read-decimal 1114111 text char (omega (arith, small)) (omega (arith, small)) refl in
    elim (cases_Bool (nat_le 1 (length text) && list_all is_ascii_digit text && nat_le (decimal_value text) 1114111)) [
      | inl reads ↦
          let parts = and_parts (nat_le 1 (length text) && list_all is_ascii_digit text) (nat_le (decimal_value text) 1114111) reads in
          let first = and_parts (nat_le 1 (length text)) (list_all is_ascii_digit text) parts.0 in
          record { some = leb-true 1 (length text) first.0; digits = first.1; value = same_Some (decimal_value text) char (rw reads at read) }
      | inr other ↦ absurd (none-some char (rw other at read))
    ]

numbered : (digits html : List ℕ) (number len : ℕ) → 1 < len + length digits → list_all is_ascii_digit digits ≡ true
    → number_behind number len (digits ++ 59 ∷ html) ≡ Some (fold (λ n d. 10 * n + (d - 48)) number digits, len + length digits + 1)
unfolding number_behind
numbered [] html number len some all =
    let more : (len == 1) ≡ false = ne_eqb len 1 (λ e. omega (arith, e, some)) in
    let same : len + 1 ≡ len + 0 + 1 = omega arith in
    rw more (ap (λ (n : ℕ). Some (number, n)) same)
numbered (digit ∷ digits) html number len some all =
    let both = and_parts (is_ascii_digit digit) (list_all is_ascii_digit digits) all in
    let apart : (digit == 59) ≡ false = grind (arith, nat_tests, both.0) in
    let rest = numbered digits html (10 * number + (digit - 48)) (len + 1) (omega (arith, some)) both.1 in
    let same : len + 1 + length digits + 1 ≡ len + length (digit ∷ digits) + 1 = omega arith in
    rw (apart, both.0) (rest ∙ ap (λ (n : ℕ). Some (fold (λ n d. 10 * n + (d - 48)) (10 * number + (digit - 48)) digits, n)) same)

referenced : (digits html : List ℕ) → reference_at (35 ∷ (digits ++ 59 ∷ html)) ≡ number_behind 0 1 (digits ++ 59 ∷ html)
referenced digits html = refl

again : (byte code : ℕ) (text : List ℕ) (rest : Option (List ℕ)) → eqb byte code ≡ true → rest ≡ Some text → option_map (λ text. code ∷ text) rest ≡ Some (byte ∷ text)
again byte code text rest is same = ap (option_map (λ text. code ∷ text)) same ∙ ap (λ (b : ℕ). Some (b ∷ text)) (sym (eqb-true byte code is))

shown_first : (byte char len : ℕ) (html chars : List ℕ) → shown_at byte html ≡ Some (char, len) → read_behind len html ≡ Some chars
    → read_behind 0 (byte ∷ html) ≡ Some (char ∷ chars)
unfolding read_behind
shown_first byte char len html chars at same =
    ap (λ (found : Option (ℕ × ℕ)). with_first found (λ skip. read_behind skip html)) at ∙ ap (option_map (λ text. char ∷ text)) same

number_read : (char : ℕ) (html chars : List ℕ) → IsShown char → read_behind 0 html ≡ Some chars
    → read_behind 0 ((codes "&#" ++ (decimal char ++ codes ";")) ++ html) ≡ Some (char ∷ chars)
number_read char html chars is same =
    let digits = decimal char in
    let are = digits_of char is.high in
    let whole : (codes "&#" ++ (digits ++ codes ";")) ++ html ≡ 38 ∷ 35 ∷ (digits ++ 59 ∷ html) = ap (λ (l : List ℕ). 38 ∷ 35 ∷ l) (append_assoc digits (59 ∷ []) html) in
    let number = numbered digits html 0 1 (omega (arith, are.some)) are.digits in
    let at : shown_at 38 (35 ∷ (digits ++ 59 ∷ html)) ≡ Some (char, 1 + length digits + 1) =
    referenced digits html ∙ number ∙ ap (λ (n : ℕ). Some (n, 1 + length digits + 1)) are.value in
    let len : 1 + length digits + 1 ≡ length (35 ∷ (digits ++ 59 ∷ [])) = omega (arith, length-append digits (59 ∷ [])) in
    let skips : read_behind (1 + length digits + 1) (35 ∷ (digits ++ 59 ∷ html)) ≡ Some chars =
    ap (λ (n : ℕ). read_behind n (35 ∷ (digits ++ 59 ∷ html))) len
    ∙ ap (λ (l : List ℕ). read_behind (length (35 ∷ (digits ++ 59 ∷ []))) (35 ∷ l)) (sym (append_assoc digits (59 ∷ []) html))
    ∙ passed (35 ∷ (digits ++ 59 ∷ [])) html ∙ same in
    ap (read_behind 0) whole ∙ shown_first 38 char (1 + length digits + 1) (35 ∷ (digits ++ 59 ∷ html)) chars at skips

plain_shown : (char : ℕ) (html : List ℕ) → IsShown char → nat_lt char 128 ≡ true → eqb char 60 ≡ false → eqb char 62 ≡ false → eqb char 38 ≡ false → eqb char 34 ≡ false
    → shown_at char html ≡ Some (char, 0)
plain_shown char html is ascii no_lt no_gt no_amp no_quot =
    let low : nat_lt 31 char ≡ true = lt-ltb 31 char is.low in
    let under : char < 128 = ltb-true char 128 ascii in
    let high : nat_lt char 127 ≡ true = elim (cases_eq char 127) [ inl same ↦ absurd (is.not_delete same) | inr apart ↦ lt-ltb char 127 (omega (arith, under, apart)) ] in
    rw (no_amp, low, high, no_lt, no_gt, no_quot) refl

char_read : (char : ℕ) (html chars : List ℕ) → IsShown char → read_behind 0 html ≡ Some chars → read_behind 0 (written_char char ++ html) ≡ Some (char ∷ chars)
unfolding read_behind written_char
char_read char html chars is same = elim (cases_Bool (eqb char 60)) [
  | inl lt ↦ rw lt (again char 60 chars _ lt same)
  | inr no_lt ↦ elim (cases_Bool (eqb char 62)) [
    | inl gt ↦ rw (no_lt, gt) (again char 62 chars _ gt same)
    | inr no_gt ↦ elim (cases_Bool (eqb char 38)) [
      | inl amp ↦ rw (no_lt, no_gt, amp) (again char 38 chars _ amp same)
      | inr no_amp ↦ elim (cases_Bool (eqb char 34)) [
        | inl quot ↦ rw (no_lt, no_gt, no_amp, quot) (again char 34 chars _ quot same)
        | inr no_quot ↦ elim (cases_Bool (nat_lt char 128)) [
          | inl ascii ↦ rw (no_lt, no_gt, no_amp, no_quot, ascii) (shown_first char char 0 html chars (plain_shown char html is ascii no_lt no_gt no_amp no_quot) same)
          | inr beyond ↦ rw (no_lt, no_gt, no_amp, no_quot, beyond) (number_read char html chars is same)
        ]
      ]
    ]
  ]
]

-- ---- the characters of a text

shown_is : (char : ℕ) → char < 1114112 → IsShown (shown char)
shown_is char small = elim (cases_Bool (nat_lt char 32)) [
  | inl control ↦ let under = ltb-true char 32 control in rw control record { low = omega (arith, under); high = omega (arith, under); not_delete = λ e. omega (arith, e, under) }
  | inr no_control ↦ elim (cases_Bool (char == 127)) [
    | inl delete ↦ rw (no_control, delete) record { low = omega arith; high = omega arith; not_delete = λ e. omega (arith, e) }
    | inr no_delete ↦ elim (cases_Bool (nat_lt 127 char && nat_lt char 160)) [
      | inl later ↦ rw (no_control, no_delete, later) record { low = omega arith; high = omega arith; not_delete = λ e. omega (arith, e) }
      | inr other ↦ rw (no_control, no_delete, other) record {
        low = let over = ltb-false char 32 no_control in omega (arith, over);
        high = small;
        not_delete = λ e. grind (arith, nat_tests, e, no_delete);
      }
    ]
  ]
]

scalar_small : (char : ℕ) → IsScalar char → char < 1114112
scalar_small char scalar = elim (scalar_cases char scalar) [ inl low ↦ omega (arith, low) | inr high ↦ high.1 ]

front_small : (byte : ℕ) (text : List ℕ) → byte < 256 → (front (byte ∷ text)).0 < 1114112
unfolding front
front_small byte text small = by (decoded (byte ∷ text)).char refl
  where
    by : (char : Option ℕ) → (decoded (byte ∷ text)).char ≡ char → (char_or_byte char (decoded (byte ∷ text)).size byte).0 < 1114112
    by (Some char) is = scalar_small char (SpellsChar-decoded (byte ∷ text) char is).scalar
    by None is = omega (arith, small)

abbrev pub AreBytes : List ℕ → Type 0
AreBytes [] = Unit {0}
AreBytes (byte ∷ text) = (byte < 256) × AreBytes text

read : (skip : ℕ) (text : List ℕ) → AreBytes text → read_behind 0 (flat_map written_char (characters_behind skip text)) ≡ Some (characters_behind skip text)
unfolding characters_behind read_behind
read skip [] bytes = refl
read (suc skip) (byte ∷ text) bytes = read skip text bytes.1
read zero (byte ∷ text) bytes =
    char_read (shown (front (byte ∷ text)).0) _ _ (shown_is (front (byte ∷ text)).0 (front_small byte text bytes.0)) (read ((front (byte ∷ text)).1 - 1) text bytes.1)

are_bytes : (text : List ℕ) → ((i : ℕ) → get_or text i 0 < 256) → AreBytes text
are_bytes [] all = tt
are_bytes (byte ∷ text) all = (all 0, are_bytes text (λ i. all (suc i)))

pub reads_back : (text : List ℕ) → ((i : ℕ) → get_or text i 0 < 256) → read_behind 0 (flat_map written_char (characters_behind 0 text)) ≡ Some (characters_behind 0 text)
reads_back text all = read 0 text (are_bytes text all)

-- ---- the loop

behind_is : (skip : ℕ) (text : List ℕ) → characters_behind skip text ≡ characters_behind 0 (drop skip text)
unfolding characters_behind
behind_is zero text = refl
behind_is (suc skip) [] = refl
behind_is (suc skip) (byte ∷ text) = behind_is skip text

-- What is in front, by what is decoded.
pub front_char : (text : List ℕ) (found : Option ℕ) (char size : ℕ) → found ≡ Some char → found ≡ (decoded text).char → size ≡ (decoded text).size → (char, size) ≡ front text
unfolding front
front_char text found char size is char_is size_is = rw (← char_is, is, ← size_is) refl

pub front_byte : (text : List ℕ) (found : Option ℕ) (byte : ℕ) → found ≡ None → found ≡ (decoded text).char → byte ≡ slice_index text 0 → (byte, 1) ≡ front text
unfolding front
front_byte text found byte is char_is byte_is = rw (← char_is, is, byte_is) refl

pub size_some : (text : List ℕ) (size : ℕ) → 1 ≤ length text → size ≡ (decoded text).size → 1 ≤ size
size_some text size some is = let bounds = piece-bounds text (omega (arith, some)) in omega (arith, is, bounds.0)

pub size_within : (text : List ℕ) (size : ℕ) → 1 ≤ length text → size ≡ (decoded text).size → size ≤ length text
size_within text size some is = let bounds = piece-bounds text (omega (arith, some)) in omega (arith, is, bounds.2)

pub ruleset fronts = (front_char, front_byte, size_some, size_within)

-- One character more of a text.
pub one_more : (out next whole rest behind : List ℕ) (char len sign : ℕ) → (char, len) ≡ front rest → 1 ≤ len → len ≤ length rest
    → sign ≡ shown char → next ≡ out ++ written_char sign → behind ≡ drop len rest → out ++ flat_map written_char (characters_behind 0 rest) ≡ whole
    → next ++ flat_map written_char (characters_behind 0 behind) ≡ whole
unfolding characters_behind
one_more out next whole [] behind char len sign is some within sign_is added left same = absurd (omega (arith, some, within))
one_more out next whole (byte ∷ text) behind char zero sign is some within sign_is added left same = absurd (omega (arith, some))
one_more out next whole (byte ∷ text) behind char (suc len) sign is some within sign_is added left same =
    let first : (front (byte ∷ text)).0 ≡ char = sym (ap (λ (f : ℕ × ℕ). f.0) is) in
    let size : (front (byte ∷ text)).1 - 1 ≡ len = ap (λ (f : ℕ × ℕ). f.1 - 1) (sym is) ∙ (let less : suc len - 1 ≡ len = omega arith in less) in
    let rest : characters_behind ((front (byte ∷ text)).1 - 1) text ≡ characters_behind 0 behind =
    ap (λ (n : ℕ). characters_behind n text) size ∙ behind_is len text ∙ ap (characters_behind 0) (sym left) in
    ap (λ (l : List ℕ). l ++ flat_map written_char (characters_behind 0 behind)) (added ∙ ap (λ (s : ℕ). out ++ written_char s) sign_is)
    ∙ append_assoc out (written_char (shown char)) (flat_map written_char (characters_behind 0 behind))
    ∙ ap (λ (c : ℕ). out ++ (written_char (shown c) ++ flat_map written_char (characters_behind 0 behind))) (sym first)
    ∙ ap (λ (l : List ℕ). out ++ (written_char (shown (front (byte ∷ text)).0) ++ flat_map written_char l)) (sym rest) ∙ same

-- And all of them.
pub all_added : (out whole rest : List ℕ) (none : Bool) → none ≡ (length rest == 0) → none ≡ true → out ++ flat_map written_char (characters_behind 0 rest) ≡ whole
    → out ≡ whole
unfolding characters_behind
all_added out whole [] none is ends same = sym (append-nil out) ∙ same
all_added out whole (byte ∷ rest) none is ends same = absurd (omega (arith, eqb-true (length (byte ∷ rest)) 0 (sym is ∙ ends)))
