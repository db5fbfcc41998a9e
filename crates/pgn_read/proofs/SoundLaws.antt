-- What every token keeps: the bytes of a tag's name are those of such names, and no text has a zero byte.
use Rattle.std.proofs.Common.{◌≡◌, ◌≢◌, ◌≤◌, ◌==◌, ◌||◌, ℕ, Bool, true, false, not, cond, IsTrue, List, [], ◌∷◌, ◌++◌, length, drop, option_map, codes, All, Option, Some, None, inl, inr, refl, arith, take}
use Rattle.std.specs.Str.Lines.{strip_carriage_return}
use Rattle.std.proofs.lemmas.Bool.{cases_Bool, eqb-false}
use Rattle.std.proofs.lemmas.List.Elements.{All-from_recursion}
use Rattle.std.specs.List.{AllByRecursion, position_from}
use Rattle.std.specs.Str.{bytes_eq}
use Rattle.std.specs.Option.{unwrap_or}
use Rattle.std.specs.Char.{is_ascii_digit}
use Rattle.game_tree.specs.Decimal.{decimal_read}
use Rattle.game_tree.specs.TagName.{is_tag_byte, IsTagByte}
use Rattle.pgn_read.specs.Bytes.{is_white, is_move_byte, is_glyph, has_zero, front, behind, begins}
use Rattle.pgn_read.specs.Token.{Token, Lexed}
use Rattle.pgn_read.specs.Token as token
use Rattle.pgn_read.specs.TagText.{escapes, meant_by, unescaped_from, closing, quoting, naming, tag_from, value_len}
use Rattle.pgn_read.specs.Lexing.{comment_of, braced, suffix_of, digit_from, by_kind, lexed, suffixes}
use Rattle.pgn_read.specs.Said.{IsSound}

sound_if : (c : Bool) (x y : Lexed) → IsSound x.token → IsSound y.token → IsSound (cond c x y).token
sound_if true x y p q = p
sound_if false x y p q = q

token_if : (c : Bool) (x y : Token) → IsSound x → IsSound y → IsSound (cond c x y)
token_if true x y p q = p
token_if false x y p q = q

-- ---- zero bytes

neither : (a b : Bool) → (a || b) ≡ false → (a ≡ false) × (b ≡ false)
neither true b none = cc
neither false b none = (refl, none)

zero_free : (w : List ℕ) → has_zero w ≡ false → AllByRecursion (λ byte. byte ≢ 0) w
zero_free [] none = tt
zero_free (b ∷ w) none = let both = neither (b == 0) (has_zero w) none in (eqb-false b 0 both.0, zero_free w both.1)

joined_free : (v w : List ℕ) → AllByRecursion (λ byte. byte ≢ 0) v → AllByRecursion (λ byte. byte ≢ 0) w → AllByRecursion (λ byte. byte ≢ 0) (v ++ w)
joined_free [] w p q = q
joined_free (b ∷ v) w p q = (p.0, joined_free v w p.1 q)

backslash_some : ◌≢◌ {A = ℕ} 92 0
backslash_some is = omega (arith, is)

escaped_free : (c : Bool) (b : ℕ) → b ≢ 0 → AllByRecursion (λ byte. byte ≢ 0) (cond c (b ∷ []) (92 ∷ b ∷ []))
escaped_free true b some = (some, tt)
escaped_free false b some = (backslash_some, (some, tt))

plain_free : (c : Bool) (b : ℕ) → b ≢ 0 → AllByRecursion (λ byte. byte ≢ 0) (cond c [] (b ∷ []))
plain_free true b some = tt
plain_free false b some = (some, tt)

meant_free : (escaped : Bool) (b : ℕ) → b ≢ 0 → AllByRecursion (λ byte. byte ≢ 0) (meant_by escaped b)
meant_free true b some = escaped_free ((b == 34) || (b == 92)) b some
meant_free false b some = plain_free (b == 92) b some

unescaped_free : (escaped : Bool) (w : List ℕ) → AllByRecursion (λ byte. byte ≢ 0) w → AllByRecursion (λ byte. byte ≢ 0) (unescaped_from escaped w)
unescaped_free true [] free = (backslash_some, tt)
unescaped_free false [] free = tt
unescaped_free true (b ∷ w) free = joined_free (meant_by true b) (unescaped_from (escapes true b) w) (meant_free true b free.0) (unescaped_free (escapes true b) w free.1)
unescaped_free false (b ∷ w) free = joined_free (meant_by false b) (unescaped_from (escapes false b) w) (meant_free false b free.0) (unescaped_free (escapes false b) w free.1)

comment_sound : (text : List ℕ) → IsSound (comment_of text)
comment_sound text = elim (cases_Bool (has_zero text)) [
  | inl some ↦ rw some tt
  | inr none ↦ rw none (All-from_recursion (λ byte. byte ≢ 0) text (zero_free text none))
]

-- ---- tags

each_if : (test : ℕ → Bool) (c : Bool) (b : ℕ) (f : List ℕ) → test b ≡ c → AllByRecursion (λ byte. IsTrue (test byte)) f
    → AllByRecursion (λ byte. IsTrue (test byte)) (cond c (b ∷ f) [])
each_if test true b f is each = (is, each)
each_if test false b f is each = tt

front_each : (test : ℕ → Bool) (w : List ℕ) → AllByRecursion (λ byte. IsTrue (test byte)) (front test w)
front_each test [] = tt
front_each test (b ∷ w) = each_if test (test b) b (front test w) refl (front_each test w)

pair_sound : (name raw : List ℕ) → 1 ≤ length name → All IsTagByte name → IsSound (cond (has_zero raw) token.bad_tag (token.tag name (unescaped_from false raw)))
pair_sound name raw some each = elim (cases_Bool (has_zero raw)) [
  | inl zero ↦ rw zero tt
  | inr none ↦ rw none (some, (each, All-from_recursion (λ byte. byte ≢ 0) (unescaped_from false raw) (unescaped_free false raw (zero_free raw none))))
]

closing_sound : (name raw x : List ℕ) → 1 ≤ length name → All IsTagByte name → IsSound (closing name raw x).token
closing_sound name raw [] some each = tt
closing_sound name raw (b ∷ x) some each = sound_if (b == 93) _ _ (pair_sound name raw some each) tt

quoting_sound : (name x : List ℕ) → 1 ≤ length name → All IsTagByte name → IsSound (quoting name x).token
quoting_sound name [] some each = tt
quoting_sound name (b ∷ x) some each = sound_if (b == 34) _ _ (closing_sound name (take (value_len false x) x) (behind is_white (drop 1 (drop (value_len false x) x))) some each) tt

naming_sound : (name x : List ℕ) → All IsTagByte name → IsSound (naming name x).token
naming_sound [] x each = tt
naming_sound (b ∷ name) x each = quoting_sound (b ∷ name) (behind is_white x) (omega arith) each

tag_sound : (x : List ℕ) → IsSound (tag_from x).token
tag_sound x =
    let text = behind is_white x in
    naming_sound (front is_tag_byte text) (behind is_tag_byte text) (All-from_recursion IsTagByte (front is_tag_byte text) (front_each is_tag_byte text))

-- ---- the others

brace_sound : (text x : List ℕ) → IsSound (braced text x).token
brace_sound text [] = tt
brace_sound text (b ∷ x) = comment_sound text

nag_sound : (n : Option ℕ) → IsSound (unwrap_or (option_map token.nag n) token.bad)
nag_sound None = tt
nag_sound (Some n) = tt

suffix_sound : (glyphs : List ℕ) → IsSound (suffix_of glyphs)
unfolding suffix_of
suffix_sound glyphs = nag_sound (position_from (bytes_eq glyphs) 1 suffixes)

digit_sound : (x : List ℕ) → IsSound (digit_from x).token
unfolding digit_from
digit_sound x =
    sound_if (begins (codes "1-0") x) _ _ tt
    (sound_if (begins (codes "0-1") x) _ _ tt
    (sound_if (begins (codes "1/2-1/2") x) _ _ tt
    (sound_if (begins (codes "1/2") x) _ _ tt
    (sound_if (begins (codes "0-0") x) _ _ tt tt))))

kind_sound : (b : ℕ) (x y : List ℕ) → IsSound (by_kind b x y).token
kind_sound b x y =
    sound_if (is_glyph b) _ _ (suffix_sound (front is_glyph x))
    (sound_if (is_ascii_digit b) _ _ (digit_sound x) (sound_if (is_move_byte b) _ _ tt tt))

pub token_sound : (w : List ℕ) → IsSound (lexed w).token
unfolding lexed
token_sound [] = tt
token_sound (b ∷ x) =
    sound_if (b == 91) _ _ (tag_sound x)
    (sound_if (b == 123) _ _ (brace_sound (front (λ byte. not (byte == 125)) x) (behind (λ byte. not (byte == 125)) x))
    (sound_if (b == 59) _ _ (comment_sound (strip_carriage_return (front (λ byte. not (byte == 10)) x)))
    (sound_if (b == 36) _ _ (nag_sound (decimal_read 255 (front is_ascii_digit x)))
    (sound_if (b == 40) _ _ tt
    (sound_if (b == 41) _ _ tt
    (sound_if (b == 42) _ _ tt
    (sound_if (b == 46) _ _ tt (kind_sound b (b ∷ x) x))))))))
