-- A token and a few bytes behind it tell the token, whatever comes then; and each token but the end of the text has a byte.
use Rattle.std.proofs.Common.{◌≡◌, ◌⊎◌, inl, inr, ◌≤◌, ◌<◌, ◌+◌, ◌==◌, ◌||◌, ℕ, suc, Bool, true, false, not, cond, List, [], ◌∷◌, ◌++◌, length, drop, option_map, codes, refl, sym, ap, subst, arith, length-append, length-drop, take, ◌&&◌}
use Rattle.std.specs.Str.Lines.{strip_carriage_return}
use Rattle.std.proofs.lemmas.Bool.{eqb-true}
use Rattle.std.proofs.lemmas.List.{drop-append-le}
use Rattle.std.specs.Option.{unwrap_or}
use Rattle.std.specs.Char.{is_ascii_alphabetic, is_ascii_digit}
use Rattle.game_tree.specs.Decimal.{decimal_read}
use Rattle.game_tree.specs.TagName.{is_tag_byte}
use Rattle.pgn_read.specs.Bytes.{is_white, is_move_byte, is_glyph, front, behind, begins}
use Rattle.pgn_read.specs.Token.{Token, Lexed, lexed_as}
use Rattle.pgn_read.specs.Token as token
use Rattle.pgn_read.specs.TagText.{escapes, closing, quoting, naming, tag_from, value_len}
use Rattle.pgn_read.specs.Lexing.{comment_of, braced, brace_from, suffix_of, run_from, number_from, digit_from, by_kind, lexed}

-- ---- parts are no longer than the whole

cond_short : (c : Bool) (n : ℕ) (x y : List ℕ) → length x ≤ n → length y ≤ n → length (cond c x y) ≤ n
cond_short true n x y p q = p
cond_short false n x y p q = q

behind_short : (test : ℕ → Bool) (w : List ℕ) → length (behind test w) ≤ length w
behind_short test [] = omega arith
behind_short test (b ∷ w) = cond_short (test b) (suc (length w)) (behind test w) (b ∷ w) (omega (arith, behind_short test w)) (omega arith)

value_short : (escaped : Bool) (w : List ℕ) → length (drop (value_len escaped w) w) ≤ length w
value_short escaped w = omega (arith, length-drop (value_len escaped w) w)

rest_short : (c : Bool) (n : ℕ) (x y : Lexed) → length x.rest ≤ n → length y.rest ≤ n → length (cond c x y).rest ≤ n
rest_short true n x y p q = p
rest_short false n x y p q = q

closing_short : (name raw x : List ℕ) → length (closing name raw x).rest ≤ length x
closing_short name raw [] = omega arith
closing_short name raw (b ∷ x) = rest_short (b == 93) (suc (length x)) _ _ (omega arith) (omega arith)

-- From the closing quotation mark on, and from the name on.
abbrev unquoting : List ℕ → List ℕ → List ℕ → Lexed
unquoting name raw x = closing name raw (behind is_white (drop 1 x))

abbrev named : List ℕ → Lexed
named x = naming (front is_tag_byte x) (behind is_tag_byte x)

unquoting_short : (name raw x : List ℕ) → length (unquoting name raw x).rest ≤ length x
unquoting_short name raw [] = omega arith
unquoting_short name raw (b ∷ x) = omega (arith, closing_short name raw (behind is_white x), behind_short is_white x)

quoting_short : (name x : List ℕ) → length (quoting name x).rest ≤ length x
quoting_short name [] = omega arith
quoting_short name (b ∷ x) =
    rest_short (b == 34) (suc (length x)) _ _
    (omega (arith, unquoting_short name (take (value_len false x) x) (drop (value_len false x) x), value_short false x)) (omega arith)

naming_short : (name x : List ℕ) → length (naming name x).rest ≤ length x
naming_short [] x = omega arith
naming_short (b ∷ name) x = omega (arith, quoting_short (b ∷ name) (behind is_white x), behind_short is_white x)

named_short : (x : List ℕ) → length (named x).rest ≤ length x
named_short x = omega (arith, naming_short (front is_tag_byte x) (behind is_tag_byte x), behind_short is_tag_byte x)

tag_short : (x : List ℕ) → length (tag_from x).rest ≤ length x
tag_short x = omega (arith, named_short (behind is_white x), behind_short is_white x)

braced_short : (text x : List ℕ) → length (braced text x).rest ≤ length x
braced_short text [] = omega arith
braced_short text (b ∷ x) = omega arith

-- ---- a run in a text and in a longer one

-- The same run with more behind it, or a run to the end of the text.
abbrev pub Splits : List ℕ → List ℕ → List ℕ → List ℕ → List ℕ → Type 0
Splits more f g r s = ((g ≡ f) × (s ≡ r ++ more)) ⊎ ((r ≡ []) × (length s ≤ length more))

run_byte : (more : List ℕ) (c : Bool) (b : ℕ) (w f g r s : List ℕ) → Splits more f g r s
    → Splits more (cond c (b ∷ f) []) (cond c (b ∷ g) []) (cond c r (b ∷ w)) (cond c s (b ∷ (w ++ more)))
run_byte more true b w f g r s (inl same) = inl (ap (λ l. b ∷ l) same.0, same.1)
run_byte more true b w f g r s (inr all) = inr all
run_byte more false b w f g r s splits = inl (refl, refl)

run_splits : (test : ℕ → Bool) (w more : List ℕ) → Splits more (front test w) (front test (w ++ more)) (behind test w) (behind test (w ++ more))
run_splits test [] more = inr (refl, behind_short test more)
run_splits test (b ∷ w) more = run_byte more (test b) b w _ _ _ _ (run_splits test w more)

value_byte : (more : List ℕ) (c : Bool) (b n m : ℕ) (w : List ℕ) → Splits more (take n w) (take m (w ++ more)) (drop n w) (drop m (w ++ more))
    → Splits more (take (cond c 0 (suc n)) (b ∷ w)) (take (cond c 0 (suc m)) (b ∷ (w ++ more)))
    (drop (cond c 0 (suc n)) (b ∷ w)) (drop (cond c 0 (suc m)) (b ∷ (w ++ more)))
value_byte more true b n m w splits = inl (refl, refl)
value_byte more false b n m w (inl same) = inl (ap (λ l. b ∷ l) same.0, same.1)
value_byte more false b n m w (inr all) = inr all

value_splits : (escaped : Bool) (w more : List ℕ)
    → Splits more (take (value_len escaped w) w) (take (value_len escaped (w ++ more)) (w ++ more))
    (drop (value_len escaped w) w) (drop (value_len escaped (w ++ more)) (w ++ more))
value_splits escaped [] more = inr (refl, value_short escaped more)
value_splits escaped (b ∷ w) more =
    value_byte more (not escaped && (b == 34)) b (value_len (escapes escaped b) w) (value_len (escapes escaped b) (w ++ more)) w
    (value_splits (escapes escaped b) w more)

-- ---- a token in a text and in a longer one

-- The same token with more behind it, or two tokens that end near the ends of their texts.
abbrev pub Goes : List ℕ → Lexed → Lexed → Type 0
Goes more a b = (b ≡ lexed_as a.token (a.rest ++ more)) ⊎ ((length a.rest < 8) × (length b.rest < 8 + length more))

both : (more : List ℕ) (c : Bool) (a b p q : Lexed) → Goes more a b → Goes more p q → Goes more (cond c a p) (cond c b q)
both more true a b p q g h = g
both more false a b p q g h = h

-- Behind a run, where what comes then goes on so and is no longer.
after_run : (more : List ℕ) (k : List ℕ → List ℕ → Lexed) → ((f x : List ℕ) → Goes more (k f x) (k f (x ++ more)))
    → ((f x : List ℕ) → length (k f x).rest ≤ length x) → (f g r s : List ℕ) → Splits more f g r s → Goes more (k f r) (k g s)
after_run more k goes short f g r s (inl same) =
    subst (λ l. Goes more (k f r) (k l s)) (sym same.0) (subst (λ l. Goes more (k f r) (k f l)) (sym same.1) (goes f r))
after_run more k goes short f g r s (inr all) =
    let none : length r ≡ 0 = ap length all.0 in
    inr (omega (arith, short f r, none), omega (arith, short g s, all.1))

closing_goes : (name raw x more : List ℕ) → Goes more (closing name raw x) (closing name raw (x ++ more))
closing_goes name raw [] more = inr (omega arith, omega (arith, closing_short name raw more))
closing_goes name raw (b ∷ x) more = both more (b == 93) _ _ _ _ (inl refl) (inl refl)

unquoting_goes : (name raw x more : List ℕ) → Goes more (unquoting name raw x) (unquoting name raw (x ++ more))
unquoting_goes name raw [] more = inr (omega arith, omega (arith, unquoting_short name raw more))
unquoting_goes name raw (b ∷ x) more =
    after_run more (λ f y. closing name raw y) (λ f y. closing_goes name raw y more) (λ f y. closing_short name raw y) _ _ _ _ (run_splits is_white x more)

quoting_goes : (name x more : List ℕ) → Goes more (quoting name x) (quoting name (x ++ more))
quoting_goes name [] more = inr (omega arith, omega (arith, quoting_short name more))
quoting_goes name (b ∷ x) more =
    both more (b == 34) _ _ _ _
    (after_run more (λ f y. unquoting name f y) (λ f y. unquoting_goes name f y more) (λ f y. unquoting_short name f y) _ _ _ _ (value_splits false x more))
    (inl refl)

naming_goes : (name x more : List ℕ) → Goes more (naming name x) (naming name (x ++ more))
naming_goes [] x more = inl refl
naming_goes (b ∷ name) x more =
    after_run more (λ f y. quoting (b ∷ name) y) (λ f y. quoting_goes (b ∷ name) y more) (λ f y. quoting_short (b ∷ name) y) _ _ _ _ (run_splits is_white x more)

named_goes : (x more : List ℕ) → Goes more (named x) (named (x ++ more))
named_goes x more = after_run more (λ f y. naming f y) (λ f y. naming_goes f y more) (λ f y. naming_short f y) _ _ _ _ (run_splits is_tag_byte x more)

tag_goes : (x more : List ℕ) → Goes more (tag_from x) (tag_from (x ++ more))
tag_goes x more = after_run more (λ f y. named y) (λ f y. named_goes y more) (λ f y. named_short y) _ _ _ _ (run_splits is_white x more)

braced_goes : (text x more : List ℕ) → Goes more (braced text x) (braced text (x ++ more))
braced_goes text [] more = inr (omega arith, omega (arith, braced_short text more))
braced_goes text (b ∷ x) more = inl refl

-- A run alone, and what it makes.
run_goes : (test : ℕ → Bool) (make : List ℕ → Token) (x more : List ℕ)
    → Goes more (lexed_as (make (front test x)) (behind test x)) (lexed_as (make (front test (x ++ more))) (behind test (x ++ more)))
run_goes test make x more =
    after_run more (λ f y. lexed_as (make f) y) (λ f y. inl refl) (λ f y. omega arith) _ _ _ _ (run_splits test x more)

brace_goes : (x more : List ℕ) → Goes more (brace_from x) (brace_from (x ++ more))
brace_goes x more =
    after_run more (λ f y. braced f y) (λ f y. braced_goes f y more) (λ f y. braced_short f y) _ _ _ _ (run_splits (λ byte. not (byte == 125)) x more)

number_goes : (x more : List ℕ) → Goes more (number_from x) (number_from (x ++ more))
number_goes x more =
    after_run more (λ f y. lexed_as token.number (behind (λ byte. byte == 46) y)) (λ f y. run_goes (λ byte. byte == 46) (λ g. token.number) y more) (λ f y. behind_short (λ byte. byte == 46) y) _ _ _ _
    (run_splits is_ascii_digit x more)

-- ---- what begins with a digit

begins_more : (form w more : List ℕ) → length form ≤ length w → begins form (w ++ more) ≡ begins form w
begins_more [] w more fits = refl
begins_more (first ∷ form) [] more fits = absurd (omega (arith, fits))
begins_more (first ∷ form) (b ∷ w) more fits = rw (begins_more form w more (omega (arith, fits))) refl

move_short : (x : List ℕ) → length (run_from is_move_byte token.move x).rest ≤ length x
move_short x = behind_short is_move_byte x

number_short : (x : List ℕ) → length (number_from x).rest ≤ length x
number_short x = omega (arith, behind_short (λ byte. byte == 46) (behind is_ascii_digit x), behind_short is_ascii_digit x)

drop_short : (n : ℕ) (x : List ℕ) → length (drop n x) ≤ length x
drop_short n x = omega (arith, length-drop n x)

digit_short : (x : List ℕ) → length (digit_from x).rest ≤ length x
unfolding digit_from
digit_short x =
    rest_short (begins (codes "1-0") x) (length x) _ _ (drop_short 3 x)
    (rest_short (begins (codes "0-1") x) (length x) _ _ (drop_short 3 x)
    (rest_short (begins (codes "1/2-1/2") x) (length x) _ _ (drop_short 7 x)
    (rest_short (begins (codes "1/2") x) (length x) _ _ (drop_short 3 x)
    (rest_short (begins (codes "0-0") x) (length x) _ _ (move_short x) (number_short x)))))

ending_goes : (t : Token) (n : ℕ) (x more : List ℕ) → n ≤ length x → Goes more (lexed_as t (drop n x)) (lexed_as t (drop n (x ++ more)))
ending_goes t n x more fits = inl (ap (lexed_as t) (drop-append-le n x more fits))

digit_goes_long : (x more : List ℕ) → 7 ≤ length x → Goes more (digit_from x) (digit_from (x ++ more))
unfolding digit_from
digit_goes_long x more fits =
    rw (begins_more (codes "1-0") x more (omega (arith, fits)))
    rw (begins_more (codes "0-1") x more (omega (arith, fits)))
    rw (begins_more (codes "1/2-1/2") x more (omega (arith, fits)))
    rw (begins_more (codes "1/2") x more (omega (arith, fits)))
    rw (begins_more (codes "0-0") x more (omega (arith, fits)))
    (both more (begins (codes "1-0") x) _ _ _ _ (ending_goes _ 3 x more (omega (arith, fits)))
    (both more (begins (codes "0-1") x) _ _ _ _ (ending_goes _ 3 x more (omega (arith, fits)))
    (both more (begins (codes "1/2-1/2") x) _ _ _ _ (ending_goes _ 7 x more (omega (arith, fits)))
    (both more (begins (codes "1/2") x) _ _ _ _ (ending_goes _ 3 x more (omega (arith, fits)))
    (both more (begins (codes "0-0") x) _ _ _ _ (run_goes is_move_byte (λ f. token.move f) x more) (number_goes x more))))))

either_length : (x : List ℕ) → (length x < 8) ⊎ (7 ≤ length x)
either_length x = search arith

digit_goes : (x more : List ℕ) → Goes more (digit_from x) (digit_from (x ++ more))
digit_goes x more = elim (either_length x) [
  | inl short ↦
      let n : length (x ++ more) ≡ length x + length more = length-append x more in
      inr (omega (arith, digit_short x, short), omega (arith, digit_short (x ++ more), n, short))
  | inr long ↦ digit_goes_long x more long
]

-- ---- each token

kind_goes : (b : ℕ) (x more : List ℕ) → Goes more (by_kind b (b ∷ x) x) (by_kind b (b ∷ (x ++ more)) (x ++ more))
kind_goes b x more =
    both more (is_glyph b) _ _ _ _ (run_goes is_glyph suffix_of (b ∷ x) more)
    (both more (is_ascii_digit b) _ _ _ _ (digit_goes (b ∷ x) more)
    (both more (is_move_byte b) _ _ _ _ (run_goes is_move_byte (λ f. token.move f) (b ∷ x) more) (inl refl)))

pub token_goes : (b : ℕ) (x more : List ℕ) → Goes more (lexed (b ∷ x)) (lexed (b ∷ (x ++ more)))
unfolding lexed
token_goes b x more =
    both more (b == 91) _ _ _ _ (tag_goes x more)
    (both more (b == 123) _ _ _ _ (brace_goes x more)
    (both more (b == 59) _ _ _ _ (run_goes (λ byte. not (byte == 10)) (λ f. comment_of (strip_carriage_return f)) x more)
    (both more (b == 36) _ _ _ _ (run_goes is_ascii_digit (λ f. unwrap_or (option_map token.nag (decimal_read 255 f)) token.bad) x more)
    (both more (b == 40) _ _ _ _ (inl refl)
    (both more (b == 41) _ _ _ _ (inl refl)
    (both more (b == 42) _ _ _ _ (inl refl)
    (both more (b == 46) _ _ _ _ (number_goes (b ∷ x) more) (kind_goes b x more))))))))

-- ---- each token has a byte

run_shorter : (test : ℕ → Bool) (b : ℕ) (x : List ℕ) → test b ≡ true → length (behind test (b ∷ x)) ≤ length x
run_shorter test b x passes = rw passes (behind_short test x)

-- Where the test matters for the first.
rest_short_if : (c : Bool) (n : ℕ) (x y : Lexed) → (c ≡ true → length x.rest ≤ n) → length y.rest ≤ n → length (cond c x y).rest ≤ n
rest_short_if true n x y p q = p refl
rest_short_if false n x y p q = q

digit_moves : (letter digit : Bool) (b : ℕ) → digit ≡ true → (letter || digit || (b == 43) || (b == 35) || (b == 61) || (b == 45) || (b == 58)) ≡ true
digit_moves true digit b is = refl
digit_moves false digit b is = rw is refl

number_shorter : (b : ℕ) (x : List ℕ) → is_ascii_digit b ≡ true → length (number_from (b ∷ x)).rest ≤ length x
number_shorter b x digit = omega (arith, behind_short (λ byte. byte == 46) (behind is_ascii_digit (b ∷ x)), run_shorter is_ascii_digit b x digit)

dots_shorter : (b : ℕ) (x : List ℕ) → (b == 46) ≡ true → length (number_from (b ∷ x)).rest ≤ length x
dots_shorter b x dot = subst (λ n. length (number_from (n ∷ x)).rest ≤ length x) (sym (eqb-true b 46 dot)) (behind_short (λ byte. byte == 46) x)

drop_shorter : (n b : ℕ) (x : List ℕ) → 1 ≤ n → length (drop n (b ∷ x)) ≤ length x
drop_shorter n b x some = omega (arith, length-drop n (b ∷ x), some)

digit_shorter : (b : ℕ) (x : List ℕ) → is_ascii_digit b ≡ true → length (digit_from (b ∷ x)).rest ≤ length x
unfolding digit_from
digit_shorter b x digit =
    rest_short (begins (codes "1-0") (b ∷ x)) (length x) _ _ (drop_shorter 3 b x (omega arith))
    (rest_short (begins (codes "0-1") (b ∷ x)) (length x) _ _ (drop_shorter 3 b x (omega arith))
    (rest_short (begins (codes "1/2-1/2") (b ∷ x)) (length x) _ _ (drop_shorter 7 b x (omega arith))
    (rest_short (begins (codes "1/2") (b ∷ x)) (length x) _ _ (drop_shorter 3 b x (omega arith))
    (rest_short (begins (codes "0-0") (b ∷ x)) (length x) _ _
    (run_shorter is_move_byte b x (digit_moves (is_ascii_alphabetic b) (is_ascii_digit b) b digit)) (number_shorter b x digit)))))

kind_shorter : (b : ℕ) (x : List ℕ) → length (by_kind b (b ∷ x) x).rest ≤ length x
kind_shorter b x =
    rest_short_if (is_glyph b) (length x) _ _ (λ glyph. run_shorter is_glyph b x glyph)
    (rest_short_if (is_ascii_digit b) (length x) _ _ (λ digit. digit_shorter b x digit)
    (rest_short_if (is_move_byte b) (length x) _ _ (λ moves. run_shorter is_move_byte b x moves) (omega arith)))

brace_short : (x : List ℕ) → length (brace_from x).rest ≤ length x
brace_short x =
    omega (arith, braced_short (front (λ byte. not (byte == 125)) x) (behind (λ byte. not (byte == 125)) x), behind_short (λ byte. not (byte == 125)) x)

pub token_shorter : (b : ℕ) (x : List ℕ) → length (lexed (b ∷ x)).rest ≤ length x
unfolding lexed
token_shorter b x =
    rest_short (b == 91) (length x) _ _ (tag_short x)
    (rest_short (b == 123) (length x) _ _ (brace_short x)
    (rest_short (b == 59) (length x) _ _ (behind_short (λ byte. not (byte == 10)) x)
    (rest_short (b == 36) (length x) _ _ (behind_short is_ascii_digit x)
    (rest_short (b == 40) (length x) _ _ (omega arith)
    (rest_short (b == 41) (length x) _ _ (omega arith)
    (rest_short (b == 42) (length x) _ _ (omega arith)
    (rest_short_if (b == 46) (length x) _ _ (λ dot. dots_shorter b x dot) (kind_shorter b x))))))))
