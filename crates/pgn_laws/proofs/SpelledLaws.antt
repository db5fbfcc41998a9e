-- The layout of tokens on lines spells them one by one, each led by a space, a line feed or nothing.
use Rattle.std.proofs.Common.{◌≡◌, ◌≤◌, ◌+◌, ◌==◌, ◌||◌, ◌&&◌, ℕ, Bool, true, false, cond, List, [], ◌∷◌, ◌++◌, length, map, refl, sym, ap, ◌∙◌, append_assoc, append-nil, arith, length-append, flat_map}
use Rattle.std.proofs.lemmas.Bool.{true≢false}
use Rattle.pgn_read.specs.Bytes.{is_white}
use Rattle.pgn_write.specs.Token.{Token, token_text, closes}
use Rattle.pgn_write.specs.Token as token
use Rattle.pgn_write.specs.Layout.{holds_next, begins_closing, joined, units, has_room, column_after, laid_behind, laid, layout}

-- White bytes alone.
abbrev pub are_white : List ℕ → Bool
are_white [] = true
are_white (byte ∷ gap) = is_white byte && are_white gap

-- What may stand behind any token: white space, or the end of a variation.
abbrev pub stops : List ℕ → Bool
stops [] = true
stops (byte ∷ text) = (byte == 32) || ((byte == 10) || (byte == 41))

-- A token behind white space; what stands behind it does not lengthen it, and is the rest.
pub record IsLed (t : Token) (Rest : List ℕ → Type 0) (text : List ℕ) : Type 0 where
  pub gap : List ℕ
  pub more : List ℕ
  pub is : text ≡ gap ++ (token_text t ++ more)
  pub white : are_white gap ≡ true
  pub stop : holds_next t ≡ false → stops more ≡ true
  pub rest : Rest more

-- The tokens in their order, and then the tail.
abbrev pub Spells : List ℕ → List Token → List ℕ → Type 0
Spells tail [] text = text ≡ tail
Spells tail (t ∷ ts) text = IsLed t (Spells tail ts) text

-- Units, each led by a space or a line feed, and then the tail; and the same with the first one led by nothing.
abbrev AreLaid : List ℕ → List (List Token) → List ℕ → Type 0
AreLaid tail [] text = text ≡ tail
AreLaid tail (unit ∷ units) text =
    (sep : ℕ) × (more : List ℕ) × (is_white sep ≡ true) × (stops (sep ∷ []) ≡ true) × (text ≡ sep ∷ (flat_map token_text unit ++ more)) × AreLaid tail units more

abbrev Begins : List ℕ → List (List Token) → List ℕ → Type 0
Begins tail [] text = text ≡ tail
Begins tail (unit ∷ units) text = (more : List ℕ) × (text ≡ flat_map token_text unit ++ more) × AreLaid tail units more

-- ---- the layout lays units

chosen_space : (c : Bool) (a : List ℕ) (tail : List ℕ) (us : List (List Token)) (u : List Token)
    → AreLaid tail us (a ++ tail) → AreLaid tail (u ∷ us) ((cond c 32 10 ∷ flat_map token_text u ++ a) ++ tail)
chosen_space true a tail us u p = (32, a ++ tail, refl, refl, ap (λ t. 32 ∷ t) (append_assoc (flat_map token_text u) a tail), p)
chosen_space false a tail us u p = (10, a ++ tail, refl, refl, ap (λ t. 10 ∷ t) (append_assoc (flat_map token_text u) a tail), p)

behind_laid : (column : ℕ) (us : List (List Token)) (tail : List ℕ) → AreLaid tail us (laid_behind column (map (flat_map token_text) us) ++ tail)
behind_laid column [] tail = refl
behind_laid column (u ∷ us) tail =
    chosen_space (has_room column (flat_map token_text u)) _ tail us u
    (behind_laid (column_after column (cond (has_room column (flat_map token_text u)) 32 10 ∷ flat_map token_text u)) us tail)

laid_begins : (us : List (List Token)) (tail : List ℕ) → Begins tail us (laid (map (flat_map token_text) us) ++ tail)
laid_begins [] tail = refl
laid_begins (u ∷ us) tail =
    let column = column_after 0 (flat_map token_text u) in
    (laid_behind column (map (flat_map token_text) us) ++ tail, append_assoc (flat_map token_text u) (laid_behind column (map (flat_map token_text) us)) tail, behind_laid column us tail)

-- ---- laid units spell the tokens

add_gap : (t : Token) (Rest : List ℕ → Type 0) (sep : ℕ) (x text : List ℕ) → is_white sep ≡ true → text ≡ sep ∷ x → IsLed t Rest x → IsLed t Rest text
add_gap t Rest sep x text white is led = record {
  gap = sep ∷ led.gap;
  more = led.more;
  is = is ∙ ap (λ l. sep ∷ l) led.is;
  white = rw white led.white;
  stop = led.stop;
  rest = led.rest;
}

first_led : (tail : List ℕ) (t : Token) (ts : List Token) (us : List (List Token)) (more : List ℕ)
    → ((x : List ℕ) → Begins tail us x → Spells tail (t ∷ ts) x) → AreLaid tail us more → Spells tail (t ∷ ts) more
first_led tail t ts [] more so is = so more is
first_led tail t ts (u ∷ us) more so (sep, rest, white, stop, is, laid) =
    add_gap t (Spells tail ts) sep (flat_map token_text u ++ rest) more white is (so (flat_map token_text u ++ rest) (rest, refl, laid))

after_unit : (tail : List ℕ) (ts : List Token) (more : List ℕ)
    → ((x : List ℕ) → Begins tail (units ts) x → Spells tail ts x) → AreLaid tail (units ts) more → Spells tail ts more
after_unit tail [] more so is = so more is
after_unit tail (t ∷ ts) more so is = first_led tail t ts (units (t ∷ ts)) more so is

laid_stops : (tail : List ℕ) (us : List (List Token)) (more : List ℕ) → stops tail ≡ true → AreLaid tail us more → stops more ≡ true
laid_stops tail [] more stop is = ap stops is ∙ stop
laid_stops tail (u ∷ us) more stop (sep, rest, white, ends, is, laid) = ap stops is ∙ ends

-- A unit that begins with a closing bracket begins with a byte that lengthens no token.
closing_joined : (c : Bool) (us rest : List (List Token)) (u : List Token) (more : List ℕ)
    → cond c (joined token.closes us) ((token.closes ∷ []) ∷ us) ≡ u ∷ rest → stops (flat_map token_text u ++ more) ≡ true
closing_joined true [] rest u more is =
    let e : token.closes ∷ [] ≡ u = cc in
    ap (λ v. stops (flat_map token_text v ++ more)) (sym e)
closing_joined true (v ∷ us) rest u more is =
    let e : token.closes ∷ v ≡ u = cc in
    ap (λ w. stops (flat_map token_text w ++ more)) (sym e)
closing_joined false us rest u more is =
    let e : token.closes ∷ [] ≡ u = cc in
    ap (λ v. stops (flat_map token_text v ++ more)) (sym e)

closing_is : (t : Token) (ts : List Token) → begins_closing (t ∷ ts) ≡ true → t ≡ token.closes
closing_is (token.number n side) ts is = absurd (cc)
closing_is (token.move text) ts is = absurd (cc)
closing_is (token.nag n) ts is = absurd (cc)
closing_is (token.comment text) ts is = absurd (cc)
closing_is token.opens ts is = absurd (cc)
closing_is token.closes ts is = refl
closing_is (token.ending outcome) ts is = absurd (cc)

closing_first : (ts : List Token) (u : List Token) (us : List (List Token)) (more : List ℕ) → begins_closing ts ≡ true → units ts ≡ u ∷ us
    → stops (flat_map token_text u ++ more) ≡ true
closing_first [] u us more begins is = absurd (cc)
closing_first (t ∷ ts) u us more begins is =
    closing_joined (begins_closing ts) (units ts) us u more (ap (λ k. units (k ∷ ts)) (sym (closing_is t ts begins)) ∙ is)

alone : (tail : List ℕ) (t : Token) (ts : List Token) (us : List (List Token)) (text : List ℕ) → stops tail ≡ true
    → ((x : List ℕ) → AreLaid tail us x → Spells tail ts x) → Begins tail ((t ∷ []) ∷ us) text → Spells tail (t ∷ ts) text
alone tail t ts us text stop after (more, is, laid) = record {
  gap = [];
  more = more;
  is = is ∙ ap (λ l. l ++ more) (append-nil (token_text t));
  white = refl;
  stop = λ holds. laid_stops tail us more stop laid;
  rest = after more laid;
}

held : (tail : List ℕ) (t : Token) (ts : List Token) (us : List (List Token)) (u : List Token) (text : List ℕ)
    → (holds_next t ≡ false → (more : List ℕ) → stops (flat_map token_text u ++ more) ≡ true)
    → ((x : List ℕ) → Begins tail (u ∷ us) x → Spells tail ts x) → Begins tail ((t ∷ u) ∷ us) text → Spells tail (t ∷ ts) text
held tail t ts us u text closing so (more, is, laid) = record {
  gap = [];
  more = flat_map token_text u ++ more;
  is = is ∙ append_assoc (token_text t) (flat_map token_text u) more;
  white = refl;
  stop = λ holds. closing holds more;
  rest = so (flat_map token_text u ++ more) (more, refl, laid);
}

unit_spells : (tail : List ℕ) (t : Token) (ts : List Token) (text : List ℕ) (c d : Bool) (us : List (List Token))
    → holds_next t ≡ c → begins_closing ts ≡ d → units ts ≡ us → stops tail ≡ true
    → ((x : List ℕ) → Begins tail us x → Spells tail ts x) → ((x : List ℕ) → AreLaid tail us x → Spells tail ts x)
    → Begins tail (cond (c || d) (joined t us) ((t ∷ []) ∷ us)) text → Spells tail (t ∷ ts) text
unit_spells tail t ts text true d [] holds closing are stop so after is = alone tail t ts [] text stop after is
unit_spells tail t ts text true d (u ∷ us) holds closing are stop so after is =
    held tail t ts us u text (λ none. absurd (true≢false (sym holds ∙ none))) so is
unit_spells tail t ts text false true [] holds closing are stop so after is = alone tail t ts [] text stop after is
unit_spells tail t ts text false true (u ∷ us) holds closing are stop so after is =
    held tail t ts us u text (λ none more. closing_first ts u us more closing are) so is
unit_spells tail t ts text false false us holds closing are stop so after is = alone tail t ts us text stop after is

begun_spells : (tail : List ℕ) (ts : List Token) (text : List ℕ) → stops tail ≡ true → Begins tail (units ts) text → Spells tail ts text
begun_spells tail [] text stop is = is
begun_spells tail (t ∷ ts) text stop is =
    unit_spells tail t ts text (holds_next t) (begins_closing ts) (units ts) refl refl refl stop
    (λ x b. begun_spells tail ts x stop b) (λ x b. after_unit tail ts x (λ y h. begun_spells tail ts y stop h) b) is

pub layout_spells : (ts : List Token) (tail : List ℕ) → stops tail ≡ true → Spells tail ts (layout ts ++ tail)
unfolding layout
layout_spells ts tail stop = begun_spells tail ts (laid (map (flat_map token_text) (units ts)) ++ tail) stop (laid_begins (units ts) tail)

-- What is spelled has at least the tail.
pub spelled_long : (tail : List ℕ) (ts : List Token) (text : List ℕ) → Spells tail ts text → length tail ≤ length text
spelled_long tail [] text is = omega (arith, ap length is)
spelled_long tail (t ∷ ts) text led =
    let rest = spelled_long tail ts led.more led.rest in
    let whole = ap length led.is ∙ length-append led.gap (token_text t ++ led.more) in
    omega (arith, rest, whole, length-append (token_text t) led.more)
