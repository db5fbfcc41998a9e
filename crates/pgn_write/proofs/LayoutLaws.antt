-- What the tokens write one by one is their layout.
use Rattle.std.proofs.Common.{◌≡◌, ℕ, ◌+◌, ◌≤◌, List, [], ◌∷◌, ◌++◌, Option, Some, None, Bool, true, false, length, refl, sym, ap, subst, ◌∙◌, append_assoc, append-nil, arith, flat_map}
use Rattle.std.specs.Prelude.{◌||◌, if◌then◌else◌, map}
use Rattle.cell_core.specs.declared.man.Colour.{Colour}
use Rattle.cell_core.specs.declared.man.Colour.TheVariants.{White, Black}
use Rattle.pgn_write.specs.Token.{Token, token_text}
use Rattle.pgn_write.specs.Token as token
unfoldable use Rattle.pgn_write.specs.Layout.{layout}
use Rattle.pgn_write.specs.Layout.{holds_next, begins_closing, joined, units, column_after, has_room, laid_behind, laid}
use Rattle.pgn_write.specs.Writing.{Writing, begun, lead_in, begins_at, flushed, grown, put, put_all, is_closing, size, IsLow}
use Rattle.pgn_write.proofs.WritingLaws.{put_all-append}

-- The texts of units with a text before the first of them.
abbrev prefixed : List ℕ → List (List ℕ) → List (List ℕ)
prefixed text [] = text ∷ []
prefixed text (unit ∷ units) = (text ++ unit) ∷ units

abbrev texts : List Token → List (List ℕ)
texts tokens = map (flat_map token_text) (units tokens)

-- The units of a text that is kept back and of tokens behind it, which go on with it or not.
abbrev pending : List ℕ → Bool → List Token → List (List ℕ)
pending text holds [] = text ∷ []
pending text holds (token ∷ tokens) =
    if holds || is_closing token then prefixed text (texts (token ∷ tokens)) else text ∷ texts (token ∷ tokens)

alone : (token : Token) → flat_map token_text (token ∷ []) ≡ token_text token
alone token = append-nil (token_text token)

texts-joined : (token : Token) (us : List (List Token)) → map (flat_map token_text) (joined token us) ≡ prefixed (token_text token) (map (flat_map token_text) us)
texts-joined token [] = ap (λ (text : List ℕ). text ∷ []) (alone token)
texts-joined token (unit ∷ us) = refl

texts-choice : (b : Bool) (token : Token) (us : List (List Token))
    → map (flat_map token_text) (if b then joined token us else (token ∷ []) ∷ us)
    ≡ (if b then prefixed (token_text token) (map (flat_map token_text) us) else token_text token ∷ map (flat_map token_text) us)
texts-choice true token us = texts-joined token us
texts-choice false token us = ap (λ (text : List ℕ). text ∷ map (flat_map token_text) us) (alone token)

last-choice : (b : Bool) (token : Token) → map (flat_map token_text) (if b then joined token [] else (token ∷ []) ∷ []) ≡ token_text token ∷ []
last-choice true token = ap (λ (text : List ℕ). text ∷ []) (alone token)
last-choice false token = ap (λ (text : List ℕ). text ∷ []) (alone token)

closing-next : (next : Token) (tokens : List Token) → begins_closing (next ∷ tokens) ≡ is_closing next
closing-next (token.number n side) tokens = refl
closing-next (token.move text) tokens = refl
closing-next (token.nag n) tokens = refl
closing-next (token.comment text) tokens = refl
closing-next token.opens tokens = refl
closing-next token.closes tokens = refl
closing-next (token.ending outcome) tokens = refl

texts-pending : (token : Token) (tokens : List Token) → texts (token ∷ tokens) ≡ pending (token_text token) (holds_next token) tokens
texts-pending token [] = last-choice (holds_next token || false) token
texts-pending token (next ∷ tokens) = rw (closing-next next tokens) (texts-choice (holds_next token || is_closing next) token (units (next ∷ tokens)))

prefixed-twice : (first second : List ℕ) (us : List (List ℕ)) → prefixed first (prefixed second us) ≡ prefixed (first ++ second) us
prefixed-twice first second [] = refl
prefixed-twice first second (unit ∷ us) = ap (λ (text : List ℕ). text ∷ us) (sym (append_assoc first second unit))

prefixed-choice : (b : Bool) (first second : List ℕ) (us : List (List ℕ))
    → prefixed first (if b then prefixed second us else second ∷ us) ≡ (if b then prefixed (first ++ second) us else (first ++ second) ∷ us)
prefixed-choice true first second us = prefixed-twice first second us
prefixed-choice false first second us = refl

prefixed-pending : (first second : List ℕ) (holds : Bool) (tokens : List Token) → prefixed first (pending second holds tokens) ≡ pending (first ++ second) holds tokens
prefixed-pending first second holds [] = refl
prefixed-pending first second holds (token ∷ tokens) = prefixed-choice (holds || is_closing token) first second (texts (token ∷ tokens))

-- Units behind what is written: behind a line of so many bytes, or the first ones.
abbrev behind : Option ℕ → List (List ℕ) → List ℕ
behind None us = laid us
behind (Some column) us = laid_behind column us

room-choice : (b : Bool) (column : ℕ) (unit : List ℕ) (us : List (List ℕ))
    → (if b then 32 else 10) ∷ unit ++ laid_behind (column_after column ((if b then 32 else 10) ∷ unit)) us
    ≡ (if b then 32 else 10) ∷ unit ++ laid_behind (column_after (if b then column + 1 else 0) unit) us
room-choice true column unit us = refl
room-choice false column unit us = refl

first-unit : (column : Option ℕ) (unit : List ℕ) (us : List (List ℕ))
    → behind column (unit ∷ us) ≡ (lead_in column unit ++ unit) ++ laid_behind (column_after (begins_at column unit) unit) us
first-unit None unit us = refl
first-unit (Some column) unit us = room-choice (has_room column unit) column unit us

-- All that is written and will be, with these tokens.
abbrev whole : Writing → List Token → List ℕ
whole w tokens = w.written ++ behind w.column (pending w.unit w.holds tokens)

step-choice : (b : Bool) (w : Writing) (text : List ℕ) (holds : Bool) (tokens : List Token)
    → w.written ++ behind w.column (if b then prefixed w.unit (pending text holds tokens) else w.unit ∷ pending text holds tokens)
    ≡ whole (grown text holds (if b then w else flushed w)) tokens
step-choice true w text holds tokens = ap (λ (us : List (List ℕ)). w.written ++ behind w.column us) (prefixed-pending w.unit text holds tokens)
step-choice false w text holds tokens =
    let rest : List ℕ = laid_behind (column_after (begins_at w.column w.unit) w.unit) (pending text holds tokens) in
    ap (λ (bytes : List ℕ). w.written ++ bytes) (first-unit w.column w.unit (pending text holds tokens))
    ∙ sym (append_assoc w.written (lead_in w.column w.unit ++ w.unit) rest)

whole-step : (token : Token) (tokens : List Token) (w : Writing) → whole w (token ∷ tokens) ≡ whole (put token w) tokens
whole-step token tokens w =
    ap (λ (us : List (List ℕ)). w.written ++ behind w.column (if w.holds || is_closing token then prefixed w.unit us else w.unit ∷ us)) (texts-pending token tokens)
    ∙ step-choice (w.holds || is_closing token) w (token_text token) (holds_next token) tokens

whole-all : (tokens : List Token) (w : Writing) → whole w tokens ≡ whole (put_all tokens w) []
whole-all [] w = refl
whole-all (token ∷ tokens) w = whole-step token tokens w ∙ whole-all tokens (put token w)

whole-flushed : (w : Writing) → whole w [] ≡ (flushed w).written
whole-flushed w =
    ap (λ (bytes : List ℕ). w.written ++ bytes) (first-unit w.column w.unit [] ∙ append-nil (lead_in w.column w.unit ++ w.unit))

laid-prefixed : (us : List (List ℕ)) → laid (prefixed [] us) ≡ laid us
laid-prefixed [] = refl
laid-prefixed (unit ∷ us) = refl

laid-pending : (tokens : List Token) → laid (pending [] true tokens) ≡ laid (texts tokens)
laid-pending [] = refl
laid-pending (token ∷ tokens) = laid-prefixed (texts (token ∷ tokens))

-- The tokens behind a text, and the last unit written out.
pub written-layout : (text : List ℕ) (tokens : List Token) → (flushed (put_all tokens (begun text))).written ≡ text ++ layout tokens
unfolding layout
written-layout text tokens =
    sym (whole-all tokens (begun text) ∙ whole-flushed (put_all tokens (begun text)))
    ∙ ap (λ (bytes : List ℕ). text ++ bytes) (laid-pending tokens)

-- A game's tokens, its result and the last unit, as they are written behind a text.
pub game-layout : (out text : List ℕ) (tokens : List Token) (result : Token) (w0 w1 w2 w3 : Writing)
    → w0 ≡ begun out → w1 ≡ put_all tokens w0 → w2 ≡ put result w1 → w3 ≡ flushed w2 → text ≡ w3.written → text ≡ out ++ layout (tokens ++ result ∷ [])
game-layout out text tokens result w0 w1 w2 w3 begins goes ends flushes is =
    is
    ∙ ap (λ (w : Writing). w.written) flushes
    ∙ ap (λ (w : Writing). (flushed w).written) ends
    ∙ ap (λ (w : Writing). (flushed (put result w)).written) goes
    ∙ ap (λ (w : Writing). (flushed (put result (put_all tokens w))).written) begins
    ∙ ap (λ (w : Writing). (flushed w).written) (sym (put_all-append tokens (result ∷ []) (begun out)))
    ∙ written-layout out (tokens ++ result ∷ [])

-- The first number is low behind a text of two bytes.
pub low-first : (side : Colour) (out : List ℕ) (w : Writing) → w ≡ begun out → 2 ≤ length out → IsLow side 1 (size w)
low-first White out w is some = subst (λ (x : Writing). 1 ≤ size x) (sym is) (omega (arith, some))
low-first Black out w is some = subst (λ (x : Writing). 2 ≤ size x) (sym is) (omega (arith, some))
