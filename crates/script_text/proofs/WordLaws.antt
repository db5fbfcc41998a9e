-- Bytes before the first word.
use Rattle.std.proofs.Common.{◌≡◌, ◌==◌, ℕ, false, List, [], ◌∷◌, ◌++◌, Some, None, refl, sym, ap}
use Rattle.script_text.specs.Words.{Word, front, cut, is_escaped}
use Rattle.script_text.specs.declared.words.Place.{Place}
use Rattle.script_text.specs.declared.words.Place.TheVariants.{Quoted, Escaped}

pub front_none : (words : List Word) → front [] words ≡ words
front_none [] = refl
front_none (None ∷ words) = refl
front_none (Some text ∷ words) = refl

pub append_none : {A : Type 0} (a : List A) → a ++ [] ≡ a
append_none [] = refl
append_none {A} (x ∷ a) = ap (λ (bytes : List A). x ∷ bytes) (append_none a)

append_append : {A : Type 0} (a b c : List A) → a ++ (b ++ c) ≡ (a ++ b) ++ c
append_append [] b c = refl
append_append {A} (x ∷ a) b c = ap (λ (bytes : List A). x ∷ bytes) (append_append a b c)

pub front_front : (a b : List ℕ) (words : List Word) → front a (front b words) ≡ front (a ++ b) words
front_front a b [] = refl
front_front a b (None ∷ words) = refl
front_front a b (Some text ∷ words) = ap (λ (bytes : List ℕ). Some bytes ∷ words) (append_append a b text)

-- A word ends, and the rest of the line follows it.
pub ended : (words : List Word) (word : List ℕ) (more : List Word)
    → (words ++ Some word ∷ []) ++ front [] more ≡ words ++ front word (Some [] ∷ more)
ended words word more =
    rw (front_none more, append_none word) (sym (append_append words (Some word ∷ []) more))

-- A plain byte of a quoted part.
pub quoted_byte : (words : List Word) (word word' : List ℕ) (place : Place) (byte : ℕ) (rest : List ℕ)
    → place ≡ Quoted → (byte == 34) ≡ false → (byte == 92) ≡ false → word' ≡ word ++ byte ∷ []
    → words ++ front word' (cut place rest) ≡ words ++ front word (cut place (byte ∷ rest))
unfolding cut
quoted_byte words word word' place byte rest at no_quote no_backslash longer =
    rw (at, no_quote, no_backslash, longer, front_front word (byte ∷ []) (cut Quoted rest)) refl

-- A byte that a backslash before it does not make plain.
pub escaped_byte : (words : List Word) (word word' : List ℕ) (place : Place) (byte : ℕ) (rest : List ℕ)
    → place ≡ Escaped → is_escaped byte ≡ false → word' ≡ (word ++ 92 ∷ []) ++ byte ∷ []
    → words ++ front word' (cut Quoted rest) ≡ words ++ front word (cut place (byte ∷ rest))
unfolding cut
escaped_byte words word word' place byte rest at other longer =
    rw (at, other, longer, sym (append_append word (92 ∷ []) (byte ∷ [])), front_front word (92 ∷ byte ∷ []) (cut Quoted rest)) refl
