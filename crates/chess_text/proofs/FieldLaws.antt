-- Each reader of a field names exactly what the grammar of the field says.
use Rattle.std.proofs.Common.{◌≡◌, ℕ, ◌+◌, ◌-◌, ◌*◌, ◌<◌, ◌≤◌, inl, inr, Bool, true, false, cond, not, ◌==◌, nat_lt, nat_le, ◌&&◌, List, [], ◌∷◌, Option, Some, None, length, refl, sym, ◌∙◌, ap, subst, arith}
use Rattle.std.specs.List.{list_all, AllByRecursion}
use Rattle.std.specs.Char.{is_ascii_digit, IsAsciiDigit}
use Rattle.std.proofs.lemmas.Bool.{eqb-true, eq-eqb, ltb-true, leb-true, lt-ltb, le-leb, and_parts, and_from, cases_Bool, not-true}
use Rattle.std.proofs.lemmas.List.Sums.{sum_by-cons}
use Rattle.std.proofs.lemmas.Option.{same_Some, option_and_then_some}
use Rattle.cell_core.specs.declared.man.Colour.{Colour}
use Rattle.cell_core.specs.declared.man.Colour.TheVariants.{White, Black}
use Rattle.chess_laws.specs.declared.setup.Rights.{Rights}
use Rattle.chess_laws.specs.Geometry.{file_of, rank_of}
use Rattle.chess_laws.specs.Position.{en_passant_rank}
use Rattle.chess_text.specs.Fields.{side_text, times, once, NamesRights, no_rights, RightsText, EnPassantText, CounterText}
use Rattle.chess_text.specs.FieldReading.{side_named, with_right, with_rights, rights_named, square_named, en_passant_named, is_counter}
use Rattle.chess_text.proofs.PlacementLaws.{chosen}

-- ---- the side

pub side_named-side_text : (side : Colour) → side_named (side_text side) ≡ Some side
side_named-side_text White = refl
side_named-side_text Black = refl

pub side_text_named : (word : List ℕ) (side : Colour) → side_named word ≡ Some side → word ≡ side_text side
side_text_named [] side h = cc
side_text_named (byte ∷ []) side h =
    elim (chosen (byte == 119) _ _ (Some side) h) [
      | inl white ↦ rw (eqb-true byte 119 white.0, ← same_Some _ _ white.1) refl
      | inr other ↦ elim (chosen (byte == 98) _ _ (Some side) other.1) [
        | inl black ↦ rw (eqb-true byte 98 black.0, ← same_Some _ _ black.1) refl
        | inr none ↦ cc (none.1)
      ]
    ]
side_text_named (first ∷ second ∷ word) side h = cc

-- ---- castling rights

-- 1 where the letter is this one
is : ℕ → ℕ → ℕ
is code letter = cond (letter == code) 1 0

times-cons : (code letter : ℕ) (word : List ℕ) → times code (letter ∷ word) ≡ is code letter + times code word
unfolding is
times-cons code letter word = sum_by-cons (λ byte. cond (byte == code) 1 0) letter word

-- one more letter adds one right
record Adds (letter : ℕ) (r s : Rights) : Type 0 where
  white_king_side : is 75 letter + once r.white_king_side ≡ once s.white_king_side
  white_queen_side : is 81 letter + once r.white_queen_side ≡ once s.white_queen_side
  black_king_side : is 107 letter + once r.black_king_side ≡ once s.black_king_side
  black_queen_side : is 113 letter + once r.black_queen_side ≡ once s.black_queen_side
  one : is 75 letter + is 81 letter + (is 107 letter + is 113 letter) ≡ 1

-- the letters of a word add these rights
record Tallies (word : List ℕ) (r s : Rights) : Type 0 where
  white_king_side : times 75 word + once r.white_king_side ≡ once s.white_king_side
  white_queen_side : times 81 word + once r.white_queen_side ≡ once s.white_queen_side
  black_king_side : times 107 word + once r.black_king_side ≡ once s.black_king_side
  black_queen_side : times 113 word + once r.black_queen_side ≡ once s.black_queen_side
  no_other : times 75 word + times 81 word + (times 107 word + times 113 word) ≡ length word

adds_white_king : (r : Rights) → r.white_king_side ≡ false → Adds 75 r (record r { white_king_side = true })
unfolding is
adds_white_king r h = record {
  white_king_side = rw h refl;
  white_queen_side = omega arith;
  black_king_side = omega arith;
  black_queen_side = omega arith;
  one = refl;
}

adds_white_queen : (r : Rights) → r.white_queen_side ≡ false → Adds 81 r (record r { white_queen_side = true })
unfolding is
adds_white_queen r h = record {
  white_king_side = omega arith;
  white_queen_side = rw h refl;
  black_king_side = omega arith;
  black_queen_side = omega arith;
  one = refl;
}

adds_black_king : (r : Rights) → r.black_king_side ≡ false → Adds 107 r (record r { black_king_side = true })
unfolding is
adds_black_king r h = record {
  white_king_side = omega arith;
  white_queen_side = omega arith;
  black_king_side = rw h refl;
  black_queen_side = omega arith;
  one = refl;
}

adds_black_queen : (r : Rights) → r.black_queen_side ≡ false → Adds 113 r (record r { black_queen_side = true })
unfolding is
adds_black_queen r h = record {
  white_king_side = omega arith;
  white_queen_side = omega arith;
  black_king_side = omega arith;
  black_queen_side = rw h refl;
  one = refl;
}

-- a letter that passed its test is that letter, and its right was not there
new_right : (letter code : ℕ) (right : Bool) → (letter == code && not right) ≡ true → (letter ≡ code) × (right ≡ false)
new_right letter code right h =
    let both = and_parts (letter == code) (not right) h in
    (eqb-true letter code both.0, not-true right both.1)

with_right_adds : (r s : Rights) (letter : ℕ) → with_right r letter ≡ Some s → Adds letter r s
unfolding with_right
with_right_adds r s letter h =
    elim (chosen (letter == 75 && not r.white_king_side) _ _ (Some s) h) [
      | inl wk ↦ let new = new_right letter 75 _ wk.0 in rw (new.0, ← same_Some _ _ wk.1) (adds_white_king r new.1)
      | inr h₁ ↦ elim (chosen (letter == 81 && not r.white_queen_side) _ _ (Some s) (h₁.1)) [
        | inl wq ↦ let new = new_right letter 81 _ wq.0 in rw (new.0, ← same_Some _ _ wq.1) (adds_white_queen r new.1)
        | inr h₂ ↦ elim (chosen (letter == 107 && not r.black_king_side) _ _ (Some s) (h₂.1)) [
          | inl bk ↦ let new = new_right letter 107 _ bk.0 in rw (new.0, ← same_Some _ _ bk.1) (adds_black_king r new.1)
          | inr h₃ ↦ elim (chosen (letter == 113 && not r.black_queen_side) _ _ (Some s) (h₃.1)) [
            | inl bq ↦ let new = new_right letter 113 _ bq.0 in rw (new.0, ← same_Some _ _ bq.1) (adds_black_queen r new.1)
            | inr none ↦ cc (none.1)
          ]
        ]
      ]
    ]

tallies_more : (letter : ℕ) (word : List ℕ) (r t s : Rights) → Adds letter r t → Tallies word t s
    → Tallies (letter ∷ word) r s
tallies_more letter word r t s a l =
    let c₁ = times-cons 75 letter word in let c₂ = times-cons 81 letter word in
    let c₃ = times-cons 107 letter word in let c₄ = times-cons 113 letter word in
    record {
      white_king_side = omega arith;
      white_queen_side = omega arith;
      black_king_side = omega arith;
      black_queen_side = omega arith;
      no_other = omega arith;
    }

tallies_rest : (letter : ℕ) (word : List ℕ) (r t s : Rights) → Adds letter r t → Tallies (letter ∷ word) r s
    → Tallies word t s
tallies_rest letter word r t s a l =
    let c₁ = times-cons 75 letter word in let c₂ = times-cons 81 letter word in
    let c₃ = times-cons 107 letter word in let c₄ = times-cons 113 letter word in
    record {
      white_king_side = omega arith;
      white_queen_side = omega arith;
      black_king_side = omega arith;
      black_queen_side = omega arith;
      no_other = omega arith;
    }

with_rights_tallies : (word : List ℕ) (r s : Rights) → with_rights word r ≡ Some s → Tallies word r s
with_rights_tallies [] r s h =
    let e : r ≡ s = same_Some r s h in
    rw e (record {
      white_king_side = omega arith;
      white_queen_side = omega arith;
      black_king_side = omega arith;
      black_queen_side = omega arith;
      no_other = refl;
    })
with_rights_tallies (letter ∷ word) r s h =
    option_and_then_some (with_rights word) (with_right r letter) s h (λ t first later.
    tallies_more letter word r t s (with_right_adds r t letter first) (with_rights_tallies word t s later))

-- a letter is one of the four, or none of them
data Which (letter : ℕ) : Type 0 where
  white_king : letter ≡ 75 → Which letter
  white_queen : letter ≡ 81 → Which letter
  black_king : letter ≡ 107 → Which letter
  black_queen : letter ≡ 113 → Which letter
  no_letter : is 75 letter + is 81 letter + (is 107 letter + is 113 letter) ≡ 0 → Which letter

which : (letter : ℕ) → Which letter
unfolding is
which letter =
    elim (cases_Bool (letter == 75)) [
      | inl h₁ ↦ white_king (eqb-true letter 75 h₁)
      | inr h₁ ↦ elim (cases_Bool (letter == 81)) [
        | inl h₂ ↦ white_queen (eqb-true letter 81 h₂)
        | inr h₂ ↦ elim (cases_Bool (letter == 107)) [
          | inl h₃ ↦ black_king (eqb-true letter 107 h₃)
          | inr h₃ ↦ elim (cases_Bool (letter == 113)) [
            | inl h₄ ↦ black_queen (eqb-true letter 113 h₄)
            | inr h₄ ↦ no_letter (rw (h₁, h₂, h₃, h₄) refl)
          ]
        ]
      ]
    ]

one_at_most : (letter : ℕ) → is 75 letter + is 81 letter + (is 107 letter + is 113 letter) ≤ 1
unfolding is
one_at_most letter =
    elim (which letter) [
      | white_king e ↦ rw e (omega arith)
      | white_queen e ↦ rw e (omega arith)
      | black_king e ↦ rw e (omega arith)
      | black_queen e ↦ rw e (omega arith)
      | no_letter e ↦ omega arith
    ]

times_bound : (word : List ℕ) → times 75 word + times 81 word + (times 107 word + times 113 word) ≤ length word
times_bound [] = omega arith
times_bound (letter ∷ word) =
    let c₁ = times-cons 75 letter word in let c₂ = times-cons 81 letter word in
    let c₃ = times-cons 107 letter word in let c₄ = times-cons 113 letter word in
    let one = one_at_most letter in let rest = times_bound word in omega arith

once_bound : (b : Bool) → once b ≤ 1
once_bound true = omega arith
once_bound false = omega arith

once_zero : (b : Bool) → once b ≡ 0 → b ≡ false
once_zero true h = absurd (omega (arith, h))
once_zero false h = refl

once_same : (b c : Bool) → once b ≡ once c → b ≡ c
once_same true true h = refl
once_same true false h = absurd (omega (arith, h))
once_same false true h = absurd (omega (arith, h))
once_same false false h = refl

pub same_rights : (r s : Rights) → r.white_king_side ≡ s.white_king_side → r.white_queen_side ≡ s.white_queen_side
    → r.black_king_side ≡ s.black_king_side → r.black_queen_side ≡ s.black_queen_side → r ≡ s
same_rights r s e₁ e₂ e₃ e₄ =
    ap (λ (b : Bool). record r { white_king_side = b }) e₁
    ∙ ap (λ (b : Bool). record s { white_queen_side = b; black_king_side = r.black_king_side; black_queen_side = r.black_queen_side }) e₂
    ∙ ap (λ (b : Bool). record s { black_king_side = b; black_queen_side = r.black_queen_side }) e₃
    ∙ ap (λ (b : Bool). record s { black_queen_side = b }) e₄

-- a right whose letter stands in the word was not there before
was_free : (code letter : ℕ) (word : List ℕ) (b c : Bool) → letter ≡ code
    → times code (letter ∷ word) + once b ≡ once c → b ≡ false
unfolding is
was_free code letter word b c e h =
    let one : is code letter ≡ 1 = rw (e, eq-eqb code code refl) refl in
    let more = times-cons code letter word in
    let bound = once_bound c in
    once_zero b (omega arith)

with_rights-tallies : (word : List ℕ) (r s : Rights) → Tallies word r s → with_rights word r ≡ Some s
with_rights-tallies [] r s t =
    ap Some (same_rights r s
    (once_same _ _ (let h = t.white_king_side in omega arith))
    (once_same _ _ (let h = t.white_queen_side in omega arith))
    (once_same _ _ (let h = t.black_king_side in omega arith))
    (once_same _ _ (let h = t.black_queen_side in omega arith)))
with_rights-tallies (letter ∷ word) r s t =
    let goes_on : (q : Rights) → with_right r letter ≡ Some q → with_rights (letter ∷ word) r ≡ Some s
    = λ q first. rw first (with_rights-tallies word q s
    (tallies_rest letter word r q s (with_right_adds r q letter first) t)) in
    elim (which letter) [
      | white_king e ↦
          goes_on (record r { white_king_side = true })
          (unfold with_right in rw (e, was_free 75 letter word _ _ e t.white_king_side) refl)
      | white_queen e ↦
          goes_on (record r { white_queen_side = true })
          (unfold with_right in rw (e, was_free 81 letter word _ _ e t.white_queen_side) refl)
      | black_king e ↦
          goes_on (record r { black_king_side = true })
          (unfold with_right in rw (e, was_free 107 letter word _ _ e t.black_king_side) refl)
      | black_queen e ↦
          goes_on (record r { black_queen_side = true })
          (unfold with_right in rw (e, was_free 113 letter word _ _ e t.black_queen_side) refl)
      | no_letter e ↦
          absurd (
          let all = t.no_other in let few = times_bound word in
          let c₁ = times-cons 75 letter word in let c₂ = times-cons 81 letter word in
          let c₃ = times-cons 107 letter word in let c₄ = times-cons 113 letter word in
          omega arith)
    ]

no_length : {A : Type 0} (xs : List A) → length xs ≡ 0 → xs ≡ []
no_length [] h = refl
no_length (x ∷ xs) h = absurd (omega (arith, h))

pub rights_text_named : (word : List ℕ) (r : Rights) → rights_named word ≡ Some r → RightsText word r
unfolding rights_named
rights_text_named [] r h = cc
rights_text_named (letter ∷ word) r h =
    elim (chosen (letter == 45 && length word == 0) _ _ (Some r) h) [
      | inl dash ↦
          let both = and_parts (letter == 45) (length word == 0) dash.0 in
          inl (rw (eqb-true letter 45 both.0, no_length word (eqb-true _ _ both.1)) refl, sym (same_Some _ _ dash.1))
      | inr letters ↦
          let t : Tallies (letter ∷ word) no_rights r = with_rights_tallies (letter ∷ word) no_rights r letters.1 in
          inr (record {
            some = omega arith;
            white_king_side = omega (arith, t.white_king_side);
            white_queen_side = omega (arith, t.white_queen_side);
            black_king_side = omega (arith, t.black_king_side);
            black_queen_side = omega (arith, t.black_queen_side);
            no_other = t.no_other;
          })
    ]

-- a dash alone is no word of letters
dash_names : (r : Rights) → NamesRights (45 ∷ []) r → ⊥
dash_names r names = let all = names.no_other in omega arith

pub rights_named-rights_text : (word : List ℕ) (r : Rights) → RightsText word r → rights_named word ≡ Some r
unfolding rights_named
rights_named-rights_text word r (inl (dash, none)) = rw (dash, none) refl
rights_named-rights_text [] r (inr names) = absurd (let some = names.some in omega arith)
rights_named-rights_text (letter ∷ word) r (inr names) =
    elim (cases_Bool (letter == 45 && length word == 0)) [
      | inl dash ↦
          let both = and_parts (letter == 45) (length word == 0) dash in
          let e : letter ∷ word ≡ 45 ∷ [] = rw (eqb-true letter 45 both.0, no_length word (eqb-true _ _ both.1)) refl in
          absurd (dash_names r (subst (λ (w : List ℕ). NamesRights w r) e names))
      | inr other ↦ rw other (with_rights-tallies (letter ∷ word) no_rights r (record {
        white_king_side = omega (arith, names.white_king_side);
        white_queen_side = omega (arith, names.white_queen_side);
        black_king_side = omega (arith, names.black_king_side);
        black_queen_side = omega (arith, names.black_queen_side);
        no_other = names.no_other;
      }))
    ]

-- ---- the en passant square

-- the rank and the file of a square that is made of them
rank_of_square : (r k : ℕ) → k < 8 → rank_of (8 * r + k) ≡ r
rank_of_square r k h = omega arith

file_of_square : (r k : ℕ) → k < 8 → file_of (8 * r + k) ≡ k
file_of_square r k h = omega arith

pub en_passant_text_named : (side : Colour) (word : List ℕ) (square : Option ℕ) → en_passant_named side word ≡ Some square
    → EnPassantText side word square
en_passant_text_named side [] square h = cc
en_passant_text_named side (byte ∷ []) square h =
    elim (chosen (byte == 45) _ _ (Some square) h) [
      | inl dash ↦
          subst (λ (o : Option ℕ). EnPassantText side (byte ∷ []) o) (same_Some _ _ dash.1) (rw (eqb-true byte 45 dash.0) refl)
      | inr none ↦ cc (none.1)
    ]
en_passant_text_named side (file ∷ rank ∷ []) square h =
    elim (chosen (nat_le 97 file && nat_lt file 105 && rank == 49 + en_passant_rank side) _ _ (Some square) h) [
      | inl square_named ↦
          let both = and_parts _ (rank == 49 + en_passant_rank side) square_named.0 in
          let range = and_parts (nat_le 97 file) (nat_lt file 105) both.0 in
          let low : 97 ≤ file = leb-true 97 file range.0 in
          let high : file < 105 = ltb-true file 105 range.1 in
          let fits : file - 97 < 8 = omega arith in
          let r = en_passant_rank side in
          let back : 97 + (file - 97) ≡ file = omega arith in
          subst (λ (o : Option ℕ). EnPassantText side (file ∷ rank ∷ []) o) (same_Some _ _ square_named.1) (
            rank_of_square r (file - 97) fits,
            rw (rank_of_square r (file - 97) fits, file_of_square r (file - 97) fits, back, eqb-true _ _ both.1) refl,
          )
      | inr none ↦ cc (none.1)
    ]
en_passant_text_named side (file ∷ rank ∷ third ∷ word) square h = cc

pub en_passant_named-en_passant_text : (side : Colour) (word : List ℕ) (square : Option ℕ) → EnPassantText side word square
    → en_passant_named side word ≡ Some square
en_passant_named-en_passant_text side word None text = rw text refl
en_passant_named-en_passant_text side word (Some s) (on_rank, text) =
    let f = file_of s in
    let low : nat_le 97 (97 + f) ≡ true = le-leb _ _ (omega arith) in
    let high : nat_lt (97 + f) 105 ≡ true = lt-ltb _ _ (omega arith) in
    let rank : (49 + rank_of s == 49 + en_passant_rank side) ≡ true = eq-eqb _ _ (omega arith) in
    let test : (nat_le 97 (97 + f) && nat_lt (97 + f) 105 && 49 + rank_of s == 49 + en_passant_rank side) ≡ true
    = and_from _ _ (and_from _ _ low high) rank in
    let back : 8 * en_passant_rank side + (97 + f - 97) ≡ s = omega arith in
    rw text (rw (test, back) refl)

-- ---- counters

digits_all : (word : List ℕ) → list_all is_ascii_digit word ≡ true → AllByRecursion IsAsciiDigit word
digits_all [] h = tt
digits_all (byte ∷ word) h =
    let both = and_parts (is_ascii_digit byte) (list_all is_ascii_digit word) h in
    let range = and_parts (nat_le 48 byte) (nat_le byte 57) both.0 in
    ((leb-true 48 byte range.0, leb-true byte 57 range.1), digits_all word both.1)

all_digits : (word : List ℕ) → AllByRecursion IsAsciiDigit word → list_all is_ascii_digit word ≡ true
all_digits [] h = refl
all_digits (byte ∷ word) h =
    and_from _ _ (and_from _ _ (le-leb 48 byte h.0.0) (le-leb byte 57 h.0.1)) (all_digits word h.1)

pub counter_text_named : (word : List ℕ) → is_counter word ≡ true → CounterText word
counter_text_named word h =
    let both = and_parts (nat_lt 0 (length word)) (list_all is_ascii_digit word) h in
    (ltb-true 0 (length word) both.0, digits_all word both.1)

pub is_counter-counter_text : (word : List ℕ) → CounterText word → is_counter word ≡ true
is_counter-counter_text word text = and_from _ _ (lt-ltb 0 (length word) text.0) (all_digits word text.1)
