-- What bytes are as a record, as an answer that is computed and in words.
use Rattle.std.proofs.Common.{◌≡◌, ℕ, zero, suc, ◌+◌, ◌<◌, ◌≤◌, ◌==◌, ◌%◌, ◌⊎◌, inl, inr, ◌≢◌, true, false, nat_le, nat_lt, List, [], ◌∷◌, ◌++◌, Option, Some, None, Result, Ok, Err, length, drop, refl, sym, ap, subst, ◌∙◌, arith, append_assoc, append-nil, length-append}
use Rattle.std.proofs.lemmas.Bool.{and_parts, cases_Bool, eqb-true, eqb-false, leb-true, ltb-true, ltb-false}
use Rattle.std.proofs.lemmas.List.Elements.{All-nil, All-cons}
use Rattle.cell_core.specs.Text.{IsZeroFree}
use Rattle.cell_core.specs.declared.step.Move.{Move}
use Rattle.cell_core.specs.Steps.{blamed, ◌>>=◌}
use Rattle.chess_laws.specs.declared.setup.Setup.{Setup}
use Rattle.chess_text.specs.FenAnswer.{fen_answer}
use Rattle.chess_text.specs.declared.fault.FenFault.{FenFault}
use Rattle.game_tree.specs.Game.{GameTree}
use Rattle.game_tree.specs.Movetext.{Movetext, end, move, nag, comment, variation}
use Rattle.game_tree.specs.declared.head.Tag.{Tag}
use Rattle.move_codec.specs.Numbers.{Numbered}
use Rattle.move_codec.specs.Packed.{decoded, is_mark}
use Rattle.move_codec.specs.declared.fault.MoveFault.{MoveFault}
use Rattle.game_codec.specs.Fault.{Breaks, IsBroken, IsRecordFault}
use Rattle.game_codec.specs.Flat.{IsRead}
use Rattle.game_codec.specs.Moves.{SpellsMoves, Upto, here, past_move, past_nag, past_comment, past_variation, inside, BreaksMoves}
use Rattle.game_codec.specs.Place.{Place, Takes, FaultAt, after_comment, after_move, beginning, nag_at, token_at, variation_of}
use Rattle.game_codec.specs.Record.{IsRecord, IsSomeRecord, IsSpelled}
use Rattle.game_codec.specs.RecordAnswer.{Broken, game_at, moves_at, place_of, record_answer, start_at, tags_at, text_at, texts_at, with_texts}
use Rattle.game_codec.specs.Start.{BeginsStart, BreaksStart}
use Rattle.game_codec.specs.TagReading.{BeginsTags, BreaksTags, tag_at}
use Rattle.game_codec.specs.Texts.{AreTexts, BreaksTexts, TextFault, ended, texts_of}
use Rattle.game_codec.specs.Token.{Token, Play, Nag, Comment, Open, Close, End}
use Rattle.game_codec.specs.declared.fault.RecordFault.{RecordFault}
use Rattle.game_codec.specs.declared.fault.RecordWhat.{RecordWhat}
use Rattle.game_codec.specs.declared.fault.RecordWhat.TheVariants as what
use Rattle.game_codec.proofs.DecodeLaws.{broken-one, read-record, spelled-one, spelled-unbroken}
use Rattle.game_codec.proofs.MovetextLaws.{ending-inner, ending-main}
use Rattle.game_codec.proofs.SameFault.{SameFault}
use Rattle.game_codec.proofs.SameFaultLaws.{SameFault-same, SameFault-short}
use Rattle.game_codec.proofs.ShortLaws.{Takes-longer}
use Rattle.game_codec.proofs.TagReadingLaws.{end-tag_at, tag_at-shorter}
use Rattle.game_codec.proofs.TotalLaws.{none_left}

-- The one holds of what was read, or the other of the fault.
abbrev Says : {A E : Type 0} → (A → Type 0) → (E → Type 0) → Result A E → Type 0
Says Reads Breaks (Ok x) = Reads x
Says Reads Breaks (Err e) = Breaks e

bound : {A B E : Type 0} (P : A → Type 0) (R : B → Type 0) (Q S : E → Type 0) (r : Result A E) (f : A → Result B E) → Says P Q r
    → ((e : E) → Q e → S e) → ((x : A) → P x → Says R S (f x)) → Says R S (r >>= f)
bound P R Q S (Ok x) f says fails on = on x says
bound P R Q S (Err e) f says fails on = fails e says

bound_blame : {A B E F : Type 0} (P : A → Type 0) (R : B → Type 0) (Q : E → Type 0) (S : F → Type 0) (blame : E → F) (r : Result A E) (f : A → Result B F)
    → Says P Q r → ((e : E) → Q e → S (blame e)) → ((x : A) → P x → Says R S (f x)) → Says R S (blamed blame r >>= f)
bound_blame P R Q S blame (Ok x) f says fails on = on x says
bound_blame P R Q S blame (Err e) f says fails on = fails e says

-- An item of the moves

abbrev Item : Type 0
Item = Result (Token × List ℕ) RecordWhat

abbrev IsItem : Place → List ℕ → Item → Type 0
IsItem p bytes r = Says (λ t. Takes p bytes t.0 t.1) (FaultAt p bytes) r

by_item : (p : Place) (bytes : List ℕ) (r : Item) → token_at p bytes ≡ r → IsItem p bytes r → IsItem p bytes (token_at p bytes)
by_item p bytes r is says = subst (IsItem p bytes) (sym is) says

nag_says : (p : Place) (byte : ℕ) (later : List ℕ) → byte ≡ 11 → p.has_move ≡ true → IsItem p (byte ∷ later) (nag_at later)
nag_says p byte [] is some = inr (some, ap (λ (b : ℕ). b ∷ []) is)
nag_says p byte (n ∷ later) is some = (some, ap (λ (b : ℕ). b ∷ n ∷ later) is)

module _ (p : Place) (byte : ℕ) (later : List ℕ) where
  begins_with : (n : ℕ) → (byte == n) ≡ true → byte ∷ later ≡ n ∷ later
  begins_with n is = ap (λ (b : ℕ). b ∷ later) (eqb-true byte n is)

  none_of_them : (byte == 11) ≡ false → (byte == 12) ≡ false → (byte == 13) ≡ false → (byte == 14) ≡ false → (byte == 15) ≡ false → is_mark byte ≡ false
  none_of_them a b c d e = elim (cases_Bool (is_mark byte)) [
    | inr free ↦ free
    | inl mark ↦
        let bounds = and_parts (nat_le 11 byte) (nat_le byte 15) mark in
        let low = leb-true 11 byte bounds.0 in
        let high = leb-true byte 15 bounds.1 in
        let not_a = eqb-false byte 11 a in
        let not_b = eqb-false byte 12 b in
        let not_c = eqb-false byte 13 c in
        let not_d = eqb-false byte 14 d in
        let not_e = eqb-false byte 15 e in
        absurd (omega arith)
  ]

  move_by : (byte == 11) ≡ false → (byte == 12) ≡ false → (byte == 13) ≡ false → (byte == 14) ≡ false → (byte == 15) ≡ false
      → (r : Result (Move × ℕ) MoveFault) → decoded p.here (byte ∷ later) ≡ r → IsItem p (byte ∷ later) (token_at p (byte ∷ later))
  unfolding token_at
  move_by a b c d e (Ok m) is =
      by_item p (byte ∷ later) (Ok (Play m.0, drop m.1 (byte ∷ later))) (rw (a, b, c, d, e, is) refl)
      ((byte, later, refl, none_of_them a b c d e), (m.1, is, refl))
  move_by a b c d e (Err fault) is =
      by_item p (byte ∷ later) (Err (what.Move fault)) (rw (a, b, c, d, e, is) refl) ((byte, later, refl, none_of_them a b c d e), is)

  token_says : IsItem p (byte ∷ later) (token_at p (byte ∷ later))
  unfolding token_at
  token_says = elim (cases_Bool (byte == 11)) [
    | inl is ↦ elim (cases_Bool p.has_move) [
      | inl some ↦ by_item p (byte ∷ later) (nag_at later) (rw (is, some) refl) (nag_says p byte later (eqb-true byte 11 is) some)
      | inr none ↦ by_item p (byte ∷ later) (Err what.Mark) (rw (is, none) refl) (inl (none, inl (eqb-true byte 11 is)))
    ]
    | inr a ↦ elim (cases_Bool (byte == 12)) [
      | inl is ↦ elim (cases_Bool p.has_comment) [
        | inl two ↦ by_item p (byte ∷ later) (Err what.TwoComments) (rw (a, is, two) refl) (two, (later, begins_with 12 is))
        | inr one ↦ by_item p (byte ∷ later) (Ok (Comment, later)) (rw (a, is, one) refl) (one, begins_with 12 is)
      ]
      | inr b ↦ elim (cases_Bool (byte == 13)) [
        | inl is ↦ elim (cases_Bool p.has_move) [
          | inl some ↦ elim (cases_Bool (nat_lt p.depth 200)) [
            | inl room ↦
                by_item p (byte ∷ later) (Ok (Open, later)) (rw (a, b, is, some, room) refl) (some, ltb-true p.depth 200 room, begins_with 13 is)
            | inr full ↦
                by_item p (byte ∷ later) (Err what.Depth) (rw (a, b, is, some, full) refl) (some, (ltb-false p.depth 200 full, (later, begins_with 13 is)))
          ]
          | inr none ↦ by_item p (byte ∷ later) (Err what.Mark) (rw (a, b, is, none) refl) (inl (none, inr (eqb-true byte 13 is)))
        ]
        | inr c ↦ elim (cases_Bool (byte == 14)) [
          | inl is ↦ elim (cases_Bool (nat_lt 0 p.depth)) [
            | inl deep ↦ by_item p (byte ∷ later) (Ok (Close, later)) (rw (a, b, c, is, deep) refl) (ltb-true 0 p.depth deep, begins_with 14 is)
            | inr top ↦
                let none = ltb-false 0 p.depth top in
                by_item p (byte ∷ later) (Err what.Mark) (rw (a, b, c, is, top) refl) (inr (inl (omega arith, eqb-true byte 14 is)))
          ]
          | inr d ↦ elim (cases_Bool (byte == 15)) [
            | inl is ↦ elim (cases_Bool (p.depth == 0)) [
              | inl top ↦ by_item p (byte ∷ later) (Ok (End, later)) (rw (a, b, c, d, is, top) refl) (eqb-true p.depth 0 top, begins_with 15 is)
              | inr deep ↦
                  let some = eqb-false p.depth 0 deep in
                  by_item p (byte ∷ later) (Err what.Mark) (rw (a, b, c, d, is, deep) refl) (inr (inr (omega arith, eqb-true byte 15 is)))
            ]
            | inr e ↦ move_by a b c d e (decoded p.here (byte ∷ later)) refl
          ]
        ]
      ]
    ]
  ]

item_says : (p : Place) (bytes : List ℕ) → IsItem p bytes (token_at p bytes)
unfolding token_at
item_says p [] = inl refl
item_says p (byte ∷ later) = token_says p byte later

-- The tags

abbrev SayTags : List ℕ → Result (List Tag × List ℕ) Broken → Type 0
SayTags bytes r = Says (λ t. BeginsTags bytes t.0 t.1) (λ b. (tags : List Tag) × BreaksTags bytes tags b.0 b.1) r

module _ (most : ℕ) (more : (bytes : List ℕ) → length bytes ≤ most → SayTags bytes (tags_at most bytes)) (bytes : List ℕ) (few : length bytes ≤ suc most) where
  tags_by : (r : Result (Option (Tag × List ℕ)) RecordWhat) → tag_at bytes ≡ r → SayTags bytes (tags_at (suc most) bytes)
  unfolding tags_at
  tags_by (Err wrong) is = rw is ([], (refl, is))
  tags_by (Ok None) is = let last = end-tag_at bytes is in rw is (last.1 ∙ ap (λ (b : List ℕ). 0 ∷ drop 1 b) (sym last.1))
  tags_by (Ok (Some tag)) is =
      let short = tag_at-shorter bytes tag.0 tag.1 is in
      rw is (bound (λ t. BeginsTags tag.1 t.0 t.1) (λ t. BeginsTags bytes t.0 t.1) (λ b. (tags : List Tag) × BreaksTags tag.1 tags b.0 b.1)
      (λ b. (tags : List Tag) × BreaksTags bytes tags b.0 b.1) (tags_at most tag.1) (λ tags. Ok (tag.0 ∷ tags.0, tags.1))
      (more tag.1 (omega (arith, few, short))) (λ b breaks. (tag.0 ∷ breaks.0, (tag.1, is, breaks.1))) (λ tags begins. (tag.1, is, begins)))

no_tags : SayTags [] (tags_at zero [])
unfolding tags_at tag_at
no_tags = ([], (refl, refl))

tags_say : (most : ℕ) (bytes : List ℕ) → length bytes ≤ most → SayTags bytes (tags_at most bytes)
tags_say zero [] few = no_tags
tags_say zero (byte ∷ bytes) few = absurd (omega (arith, few))
tags_say (suc most) bytes few = tags_by most (tags_say most) bytes few (tag_at bytes) refl

-- A text, and the start

abbrev SaysText : List ℕ → Result (List ℕ × List ℕ) Broken → Type 0
SaysText bytes r = Says (λ t. IsZeroFree t.0 × (bytes ≡ t.0 ++ 0 ∷ t.1)) (λ b. IsZeroFree bytes × (b.1 ≡ what.Short)) r

text_says : (bytes : List ℕ) → SaysText bytes (text_at bytes)
unfolding text_at
text_says [] = (All-nil (λ (b : ℕ). b ≢ 0), refl)
text_says (byte ∷ bytes) = elim (cases_Bool (byte == 0)) [
  | inl none ↦ rw none (All-nil (λ (b : ℕ). b ≢ 0), ap (λ (b : ℕ). b ∷ bytes) (eqb-true byte 0 none))
  | inr some ↦
      let free = eqb-false byte 0 some in
      rw some (bound (λ t. IsZeroFree t.0 × (bytes ≡ t.0 ++ 0 ∷ t.1)) (λ t. IsZeroFree t.0 × (byte ∷ bytes ≡ t.0 ++ 0 ∷ t.1))
      (λ b. IsZeroFree bytes × (b.1 ≡ what.Short)) (λ b. IsZeroFree (byte ∷ bytes) × (b.1 ≡ what.Short)) (text_at bytes)
      (λ text. Ok (byte ∷ text.0, text.1)) (text_says bytes)
      (λ b is. (All-cons (λ (b : ℕ). b ≢ 0) byte bytes free is.0, is.1))
      (λ t is. (All-cons (λ (b : ℕ). b ≢ 0) byte t.0 free is.0, ap (λ (b : List ℕ). byte ∷ b) is.1)))
]

abbrev SaysStart : List ℕ → Result (Numbered × List ℕ) Broken → Type 0
SaysStart bytes r = Says (λ s. BeginsStart bytes s.0 s.1) (λ b. BreaksStart bytes b.0 b.1) r

module _ (flags : ℕ) (bytes : List ℕ) (set : flags % 2 ≡ 1) where
  fen_by : (text later : List ℕ) → text_at bytes ≡ Ok (text, later) → IsZeroFree text → bytes ≡ text ++ 0 ∷ later
      → (r : Result Setup FenFault) → fen_answer text ≡ r → SaysStart (flags ∷ bytes) (start_at (flags ∷ bytes))
  unfolding start_at
  fen_by text later is free spelled (Ok position) reads =
      let odd : (flags % 2 == 0) ≡ false = rw set refl in
      rw (odd, is, reads) (inr (record {
        flags = flags;
        set = set;
        text = text;
        zero_free = free;
        spelled = ap (λ (b : List ℕ). flags ∷ b) spelled;
        reads = reads;
        numbers = refl;
      }))
  fen_by text later is free spelled (Err fault) reads =
      let odd : (flags % 2 == 0) ≡ false = rw set refl in
      rw (odd, is, reads) (record {
        flags = flags;
        set = set;
        text = text;
        later = later;
        zero_free = free;
        spelled = refl;
        text_is = spelled;
        fault = fault;
        faulty = reads;
      })

  start_by : (r : Result (List ℕ × List ℕ) Broken) → text_at bytes ≡ r → SaysText bytes r → SaysStart (flags ∷ bytes) (start_at (flags ∷ bytes))
  unfolding start_at
  start_by (Ok text) is says = fen_by text.0 text.1 is says.0 says.1 (fen_answer text.0) refl
  start_by (Err b) is says =
      let odd : (flags % 2 == 0) ≡ false = rw set refl in
      let cut : BreaksStart (flags ∷ bytes) b.0 what.Short =
      inr (record { flags = flags; set = set; text = bytes; zero_free = says.0; spelled = refl }) in
      rw (odd, is) (subst (BreaksStart (flags ∷ bytes) b.0) (sym says.1) cut)

start_says : (bytes : List ℕ) → SaysStart bytes (start_at bytes)
unfolding start_at
start_says [] = inl refl
start_says (flags ∷ bytes) = elim (cases_Bool (flags % 2 == 0)) [
  | inl clear ↦ rw clear (inl (record { flags = flags; clear = eqb-true (flags % 2) 0 clear; spelled = refl; start_is = refl }))
  | inr set ↦ let odd = eqb-false (flags % 2) 0 set in start_by flags bytes (omega arith) (text_at bytes) refl (text_says bytes)
]

-- The moves

abbrev Moves : Type 0
Moves = Result (Movetext × List ℕ) Broken

abbrev AreMoves : Place → List ℕ → Movetext × List ℕ → Type 0
AreMoves p bytes s = SpellsMoves p s.0 bytes s.1 × (length s.1 < length bytes)

abbrev AreBroken : Place → List ℕ → Broken → Type 0
AreBroken p bytes b = (u : Upto) × BreaksMoves p u bytes b.0 b.1

abbrev SayMoves : Place → List ℕ → Moves → Type 0
SayMoves p bytes r = Says (AreMoves p bytes) (AreBroken p bytes) r

module _ (most : ℕ) (more : (p : Place) (bytes : List ℕ) → length bytes ≤ most → SayMoves p bytes (moves_at most p bytes)) (p : Place) (bytes : List ℕ)
    (few : length bytes ≤ suc most) where
  moves_by : (r : Item) → token_at p bytes ≡ r → IsItem p bytes r → SayMoves p bytes (moves_at (suc most) p bytes)
  unfolding moves_at
  moves_by (Err wrong) is fault = rw is (here, (refl, fault))
  moves_by (Ok (Play m, later)) is takes =
      let short = Takes-longer p bytes (Play m) later takes in
      rw is (bound (AreMoves (after_move p m) later) (AreMoves p bytes) (AreBroken (after_move p m) later) (AreBroken p bytes)
      (moves_at most (after_move p m) later) (λ s. Ok (move m s.0, s.1)) (more (after_move p m) later (omega (arith, few, short)))
      (λ b breaks. (past_move m breaks.0, (later, takes, breaks.1))) (λ s are. ((later, takes, are.0), omega (arith, short, are.1))))
  moves_by (Ok (Nag n, later)) is takes =
      let short = Takes-longer p bytes (Nag n) later takes in
      rw is (bound (AreMoves p later) (AreMoves p bytes) (AreBroken p later) (AreBroken p bytes)
      (moves_at most p later) (λ s. Ok (nag n s.0, s.1)) (more p later (omega (arith, few, short)))
      (λ b breaks. (past_nag n breaks.0, (later, takes, breaks.1))) (λ s are. ((later, takes, are.0), omega (arith, short, are.1))))
  moves_by (Ok (Comment, later)) is takes =
      let short = Takes-longer p bytes Comment later takes in
      rw is (bound (AreMoves (after_comment p) later) (AreMoves p bytes) (AreBroken (after_comment p) later) (AreBroken p bytes)
      (moves_at most (after_comment p) later) (λ s. Ok (comment [] s.0, s.1)) (more (after_comment p) later (omega (arith, few, short)))
      (λ b breaks. (past_comment breaks.0, (later, takes, breaks.1))) (λ s are. ((later, takes, are.0), omega (arith, short, are.1))))
  moves_by (Ok (Open, later)) is takes =
      let short = Takes-longer p bytes Open later takes in
      rw is (bound (AreMoves (variation_of p) later) (AreMoves p bytes) (AreBroken (variation_of p) later) (AreBroken p bytes)
      (moves_at most (variation_of p) later) (λ inner. moves_at most p inner.1 >>= λ s. Ok (variation inner.0 s.0, s.1))
      (more (variation_of p) later (omega (arith, few, short)))
      (λ b breaks. (inside breaks.0, (later, takes, breaks.1)))
      (λ inner within. bound (AreMoves p inner.1) (AreMoves p bytes) (AreBroken p inner.1) (AreBroken p bytes)
      (moves_at most p inner.1) (λ s. Ok (variation inner.0 s.0, s.1)) (more p inner.1 (omega (arith, few, short, within.1)))
      (λ b breaks. (past_variation inner.0 breaks.0, (later, takes, (inner.1, within.0, breaks.1))))
      (λ s are. ((later, takes, (inner.1, within.0, are.0)), omega (arith, short, within.1, are.1)))))
  moves_by (Ok (Close, later)) is takes =
      let short = Takes-longer p bytes Close later takes in
      rw is (subst (λ (t : Token). Takes p bytes t later) (sym (ending-inner p.depth takes.0)) takes, short)
  moves_by (Ok (End, later)) is takes =
      let short = Takes-longer p bytes End later takes in
      rw is (subst (λ (t : Token). Takes p bytes t later) (sym (ending-main p.depth takes.0)) takes, short)

no_moves : (p : Place) → SayMoves p [] (moves_at zero p [])
unfolding moves_at
no_moves p = (here, (refl, inl refl))

moves_say : (most : ℕ) (p : Place) (bytes : List ℕ) → length bytes ≤ most → SayMoves p bytes (moves_at most p bytes)
moves_say zero p [] few = no_moves p
moves_say zero p (byte ∷ bytes) few = absurd (omega (arith, few))
moves_say (suc most) p bytes few = moves_by most (moves_say most) p bytes few (token_at p bytes) refl (item_says p bytes)

-- The texts

fault_on : (read due : ℕ) (rest : List ℕ) (w : RecordWhat) → TextFault read due rest w → TextFault (suc read) (suc due) rest w
fault_on read due rest what.Short fault = (omega (arith, fault.0), fault.1)
fault_on read due rest what.Extra fault = (ap suc fault.0, fault.1)
fault_on read due rest _ fault = absurd fault

abbrev AreBrokenTexts : ℕ → List ℕ → Broken → Type 0
AreBrokenTexts due bytes b = (rest : List ℕ) × (BreaksTexts due bytes rest b.1 × SameFault rest b.1 b.0 b.1)

abbrev SayTexts : ℕ → List ℕ → Result (List (List ℕ)) Broken → Type 0
SayTexts due bytes r = Says (λ texts. AreTexts bytes texts × (length texts ≡ due)) (AreBrokenTexts due bytes) r

no_text : (due : ℕ) (bytes : List ℕ) → IsZeroFree bytes → BreaksTexts (suc due) bytes bytes what.Short
no_text due bytes free = record { texts = []; zero_free = All-nil IsZeroFree; spelled = refl; fault = (omega arith, free) }

texts_say : (due : ℕ) (bytes : List ℕ) → SayTexts due bytes (texts_at due bytes)
unfolding texts_at
texts_say zero [] = (record { spelled = refl; zero_free = All-nil IsZeroFree }, refl)
texts_say zero (byte ∷ bytes) = (
  byte ∷ bytes,
  (
    record { texts = []; zero_free = All-nil IsZeroFree; spelled = refl; fault = (refl, λ e. cc) },
    SameFault-same (byte ∷ bytes) (byte ∷ bytes) what.Extra what.Extra refl refl,
  ),
)
texts_say (suc due) bytes =
    bound (λ t. IsZeroFree t.0 × (bytes ≡ t.0 ++ 0 ∷ t.1)) (λ texts. AreTexts bytes texts × (length texts ≡ suc due))
    (λ b. IsZeroFree bytes × (b.1 ≡ what.Short)) (AreBrokenTexts (suc due) bytes) (text_at bytes)
    (λ text. texts_at due text.1 >>= λ texts. Ok (text.0 ∷ texts)) (text_says bytes)
    (λ b is. (bytes, (subst (BreaksTexts (suc due) bytes bytes) (sym is.1) (no_text due bytes is.0), SameFault-short bytes b.0 b.1 b.1 is.1 is.1)))
    (λ text is. bound (λ texts. AreTexts text.1 texts × (length texts ≡ due)) (λ texts. AreTexts bytes texts × (length texts ≡ suc due))
    (AreBrokenTexts due text.1) (AreBrokenTexts (suc due) bytes) (texts_at due text.1) (λ texts. Ok (text.0 ∷ texts)) (texts_say due text.1)
    (λ b broken. (
      broken.0,
      (
        record {
          texts = text.0 ∷ broken.1.0.texts;
          zero_free = All-cons IsZeroFree text.0 broken.1.0.texts is.0 broken.1.0.zero_free;
          spelled = is.1 ∙ ap (λ (l : List ℕ). text.0 ++ 0 ∷ l) broken.1.0.spelled ∙ sym (append_assoc text.0 (0 ∷ ended broken.1.0.texts) broken.0);
          fault = fault_on (length broken.1.0.texts) due broken.0 b.1 broken.1.0.fault;
        },
        broken.1.1,
      ),
    ))
    (λ texts are. (
      record {
        spelled = is.1 ∙ ap (λ (l : List ℕ). text.0 ++ 0 ∷ l) are.0.spelled;
        zero_free = All-cons IsZeroFree text.0 texts is.0 are.0.zero_free;
      },
      ap suc are.1,
    )))

-- The movetext with its texts

with_spells : (s : Movetext) (texts : List (List ℕ)) (p : Place) (bytes rest : List ℕ) → SpellsMoves p s bytes rest → SpellsMoves p (with_texts s texts).0 bytes rest
with_spells end texts p bytes rest spells = spells
with_spells (move m s) texts p bytes rest spells = (spells.0, spells.1, with_spells s texts (after_move p m) spells.0 rest spells.2)
with_spells (nag n s) texts p bytes rest spells = (spells.0, spells.1, with_spells s texts p spells.0 rest spells.2)
with_spells (comment text s) texts p bytes rest spells =
    (spells.0, spells.1, with_spells s (drop 1 texts) (after_comment p) spells.0 rest spells.2)
with_spells (variation inner s) texts p bytes rest spells = (
  spells.0,
  spells.1,
  (
    spells.2.0,
    with_spells inner texts (variation_of p) spells.0 spells.2.0 spells.2.1,
    with_spells s (with_texts inner texts).1 p spells.2.0 rest spells.2.2,
  ),
)

with_are : (s : Movetext) (texts : List (List ℕ)) → length (texts_of s) ≤ length texts
    → (texts_of (with_texts s texts).0 ++ (with_texts s texts).1 ≡ texts) × (length (texts_of (with_texts s texts).0) ≡ length (texts_of s))
with_are end texts fits = (refl, refl)
with_are (move m s) texts fits = with_are s texts fits
with_are (nag n s) texts fits = with_are s texts fits
with_are (comment text s) [] fits = absurd (omega (arith, fits))
with_are (comment text s) (first ∷ texts) fits =
    let later = with_are s texts (omega (arith, fits)) in (ap (λ (ts : List (List ℕ)). first ∷ ts) later.0, ap suc later.1)
with_are (variation inner s) texts fits =
    let within = with_texts inner texts in
    let one = with_are inner texts (omega (arith, fits, length-append (texts_of inner) (texts_of s))) in
    let both = length-append (texts_of inner) (texts_of s) in
    let all = length-append (texts_of within.0) within.1 in
    let whole = ap (λ (ts : List (List ℕ)). length ts) one.0 in
    let later = with_texts s within.1 in
    let other = with_are s within.1 (omega (arith, fits, both, all, whole, one.1)) in (
      append_assoc (texts_of within.0) (texts_of later.0) later.1 ∙ ap (λ (ts : List (List ℕ)). texts_of within.0 ++ ts) other.0 ∙ one.0,
      omega (arith, both, one.1, length-append (texts_of within.0) (texts_of later.0), other.1),
    )

with_all : (s : Movetext) (texts : List (List ℕ)) → length texts ≡ length (texts_of s) → texts_of (with_texts s texts).0 ≡ texts
with_all s texts size =
    let are = with_are s texts (omega (arith, size)) in
    let left = none_left (texts_of (with_texts s texts).0) (with_texts s texts).1 (ap length are.0 ∙ size ∙ sym are.1) in
    sym (append-nil (texts_of (with_texts s texts).0)) ∙ ap (λ (ts : List (List ℕ)). texts_of (with_texts s texts).0 ++ ts) (sym left) ∙ are.0

-- The whole

abbrev AreParts : List ℕ → List Tag × GameTree → Type 0
AreParts bytes g = IsSpelled bytes g.0 g.1

abbrev AreBrokenParts : List ℕ → Broken → Type 0
AreBrokenParts bytes b = (rest : List ℕ) × (Breaks bytes rest b.1 × SameFault rest b.1 b.0 b.1)

game_says : (bytes : List ℕ) → Says (AreParts bytes) (AreBrokenParts bytes) (game_at bytes)
unfolding game_at
game_says bytes =
    bound (λ t. BeginsTags bytes t.0 t.1) (AreParts bytes) (λ b. (tags : List Tag) × BreaksTags bytes tags b.0 b.1) (AreBrokenParts bytes)
    (tags_at (length bytes) bytes) _ (tags_say (length bytes) bytes (omega arith))
    (λ b breaks. (b.0, (inl (record { tags = breaks.0; breaks = breaks.1 }), SameFault-same b.0 b.0 b.1 b.1 refl refl)))
    (λ tags begins. bound (λ s. BeginsStart tags.1 s.0 s.1) (AreParts bytes) (λ b. BreaksStart tags.1 b.0 b.1) (AreBrokenParts bytes)
    (start_at tags.1) _ (start_says tags.1)
    (λ b breaks. (
      b.0,
      (inr (inl (record { tags = tags.0; behind_tags = tags.1; tags_first = begins; breaks = breaks })), SameFault-same b.0 b.0 b.1 b.1 refl refl),
    ))
    (λ start then. bound (AreMoves (beginning 0 start.0) start.1) (AreParts bytes) (AreBroken (beginning 0 start.0) start.1) (AreBrokenParts bytes)
    (moves_at (length start.1) (beginning 0 start.0) start.1) _ (moves_say (length start.1) (beginning 0 start.0) start.1 (omega arith))
    (λ b breaks. (
      b.0,
      (
        inr (inr (inl (record {
          tags = tags.0;
          start = start.0;
          upto = breaks.0;
          behind_tags = tags.1;
          behind_start = start.1;
          tags_first = begins;
          then_start = then;
          breaks = breaks.1;
        }))),
        SameFault-same b.0 b.0 b.1 b.1 refl refl,
      ),
    ))
    (λ moves are. bound (λ texts. AreTexts moves.1 texts × (length texts ≡ length (texts_of moves.0))) (AreParts bytes)
    (AreBrokenTexts (length (texts_of moves.0)) moves.1) (AreBrokenParts bytes)
    (texts_at (length (texts_of moves.0)) moves.1) _ (texts_say (length (texts_of moves.0)) moves.1)
    (λ b broken. (
      broken.0,
      (
        inr (inr (inr (record {
          tags = tags.0;
          start = start.0;
          movetext = moves.0;
          behind_tags = tags.1;
          behind_start = start.1;
          behind_moves = moves.1;
          tags_first = begins;
          then_start = then;
          then_moves = are.0;
          breaks = broken.1.0;
        }))),
        broken.1.1,
      ),
    ))
    (λ texts spelled. record {
      all_tags = tags.0;
      start = start.0;
      movetext = (with_texts moves.0 texts).0;
      behind_tags = tags.1;
      behind_start = start.1;
      behind_moves = moves.1;
      tags_first = begins;
      then_start = then;
      then_moves = with_spells moves.0 texts (beginning 0 start.0) start.1 moves.1 are.0;
      then_texts = subst (AreTexts moves.1) (sym (with_all moves.0 texts spelled.1)) spelled.0;
      tags_are = refl;
      game_is = refl;
    }))))

answer_says : (bytes : List ℕ) → Says (AreParts bytes) (IsBroken bytes) (record_answer bytes)
unfolding record_answer
answer_says bytes = by (game_at bytes) (game_says bytes)
  where
    by : (r : Result (List Tag × GameTree) Broken) → Says (AreParts bytes) (AreBrokenParts bytes) r
        → Says (AreParts bytes) (IsBroken bytes) (blamed (λ broken. record { place = place_of (length bytes) broken.0 broken.1; what = broken.1 }) r)
    by (Ok g) says = says
    by (Err b) says = record { rest = says.0; breaks = says.1.0; place = sym (says.1.1.place (length bytes)) }

-- The answer and the words say the same.

pub to_spelled : (bytes : List ℕ) (tags : List Tag) (game : GameTree) → IsRecord bytes tags game → IsSpelled bytes tags game
to_spelled bytes tags game is = subst (Says (AreParts bytes) (IsBroken bytes)) is.answer (answer_says bytes)

pub to_broken : (bytes : List ℕ) (fault : RecordFault) → IsRecordFault bytes fault → IsBroken bytes fault
to_broken bytes fault is = subst (Says (AreParts bytes) (IsBroken bytes)) is.answer (answer_says bytes)

pub from_spelled : (bytes : List ℕ) (tags : List Tag) (game : GameTree) → IsSpelled bytes tags game → IsRecord bytes tags game
from_spelled bytes tags game spelled = by (record_answer bytes) refl (answer_says bytes)
  where
    by : (r : Result (List Tag × GameTree) RecordFault) → record_answer bytes ≡ r → Says (AreParts bytes) (IsBroken bytes) r → IsRecord bytes tags game
    by (Ok g) is says =
        let same = spelled-one bytes g.0 tags g.1 game says spelled in record { answer = is ∙ (λ i. Ok (same.0 i, same.1 i)) }
    by (Err fault) is says = absurd (spelled-unbroken bytes tags game fault spelled says)

pub from_broken : (bytes : List ℕ) (fault : RecordFault) → IsBroken bytes fault → IsRecordFault bytes fault
from_broken bytes fault broken = by (record_answer bytes) refl (answer_says bytes)
  where
    by : (r : Result (List Tag × GameTree) RecordFault) → record_answer bytes ≡ r → Says (AreParts bytes) (IsBroken bytes) r → IsRecordFault bytes fault
    by (Ok g) is says = absurd (spelled-unbroken bytes g.0 g.1 fault says broken)
    by (Err other) is says = record { answer = is ∙ ap Err (broken-one bytes other fault says broken) }

pub was_read : (bytes : List ℕ) (tags : List Tag) (game : GameTree) → IsRead bytes tags game → IsRecord bytes tags game
was_read bytes tags game read = from_spelled bytes tags game (read-record bytes tags game read)

-- The answer is one.

pub record-one : (bytes : List ℕ) (tags others : List Tag) (game other : GameTree) → IsRecord bytes tags game → IsRecord bytes others other
    → (tags ≡ others) × (game ≡ other)
record-one bytes tags others game other r s = same_game (tags, game) (others, other) (sym r.answer ∙ s.answer)
  where
    same_game : (a b : List Tag × GameTree) → ◌≡◌ {A = Result (List Tag × GameTree) RecordFault} (Ok a) (Ok b) → (a.0 ≡ b.0) × (a.1 ≡ b.1)
    same_game a b e = let same : a ≡ b = cc in (ap (λ (g : List Tag × GameTree). g.0) same, ap (λ (g : List Tag × GameTree). g.1) same)

pub fault-one : (bytes : List ℕ) (fault other : RecordFault) → IsRecordFault bytes fault → IsRecordFault bytes other → fault ≡ other
fault-one bytes fault other f g =
    let same : ◌≡◌ {A = Result (List Tag × GameTree) RecordFault} (Err fault) (Err other) = sym f.answer ∙ g.answer in cc

pub record-unbroken : (bytes : List ℕ) (tags : List Tag) (game : GameTree) (fault : RecordFault) → IsRecord bytes tags game → IsRecordFault bytes fault → ⊥
record-unbroken bytes tags game fault r f =
    let same : ◌≡◌ {A = Result (List Tag × GameTree) RecordFault} (Ok (tags, game)) (Err fault) = sym r.answer ∙ f.answer in cc

answered : (bytes : List ℕ) (answer : Result (List Tag × GameTree) RecordFault) → record_answer bytes ≡ answer
    → IsSomeRecord bytes ⊎ ((fault : RecordFault) × IsRecordFault bytes fault)
answered bytes (Ok (tags, game)) is = inl (tags, (game, record { answer = is }))
answered bytes (Err fault) is = inr (fault, record { answer = is })

pub either : (bytes : List ℕ) → IsSomeRecord bytes ⊎ ((fault : RecordFault) × IsRecordFault bytes fault)
either bytes = answered bytes (record_answer bytes) refl
