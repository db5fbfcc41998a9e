-- Reading the fields one after another gives what the grammar of a FEN says, and its first fault.
use Rattle.std.proofs.Common.{◌≡◌, ℕ, inl, inr, Bool, true, false, cond, ◌==◌, nat_le, List, [], ◌∷◌, Option, Some, None, Result, Ok, Err, ok_or, MatchResult, IfOk, IfErr, get_or, length, refl, sym, ◌∙◌, ap, subst}
use Rattle.std.proofs.lemmas.Bool.{leb-true, le-leb}
use Rattle.cell_core.specs.declared.man.Colour.{Colour}
use Rattle.cell_core.specs.Board.{Men}
use Rattle.cell_core.specs.Steps.{◌>>=◌}
use Rattle.chess_laws.specs.declared.setup.Rights.{Rights}
use Rattle.chess_laws.specs.declared.setup.Setup.{Setup}
use Rattle.chess_laws.specs.declared.fault.PlaceFault.{PlaceFault}
use Rattle.chess_laws.specs.declared.fault.PlaceFault.TheVariants.{Kings, Pawns, TooMany, InCheck, EnPassant}
use Rattle.chess_laws.specs.Position.{Sound, Breaks}
use Rattle.chess_text.specs.declared.fault.FenFault.{FenFault}
use Rattle.chess_text.specs.declared.fault.FenFault.TheVariants.{Field}
use Rattle.chess_text.specs.Filling.{board_named}
use Rattle.chess_text.specs.Fields.{or_word, Spaced}
use Rattle.chess_text.specs.FieldReading.{word_of, side_named, rights_named, en_passant_named, is_counter, counters_named, rights_from, setup_named, Answers}
use Rattle.chess_text.specs.Fault.{fault_of}
use Rattle.chess_text.specs.Fen.{placement_field, side_field, rights_field, en_passant_field, half_moves_field, moves_field, FenText, FenReads, kept, FaultFrom, FirstFault, FenFaultOf}
use Rattle.chess_text.proofs.PlacementLaws.{placement_fills, placement_filled}
use Rattle.chess_text.proofs.FieldLaws.{side_named-side_text, side_text_named, rights_text_named, rights_named-rights_text, en_passant_text_named, en_passant_named-en_passant_text, counter_text_named, is_counter-counter_text}
use Rattle.chess_text.proofs.WordLaws.{words_of, or_word-spaced, no_word-spaced, rests, word_of-rests}

-- ---- the fields by the words

-- a test as a field that says nothing more
unfoldable pub flag : Bool → Option (Unit {0})
flag true = Some tt
flag false = None

unfoldable pub counters_then : List (List ℕ) → Result Setup FenFault → Result Setup FenFault
counters_then words r =
    ok_or (flag (is_counter (half_moves_field words))) (Field 5) >>= λ (counter : Unit {0}).
    (ok_or (flag (is_counter (moves_field words))) (Field 6) >>= λ (counter : Unit {0}).
    (ok_or (flag (nat_le (length words) 6)) (Field 7) >>= λ (counter : Unit {0}). r))

unfoldable pub square_then : List (List ℕ) → Men → Colour → Rights → Result Setup FenFault
square_then words board side rights =
    ok_or (en_passant_named side (en_passant_field words)) (Field 4) >>= λ (square : Option ℕ).
    counters_then words (Ok (record { board = board; side = side; rights = rights; en_passant = square }))

unfoldable pub rights_then : List (List ℕ) → Men → Colour → Result Setup FenFault
rights_then words board side =
    ok_or (rights_named (rights_field words)) (Field 3) >>= λ (rights : Rights). square_then words board side rights

unfoldable pub side_then : List (List ℕ) → Men → Result Setup FenFault
side_then words board =
    ok_or (side_named (side_field words)) (Field 2) >>= λ (side : Colour). rights_then words board side

unfoldable pub fields_named : List (List ℕ) → Result Setup FenFault
fields_named words = ok_or (board_named (placement_field words)) (Field 1) >>= λ (board : Men). side_then words board

bind_same : {A B : Type 0} (r : Result A FenFault) (f g : A → Result B FenFault) → ((x : A) → f x ≡ g x)
    → (r >>= f) ≡ (r >>= g)
bind_same (Ok x) f g same = same x
bind_same (Err fault) f g same = refl

-- the counters as tests one after another
counters_flags : (b c d : Bool) (r : Result Setup FenFault)
    → (cond b (cond c (cond d (Ok tt) (Err (Field 7))) (Err (Field 6))) (Err (Field 5)) >>= λ (counters : Unit {0}). r)
    ≡ (ok_or (flag b) (Field 5) >>= λ (counter : Unit {0}).
    (ok_or (flag c) (Field 6) >>= λ (counter : Unit {0}).
    (ok_or (flag d) (Field 7) >>= λ (counter : Unit {0}). r)))
unfolding flag
counters_flags true true true r = refl
counters_flags true true false r = refl
counters_flags true false d r = refl
counters_flags false c d r = refl

module _ (words : List (List ℕ)) (text : List ℕ) (spaced : Spaced words text) where
  word_at : (n : ℕ) → word_of (rests n text) ≡ get_or words n []
  word_at n = word_of-rests n words text spaced

  or_word_at : (n : ℕ) (other : List ℕ) → or_word (word_of (rests n text)) other ≡ get_or words n other
  or_word_at n other = ap (λ (word : List ℕ). or_word word other) (word_at n) ∙ or_word-spaced words text n other spaced

  counters_spaced : (r : Setup) → (counters_named (rests 4 text) >>= λ (counters : Unit {0}). Ok r) ≡ counters_then words (Ok r)
  unfolding counters_named counters_then rests
  counters_spaced r =
      rw (
        or_word_at 4 (48 ∷ []),
        or_word_at 5 (49 ∷ []),
        ap (λ (word : List ℕ). length word == 0) (word_at 6) ∙ no_word-spaced words text 6 spaced,
      )
      (counters_flags _ _ _ _)

  rights_spaced : (board : Men) (side : Colour) → rights_from (rests 2 text) board side ≡ rights_then words board side
  unfolding rights_from rights_then square_then rests
  rights_spaced board side =
      let setup : Rights → Option ℕ → Setup
      = λ rights square. record { board = board; side = side; rights = rights; en_passant = square } in
      rw (or_word_at 2 (45 ∷ [])) (bind_same _ _ (square_then words board side) (λ rights.
      rw (or_word_at 3 (45 ∷ [])) (bind_same _ _
      (λ (square : Option ℕ). counters_then words (Ok (setup rights square)))
      (λ square. counters_spaced (setup rights square)))))

  pub setup_named-spaced : setup_named text ≡ fields_named words
  unfolding setup_named fields_named side_then rests
  setup_named-spaced =
      rw (word_at 0) (bind_same _ _ (side_then words) (λ board.
      rw (word_at 1) (bind_same _ _ (rights_then words board) (λ side. rights_spaced board side))))

-- ---- one field

none_unless : {A : Type 0} (o : Option A) → ((x : A) → o ≡ Some x → ⊥) → o ≡ None
none_unless None h = refl
none_unless (Some x) h = absurd (h x refl)

-- the fault that an answer has, or what holds of it
Ends : {B : Type 0} → (B → Type 0) → FenFault → Result B FenFault → Type 0
Ends E fault r = MatchResult r E (λ first. first ≡ fault)

fault_found : {A B : Type 0} (n : ℕ) (Says : A → Type 0) (named : Option A) (fault : FenFault)
    (next : A → Result B FenFault) (E : B → Type 0) (Later : A → Type 0)
    → ((x : A) → named ≡ Some x → Says x) → ((x : A) → Says x → named ≡ Some x)
    → Ends E fault (ok_or named (Field n) >>= next) → ((x : A) → Ends E fault (next x) → Later x)
    → FaultFrom n Says fault Later
unfolding Ends
fault_found n Says None fault next E Later says names h later =
    inl (λ x said. let e = names x said in absurd (cc), sym h)
fault_found n Says (Some x) fault next E Later says names h later = inr (x, says x refl, later x h)

fault_only : {A B : Type 0} (n : ℕ) (Says : A → Type 0) (named : Option A) (fault : FenFault)
    (next : A → Result B FenFault) (E : B → Type 0) (Later : A → Type 0)
    → ((x : A) → named ≡ Some x → Says x) → ((x : A) → Says x → named ≡ Some x)
    → FaultFrom n Says fault Later → ((x : A) → Later x → Ends E fault (next x))
    → Ends E fault (ok_or named (Field n) >>= next)
unfolding Ends
fault_only n Says named fault next E Later says names (inl (none, is)) later =
    rw (none_unless named (λ x e. none x (says x e))) (sym is)
fault_only n Says named fault next E Later says names (inr (x, said, after)) later = rw (names x said) (later x after)

-- ---- the whole text

flag_true : (b : Bool) (x : Unit {0}) → flag b ≡ Some x → b ≡ true
unfolding flag
flag_true true x h = refl
flag_true false x h = cc

true_flag : (b : Bool) (x : Unit {0}) → b ≡ true → flag b ≡ Some x
unfolding flag
true_flag b x h = rw h refl

-- the fields say this, and as a position it breaks a rule for which the fault stands
Broken : FenFault → Setup → Type 0
Broken fault says = (broken : PlaceFault) × (fault ≡ fault_of broken) × Breaks (kept says) broken

first_fault_found : (words : List (List ℕ)) (fault : FenFault) → Ends (Broken fault) fault (fields_named words)
    → FirstFault words fault
unfolding fields_named side_then rights_then square_then counters_then Broken Ends
first_fault_found words fault h =
    fault_found 1 _ _ fault _ (Broken fault) _
    (λ board. placement_filled (placement_field words) board) (λ board. placement_fills (placement_field words) board) h
    (λ board h₁. fault_found 2 _ _ fault _ (Broken fault) _
    (λ side. side_text_named (side_field words) side) (λ side e. rw e (side_named-side_text side)) h₁
    (λ side h₂. fault_found 3 _ _ fault _ (Broken fault) _
    (λ rights. rights_text_named (rights_field words) rights) (λ rights. rights_named-rights_text (rights_field words) rights) h₂
    (λ rights h₃. fault_found 4 _ _ fault _ (Broken fault) _
    (λ square. en_passant_text_named side (en_passant_field words) square)
    (λ square. en_passant_named-en_passant_text side (en_passant_field words) square) h₃
    (λ square h₄. fault_found 5 _ _ fault _ (Broken fault) _
    (λ x e. counter_text_named (half_moves_field words) (flag_true _ x e))
    (λ x text. true_flag _ x (is_counter-counter_text (half_moves_field words) text)) h₄
    (λ _ h₅. fault_found 6 _ _ fault _ (Broken fault) _
    (λ x e. counter_text_named (moves_field words) (flag_true _ x e))
    (λ x text. true_flag _ x (is_counter-counter_text (moves_field words) text)) h₅
    (λ _ h₆. fault_found 7 _ _ fault _ (Broken fault) _
    (λ x e. leb-true (length words) 6 (flag_true _ x e))
    (λ x few. true_flag _ x (le-leb (length words) 6 few)) h₆
    (λ _ h₇. h₇)))))))

first_fault_only : (words : List (List ℕ)) (fault : FenFault) → FirstFault words fault
    → Ends (Broken fault) fault (fields_named words)
unfolding fields_named side_then rights_then square_then counters_then Broken Ends
first_fault_only words fault h =
    fault_only 1 _ _ fault _ (Broken fault) _
    (λ board. placement_filled (placement_field words) board) (λ board. placement_fills (placement_field words) board) h
    (λ board h₁. fault_only 2 _ _ fault _ (Broken fault) _
    (λ side. side_text_named (side_field words) side) (λ side e. rw e (side_named-side_text side)) h₁
    (λ side h₂. fault_only 3 _ _ fault _ (Broken fault) _
    (λ rights. rights_text_named (rights_field words) rights) (λ rights. rights_named-rights_text (rights_field words) rights) h₂
    (λ rights h₃. fault_only 4 _ _ fault _ (Broken fault) _
    (λ square. en_passant_text_named side (en_passant_field words) square)
    (λ square. en_passant_named-en_passant_text side (en_passant_field words) square) h₃
    (λ square h₄. fault_only 5 _ _ fault _ (Broken fault) _
    (λ x e. counter_text_named (half_moves_field words) (flag_true _ x e))
    (λ x text. true_flag _ x (is_counter-counter_text (half_moves_field words) text)) h₄
    (λ _ h₅. fault_only 6 _ _ fault _ (Broken fault) _
    (λ x e. counter_text_named (moves_field words) (flag_true _ x e))
    (λ x text. true_flag _ x (is_counter-counter_text (moves_field words) text)) h₅
    (λ _ h₆. fault_only 7 _ _ fault _ (Broken fault) _
    (λ x e. leb-true (length words) 6 (flag_true _ x e))
    (λ x few. true_flag _ x (le-leb (length words) 6 few)) h₆
    (λ _ h₇. h₇)))))))

-- the first fault of a text, where its fields have one or what they say is no position
pub fen_fault_found : (text : List ℕ) (fault : FenFault)
    → MatchResult (setup_named text)
    (λ says. (broken : PlaceFault) × (fault ≡ fault_of broken) × Breaks (kept says) broken) (λ first. first ≡ fault)
    → FenFaultOf text fault
unfolding Broken Ends
fen_fault_found text fault h =
    let w = words_of text in
    (w.0, w.1, first_fault_found w.0 fault (rw (setup_named-spaced w.0 text w.1) at h))

pub fen_fault_only : (text : List ℕ) (fault : FenFault) → FenFaultOf text fault
    → MatchResult (setup_named text)
    (λ says. (broken : PlaceFault) × (fault ≡ fault_of broken) × Breaks (kept says) broken) (λ first. first ≡ fault)
unfolding Broken Ends
fen_fault_only text fault (words, spaced, first) =
    rw (setup_named-spaced words text spaced) (first_fault_only words fault first)

same_Ok : {B : Type 0} (x y : B) → ◌≡◌ {A = Result B FenFault} (Ok x) (Ok y) → x ≡ y
same_Ok x y e = cc

-- what an answer of Ok went through
field_ok : {A B : Type 0} (n : ℕ) (named : Option A) (next : A → Result B FenFault) (y : B) (P : Type 0)
    → (ok_or named (Field n) >>= next) ≡ Ok y → ((x : A) → named ≡ Some x → next x ≡ Ok y → P) → P
field_ok n None next y P h found = absurd (cc)
field_ok n (Some x) next y P h found = found x refl h

text_of_fields : (words : List (List ℕ)) (text : List ℕ) (says : Setup) → Spaced words text
    → fields_named words ≡ Ok says → FenText text says
unfolding fields_named side_then rights_then square_then counters_then
text_of_fields words text says spaced h =
    let P : Type 0 = FenText text says in
    field_ok 1 _ _ says P h (λ board e₁ h₁.
    field_ok 2 _ _ says P h₁ (λ side e₂ h₂.
    field_ok 3 _ _ says P h₂ (λ rights e₃ h₃.
    field_ok 4 _ _ says P h₃ (λ square e₄ h₄.
    field_ok 5 _ _ says P h₄ (λ half_moves e₅ h₅.
    field_ok 6 _ _ says P h₅ (λ moves e₆ h₆.
    field_ok 7 _ _ says P h₆ (λ seventh e₇ h₇.
    subst (λ (s : Setup). FenText text s) (same_Ok _ _ h₇) (record {
      words = words;
      spaced = spaced;
      placement = placement_filled (placement_field words) board e₁;
      side = side_text_named (side_field words) side e₂;
      rights = rights_text_named (rights_field words) rights e₃;
      en_passant = en_passant_text_named side (en_passant_field words) square e₄;
      half_moves = counter_text_named (half_moves_field words) (flag_true _ half_moves e₅);
      moves = counter_text_named (moves_field words) (flag_true _ moves e₆);
      no_seventh = leb-true (length words) 6 (flag_true _ seventh e₇);
    }))))))))

fields_of_text : (text : List ℕ) (says : Setup) (t : FenText text says) → fields_named t.words ≡ Ok says
unfolding fields_named side_then rights_then square_then counters_then
fields_of_text text says t =
    rw (
      placement_fills (placement_field t.words) says.board t.placement,
      t.side,
      side_named-side_text says.side,
      rights_named-rights_text (rights_field t.words) says.rights t.rights,
      en_passant_named-en_passant_text says.side (en_passant_field t.words) says.en_passant t.en_passant,
      true_flag _ tt (is_counter-counter_text (half_moves_field t.words) t.half_moves),
      true_flag _ tt (is_counter-counter_text (moves_field t.words) t.moves),
      true_flag _ tt (le-leb (length t.words) 6 t.no_seventh),
    ) refl

pub fen_text_found : (text : List ℕ) (says : Setup) → setup_named text ≡ Ok says → FenText text says
fen_text_found text says h =
    let w = words_of text in
    text_of_fields w.0 text says w.1 (rw (setup_named-spaced w.0 text w.1) at h)

pub fen_text_only : (text : List ℕ) (says : Setup) → FenText text says → setup_named text ≡ Ok says
fen_text_only text says t = setup_named-spaced t.words text t.spaced ∙ fields_of_text text says t

-- ---- the answer

-- a position that keeps the rules breaks none
breaks_none : (p : Setup) (broken : PlaceFault) → Breaks p broken → Sound p → ⊥
breaks_none p Kings h sound = h sound.kings
breaks_none p Pawns h sound = h.1 sound.pawns
breaks_none p TooMany h sound = h.2 sound.few
breaks_none p InCheck h sound = sound.not_in_check h.3
breaks_none p EnPassant h sound = h.4 sound.en_passant

-- one rule is the first that is broken
breaks_one : (p : Setup) (a b : PlaceFault) → Breaks p a → Breaks p b → a ≡ b
breaks_one p Kings Kings h k = refl
breaks_one p Kings Pawns h k = absurd (h k.0)
breaks_one p Kings TooMany h k = absurd (h k.0)
breaks_one p Kings InCheck h k = absurd (h k.0)
breaks_one p Kings EnPassant h k = absurd (h k.0)
breaks_one p Pawns Kings h k = absurd (k h.0)
breaks_one p Pawns Pawns h k = refl
breaks_one p Pawns TooMany h k = absurd (h.1 k.1)
breaks_one p Pawns InCheck h k = absurd (h.1 k.1)
breaks_one p Pawns EnPassant h k = absurd (h.1 k.1)
breaks_one p TooMany Kings h k = absurd (k h.0)
breaks_one p TooMany Pawns h k = absurd (k.1 h.1)
breaks_one p TooMany TooMany h k = refl
breaks_one p TooMany InCheck h k = absurd (h.2 k.2)
breaks_one p TooMany EnPassant h k = absurd (h.2 k.2)
breaks_one p InCheck Kings h k = absurd (k h.0)
breaks_one p InCheck Pawns h k = absurd (k.1 h.1)
breaks_one p InCheck TooMany h k = absurd (k.2 h.2)
breaks_one p InCheck InCheck h k = refl
breaks_one p InCheck EnPassant h k = absurd (k.3 h.3)
breaks_one p EnPassant Kings h k = absurd (k h.0)
breaks_one p EnPassant Pawns h k = absurd (k.1 h.1)
breaks_one p EnPassant TooMany h k = absurd (k.2 h.2)
breaks_one p EnPassant InCheck h k = absurd (h.3 k.3)
breaks_one p EnPassant EnPassant h k = refl

-- the answer where the fields say something
Placed : Setup → Result Setup FenFault → Type 0
Placed says answer =
    MatchResult answer (λ p. (p ≡ kept says) × Sound p)
    (λ fault. (broken : PlaceFault) × (fault ≡ fault_of broken) × Breaks (kept says) broken)

found_from : (text : List ℕ) (fields : Result Setup FenFault) (answer : Result Setup FenFault) → setup_named text ≡ fields
    → MatchResult fields (λ says. Placed says answer) (λ fault. answer ≡ Err fault) → IfOk answer (FenReads text)
unfolding Placed
found_from text (Ok says) (Ok p) is h =
    record { says = says; fields = fen_text_found text says is; position = h.0; sound = h.1 }
found_from text (Ok says) (Err fault) is h = tt
found_from text (Err first) (Ok p) is h = absurd (cc)
found_from text (Err first) (Err fault) is h = tt

pub answers_found : (text : List ℕ) (answer : Result Setup FenFault) → Answers text answer → IfOk answer (FenReads text)
unfolding Placed
answers_found text answer h = found_from text (setup_named text) answer refl h

only_from : (says : Setup) (answer : Result Setup FenFault) (p : Setup) → Placed says answer → p ≡ kept says → Sound p
    → answer ≡ Ok p
unfolding Placed
only_from says (Ok q) p h is sound = ap Ok (h.0 ∙ sym is)
only_from says (Err fault) p (broken, stands, breaks) is sound =
    absurd (breaks_none (kept says) broken breaks (subst Sound is sound))

pub answers_only : (text : List ℕ) (answer : Result Setup FenFault) → Answers text answer → (p : Setup) → FenReads text p
    → answer ≡ Ok p
unfolding Placed
answers_only text answer h p reads =
    let placed : Placed reads.says answer = rw (fen_text_only text reads.says reads.fields) at h in
    only_from reads.says answer p placed reads.position reads.sound

fault_from : (text : List ℕ) (fields : Result Setup FenFault) (answer : Result Setup FenFault) → setup_named text ≡ fields
    → MatchResult fields (λ says. Placed says answer) (λ fault. answer ≡ Err fault) → IfErr answer (FenFaultOf text)
unfolding Placed
fault_from text (Ok says) (Ok p) is h = tt
fault_from text (Ok says) (Err fault) is h = fen_fault_found text fault (rw is h)
fault_from text (Err first) (Ok p) is h = tt
fault_from text (Err first) (Err fault) is h = fen_fault_found text fault (rw is (cc))

pub answers_fault : (text : List ℕ) (answer : Result Setup FenFault) → Answers text answer → IfErr answer (FenFaultOf text)
unfolding Placed
answers_fault text answer h = fault_from text (setup_named text) answer refl h

broken_from : (says : Setup) (answer : Result Setup FenFault) (fault : FenFault) (broken : PlaceFault) → Placed says answer
    → fault ≡ fault_of broken → Breaks (kept says) broken → answer ≡ Err fault
unfolding Placed
broken_from says (Ok p) fault broken h stands breaks =
    absurd (breaks_none (kept says) broken breaks (subst Sound h.0 h.1))
broken_from says (Err other) fault broken (found, stands', breaks') stands breaks =
    ap Err (stands' ∙ ap fault_of (breaks_one (kept says) found broken breaks' breaks) ∙ sym stands)

first_from : (text : List ℕ) (fields : Result Setup FenFault) (answer : Result Setup FenFault) (fault : FenFault)
    → MatchResult fields (λ says. Placed says answer) (λ fault. answer ≡ Err fault)
    → MatchResult fields
    (λ says. (broken : PlaceFault) × (fault ≡ fault_of broken) × Breaks (kept says) broken) (λ first. first ≡ fault)
    → answer ≡ Err fault
first_from text (Ok says) answer fault h (broken, stands, breaks) = broken_from says answer fault broken h stands breaks
first_from text (Err first) answer fault h is = h ∙ ap Err is

pub answers_first : (text : List ℕ) (answer : Result Setup FenFault) → Answers text answer → (fault : FenFault)
    → FenFaultOf text fault → answer ≡ Err fault
unfolding Placed
answers_first text answer h fault first = first_from text (setup_named text) answer fault h (fen_fault_only text fault first)
