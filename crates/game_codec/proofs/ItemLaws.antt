-- What may stand at a place of a record's moves is one item or one fault.
use Rattle.std.proofs.Common.{◌≡◌, ℕ, ◌<◌, ◌≤◌, true, false, cond, eqb, ltb, IsTrue, List, [], ◌∷◌, Ok, Err, drop, inl, inr, refl, sym, ◌∙◌, ap, arith}
use Rattle.std.specs.Prelude.{Result}
use Rattle.std.proofs.lemmas.Bool.Decides.{nat_tests}
use Rattle.cell_core.specs.declared.step.Move.{Move}
use Rattle.move_codec.specs.declared.fault.MoveFault.{MoveFault}
use Rattle.move_codec.specs.Packed.{Decodes, is_mark}
use Rattle.move_codec.proofs.RoundTrip.{Decodes-one}
use Rattle.game_codec.specs.Place.{Place, Takes, FaultAt, IsMisplaced}
use Rattle.game_codec.specs.Token.{Token, Play, Nag, Comment, Open, Close, End}
use Rattle.game_codec.specs.declared.fault.RecordWhat.{RecordWhat}
use Rattle.game_codec.specs.declared.fault.RecordWhat.TheVariants as what
use Rattle.move_codec.proofs.Decoding.{to_decodes}

-- An item with the bytes behind it, or a fault.
abbrev Answer : Type 0
Answer = Result (Token × List ℕ) RecordWhat

-- What a mark and the bytes behind it are at a place.
abbrev nag_at : List ℕ → Answer
nag_at [] = Err what.Short
nag_at (n ∷ later) = Ok (Nag n, later)

abbrev marked : Place → ℕ → List ℕ → Answer
marked p byte later =
    cond (eqb byte 11)
    (cond p.has_move (nag_at later) (Err what.Mark))
    (cond (eqb byte 12)
    (cond p.has_comment (Err what.TwoComments) (Ok (Comment, later)))
    (cond (eqb byte 13)
    (cond p.has_move (cond (ltb p.depth 200) (Ok (Open, later)) (Err what.Depth)) (Err what.Mark))
    (cond (eqb byte 14)
    (cond (eqb p.depth 0) (Err what.Mark) (Ok (Close, later)))
    (cond (eqb p.depth 0) (Ok (End, later)) (Err what.Mark)))))

-- What a move is, by what its bytes decode to.
abbrev moved : List ℕ → Result (Move × ℕ) MoveFault → Answer
moved bytes (Ok decoded) = Ok (Play decoded.0, drop decoded.1 bytes)
moved bytes (Err fault) = Err (what.Move fault)

-- How bytes come to an answer.
data Told (p : Place) (bytes : List ℕ) (a : Answer) : Type 0 where
  ends : bytes ≡ [] → a ≡ Err what.Short → Told p bytes a
  marks : (byte : ℕ) (later : List ℕ) → bytes ≡ byte ∷ later → is_mark byte ≡ true → a ≡ marked p byte later → Told p bytes a
  moves : (byte : ℕ) (later : List ℕ) → bytes ≡ byte ∷ later → is_mark byte ≡ false → (d : Result (Move × ℕ) MoveFault)
      → Decodes p.here bytes d → a ≡ moved bytes d → Told p bytes a

same_mark : (p : Place) (bytes : List ℕ) (a b : Answer) (x y : ℕ) (later rest : List ℕ) → bytes ≡ x ∷ later → bytes ≡ y ∷ rest
    → a ≡ marked p x later → b ≡ marked p y rest → a ≡ b
same_mark p bytes a b x y later rest first second is_a is_b =
    let head : x ≡ y = cc in
    let tail : later ≡ rest = cc in
    is_a ∙ (rw (head, tail) (sym is_b))

-- An answer is the only one.
Told-one : (p : Place) (bytes : List ℕ) (a b : Answer) → Told p bytes a → Told p bytes b → a ≡ b
Told-one p bytes a b first second =
    elim first [
      | ends none is_a ↦
          elim second [
            | ends none' is_b ↦ is_a ∙ sym is_b
            | marks y rest is' mark' is_b ↦ absurd (cc)
            | moves y rest is' mark' e decodes' is_b ↦ absurd (cc)
          ]
      | marks x later is mark is_a ↦
          elim second [
            | ends none' is_b ↦ absurd (cc)
            | marks y rest is' mark' is_b ↦ same_mark p bytes a b x y later rest is is' is_a is_b
            | moves y rest is' mark' e decodes' is_b ↦ absurd (cc)
          ]
      | moves x later is mark d decodes is_a ↦
          elim second [
            | ends none' is_b ↦ absurd (cc)
            | marks y rest is' mark' is_b ↦ absurd (cc)
            | moves y rest is' mark' e decodes' is_b ↦ is_a ∙ ap (moved bytes) (Decodes-one p.here bytes d e decodes decodes') ∙ sym is_b
          ]
    ]

-- An item that stands at a place is an answer

told_open : (p : Place) (later : List ℕ) → IsTrue p.has_move → p.depth < 200 → ◌≡◌ {A = Answer} (Ok (Open, later)) (marked p 13 later)
told_open p later move room = let test : ltb p.depth 200 ≡ true = grind (arith, nat_tests) in rw (move, test) refl

told_close : (p : Place) (later : List ℕ) → 0 < p.depth → ◌≡◌ {A = Answer} (Ok (Close, later)) (marked p 14 later)
told_close p later deep = let test : eqb p.depth 0 ≡ false = grind (arith, nat_tests) in rw test refl

Takes-told : (p : Place) (bytes : List ℕ) (a : Token) (r : List ℕ) → Takes p bytes a r → Told p bytes (Ok (a, r))
Takes-told p bytes (Play m) r h =
    moves h.0.0 h.0.1 h.0.2 h.0.3 (Ok (m, h.1.0)) (to_decodes p.here bytes (Ok (m, h.1.0)) h.1.1) (rw h.1.2 refl)
Takes-told p bytes (Nag n) r h = marks 11 (n ∷ r) h.1 refl (rw h.0 refl)
Takes-told p bytes Comment r h = marks 12 r h.1 refl (rw h.0 refl)
Takes-told p bytes Open r h = marks 13 r h.2 refl (told_open p r h.0 h.1)
Takes-told p bytes Close r h = marks 14 r h.1 refl (told_close p r h.0)
Takes-told p bytes End r h = marks 15 r h.1 refl (rw h.0 refl)

-- And so is a fault

told_depth : (p : Place) (later : List ℕ) → IsTrue p.has_move → 200 ≤ p.depth → ◌≡◌ {A = Answer} (Err what.Depth) (marked p 13 later)
told_depth p later move deep = let test : ltb p.depth 200 ≡ false = grind (arith, nat_tests) in rw (move, test) refl

told_end : (p : Place) (later : List ℕ) → 0 < p.depth → ◌≡◌ {A = Answer} (Err what.Mark) (marked p 15 later)
told_end p later deep = let test : eqb p.depth 0 ≡ false = grind (arith, nat_tests) in rw test refl

told_misplaced : (p : Place) (bytes : List ℕ) → IsMisplaced p bytes → Told p bytes (Err what.Mark)
told_misplaced p [] h = absurd h
told_misplaced p (byte ∷ later) (inl (none, inl is)) = marks 11 later (rw is refl) refl (rw none refl)
told_misplaced p (byte ∷ later) (inl (none, inr is)) = marks 13 later (rw is refl) refl (rw none refl)
told_misplaced p (byte ∷ later) (inr (inl (top, is))) = marks 14 later (rw is refl) refl (rw top refl)
told_misplaced p (byte ∷ later) (inr (inr (deep, is))) = marks 15 later (rw is refl) refl (told_end p later deep)

told_short : (p : Place) (bytes : List ℕ) → FaultAt p bytes what.Short → Told p bytes (Err what.Short)
told_short p bytes (inl none) = ends none refl
told_short p bytes (inr (move, is)) = marks 11 [] is refl (rw move refl)

FaultAt-told : (p : Place) (bytes : List ℕ) (w : RecordWhat) → FaultAt p bytes w → Told p bytes (Err w)
FaultAt-told p bytes what.Short h = told_short p bytes h
FaultAt-told p bytes what.Mark h = told_misplaced p bytes h
FaultAt-told p bytes what.TwoComments h = marks 12 h.1.0 h.1.1 refl (rw h.0 refl)
FaultAt-told p bytes what.Depth h = marks 13 h.1.1.0 h.1.1.1 refl (told_depth p h.1.1.0 h.0 h.1.0)
FaultAt-told p bytes (what.Move fault) h = moves h.0.0 h.0.1 h.0.2 h.0.3 (Err fault) (to_decodes p.here bytes (Err fault) h.1) refl
FaultAt-told p bytes what.TagCode h = absurd h
FaultAt-told p bytes what.TagName h = absurd h
FaultAt-told p bytes what.TagValue h = absurd h
FaultAt-told p bytes what.Fen h = absurd h
FaultAt-told p bytes what.Extra h = absurd h

-- The laws

same_taken : (a b : Token) (r s : List ℕ) → ◌≡◌ {A = Answer} (Ok (a, r)) (Ok (b, s)) → (a ≡ b) × (r ≡ s)
same_taken a b r s h =
    let same : ◌≡◌ {A = Token × List ℕ} (a, r) (b, s) = cc in
    (ap (λ (x : Token × List ℕ). x.0) same, ap (λ (x : Token × List ℕ). x.1) same)

-- The bytes at a place begin with one item, and the same bytes follow it.
pub Takes-one : (p : Place) (bytes : List ℕ) (a b : Token) (r s : List ℕ) → Takes p bytes a r → Takes p bytes b s → (a ≡ b) × (r ≡ s)
Takes-one p bytes a b r s first second =
    same_taken a b r s (Told-one p bytes (Ok (a, r)) (Ok (b, s)) (Takes-told p bytes a r first) (Takes-told p bytes b s second))

-- An item that may stand at a place is no fault.
pub Takes-unbroken : (p : Place) (bytes : List ℕ) (a : Token) (r : List ℕ) (w : RecordWhat) → Takes p bytes a r → FaultAt p bytes w → ⊥
Takes-unbroken p bytes a r w takes fault =
    let same : ◌≡◌ {A = Answer} (Ok (a, r)) (Err w) =
    Told-one p bytes (Ok (a, r)) (Err w) (Takes-told p bytes a r takes) (FaultAt-told p bytes w fault) in
    absurd (cc)

-- What is wrong at a place is one fault.
pub FaultAt-one : (p : Place) (bytes : List ℕ) (w v : RecordWhat) → FaultAt p bytes w → FaultAt p bytes v → w ≡ v
FaultAt-one p bytes w v first second =
    let same : ◌≡◌ {A = Answer} (Err w) (Err v) =
    Told-one p bytes (Err w) (Err v) (FaultAt-told p bytes w first) (FaultAt-told p bytes v second) in
    cc
