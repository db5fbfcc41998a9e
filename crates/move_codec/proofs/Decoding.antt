-- What is decoded, from what is named and whether it is legal: as a relation and as a function.
use Rattle.move_codec.proofs.Words.{◌≡◌, ℕ, ◌-◌, ◌/◌, ◌%◌, ◌<◌, ◌≤◌, Bool, true, false, cond, eqb, leb, ltb, ◌&&◌, List, [], ◌∷◌, Option, Some, None, Ok, Err, length, refl, sym, ap, subst, arith, Result, slice_get, and_parts, leb-true, same_Some, Colour, Kind, King, Queen, Rook, Bishop, Knight, Pawn, Man, Move, man_at, file_of, MoveFault, Short, NoMan, Value, Illegal, Numbered, squares_of, Decodes, HasHighSecond, diagonal_move, is_diagonal, king_differences, knight_differences, by_difference, named, named_by, named_from, on_diagonal, on_line, pawn_square, promotion, to_square, inl, inr, cases_Bool, false_from_ne_true}
use Rattle.move_codec.specs.Packed.{named_value, decoded, judged}
use Rattle.std.proofs.lemmas.Bool.Decides.{not_from_Decides}
use Rattle.std.specs.Prelude.{IfOk}
use Rattle.chess_laws.specs.LegalNow.{legal_now}
use Rattle.chess_laws.proofs.Deciding.{legal-Decides}

pub same_ok : (a b : Move × ℕ) → ◌≡◌ {A = Result (Move × ℕ) MoveFault} (Ok a) (Ok b) → a ≡ b
same_ok a b h = cc

pub to_square-takes : (from : ℕ) (promo : Option Kind) (bytes : ℕ) (square : Option ℕ) (decoded : Move × ℕ)
    → to_square from promo bytes square ≡ Ok decoded → decoded.1 ≡ bytes
to_square-takes from promo bytes None decoded h = absurd (cc)
to_square-takes from promo bytes (Some to) decoded h =
    let m : Move = record { «from» = from; to = to; promo = promo } in
    ap (λ (d : Move × ℕ). d.1) (sym (same_ok (m, bytes) decoded h))

-- A move takes one or two of the bytes that there are, and the second is at least 64.
abbrev pub Fits : List ℕ → ℕ → Type 0
Fits bytes used = ((0 < used) × ((used ≤ 2) × (used ≤ length bytes))) × HasHighSecond bytes used

-- What bytes name by the man on a square, if there is one, and the bytes behind the first: no move is refused as illegal
-- before its legality is looked at, and the man that moves stands there.
abbrev Names : Option ℕ → List ℕ → Result (Move × ℕ) MoveFault → Type 0
Names o rest (Ok d) = (o ≡ Some d.0.from) × Fits (0 ∷ rest) d.1
Names o rest (Err Short) = Unit {0}
Names o rest (Err NoMan) = Unit {0}
Names o rest (Err Value) = Unit {0}
Names o rest (Err Illegal) = ⊥

named_one : (a : ℕ) (promo : Option Kind) (square : Option ℕ) (rest : List ℕ) → Names (Some a) rest (to_square a promo 1 square)
named_one a promo None rest = tt
named_one a promo (Some to) rest = (refl, ((omega arith, (omega arith, omega arith)), λ byte two at. absurd (omega arith)))

named_two : (a byte to : ℕ) (rest : List ℕ) (test : Bool) → (test ≡ true → 64 ≤ byte) → Names (Some a) (byte ∷ rest) (to_square a None 2 (cond test (Some to) None))
named_two a byte to rest false high = tt
named_two a byte to rest true high =
    (refl, ((omega arith, (omega arith, omega arith)), λ b two at. subst (λ n. 64 ≤ n) (same_Some byte b at) (high refl)))

named_diagonal : (a : ℕ) (rest : List ℕ) → Names (Some a) rest (diagonal_move a rest)
named_diagonal a [] = tt
named_diagonal a (byte ∷ rest) =
    named_two a byte (byte - 64) rest ((leb 64 byte && ltb byte 128) && is_diagonal a (byte - 64)) (λ h. leb-true 64 byte (and_parts _ _ (and_parts _ _ h).0).0)

named_queen : (own : Bool) (a value : ℕ) (rest : List ℕ) → Names (Some a) rest (cond own (diagonal_move a rest) (to_square a None 1 (on_line a value)))
named_queen true a value rest = named_diagonal a rest
named_queen false a value rest = named_one a None (on_line a value) rest

named_kind : (kind : Kind) (side : Colour) (a value : ℕ) (rest : List ℕ) → Names (Some a) rest (named_value kind side a value rest)
unfolding named_value
named_kind King side a value rest = named_one a None (by_difference king_differences a value) rest
named_kind Queen side a value rest = named_queen (eqb value (file_of a)) a value rest
named_kind Rook side a value rest = named_one a None (on_line a value) rest
named_kind Bishop side a value rest = named_one a None (on_diagonal a value) rest
named_kind Knight side a value rest = named_one a None (by_difference knight_differences a value) rest
named_kind Pawn side a value rest = named_one a (promotion value) (pawn_square side a value) rest

named_man : (o : Option Man) (side : Colour) (a value : ℕ) (rest : List ℕ) → Names (Some a) rest (named_by o side a value rest)
named_man None side a value rest = tt
named_man (Some man) side a value rest = named_kind man.kind side a value rest

named_number : (n : Numbered) (o : Option ℕ) (value : ℕ) (rest : List ℕ) → Names o rest (named_from n o value rest)
named_number n None value rest = tt
named_number n (Some a) value rest = named_man (man_at n.position.board a) n.position.side a value rest

told : (n : Numbered) (byte : ℕ) (rest : List ℕ) (answer : Result (Move × ℕ) MoveFault) → named n (byte ∷ rest) ≡ answer
    → Names (slice_get (squares_of n.position.side n.numbers) (byte / 16)) rest answer
told n byte rest answer h =
    let o : Option ℕ = slice_get (squares_of n.position.side n.numbers) (byte / 16) in
    subst (λ r. Names o rest r) h (named_number n o (byte % 16) rest)

-- bytes that name no move
pub Decodes-fault : (n : Numbered) (bytes : List ℕ) (fault : MoveFault) → named n bytes ≡ Err fault → Decodes n bytes (Err fault)
Decodes-fault n bytes Short h = h
Decodes-fault n bytes NoMan h = h
Decodes-fault n bytes Value h = h
Decodes-fault n [] Illegal h = absurd (cc)
Decodes-fault n (byte ∷ rest) Illegal h = absurd (told n byte rest (Err Illegal) h)

-- and bytes that name one
pub named-fits : (n : Numbered) (bytes : List ℕ) (decoded : Move × ℕ) → named n bytes ≡ Ok decoded → Fits bytes decoded.1
named-fits n [] decoded h = absurd (cc)
named-fits n (byte ∷ rest) decoded h = (told n byte rest (Ok decoded) h).1

-- a move begins on the square of the man that makes it
pub named-from : (kind : Kind) (side : Colour) (a value : ℕ) (rest : List ℕ) (decoded : Move × ℕ) → named_value kind side a value rest ≡ Ok decoded
    → decoded.0.from ≡ a
named-from kind side a value rest decoded h =
    let names : Names (Some a) rest (Ok decoded) = subst (λ r. Names (Some a) rest r) h (named_kind kind side a value rest) in
    sym (same_Some a decoded.0.from names.0)

decodes-judged : (n : Numbered) (bytes : List ℕ) (found : Result (Move × ℕ) MoveFault) → named n bytes ≡ found → Decodes n bytes (judged n found)
decodes-judged n bytes (Ok d) is = elim (cases_Bool (legal_now n.position d.0)) [
  | inl legal ↦ rw legal (is, (legal-Decides n.position d.0).0 legal)
  | inr illegal ↦ rw illegal (d, (is, not_from_Decides (legal_now n.position d.0) (legal-Decides n.position d.0) illegal))
]
decodes-judged n bytes (Err fault) is = Decodes-fault n bytes fault is

pub to_decodes : (n : Numbered) (bytes : List ℕ) (r : Result (Move × ℕ) MoveFault) → decoded n bytes ≡ r → Decodes n bytes r
unfolding decoded
to_decodes n bytes r is = subst (λ (s : Result (Move × ℕ) MoveFault). Decodes n bytes s) is (decodes-judged n bytes (named n bytes) refl)

pub from_decodes : (n : Numbered) (bytes : List ℕ) (r : Result (Move × ℕ) MoveFault) → Decodes n bytes r → decoded n bytes ≡ r
unfolding decoded
from_decodes n bytes (Ok d) h = rw (h.0, (legal-Decides n.position d.0).1 h.1) refl
from_decodes n bytes (Err Short) h = rw h refl
from_decodes n bytes (Err NoMan) h = rw h refl
from_decodes n bytes (Err Value) h = rw h refl
from_decodes n bytes (Err Illegal) (d, h) =
    rw (h.0, false_from_ne_true (legal_now n.position d.0) (λ legal. h.1 ((legal-Decides n.position d.0).0 legal))) refl

-- and a move takes one or two bytes of those that there are, the second at least 64
pub Decodes-told : (n : Numbered) (bytes : List ℕ) (r : Result (Move × ℕ) MoveFault) → Decodes n bytes r
    → (r ≡ decoded n bytes)
    × ((IfOk r (λ d. (0 < d.1) × ((d.1 ≤ 2) × (d.1 ≤ length bytes)))) × (IfOk r (λ d. HasHighSecond bytes d.1)))
Decodes-told n bytes (Ok d) h = let fits = named-fits n bytes d h.0 in (sym (from_decodes n bytes (Ok d) h), (fits.0, fits.1))
Decodes-told n bytes (Err fault) h = (sym (from_decodes n bytes (Err fault) h), (tt, tt))
