-- The bytes of a legal move decode to it, whatever follows, and begin with no mark. Bytes decode to one answer.
use Rattle.move_codec.proofs.Words.{◌≡◌, ℕ, ◌+◌, ◌*◌, ◌/◌, ◌%◌, ◌<◌, List, ◌∷◌, ◌++◌, Option, Some, Ok, length, slice_get, inl, inr, refl, sym, ◌∙◌, ap, subst, arith, King, Man, Move, man_at, is_of, same_kind, Legal, effect_of, Numbered, AreNumbers, number_of, squares_of, Decodes, encoding, encoding_by, value_of, rest_of, cases_Bool, same_Some, slice_get_within, ◌≤◌, false, cond, Err, Result, nat_tests, Colour, Men, Sound, king_square, man-kind, is_man-true, king-stands, MoveFault, Short, NoMan, Value, Illegal, is_mark, named}
use Rattle.move_codec.proofs.Boards.{numbering_of, own_man}
use Rattle.move_codec.proofs.Cases.{Mover, mover}
use Rattle.move_codec.proofs.Decoding.{from_decodes, named-fits}

-- the man that makes a legal move
pub mover_of : (n : Numbered) (m : Move) → length n.position.board ≡ 64 → Legal n.position m → Mover n.position m
mover_of n m squares legal = mover n.position m (effect_of n.position m) squares refl legal.1.allowed

module _ (n : Numbered) (m : Move) (squares : length n.position.board ≡ 64) (numbers : AreNumbers n.position.board n.numbers) (legal : Legal n.position m) where
  -- his number and what the code finds of him
  abbrev number : ℕ
  number = number_of (squares_of n.position.side n.numbers) m.from

  pub has_number : slice_get (squares_of n.position.side n.numbers) number ≡ Some m.from
  has_number =
      let moves = mover_of n m squares legal in
      (numbering_of n.position.board n.numbers numbers n.position.side).0.whole m.from
      (ap (is_of n.position.side) moves.stands ∙ own_man n.position.side moves.kind)

  pub number-small : number < 16
  number-small =
      let few = (numbering_of n.position.board n.numbers numbers n.position.side).0.few in
      let inside = slice_get_within (squares_of n.position.side n.numbers) number m.from has_number in
      omega arith

  small : value_of (mover_of n m squares legal).kind m < 16
  small = elim (cases_Bool (same_kind (mover_of n m squares legal).kind King)) [
    | inl king ↦ let less = rw king at (mover_of n m squares legal).spelled.small in omega (arith, less)
    | inr other ↦ rw other at (mover_of n m squares legal).spelled.small
  ]

  pub value-small : (x : Man) → man_at n.position.board m.from ≡ Some x → value_of x.kind m < 16
  value-small x at = subst (λ (y : Man). value_of y.kind m < 16) (same_Some _ x (sym (mover_of n m squares legal).stands ∙ at)) small

  pub encoding-mover : encoding n m ≡ (16 * number + value_of (mover_of n m squares legal).kind m) ∷ rest_of (mover_of n m squares legal).kind m
  encoding-mover = ap (λ (o : Option Man). encoding_by o number m) (mover_of n m squares legal).stands

  pub round_trip : (rest : List ℕ) → Decodes n (encoding n m ++ rest) (Ok (m, length (encoding n m)))
  round_trip rest =
      let moves = mover_of n m squares legal in
      let number_part : (16 * number + value_of moves.kind m) / 16 ≡ number = omega (arith, small) in
      let value_part : (16 * number + value_of moves.kind m) % 16 ≡ value_of moves.kind m = omega (arith, small) in
      (rw (encoding-mover, number_part, value_part, has_number, moves.stands) (moves.spelled.names rest), legal)

-- No packed move begins with a mark

unmarked : (number value : ℕ) → (number ≡ 0 → value < 11) → is_mark (16 * number + value) ≡ false
unmarked number value king = grind (arith, nat_tests)

pub encoding-apart : (n : Numbered) (m : Move) → Sound n.position → AreNumbers n.position.board n.numbers → Legal n.position m
    → (byte : ℕ) × ((later : List ℕ) × ((encoding n m ≡ byte ∷ later) × (is_mark byte ≡ false)))
encoding-apart n m sound numbers legal =
    let side : Colour = n.position.side in
    let men : Men = n.position.board in
    let squares : List ℕ = squares_of side n.numbers in
    let moves : Mover n.position m = mover_of n m sound.squares legal in
    -- the man with the number 0 is the king
    let king : number_of squares m.from ≡ 0 → value_of moves.kind m < 11 = λ none.
    let at_king = king-stands men side (sound.kings side) in
    let first : slice_get squares 0 ≡ Some (king_square men side) =
    (numbering_of men n.numbers numbers side).1 (king_square men side) (rw at_king (is_man-true side King)) in
    let here : slice_get squares 0 ≡ Some m.from = ap (slice_get squares) (sym none) ∙ has_number n m sound.squares numbers legal in
    let same : m.from ≡ king_square men side = same_Some m.from (king_square men side) (sym here ∙ first) in
    let is : moves.kind ≡ King = man-kind side side moves.kind King (sym moves.stands ∙ ap (man_at men) same ∙ at_king) in
    rw is (subst (λ k. value_of k m < cond (same_kind k King) 11 16) is moves.spelled.small) in (
      16 * number_of squares m.from + value_of moves.kind m,
      (rest_of moves.kind m, (encoding-mover n m sound.squares numbers legal, unmarked (number_of squares m.from) (value_of moves.kind m) king)),
    )

-- what the code has: the fields of a position with its numbers, and the bytes
pub encode-told : (n now : Numbered) → n ≡ now → (m : Move) → Sound n.position → AreNumbers n.position.board n.numbers
    → Legal now.position m → (items : List ℕ) → items ≡ encoding now m
    → ((rest : List ℕ) → Decodes now (items ++ rest) (Ok (m, length items)))
    × ((byte : ℕ) × ((later : List ℕ) × ((items ≡ byte ∷ later) × (is_mark byte ≡ false))))
encode-told n now is m sound numbers legal items bytes =
    let kept : Sound now.position = subst (λ k. Sound k.position) is sound in
    let numbered : AreNumbers now.position.board now.numbers = subst (λ k. AreNumbers k.position.board k.numbers) is numbers in
    rw bytes (round_trip now m kept.squares numbered legal, encoding-apart now m kept numbered legal)

-- What bytes decode to is one answer
pub Decodes-one : (n : Numbered) (bytes : List ℕ) (a b : Result (Move × ℕ) MoveFault) → Decodes n bytes a → Decodes n bytes b → a ≡ b
Decodes-one n bytes a b first second = sym (from_decodes n bytes a first) ∙ from_decodes n bytes b second

-- How many bytes an answer takes

-- a move takes bytes, of those that there are
pub Decodes-used : (n : Numbered) (bytes : List ℕ) (m : Move) (used : ℕ) → Decodes n bytes (Ok (m, used))
    → (0 < used) × (used ≤ length bytes)
Decodes-used n bytes m used decodes = let within = (named-fits n bytes (m, used) decodes.0).0 in (within.0, within.1.1)
