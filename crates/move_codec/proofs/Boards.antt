-- What stands on a board, of which side and kind it is, and that its number is that of its square.
use Rattle.move_codec.proofs.Words.{◌≡◌, ◌∙◌, ℕ, Bool, true, false, List, Option, Some, None, slice_get, refl, sym, ap, IsTrue, is_some, OnFalse, and_parts, false_from_ne_true, false≢true, Colour, White, Black, Kind, King, Man, Men, man_at, is_man, is_of, man, other, same_colour, same_kind, same_colour-Decides, Numbers, AreNumbers, HasKingFirst, IsNumbering, number_of, squares_of, without}
use Rattle.move_codec.proofs.Lists.{without-idle}

-- whether a man of a side stands on a square
abbrev pub holds : Colour → Men → ℕ → Bool
holds colour men s = is_of colour (man_at men s)

pub own_man : (c : Colour) (k : Kind) → is_of c (Some (man c k)) ≡ true
own_man White k = refl
own_man Black k = refl

pub enemy_man : (c : Colour) (k : Kind) → is_of (other c) (Some (man c k)) ≡ false
enemy_man White k = refl
enemy_man Black k = refl

pub own_of_enemy : (c : Colour) (k : Kind) → is_of c (Some (man (other c) k)) ≡ false
own_of_enemy White k = refl
own_of_enemy Black k = refl

-- a king is a man of its side
pub king_held : (c : Colour) (o : Option Man) → is_man c King o ≡ true → is_of c o ≡ true
king_held c None h = absurd (false≢true h)
king_held c (Some m) h = (and_parts (same_colour m.colour c) (same_kind m.kind King) h).0

pub no_king : (c : Colour) (o : Option Man) → is_of c o ≡ false → is_man c King o ≡ false
no_king c None h = refl
no_king c (Some m) h = rw h refl

-- a square with no man of a side is not held by it
pub no_own : (o : Option Man) (c : Colour) → ((k : Kind) → o ≡ Some (man c k) → ⊥) → is_of c o ≡ false
no_own None c none = refl
no_own (Some m) c none =
    false_from_ne_true (same_colour m.colour c) (λ h. none m.kind (ap (λ (d : Colour). Some (man d m.kind)) ((same_colour-Decides m.colour c).0 h)))

-- a side's numbers and where its king stands, and those of both sides
abbrev pub Numbering : Men → Colour → List ℕ → Type 0
Numbering men c squares = IsNumbering men c squares × HasKingFirst men c squares

pub numbering_of : (men : Men) (numbers : Numbers) → AreNumbers men numbers → (c : Colour) → Numbering men c (squares_of c numbers)
numbering_of men numbers h White = (h.white, h.white_king)
numbering_of men numbers h Black = (h.black, h.black_king)

pub are_numbers : (men : Men) (numbers : Numbers) → Numbering men White numbers.white → Numbering men Black numbers.black → AreNumbers men numbers
are_numbers men numbers white black = record { white = white.0; black = black.0; white_king = white.1; black_king = black.1 }

-- the man with a number is of its side
pub numbered-man : (men : Men) (side : Colour) (squares : List ℕ) (number square : ℕ) (m : Man) → IsNumbering men side squares
    → slice_get squares number ≡ Some square → man_at men square ≡ Some m → man_at men square ≡ Some (man side m.kind)
numbered-man men side squares number square m h at stands =
    let own : same_colour m.colour side ≡ true = rw stands at (h.held number square at) in
    let same : m.colour ≡ side = (same_colour-Decides m.colour side).0 own in
    stands ∙ ap (λ c. Some (man c m.kind)) same

-- a number of a square is its number
pub number-is : (men : Men) (side : Colour) (squares : List ℕ) (number square : ℕ) → IsNumbering men side squares
    → slice_get squares number ≡ Some square → number ≡ number_of squares square
number-is men side squares number square h at =
    h.once number (number_of squares square) square at (h.whole square (h.held number square at))

none-of : (o : Option Man) (side : Colour) → is_some o ≡ false → IsTrue (is_of side o) → ⊥
none-of None side empty h = false≢true h
none-of (Some man) side empty h = absurd (cc)

-- where no man stands none is captured
pub without-unless : (men : Men) (side : Colour) (squares : List ℕ) (square : ℕ) (taken : Bool) → IsNumbering men side squares
    → taken ≡ is_some (man_at men square) → OnFalse taken (without squares square ≡ squares)
without-unless men side squares square true h is = tt
without-unless men side squares square false h is =
    without-idle squares square (λ e. none-of (man_at men square) side (sym is) (h.held (number_of squares square) square e))
