-- Filling a board byte by byte gives exactly what the grammar of a placement says.
use Rattle.std.proofs.Common.{◌≡◌, ℕ, zero, suc, ◌+◌, ◌-◌, ◌*◌, ◌<◌, ◌≤◌, ◌⊎◌, inl, inr, Bool, true, false, cond, ◌==◌, nat_lt, nat_le, ◌&&◌, List, [], ◌∷◌, ◌++◌, Option, Some, None, option_and_then, option_map, length, replicate, set, refl, sym, ◌∙◌, ap, arith, append_assoc, length-append}
use Rattle.std.proofs.Common.{lit<}
use Rattle.std.proofs.lemmas.Bool.{eqb-true, eq-eqb, ltb-true, ltb-false, leb-true, lt-ltb, le-leb, and_parts}
use Rattle.std.proofs.lemmas.Bool.Decides.{nat_tests}
use Rattle.std.proofs.lemmas.Option.{same_Some, option_and_then_some}
use Rattle.std.proofs.lemmas.List.{append-nil, length-replicate, replicate-append-replicate, set_at}
use Rattle.cell_core.specs.declared.man.Colour.{Colour}
use Rattle.cell_core.specs.declared.man.Colour.TheVariants.{White, Black}
use Rattle.cell_core.specs.declared.man.Kind.{Kind}
use Rattle.cell_core.specs.declared.man.Kind.TheVariants.{King, Queen, Rook, Bishop, Knight, Pawn}
use Rattle.cell_core.specs.declared.man.Man.{Man}
use Rattle.cell_core.specs.Board.{Men}
use Rattle.cell_core.specs.Man.{man}
use Rattle.chess_text.specs.Letters.{capital_of, letter_in, letter_of}
use Rattle.chess_text.specs.LetterReading.{kind_named, man_named}
use Rattle.chess_text.specs.Placement.{Stands, RankText, RanksText, PlacementText}
use Rattle.chess_text.specs.Filling.{board_named, Place, after, after_man, after_empty, after_slash, after_letter, filled}

-- ---- letters

-- which branch a test took
pub chosen : {A : Type 0} (b : Bool) (x y z : A) → cond b x y ≡ z → ((b ≡ true) × (x ≡ z)) ⊎ ((b ≡ false) × (y ≡ z))
chosen true x y z e = inl (refl, e)
chosen false x y z e = inr (refl, e)

-- a letter names the man that it is the letter of
man_named-letter_in : (colour : Colour) (kind : Kind)
    → man_named (letter_in colour (capital_of kind)) ≡ Some (record { colour = colour; kind = kind })
unfolding kind_named man_named
man_named-letter_in White King = refl
man_named-letter_in White Queen = refl
man_named-letter_in White Rook = refl
man_named-letter_in White Bishop = refl
man_named-letter_in White Knight = refl
man_named-letter_in White Pawn = refl
man_named-letter_in Black King = refl
man_named-letter_in Black Queen = refl
man_named-letter_in Black Rook = refl
man_named-letter_in Black Bishop = refl
man_named-letter_in Black Knight = refl
man_named-letter_in Black Pawn = refl

pub man_named-letter_of : (man : Man) → man_named (letter_of man) ≡ Some man
man_named-letter_of man = man_named-letter_in man.colour man.kind

-- one more letter that may be the one named
named_more : (letter code : ℕ) (k kind : Kind) (others : Option Kind) → code ≡ capital_of k
    → (others ≡ Some kind → letter ≡ capital_of kind)
    → cond (letter == code) (Some k) others ≡ Some kind → letter ≡ capital_of kind
named_more letter code k kind others is_code otherwise named =
    elim (chosen (letter == code) (Some k) others (Some kind) named) [
      | inl h ↦ eqb-true letter code h.0 ∙ is_code ∙ ap capital_of (same_Some k kind h.1)
      | inr h ↦ otherwise h.1
    ]

-- the kind that a letter names has it as its letter
capital_of_named : (letter : ℕ) (kind : Kind) → kind_named letter ≡ Some kind → letter ≡ capital_of kind
unfolding kind_named
capital_of_named letter kind =
    named_more letter 75 King kind _ refl (named_more letter 81 Queen kind _ refl
    (named_more letter 82 Rook kind _ refl (named_more letter 66 Bishop kind _ refl
    (named_more letter 78 Knight kind _ refl (named_more letter 80 Pawn kind None refl (λ h. cc))))))

man_in_some : (colour : Colour) (o : Option Kind) (m : Man) → option_map (man colour) o ≡ Some m
    → (m.colour ≡ colour) × (o ≡ Some m.kind)
man_in_some colour None m h = cc
man_in_some colour (Some kind) m h =
    let e : record { colour = colour; kind = kind } ≡ m = same_Some _ _ h in
    (sym (ap (λ (m : Man). m.colour) e), ap (λ (m : Man). Some m.kind) e)

-- the man that a letter names has it as its letter
letter_of_named : (letter : ℕ) (man : Man) → man_named letter ≡ Some man → letter ≡ letter_of man
unfolding man_named
letter_of_named letter man named =
    elim (chosen (nat_lt letter 97) _ _ (Some man) named) [
      | inl h ↦
          let is = man_in_some White (kind_named letter) man h.1 in
          rw is.0 (capital_of_named letter man.kind is.1)
      | inr h ↦
          let is = man_in_some Black (kind_named (letter - 32)) man h.1 in
          let capital : letter - 32 ≡ capital_of man.kind = capital_of_named (letter - 32) man.kind is.1 in
          let small : 97 ≤ letter = ltb-false letter 97 h.0 in
          rw is.0 (omega arith)
    ]

letter_in_above : (colour : Colour) (kind : Kind) → 65 < letter_in colour (capital_of kind)
letter_in_above White King = lit< tt
letter_in_above White Queen = lit< tt
letter_in_above White Rook = lit< tt
letter_in_above White Bishop = lit< tt
letter_in_above White Knight = lit< tt
letter_in_above White Pawn = lit< tt
letter_in_above Black King = lit< tt
letter_in_above Black Queen = lit< tt
letter_in_above Black Rook = lit< tt
letter_in_above Black Bishop = lit< tt
letter_in_above Black Knight = lit< tt
letter_in_above Black Pawn = lit< tt

-- a letter is no digit, and no slash
pub letter_above : (man : Man) → 65 < letter_of man
letter_above man = letter_in_above man.colour man.kind

none_unless : {A : Type 0} (o : Option A) → ((x : A) → o ≡ Some x → ⊥) → o ≡ None
none_unless None h = refl
none_unless (Some x) h = absurd (h x refl)

-- what is no letter names no man
man_named_below : (byte : ℕ) → byte < 66 → man_named byte ≡ None
man_named_below byte below = none_unless (man_named byte) (λ man named.
    let is : byte ≡ letter_of man = letter_of_named byte man named in
    let above = letter_above man in omega arith)

-- ---- one byte

after-slash : (place : Place) → after 47 place ≡ after_slash place
unfolding after
after-slash place = refl

after-letter : (man : Man) (place : Place) → after (letter_of man) place ≡ after_man man place
unfolding after
after-letter man place =
    let above = letter_above man in
    let other : (letter_of man == 47) ≡ false = grind (arith, nat_tests) in
    rw (other, man_named-letter_of man) refl

after-digit : (n : ℕ) (place : Place) → 1 ≤ n → n ≤ 8 → after (48 + n) place ≡ after_empty n place
unfolding after
after-digit n place low high =
    let other : (48 + n == 47) ≡ false = grind (arith, nat_tests) in
    let none : man_named (48 + n) ≡ None = man_named_below (48 + n) (omega arith) in
    let above : nat_lt 48 (48 + n) ≡ true = grind (arith, nat_tests) in
    let below : nat_lt (48 + n) 57 ≡ true = grind (arith, nat_tests) in
    let back : 48 + n - 48 ≡ n = omega arith in
    rw (other, none, above, below, back) refl

-- ---- a board that is filled down to a square

-- nothing stands on the ranks below and on what is left of this rank
filled_to : ℕ → Men → Men → Men
filled_to r front upper = replicate (8 * r) None ++ (front ++ (replicate (8 - length front) None ++ upper))

-- the place behind `front` on rank r, with `upper` on the ranks above
place_at : ℕ → Men → Men → Place
place_at r front upper = record { rank = r; file = length front; board = filled_to r front upper }

-- n empty squares
nothing : ℕ → Men
nothing n = replicate n None

placed : (r : ℕ) {f g : ℕ} {b d : Men} → f ≡ g → b ≡ d
    → ◌≡◌ {A = Option Place} (Some (record { rank = r; file = f; board = b })) (Some (record { rank = r; file = g; board = d }))
placed r {f} {g} {b} {d} files boards =
    ap {B = Option Place} (λ (n : ℕ). Some (record { rank = r; file = n; board = b })) files
    ∙ ap {B = Option Place} (λ (squares : Men). Some (record { rank = r; file = g; board = squares })) boards

set_between : {X : Type 0} (p q : List X) (y : X) (ys : List X) (a : X) (n : ℕ) → n ≡ length p + length q
    → set (p ++ (q ++ y ∷ ys)) n a ≡ p ++ ((q ++ a ∷ []) ++ ys)
set_between {X} p q y ys a n e =
    ap (λ (xs : List X). set xs n a) (sym (append_assoc p q (y ∷ ys)))
    ∙ set_at (p ++ q) y ys a n (length-append p q ∙ sym e)
    ∙ append_assoc p q (a ∷ ys)
    ∙ ap (λ (xs : List X). p ++ xs) (sym (append_assoc q (a ∷ []) ys))

after_man-place_at : (man : Man) (r : ℕ) (front upper : Men) → length front < 8
    → after_man man (place_at r front upper) ≡ Some (place_at r (front ++ Some man ∷ []) upper)
unfolding after_man filled_to place_at
after_man-place_at man r front upper room =
    let fits : nat_lt (length front) 8 ≡ true = lt-ltb _ _ room in
    let pushed : length (front ++ Some man ∷ []) ≡ length front + 1 = length-append front (Some man ∷ []) in
    let one : 8 - length front ≡ suc (8 - (length front + 1)) = omega arith in
    let rest : 8 - (length front + 1) ≡ 8 - length (front ++ Some man ∷ []) = omega arith in
    let n = 8 * r + length front in
    let at : n ≡ length (replicate {A = Option Man} (8 * r) None) + length front
    = ap (λ (k : ℕ). k + length front) (sym (length-replicate {A = Option Man} (8 * r) None)) in
    rw fits (placed r (sym pushed) (
    ap (λ (k : ℕ). set (replicate (8 * r) None ++ (front ++ (replicate k None ++ upper))) n (Some man)) one
    ∙ set_between (replicate (8 * r) None) front None (replicate (8 - (length front + 1)) None ++ upper) (Some man) n at
    ∙ ap (λ (k : ℕ). replicate (8 * r) None ++ ((front ++ Some man ∷ []) ++ (replicate k None ++ upper))) rest))

after_empty-place_at : (n r : ℕ) (front upper : Men) → length front + n ≤ 8
    → after_empty n (place_at r front upper) ≡ Some (place_at r (front ++ replicate n None) upper)
unfolding after_empty filled_to place_at
after_empty-place_at n r front upper room =
    let fits : nat_le (length front + n) 8 ≡ true = le-leb _ _ room in
    let pushed : length (front ++ replicate n None) ≡ length front + n
    = length-append front (replicate n None) ∙ ap (λ (k : ℕ). length front + k) (length-replicate {A = Option Man} n None) in
    let more : 8 - length front ≡ n + (8 - (length front + n)) = omega arith in
    let rest : 8 - (length front + n) ≡ 8 - length (front ++ replicate n None) = omega arith in
    rw fits (placed r (sym pushed) (ap (λ (squares : Men). replicate (8 * r) None ++ squares) (
    ap (λ (k : ℕ). front ++ (replicate k None ++ upper)) more
    ∙ ap (λ (squares : Men). front ++ (squares ++ upper))
    (sym (replicate-append-replicate n (8 - (length front + n)) None))
    ∙ ap (λ (squares : Men). front ++ squares) (append_assoc (replicate n None) _ upper)
    ∙ sym (append_assoc front (replicate n None) _)
    ∙ ap (λ (k : ℕ). (front ++ replicate n None) ++ (replicate k None ++ upper)) rest)))

after_slash-place_at : (r : ℕ) (front upper : Men) → length front ≡ 8
    → after_slash (place_at (suc r) front upper) ≡ Some (place_at r [] (front ++ upper))
unfolding after_slash filled_to place_at
after_slash-place_at r front upper full =
    let ends : (length front == 8) ≡ true = eq-eqb _ _ full in
    let above : nat_lt 0 (suc r) ≡ true = lt-ltb _ _ (omega arith) in
    let below : suc r - 1 ≡ r = omega arith in
    let none : 8 - length front ≡ 0 = omega arith in
    let more : 8 * suc r ≡ 8 * r + 8 = omega arith in
    rw (ends, above, below, none, more) (placed r refl (
    ap (λ (squares : Men). squares ++ (front ++ upper))
    (sym (replicate-append-replicate (8 * r) 8 None))
    ∙ append_assoc (replicate (8 * r) None) (replicate 8 None) (front ++ upper)))

-- ---- the grammar is filled

after-stands : (byte : ℕ) (first : Men) (r : ℕ) (front upper : Men)
    → Stands byte first → length front + length first ≤ 8
    → after byte (place_at r front upper) ≡ Some (place_at r (front ++ first) upper)
after-stands byte first r front upper (inl (man, letter, one)) room =
    let room' : length front < 8 = let e = ap length one in omega arith in
    rw (letter, one) (after-letter man _ ∙ after_man-place_at man r front upper room')
after-stands byte first r front upper (inr (n, low, high, digit, empty)) room =
    let room' : length front + n ≤ 8 = let e = ap length empty ∙ length-replicate n None in omega arith in
    rw (digit, empty) (after-digit n _ low high ∙ after_empty-place_at n r front upper room')

rank_fills : (text : List ℕ) (rank : Men) (tail : List ℕ) (r : ℕ) (front upper : Men)
    → RankText text rank → length front + length rank ≤ 8
    → filled (text ++ tail) (place_at r front upper) ≡ filled tail (place_at r (front ++ rank) upper)
rank_fills [] rank tail r front upper none room = rw (none, append-nil front) refl
rank_fills (byte ∷ text) rank tail r front upper (first, rest, parts, stands, left) room =
    let len : length rank ≡ length first + length rest = ap length parts ∙ length-append first rest in
    let len' : length (front ++ first) ≡ length front + length first = length-append front first in
    let room₁ : length front + length first ≤ 8 = omega arith in
    let room₂ : length (front ++ first) + length rest ≤ 8 = omega arith in
    let more = rank_fills text rest tail r (front ++ first) upper left room₂ in
    ap (option_and_then (filled (text ++ tail))) (after-stands byte first r front upper stands room₁)
    ∙ more
    ∙ ap (λ (squares : Men). filled tail (place_at r squares upper))
    (append_assoc front first rest ∙ ap (λ (squares : Men). front ++ squares) (sym parts))

full_fills : (rank upper : Men) → length rank ≡ 8 → filled [] (place_at 0 rank upper) ≡ Some (rank ++ upper)
unfolding filled_to place_at
full_fills rank upper full = rw full refl

ranks_fill : (n : ℕ) (text : List ℕ) (squares upper : Men) → RanksText n text squares
    → filled text (place_at n [] upper) ≡ Some (squares ++ upper)
unfolding RanksText
ranks_fill zero text squares upper (reads, full) =
    ap (λ (bytes : List ℕ). filled bytes (place_at 0 [] upper)) (sym (append-nil text))
    ∙ rank_fills text squares [] 0 [] upper reads (omega arith)
    ∙ full_fills squares upper full
ranks_fill (suc n) text squares upper (top, below, rank, lower, parts, ranks, reads, full, left) =
    ap (λ (bytes : List ℕ). filled bytes (place_at (suc n) [] upper)) parts
    ∙ rank_fills top rank (47 ∷ below) (suc n) [] upper reads (omega arith)
    ∙ ap (option_and_then (filled below)) (after-slash _ ∙ after_slash-place_at n rank upper full)
    ∙ ranks_fill n below lower (rank ++ upper) left
    ∙ ap Some (sym (append_assoc lower rank upper) ∙ ap (λ (s : Men). s ++ upper) (sym ranks))

pub placement_fills : (text : List ℕ) (board : Men) → PlacementText text board
    → board_named text ≡ Some board
unfolding board_named PlacementText filled_to place_at
placement_fills text board placement = ranks_fill 7 text board [] placement ∙ ap Some (append-nil board)

-- ---- what is filled is in the grammar

-- the rest of rank r, and then the ranks below it
LeftText : ℕ → List ℕ → Men → Men → Type 0
LeftText zero text piece lower = RankText text piece × (lower ≡ [])
LeftText (suc n) text piece lower =
    (top : List ℕ) × (below : List ℕ) × (text ≡ top ++ 47 ∷ below) × RankText top piece × RanksText n below lower

left_ranks : (n : ℕ) (text : List ℕ) (piece lower : Men) → LeftText n text piece lower → length piece ≡ 8
    → RanksText n text (lower ++ piece)
unfolding RanksText LeftText
left_ranks zero text piece lower (reads, none) full = rw none (reads, full)
left_ranks (suc n) text piece lower (top, below, parts, reads, ranks) full =
    (top, below, piece, lower, parts, refl, reads, full, ranks)

left_more : (n byte : ℕ) (text : List ℕ) (first piece lower : Men) → Stands byte first
    → LeftText n text piece lower → LeftText n (byte ∷ text) (first ++ piece) lower
unfolding LeftText
left_more zero byte text first piece lower stands (reads, none) = ((first, piece, refl, stands, reads), none)
left_more (suc n) byte text first piece lower stands (top, below, parts, reads, ranks) =
    (byte ∷ top, below, ap (λ (bytes : List ℕ). byte ∷ bytes) parts, (first, piece, refl, stands, reads), ranks)

-- the board that the text fills is what stands above, the front and what the text adds to it, as the grammar says
record Added (r : ℕ) (front upper : Men) (text : List ℕ) (board : Men) : Type 0 where
  piece : Men
  lower : Men
  whole : board ≡ lower ++ (front ++ (piece ++ upper))
  full : length front + length piece ≡ 8
  left : LeftText r text piece lower

after_man_some : (man : Man) (r : ℕ) (front upper : Men) (x : Place)
    → after_man man (place_at r front upper) ≡ Some x → length front < 8
unfolding after_man place_at
after_man_some man r front upper x h =
    elim (chosen (nat_lt (length front) 8) _ _ (Some x) h) [ inl fits ↦ ltb-true _ _ fits.0 | inr over ↦ cc (over.1) ]

after_empty_some : (n r : ℕ) (front upper : Men) (x : Place)
    → after_empty n (place_at r front upper) ≡ Some x → length front + n ≤ 8
unfolding after_empty place_at
after_empty_some n r front upper x h =
    elim (chosen (nat_le (length front + n) 8) _ _ (Some x) h) [ inl fits ↦ leb-true _ _ fits.0 | inr over ↦ cc (over.1) ]

after_slash_some : (r : ℕ) (front upper : Men) (x : Place)
    → after_slash (place_at r front upper) ≡ Some x → (0 < r) × (length front ≡ 8)
unfolding after_slash place_at
after_slash_some r front upper x h =
    elim (chosen (length front == 8 && nat_lt 0 r) _ _ (Some x) h) [
      | inl fits ↦
          let both = and_parts (length front == 8) (nat_lt 0 r) fits.0 in
          (ltb-true _ _ both.1, eqb-true _ _ both.0)
      | inr over ↦ cc (over.1)
    ]

slash_some : (r : ℕ) (front upper : Men) (x : Place) → after_slash (place_at r front upper) ≡ Some x
    → (n : ℕ) × (r ≡ suc n) × (length front ≡ 8) × (x ≡ place_at n [] (front ++ upper))
slash_some zero front upper x h = absurd (let is = after_slash_some zero front upper x h in omega arith)
slash_some (suc n) front upper x h =
    let is = after_slash_some (suc n) front upper x h in
    (n, refl, is.1, same_Some _ _ (sym h ∙ after_slash-place_at n front upper is.1))

letter_some : (o : Option Man) (byte r : ℕ) (front upper : Men) (x : Place) → man_named byte ≡ o
    → after_letter o byte (place_at r front upper) ≡ Some x
    → (first : Men) × Stands byte first × (length front + length first ≤ 8)
    × (x ≡ place_at r (front ++ first) upper)
letter_some (Some man) byte r front upper x named h =
    let room : length front < 8 = after_man_some man r front upper x h in (
      Some man ∷ [],
      inl (man, letter_of_named byte man named, refl),
      omega arith,
      same_Some _ _ (sym h ∙ after_man-place_at man r front upper room),
    )
letter_some None byte r front upper x named h =
    elim (chosen (nat_lt 48 byte && nat_lt byte 57) _ _ (Some x) h) [
      | inl digit ↦
          let both = and_parts (nat_lt 48 byte) (nat_lt byte 57) digit.0 in
          let low = ltb-true 48 byte both.0 in
          let high = ltb-true byte 57 both.1 in
          let room : length front + (byte - 48) ≤ 8 = after_empty_some (byte - 48) r front upper x digit.1 in
          let len : length (replicate {A = Option Man} (byte - 48) None) ≡ byte - 48 = length-replicate (byte - 48) None in (
            replicate (byte - 48) None,
            inr (byte - 48, omega arith, omega arith, omega arith, refl),
            omega arith,
            same_Some _ _ (sym digit.1 ∙ after_empty-place_at (byte - 48) r front upper room),
          )
      | inr other ↦ cc (other.1)
    ]

-- what one byte did is one of the cases of the grammar
after_some : (byte r : ℕ) (front upper : Men) (x : Place) → after byte (place_at r front upper) ≡ Some x
    → ((byte ≡ 47) × ((n : ℕ) × (r ≡ suc n) × (length front ≡ 8) × (x ≡ place_at n [] (front ++ upper))))
    ⊎ ((first : Men) × Stands byte first × (length front + length first ≤ 8)
    × (x ≡ place_at r (front ++ first) upper))
unfolding after
after_some byte r front upper x h =
    elim (chosen (byte == 47) _ _ (Some x) h) [
      | inl slash ↦ inl (eqb-true byte 47 slash.0, slash_some r front upper x slash.1)
      | inr other ↦ inr (letter_some (man_named byte) byte r front upper x refl other.1)
    ]

filled_end : (r : ℕ) (front upper board : Men) → filled [] (place_at r front upper) ≡ Some board
    → (r ≡ 0) × (length front ≡ 8)
unfolding place_at
filled_end r front upper board h =
    elim (chosen (r == 0 && length front == 8) _ _ (Some board) h) [
      | inl fits ↦
          let both = and_parts (r == 0) (length front == 8) fits.0 in
          (eqb-true _ _ both.0, eqb-true _ _ both.1)
      | inr over ↦ cc (over.1)
    ]

filled_added : (text : List ℕ) (r : ℕ) (front upper board : Men) → length front ≤ 8
    → filled text (place_at r front upper) ≡ Some board → Added r front upper text board
unfolding LeftText
filled_added [] r front upper board room h =
    let ends = filled_end r front upper board h in
    let h₀ = rw ends.0 at h in
    let whole : board ≡ front ++ upper = same_Some _ _ (sym h₀ ∙ full_fills front upper ends.1) in
    rw ends.0 (record { piece = []; lower = []; whole = whole; full = omega arith; left = (refl, refl) })
filled_added (byte ∷ text) r front upper board room h =
    option_and_then_some (filled text) (after byte (place_at r front upper)) board h (λ x is more.
    elim (after_some byte r front upper x is) [
      | inl slash ↦
          let n = slash.1.0 in
          let more' = rw slash.1.3 at more in
          let below : Added n [] (front ++ upper) text board = filled_added text n [] (front ++ upper) board (omega arith) more' in
          let below_full = below.full in
          let piece_full : length below.piece ≡ 8 = omega arith in
          rw (slash.0, slash.1.1) (record {
            piece = [];
            lower = below.lower ++ below.piece;
            whole = below.whole ∙ sym (append_assoc below.lower below.piece (front ++ upper));
            full = omega arith;
            left = ([], text, refl, refl, left_ranks n text below.piece below.lower below.left piece_full);
          })
      | inr stands ↦
          let first = stands.0 in
          let more' = rw stands.3 at more in
          let len : length (front ++ first) ≡ length front + length first = length-append front first in
          let room' : length (front ++ first) ≤ 8 = omega arith in
          let rest : Added r (front ++ first) upper text board = filled_added text r (front ++ first) upper board room' more' in
          let len' : length (first ++ rest.piece) ≡ length first + length rest.piece = length-append first rest.piece in
          let full = rest.full in
          record {
            piece = first ++ rest.piece;
            lower = rest.lower;
            whole = rest.whole ∙ ap (λ (squares : Men). rest.lower ++ squares)
                (append_assoc front first (rest.piece ++ upper)
                ∙ ap (λ (squares : Men). front ++ squares) (sym (append_assoc first rest.piece upper)));
            full = omega arith;
            left = left_more r byte text first rest.piece rest.lower stands.1 rest.left;
          }
    ])

pub placement_filled : (text : List ℕ) (board : Men)
    → board_named text ≡ Some board → PlacementText text board
unfolding board_named PlacementText filled_to place_at
placement_filled text board h =
    let all : Added 7 [] [] text board = filled_added text 7 [] [] board (omega arith) h in
    let all_full = all.full in
    let piece_full : length all.piece ≡ 8 = omega arith in
    let ranks : RanksText 7 text (all.lower ++ all.piece)
    = left_ranks 7 text all.piece all.lower all.left piece_full in
    rw (all.whole ∙ ap (λ (squares : Men). all.lower ++ squares) (append-nil all.piece)) ranks
