-- Boards: what stands where after a man is put somewhere, and how many of a kind there are then.
use Rattle.chess_laws.proofs.Words.{◌≡◌, ℕ, ◌+◌, ◌<◌, ◌≢◌, ◌⊎◌, inl, inr, Bool, true, false, cond, Option, Some, None, length, count_by, refl, sym, ◌∙◌, ap, arith, length-set, cases_eq, false_from_ne_true, get_or-set_same, get_or-set_other, get_or_past, sum_by-set, Colour, White, Black, Kind, King, Pawn, Man, Men, man_at, put, man, other, same_kind, is_man, is_of, Setup, IsInCheck, rank_of, Sound, HasKings, HasPawnsInside, HasFewMen, HasFitRights, HasFitEnPassant, king_square, IsOnlyKing}
use Rattle.chess_laws.proofs.Kings.{is_man-Some, king-only, king-stands}

pub put-same : (men : Men) (s : ℕ) (x : Option Man) → length men ≡ 64 → s < 64 → man_at (put men s x) s ≡ x
put-same men s x l h = get_or-set_same men s x None (omega arith)

pub put-other : (men : Men) (s t : ℕ) (x : Option Man) → t ≢ s → man_at (put men s x) t ≡ man_at men t
put-other men s t x apart = get_or-set_other men s t x None apart

pub length-put : (men : Men) (s : ℕ) (x : Option Man) → length men ≡ 64 → length (put men s x) ≡ 64
length-put men s x l = length-set men s x ∙ l

-- 1 where the test passes
abbrev pub one_if : Bool → ℕ
one_if b = cond b 1 0

-- a count of men after a man is put on a square, with the man that stood there
pub count-put : (p : Option Man → Bool) (men : Men) (s : ℕ) (x : Option Man) → length men ≡ 64 → s < 64 →
    count_by p (put men s x) + one_if (p (man_at men s)) ≡ count_by p men + one_if (p x)
count-put p men s x l h = sum_by-set (λ y. cond (p y) 1 0) men s x None (omega arith)

-- men are the same only where their colours and their kinds are
pub man-colour : (c d : Colour) (k j : Kind) → Some (man c k) ≡ Some (man d j) → d ≡ c
man-colour c d k j h = let e : man c k ≡ man d j = cc in sym (ap (λ (x : Man). x.colour) e)

pub man-kind : (c d : Colour) (k j : Kind) → Some (man c k) ≡ Some (man d j) → k ≡ j
man-kind c d k j h = let e : man c k ≡ man d j = cc in ap (λ (x : Man). x.kind) e

pub same_kind-true : (a b : Kind) → same_kind a b ≡ true → a ≡ b
same_kind-true a b h = man-kind White White a b (is_man-Some White b (Some (man White a)) h)

is_man-not : (c : Colour) (k : Kind) (x : Option Man) → (x ≡ Some (man c k) → ⊥) → is_man c k x ≡ false
is_man-not c k x not = false_from_ne_true (is_man c k x) (λ h. not (is_man-Some c k x h))

-- a colour is one of the two
pub other-other : (c : Colour) → other (other c) ≡ c
other-other White = refl
other-other Black = refl

pub colour_cases : (c d : Colour) → (c ≡ d) ⊎ (c ≡ other d)
colour_cases White White = inl refl
colour_cases Black Black = inl refl
colour_cases c d = inr refl

-- no square past the last holds a man
pub on_board : (men : Men) (s : ℕ) (m : Man) → length men ≡ 64 → man_at men s ≡ Some m → s < 64
on_board men s m l h = grind (arith, get_or_past men s None)

-- the board after a man has gone from one square to another, where it may become another
abbrev pub relocate : Men → ℕ → ℕ → Option Man → Men
relocate men a b x = put (put men a None) b x

-- what stands on another square stays, and so does a man who stands on neither
pub relocate-other : (men : Men) (a b : ℕ) (y : Option Man) (s : ℕ) → s ≢ a → s ≢ b → man_at (relocate men a b y) s ≡ man_at men s
relocate-other men a b y s from to = put-other (put men a None) b s y to ∙ put-other men a s None from

pub relocate-stays : (men : Men) (a b : ℕ) (y : Option Man) (s : ℕ) (x : Man) → man_at men s ≡ Some x → (man_at men a ≡ Some x → ⊥) →
    (man_at men b ≡ Some x → ⊥) → man_at (relocate men a b y) s ≡ Some x
relocate-stays men a b y s x stands from to =
    relocate-other men a b y s (λ e. from (ap (man_at men) (sym e) ∙ stands)) (λ e. to (ap (man_at men) (sym e) ∙ stands)) ∙ stands

-- what goes from a to b: a man c k, which becomes c j; b holds no man of its own side, and no king; a king remains one
pub record Goes (men : Men) (a b : ℕ) (c : Colour) (k j : Kind) : Type 0 where
  pub squares : length men ≡ 64
  pub from : man_at men a ≡ Some (man c k)
  pub target : b < 64
  pub no_own : (i : Kind) → man_at men b ≡ Some (man c i) → ⊥
  pub no_king : (d : Colour) → man_at men b ≡ Some (man d King) → ⊥
  pub same_king : same_kind j King ≡ same_kind k King

-- so does a man that goes to an empty square and stays what he is
pub free-goes : (men : Men) (a b : ℕ) (c : Colour) (k : Kind) → length men ≡ 64 → man_at men a ≡ Some (man c k) → b < 64 → man_at men b ≡ None →
    Goes men a b c k k
free-goes men a b c k squares stands less empty =
    record { squares = squares; from = stands; target = less; no_own = λ i h. cc; no_king = λ d h. cc; same_king = refl }

pub Goes-count : (men : Men) (a b : ℕ) (c : Colour) (k j : Kind) → Goes men a b c k j → (p : Option Man → Bool) → p None ≡ false →
    count_by p (relocate men a b (Some (man c j))) + one_if (p (Some (man c k))) + one_if (p (man_at men b)) ≡ count_by p men + one_if (p (Some (man c j)))
Goes-count men a b c k j g p none =
    let left = rw (g.from, none) at (count-put p men a None g.squares (on_board men a (man c k) g.squares g.from)) in
    let apart = put-other men a b None (λ e. g.no_own k (rw e g.from)) in
    let came = rw apart at (count-put p (put men a None) b (Some (man c j)) (length-put men a None g.squares) g.target) in
    omega arith

-- neither on the first rank nor on the last
abbrev pub Inside : ℕ → Type 0
Inside s = (0 < rank_of s) × (rank_of s < 7)

-- no pawn comes there where the one that is put on a square does not
put-pawns : (men : Men) (s : ℕ) (x : Option Man) → length men ≡ 64 → s < 64 → ((d : Colour) → x ≡ Some (man d Pawn) → Inside s) → HasPawnsInside men →
    HasPawnsInside (put men s x)
put-pawns men s x l less inside pawns t d stands = elim (cases_eq t s) [
  | inl same ↦ rw same (inside d (sym (put-same men s x l less) ∙ rw same at stands))
  | inr apart ↦ pawns t d (sym (put-other men s t x apart) ∙ stands)
]

-- what a board keeps in every move: its 64 squares, one king a side, no pawn on the first or last rank, at most 16 men a side
pub record Kept (men : Men) : Type 0 where
  pub squares : length men ≡ 64
  pub kings : HasKings men
  pub pawns : HasPawnsInside men
  pub few : HasFewMen men

pub Sound-kept : (p : Setup) → Kept p.board → (IsInCheck p.board (other p.side) → ⊥) → HasFitRights p → HasFitEnPassant p.side p.en_passant → Sound p
Sound-kept p k quiet rights fits =
    record { squares = k.squares; kings = k.kings; pawns = k.pawns; few = k.few; not_in_check = quiet; rights = rights; en_passant = fits }

pub Kept-goes : (men : Men) (a b : ℕ) (c : Colour) (k j : Kind) → Kept men → Goes men a b c k j → (j ≡ Pawn → Inside b) →
    Kept (relocate men a b (Some (man c j)))
Kept-goes men a b c k j kept g inside =
    let x : Option Man = Some (man c j) in
    let left = length-put men a None kept.squares in
    let without = put-pawns men a None kept.squares (on_board men a (man c k) kept.squares g.from) (λ d e. absurd (cc)) kept.pawns in
    record {
      squares = length-put (put men a None) b x left;
      kings = λ d.
          let counted = rw (is_man-not d King (man_at men b) (g.no_king d), g.same_king) at (Goes-count men a b c k j g (is_man d King) refl) in
          omega (arith, kept.kings d);
      pawns = put-pawns (put men a None) b x left g.target (λ d e. inside (man-kind c d j Pawn e)) without;
      few = λ d. omega (arith, kept.few d, Goes-count men a b c k j g (is_of d) refl);
    }

-- and where a man that is no king is taken away
pub Kept-away : (men : Men) (s : ℕ) (m : Man) → Kept men → man_at men s ≡ Some m → ((d : Colour) → man_at men s ≡ Some (man d King) → ⊥) →
    Kept (put men s None)
Kept-away men s m kept stands kingless =
    let here = on_board men s m kept.squares stands in
    record {
      squares = length-put men s None kept.squares;
      kings = λ d.
          let counted = rw (is_man-not d King (man_at men s) (kingless d)) at (count-put (is_man d King) men s None kept.squares here) in
          omega (arith, kept.kings d);
      pawns = put-pawns men s None kept.squares here (λ d e. absurd (cc)) kept.pawns;
      few = λ d. omega (arith, kept.few d, count-put (is_of d) men s None kept.squares here);
    }

-- the one king of a colour stands on no other square
pub only-king : (men : Men) (c : Colour) (s : ℕ) → HasKings men → man_at men s ≡ Some (man c King) → IsOnlyKing men c s
only-king men c s kings stands =
    let here = king-only men c s (kings c) stands in
    record { stands = stands; only = λ t other. king-only men c t (kings c) other ∙ sym here }

pub first-only : (men : Men) (c : Colour) (s : ℕ) → HasKings men → s ≡ king_square men c → IsOnlyKing men c s
first-only men c s kings at = only-king men c s kings (rw at (king-stands men c (kings c)))
