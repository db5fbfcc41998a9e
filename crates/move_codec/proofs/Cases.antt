-- In every case of a legal move its bytes name it, and its target is on the board.
use Rattle.move_codec.proofs.Words.{◌≡◌, ℕ, suc, ◌<◌, Bool, true, false, cond, eqb, ltb, ◌&&◌, List, [], ◌++◌, Option, Some, None, Ok, Err, IsTrue, length, refl, sym, ◌∙◌, ap, subst, Result, is_none, option_eq, and_parts, eqb-true, ltb-true, Colour, White, Black, Kind, King, Queen, Rook, Bishop, Knight, Pawn, Move, man_at, man, same_kind, same_kind-Decides, Setup, Wing, KingSide, QueenSide, Effect, Plain, Double, Passing, Castle, Null, forward, king_home, king_target, Case, effect_of, may_become, on_board, castle-squares, MoveFault}
use Rattle.chess_laws.specs.Geometry.{shift}
use Rattle.move_codec.specs.Packed.{named_value, value_of, rest_of}
use Rattle.move_codec.proofs.Tables.{across-passes, all_below, at_square, below, leap-passes, leaps_pass, plain-passes, plain_pass, ray_passes, rays_pass}

-- the value of a move, a king's below 11, and the bytes after it name the move, whatever follows
pub record Spelled (side : Colour) (kind : Kind) (m : Move) : Type 0 where
  pub target : m.to < 64
  pub small : value_of kind m < cond (same_kind kind King) 11 16
  pub names : (rest : List ℕ) → named_value kind side m.from (value_of kind m) (rest_of kind m ++ rest) ≡ Ok (m, suc (length (rest_of kind m)))

-- a move of these parts
abbrev built : ℕ → ℕ → Option Kind → Move
built a b promo = record { «from» = a; to = b; promo = promo }

-- A test of the same

-- whether an answer is this move, named by so many bytes
abbrev is_answer : Move → ℕ → Result (Move × ℕ) MoveFault → Bool
is_answer m n (Err fault) = false
is_answer m n (Ok d) = (eqb d.0.from m.from && eqb d.0.to m.to) && (option_eq same_kind d.0.promo m.promo && eqb d.1 n)

same_promo : (x y : Option Kind) → option_eq same_kind x y ≡ true → x ≡ y
same_promo None None h = refl
same_promo (Some j) (Some k) h = ap (λ (v : Kind). Some v) ((same_kind-Decides j k).0 h)
same_promo x y h = absurd (cc)

answered : (m : Move) (n : ℕ) (answer : Result (Move × ℕ) MoveFault) → is_answer m n answer ≡ true → answer ≡ Ok (m, n)
answered m n (Err fault) h = absurd (cc)
answered m n (Ok d) h =
    let halves = and_parts (eqb d.0.from m.from && eqb d.0.to m.to) (option_eq same_kind d.0.promo m.promo && eqb d.1 n) h in
    let ends = and_parts (eqb d.0.from m.from) (eqb d.0.to m.to) halves.0 in
    let others = and_parts (option_eq same_kind d.0.promo m.promo) (eqb d.1 n) halves.1 in
    λ i. Ok (built (eqb-true d.0.from m.from ends.0 i) (eqb-true d.0.to m.to ends.1 i) (same_promo d.0.promo m.promo others.0 i), eqb-true d.1 n others.1 i)

unfoldable spells : Colour → Kind → List ℕ → Move → Bool
spells side kind rest m =
    ltb m.to 64 && (ltb (value_of kind m) (cond (same_kind kind King) 11 16)
    && is_answer m (suc (length (rest_of kind m))) (named_value kind side m.from (value_of kind m) (rest_of kind m ++ rest)))

spelled : (side : Colour) (kind : Kind) (m : Move) → ((rest : List ℕ) → spells side kind rest m ≡ true) → Spelled side kind m
unfolding spells
spelled side kind m all = record {
  target = ltb-true m.to 64 (and_parts _ _ (all [])).0;
  small = ltb-true (value_of kind m) (cond (same_kind kind King) 11 16) (and_parts _ _ (and_parts _ _ (all [])).1).0;
  names = λ rest. answered m (suc (length (rest_of kind m))) (named_value kind side m.from (value_of kind m) (rest_of kind m ++ rest))
      (and_parts _ _ (and_parts _ _ (all rest)).1).1;
}

-- Each kind of move from every square passes it

abbrev test : Colour → Kind → Option Kind → List ℕ → ℕ → ℕ → Bool
test side kind promo rest a b = spells side kind rest (built a b promo)

plain_table : (side : Colour) (kind : Kind) (last : Bool) (promo : Option Kind) (rest : List ℕ)
    → IsTrue (cond (same_kind kind Pawn && last) (may_become promo) (is_none promo)) → plain_pass side kind (test side kind promo rest) ≡ true
unfolding spells plain_pass leaps_pass rays_pass ray_passes shift value_of rest_of named_value
plain_table side King last None rest h = refl
plain_table side Queen last None rest h = refl
plain_table side Rook last None rest h = refl
plain_table side Bishop last None rest h = refl
plain_table side Knight last None rest h = refl
plain_table White Pawn false None rest h = refl
plain_table White Pawn true (Some Queen) rest h = refl
plain_table White Pawn true (Some Rook) rest h = refl
plain_table White Pawn true (Some Bishop) rest h = refl
plain_table White Pawn true (Some Knight) rest h = refl
plain_table Black Pawn false None rest h = refl
plain_table Black Pawn true (Some Queen) rest h = refl
plain_table Black Pawn true (Some Rook) rest h = refl
plain_table Black Pawn true (Some Bishop) rest h = refl
plain_table Black Pawn true (Some Knight) rest h = refl
plain_table c k last promo rest h = absurd (cc)

-- two steps ahead
abbrev ahead : Colour → List ℕ → ℕ → ℕ → Bool
ahead side rest a c = at_square (test side Pawn None rest a) (shift (forward side) c)

double_table : (side : Colour) (rest : List ℕ) → leaps_pass (ahead side rest) (forward side) ≡ true
unfolding spells leaps_pass shift value_of rest_of named_value
double_table White rest = refl
double_table Black rest = refl

castle_table : (side : Colour) (wing : Wing) (rest : List ℕ) → test side King None rest (king_home side) (king_target side wing) ≡ true
unfolding spells value_of rest_of named_value
castle_table White KingSide rest = refl
castle_table White QueenSide rest = refl
castle_table Black KingSide rest = refl
castle_table Black QueenSide rest = refl

null_table : (side : Colour) (rest : List ℕ) → all_below (λ a. test side King None rest a a) 64 ≡ true
unfolding spells value_of rest_of named_value
null_table side rest = refl

-- the man that moves and what spells its move
pub record Mover (p : Setup) (m : Move) : Type 0 where
  pub kind : Kind
  pub stands : man_at p.board m.from ≡ Some (man p.side kind)
  pub spelled : Spelled p.side kind m

-- a move that names no man
unpromoted : (p : Setup) (m : Move) (kind : Kind) (a b : ℕ) → man_at p.board m.from ≡ Some (man p.side kind) → m.promo ≡ None → m.from ≡ a → m.to ≡ b
    → ((rest : List ℕ) → test p.side kind None rest a b ≡ true) → Mover p m
unpromoted p m kind a b stands none from to all = record {
  kind = kind;
  stands = stands;
  spelled = subst (λ (x : Move). Spelled p.side kind x) (λ i. built (sym from i) (sym to i) (sym none i)) (spelled p.side kind (built a b None) all);
}

pub mover : (p : Setup) (m : Move) (e : Effect) → length p.board ≡ 64 → effect_of p m ≡ e → Case p m e → Mover p m
mover p m Plain squares is c = record {
  kind = c.kind;
  stands = c.stands;
  spelled = spelled p.side c.kind m (λ rest.
      plain-passes p c.kind m (test p.side c.kind m.promo rest) (plain_table p.side c.kind _ m.promo rest c.promotes)
      (on_board p.board m.from (man p.side c.kind) squares c.stands) c.goes);
}
mover p m Double squares is c = unpromoted p m Pawn m.from m.to c.stands c.promo refl refl (λ rest.
    ap (at_square (test p.side Pawn None rest m.from)) (sym c.walks.3)
    ∙ leap-passes (ahead p.side rest) (forward p.side) m.from c.walks.0 (double_table p.side rest) (on_board p.board m.from (man p.side Pawn) squares c.stands) c.walks.1)
mover p m Passing squares is c = unpromoted p m Pawn m.from m.to c.stands c.promo refl refl (λ rest.
    across-passes p.side m (test p.side Pawn None rest) (plain_table p.side Pawn false None rest refl) (on_board p.board m.from (man p.side Pawn) squares c.stands) c.goes)
mover p m (Castle wing) squares is c =
    let ends = castle-squares p m wing c.stands is in
    unpromoted p m King (king_home p.side) (king_target p.side wing) c.stands c.promo ends.from ends.to (castle_table p.side wing)
mover p m Null squares is c = unpromoted p m King m.from m.from c.stands c.promo refl c.stays (λ rest.
    below (λ a. test p.side King None rest a a) 64 m.from (null_table p.side rest) (on_board p.board m.from (man p.side King) squares c.stands))
