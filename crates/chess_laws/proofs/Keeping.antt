-- The board keeps its rules in each case of a move: its squares, its kings, its pawns and how many men there are.
use Rattle.chess_laws.proofs.Words.{length, ◌≡◌, ℕ, zero, suc, ◌+◌, ◌<◌, inl, inr, Bool, true, false, ◌&&◌, cond, Option, Some, None, is_none, IsTrue, refl, sym, ◌∙◌, ap, arith, lit<, Any, All, nat_tests, Colour, White, Black, Kind, King, Queen, Rook, Pawn, Man, Move, Men, man_at, put, man, other, same_kind, Setup, Wing, KingSide, QueenSide, Castle, Offset, rank_of, forward, pawn_captures, Leaps, Walk, AttacksAs, Reaches, king_home, king_target, rook_home, rook_target, Sound, en_passant_rank, effect_as, effect_of, GoesPlainly, may_become, last_rank, pawn_rank, CastleCase, arriving, moved}
use Rattle.chess_laws.specs.Castling.{between}
use Rattle.chess_laws.proofs.Shifts.{shift-Some}
use Rattle.chess_laws.proofs.Boards.{man-colour, other-other, colour_cases, length-put, on_board, relocate-other, Goes, free-goes, Inside}

pub other-apart : (c : Colour) → other c ≡ c → ⊥
other-apart White h = cc
other-apart Black h = cc

-- the kind that arrives
abbrev pub lands_as : Kind → Option Kind → Kind
lands_as k None = k
lands_as k (Some j) = j

pub arriving-lands : (p : Setup) (m : Move) (k : Kind) (promo : Option Kind) → man_at p.board m.from ≡ Some (man p.side k) →
    arriving p m promo ≡ Some (man p.side (lands_as k promo))
arriving-lands p m k None h = h
arriving-lands p m k (Some j) h = refl

-- what a man may become: a king stays one, and only a pawn that does not come to the last rank stays a pawn
pub record Lands (k j : Kind) (last : Bool) : Type 0 where
  pub same_king : same_kind j King ≡ same_kind k King
  pub pawn : j ≡ Pawn → (k ≡ Pawn) × (last ≡ false)

pub lands : (k : Kind) (last : Bool) (promo : Option Kind) → IsTrue (cond (same_kind k Pawn && last) (may_become promo) (is_none promo)) →
    Lands k (lands_as k promo) last
lands Pawn true (Some Queen) h = record { same_king = cc; pawn = λ e. (cc, cc) }
lands k last None h = record { same_king = cc; pawn = λ e. (cc, cc) }
lands k last promo h = record { same_king = cc; pawn = λ e. (cc, cc) }

-- one rank ahead, as the side sees it
abbrev pub Ahead : Colour → ℕ → ℕ → Type 0
Ahead White a b = rank_of b ≡ rank_of a + 1
Ahead Black a b = rank_of b + 1 ≡ rank_of a

forward-ahead : (c : Colour) (a b : ℕ) → Leaps a b (forward c) → Ahead c a b
forward-ahead White a b h = omega (arith, (shift-Some (forward White) a b h).ranks)
forward-ahead Black a b h = omega (arith, (shift-Some (forward Black) a b h).ranks)

captures-ahead : (c : Colour) (a b : ℕ) → Any (Leaps a b) (pawn_captures c) → Ahead c a b
captures-ahead White a b (zero, o, less, is, leap) = omega (arith, (shift-Some o a b leap).ranks, ap (λ (s : Offset). s.up) is, ap (λ (s : Offset). s.down) is)
captures-ahead c a b (suc (suc n), o, less, is, leap) = absurd (omega (arith, less))
captures-ahead c a b (n, o, less, is, leap) = omega (arith, (shift-Some o a b leap).ranks, ap (λ (s : Offset). s.up) is, ap (λ (s : Offset). s.down) is)

pub pawn-ahead : (p : Setup) (m : Move) → GoesPlainly p Pawn m → Ahead p.side m.from m.to
pawn-ahead p m (inl steps) = forward-ahead p.side m.from m.to steps.0
pawn-ahead p m (inr takes) = captures-ahead p.side m.from m.to takes.0

-- where a pawn arrives: plainly and not on the last rank, by a double step, and on an en passant square
pub ahead-inside : (c : Colour) (a b : ℕ) → Ahead c a b → b < 64 → Inside a → (rank_of b ≡ last_rank c → ⊥) → Inside b
ahead-inside White a b ahead less inside last = (omega arith, omega arith)
ahead-inside Black a b ahead less inside last = (omega arith, omega arith)

pub double-inside : (c : Colour) (men : Men) (a b : ℕ) → rank_of a ≡ pawn_rank c → Walk men (forward c) 1 a b → Inside b
double-inside White men a b own w = let x = forward-ahead White a w.0 w.1 in let y = forward-ahead White w.0 b w.3 in (omega arith, omega arith)
double-inside Black men a b own w = let x = forward-ahead Black a w.0 w.1 in let y = forward-ahead Black w.0 b w.3 in (omega arith, omega arith)

pub passing-inside : (c : Colour) (s : ℕ) → rank_of s ≡ en_passant_rank c → Inside s
passing-inside White s fits = (omega arith, omega arith)
passing-inside Black s fits = (omega arith, omega arith)

-- a plain move never ends on a man of its own side
pub plain-no_own : (p : Setup) (m : Move) (k : Kind) → GoesPlainly p k m → (i : Kind) → man_at p.board m.to ≡ Some (man p.side i) → ⊥
plain-no_own p m Pawn (inl g) i h = cc
plain-no_own p m Pawn (inr g) i h = other-apart p.side (sym (man-colour (other p.side) p.side g.1.0 i (sym g.1.1 ∙ h)))
plain-no_own p m k g i h = g.1 i h

-- where it captures, it attacks
plain-reaches : (p : Setup) (m : Move) (k : Kind) (x : Man) → GoesPlainly p k m → man_at p.board m.to ≡ Some x → Reaches p.board p.side k m.from m.to
plain-reaches p m Pawn x (inl g) h = absurd (cc)
plain-reaches p m Pawn x (inr g) h = g.0
plain-reaches p m k x g h = g.0

-- so it never ends on a king: the other side is not in check
pub plain-no_king : (p : Setup) (m : Move) (k : Kind) → Sound p → man_at p.board m.from ≡ Some (man p.side k) → GoesPlainly p k m →
    (d : Colour) → man_at p.board m.to ≡ Some (man d King) → ⊥
plain-no_king p m k sound stands g d h = elim (colour_cases d p.side) [
  | inl own ↦ plain-no_own p m k g King (rw own at h)
  | inr enemy ↦
      let less = on_board p.board m.from (man p.side k) sound.squares stands in
      let attack : AttacksAs p.board p.side k m.to =
      record { from = m.from; on_board = less; stands = stands; reaches = plain-reaches p m k (man d King) g h } in
      sound.not_in_check (m.to, (rw enemy at h), (rw (other-other p.side) (k, attack)))
]

-- so what goes plainly meets no man of its side and no king
pub plain-goes : (p : Setup) (m : Move) (k j : Kind) → Sound p → man_at p.board m.from ≡ Some (man p.side k) → GoesPlainly p k m → m.to < 64 →
    same_kind j King ≡ same_kind k King → Goes p.board m.from m.to p.side k j
plain-goes p m k j sound stands go less same =
    let no_king = plain-no_king p m k sound stands go in
    record { squares = sound.squares; from = stands; target = less; no_own = plain-no_own p m k go; no_king = no_king; same_king = same }

pub moved-other : (p : Setup) (m : Move) (s : ℕ) → (s ≡ m.from → ⊥) → (s ≡ m.to → ⊥) → man_at (moved p m) s ≡ man_at p.board s
moved-other p m s from to = relocate-other p.board m.from m.to (arriving p m m.promo) s from to

pub length-moved : (p : Setup) (m : Move) → length p.board ≡ 64 → length (moved p m) ≡ 64
length-moved p m squares = length-put (put p.board m.from None) m.to (arriving p m m.promo) (length-put p.board m.from None squares)

-- which squares castling uses
pub record CastleSquares (p : Setup) (m : Move) (w : Wing) : Type 0 where
  pub from : m.from ≡ king_home p.side
  pub to : m.to ≡ king_target p.side w

pub castle-squares : (p : Setup) (m : Move) (w : Wing) → man_at p.board m.from ≡ Some (man p.side King) → effect_of p m ≡ Castle w → CastleSquares p m w
castle-squares p m KingSide stands e =
    let e' : effect_as King p m ≡ Castle KingSide = rw stands at e in
    record { from = grind (arith, nat_tests); to = grind (arith, nat_tests) }
castle-squares p m QueenSide stands e =
    let e' : effect_as King p m ≡ Castle QueenSide = rw stands at e in
    record { from = grind (arith, nat_tests); to = grind (arith, nat_tests) }

-- the four squares of castling are apart, and the king's and the rook's target stand between them
pub record Apart (men : Men) (c : Colour) (w : Wing) : Type 0 where
  pub king_to : man_at men (king_target c w) ≡ None
  pub rook_to : man_at men (rook_target c w) ≡ None
  pub rook_from : rook_home c w ≡ king_home c → ⊥
  pub rook_from_to : rook_home c w ≡ king_target c w → ⊥
  pub rook_to_from : rook_target c w ≡ king_home c → ⊥
  pub rook_to_to : rook_target c w ≡ king_target c w → ⊥
  pub rook_less : rook_target c w < 64
  pub king_less : king_target c w < 64

castle-empty : (men : Men) (c : Colour) (w : Wing) → All (λ s. man_at men s ≡ None) (between c w) →
    (man_at men (king_target c w) ≡ None) × (man_at men (rook_target c w) ≡ None)
castle-empty men White KingSide all = (all 1 0 (lit< tt), all 0 0 (lit< tt))
castle-empty men c QueenSide all = (all 1 0 (lit< tt), all 2 0 (lit< tt))
castle-empty men c w all = (all 1 0 (lit< tt), all 0 0 (lit< tt))

pub castle-apart : (men : Men) (c : Colour) (w : Wing) → All (λ s. man_at men s ≡ None) (between c w) → Apart men c w
castle-apart men c w all =
    let e = castle-empty men c w all in
    record {
      king_to = e.0;
      rook_to = e.1;
      rook_from = λ h. grind arith;
      rook_from_to = λ h. grind arith;
      rook_to_from = λ h. grind arith;
      rook_to_to = λ h. grind arith;
      rook_less = grind arith;
      king_less = grind arith;
    }

-- the rook goes to the square that the king has crossed
pub castle-crossed : (p : Setup) (m : Move) (w : Wing) → CastleSquares p m w → CastleCase p m w → man_at (moved p m) (rook_target p.side w) ≡ None
castle-crossed p m w at case =
    let apart = castle-apart p.board p.side w case.empty in
    moved-other p m (rook_target p.side w) (λ e. apart.rook_to_from (e ∙ at.from)) (λ e. apart.rook_to_to (e ∙ at.to)) ∙ apart.rook_to

pub castle-rook_goes : (p : Setup) (m : Move) (w : Wing) → Sound p → length (moved p m) ≡ 64 → CastleSquares p m w → CastleCase p m w →
    Goes (moved p m) (rook_home p.side w) (rook_target p.side w) p.side Rook Rook
castle-rook_goes p m w sound squares at case =
    let apart = castle-apart p.board p.side w case.empty in
    let stays = moved-other p m (rook_home p.side w) (λ e. apart.rook_from (e ∙ at.from)) (λ e. apart.rook_from_to (e ∙ at.to)) in
    free-goes (moved p m) (rook_home p.side w) (rook_target p.side w) p.side Rook squares (stays ∙ (sound.rights p.side w case.right).rook) apart.rook_less
    (castle-crossed p m w at case)
