-- A legal move leads from a position within the rules to one within the rules.
use Rattle.chess_laws.proofs.Words.{◌≡◌, ℕ, ◌<◌, inl, inr, eqb, Some, None, IsTrue, refl, sym, ◌∙◌, ap, arith, eqb-false, nat_tests, Colour, White, Kind, King, Rook, Pawn, Man, Move, man_at, man, other, Rights, Setup, Wing, KingSide, QueenSide, Effect, Plain, Double, Passing, Castle, Null, rank_of, forward, IsInCheck, king_home, rook_home, rook_target, has_right, keeps, rights_after, StandAtHome, Sound, HasFitEnPassant, effect_of, GoesPlainly, PassingCase, CastleCase, Case, arriving, last_rank, moved, passed_square, board_after, rights_left, en_passant_after, after}
use Rattle.chess_laws.proofs.Shifts.{shift-Some}
use Rattle.chess_laws.proofs.Running.{reach-ends, walk-ends}
use Rattle.chess_laws.proofs.Boards.{man-colour, man-kind, put-other, relocate-stays, other-other, on_board, Goes, free-goes, Inside, Kept, Sound-kept, Kept-goes, Kept-away}
use Rattle.chess_laws.proofs.Keeping.{other-apart, Lands, lands, lands_as, arriving-lands, plain-goes, pawn-ahead, ahead-inside, double-inside, passing-inside, moved-other, castle-squares, castle-apart, castle-crossed, castle-rook_goes}

-- each case ends on the board
plain-on_board : (p : Setup) (m : Move) (k : Kind) → GoesPlainly p k m → m.to < 64
plain-on_board p m Pawn (inl g) = (shift-Some (forward p.side) m.from m.to g.0).on_board
plain-on_board p m Pawn (inr g) = reach-ends p.board p.side Pawn m.from m.to g.0
plain-on_board p m k g = reach-ends p.board p.side k m.from m.to g.0

pub case-on_board : (p : Setup) (m : Move) (e : Effect) → Sound p → effect_of p m ≡ e → Case p m e → m.to < 64
case-on_board p m Plain sound is case = plain-on_board p m case.kind case.goes
case-on_board p m Double sound is case = walk-ends p.board (forward p.side) 1 m.from m.to case.walks
case-on_board p m Passing sound is case = reach-ends p.board p.side Pawn m.from m.to case.goes
case-on_board p m (Castle w) sound is case = rw (castle-squares p m w case.stands is).to (castle-apart p.board p.side w case.empty).king_less
case-on_board p m Null sound is case = rw case.stays (on_board p.board m.from (man p.side King) sound.squares case.stands)

-- what goes in a move that is no null move, and what arrives on its target
pub record Going (p : Setup) (m : Move) : Type 0 where
  pub kind : Kind
  pub becomes : Kind
  pub goes : Goes p.board m.from m.to p.side kind becomes
  pub brings : arriving p m m.promo ≡ Some (man p.side becomes)
  pub inside : becomes ≡ Pawn → Inside m.to
  pub stays : m.promo ≡ None → becomes ≡ kind

free-going : (p : Setup) (m : Move) (k : Kind) → Sound p → man_at p.board m.from ≡ Some (man p.side k) → m.to < 64 → man_at p.board m.to ≡ None →
    m.promo ≡ None → (k ≡ Pawn → Inside m.to) → Going p m
free-going p m k sound stands less empty none inside =
    let free = free-goes p.board m.from m.to p.side k sound.squares stands less empty in
    record { kind = k; becomes = k; goes = free; brings = rw none stands; inside = inside; stays = λ none. refl }

pub going : (p : Setup) (m : Move) (e : Effect) → Sound p → effect_of p m ≡ e → Case p m e → (e ≡ Null → ⊥) → Going p m
going p m Plain sound is case moves =
    let k = case.kind in
    let last = eqb (rank_of m.to) (last_rank p.side) in
    let less = plain-on_board p m k case.goes in
    let comes : Lands k (lands_as k m.promo) last = lands k last m.promo case.promotes in
    record {
      kind = k;
      becomes = lands_as k m.promo;
      goes = plain-goes p m k (lands_as k m.promo) sound case.stands case.goes less comes.same_king;
      brings = arriving-lands p m k m.promo case.stands;
      inside = λ e.
          let pawn = comes.pawn e in
          ahead-inside p.side m.from m.to (pawn-ahead p m (rw pawn.0 at case.goes)) less (sound.pawns m.from p.side (rw pawn.0 at case.stands))
          (eqb-false (rank_of m.to) (last_rank p.side) pawn.1);
      stays = ap (lands_as k);
    }
going p m Double sound is case moves =
    free-going p m Pawn sound case.stands (case-on_board p m Double sound is case) case.target case.promo
    (λ e. double-inside p.side p.board m.from m.to case.own_rank case.walks)
going p m Passing sound is case moves =
    free-going p m Pawn sound case.stands (case-on_board p m Passing sound is case) case.empty case.promo
    (λ e. passing-inside p.side m.to (rw case.target at sound.en_passant))
going p m (Castle w) sound is case moves =
    let to : man_at p.board m.to ≡ None = rw (castle-squares p m w case.stands is).to (castle-apart p.board p.side w case.empty).king_to in
    free-going p m King sound case.stands (case-on_board p m (Castle w) sound is case) to case.promo (λ e. absurd (cc))
going p m Null sound is case moves = absurd (moves refl)

-- the board of what has gone keeps its rules, and so does that of the whole move
pub kept : (p : Setup) → Sound p → Kept p.board
kept p sound = record { squares = sound.squares; kings = sound.kings; pawns = sound.pawns; few = sound.few }

going-kept : (p : Setup) (m : Move) → Sound p → Going p m → Kept (moved p m)
going-kept p m sound g = rw g.brings (Kept-goes p.board m.from m.to p.side g.kind g.becomes (kept p sound) g.goes g.inside)

pub passed-stands : (p : Setup) (m : Move) → PassingCase p m → man_at (moved p m) (passed_square m) ≡ Some (man (other p.side) Pawn)
passed-stands p m case =
    relocate-stays p.board m.from m.to (arriving p m m.promo) (passed_square m) (man (other p.side) Pawn) case.passed
    (λ h. other-apart p.side (man-colour p.side (other p.side) Pawn Pawn (sym case.stands ∙ h))) (λ h. cc case.empty)

pub after-kept : (p : Setup) (m : Move) (e : Effect) → Sound p → effect_of p m ≡ e → Case p m e → Kept (board_after p m e)
after-kept p m Passing sound is case =
    let first = going-kept p m sound (going p m Passing sound is case (λ n. cc)) in
    let stands = passed-stands p m case in
    Kept-away (moved p m) (passed_square m) (man (other p.side) Pawn) first stands (λ d h. cc (man-kind (other p.side) d Pawn King (sym stands ∙ h)))
after-kept p m (Castle w) sound is case =
    let first = going-kept p m sound (going p m (Castle w) sound is case (λ n. cc)) in
    Kept-goes (moved p m) (rook_home p.side w) (rook_target p.side w) p.side Rook Rook first
    (castle-rook_goes p m w sound first.squares (castle-squares p m w case.stands is) case) (λ e. absurd (cc))
after-kept p m Null sound is case = kept p sound
after-kept p m e sound is case = going-kept p m sound (going p m e sound is case (λ n. cc))

-- a man that no capture en passant takes away, and no castling moves along
pub record Rests (p : Setup) (m : Move) (x : Man) : Type 0 where
  pub passed : x ≡ man (other p.side) Pawn → ⊥
  pub castles : (w : Wing) → effect_of p m ≡ Castle w → CastleCase p m w → x ≡ man p.side Rook → ⊥

pub king-rests : (p : Setup) (m : Move) (c : Colour) → Rests p m (man c King)
king-rests p m c = record { passed = λ h. cc (ap (λ (x : Man). x.kind) h); castles = λ w is case h. cc (ap (λ (x : Man). x.kind) h) }

-- stays where he stands when a man has gone, and where no man goes or comes
pub rest-stays : (p : Setup) (m : Move) (e : Effect) → Sound p → effect_of p m ≡ e → Case p m e → (e ≡ Null → ⊥) → (x : Man) → Rests p m x → (s : ℕ) →
    man_at (moved p m) s ≡ Some x → man_at (board_after p m e) s ≡ Some x
rest-stays p m Passing sound is case moves x rests s stands =
    put-other (moved p m) (passed_square m) s None
    (λ e. rests.passed (cc (passed-stands p m case))) ∙ stands
rest-stays p m (Castle w) sound is case moves x rests s stands =
    let at = castle-squares p m w case.stands is in
    let rook = (castle-rook_goes p m w sound (going-kept p m sound (going p m (Castle w) sound is case moves)).squares at case).from in
    relocate-stays (moved p m) (rook_home p.side w) (rook_target p.side w) (Some (man p.side Rook)) s x stands
    (λ h. rests.castles w is case (cc rook)) (λ h. cc (castle-crossed p m w at case))
rest-stays p m Null sound is case moves x rests s stands = absurd (moves refl)
rest-stays p m e sound is case moves x rests s stands = stands

pub after-stays : (p : Setup) (m : Move) (e : Effect) → Sound p → effect_of p m ≡ e → Case p m e → (x : Man) → Rests p m x → (s : ℕ) →
    (s ≡ m.from → ⊥) → (s ≡ m.to → ⊥) → man_at p.board s ≡ Some x → man_at (board_after p m e) s ≡ Some x
after-stays p m Null sound is case x rests s from to stands = stands
after-stays p m e sound is case x rests s from to stands =
    rest-stays p m e sound is case (λ n. cc) x rests s (moved-other p m s from to ∙ stands)

-- a right that is left: it stood before, and the move begins and ends neither on its king's nor on its rook's home square
keeps-apart : (r : Rights) (m : Move) (c : Colour) (w : Wing) → IsTrue (keeps r m c w) → IsTrue (has_right r c w)
    × (king_home c ≡ m.from → ⊥) × (king_home c ≡ m.to → ⊥) × (rook_home c w ≡ m.from → ⊥) × (rook_home c w ≡ m.to → ⊥)
keeps-apart r m c w h =
    (grind (arith, nat_tests), λ e. grind (arith, nat_tests), λ e. grind (arith, nat_tests), λ e. grind (arith, nat_tests), λ e. grind (arith, nat_tests))

right-stays : (r : Rights) (m : Move) (c : Colour) (w : Wing) → IsTrue (has_right (rights_after r m) c w) → IsTrue (keeps r m c w)
right-stays r m White KingSide h = h
right-stays r m c QueenSide h = h
right-stays r m c w h = h

-- king and rook of a right that is left still stand at home: a castling's are those of the side that is not to move
after-home : (p : Setup) (m : Move) (e : Effect) → Sound p → effect_of p m ≡ e → Case p m e → (c : Colour) (w : Wing) →
    IsTrue (has_right (rights_left p m e) c w) → StandAtHome (board_after p m e) c w
after-home p m Null sound is case c w h = sound.rights c w h
after-home p m e sound is case c w h =
    let stays = keeps-apart p.rights m c w (right-stays p.rights m c w h) in
    let home = sound.rights c w stays.0 in
    let rests : Rests p m (man c Rook) = record {
      passed = λ h. cc (ap (λ (x : Man). x.kind) h);
      castles = λ v is' case' h. stays.1 (ap (λ (x : Man). king_home x.colour) h ∙ sym (castle-squares p m v case'.stands is').from);
    } in
    record {
      king = after-stays p m e sound is case (man c King) (king-rests p m c) (king_home c) stays.1 stays.2 home.king;
      rook = after-stays p m e sound is case (man c Rook) rests (rook_home c w) stays.3 stays.4 home.rook;
    }

after-fits : (p : Setup) (m : Move) (e : Effect) → HasFitEnPassant (other p.side) (en_passant_after p m e)
after-fits p m Double = omega arith
after-fits p m e = tt

-- a legal move keeps the rules of a position
pub Sound-step : (p : Setup) (m : Move) → Sound p → Case p m (effect_of p m) →
    (IsInCheck (after p m (effect_of p m)).board p.side → ⊥) → Sound (after p m (effect_of p m))
Sound-step p m sound case safe =
    let e = effect_of p m in
    Sound-kept (after p m e) (after-kept p m e sound refl case) (rw (other-other p.side) safe) (after-home p m e sound refl case) (after-fits p m e)
