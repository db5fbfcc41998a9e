-- A move has the same text in each position of one board and side to move in which it is legal.
use Rattle.std.proofs.Common.{◌≡◌, ℕ, inl, inr, if◌then◌else◌, Bool, List, [], ◌∷◌, ◌++◌, Option, Some, None, codes, refl, sym, ap, subst, ◌∙◌}
use Rattle.cell_core.specs.declared.man.Kind.{Kind}
use Rattle.cell_core.specs.declared.man.Kind.TheVariants.{King, Queen, Rook, Bishop, Knight, Pawn}
use Rattle.cell_core.specs.declared.man.Man.{Man}
use Rattle.cell_core.specs.declared.step.Move.{Move}
use Rattle.cell_core.specs.Board.{man_at}
use Rattle.cell_core.specs.Man.{man}
use Rattle.chess_laws.specs.declared.effect.Effect.{Effect}
use Rattle.chess_laws.specs.declared.effect.Effect.TheVariants.{Plain, Double, Passing, Castle, Null}
use Rattle.chess_laws.specs.declared.setup.Rights.{Rights}
use Rattle.chess_laws.specs.declared.setup.Setup.{Setup}
use Rattle.chess_laws.specs.Attacks.{IsInCheck}
use Rattle.chess_laws.specs.Geometry.{file_of}
use Rattle.chess_laws.specs.Moves.{IsFrom}
use Rattle.chess_laws.specs.Position.{Sound, HasKings, rights_of}
use Rattle.chess_laws.specs.Step.{effect_of, Case, board_after, captures_by, is_capture, Legal}
use Rattle.chess_laws.proofs.Kings.{king-only}
use Rattle.chess_laws.proofs.MovedKings.{legal-allowed, legal-safe, Sound-after}
use Rattle.chess_text.specs.Letters.{capital_of}
use Rattle.chess_text.specs.Squares.{file_text, square_text}
use Rattle.chess_text.specs.San.{IsRival, OriginText, promotion_text, pawn_text, PieceText, KindText, GoingText, SignText, IsSigned, SanBy, San}
use Rattle.chess_text.specs.SanText.{san_text}
use Rattle.chess_text.proofs.OneText.{one-text}
use Rattle.chess_text.proofs.TextLaws.{computed}
use Rattle.tree_rows.proofs.SameBoard.{altered, effect-same, plain-same, legal-with}
use Rattle.tree_rows.proofs.NeededLaws.{needed_legal, needed_sound}
use Rattle.tree_rows.proofs.SharedSigns.{sign-after}
use Rattle.tree_rows.specs.MoveText.{right_needed, square_needed, bare, needed}

-- ---- the other men that can go there

record SameRivals (p q : Setup) (k : Kind) (m : Move) : Type 0 where
  there : (s : ℕ) → IsRival p k m s → IsRival q k m s
  back : (s : ℕ) → IsRival q k m s → IsRival p k m s

-- a king has none
no-rival : (p : Setup) (m : Move) (s : ℕ) → HasKings p.board → man_at p.board m.from ≡ Some (man p.side King) → IsRival p King m s → ⊥
no-rival p m s kings stands rival =
    rival.apart (king-only p.board p.side s (kings p.side) rival.stands ∙ sym (king-only p.board p.side m.from (kings p.side) stands))

king-rivals : (p : Setup) (rights : Rights) (square : Option ℕ) (m : Move) → HasKings p.board → man_at p.board m.from ≡ Some (man p.side King)
    → SameRivals p (altered p rights square) King m
king-rivals p rights square m kings stands = record {
  there = λ s rival. absurd (no-rival p m s kings stands rival);
  back = λ s rival. absurd (no-rival (altered p rights square) m s kings stands rival);
}

-- those that go plainly need no right and no en passant square
rival-same : (k : Kind) (p : Setup) (rights : Rights) (square : Option ℕ) (m : Move) (s : ℕ)
    → effect_of p (record { from = s; to = m.to; promo = None }) ≡ Plain → IsRival p k m s → IsRival (altered p rights square) k m s
rival-same k p rights square m s is rival =
    let n : Move = record { from = s; to = m.to; promo = None } in
    record {
      apart = rival.apart;
      stands = rival.stands;
      legal = legal-with Plain p rights square n is
          (plain-same p rights square n (subst (λ (e : Effect). Case p n e) is (legal-allowed p n rival.legal)))
          (subst (λ (e : Effect). IsInCheck (board_after p n e) p.side → ⊥) is (legal-safe p n rival.legal));
    }

piece-rivals : (k : Kind) (p : Setup) (rights : Rights) (square : Option ℕ) (m : Move)
    → ((q : Setup) (n : Move) → man_at q.board n.from ≡ Some (man q.side k) → effect_of q n ≡ Plain) → SameRivals p (altered p rights square) k m
piece-rivals k p rights square m plain =
    let n : ℕ → Move = λ s. record { from = s; to = m.to; promo = None } in
    record {
      there = λ s rival. rival-same k p rights square m s (plain p (n s) rival.stands) rival;
      back = λ s rival. rival-same k (altered p rights square) p.rights p.en_passant m s (plain (altered p rights square) (n s) rival.stands) rival;
    }

origin-same : (p q : Setup) (k : Kind) (m : Move) (text : List ℕ) → SameRivals p q k m → OriginText p k m text → OriginText q k m text
origin-same p q k m text same (inl (none, e)) = inl ((λ some. none (some.0, same.back some.0 some.1)), e)
origin-same p q k m text same (inr (inl (some, (file, e)))) =
    inr (inl ((some.0, same.there some.0 some.1), ((λ other. file (other.0, same.back other.0 other.1, other.2)), e)))
origin-same p q k m text same (inr (inr (inl (file, (rank, e))))) =
    inr (inr (inl ((file.0, same.there file.0 file.1, file.2), ((λ other. rank (other.0, same.back other.0 other.1, other.2)), e))))
origin-same p q k m text same (inr (inr (inr (file, (rank, e))))) =
    inr (inr (inr ((file.0, same.there file.0 file.1, file.2), ((rank.0, same.there rank.0 rank.1, rank.2), e))))

-- ---- the text before the sign

captures-same : (e : Effect) (p : Setup) (rights : Rights) (square : Option ℕ) (m : Move) → captures_by e (altered p rights square) m ≡ captures_by e p m
captures-same Plain p rights square m = refl
captures-same Double p rights square m = refl
captures-same Passing p rights square m = refl
captures-same (Castle wing) p rights square m = refl
captures-same Null p rights square m = refl

capture-same : (p : Setup) (rights : Rights) (square : Option ℕ) (m : Move) → is_capture (altered p rights square) m ≡ is_capture p m
unfolding is_capture
capture-same p rights square m =
    ap (λ (e : Effect). captures_by e (altered p rights square) m) (effect-same p rights square m) ∙ captures-same (effect_of p m) p rights square m

piece-same : (k : Kind) (p : Setup) (rights : Rights) (square : Option ℕ) (m : Move) (text : List ℕ) → SameRivals p (altered p rights square) k m
    → PieceText p k m text → PieceText (altered p rights square) k m text
piece-same k p rights square m text same h = record {
  origin = h.origin;
  is_origin = origin-same p (altered p rights square) k m h.origin same h.is_origin;
  spelled = h.spelled
      ∙ ap (λ (takes : Bool). capital_of k ∷ (h.origin ++ ((if takes then codes "x" else []) ++ square_text m.to)))
      (sym (capture-same p rights square m));
}

pawn-same : (p : Setup) (rights : Rights) (square : Option ℕ) (m : Move) → pawn_text p m ≡ pawn_text (altered p rights square) m
unfolding pawn_text
pawn-same p rights square m =
    ap (λ (takes : Bool). (if takes then file_text (file_of m.from) ++ codes "x" else []) ++ (square_text m.to ++ promotion_text m.promo))
    (sym (capture-same p rights square m))

kind-same : (k : Kind) (p : Setup) (rights : Rights) (square : Option ℕ) (m : Move) (text : List ℕ) → HasKings p.board
    → man_at p.board m.from ≡ Some (man p.side k) → KindText p k m text → KindText (altered p rights square) k m text
kind-same King p rights square m text kings stands h = piece-same King p rights square m text (king-rivals p rights square m kings stands) h
kind-same Queen p rights square m text kings stands h =
    piece-same Queen p rights square m text (piece-rivals Queen p rights square m (λ q n at. rw at refl)) h
kind-same Rook p rights square m text kings stands h =
    piece-same Rook p rights square m text (piece-rivals Rook p rights square m (λ q n at. rw at refl)) h
kind-same Bishop p rights square m text kings stands h =
    piece-same Bishop p rights square m text (piece-rivals Bishop p rights square m (λ q n at. rw at refl)) h
kind-same Knight p rights square m text kings stands h =
    piece-same Knight p rights square m text (piece-rivals Knight p rights square m (λ q n at. rw at refl)) h
kind-same Pawn p rights square m text kings stands h = h ∙ pawn-same p rights square m

going-same : (k : Kind) (p : Setup) (rights : Rights) (square : Option ℕ) (m : Move) (text : List ℕ) → HasKings p.board
    → man_at p.board m.from ≡ Some (man p.side k) → GoingText (man_at p.board m.from) p m text
    → GoingText (man_at p.board m.from) (altered p rights square) m text
going-same k p rights square m text kings stands h =
    subst (λ (standing : Option Man). GoingText standing (altered p rights square) m text) (sym stands)
    (kind-same k p rights square m text kings stands (subst (λ (standing : Option Man). GoingText standing p m text) stands h))

-- ---- the whole text

signed-same : (p q : Setup) (Front Other : List ℕ → Type 0) (text : List ℕ) → ((t : List ℕ) → Front t → Other t)
    → ((t : List ℕ) → SignText p t → SignText q t) → IsSigned p Front text → IsSigned q Other text
signed-same p q Front Other text front sign h = record {
  front = h.front;
  sign = h.sign;
  spelled = h.spelled;
  is_front = front h.front h.is_front;
  is_sign = sign h.sign h.is_sign;
}

by-same : (e : Effect) (p : Setup) (rights : Rights) (square : Option ℕ) (m : Move) (text : List ℕ) → HasKings p.board → HasKings (board_after p m e)
    → Case p m e → SanBy e p m text → SanBy e (altered p rights square) m text
by-same Plain p rights square m text kings next h = signed-same _ _ _ _ text
    (λ t. going-same h.kind p rights square m t kings h.stands) (λ t. sign-after Plain p rights square m t next)
by-same Double p rights square m text kings next h = signed-same _ _ _ _ text
    (λ t. going-same Pawn p rights square m t kings h.stands) (λ t. sign-after Double p rights square m t next)
by-same Passing p rights square m text kings next h = signed-same _ _ _ _ text
    (λ t. going-same Pawn p rights square m t kings h.stands) (λ t. sign-after Passing p rights square m t next)
by-same (Castle wing) p rights square m text kings next h = signed-same _ _ _ _ text
    (λ t is. is) (λ t. sign-after (Castle wing) p rights square m t next)
by-same Null p rights square m text kings next h = λ is. is

san-same : (p : Setup) (rights : Rights) (square : Option ℕ) (m : Move) (text : List ℕ) → Sound p → Legal p m → San p m text
    → San (altered p rights square) m text
san-same p rights square m text sound legal h =
    subst (λ (e : Effect). SanBy e (altered p rights square) m text) (sym (effect-same p rights square m))
    (by-same (effect_of p m) p rights square m text sound.kings (Sound-after p m sound legal).kings (legal-allowed p m legal) h)

from-itself : (p : Setup) (m : Move) → Sound p → Legal p m → IsFrom p.board p.side m
from-itself p m sound legal = record { position = p; sound = sound; board = refl; to_move = refl; legal = legal }

pub text-shared : (p : Setup) (m : Move) → Sound p → Legal p m → san_text (needed p.board p.side m) m ≡ san_text p m
unfolding needed
text-shared p m sound legal =
    let from : IsFrom p.board p.side m = from-itself p m sound legal in
    let e : Effect = effect_of (bare p.board p.side) m in
    let rights : Rights = rights_of p.board (right_needed e p.side) in
    let q : Setup = altered p rights (square_needed e m) in
    let keeps : Sound q = needed_sound p.board p.side m (bare p.board p.side) e (right_needed e p.side) (square_needed e m) from refl refl refl refl in
    one-text q m (san_text q m) (san_text p m) (computed q m keeps (needed_legal p.board p.side m q from refl))
    (san-same p rights (square_needed e m) m (san_text p m) sound legal (computed p m sound legal))
