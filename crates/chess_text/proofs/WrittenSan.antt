-- What is written of a move is read as that move.
use Rattle.std.proofs.Common.{◌≡◌, ℕ, ◌<◌, ◌⊎◌, inl, inr, ◌==◌, ◌&&◌, Bool, true, false, cond, IsTrue, if◌then◌else◌, IfSome, List, [], ◌∷◌, ◌++◌, Option, Some, None, is_none, codes, refl, sym, ◌∙◌, ap, subst, arith, append_assoc}
use Rattle.std.proofs.lemmas.Bool.{false≢true, cases_Bool, cases_eq}
use Rattle.cell_core.specs.declared.man.Kind.{Kind}
use Rattle.cell_core.specs.declared.man.Kind.TheVariants.{King, Queen, Rook, Bishop, Knight, Pawn}
use Rattle.cell_core.specs.declared.step.Move.{Move}
use Rattle.cell_core.specs.Board.{man_at}
use Rattle.cell_core.specs.Man.{man, same_kind}
use Rattle.chess_laws.specs.declared.setup.Setup.{Setup}
use Rattle.chess_laws.specs.declared.effect.Effect.{Effect}
use Rattle.chess_laws.specs.declared.effect.Effect.TheVariants as effect
use Rattle.chess_laws.specs.Geometry.{file_of, rank_of}
use Rattle.chess_laws.specs.Position.{Sound, king_square}
use Rattle.chess_laws.specs.Step.{effect_of, after, Legal, Case, may_become, last_rank, promotes_rightly}
use Rattle.chess_laws.proofs.Boards.{on_board, same_kind-true}
use Rattle.chess_laws.proofs.Following.{case-on_board}
use Rattle.chess_laws.proofs.Kings.{king-only}
use Rattle.chess_laws.proofs.MovedKings.{legal-allowed}
use Rattle.chess_text.specs.declared.shape.Going.{Going}
use Rattle.chess_text.specs.declared.shape.Shape.TheVariants.{Castle, Null, Goes}
use Rattle.chess_text.specs.Letters.{capital_of}
use Rattle.chess_text.specs.Squares.{file_text, rank_text, square_text}
use Rattle.chess_text.specs.SanShape.{man_text, null_text, part, IsCaptureSign, IsPromotion, AreSigns}
use Rattle.chess_text.specs.SanReads.{has_own_form, Fits, SanReads}
use Rattle.chess_laws.specs.Step.{is_capture}
use Rattle.chess_text.specs.San.{IsRival, OriginText, capture_text, promotion_text, pawn_text, PieceText, KindText, GoingText, SignText, IsSigned, SanBy, San}
use Rattle.chess_text.proofs.SearchLaws.{same-move, same-from, castle-one, null-one}
use Rattle.chess_text.proofs.PawnLaws.{one-square, one-pawn}

-- ---- the signs

signs-of : (q : Setup) (sign : List ℕ) → SignText q sign → AreSigns sign
signs-of q sign (inl (quiet, e)) = rw e tt
signs-of q sign (inr (inl (check, (more, e)))) = rw e (inl refl, tt)
signs-of q sign (inr (inr (check, (none, e)))) = rw e (inr refl, tt)

captures-of : (takes : Bool) → IsCaptureSign (if takes then codes "x" else [])
captures-of true = inr (inl refl)
captures-of false = inl refl

-- ---- the origin

-- what is said of a man's origin, and that it tells the man from the others
record Said (p : Setup) (k : Kind) (m : Move) (origin : List ℕ) : Type 0 where
  file : Option ℕ
  rank : Option ℕ
  spelled : origin ≡ part file_text file ++ part rank_text rank
  on_file : IfSome file (λ f. file_of m.from ≡ f)
  on_rank : IfSome rank (λ r. rank_of m.from ≡ r)
  tells : (s : ℕ) → IfSome file (λ f. file_of s ≡ f) → IfSome rank (λ r. rank_of s ≡ r) → IsRival p k m s → ⊥

origin-said : (p : Setup) (k : Kind) (m : Move) (origin : List ℕ) → OriginText p k m origin → Said p k m origin
origin-said p k m origin (inl (none, e)) = record {
  file = None;
  rank = None;
  spelled = e;
  on_file = tt;
  on_rank = tt;
  tells = λ s _ _ rival. none (s, rival);
}
origin-said p k m origin (inr (inl (some, (none, e)))) = record {
  file = Some (file_of m.from);
  rank = None;
  spelled = e;
  on_file = refl;
  on_rank = tt;
  tells = λ s same _ rival. none (s, rival, same);
}
origin-said p k m origin (inr (inr (inl (some, (none, e))))) = record {
  file = None;
  rank = Some (rank_of m.from);
  spelled = e;
  on_file = tt;
  on_rank = refl;
  tells = λ s _ same rival. none (s, rival, same);
}
origin-said p k m origin (inr (inr (inr (file, (rank, e))))) = record {
  file = Some (file_of m.from);
  rank = Some (rank_of m.from);
  spelled = e;
  on_file = refl;
  on_rank = refl;
  tells = λ s same same' rival. rival.apart (one-square s m.from same same');
}

below-file : (o : Option ℕ) (s : ℕ) → IfSome o (λ f. file_of s ≡ f) → IfSome o (λ f. f < 8)
below-file None s h = tt
below-file (Some f) s h = omega (arith, h)

below-rank : (o : Option ℕ) (s : ℕ) → s < 64 → IfSome o (λ r. rank_of s ≡ r) → IfSome o (λ r. r < 8)
below-rank None s less h = tt
below-rank (Some r) s less h = omega (arith, less, h)

-- another legal move of such a man to the target is a rival's
rival : (p : Setup) (k : Kind) (m n : Move) → Legal p n → man_at p.board n.from ≡ Some (man p.side k) → n.to ≡ m.to → n.promo ≡ None
    → (n.from ≡ m.from → ⊥) → IsRival p k m n.from
rival p k m n legal stands to promo apart =
    let same : n ≡ record { from = n.from; to = m.to; promo = None } = same-move n _ refl to promo in
    record { apart = apart; stands = stands; legal = subst (Legal p) same legal }

-- ---- the move of a man that is no pawn

piece-reads : (p : Setup) (m : Move) (k : Kind) (front signs : List ℕ) → Sound p → Legal p m → man_at p.board m.from ≡ Some (man p.side k)
    → man_text k ≡ capital_of k ∷ [] → m.promo ≡ None → has_own_form (effect_of p m) ≡ false → PieceText p k m front → AreSigns signs
    → SanReads p (front ++ signs) m
piece-reads p m k front signs sound legal stands letter promo plain text are =
    let said = origin-said p k m text.origin text.is_origin in
    let from : m.from < 64 = on_board p.board m.from (man p.side k) sound.squares stands in
    let to : m.to < 64 = case-on_board p m (effect_of p m) sound refl (legal-allowed p m legal) in
    let g : Going = record { kind = k; file = said.file; rank = said.rank; target = m.to; promo = None } in
    let fits : Fits p (Goes g) m = record {
      legal = legal;
      of_shape = record { stands = stands; file = said.on_file; rank = said.on_rank; target = refl; promo = promo; no_own_form = plain };
    } in
    let tail : List ℕ = capture_text p m ++ square_text m.to in
    let said_so : text.origin ++ tail ≡ part file_text said.file ++ (part rank_text said.rank ++ tail)
    = ap (λ (bytes : List ℕ). bytes ++ tail) said.spelled ∙ append_assoc (part file_text said.file) (part rank_text said.rank) tail in
    let spelled : front ≡ man_text k ++ (part file_text said.file ++ (part rank_text said.rank ++ (capture_text p m ++ (square_text m.to ++ []))))
    = text.spelled ∙ (ap (λ (bytes : List ℕ). capital_of k ∷ bytes) said_so
    ∙ ap (λ (bytes : List ℕ). bytes ++ (part file_text said.file ++ (part rank_text said.rank ++ tail))) (sym letter)) in
    record {
      shape = Goes g;
      spelled = record {
        front = front;
        signs = signs;
        spelled = refl;
        is_text = record {
          capture = capture_text p m;
          promotion = [];
          spelled = spelled;
          file = below-file said.file m.from said.on_file;
          rank = below-rank said.rank m.from from said.on_rank;
          target = to;
          captures = captures-of (is_capture p m);
          promotes = refl;
        };
        are_signs = are;
      };
      fits = fits;
      only = λ n other.
          elim (cases_eq n.from m.from) [
            | inl same ↦ same-from p g n m other fits same
            | inr apart ↦
                absurd (said.tells n.from other.of_shape.file other.of_shape.rank
                (rival p k m n other.legal other.of_shape.stands other.of_shape.target other.of_shape.promo apart))
          ];
    }

-- ---- the move of a pawn

-- a promotion that may be named
abbrev pub MayName : Option Kind → Type 0
MayName promo = (promo ≡ None) ⊎ IsTrue (may_become promo)

rightly-named : (b : Bool) (promo : Option Kind) → IsTrue (cond b (may_become promo) (is_none promo)) → MayName promo
rightly-named true promo h = inr h
rightly-named false None h = inl refl
rightly-named false (Some k) h = absurd (false≢true h)

pub case-named : (p : Setup) (m : Move) (e : Effect) → Case p m e → MayName m.promo
case-named p m effect.Plain case = rightly-named (same_kind case.kind Pawn && (rank_of m.to == last_rank p.side)) m.promo case.promotes
case-named p m effect.Double case = inl case.promo
case-named p m effect.Passing case = inl case.promo
case-named p m (effect.Castle wing) case = inl case.promo
case-named p m effect.Null case = inl case.promo

promotes-so : (promo : Option Kind) → MayName promo → IsPromotion (promotion_text promo) promo
promotes-so None h = refl
promotes-so (Some k) (inl e) = absurd (cc)
promotes-so (Some k) (inr may) = (may, inr refl)

-- the file of a pawn that captures
pawn-file : Bool → ℕ → Option ℕ
pawn-file true s = Some (file_of s)
pawn-file false s = None

pawn-front : (takes : Bool) (s : ℕ) (rest : List ℕ) → (if takes then file_text (file_of s) ++ codes "x" else []) ++ rest
    ≡ [] ++ (part file_text (pawn-file takes s) ++ ([] ++ ((if takes then codes "x" else []) ++ rest)))
unfolding pawn-file
pawn-front true s rest = refl
pawn-front false s rest = refl

pawn-on_file : (takes : Bool) (s : ℕ) → IfSome (pawn-file takes s) (λ f. file_of s ≡ f)
unfolding pawn-file
pawn-on_file true s = refl
pawn-on_file false s = tt

pawn-same : (takes : Bool) (s t : ℕ) → IfSome (pawn-file takes s) (λ f. file_of t ≡ f) → takes ≡ true → file_of t ≡ file_of s
unfolding pawn-file
pawn-same true s t h e = h
pawn-same false s t h e = absurd (false≢true e)

pawn-reads : (p : Setup) (m : Move) (signs : List ℕ) → Sound p → Legal p m → man_at p.board m.from ≡ Some (man p.side Pawn)
    → has_own_form (effect_of p m) ≡ false → AreSigns signs → SanReads p (pawn_text p m ++ signs) m
unfolding pawn_text
pawn-reads p m signs sound legal stands plain are =
    let case = legal-allowed p m legal in
    let from : m.from < 64 = on_board p.board m.from (man p.side Pawn) sound.squares stands in
    let to : m.to < 64 = case-on_board p m (effect_of p m) sound refl case in
    let file : Option ℕ = pawn-file (is_capture p m) m.from in
    let g : Going = record { kind = Pawn; file = file; rank = None; target = m.to; promo = m.promo } in
    let fits : Fits p (Goes g) m = record {
      legal = legal;
      of_shape = record { stands = stands; file = pawn-on_file (is_capture p m) m.from; rank = tt; target = refl; promo = refl; no_own_form = plain };
    } in
    record {
      shape = Goes g;
      spelled = record {
        front = (if is_capture p m then file_text (file_of m.from) ++ codes "x" else []) ++ (square_text m.to ++ promotion_text m.promo);
        signs = signs;
        spelled = refl;
        is_text = record {
          capture = capture_text p m;
          promotion = promotion_text m.promo;
          spelled = pawn-front (is_capture p m) m.from (square_text m.to ++ promotion_text m.promo);
          file = below-file file m.from (pawn-on_file (is_capture p m) m.from);
          rank = tt;
          target = to;
          captures = captures-of (is_capture p m);
          promotes = promotes-so m.promo (case-named p m (effect_of p m) case);
        };
        are_signs = are;
      };
      fits = fits;
      only = λ n other. same-from p g n m other fits
          (one-pawn p m n legal other.legal stands other.of_shape.stands other.of_shape.target
          (pawn-same (is_capture p m) m.from n.from other.of_shape.file));
    }

-- ---- every move

-- the move of a man that goes, by its kind
kind-reads : (p : Setup) (m : Move) (k : Kind) (front signs : List ℕ) → Sound p → Legal p m → man_at p.board m.from ≡ Some (man p.side k)
    → ((k ≡ Pawn → ⊥) → m.promo ≡ None) → has_own_form (effect_of p m) ≡ false → KindText p k m front → AreSigns signs
    → SanReads p (front ++ signs) m
kind-reads p m King front signs sound legal stands promo plain text are =
    piece-reads p m King front signs sound legal stands refl (promo (λ e. absurd (cc))) plain text are
kind-reads p m Queen front signs sound legal stands promo plain text are =
    piece-reads p m Queen front signs sound legal stands refl (promo (λ e. absurd (cc))) plain text are
kind-reads p m Rook front signs sound legal stands promo plain text are =
    piece-reads p m Rook front signs sound legal stands refl (promo (λ e. absurd (cc))) plain text are
kind-reads p m Bishop front signs sound legal stands promo plain text are =
    piece-reads p m Bishop front signs sound legal stands refl (promo (λ e. absurd (cc))) plain text are
kind-reads p m Knight front signs sound legal stands promo plain text are =
    piece-reads p m Knight front signs sound legal stands refl (promo (λ e. absurd (cc))) plain text are
kind-reads p m Pawn front signs sound legal stands promo plain text are = rw text (pawn-reads p m signs sound legal stands plain are)

none-named : (promo : Option Kind) → is_none promo ≡ true → promo ≡ None
none-named None h = refl
none-named (Some k) h = absurd (false≢true h)

-- only a pawn is promoted
unpromoted : (p : Setup) (m : Move) (k : Kind) → IsTrue (promotes_rightly p.side k m) → (k ≡ Pawn → ⊥) → m.promo ≡ None
unpromoted p m k h piece =
    elim (cases_Bool (same_kind k Pawn)) [
      | inl pawn ↦ absurd (piece (same_kind-true k Pawn pawn))
      | inr other ↦ none-named m.promo (rw other at h)
    ]

going-reads : (p : Setup) (m : Move) (k : Kind) (q : Setup) (text : List ℕ) → Sound p → Legal p m → man_at p.board m.from ≡ Some (man p.side k)
    → ((k ≡ Pawn → ⊥) → m.promo ≡ None) → has_own_form (effect_of p m) ≡ false
    → IsSigned q (GoingText (man_at p.board m.from) p m) text → SanReads p text m
going-reads p m k q text sound legal stands promo plain h =
    let front : KindText p k m h.front = rw stands at h.is_front in
    rw h.spelled (kind-reads p m k h.front h.sign sound legal stands promo plain front (signs-of q h.sign h.is_sign))

only-king : (p : Setup) → Sound p → (s : ℕ) → man_at p.board s ≡ Some (man p.side King) → s ≡ king_square p.board p.side
only-king p sound s h = king-only p.board p.side s (sound.kings p.side) h

san-by-reads : (p : Setup) (m : Move) (e : Effect) (text : List ℕ) → effect_of p m ≡ e → Sound p → Legal p m → Case p m e → SanBy e p m text
    → SanReads p text m
san-by-reads p m effect.Plain text e sound legal case h =
    going-reads p m case.kind (after p m effect.Plain) text sound legal case.stands (unpromoted p m case.kind case.promotes) (rw e refl) h
san-by-reads p m effect.Double text e sound legal case h =
    going-reads p m Pawn (after p m effect.Double) text sound legal case.stands (λ piece. absurd (piece refl)) (rw e refl) h
san-by-reads p m effect.Passing text e sound legal case h =
    going-reads p m Pawn (after p m effect.Passing) text sound legal case.stands (λ piece. absurd (piece refl)) (rw e refl) h
san-by-reads p m (effect.Castle wing) text e sound legal case h =
    let king : ℕ = king_square p.board p.side in
    let fits : Fits p (Castle wing) m = record { legal = legal; of_shape = e } in
    record {
      shape = Castle wing;
      spelled = record { front = h.front; signs = h.sign; spelled = h.spelled; is_text = inl h.is_front; are_signs = signs-of _ h.sign h.is_sign };
      fits = fits;
      only = λ n other. castle-one p wing king n (only-king p sound) other ∙ sym (castle-one p wing king m (only-king p sound) fits);
    }
san-by-reads p m effect.Null text e sound legal case h =
    let king : ℕ = king_square p.board p.side in
    let fits : Fits p Null m = record { legal = legal; of_shape = e } in
    record {
      shape = Null;
      spelled = record { front = null_text; signs = []; spelled = h; is_text = refl; are_signs = tt };
      fits = fits;
      only = λ n other. null-one p king n (only-king p sound) other ∙ sym (null-one p king m (only-king p sound) fits);
    }

pub san-reads : (p : Setup) (m : Move) (text : List ℕ) → Sound p → Legal p m → San p m text → SanReads p text m
san-reads p m text sound legal h = san-by-reads p m (effect_of p m) text refl sound legal (legal-allowed p m legal) h
