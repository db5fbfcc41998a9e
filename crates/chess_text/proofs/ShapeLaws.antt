-- A text has at most one shape, and the reader finds it.
use Rattle.std.proofs.Common.{◌≡◌, ℕ, zero, suc, ◌+◌, ◌<◌, ◌≤◌, ◌⊎◌, inl, inr, ◌==◌, nat_le, nat_lt, Bool, true, false, cond, List, [], ◌∷◌, ◌++◌, Option, Some, None, is_some, IsTrue, IfSome, refl, sym, ◌∙◌, ap, subst, arith, append_assoc}
use Rattle.std.specs.List.{list_all}
use Rattle.std.specs.Prelude.{unwrap_or}
use Rattle.std.proofs.lemmas.Bool.{ltb-true, leb-true, false≢true, and_parts, or_cases, eqb-true, cases_Bool}
use Rattle.cell_core.specs.declared.man.Kind.{Kind}
use Rattle.cell_core.specs.declared.man.Kind.TheVariants.{King, Queen, Rook, Bishop, Knight, Pawn}
use Rattle.chess_laws.specs.declared.setup.Wing.{Wing}
use Rattle.chess_laws.specs.declared.setup.Wing.TheVariants.{KingSide, QueenSide}
use Rattle.chess_laws.specs.Geometry.{file_of, rank_of, square}
use Rattle.chess_laws.specs.Step.{may_become}
use Rattle.chess_text.specs.declared.shape.Going.{Going}
use Rattle.chess_text.specs.declared.shape.Shape.{Shape}
use Rattle.chess_text.specs.declared.shape.Shape.TheVariants.{Castle, Null, Goes}
use Rattle.chess_text.specs.Letters.{capital_of}
use Rattle.chess_text.specs.Squares.{file_text, rank_text, square_text}
use Rattle.chess_text.specs.SanShape.{man_text, castling_text, castling_digits, null_text, part, IsCaptureSign, IsPromotion, IsMoveText, AreSigns, HasShape}
use Rattle.chess_text.specs.SanReading.{promotion_named, piece_named, file_named, rank_named, is_sign, aimed, is_form, form_named, shape_named}
use Rattle.chess_text.specs.SanParts.{is_capture_sign, front, behind, begins, passed, square_from, square_front, behind_square, promotion_front, behind_promotion, ended, from_capture, from_rank, from_file, from_kind, going_parts, shape_from, shape_parts}
use Rattle.chess_text.proofs.PartLaws.{shape_is}

-- ---- what the bytes of files and ranks name

-- what holds of each number below 8
below_eight : (P : ℕ → Type 0) → P 0 → P 1 → P 2 → P 3 → P 4 → P 5 → P 6 → P 7 → (n : ℕ) → n < 8 → P n
below_eight P a b c d e f g h zero k = a
below_eight P a b c d e f g h (suc zero) k = b
below_eight P a b c d e f g h (suc (suc zero)) k = c
below_eight P a b c d e f g h (suc (suc (suc zero))) k = d
below_eight P a b c d e f g h (suc (suc (suc (suc zero)))) k = e
below_eight P a b c d e f g h (suc (suc (suc (suc (suc zero))))) k = f
below_eight P a b c d e f g h (suc (suc (suc (suc (suc (suc zero)))))) k = g
below_eight P a b c d e f g h (suc (suc (suc (suc (suc (suc (suc zero))))))) k = h
below_eight P a b c d e f g h (suc (suc (suc (suc (suc (suc (suc (suc n)))))))) k = absurd (omega (arith, k))

file-file : (n : ℕ) → n < 8 → file_named (97 + n) ≡ Some n
unfolding file_named
file-file = below_eight (λ n. file_named (97 + n) ≡ Some n) refl refl refl refl refl refl refl refl

file-rank : (n : ℕ) → n < 8 → rank_named (97 + n) ≡ None
unfolding rank_named
file-rank = below_eight (λ n. rank_named (97 + n) ≡ None) refl refl refl refl refl refl refl refl

file-piece : (n : ℕ) → n < 8 → piece_named (97 + n) ≡ None
unfolding piece_named promotion_named
file-piece = below_eight (λ n. piece_named (97 + n) ≡ None) refl refl refl refl refl refl refl refl

file-capture : (n : ℕ) → n < 8 → is_capture_sign (97 + n) ≡ false
file-capture = below_eight (λ n. is_capture_sign (97 + n) ≡ false) refl refl refl refl refl refl refl refl

rank-rank : (n : ℕ) → n < 8 → rank_named (49 + n) ≡ Some n
unfolding rank_named
rank-rank = below_eight (λ n. rank_named (49 + n) ≡ Some n) refl refl refl refl refl refl refl refl

rank-file : (n : ℕ) → n < 8 → file_named (49 + n) ≡ None
unfolding file_named
rank-file = below_eight (λ n. file_named (49 + n) ≡ None) refl refl refl refl refl refl refl refl

rank-piece : (n : ℕ) → n < 8 → piece_named (49 + n) ≡ None
unfolding piece_named promotion_named
rank-piece = below_eight (λ n. piece_named (49 + n) ≡ None) refl refl refl refl refl refl refl refl

rank-capture : (n : ℕ) → n < 8 → is_capture_sign (49 + n) ≡ false
rank-capture = below_eight (λ n. is_capture_sign (49 + n) ≡ false) refl refl refl refl refl refl refl refl

-- ---- the grammar is read: what stands behind the target

signs-listed : (signs : List ℕ) → AreSigns signs → list_all is_sign signs ≡ true
signs-listed [] h = refl
signs-listed (byte ∷ signs) (inl plus, h) = rw (plus, signs-listed signs h) refl
signs-listed (byte ∷ signs) (inr mate, h) = rw (mate, signs-listed signs h) refl

-- what begins with no part of a target
record EndsTarget (text : List ℕ) : Type 0 where
  no_file : front file_named text ≡ None
  no_capture : begins is_capture_sign text ≡ false
  same : passed is_capture_sign text ≡ text

-- a promotion and the signs behind it
record IsEnd (promotion signs : List ℕ) (promo : Option Kind) : Type 0 where
  ends : EndsTarget (promotion ++ signs)
  promotes : promotion_front (promotion ++ signs) ≡ promo
  rest : behind_promotion (promotion ++ signs) ≡ signs

end : (promotion signs : List ℕ) (promo : Option Kind) → IsPromotion promotion promo → AreSigns signs → IsEnd promotion signs promo
unfolding promotion_front behind_promotion promotion_named file_named
end promotion [] None e h =
    rw e (record { ends = record { no_file = refl; no_capture = refl; same = refl }; promotes = refl; rest = refl })
end promotion (byte ∷ signs) None e (inl plus, h) =
    rw (e, plus) (record { ends = record { no_file = refl; no_capture = refl; same = refl }; promotes = refl; rest = refl })
end promotion (byte ∷ signs) None e (inr mate, h) =
    rw (e, mate) (record { ends = record { no_file = refl; no_capture = refl; same = refl }; promotes = refl; rest = refl })
end promotion signs (Some King) (never, e) h = absurd (false≢true never)
end promotion signs (Some Pawn) (never, e) h = absurd (false≢true never)
end promotion signs (Some Queen) (may, inl e) h =
    rw e (record { ends = record { no_file = refl; no_capture = refl; same = refl }; promotes = refl; rest = refl })
end promotion signs (Some Queen) (may, inr e) h =
    rw e (record { ends = record { no_file = refl; no_capture = refl; same = refl }; promotes = refl; rest = refl })
end promotion signs (Some Rook) (may, inl e) h =
    rw e (record { ends = record { no_file = refl; no_capture = refl; same = refl }; promotes = refl; rest = refl })
end promotion signs (Some Rook) (may, inr e) h =
    rw e (record { ends = record { no_file = refl; no_capture = refl; same = refl }; promotes = refl; rest = refl })
end promotion signs (Some Bishop) (may, inl e) h =
    rw e (record { ends = record { no_file = refl; no_capture = refl; same = refl }; promotes = refl; rest = refl })
end promotion signs (Some Bishop) (may, inr e) h =
    rw e (record { ends = record { no_file = refl; no_capture = refl; same = refl }; promotes = refl; rest = refl })
end promotion signs (Some Knight) (may, inl e) h =
    rw e (record { ends = record { no_file = refl; no_capture = refl; same = refl }; promotes = refl; rest = refl })
end promotion signs (Some Knight) (may, inr e) h =
    rw e (record { ends = record { no_file = refl; no_capture = refl; same = refl }; promotes = refl; rest = refl })

-- ---- the grammar is read: the target and what stands in front of it

file-below : (t : ℕ) → file_of t < 8
file-below t = omega arith

rank-below : (t : ℕ) → t < 64 → rank_of t < 8
rank-below t h = omega (arith, h)

same-square : (t : ℕ) → square (file_of t) (rank_of t) ≡ t
same-square t = omega arith

target-front : (t : ℕ) (text : List ℕ) → t < 64 → square_front (square_text t ++ text) ≡ Some t
unfolding square_front
target-front t text h =
    rw (file-file (file_of t) (file-below t), rank-rank (rank_of t) (rank-below t h)) (ap Some (same-square t))

target-behind : (t : ℕ) (text : List ℕ) → t < 64 → behind_square (square_text t ++ text) ≡ text
unfolding behind_square
target-behind t text h = rw (target-front t text h) refl

-- the first byte names nothing, so the text stays
record NoFront {A : Type 0} (named : ℕ → Option A) (text : List ℕ) : Type 0 where
  none : front named text ≡ None
  same : behind named text ≡ text

no-front : {A : Type 0} (named : ℕ → Option A) (byte : ℕ) (text : List ℕ) → named byte ≡ None → NoFront named (byte ∷ text)
no-front named byte text h = record { none = h; same = rw h refl }

-- the sign of a capture, or the target's file, names neither a rank nor a man
at-capture : {A : Type 0} (named : ℕ → Option A) (capture : List ℕ) (t : ℕ) (text : List ℕ) → named 120 ≡ None → named 58 ≡ None
    → ((n : ℕ) → n < 8 → named (97 + n) ≡ None) → IsCaptureSign capture → NoFront named (capture ++ (square_text t ++ text))
at-capture named capture t text x colon files (inl e) = rw e (no-front named _ _ (files (file_of t) (file-below t)))
at-capture named capture t text x colon files (inr (inl e)) = rw e (no-front named 120 _ x)
at-capture named capture t text x colon files (inr (inr e)) = rw e (no-front named 58 _ colon)

record Parts (capture promotion signs : List ℕ) (t : ℕ) (promo : Option Kind) : Type 0 where
  captures : IsCaptureSign capture
  target : t < 64
  end : IsEnd promotion signs promo
  listed : list_all is_sign signs ≡ true

read_target : (k : Kind) (file rank : Option ℕ) (takes : Bool) (capture promotion signs : List ℕ) (t : ℕ) (promo : Option Kind)
    → Parts capture promotion signs t promo → from_capture k file rank takes (square_text t ++ (promotion ++ signs))
    ≡ Some (record { kind = k; file = file; rank = rank; target = t; promo = promo })
read_target k file rank takes capture promotion signs t promo h =
    rw (
      target-front t (promotion ++ signs) h.target,
      target-behind t (promotion ++ signs) h.target,
      h.end.promotes,
      h.end.rest,
      h.listed,
    ) refl

read_capture : (k : Kind) (file rank : Option ℕ) (capture promotion signs : List ℕ) (t : ℕ) (promo : Option Kind)
    → Parts capture promotion signs t promo → IsCaptureSign capture → from_rank k file rank (capture ++ (square_text t ++ (promotion ++ signs)))
    ≡ Some (record { kind = k; file = file; rank = rank; target = t; promo = promo })
read_capture k file rank capture promotion signs t promo h (inl e) =
    rw (e, file-capture (file_of t) (file-below t)) (read_target k file rank false capture promotion signs t promo h)
read_capture k file rank capture promotion signs t promo h (inr (inl e)) =
    rw e (read_target k file rank true capture promotion signs t promo h)
read_capture k file rank capture promotion signs t promo h (inr (inr e)) =
    rw e (read_target k file rank true capture promotion signs t promo h)

read_rank : (k : Kind) (file rank : Option ℕ) (capture promotion signs : List ℕ) (t : ℕ) (promo : Option Kind)
    → Parts capture promotion signs t promo → IfSome rank (λ r. r < 8)
    → from_file k file (part rank_text rank ++ (capture ++ (square_text t ++ (promotion ++ signs))))
    ≡ Some (record { kind = k; file = file; rank = rank; target = t; promo = promo })
unfolding rank_named
read_rank k file None capture promotion signs t promo h within =
    let n : NoFront rank_named (capture ++ (square_text t ++ (promotion ++ signs)))
    = at-capture rank_named capture t (promotion ++ signs) refl refl file-rank h.captures in
    rw (n.none, n.same) (read_capture k file None capture promotion signs t promo h h.captures)
read_rank k file (Some r) capture promotion signs t promo h within =
    rw (rank-rank r within) (read_capture k file (Some r) capture promotion signs t promo h h.captures)

read_file : (k : Kind) (file rank : Option ℕ) (capture promotion signs : List ℕ) (t : ℕ) (promo : Option Kind)
    → Parts capture promotion signs t promo → IsCaptureSign capture → IfSome file (λ f. f < 8) → IfSome rank (λ r. r < 8)
    → from_kind k (part file_text file ++ (part rank_text rank ++ (capture ++ (square_text t ++ (promotion ++ signs)))))
    ≡ Some (record { kind = k; file = file; rank = rank; target = t; promo = promo })
unfolding square_front behind_square file_named rank_named
read_file k None None capture promotion signs t promo h (inl e) on_file on_rank =
    rw (
      e,
      file-file (file_of t) (file-below t),
      rank-rank (rank_of t) (rank-below t h.target),
      h.end.ends.no_capture,
      h.end.ends.same,
      h.end.ends.no_file,
      h.end.promotes,
      h.end.rest,
      h.listed,
      same-square t,
    ) refl
read_file k None None capture promotion signs t promo h (inr (inl e)) on_file on_rank =
    rw e (read_rank k None None (120 ∷ []) promotion signs t promo (record { captures = inr (inl refl); target = h.target; end = h.end; listed = h.listed }) tt)
read_file k None None capture promotion signs t promo h (inr (inr e)) on_file on_rank =
    rw e (read_rank k None None (58 ∷ []) promotion signs t promo (record { captures = inr (inr refl); target = h.target; end = h.end; listed = h.listed }) tt)
read_file k None (Some r) capture promotion signs t promo h takes on_file on_rank =
    rw (rank-file r on_rank) (read_rank k None (Some r) capture promotion signs t promo h on_rank)
read_file k (Some f) rank capture promotion signs t promo h takes on_file on_rank =
    rw (file-file f on_file) (read_rank k (Some f) rank capture promotion signs t promo h on_rank)

-- a text without a man's letter begins with none
no-piece : (file rank : Option ℕ) (capture : List ℕ) (t : ℕ) (text : List ℕ) → IsCaptureSign capture → IfSome file (λ f. f < 8)
    → IfSome rank (λ r. r < 8) → NoFront piece_named (part file_text file ++ (part rank_text rank ++ (capture ++ (square_text t ++ text))))
unfolding piece_named promotion_named
no-piece None None capture t text takes on_file on_rank = at-capture piece_named capture t text refl refl file-piece takes
no-piece None (Some r) capture t text takes on_file on_rank = no-front piece_named _ _ (rank-piece r on_rank)
no-piece (Some f) rank capture t text takes on_file on_rank = no-front piece_named _ _ (file-piece f on_file)

read_kind : (k : Kind) (file rank : Option ℕ) (capture promotion signs : List ℕ) (t : ℕ) (promo : Option Kind)
    → Parts capture promotion signs t promo → IfSome file (λ f. f < 8) → IfSome rank (λ r. r < 8)
    → going_parts (man_text k ++ (part file_text file ++ (part rank_text rank ++ (capture ++ (square_text t ++ (promotion ++ signs))))))
    ≡ Some (record { kind = k; file = file; rank = rank; target = t; promo = promo })
unfolding going_parts piece_named promotion_named
read_kind Pawn file rank capture promotion signs t promo h on_file on_rank =
    let n : NoFront piece_named (part file_text file ++ (part rank_text rank ++ (capture ++ (square_text t ++ (promotion ++ signs)))))
    = no-piece file rank capture t (promotion ++ signs) h.captures on_file on_rank in
    rw (n.none, n.same) (read_file Pawn file rank capture promotion signs t promo h h.captures on_file on_rank)
read_kind King file rank capture promotion signs t promo h on_file on_rank =
    read_file King file rank capture promotion signs t promo h h.captures on_file on_rank
read_kind Queen file rank capture promotion signs t promo h on_file on_rank =
    read_file Queen file rank capture promotion signs t promo h h.captures on_file on_rank
read_kind Rook file rank capture promotion signs t promo h on_file on_rank =
    read_file Rook file rank capture promotion signs t promo h h.captures on_file on_rank
read_kind Bishop file rank capture promotion signs t promo h on_file on_rank =
    read_file Bishop file rank capture promotion signs t promo h h.captures on_file on_rank
read_kind Knight file rank capture promotion signs t promo h on_file on_rank =
    read_file Knight file rank capture promotion signs t promo h h.captures on_file on_rank

-- ---- each shape is read

reassoc : (a b c d e f s : List ℕ)
    → (a ++ (b ++ (c ++ (d ++ (e ++ f))))) ++ s ≡ a ++ (b ++ (c ++ (d ++ (e ++ (f ++ s)))))
reassoc a b c d e f s = simp append_assoc refl

castle-only : (wing : Wing) (text signs : List ℕ) → (text ≡ castling_text wing ++ signs) ⊎ (text ≡ castling_digits wing ++ signs)
    → AreSigns signs → shape_parts text ≡ Some (Castle wing)
unfolding shape_parts going_parts form_named piece_named promotion_named file_named rank_named square_front behind_square promotion_front behind_promotion
castle-only KingSide text signs (inl e) s = rw (e, signs-listed signs s) refl
castle-only KingSide text signs (inr e) s = rw (e, signs-listed signs s) refl
castle-only QueenSide text signs (inl e) s = rw (e, signs-listed signs s) refl
castle-only QueenSide text signs (inr e) s = rw (e, signs-listed signs s) refl

null-only : (text signs : List ℕ) → text ≡ null_text ++ signs → AreSigns signs → shape_parts text ≡ Some Null
unfolding shape_parts going_parts form_named piece_named promotion_named file_named rank_named square_front behind_square promotion_front behind_promotion
null-only text signs e s = rw (e, signs-listed signs s) refl

either : (wing : Wing) (text front signs : List ℕ) → text ≡ front ++ signs → IsMoveText front (Castle wing)
    → (text ≡ castling_text wing ++ signs) ⊎ (text ≡ castling_digits wing ++ signs)
either wing text front signs e (inl w) = inl (rw w at e)
either wing text front signs e (inr w) = inr (rw w at e)

parts-only : (text : List ℕ) (shape : Shape) → HasShape text shape → shape_parts text ≡ Some shape
unfolding shape_parts
parts-only text (Goes g) h =
    let w = h.is_text in
    let e : IsEnd w.promotion h.signs g.promo = end w.promotion h.signs g.promo w.promotes h.are_signs in
    let parts : Parts w.capture w.promotion h.signs g.target g.promo
    = record { captures = w.captures; target = w.target; end = e; listed = signs-listed h.signs h.are_signs } in
    rw (h.spelled, w.spelled, reassoc (man_text g.kind) (part file_text g.file) (part rank_text g.rank) w.capture (square_text g.target) w.promotion h.signs)
    (ap (λ (o : Option Going). shape_from o (man_text g.kind ++ (part file_text g.file ++ (part rank_text g.rank ++ (w.capture ++ (square_text g.target ++ (w.promotion ++ h.signs)))))))
    (read_kind g.kind g.file g.rank w.capture w.promotion h.signs g.target g.promo parts w.file w.rank))
parts-only text (Castle wing) h = castle-only wing text h.signs (either wing text h.front h.signs h.spelled h.is_text) h.are_signs
parts-only text Null h = null-only text h.signs (rw h.is_text at h.spelled) h.are_signs

-- ---- what is read has the shape

listed-signs : (signs : List ℕ) → list_all is_sign signs ≡ true → AreSigns signs
listed-signs [] h = tt
listed-signs (byte ∷ signs) h =
    let both : (is_sign byte ≡ true) × (list_all is_sign signs ≡ true) = and_parts (is_sign byte) (list_all is_sign signs) h in
    let one : (byte ≡ 43) ⊎ (byte ≡ 35) = elim (or_cases (byte == 43) (byte == 35) both.0) [
      | inl plus ↦ inl (eqb-true byte 43 plus)
      | inr mate ↦ inr (eqb-true byte 35 mate)
    ] in
    (one, listed-signs signs both.1)

-- what a test or the tests behind it answered
test-Some : {A : Type 0} (b : Bool) (x y : A) (o : Option A) (P : Type 0) → cond b (Some x) o ≡ Some y → (b ≡ true → x ≡ y → P)
    → (o ≡ Some y → P) → P
test-Some true x y o P h first other = first refl (cc)
test-Some false x y o P h first other = other h

none-Some : {A : Type 0} (y : A) (P : Type 0) → ◌≡◌ {A = Option A} None (Some y) → P
none-Some y P h = absurd (cc)

-- the letter that names a kind
letter-promotion : (byte : ℕ) (k : Kind) → promotion_named byte ≡ Some k → IsTrue (may_become (Some k)) × (byte ≡ capital_of k)
unfolding promotion_named
letter-promotion byte k h =
    let P : Kind → Type 0 = λ k. IsTrue (may_become (Some k)) × (byte ≡ capital_of k) in
    test-Some _ _ k _ (P k) h (λ b e. subst P e (refl, eqb-true byte 81 b)) (λ h.
    test-Some _ _ k _ (P k) h (λ b e. subst P e (refl, eqb-true byte 82 b)) (λ h.
    test-Some _ _ k _ (P k) h (λ b e. subst P e (refl, eqb-true byte 66 b)) (λ h.
    test-Some _ _ k _ (P k) h (λ b e. subst P e (refl, eqb-true byte 78 b)) (λ h. none-Some k (P k) h))))

letter-piece : (byte : ℕ) (k : Kind) → piece_named byte ≡ Some k → man_text k ≡ byte ∷ []
unfolding piece_named promotion_named
letter-piece byte k h =
    let P : Kind → Type 0 = λ k. man_text k ≡ byte ∷ [] in
    let alone : (n : ℕ) → byte ≡ n → n ∷ [] ≡ byte ∷ [] = λ n e. ap (λ (b : ℕ). b ∷ []) (sym e) in
    test-Some _ _ k _ (P k) h (λ b e. subst P e (alone 75 (eqb-true byte 75 b))) (λ h.
    test-Some _ _ k _ (P k) h (λ b e. subst P e (alone 81 (eqb-true byte 81 b))) (λ h.
    test-Some _ _ k _ (P k) h (λ b e. subst P e (alone 82 (eqb-true byte 82 b))) (λ h.
    test-Some _ _ k _ (P k) h (λ b e. subst P e (alone 66 (eqb-true byte 66 b))) (λ h.
    test-Some _ _ k _ (P k) h (λ b e. subst P e (alone 78 (eqb-true byte 78 b))) (λ h. none-Some k (P k) h)))))

letter-file : (byte f : ℕ) → file_named byte ≡ Some f → (f < 8) × (byte ≡ 97 + f)
unfolding file_named
letter-file byte f h =
    test-Some _ _ f _ ((f < 8) × (byte ≡ 97 + f)) h (λ b e.
    let both = and_parts (nat_le 97 byte) (nat_lt byte 105) b in
    let low : 97 ≤ byte = leb-true 97 byte both.0 in
    let high : byte < 105 = ltb-true byte 105 both.1 in
    (omega (arith, low, high, e), omega (arith, low, high, e))) (λ h. none-Some f _ h)

letter-rank : (byte r : ℕ) → rank_named byte ≡ Some r → (r < 8) × (byte ≡ 49 + r)
unfolding rank_named
letter-rank byte r h =
    test-Some _ _ r _ ((r < 8) × (byte ≡ 49 + r)) h (λ b e.
    let both = and_parts (nat_le 49 byte) (nat_lt byte 57) b in
    let low : 49 ≤ byte = leb-true 49 byte both.0 in
    let high : byte < 57 = ltb-true byte 57 both.1 in
    (omega (arith, low, high, e), omega (arith, low, high, e))) (λ h. none-Some r _ h)

-- each part of the text, and what is left of it
kind-from : (byte : ℕ) (text : List ℕ) (o : Option Kind) → piece_named byte ≡ o
    → byte ∷ text ≡ man_text (unwrap_or (piece_named byte) Pawn) ++ cond (is_some (piece_named byte)) text (byte ∷ text)
kind-from byte text None h = rw h refl
kind-from byte text (Some k) h = rw h (rw (letter-piece byte k h) refl)

kind-spelled : (text : List ℕ) → text ≡ man_text (unwrap_or (front piece_named text) Pawn) ++ behind piece_named text
kind-spelled [] = refl
kind-spelled (byte ∷ text) = kind-from byte text (piece_named byte) refl

record Spelled (said : (ℕ → List ℕ)) (named : ℕ → Option ℕ) (text : List ℕ) : Type 0 where
  spelled : text ≡ part said (front named text) ++ behind named text
  within : IfSome (front named text) (λ n. n < 8)

file-from : (byte : ℕ) (text : List ℕ) (o : Option ℕ) → file_named byte ≡ o → Spelled file_text file_named (byte ∷ text)
file-from byte text None h = record { spelled = rw h refl; within = rw h tt }
file-from byte text (Some f) h =
    let l = letter-file byte f h in
    record { spelled = rw h (ap (λ (b : ℕ). b ∷ text) l.1); within = rw h l.0 }

file-spelled : (text : List ℕ) → Spelled file_text file_named text
file-spelled [] = record { spelled = refl; within = tt }
file-spelled (byte ∷ text) = file-from byte text (file_named byte) refl

rank-from : (byte : ℕ) (text : List ℕ) (o : Option ℕ) → rank_named byte ≡ o → Spelled rank_text rank_named (byte ∷ text)
rank-from byte text None h = record { spelled = rw h refl; within = rw h tt }
rank-from byte text (Some r) h =
    let l = letter-rank byte r h in
    record { spelled = rw h (ap (λ (b : ℕ). b ∷ text) l.1); within = rw h l.0 }

rank-spelled : (text : List ℕ) → Spelled rank_text rank_named text
rank-spelled [] = record { spelled = refl; within = tt }
rank-spelled (byte ∷ text) = rank-from byte text (rank_named byte) refl

record CaptureSpelled (text : List ℕ) : Type 0 where
  capture : List ℕ
  spelled : text ≡ capture ++ passed is_capture_sign text
  captures : IsCaptureSign capture
  none : begins is_capture_sign text ≡ false → capture ≡ []

capture-spelled : (text : List ℕ) → CaptureSpelled text
capture-spelled [] = record { capture = []; spelled = refl; captures = inl refl; none = λ _. refl }
capture-spelled (byte ∷ text) =
    elim (cases_Bool (is_capture_sign byte)) [
      | inl takes ↦ record {
        capture = byte ∷ [];
        spelled = rw takes refl;
        captures = elim (or_cases (byte == 120) (byte == 58) takes) [
          | inl x ↦ inr (inl (ap (λ (b : ℕ). b ∷ []) (eqb-true byte 120 x)))
          | inr colon ↦ inr (inr (ap (λ (b : ℕ). b ∷ []) (eqb-true byte 58 colon)))
        ];
        none = λ never. absurd (false≢true (sym never ∙ takes));
      }
      | inr none ↦ record { capture = []; spelled = rw none refl; captures = inl refl; none = λ _. refl }
    ]

-- what stands for the target, if a square does
Aims : List ℕ → Option ℕ → List ℕ → Type 0
Aims text None rest = rest ≡ text
Aims text (Some s) rest = (s < 64) × (text ≡ square_text s ++ rest)

square-of : (f r : ℕ) → f < 8 → r < 8 → square_text (square f r) ≡ (97 + f) ∷ (49 + r) ∷ []
square-of f r h k =
    let file : file_of (square f r) ≡ f = omega (arith, h, k) in
    let rank : rank_of (square f r) ≡ r = omega (arith, h, k) in
    rw (file, rank) refl

square-at : (a b : ℕ) (text : List ℕ) (o u : Option ℕ) → file_named a ≡ o → rank_named b ≡ u
    → Aims (a ∷ b ∷ text) (square_from o u) (cond (is_some (square_from o u)) text (a ∷ b ∷ text))
unfolding Aims
square-at a b text None u h k = refl
square-at a b text (Some f) None h k = refl
square-at a b text (Some f) (Some r) h k =
    let l = letter-file a f h in
    let m = letter-rank b r k in
    let e : square_text (square f r) ++ text ≡ (97 + f) ∷ (49 + r) ∷ text
    = ap (λ (bytes : List ℕ). bytes ++ text) (square-of f r l.0 m.0) in
    (omega (arith, l.0, m.0), ap (λ (x : ℕ). x ∷ b ∷ text) l.1 ∙ (ap (λ (y : ℕ). (97 + f) ∷ y ∷ text) m.1 ∙ sym e))

square-alone : (a : ℕ) (o : Option ℕ) → Aims (a ∷ []) (square_from o None) (cond (is_some (square_from o None)) [] (a ∷ []))
unfolding Aims
square-alone a None = refl
square-alone a (Some f) = refl

square-spelled : (text : List ℕ) → Aims text (square_front text) (behind_square text)
unfolding square_front behind_square Aims
square-spelled [] = refl
square-spelled (a ∷ []) = square-alone a (file_named a)
square-spelled (a ∷ b ∷ text) = square-at a b text (file_named a) (rank_named b) refl refl

record PromotionSpelled (text : List ℕ) (promo : Option Kind) (rest : List ℕ) : Type 0 where
  promotion : List ℕ
  spelled : text ≡ promotion ++ rest
  promotes : IsPromotion promotion promo

equals-at : (byte : ℕ) (text : List ℕ) (o : Option Kind) → promotion_named byte ≡ o
    → PromotionSpelled (61 ∷ byte ∷ text) (promotion_named byte) (cond (is_some (promotion_named byte)) (cond (is_some (promotion_named byte)) text (byte ∷ text)) (61 ∷ byte ∷ text))
equals-at byte text None h = rw h (record { promotion = []; spelled = refl; promotes = refl })
equals-at byte text (Some k) h =
    let l = letter-promotion byte k h in
    rw h (record { promotion = 61 ∷ byte ∷ []; spelled = refl; promotes = (l.0, inr (ap (λ (b : ℕ). 61 ∷ b ∷ []) l.1)) })

promotion-plain : (byte : ℕ) (text : List ℕ) (o : Option Kind) → promotion_named byte ≡ o
    → PromotionSpelled (byte ∷ text) (promotion_named byte) (cond (is_some (promotion_named byte)) (cond (is_some (promotion_named byte)) text (byte ∷ text)) (byte ∷ text))
promotion-plain byte text None h = rw h (record { promotion = []; spelled = refl; promotes = refl })
promotion-plain byte text (Some k) h =
    let l = letter-promotion byte k h in
    rw h (record { promotion = byte ∷ []; spelled = refl; promotes = (l.0, inl (ap (λ (b : ℕ). b ∷ []) l.1)) })

equals-spelled : (text : List ℕ) → PromotionSpelled (61 ∷ text) (promotion_front (61 ∷ text)) (behind_promotion (61 ∷ text))
unfolding promotion_front behind_promotion
equals-spelled [] = record { promotion = []; spelled = refl; promotes = refl }
equals-spelled (byte ∷ text) = equals-at byte text (promotion_named byte) refl

promotion-spelled : (text : List ℕ) → PromotionSpelled text (promotion_front text) (behind_promotion text)
unfolding promotion_front behind_promotion
promotion-spelled [] = record { promotion = []; spelled = refl; promotes = refl }
promotion-spelled (byte ∷ text) =
    elim (cases_Bool (byte == 61)) [
      | inl equals ↦ rw (eqb-true byte 61 equals) (equals-spelled text)
      | inr other ↦ rw other (promotion-plain byte text (promotion_named byte) refl)
    ]

-- ---- the shape of what is read

ended-Some : (o : Option Going) (text : List ℕ) (g : Going) → ended o text ≡ Some g → (o ≡ Some g) × (list_all is_sign text ≡ true)
ended-Some o text g h =
    elim (cases_Bool (list_all is_sign text)) [
      | inl signs ↦ (rw signs at h, signs)
      | inr other ↦ none-Some g _ (rw other at h)
    ]

same-Some : (a b : Going) → ◌≡◌ {A = Option Going} (Some a) (Some b) → a ≡ b
same-Some a b h = cc

-- the parts of a text one behind another
record Cut (text : List ℕ) (k : Kind) (file rank : Option ℕ) (takes : Bool) (target : Option ℕ) (promo : Option Kind) (signs : List ℕ) : Type 0 where
  capture : List ℕ
  promotion : List ℕ
  file_on : List ℕ
  rank_on : List ℕ
  capture_on : List ℕ
  target_on : List ℕ
  promotion_on : List ℕ
  kind_spelled : text ≡ man_text k ++ file_on
  file_spelled : file_on ≡ part file_text file ++ rank_on
  rank_spelled : rank_on ≡ part rank_text rank ++ capture_on
  capture_spelled : capture_on ≡ capture ++ target_on
  target_spelled : Aims target_on target promotion_on
  promotion_spelled : promotion_on ≡ promotion ++ signs
  on_file : IfSome file (λ f. f < 8)
  on_rank : IfSome rank (λ r. r < 8)
  captures : IsCaptureSign capture
  no_capture : takes ≡ false → capture ≡ []
  promotes : IsPromotion promotion promo

cut-shape : (text : List ℕ) (k : Kind) (file rank : Option ℕ) (takes : Bool) (target : Option ℕ) (promo : Option Kind) (signs : List ℕ)
    → (c : Cut text k file rank takes target promo signs) → AreSigns signs → (g : Going) → aimed k file rank takes target promo ≡ Some g
    → HasShape text (Goes g)
unfolding Aims
cut-shape text k file rank takes (Some t) promo signs c are g h =
    subst (λ (g : Going). HasShape text (Goes g)) (same-Some _ _ h) (record {
      front = man_text k ++ (part file_text file ++ (part rank_text rank ++ (c.capture ++ (square_text t ++ c.promotion))));
      signs = signs;
      spelled = rw (c.kind_spelled, c.file_spelled, c.rank_spelled, c.capture_spelled, c.target_spelled.1, c.promotion_spelled)
          (sym (reassoc (man_text k) (part file_text file) (part rank_text rank) c.capture (square_text t) c.promotion signs));
      is_text = record {
        capture = c.capture;
        promotion = c.promotion;
        spelled = refl;
        file = c.on_file;
        rank = c.on_rank;
        target = c.target_spelled.0;
        captures = c.captures;
        promotes = c.promotes;
      };
      are_signs = are;
    })
cut-shape text k None rank takes None promo signs c are g h = none-Some g _ h
cut-shape text k (Some f) None takes None promo signs c are g h = none-Some g _ h
cut-shape text k (Some f) (Some r) true None promo signs c are g h = none-Some g _ h
cut-shape text k (Some f) (Some r) false None promo signs c are g h =
    let plain : text ≡ man_text k ++ ((97 + f) ∷ (49 + r) ∷ (c.promotion ++ signs))
    = rw (c.kind_spelled, c.file_spelled, c.rank_spelled, c.capture_spelled, c.no_capture refl, sym c.target_spelled, c.promotion_spelled) refl in
    let target : (97 + f) ∷ (49 + r) ∷ (c.promotion ++ signs) ≡ (square_text (square f r) ++ c.promotion) ++ signs
    = ap (λ (bytes : List ℕ). (bytes ++ c.promotion) ++ signs) (sym (square-of f r c.on_file c.on_rank)) in
    subst (λ (g : Going). HasShape text (Goes g)) (same-Some _ _ h) (record {
      front = man_text k ++ ([] ++ ([] ++ ([] ++ (square_text (square f r) ++ c.promotion))));
      signs = signs;
      spelled = plain ∙ (ap (λ (bytes : List ℕ). man_text k ++ bytes) target
          ∙ sym (append_assoc (man_text k) (square_text (square f r) ++ c.promotion) signs));
      is_text = record {
        capture = [];
        promotion = c.promotion;
        spelled = refl;
        file = tt;
        rank = tt;
        target = omega (arith, c.on_file, c.on_rank);
        captures = inl refl;
        promotes = c.promotes;
      };
      are_signs = are;
    })

going-shape : (text : List ℕ) (g : Going) → going_parts text ≡ Some g → HasShape text (Goes g)
unfolding going_parts
going-shape text g h =
    let t₁ : List ℕ = behind piece_named text in
    let t₂ : List ℕ = behind file_named t₁ in
    let t₃ : List ℕ = behind rank_named t₂ in
    let t₄ : List ℕ = passed is_capture_sign t₃ in
    let t₅ : List ℕ = behind_square t₄ in
    let both = ended-Some _ (behind_promotion t₅) g h in
    let f = file-spelled t₁ in
    let r = rank-spelled t₂ in
    let x = capture-spelled t₃ in
    let q = promotion-spelled t₅ in
    cut-shape text (unwrap_or (front piece_named text) Pawn) (front file_named t₁) (front rank_named t₂) (begins is_capture_sign t₃)
    (square_front t₄) (promotion_front t₅) (behind_promotion t₅) (record {
      capture = x.capture;
      promotion = q.promotion;
      file_on = t₁;
      rank_on = t₂;
      capture_on = t₃;
      target_on = t₄;
      promotion_on = t₅;
      kind_spelled = kind-spelled text;
      file_spelled = f.spelled;
      rank_spelled = r.spelled;
      capture_spelled = x.spelled;
      target_spelled = square-spelled t₄;
      promotion_spelled = q.spelled;
      on_file = f.within;
      on_rank = r.within;
      captures = x.captures;
      no_capture = x.none;
      promotes = q.promotes;
    }) (listed-signs (behind_promotion t₅) both.1) g both.0

-- a form and the signs behind it
form-spelled : (form text : List ℕ) → is_form form text ≡ true → (signs : List ℕ) × (text ≡ form ++ signs) × AreSigns signs
form-spelled [] text h = (text, refl, listed-signs text h)
form-spelled (byte ∷ form) [] h = absurd (false≢true h)
form-spelled (byte ∷ form) (first ∷ text) h =
    let both = and_parts (first == byte) (is_form form text) h in
    let rest = form-spelled form text both.1 in
    (rest.0, ap (λ (b : ℕ). b ∷ text) (eqb-true first byte both.0) ∙ ap (λ (bytes : List ℕ). byte ∷ bytes) rest.1, rest.2)

form-shape : (text : List ℕ) (shape : Shape) → form_named text ≡ Some shape → HasShape text shape
unfolding form_named
form-shape text shape h =
    let P : Shape → Type 0 = λ shape. HasShape text shape in
    test-Some _ _ shape _ (P shape) h (λ b e. subst P e
    (let s = form-spelled (castling_text KingSide) text b in
    record { front = castling_text KingSide; signs = s.0; spelled = s.1; is_text = inl refl; are_signs = s.2 })) (λ h.
    test-Some _ _ shape _ (P shape) h (λ b e. subst P e
    (let s = form-spelled (castling_digits KingSide) text b in
    record { front = castling_digits KingSide; signs = s.0; spelled = s.1; is_text = inr refl; are_signs = s.2 })) (λ h.
    test-Some _ _ shape _ (P shape) h (λ b e. subst P e
    (let s = form-spelled (castling_text QueenSide) text b in
    record { front = castling_text QueenSide; signs = s.0; spelled = s.1; is_text = inl refl; are_signs = s.2 })) (λ h.
    test-Some _ _ shape _ (P shape) h (λ b e. subst P e
    (let s = form-spelled (castling_digits QueenSide) text b in
    record { front = castling_digits QueenSide; signs = s.0; spelled = s.1; is_text = inr refl; are_signs = s.2 })) (λ h.
    test-Some _ _ shape _ (P shape) h (λ b e. subst P e
    (let s = form-spelled null_text text b in
    record { front = null_text; signs = s.0; spelled = s.1; is_text = refl; are_signs = s.2 })) (λ h.
    none-Some shape (P shape) h)))))

shape-at : (text : List ℕ) (shape : Shape) (o : Option Going) → going_parts text ≡ o → shape_from o text ≡ Some shape → HasShape text shape
shape-at text shape None e h = form-shape text shape h
shape-at text shape (Some g) e h = subst (λ (s : Shape). HasShape text s) (cc) (going-shape text g e)

parts-found : (text : List ℕ) (shape : Shape) → shape_parts text ≡ Some shape → HasShape text shape
unfolding shape_parts
parts-found text shape h = shape-at text shape (going_parts text) refl h

pub shape-only : (text : List ℕ) (shape : Shape) → HasShape text shape → shape_named text ≡ Some shape
shape-only text shape h = shape_is text ∙ parts-only text shape h

pub shape-found : (text : List ℕ) (shape : Shape) → shape_named text ≡ Some shape → HasShape text shape
shape-found text shape h = parts-found text shape (sym (shape_is text) ∙ h)

-- a text has at most one shape
pub one-shape : (text : List ℕ) (a b : Shape) → HasShape text a → HasShape text b → a ≡ b
one-shape text a b h k =
    let e : ◌≡◌ {A = Option Shape} (Some a) (Some b) = sym (shape-only text a h) ∙ shape-only text b k in
    cc
