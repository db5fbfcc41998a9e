-- The computed answers to the texts of moves and positions are the right ones.
use Rattle.std.proofs.Common.{◌≡◌, ◌⊎◌, inl, inr, ◌≤◌, ◌<◌, ◌+◌, ◌*◌, length-append, ◌==◌, ◌&&◌, ◌||◌, nat_le, ℕ, zero, suc, Bool, true, false, not, cond, List, [], ◌∷◌, map, filter, Option, Some, None, Result, Ok, Err, IfOk, IfErr, IfSome, MatchResult, refl, sym, ap, ◌∙◌, subst, arith, length, count_by}
use Rattle.std.specs.Prelude.{IsTrue, if◌then◌else◌}
use Rattle.std.specs.Bool.{Decides}
use Rattle.std.proofs.lemmas.Bool.{cases_Bool, and_parts, and_from, not-true, true≢false, leb-true, le-leb, cases_lt}
use Rattle.std.proofs.lemmas.List.{get_or_past}
use Rattle.std.proofs.lemmas.Bool.Decides.{Decides-and, Decides-eqb, Decides-below_or, Decides-or, not_from_Decides}
use Rattle.cell_core.specs.declared.man.Colour.{Colour}
use Rattle.cell_core.specs.declared.man.Colour.TheVariants.{White, Black}
use Rattle.cell_core.specs.declared.man.Kind.{Kind}
use Rattle.cell_core.specs.declared.man.Kind.TheVariants.{King, Rook, Pawn}
use Rattle.cell_core.specs.declared.man.Man.{Man}
use Rattle.cell_core.specs.declared.step.Move.{Move}
use Rattle.cell_core.specs.Board.{Men, man_at}
use Rattle.cell_core.specs.Man.{man, other, is_man, is_of}
use Rattle.cell_core.specs.Steps.{◌>>=◌}
use Rattle.chess_laws.specs.declared.setup.Setup.{Setup}
use Rattle.chess_laws.specs.declared.setup.Wing.{Wing}
use Rattle.chess_laws.specs.declared.setup.Wing.TheVariants.{KingSide, QueenSide}
use Rattle.chess_laws.specs.declared.effect.Effect.{Effect}
use Rattle.chess_laws.specs.declared.effect.Effect.TheVariants as effect
use Rattle.chess_laws.specs.declared.fault.PlaceFault.{PlaceFault}
use Rattle.chess_laws.specs.declared.fault.PlaceFault.TheVariants as place
use Rattle.chess_laws.specs.Geometry.{file_of, rank_of}
use Rattle.chess_laws.specs.LegalNow.{some_below, in_check_now}
use Rattle.chess_laws.specs.Position.{Sound, Breaks, HasKings, HasPawnsInside, HasFewMen, HasFitEnPassant, king_square, en_passant_rank, has_bit, bits_of, is_at_home, rights_of}
use Rattle.chess_laws.specs.Castling.{king_target, StandAtHome, has_right, king_home, rook_home}
use Rattle.chess_laws.specs.Step.{effect_of}
use Rattle.chess_laws.proofs.Deciding.{legal-Decides, in_check-Decides}
use Rattle.chess_laws.proofs.Kings.{king-only, is_man-Some, is_man-true}
use Rattle.chess_text.specs.declared.fault.FenFault.{FenFault}
use Rattle.chess_text.specs.declared.fault.FenFault.TheVariants as fen
use Rattle.chess_text.specs.declared.fault.SanFault.{SanFault}
use Rattle.chess_text.specs.declared.shape.Going.{Going}
use Rattle.chess_text.specs.declared.shape.Shape.{Shape}
use Rattle.chess_text.specs.declared.shape.Shape.TheVariants.{Castle, Null, Goes}
use Rattle.chess_text.specs.Fault.{fault_of}
use Rattle.chess_text.specs.Placement.{RanksText, PlacementText}
use Rattle.chess_text.specs.Fen.{placement_field, kept, FenReads, FenFaultOf}
use Rattle.chess_text.specs.FieldReading.{setup_named}
use Rattle.chess_text.specs.SanReading.{shape_named}
use Rattle.chess_text.specs.SanReads.{has_own_form, Fits, SanReads, SanFaultOf}
use Rattle.chess_text.specs.SanSearch.{AreTwo, AnswersShape, FitsFrom, FoundBelow}
use Rattle.chess_text.proofs.FenLaws.{fen_text_found, fen_text_only, fen_fault_only}
use Rattle.chess_text.proofs.SearchLaws.{same-move, found-none, found-some, found-two, found-all, castle-one, null-one, answers-text, shapeless}
use Rattle.chess_text.specs.SanAnswer.{goes, is_castling, is_null, is_as_said, below, from_square, fits_now, only_of, shape_answer, san_answer}
use Rattle.chess_text.specs.FenAnswer.{has_kings, has_pawn_outside, has_few_men, is_fit, placed, fen_answer}

-- ---- one square

is_man-Decides : (c : Colour) (k : Kind) (x : Option Man) → Decides (is_man c k x) (x ≡ Some (man c k))
is_man-Decides c k x = (is_man-Some c k x, λ e. rw e (is_man-true c k))

said-Decides : (said : Option ℕ) (line : ℕ) → Decides (is_as_said said line) (IfSome said (λ wanted. line ≡ wanted))
said-Decides None line = (λ h. tt, λ h. refl)
said-Decides (Some wanted) line = Decides-eqb line wanted

goes_true : (p : Setup) (g : Going) (s : ℕ) → fits_now p (Goes g) (from_square g s) ≡ true → Fits p (Goes g) (from_square g s)
goes_true p g s is =
    let m = from_square g s in
    let a = and_parts _ _ is in
    let b = and_parts _ _ a.0 in
    let c = and_parts _ _ b.1 in
    let d = and_parts _ _ c.1 in
    record {
      legal = (legal-Decides p m).0 a.1;
      of_shape = record {
        stands = (is_man-Decides p.side g.kind (man_at p.board s)).0 b.0;
        file = (said-Decides g.file (file_of s)).0 c.0;
        rank = (said-Decides g.rank (rank_of s)).0 d.0;
        target = refl;
        promo = refl;
        no_own_form = not-true _ d.1;
      };
    }

from_own : (p : Setup) (g : Going) (m : Move) → Fits p (Goes g) m → m ≡ from_square g m.from
from_own p g m h = same-move m (from_square g m.from) refl h.of_shape.target h.of_shape.promo

goes_back : (p : Setup) (g : Going) (s : ℕ) → Fits p (Goes g) (from_square g s) → fits_now p (Goes g) (from_square g s) ≡ true
goes_back p g s h =
    let m = from_square g s in
    let form : not (has_own_form (effect_of p m)) ≡ true = ap not h.of_shape.no_own_form in
    and_from _ _
    (and_from _ _ ((is_man-Decides p.side g.kind (man_at p.board s)).1 h.of_shape.stands)
    (and_from _ _ ((said-Decides g.file (file_of s)).1 h.of_shape.file)
    (and_from _ _ ((said-Decides g.rank (rank_of s)).1 h.of_shape.rank) form)))
    ((legal-Decides p m).1 h.legal)

none_there : (p : Setup) (g : Going) (s : ℕ) → fits_now p (Goes g) (from_square g s) ≡ false → (m : Move) → Fits p (Goes g) m → m.from ≡ s → ⊥
none_there p g s is m h from =
    let e : m ≡ from_square g s = from_own p g m h ∙ ap (from_square g) from in
    let k : Fits p (Goes g) (from_square g s) = subst (Fits p (Goes g)) e h in
    true≢false (sym (goes_back p g s k) ∙ is)

-- ---- square by square

Listed : Setup → Going → ℕ → List Move → Type 0
Listed p g n [] = FoundBelow p g n None
Listed p g n (m ∷ []) = FoundBelow p g n (Some m)
Listed p g n (m ∷ k ∷ moves) = AreTwo p (Goes g)

listed_more : (p : Setup) (g : Going) (n : ℕ) (m : Move) (moves : List Move) → FitsFrom p g n m → Listed p g n moves → Listed p g (n + 1) (m ∷ moves)
unfolding Listed
listed_more p g n m [] here h = found-some p g n m here h
listed_more p g n m (k ∷ []) here h = found-two p g n m k here h
listed_more p g n m (k ∷ l ∷ moves) here h = h

listed_same : (p : Setup) (g : Going) (n : ℕ) (moves : List Move) → ((m : Move) → Fits p (Goes g) m → m.from ≡ n → ⊥) → Listed p g n moves
    → Listed p g (n + 1) moves
unfolding Listed
listed_same p g n [] none h = found-none p g n None none h
listed_same p g n (k ∷ []) none h = found-none p g n (Some k) none h
listed_same p g n (k ∷ l ∷ moves) none h = h

listed_start : (p : Setup) (g : Going) → Listed p g 0 []
unfolding Listed
listed_start p g = λ m fits less. omega (arith, less)

listed : (p : Setup) (g : Going) (n : ℕ) → Listed p g n (filter (fits_now p (Goes g)) (map (from_square g) (below n)))
listed p g zero = listed_start p g
listed p g (suc n) =
    let next : n + 1 ≡ suc n = omega arith in
    elim (cases_Bool (fits_now p (Goes g) (from_square g n))) [
      | inl fits ↦
          rw fits
          (subst (λ k. Listed p g k (from_square g n ∷ filter (fits_now p (Goes g)) (map (from_square g) (below n)))) next
          (listed_more p g n _ _ (record { fits = goes_true p g n fits; from = refl }) (listed p g n)))
      | inr not_fits ↦
          rw not_fits
          (subst (λ k. Listed p g k (filter (fits_now p (Goes g)) (map (from_square g) (below n)))) next
          (listed_same p g n _ (none_there p g n not_fits) (listed p g n)))
    ]

listed_answers : (p : Setup) (g : Going) (moves : List Move) → Sound p → Listed p g 64 moves → AnswersShape p (Goes g) (only_of moves)
unfolding Listed
listed_answers p g [] sound h = found-all p g 64 None sound (omega arith) h
listed_answers p g (m ∷ []) sound h = found-all p g 64 (Some m) sound (omega arith) h
listed_answers p g (m ∷ k ∷ moves) sound h = h

-- ---- castling and the null move

abbrev castling : Setup → Wing → Move
castling p wing = goes (king_square p.board p.side) (king_target p.side wing)

castling_is : (wing : Wing) (e : Effect) → is_castling wing e ≡ true → e ≡ effect.Castle wing
castling_is KingSide (effect.Castle KingSide) is = refl
castling_is KingSide (effect.Castle QueenSide) is = absurd (cc)
castling_is QueenSide (effect.Castle KingSide) is = absurd (cc)
castling_is QueenSide (effect.Castle QueenSide) is = refl
castling_is KingSide effect.Plain is = absurd (cc)
castling_is KingSide effect.Double is = absurd (cc)
castling_is KingSide effect.Passing is = absurd (cc)
castling_is KingSide effect.Null is = absurd (cc)
castling_is QueenSide effect.Plain is = absurd (cc)
castling_is QueenSide effect.Double is = absurd (cc)
castling_is QueenSide effect.Passing is = absurd (cc)
castling_is QueenSide effect.Null is = absurd (cc)

castling_back : (wing : Wing) → is_castling wing (effect.Castle wing) ≡ true
castling_back KingSide = refl
castling_back QueenSide = refl

null_is : (e : Effect) → is_null e ≡ true → e ≡ effect.Null
null_is effect.Plain is = absurd (cc)
null_is effect.Double is = absurd (cc)
null_is effect.Passing is = absurd (cc)
null_is (effect.Castle wing) is = absurd (cc)
null_is effect.Null is = refl

only_king : (p : Setup) → Sound p → (s : ℕ) → man_at p.board s ≡ Some (man p.side King) → s ≡ king_square p.board p.side
only_king p sound s stands = king-only p.board p.side s (sound.kings p.side) stands

castle_back : (p : Setup) (wing : Wing) (m : Move) → Fits p (Castle wing) m → fits_now p (Castle wing) m ≡ true
castle_back p wing m h = and_from _ _ (ap (is_castling wing) h.of_shape ∙ castling_back wing) ((legal-Decides p m).1 h.legal)

castle_answers : (p : Setup) (wing : Wing) → Sound p → AnswersShape p (Castle wing) (shape_answer p (Some (Castle wing)))
castle_answers p wing sound =
    elim (cases_Bool (fits_now p (Castle wing) (castling p wing))) [
      | inl fits ↦
          let a = and_parts _ _ fits in
          rw fits
          (record {
            fits = record { legal = (legal-Decides p (castling p wing)).0 a.1; of_shape = castling_is wing (effect_of p (castling p wing)) a.0 };
            only = λ n h. castle-one p wing (king_square p.board p.side) n (only_king p sound) h;
          })
      | inr not_fits ↦
          rw not_fits
          (λ m h.
          let e : m ≡ castling p wing = castle-one p wing (king_square p.board p.side) m (only_king p sound) h in
          true≢false (sym (castle_back p wing (castling p wing) (subst (Fits p (Castle wing)) e h)) ∙ not_fits))
    ]

null_move : Setup → Move
null_move p = goes (king_square p.board p.side) (king_square p.board p.side)

null_back : (p : Setup) (m : Move) → Fits p Null m → fits_now p Null m ≡ true
null_back p m h = and_from _ _ (ap is_null h.of_shape) ((legal-Decides p m).1 h.legal)

null_answers : (p : Setup) → Sound p → AnswersShape p Null (shape_answer p (Some Null))
null_answers p sound =
    let king = king_square p.board p.side in
    elim (cases_Bool (fits_now p Null (goes king king))) [
      | inl fits ↦
          let a = and_parts _ _ fits in
          rw fits
          (record {
            fits = record { legal = (legal-Decides p (goes king king)).0 a.1; of_shape = null_is (effect_of p (goes king king)) a.0 };
            only = λ n h. null-one p king n (only_king p sound) h;
          })
      | inr not_fits ↦
          rw not_fits
          (λ m h.
          let e : m ≡ goes king king = null-one p king m (only_king p sound) h in
          true≢false (sym (null_back p (goes king king) (subst (Fits p Null) e h)) ∙ not_fits))
    ]

shape_answers : (p : Setup) (shape : Shape) → Sound p → AnswersShape p shape (shape_answer p (Some shape))
shape_answers p (Castle wing) sound = castle_answers p wing sound
shape_answers p Null sound = null_answers p sound
shape_answers p (Goes g) sound = listed_answers p g _ sound (listed p g 64)

-- ---- the text of a move

-- An answer that is right, and the one that is computed.
Right : Setup → List ℕ → Result Move SanFault → Type 0
Right p text answer = IfOk answer (SanReads p text) × IfErr answer (SanFaultOf p text)

answer_right : (p : Setup) (text : List ℕ) (shape : Option Shape) → Sound p → shape_named text ≡ shape → Right p text (shape_answer p shape)
unfolding Right
answer_right p text None sound is = (tt, shapeless p text is)
answer_right p text (Some shape) sound is = answers-text p text shape (shape_answer p (Some shape)) is (shape_answers p shape sound)

right_is : (p : Setup) (text : List ℕ) (given answer : Result Move SanFault) → Right p text answer
    → ((m : Move) → SanReads p text m → given ≡ Ok m) → ((f : SanFault) → SanFaultOf p text f → given ≡ Err f) → given ≡ answer
unfolding Right
right_is p text given (Ok m) right only first = only m right.0
right_is p text given (Err f) right only first = first f right.1

pub san_is : (p : Setup) (text : List ℕ) (given : Result Move SanFault) → Sound p
    → ((m : Move) → SanReads p text m → given ≡ Ok m) → ((f : SanFault) → SanFaultOf p text f → given ≡ Err f) → given ≡ san_answer p text
unfolding san_answer
san_is p text given sound only first = right_is p text given (shape_answer p (shape_named text)) (answer_right p text (shape_named text) sound refl) only first

-- ---- the text of a position

leb-Decides : (a b : ℕ) → Decides (nat_le a b) (a ≤ b)
leb-Decides a b = (leb-true a b, le-leb a b)

each_colour : (P : Colour → Type 0) → P White → P Black → (c : Colour) → P c
each_colour P white black White = white
each_colour P white black Black = black

kings-Decides : (men : Men) → Decides (has_kings men) (HasKings men)
kings-Decides men =
    let both = Decides-and (count_by (is_man White King) men == 1) (count_by (is_man Black King) men == 1)
    (Decides-eqb (count_by (is_man White King) men) 1) (Decides-eqb (count_by (is_man Black King) men) 1) in
    (λ h. each_colour (λ c. count_by (is_man c King) men ≡ 1) (both.0 h).0 (both.0 h).1, λ h. both.1 (h White, h Black))

few-Decides : (men : Men) → Decides (has_few_men men) (HasFewMen men)
few-Decides men =
    let both = Decides-and (nat_le (count_by (is_of White) men) 16) (nat_le (count_by (is_of Black) men) 16)
    (leb-Decides (count_by (is_of White) men) 16) (leb-Decides (count_by (is_of Black) men) 16) in
    (λ h. each_colour (λ c. count_by (is_of c) men ≤ 16) (both.0 h).0 (both.0 h).1, λ h. both.1 (h White, h Black))

neither : (a b : Bool) → (a || b) ≡ false → (a ≡ false) × (b ≡ false)
neither true b none = cc
neither false b none = (refl, none)

-- A pawn of this colour outside.
Outside : Men → Colour → ℕ → Type 0
Outside men c s = (man_at men s ≡ Some (man c Pawn)) × ((rank_of s ≡ 0) ⊎ (7 ≤ rank_of s))

here-Decides : (men : Men) (c : Colour) (s : ℕ) → Decides (is_man c Pawn (man_at men s) && ((rank_of s == 0) || nat_le 7 (rank_of s))) (Outside men c s)
unfolding Outside
here-Decides men c s =
    Decides-and (is_man c Pawn (man_at men s)) ((rank_of s == 0) || nat_le 7 (rank_of s)) (is_man-Decides c Pawn (man_at men s))
    (Decides-or (rank_of s == 0) (nat_le 7 (rank_of s)) (Decides-eqb (rank_of s) 0) (leb-Decides 7 (rank_of s)))

outside-Decides : (men : Men) (c : Colour) → Decides (has_pawn_outside men c) ((s : ℕ) × (s < length men) × Outside men c s)
unfolding some_below
outside-Decides men c =
    Decides-below_or (λ s. is_man c Pawn (man_at men s) && ((rank_of s == 0) || nat_le 7 (rank_of s))) (Outside men c)
    (some_below (λ s. is_man c Pawn (man_at men s) && ((rank_of s == 0) || nat_le 7 (rank_of s)))) (here-Decides men c) refl (λ k. refl) (length men)

some_none : {A : Type 0} {x : A} → ◌≡◌ {A = Option A} None (Some x) → ⊥
some_none is = cc

on_list : (men : Men) (s : ℕ) (m : Man) → man_at men s ≡ Some m → s < length men
on_list men s m stands = elim (cases_lt s (length men)) [
  | inl less ↦ less
  | inr more ↦ let none = get_or_past men s None more in absurd (some_none (sym none ∙ stands))
]

inside_one : (men : Men) (c : Colour) (s : ℕ) → has_pawn_outside men c ≡ false → man_at men s ≡ Some (man c Pawn) → (0 < rank_of s) × (rank_of s < 7)
unfolding Outside
inside_one men c s none stands =
    let nobody = not_from_Decides (has_pawn_outside men c) (outside-Decides men c) none in
    let within : s < length men = on_list men s (man c Pawn) stands in
    elim (cases_lt 0 (rank_of s)) [
      | inl low ↦
          elim (cases_lt (rank_of s) 7) [
            | inl high ↦ (low, high)
            | inr past ↦ absurd (nobody (s, within, (stands, inr past)))
          ]
      | inr first ↦ absurd (nobody (s, within, (stands, inl (omega (arith, first)))))
    ]

all_inside : (men : Men) → has_pawn_outside men White ≡ false → has_pawn_outside men Black ≡ false → HasPawnsInside men
all_inside men white black = λ s c stands. each_colour (λ d. man_at men s ≡ Some (man d Pawn) → (0 < rank_of s) × (rank_of s < 7))
    (inside_one men White s white) (inside_one men Black s black) c stands

outside_breaks : (men : Men) (c : Colour) → has_pawn_outside men c ≡ true → HasPawnsInside men → ⊥
unfolding Outside
outside_breaks men c some inside =
    let (s, less, out) = (outside-Decides men c).0 some in
    let both = inside s c out.0 in
    elim out.1 [
      | inl first ↦ omega (arith, first, both.0)
      | inr past ↦ omega (arith, past, both.1)
    ]

pawns-Decides : (men : Men) → Decides (not (has_pawn_outside men White || has_pawn_outside men Black)) (HasPawnsInside men)
pawns-Decides men = (
  (λ h. let none = neither (has_pawn_outside men White) (has_pawn_outside men Black) (not-true _ h) in all_inside men none.0 none.1),
  (λ h. elim (cases_Bool (has_pawn_outside men White)) [
    | inl some ↦ absurd (outside_breaks men White some h)
    | inr white ↦
        elim (cases_Bool (has_pawn_outside men Black)) [
          | inl some ↦ absurd (outside_breaks men Black some h)
          | inr black ↦ rw white rw black refl
        ]
  ]),
)

fit-Decides : (side : Colour) (square : Option ℕ) → Decides (is_fit side square) (HasFitEnPassant side square)
fit-Decides side None = (λ h. tt, λ h. refl)
fit-Decides side (Some square) = Decides-eqb (rank_of square) (en_passant_rank side)

-- What a test says where the rule is kept, and where it is broken.
broken_test : {P : Type 0} (test : Bool) → Decides test P → (P → ⊥) → test ≡ false
broken_test test decides broken = elim (cases_Bool test) [
  | inl kept ↦ absurd (broken (decides.0 kept))
  | inr not_kept ↦ not_kept
]

-- The tests of a setup in their order.
chain : Bool → Bool → Bool → Bool → Bool → Option PlaceFault
chain kings pawns few check fit =
    cond (not kings) (Some place.Kings)
    (cond (not pawns) (Some place.Pawns)
    (cond (not few) (Some place.TooMany) (cond check (Some place.InCheck) (cond (not fit) (Some place.EnPassant) None))))

not_twice : (b : Bool) → not (not b) ≡ b
not_twice true = refl
not_twice false = refl

-- The first rule that a setup breaks, and the answer by it.
abbrev first_broken : Setup → Option PlaceFault
first_broken p =
    if not (has_kings p.board) then Some place.Kings
    else if has_pawn_outside p.board White || has_pawn_outside p.board Black then Some place.Pawns
    else if not (has_few_men p.board) then Some place.TooMany
    else if in_check_now p.board (other p.side) then Some place.InCheck
    else if not (is_fit p.side p.en_passant) then Some place.EnPassant
    else None

abbrev placed_unless : Setup → Option PlaceFault → Result Setup FenFault
placed_unless p None = Ok p
placed_unless p (Some broken) = Err (fault_of broken)

abbrev placed_fields : Result Setup FenFault → Result Setup FenFault
placed_fields (Ok says) = placed_unless (kept says) (first_broken (kept says))
placed_fields (Err fault) = Err fault

by_tests : (kings outside few check fit : Bool) (p : Setup)
    → (if not kings then Err fen.Kings else if outside then Err fen.Pawns else if not few then Err fen.TooMany else if check then Err fen.InCheck else if not fit then Err (fen.Field 4) else Ok p)
    ≡ placed_unless p (if not kings then Some place.Kings else if outside then Some place.Pawns else if not few then Some place.TooMany else if check then Some place.InCheck else if not fit then Some place.EnPassant else None)
by_tests false outside few check fit p = refl
by_tests true true few check fit p = refl
by_tests true false false check fit p = refl
by_tests true false true true fit p = refl
by_tests true false true false false p = refl
by_tests true false true false true p = refl

by_fields : (fields : Result Setup FenFault) → (fields >>= (λ says. placed (kept says))) ≡ placed_fields fields
by_fields (Ok says) =
    let p = kept says in
    by_tests (has_kings p.board) (has_pawn_outside p.board White || has_pawn_outside p.board Black) (has_few_men p.board)
    (in_check_now p.board (other p.side)) (is_fit p.side p.en_passant) p
by_fields (Err fault) = refl

chained : (p : Setup) → first_broken p ≡ chain (has_kings p.board) (not (has_pawn_outside p.board White || has_pawn_outside p.board Black))
    (has_few_men p.board) (in_check_now p.board (other p.side)) (is_fit p.side p.en_passant)
unfolding chain
chained p = rw (not_twice (has_pawn_outside p.board White || has_pawn_outside p.board Black)) refl

sound_unbroken : (p : Setup) → Sound p → first_broken p ≡ None
unfolding chain
sound_unbroken p sound =
    chained p
    ∙ rw ((kings-Decides p.board).1 sound.kings) rw ((pawns-Decides p.board).1 sound.pawns) rw ((few-Decides p.board).1 sound.few)
    rw (broken_test _ (in_check-Decides p.board (other p.side)) sound.not_in_check) rw ((fit-Decides p.side p.en_passant).1 sound.en_passant) refl

breaks_first : (p : Setup) (broken : PlaceFault) → Breaks p broken → first_broken p ≡ Some broken
unfolding chain
breaks_first p place.Kings h = chained p ∙ rw (broken_test _ (kings-Decides p.board) h) refl
breaks_first p place.Pawns h = chained p ∙ rw ((kings-Decides p.board).1 h.0) rw (broken_test _ (pawns-Decides p.board) h.1) refl
breaks_first p place.TooMany h =
    chained p ∙ rw ((kings-Decides p.board).1 h.0) rw ((pawns-Decides p.board).1 h.1) rw (broken_test _ (few-Decides p.board) h.2) refl
breaks_first p place.InCheck h =
    chained p
    ∙ rw ((kings-Decides p.board).1 h.0) rw ((pawns-Decides p.board).1 h.1) rw ((few-Decides p.board).1 h.2)
    rw ((in_check-Decides p.board (other p.side)).1 h.3) refl
breaks_first p place.EnPassant h =
    chained p
    ∙ rw ((kings-Decides p.board).1 h.0) rw ((pawns-Decides p.board).1 h.1) rw ((few-Decides p.board).1 h.2)
    rw (broken_test _ (in_check-Decides p.board (other p.side)) h.3) rw (broken_test _ (fit-Decides p.side p.en_passant) h.4) refl

-- The fault of a text, by what its fields say.
fault_from : (fields : Result Setup FenFault) (fault : FenFault)
    → MatchResult fields (λ says. (broken : PlaceFault) × (fault ≡ fault_of broken) × Breaks (kept says) broken) (λ first. first ≡ fault)
    → placed_fields fields ≡ Err fault
fault_from (Ok says) fault (broken, is, breaks) =
    ap (placed_unless (kept says)) (breaks_first (kept says) broken breaks) ∙ ap Err (sym is)
fault_from (Err first) fault is = ap Err is

fields_are : (text : List ℕ) (given : Result Setup FenFault) → IfOk given (FenReads text) → IfErr given (FenFaultOf text) → given ≡ placed_fields (setup_named text)
fields_are text (Ok p) reads faulty =
    let fields = fen_text_only text reads.says reads.fields in
    let sound : Sound (kept reads.says) = subst Sound reads.position reads.sound in
    sym (ap placed_fields fields ∙ ap (placed_unless (kept reads.says)) (sound_unbroken (kept reads.says) sound) ∙ ap Ok (sym reads.position))
fields_are text (Err fault) reads faulty = sym (fault_from (setup_named text) fault (fen_fault_only text fault faulty))

pub fen_is : (text : List ℕ) (given : Result Setup FenFault) → IfOk given (FenReads text) → IfErr given (FenFaultOf text) → given ≡ fen_answer text
unfolding fen_answer
fen_is text given reads faulty = fields_are text given reads faulty ∙ sym (by_fields (setup_named text))

-- ---- what the answer to the text of a position says

ranks_long : (n : ℕ) (text : List ℕ) (squares : Men) → RanksText n text squares → length squares ≡ 8 * (n + 1)
unfolding RanksText
ranks_long zero text squares h = h.1
ranks_long (suc n) text squares (top, below, rank, lower, spelled, is, row, long, more) =
    omega (arith, ap length is, length-append lower rank, ranks_long n below lower more)

placement_long : (text : List ℕ) (men : Men) → PlacementText text men → length men ≡ 64
unfolding PlacementText
placement_long text men h = ranks_long 7 text men h

home_at : (men : Men) (c : Colour) (w : Wing) (bit : Bool) → IsTrue (bit && is_at_home men c w) → StandAtHome men c w
home_at men c w bit h =
    let both = and_parts bit (is_at_home men c w) h in
    let men_there = and_parts (is_man c King (man_at men (king_home c))) (is_man c Rook (man_at men (rook_home c w))) both.1 in
    record { king = is_man-Some c King (man_at men (king_home c)) men_there.0; rook = is_man-Some c Rook (man_at men (rook_home c w)) men_there.1 }

rights_fit : (men : Men) (bits : ℕ) (c : Colour) (w : Wing) → IsTrue (has_right (rights_of men bits) c w) → StandAtHome men c w
rights_fit men bits White KingSide h = home_at men White KingSide (has_bit bits 0) h
rights_fit men bits White QueenSide h = home_at men White QueenSide (has_bit bits 1) h
rights_fit men bits Black KingSide h = home_at men Black KingSide (has_bit bits 2) h
rights_fit men bits Black QueenSide h = home_at men Black QueenSide (has_bit bits 3) h

chain_none : (kings pawns few check fit : Bool) → chain kings pawns few check fit ≡ None
    → (kings ≡ true) × (pawns ≡ true) × (few ≡ true) × (check ≡ false) × (fit ≡ true)
unfolding chain
chain_none true true true false true h = (refl, refl, refl, refl, refl)
chain_none true true true false false h = absurd (cc)
chain_none true true true true fit h = absurd (cc)
chain_none true true false check fit h = absurd (cc)
chain_none true false few check fit h = absurd (cc)
chain_none false pawns few check fit h = absurd (cc)

unbroken_sound : (says : Setup) → length says.board ≡ 64 → first_broken (kept says) ≡ None → Sound (kept says)
unbroken_sound says long none =
    let p = kept says in
    let tests = chain_none (has_kings p.board) (not (has_pawn_outside p.board White || has_pawn_outside p.board Black))
    (has_few_men p.board) (in_check_now p.board (other p.side)) (is_fit p.side p.en_passant) (sym (chained p) ∙ none) in
    record {
      squares = long;
      kings = (kings-Decides p.board).0 tests.0;
      pawns = (pawns-Decides p.board).0 tests.1;
      few = (few-Decides p.board).0 tests.2;
      not_in_check = not_from_Decides (in_check_now p.board (other p.side)) (in_check-Decides p.board (other p.side)) tests.3;
      rights = rights_fit says.board (bits_of says.rights);
      en_passant = (fit-Decides p.side p.en_passant).0 tests.4;
    }

unless_sound : (says p : Setup) (broken : Option PlaceFault) → length says.board ≡ 64 → first_broken (kept says) ≡ broken
    → placed_unless (kept says) broken ≡ Ok p → Sound p
unless_sound says p None long none is = let same : kept says ≡ p = cc in subst Sound same (unbroken_sound says long none)
unless_sound says p (Some broken) long some is = absurd (cc)

placed_sound : (fields : Result Setup FenFault) (p : Setup) → IfOk fields (λ says. length says.board ≡ 64) → placed_fields fields ≡ Ok p → Sound p
placed_sound (Ok says) p long is = unless_sound says p (first_broken (kept says)) long refl is
placed_sound (Err fault) p long is = absurd (cc)

says_long : (text : List ℕ) (fields : Result Setup FenFault) → setup_named text ≡ fields → IfOk fields (λ says. length says.board ≡ 64)
says_long text (Ok says) is =
    let says_it = fen_text_found text says is in
    placement_long (placement_field says_it.words) says.board says_it.placement
says_long text (Err fault) is = tt

-- The position that a text says keeps the rules.
pub answer_sound : (text : List ℕ) (p : Setup) → fen_answer text ≡ Ok p → Sound p
unfolding fen_answer
answer_sound text p is = placed_sound (setup_named text) p (says_long text (setup_named text) refl) (sym (by_fields (setup_named text)) ∙ is)

-- A text that reads as a position says it.
pub reads_answer : (text : List ℕ) (p : Setup) → FenReads text p → fen_answer text ≡ Ok p
reads_answer text p reads = sym (fen_is text (Ok p) reads tt)
