-- Each square from which a man goes as a text says is among those that are tried.
use Rattle.std.proofs.Common.{◌≡◌, ◌↔◌, IsTrue, ℕ, zero, suc, ◌+◌, ◌<◌, ◌||◌, ◌==◌, inl, inr, [], ◌∷◌, List, length, Bool, true, false, eqb, Any, Option, Some, None, Result, Ok, Err, IfOk, refl, sym, ◌∙◌, ap, subst, arith, not}
use Rattle.std.specs.Int.{bit_at}
use Rattle.std.specs.Option.{option_map_or}
use Rattle.std.specs.Prelude.{if◌then◌else◌, is_none, is_some}
use Rattle.std.proofs.lemmas.Bool.{cases_Bool, cases_lt, eq-eqb, eqb-true, false≢true}
use Rattle.std.proofs.lemmas.Nat.Bits.{bit_at-zero}
use Rattle.cell_core.specs.declared.man.Colour.{Colour}
use Rattle.cell_core.specs.declared.man.Colour.TheVariants.{White, Black}
use Rattle.cell_core.specs.declared.man.Kind.{Kind}
use Rattle.cell_core.specs.declared.man.Kind.TheVariants.{King, Queen, Rook, Bishop, Knight, Pawn}
use Rattle.cell_core.specs.declared.step.Move.{Move}
use Rattle.cell_core.specs.Board.{Men, man_at}
use Rattle.cell_core.specs.declared.man.Man.{Man}
use Rattle.cell_core.specs.Man.{is_man, man, other, same_kind}
use Rattle.cell_core.specs.Sets.{set_of}
use Rattle.chess_laws.specs.declared.setup.Setup.{Setup}
use Rattle.chess_laws.specs.declared.effect.Effect.{Effect}
use Rattle.chess_laws.specs.declared.effect.Effect.TheVariants as effect
use Rattle.chess_laws.specs.Attacks.{Reaches}
use Rattle.chess_laws.specs.Geometry.{Offset, by, file_of, forward, pawn_captures, rank_of, shift, rook_steps, bishop_steps, knight_steps, Leaps, Runs, Walk}
use Rattle.chess_laws.specs.Position.{Sound}
use Rattle.chess_laws.specs.Step.{effect_of, Case, GoesPlainly, Legal, Step, stepped}
use Rattle.chess_laws.proofs.MovedKings.{legal-allowed}
use Rattle.chess_laws.proofs.Shifts.{shift-Some}
use Rattle.chess_laws.proofs.Stepping.{Step-stepped}
use Rattle.chess_text.specs.declared.san_playing.Starts.{Starts}
use Rattle.chess_text.specs.declared.san_playing.Starts.TheVariants as of
use Rattle.chess_text.specs.declared.shape.Going.{Going}
use Rattle.chess_text.specs.declared.shape.Shape.{Shape}
use Rattle.chess_text.specs.declared.shape.Shape.TheVariants.{Goes}
use Rattle.chess_text.specs.Ones.{Drops}
use Rattle.chess_text.specs.SanAnswer.{from_square}
use Rattle.chess_text.specs.SanAnswer.{san_answer}
use Rattle.chess_text.specs.SanReading.{shape_named}
use Rattle.chess_text.specs.SanReads.{Fits, has_own_form}
use Rattle.chess_text.specs.SanSearch.{AnswersShape, IsOnly, StandsSo, step_on}
use Rattle.chess_text.specs.SanStarts.{AreStarts, Covers, IsAmong, StandThere, StartsBut, StartsBy, StartsWith, and_one, gap, may_land, may_reach}
use Rattle.chess_text.proofs.CameLaws.{StepOf, black_list, pawn-each, same-kind, stands-bit, white_list}
use Rattle.chess_text.proofs.AnswerLaws.{san_is}
use Rattle.chess_text.proofs.SearchLaws.{answer-first, answer-only, answers-text, only-from, same-from, shapeless}
use Rattle.chess_text.specs.declared.fault.SanFault.{SanFault}
use Rattle.chess_text.specs.declared.fault.SanFault.TheVariants as fault

-- ---- how far a man may reach

-- A walk keeps its rank or its file, or changes both by as many.
walk-ranks : (men : Men) (o : Offset) (n a b : ℕ) → o.up ≡ o.down → Walk men o n a b → rank_of b ≡ rank_of a
walk-ranks men o zero a b same walk = let d = shift-Some o a b walk in omega (arith, same, d.ranks)
walk-ranks men o (suc n) a b same (c, first, empty, walk) =
    let d = shift-Some o a c first in
    let rest = walk-ranks men o n c b same walk in
    omega (arith, same, d.ranks, rest)

walk-files : (men : Men) (o : Offset) (n a b : ℕ) → o.left ≡ o.right → Walk men o n a b → file_of b ≡ file_of a
walk-files men o zero a b same walk = let d = shift-Some o a b walk in omega (arith, same, d.files)
walk-files men o (suc n) a b same (c, first, empty, walk) =
    let d = shift-Some o a c first in
    let rest = walk-files men o n c b same walk in
    omega (arith, same, d.files, rest)

walk-rises : (men : Men) (o : Offset) (n a b : ℕ) → o.right + o.down ≡ o.left + o.up → Walk men o n a b → file_of b + rank_of a ≡ file_of a + rank_of b
walk-rises men o zero a b same walk = let d = shift-Some o a b walk in omega (arith, same, d.files, d.ranks)
walk-rises men o (suc n) a b same (c, first, empty, walk) =
    let d = shift-Some o a c first in
    let rest = walk-rises men o n c b same walk in
    omega (arith, same, d.files, d.ranks, rest)

walk-falls : (men : Men) (o : Offset) (n a b : ℕ) → o.right + o.up ≡ o.left + o.down → Walk men o n a b → file_of b + rank_of b ≡ file_of a + rank_of a
walk-falls men o zero a b same walk = let d = shift-Some o a b walk in omega (arith, same, d.files, d.ranks)
walk-falls men o (suc n) a b same (c, first, empty, walk) =
    let d = shift-Some o a c first in
    let rest = walk-falls men o n c b same walk in
    omega (arith, same, d.files, d.ranks, rest)

or-first : (a b : Bool) → a ≡ true → a || b ≡ true
or-first a b h = rw h refl

or-second : (a b : Bool) → b ≡ true → a || b ≡ true
or-second true b h = refl
or-second false b h = h

same-rank : (a b : ℕ) → rank_of b ≡ rank_of a → may_reach Rook a b ≡ true
same-rank a b same =
    or-second (gap (file_of a) (file_of b) == 0) (gap (rank_of a) (rank_of b) == 0) (eq-eqb (gap (rank_of a) (rank_of b)) 0 (omega (arith, same)))

same-file : (a b : ℕ) → file_of b ≡ file_of a → may_reach Rook a b ≡ true
same-file a b same =
    or-first (gap (file_of a) (file_of b) == 0) (gap (rank_of a) (rank_of b) == 0) (eq-eqb (gap (file_of a) (file_of b)) 0 (omega (arith, same)))

rook-reach : (men : Men) (a b : ℕ) → Any (Runs men a b) rook_steps → may_reach Rook a b ≡ true
rook-reach men a b (zero, o, less, is, runs) =
    let r = subst (Runs men a b) (sym is) runs in same-rank a b (walk-ranks men (by 1 0 0 0) r.0 a b refl r.1)
rook-reach men a b (suc zero, o, less, is, runs) =
    let r = subst (Runs men a b) (sym is) runs in same-rank a b (walk-ranks men (by 0 1 0 0) r.0 a b refl r.1)
rook-reach men a b (suc (suc zero), o, less, is, runs) =
    let r = subst (Runs men a b) (sym is) runs in same-file a b (walk-files men (by 0 0 1 0) r.0 a b refl r.1)
rook-reach men a b (suc (suc (suc zero)), o, less, is, runs) =
    let r = subst (Runs men a b) (sym is) runs in same-file a b (walk-files men (by 0 0 0 1) r.0 a b refl r.1)
rook-reach men a b (suc (suc (suc (suc k))), o, less, is, runs) = absurd (omega (arith, less))

rising : (a b : ℕ) → file_of b + rank_of a ≡ file_of a + rank_of b → may_reach Bishop a b ≡ true
rising a b same = eq-eqb _ _ (omega (arith, same))

falling : (a b : ℕ) → file_of b + rank_of b ≡ file_of a + rank_of a → may_reach Bishop a b ≡ true
falling a b same = eq-eqb _ _ (omega (arith, same))

bishop-reach : (men : Men) (a b : ℕ) → Any (Runs men a b) bishop_steps → may_reach Bishop a b ≡ true
bishop-reach men a b (zero, o, less, is, runs) =
    let r = subst (Runs men a b) (sym is) runs in rising a b (walk-rises men (by 1 0 1 0) r.0 a b refl r.1)
bishop-reach men a b (suc zero, o, less, is, runs) =
    let r = subst (Runs men a b) (sym is) runs in falling a b (walk-falls men (by 0 1 1 0) r.0 a b refl r.1)
bishop-reach men a b (suc (suc zero), o, less, is, runs) =
    let r = subst (Runs men a b) (sym is) runs in falling a b (walk-falls men (by 1 0 0 1) r.0 a b refl r.1)
bishop-reach men a b (suc (suc (suc zero)), o, less, is, runs) =
    let r = subst (Runs men a b) (sym is) runs in rising a b (walk-rises men (by 0 1 0 1) r.0 a b refl r.1)
bishop-reach men a b (suc (suc (suc (suc k))), o, less, is, runs) = absurd (omega (arith, less))

leap-reach : (o : Offset) (a b : ℕ) → gap o.right o.left + gap o.up o.down ≡ 3 → Leaps a b o → may_reach Knight a b ≡ true
leap-reach o a b three leap = let d = shift-Some o a b leap in eq-eqb _ _ (omega (arith, three, d.files, d.ranks))

knight-reach : (a b : ℕ) → Any (Leaps a b) knight_steps → may_reach Knight a b ≡ true
knight-reach a b (zero, o, less, is, leap) = leap-reach (by 1 0 2 0) a b refl (subst (Leaps a b) (sym is) leap)
knight-reach a b (suc zero, o, less, is, leap) = leap-reach (by 2 0 1 0) a b refl (subst (Leaps a b) (sym is) leap)
knight-reach a b (suc (suc zero), o, less, is, leap) = leap-reach (by 2 0 0 1) a b refl (subst (Leaps a b) (sym is) leap)
knight-reach a b (suc (suc (suc zero)), o, less, is, leap) = leap-reach (by 1 0 0 2) a b refl (subst (Leaps a b) (sym is) leap)
knight-reach a b (suc (suc (suc (suc zero))), o, less, is, leap) = leap-reach (by 0 1 2 0) a b refl (subst (Leaps a b) (sym is) leap)
knight-reach a b (suc (suc (suc (suc (suc zero)))), o, less, is, leap) = leap-reach (by 0 2 1 0) a b refl (subst (Leaps a b) (sym is) leap)
knight-reach a b (suc (suc (suc (suc (suc (suc zero))))), o, less, is, leap) = leap-reach (by 0 2 0 1) a b refl (subst (Leaps a b) (sym is) leap)
knight-reach a b (suc (suc (suc (suc (suc (suc (suc zero)))))), o, less, is, leap) = leap-reach (by 0 1 0 2) a b refl (subst (Leaps a b) (sym is) leap)
knight-reach a b (suc (suc (suc (suc (suc (suc (suc (suc k))))))), o, less, is, leap) = absurd (omega (arith, less))

reach : (p : Setup) (k : Kind) (m : Move) → GoesPlainly p k m → may_reach k m.from m.to ≡ true
reach p King m goes = refl
reach p Queen m goes = refl
reach p Rook m goes = rook-reach p.board m.from m.to goes.0
reach p Bishop m goes = bishop-reach p.board m.from m.to goes.0
reach p Knight m goes = knight-reach m.from m.to goes.0
reach p Pawn m goes = refl

-- A pawn reaches by each of its kinds of moves, and all others go plainly.
reach-case : (p : Setup) (k : Kind) (m : Move) (e : Effect) → has_own_form e ≡ false → man_at p.board m.from ≡ Some (man p.side k) → Case p m e → may_reach k m.from m.to ≡ true
reach-case p k m effect.Plain own stands case =
    subst (λ (j : Kind). may_reach j m.from m.to ≡ true) (same-kind p.side case.kind k _ case.stands stands) (reach p case.kind m case.goes)
reach-case p k m effect.Double own stands case =
    subst (λ (j : Kind). may_reach j m.from m.to ≡ true) (same-kind p.side Pawn k _ case.stands stands) refl
reach-case p k m effect.Passing own stands case =
    subst (λ (j : Kind). may_reach j m.from m.to ≡ true) (same-kind p.side Pawn k _ case.stands stands) refl
reach-case p k m (effect.Castle wing) own stands case = absurd (false≢true (sym own))
reach-case p k m effect.Null own stands case = absurd (false≢true (sym own))

reaches-target : (p : Setup) (g : Going) (m : Move) → Fits p (Goes g) m → may_reach g.kind m.from g.target ≡ true
reaches-target p g m h =
    subst (λ (b : ℕ). may_reach g.kind m.from b ≡ true) h.of_shape.target
    (reach-case p g.kind m (effect_of p m) h.of_shape.no_own_form h.of_shape.stands (legal-allowed p m h.legal))

-- ---- where a man may land

land-by : (k : Kind) (a b : Bool) → (same_kind k Pawn ≡ true → a || b ≡ true) → not (same_kind k Pawn) || (a || b) ≡ true
land-by Pawn a b h = h refl
land-by King a b h = refl
land-by Queen a b h = refl
land-by Rook a b h = refl
land-by Bishop a b h = refl
land-by Knight a b h = refl

-- A pawn on the same file, on another, and en passant.
land-on : (p : Setup) (a b : ℕ) → file_of a ≡ file_of b → man_at p.board b ≡ None → may_land p Pawn a b ≡ true
land-on p a b file empty =
    or-second (option_map_or (λ s. s == b) p.en_passant false) _ (rw (eq-eqb (file_of a) (file_of b) file, empty) refl)

land-off : (p : Setup) (a b : ℕ) (x : Man) → (file_of a ≡ file_of b → ⊥) → man_at p.board b ≡ Some x → may_land p Pawn a b ≡ true
land-off p a b x file there =
    or-second (option_map_or (λ s. s == b) p.en_passant false) _ (rw (apart-false (file_of a) (file_of b) file, there) refl)
  where
    apart-false : (i j : ℕ) → (i ≡ j → ⊥) → (i == j) ≡ false
    apart-false i j apart = elim (cases_Bool (eqb i j)) [
      | inl same ↦ absurd (apart (eqb-true i j same))
      | inr other ↦ other
    ]

land-passing : (p : Setup) (a b : ℕ) → p.en_passant ≡ Some b → may_land p Pawn a b ≡ true
land-passing p a b target =
    or-first (option_map_or (λ s. s == b) p.en_passant false) _ (rw target (eq-eqb b b refl))

forward-file : (c : Colour) (a b : ℕ) → Leaps a b (forward c) → file_of a ≡ file_of b
forward-file White a b leap = let d = shift-Some (forward White) a b leap in omega (arith, d.files)
forward-file Black a b leap = let d = shift-Some (forward Black) a b leap in omega (arith, d.files)

capture-file : (c : Colour) (a b : ℕ) → Any (Leaps a b) (pawn_captures c) → file_of a ≡ file_of b → ⊥
capture-file White a b (zero, o, less, is, leap) same =
    let d = shift-Some (by 1 0 1 0) a b (subst (Leaps a b) (sym is) leap) in omega (arith, same, d.files)
capture-file White a b (suc zero, o, less, is, leap) same =
    let d = shift-Some (by 0 1 1 0) a b (subst (Leaps a b) (sym is) leap) in omega (arith, same, d.files)
capture-file White a b (suc (suc k), o, less, is, leap) same = omega (arith, less)
capture-file Black a b (zero, o, less, is, leap) same =
    let d = shift-Some (by 1 0 0 1) a b (subst (Leaps a b) (sym is) leap) in omega (arith, same, d.files)
capture-file Black a b (suc zero, o, less, is, leap) same =
    let d = shift-Some (by 0 1 0 1) a b (subst (Leaps a b) (sym is) leap) in omega (arith, same, d.files)
capture-file Black a b (suc (suc k), o, less, is, leap) same = omega (arith, less)

land-plainly : (p : Setup) (m : Move) → GoesPlainly p Pawn m → may_land p Pawn m.from m.to ≡ true
land-plainly p m (inl steps) = land-on p m.from m.to (forward-file p.side m.from m.to steps.0) steps.1
land-plainly p m (inr takes) = land-off p m.from m.to (man (other p.side) takes.1.0) (capture-file p.side m.from m.to takes.0) takes.1.1

land-case : (p : Setup) (m : Move) (e : Effect) → has_own_form e ≡ false → man_at p.board m.from ≡ Some (man p.side Pawn) → Case p m e → may_land p Pawn m.from m.to ≡ true
land-case p m effect.Plain own stands case =
    land-plainly p m (subst (λ (k : Kind). GoesPlainly p k m) (same-kind p.side case.kind Pawn _ case.stands stands) case.goes)
land-case p m effect.Double own stands case =
    land-on p m.from m.to (forward-file p.side m.from case.walks.0 case.walks.1 ∙ forward-file p.side case.walks.0 m.to case.walks.3) case.target
land-case p m effect.Passing own stands case = land-passing p m.from m.to case.target
land-case p m (effect.Castle wing) own stands case = absurd (false≢true (sym own))
land-case p m effect.Null own stands case = absurd (false≢true (sym own))

pawn-kind : (k : Kind) → same_kind k Pawn ≡ true → k ≡ Pawn
pawn-kind Pawn h = refl
pawn-kind King h = absurd (false≢true h)
pawn-kind Queen h = absurd (false≢true h)
pawn-kind Rook h = absurd (false≢true h)
pawn-kind Bishop h = absurd (false≢true h)
pawn-kind Knight h = absurd (false≢true h)

lands-there : (p : Setup) (g : Going) (m : Move) → Fits p (Goes g) m → may_land p g.kind m.from g.target ≡ true
lands-there p g m h =
    let target : ℕ = g.target in
    land-by g.kind (option_map_or (λ s. s == target) p.en_passant false)
    (if file_of m.from == file_of target then is_none (man_at p.board target) else is_some (man_at p.board target)) (λ pawn.
    let kind = pawn-kind g.kind pawn in
    subst (λ (b : ℕ). may_land p Pawn m.from b ≡ true) h.of_shape.target
    (land-case p m (effect_of p m) h.of_shape.no_own_form (subst (λ (k : Kind). man_at p.board m.from ≡ Some (man p.side k)) kind h.of_shape.stands) (legal-allowed p m h.legal)))

-- ---- square by square

passed-by : (p : Setup) (g : Going) (s : ℕ) (starts : Starts) → ((m : Move) → Fits p (Goes g) m → m.from ≡ s → ⊥) → StartsWith p g s starts starts
passed-by p g s starts none = record { stand = λ there. there; kept = λ t covers. covers; here = λ m fits from. absurd (none m fits from) }

pub not_so : (p : Setup) (g : Going) (s : ℕ) (starts : Starts) (b : Bool) → IsTrue b ↔ StandsSo p g s → b ≡ false → StartsWith p g s starts starts
not_so p g s starts b is missed =
    passed-by p g s starts (λ m fits from.
    let there : StandsSo p g m.from = record { stands = fits.of_shape.stands; file = fits.of_shape.file; rank = fits.of_shape.rank } in
    false≢true (sym missed ∙ is.1 (subst (StandsSo p g) from there)))

pub too_far : (p : Setup) (g : Going) (s : ℕ) (starts : Starts) (b : Bool) → b ≡ may_reach g.kind s g.target → b ≡ false → StartsWith p g s starts starts
too_far p g s starts b is missed =
    passed-by p g s starts (λ m fits from.
    false≢true (sym missed ∙ (is ∙ subst (λ (a : ℕ). may_reach g.kind a g.target ≡ true) from (reaches-target p g m fits))))

pub no_landing : (p : Setup) (g : Going) (s : ℕ) (starts : Starts) (b : Bool) → b ≡ may_land p g.kind s g.target → b ≡ false → StartsWith p g s starts starts
no_landing p g s starts b is missed =
    passed-by p g s starts (λ m fits from.
    false≢true (sym missed ∙ (is ∙ subst (λ (a : ℕ). may_land p g.kind a g.target ≡ true) from (lands-there p g m fits))))

stand-more : (p : Setup) (g : Going) (s : ℕ) (starts : Starts) → StandsSo p g s → StandThere p g (and_one starts s)
stand-more p g s of.None so = so
stand-more p g s (of.One first) so = tt
stand-more p g s of.More so = tt

among-more : (starts : Starts) (s t : ℕ) → IsAmong starts t → IsAmong (and_one starts s) t
among-more of.None s t among = absurd among
among-more (of.One first) s t among = tt
among-more of.More s t among = tt

among-last : (starts : Starts) (s : ℕ) → IsAmong (and_one starts s) s
among-last of.None s = refl
among-last (of.One first) s = tt
among-last of.More s = tt

pub one_more : (p : Setup) (g : Going) (s : ℕ) (starts after : Starts) → StandsSo p g s → after ≡ and_one starts s → StartsWith p g s starts after
one_more p g s starts after so is =
    subst (StartsWith p g s starts) (sym is) (record {
      stand = λ there. stand-more p g s starts so;
      kept = λ t covers m fits from. among-more starts s t (covers m fits from);
      here = λ m fits from. among-last starts s;
    })

-- ---- pawns, step by step

pub steps_start : (p : Setup) (g : Going) (steps : List ℕ) → StartsBy p g steps 0 of.None
steps_start p g steps = record { stand = tt; covers = λ k less. absurd (omega (arith, less)) }

pub steps_next : (p : Setup) (g : Going) (steps : List ℕ) (n : ℕ) (starts after : Starts) → StartsBy p g steps n starts
    → StartsWith p g (step_on steps g.target n) starts after → StartsBy p g steps (n + 1) after
steps_next p g steps n starts after h next = record {
  stand = next.stand h.stand;
  covers = λ k less. elim (cases_lt k n) [
    | inl before ↦ next.kept (step_on steps g.target k) (h.covers k before)
    | inr last ↦ let e : k ≡ n = omega (arith, less, last) in subst (λ (k : ℕ). Covers p g after (step_on steps g.target k)) (sym e) next.here
  ];
}

steps-all : (p : Setup) (g : Going) (steps : List ℕ) (starts : Starts) → StartsBy p g steps (length steps) starts
    → ((m : Move) → Fits p (Goes g) m → StepOf steps m.from m.to) → AreStarts p g starts
steps-all p g steps starts h each = record {
  stand = h.stand;
  all = λ m fits.
      let step = each m fits in
      let at : m.from ≡ step_on steps g.target step.place = step.is ∙ ap (λ (t : ℕ). step_on steps t step.place) fits.of_shape.target in
      subst (IsAmong starts) (sym at) (h.covers step.place step.less m fits at);
}

pub white_starts : (p : Setup) (g : Going) (starts : Starts) → Sound p → g.kind ≡ Pawn → p.side ≡ White → StartsBy p g white_list 4 starts → AreStarts p g starts
white_starts p g starts sound kind side h = steps-all p g white_list starts h (λ m fits. pawn-each p g White m sound kind side fits)

pub black_starts : (p : Setup) (g : Going) (starts : Starts) → Sound p → g.kind ≡ Pawn → p.side ≡ Black → StartsBy p g black_list 4 starts → AreStarts p g starts
black_starts p g starts sound kind side h = steps-all p g black_list starts h (λ m fits. pawn-each p g Black m sound kind side fits)

-- ---- man by man

pub starts_first : (p : Setup) (g : Going) (left : ℕ) → left ≡ set_of (is_man p.side g.kind) p.board → StartsBut p g left of.None
starts_first p g left is = record {
  stand = tt;
  covers = λ s none m fits from.
      let set : bit_at left m.from ≡ 1 = rw is (stands-bit p g m fits) in
      let clear : bit_at left m.from ≡ 0 = rw from none in
      omega (arith, set, clear);
}

pub starts_next : (p : Setup) (g : Going) (s left after : ℕ) (starts new : Starts) → StartsBut p g left starts → StartsWith p g s starts new → Drops s left after
    → StartsBut p g after new
starts_next p g s left after starts new h next drops = record {
  stand = next.stand h.stand;
  covers = λ i none. elim (cases_Bool (eqb i s)) [
    | inl is ↦ subst (λ (k : ℕ). Covers p g new k) (sym (eqb-true i s is)) next.here
    | inr other ↦ next.kept i (h.covers i (drops.but i none (λ is. false≢true (sym other ∙ eq-eqb i s is))))
  ];
}

pub starts_all : (p : Setup) (g : Going) (left : ℕ) (starts : Starts) → left ≡ 0 → StartsBut p g left starts → AreStarts p g starts
starts_all p g left starts none h = record { stand = h.stand; all = λ m fits. h.covers m.from (rw none (bit_at-zero m.from)) m fits refl }

-- ---- the move from one square alone

pub one-found : (p : Setup) (g : Going) (s : ℕ) → StandsSo p g s → ((m : Move) → Fits p (Goes g) m → m.from ≡ s) → has_own_form (effect_of p (from_square g s)) ≡ false
    → Legal p (from_square g s) → IsOnly p (Goes g) (from_square g s)
one-found p g s so only own legal =
    let fits : Fits p (Goes g) (from_square g s) = record {
      legal = legal;
      of_shape = record { stands = so.stands; file = so.file; rank = so.rank; target = refl; promo = refl; no_own_form = own };
    } in
    record { fits = fits; only = λ n other. same-from p g n (from_square g s) other fits (only n other) }

pub one-missed : (p : Setup) (g : Going) (s : ℕ) → ((m : Move) → Fits p (Goes g) m → m.from ≡ s)
    → (has_own_form (effect_of p (from_square g s)) ≡ false → Legal p (from_square g s) → ⊥) → (m : Move) → Fits p (Goes g) m → ⊥
one-missed p g s only none m fits =
    let is : m ≡ from_square g s = only-from p g s m fits (only m fits) in
    none (subst (λ (n : Move). has_own_form (effect_of p n) ≡ false) is fits.of_shape.no_own_form) (subst (Legal p) is fits.legal)

-- ---- the answer to a text

pub shape-answers : (p : Setup) (text : List ℕ) (shape : Shape) (answer : Result Move SanFault) → Sound p → shape_named text ≡ Some shape → AnswersShape p shape answer
    → answer ≡ san_answer p text
shape-answers p text shape answer sound named h =
    let a = answers-text p text shape answer named h in
    san_is p text answer sound (answer-only p text answer a.0 a.1) (answer-first p text answer a.0 a.1)

pub no-shape-answers : (p : Setup) (text : List ℕ) → Sound p → shape_named text ≡ None → Err fault.Shape ≡ san_answer p text
no-shape-answers p text sound none =
    san_is p text (Err fault.Shape) sound (answer-only p text (Err fault.Shape) tt (shapeless p text none)) (answer-first p text (Err fault.Shape) tt (shapeless p text none))

pub plays-on : (p q : Setup) (r : Result Move SanFault) → IfOk r (λ m. Step p m q) → IfOk r (λ m. q ≡ stepped p m)
plays-on p q (Ok m) step = Step-stepped p m q step
plays-on p q (Err f) step = tt
