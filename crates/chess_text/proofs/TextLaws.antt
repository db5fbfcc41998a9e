-- What is computed is the text of the move.
use Rattle.std.proofs.Common.{◌≡◌, ◌↔◌, ℕ, zero, suc, ◌<◌, ◌==◌, ◌&&◌, ◌||◌, not, inl, inr, Bool, true, false, IsTrue, List, [], if◌then◌else◌, Option, Some, None, codes, refl, subst, arith}
use Rattle.std.specs.Bool.{Decides}
use Rattle.std.proofs.lemmas.Bool.Decides.{Decides-and, Decides-eqb}
use Rattle.std.proofs.lemmas.Bool.{false≢true, cases_lt, and_parts, and_from, or_cases, ne_eqb, eqb-false, not-true}
use Rattle.cell_core.specs.declared.man.Kind.{Kind}
use Rattle.cell_core.specs.declared.man.Kind.TheVariants.{King, Queen, Rook, Bishop, Knight, Pawn}
use Rattle.cell_core.specs.declared.man.Man.{Man}
use Rattle.cell_core.specs.declared.step.Move.{Move}
use Rattle.cell_core.specs.Board.{man_at}
use Rattle.cell_core.specs.Man.{man, is_man}
use Rattle.chess_laws.specs.declared.setup.Setup.{Setup}
use Rattle.chess_laws.specs.declared.effect.Effect.{Effect}
use Rattle.chess_laws.specs.declared.effect.Effect.TheVariants.{Plain, Double, Passing, Castle, Null}
use Rattle.chess_laws.specs.Attacks.{IsInCheck}
use Rattle.chess_laws.specs.Position.{Sound}
use Rattle.chess_laws.specs.Geometry.{file_of, rank_of}
use Rattle.chess_laws.specs.Step.{effect_of, after, Legal, Case}
use Rattle.chess_laws.specs.LegalNow.{some_below, in_check_now, legal_now}
use Rattle.chess_laws.proofs.Boards.{on_board}
use Rattle.chess_laws.proofs.Deciding.{in_check-Decides, legal-Decides}
use Rattle.chess_laws.proofs.Following.{case-on_board}
use Rattle.chess_laws.proofs.Kings.{is_man-Some, is_man-true}
use Rattle.chess_laws.proofs.MovedKings.{legal-allowed, Sound-after}
use Rattle.chess_text.specs.San.{IsRival, OriginText, KindText, GoingText, HasMove, SignText, SanBy, San}
use Rattle.chess_text.specs.Squares.{file_text, rank_text, square_text}
use Rattle.chess_text.specs.SanText.{is_rival_now, origin_now, kind_now, going_now, some_promotion, has_move_now, sign_now, san_now, san_text}
use Rattle.chess_text.proofs.RivalLaws.{origin-from, within}
use Rattle.chess_text.proofs.WrittenSan.{MayName, case-named}

-- ---- a test of the numbers below another

some-found : (n : ℕ) (test : ℕ → Bool) → some_below test n ≡ true → (k : ℕ) × (k < n) × (test k ≡ true)
unfolding some_below
some-found zero test h = absurd (false≢true h)
some-found (suc n) test h =
    elim (or_cases (test n) (some_below test n) h) [
      | inl here ↦ (n, omega arith, here)
      | inr below ↦ let k = some-found n test below in (k.0, omega (arith, k.1), k.2)
    ]

or-right : (a b : Bool) → b ≡ true → a || b ≡ true
or-right true b h = refl
or-right false b h = h

or-left : (a b : Bool) → a ≡ true → a || b ≡ true
or-left true b h = refl
or-left false b h = absurd (false≢true h)

some-from : (n k : ℕ) (test : ℕ → Bool) → k < n → test k ≡ true → some_below test n ≡ true
unfolding some_below
some-from zero k test less h = absurd (omega (arith, less))
some-from (suc n) k test less h =
    elim (cases_lt k n) [
      | inl below ↦ or-right (test n) (some_below test n) (some-from n k test below h)
      | inr last ↦ let e : k ≡ n = omega (arith, less, last) in or-left (test n) (some_below test n) (rw e at h)
    ]

-- ---- the other men that can go there

rival-Decides : (p : Setup) (k : Kind) (m : Move) (s : ℕ) → Decides (is_rival_now p k m s) (IsRival p k m s)
rival-Decides p k m s = (
  λ h.
      let first = and_parts (not (s == m.from)) _ h in
      let second = and_parts (is_man p.side k (man_at p.board s)) _ first.1 in
      record {
        apart = eqb-false s m.from (not-true (s == m.from) first.0);
        stands = is_man-Some p.side k (man_at p.board s) second.0;
        legal = (legal-Decides p (record { from = s; to = m.to; promo = None })).0 second.1;
      },
  λ rival.
      and_from (not (s == m.from)) _ (rw (ne_eqb s m.from rival.apart) refl)
      (and_from (is_man p.side k (man_at p.board s)) _ (rw rival.stands (is_man-true p.side k))
      ((legal-Decides p (record { from = s; to = m.to; promo = None })).1 rival.legal)),
)

some-Decides : (test : ℕ → Bool) (P : ℕ → Type 0) → ((s : ℕ) → Decides (test s) (P s)) → ((s : ℕ) → P s → s < 64)
    → IsTrue (some_below test 64) ↔ ((s : ℕ) × P s)
some-Decides test P each inside = (
  λ h. let k = some-found 64 test h in (k.0, (each k.0).0 k.2),
  λ some. some-from 64 some.0 test (inside some.0 some.1) ((each some.0).1 some.1),
)

-- The tests of an origin one in another.
abbrev origin_nested : Bool → Bool → Bool → ℕ → List ℕ
origin_nested any files ranks s =
    if any then (if files then (if ranks then square_text s else rank_text (rank_of s)) else file_text (file_of s)) else []

nested : (any files ranks : Bool) (s : ℕ) → origin_nested any files ranks s
    ≡ (if not any then [] else if not files then file_text (file_of s) else if not ranks then rank_text (rank_of s) else square_text s)
nested true true true s = refl
nested true true false s = refl
nested true false ranks s = refl
nested false files ranks s = refl

origin-computed : (p : Setup) (k : Kind) (m : Move) → Sound p → OriginText p k m (origin_now p k m)
unfolding origin_now
origin-computed p k m sound =
    let any = some-Decides (is_rival_now p k m) (IsRival p k m) (rival-Decides p k m) (λ s rival. within p k m s sound rival) in
    let files = some-Decides (λ s. is_rival_now p k m s && (file_of s == file_of m.from)) (λ s. IsRival p k m s × (file_of s ≡ file_of m.from))
    (λ s. Decides-and (is_rival_now p k m s) (file_of s == file_of m.from) (rival-Decides p k m s) (Decides-eqb (file_of s) (file_of m.from)))
    (λ s both. within p k m s sound both.0) in
    let ranks = some-Decides (λ s. is_rival_now p k m s && (rank_of s == rank_of m.from)) (λ s. IsRival p k m s × (rank_of s ≡ rank_of m.from))
    (λ s. Decides-and (is_rival_now p k m s) (rank_of s == rank_of m.from) (rival-Decides p k m s) (Decides-eqb (rank_of s) (rank_of m.from)))
    (λ s both. within p k m s sound both.0) in
    subst (OriginText p k m)
    (nested (some_below (is_rival_now p k m) 64) (some_below (λ s. is_rival_now p k m s && (file_of s == file_of m.from)) 64)
    (some_below (λ s. is_rival_now p k m s && (rank_of s == rank_of m.from)) 64) m.from)
    (origin-from p k m _ _ _ any
    (λ e. let some = files.0 e in (some.0, some.1.0, some.1.1), λ some. files.1 (some.0, (some.1, some.2)))
    (λ e. let some = ranks.0 e in (some.0, some.1.0, some.1.1), λ some. ranks.1 (some.0, (some.1, some.2))))

-- ---- the sign

record PromotionFound (test : Option Kind → Bool) : Type 0 where
  promo : Option Kind
  passes : test promo ≡ true

promotion-found : (test : Option Kind → Bool) → some_promotion test ≡ true → PromotionFound test
promotion-found test h =
    elim (or_cases (test None) _ h) [
      | inl t ↦ record { promo = None; passes = t }
      | inr h ↦ elim (or_cases (test (Some Queen)) _ h) [
        | inl t ↦ record { promo = Some Queen; passes = t }
        | inr h ↦ elim (or_cases (test (Some Rook)) _ h) [
          | inl t ↦ record { promo = Some Rook; passes = t }
          | inr h ↦ elim (or_cases (test (Some Bishop)) (test (Some Knight)) h) [
            | inl t ↦ record { promo = Some Bishop; passes = t }
            | inr t ↦ record { promo = Some Knight; passes = t }
          ]
        ]
      ]
    ]

promotion-from : (test : Option Kind → Bool) (promo : Option Kind) → MayName promo → test promo ≡ true → some_promotion test ≡ true
promotion-from test None may t = rw t refl
promotion-from test (Some King) (inl e) t = absurd (cc)
promotion-from test (Some King) (inr e) t = absurd (false≢true e)
promotion-from test (Some Queen) may t = or-right (test None) _ (rw t refl)
promotion-from test (Some Rook) may t = or-right (test None) _ (or-right (test (Some Queen)) _ (rw t refl))
promotion-from test (Some Bishop) may t =
    or-right (test None) _ (or-right (test (Some Queen)) _ (or-right (test (Some Rook)) _ (rw t refl)))
promotion-from test (Some Knight) may t =
    or-right (test None) _ (or-right (test (Some Queen)) _ (or-right (test (Some Rook)) _ (or-right (test (Some Bishop)) _ t)))
promotion-from test (Some Pawn) (inl e) t = absurd (cc)
promotion-from test (Some Pawn) (inr e) t = absurd (false≢true e)

case-stands : (p : Setup) (m : Move) (e : Effect) → Sound p → Case p m e → m.from < 64
case-stands p m Plain sound case = on_board p.board m.from (man p.side case.kind) sound.squares case.stands
case-stands p m Double sound case = on_board p.board m.from (man p.side Pawn) sound.squares case.stands
case-stands p m Passing sound case = on_board p.board m.from (man p.side Pawn) sound.squares case.stands
case-stands p m (Castle wing) sound case = on_board p.board m.from (man p.side King) sound.squares case.stands
case-stands p m Null sound case = on_board p.board m.from (man p.side King) sound.squares case.stands

tries : Setup → ℕ → ℕ → Option Kind → Bool
tries p from to promo = legal_now p (record { from = from; to = to; promo = promo })

move-found : (p : Setup) → has_move_now p ≡ true → HasMove p
unfolding has_move_now tries
move-found p h =
    let from = some-found 64 (λ from. some_below (λ to. not (to == from) && some_promotion (tries p from to)) 64) h in
    let to = some-found 64 (λ to. not (to == from.0) && some_promotion (tries p from.0 to)) from.2 in
    let both = and_parts (not (to.0 == from.0)) (some_promotion (tries p from.0 to.0)) to.2 in
    let promo = promotion-found (tries p from.0 to.0) both.1 in
    let m : Move = record { from = from.0; to = to.0; promo = promo.promo } in
    (m, record { legal = (legal-Decides p m).0 promo.passes; leaves = eqb-false to.0 from.0 (not-true (to.0 == from.0) both.0) })

move-tried : (p : Setup) → Sound p → HasMove p → has_move_now p ≡ true
unfolding has_move_now tries
move-tried p sound (m, h) =
    let case = legal-allowed p m h.legal in
    let from : m.from < 64 = case-stands p m (effect_of p m) sound case in
    let to : m.to < 64 = case-on_board p m (effect_of p m) sound refl case in
    let leaves : (m.to == m.from) ≡ false = ne_eqb m.to m.from h.leaves in
    some-from 64 m.from (λ from. some_below (λ to. not (to == from) && some_promotion (tries p from to)) 64) from
    (some-from 64 m.to (λ to. not (to == m.from) && some_promotion (tries p m.from to)) to
    (and_from (not (m.to == m.from)) _ (rw leaves refl)
    (promotion-from (tries p m.from m.to) m.promo (case-named p m (effect_of p m) case) ((legal-Decides p m).1 h.legal))))

sign-from : (q : Setup) (check more : Bool) → Decides check (IsInCheck q.board q.side) → Decides more (HasMove q)
    → SignText q (if check then (if more then codes "+" else codes "#") else [])
sign-from q true true c h = inr (inl (c.0 refl, (h.0 refl, refl)))
sign-from q true false c h = inr (inr (c.0 refl, ((λ some. false≢true (h.1 some)), refl)))
sign-from q false more c h = inl ((λ check. false≢true (c.1 check)), refl)

sign-computed : (q : Setup) → Sound q → SignText q (sign_now q)
sign-computed q sound =
    sign-from q (in_check_now q.board q.side) (has_move_now q) (in_check-Decides q.board q.side)
    ((λ h. move-found q h), (λ some. move-tried q sound some))

-- ---- the whole text

kind-computed : (p : Setup) (k : Kind) (m : Move) → Sound p → KindText p k m (kind_now p k m)
kind-computed p King m sound = record { origin = origin_now p King m; is_origin = origin-computed p King m sound; spelled = refl }
kind-computed p Queen m sound = record { origin = origin_now p Queen m; is_origin = origin-computed p Queen m sound; spelled = refl }
kind-computed p Rook m sound = record { origin = origin_now p Rook m; is_origin = origin-computed p Rook m sound; spelled = refl }
kind-computed p Bishop m sound = record { origin = origin_now p Bishop m; is_origin = origin-computed p Bishop m sound; spelled = refl }
kind-computed p Knight m sound = record { origin = origin_now p Knight m; is_origin = origin-computed p Knight m sound; spelled = refl }
kind-computed p Pawn m sound = refl

going-computed : (standing : Option Man) (p : Setup) (m : Move) → Sound p → GoingText standing p m (going_now standing p m)
going-computed None p m sound = refl
going-computed (Some standing) p m sound = kind-computed p standing.kind m sound

by-computed : (p : Setup) (m : Move) (e : Effect) → Sound p → Sound (after p m e) → SanBy e p m (san_now e p m)
by-computed p m Plain sound next =
    record { front = going_now (man_at p.board m.from) p m; sign = sign_now (after p m Plain); spelled = refl; is_front = going-computed (man_at p.board m.from) p m sound; is_sign = sign-computed (after p m Plain) next }
by-computed p m Double sound next =
    record { front = going_now (man_at p.board m.from) p m; sign = sign_now (after p m Double); spelled = refl; is_front = going-computed (man_at p.board m.from) p m sound; is_sign = sign-computed (after p m Double) next }
by-computed p m Passing sound next =
    record { front = going_now (man_at p.board m.from) p m; sign = sign_now (after p m Passing); spelled = refl; is_front = going-computed (man_at p.board m.from) p m sound; is_sign = sign-computed (after p m Passing) next }
by-computed p m (Castle wing) sound next =
    record { front = _; sign = sign_now (after p m (Castle wing)); spelled = refl; is_front = refl; is_sign = sign-computed (after p m (Castle wing)) next }
by-computed p m Null sound next = refl

pub computed : (p : Setup) (m : Move) → Sound p → Legal p m → San p m (san_text p m)
unfolding san_text
computed p m sound legal = by-computed p m (effect_of p m) sound (Sound-after p m sound legal)
