-- What the writer of a move's text counts is what the definition says.
use Rattle.std.proofs.Common.{◌≡◌, ◌↔◌, List, [], ◌∷◌, ◌++◌, codes, append_assoc, ◌≢◌, ℕ, ◌<◌, ◌==◌, eqb, ◌||◌, inl, inr, Bool, true, false, IsTrue, refl, sym, ap, ◌∙◌, subst, arith}
use Rattle.std.specs.Int.{bit_at}
use Rattle.std.proofs.lemmas.Bool.{false≢true, cases_Bool, or_cases, eqb-true, eq-eqb}
use Rattle.std.proofs.lemmas.Nat.Bits.{bit_at-zero}
use Rattle.cell_core.specs.declared.man.Kind.{Kind}
use Rattle.cell_core.specs.declared.step.Move.{Move}
use Rattle.cell_core.specs.Man.{is_man, man}
use Rattle.cell_core.specs.Sets.{set_of}
use Rattle.cell_core.proofs.Squares.{bit-set_of}
use Rattle.chess_laws.specs.declared.setup.Setup.{Setup}
use Rattle.chess_laws.specs.declared.effect.Effect.{Effect}
use Rattle.chess_laws.specs.declared.effect.Effect.TheVariants.{Plain, Double, Passing, Castle, Null}
use Rattle.chess_laws.specs.Attacks.{IsInCheck}
use Rattle.chess_laws.specs.Step.{effect_of, after, Step}
use Rattle.chess_laws.specs.Geometry.{file_of, rank_of}
use Rattle.chess_laws.specs.Position.{Sound}
use Rattle.chess_laws.proofs.Boards.{on_board}
use Rattle.chess_laws.proofs.Kings.{is_man-true}
use Rattle.chess_text.specs.Ones.{Drops}
use Rattle.chess_text.specs.San.{IsRival, HasRival, HasRivalOnFile, HasRivalOnRank, OriginText, HasMove, SignText, SanBy, San}
use Rattle.chess_text.specs.declared.san_writing.Rivals.{Rivals}
use Rattle.chess_text.specs.SanWriting.{SomeBut, RivalsBut, AreRivals, origin_by, FrontText, SignBehind}

-- ---- man by man

none-but : (P : ℕ → Type 0) (left : ℕ) → ((s : ℕ) → P s → bit_at left s ≡ 1) → IsTrue false ↔ SomeBut left P
none-but P left all = (
  λ h. absurd (false≢true h),
  λ some. let one : bit_at left some.0 ≡ 1 = all some.0 some.2 in absurd (omega (arith, one, some.1)),
)

other-place : (a b : ℕ) → eqb a b ≡ false → a ≢ b
other-place a b e is = false≢true (sym e ∙ eq-eqb a b is)

skips : (P : ℕ → Type 0) (s left after : ℕ) (b : Bool) → Drops s left after → (P s → ⊥) → IsTrue b ↔ SomeBut left P → IsTrue b ↔ SomeBut after P
skips P s left after b drops none h = (
  λ yes. let some = h.0 yes in (some.0, drops.kept some.0 some.1, some.2),
  λ some. elim (cases_Bool (eqb some.0 s)) [
    | inl is ↦ absurd (none (subst P (eqb-true some.0 s is) some.2))
    | inr other ↦ h.1 (some.0, drops.but some.0 some.1 (other-place some.0 s other), some.2)
  ],
)

or-left : (a b : Bool) → a ≡ true → a || b ≡ true
or-left true b h = refl
or-left false b h = absurd (false≢true h)

or-right : (a b : Bool) → b ≡ true → a || b ≡ true
or-right true b h = refl
or-right false b h = h

takes-up : (P : ℕ → Type 0) (s left after : ℕ) (b c : Bool) → Drops s left after → IsTrue c ↔ P s → IsTrue b ↔ SomeBut left P → IsTrue (b || c) ↔ SomeBut after P
takes-up P s left after b c drops here h = (
  λ yes. elim (or_cases b c yes) [
    | inl before ↦ let some = h.0 before in (some.0, drops.kept some.0 some.1, some.2)
    | inr now ↦ (s, drops.gone, here.0 now)
  ],
  λ some. elim (cases_Bool (eqb some.0 s)) [
    | inl is ↦ or-right b c (here.1 (subst P (eqb-true some.0 s is) some.2))
    | inr other ↦ or-left b c (h.1 (some.0, drops.but some.0 some.1 (other-place some.0 s other), some.2))
  ],
)

rival-bit : (p : Setup) (k : Kind) (m : Move) (left s : ℕ) → left ≡ set_of (is_man p.side k) p.board → IsRival p k m s → bit_at left s ≡ 1
rival-bit p k m left s is rival =
    rw (is, bit-set_of (is_man p.side k) refl p.board s, rival.stands, is_man-true p.side k) refl

pub no-rivals : (p : Setup) (k : Kind) (m : Move) (left : ℕ) → left ≡ set_of (is_man p.side k) p.board
    → RivalsBut p k m left (record { any = false; on_file = false; on_rank = false })
no-rivals p k m left is = record {
  any = none-but (IsRival p k m) left (λ s rival. rival-bit p k m left s is rival);
  on_file = none-but (λ s. IsRival p k m s × (file_of s ≡ file_of m.from)) left (λ s both. rival-bit p k m left s is both.0);
  on_rank = none-but (λ s. IsRival p k m s × (rank_of s ≡ rank_of m.from)) left (λ s both. rival-bit p k m left s is both.0);
}

not-rival : (p : Setup) (k : Kind) (m : Move) (s left after : ℕ) (seen : Rivals) → Drops s left after → (IsRival p k m s → ⊥) → RivalsBut p k m left seen
    → RivalsBut p k m after seen
not-rival p k m s left after seen drops none h = record {
  any = skips _ s left after seen.any drops none h.any;
  on_file = skips _ s left after seen.on_file drops (λ both. none both.0) h.on_file;
  on_rank = skips _ s left after seen.on_rank drops (λ both. none both.0) h.on_rank;
}

one-rival : (p : Setup) (k : Kind) (m : Move) (s left after : ℕ) (seen : Rivals) → Drops s left after → IsRival p k m s → RivalsBut p k m left seen
    → RivalsBut p k m after (record {
      any = true;
      on_file = seen.on_file || (file_of s == file_of m.from);
      on_rank = seen.on_rank || (rank_of s == rank_of m.from);
    })
one-rival p k m s left after seen drops rival h = record {
  any = (λ _. (s, drops.gone, rival), λ _. refl);
  on_file = takes-up (λ s. IsRival p k m s × (file_of s ≡ file_of m.from)) s left after seen.on_file (file_of s == file_of m.from) drops
      (λ e. (rival, eqb-true (file_of s) (file_of m.from) e), λ both. eq-eqb (file_of s) (file_of m.from) both.1) h.on_file;
  on_rank = takes-up (λ s. IsRival p k m s × (rank_of s ≡ rank_of m.from)) s left after seen.on_rank (rank_of s == rank_of m.from) drops
      (λ e. (rival, eqb-true (rank_of s) (rank_of m.from) e), λ both. eq-eqb (rank_of s) (rank_of m.from) both.1) h.on_rank;
}

whole : (P : ℕ → Type 0) (left : ℕ) (b : Bool) → left ≡ 0 → IsTrue b ↔ SomeBut left P → IsTrue b ↔ ((s : ℕ) × P s)
whole P left b none h = (λ yes. let some = h.0 yes in (some.0, some.2), λ some. h.1 (some.0, rw none (bit_at-zero some.0), some.1))

pub all-rivals : (p : Setup) (k : Kind) (m : Move) (left : ℕ) (seen : Rivals) → left ≡ 0 → RivalsBut p k m left seen → AreRivals p k m seen
all-rivals p k m left seen none h =
    let files = whole (λ s. IsRival p k m s × (file_of s ≡ file_of m.from)) left seen.on_file none h.on_file in
    let ranks = whole (λ s. IsRival p k m s × (rank_of s ≡ rank_of m.from)) left seen.on_rank none h.on_rank in
    record {
      any = whole (IsRival p k m) left seen.any none h.any;
      on_file = (λ e. let some = files.0 e in (some.0, some.1.0, some.1.1), λ some. files.1 (some.0, (some.1, some.2)));
      on_rank = (λ e. let some = ranks.0 e in (some.0, some.1.0, some.1.1), λ some. ranks.1 (some.0, (some.1, some.2)));
    }

pub within : (p : Setup) (k : Kind) (m : Move) (s : ℕ) → Sound p → IsRival p k m s → s < 64
within p k m s sound rival = on_board p.board s (man p.side k) sound.squares rival.stands

-- ---- the origin

never : (P : Type 0) (b : Bool) → IsTrue b ↔ P → b ≡ false → P → ⊥
never P b h e some = false≢true (sym e ∙ h.1 some)

pub origin-from : (p : Setup) (k : Kind) (m : Move) (any file rank : Bool) → IsTrue any ↔ HasRival p k m → IsTrue file ↔ HasRivalOnFile p k m
    → IsTrue rank ↔ HasRivalOnRank p k m → OriginText p k m (origin_by (record { any = any; on_file = file; on_rank = rank }) m.from)
origin-from p k m false file rank a f r = inl (never _ false a refl, refl)
origin-from p k m true false rank a f r = inr (inl (a.0 refl, (never _ false f refl, refl)))
origin-from p k m true true false a f r = inr (inr (inl (f.0 refl, (never _ false r refl, refl))))
origin-from p k m true true true a f r = inr (inr (inr (f.0 refl, (r.0 refl, refl))))

pub origin-told : (p : Setup) (k : Kind) (m : Move) (seen : Rivals) → AreRivals p k m seen → OriginText p k m (origin_by seen m.from)
origin-told p k m seen h = origin-from p k m seen.any seen.on_file seen.on_rank h.any h.on_file h.on_rank

-- ---- one more man

pub man-passed : (p : Setup) (k : Kind) (m : Move) (s left after : ℕ) (seen : Rivals) (b : Bool) → IsTrue b ↔ IsRival p k m s → b ≡ false → Drops s left after
    → RivalsBut p k m left seen → RivalsBut p k m after seen
man-passed p k m s left after seen b is e drops h = not-rival p k m s left after seen drops (never _ b is e) h

pub man-taken : (p : Setup) (k : Kind) (m : Move) (s left after : ℕ) (seen : Rivals) (b file rank : Bool) → IsTrue b ↔ IsRival p k m s → b ≡ true
    → file ≡ seen.on_file || (file_of s == file_of m.from) → rank ≡ seen.on_rank || (rank_of s == rank_of m.from) → Drops s left after
    → RivalsBut p k m left seen → RivalsBut p k m after (record { any = true; on_file = file; on_rank = rank })
man-taken p k m s left after seen b file rank is e f r drops h = rw (f, r) (one-rival p k m s left after seen drops (is.0 e) h)

-- ---- the sign

pub checks : (q : Setup) (check more : Bool) → IsTrue check ↔ IsInCheck q.board q.side → IsTrue more ↔ HasMove q
    → check ≡ true → more ≡ true → SignText q (codes "+")
checks q check more c h e some = inr (inl (c.0 e, (h.0 some, refl)))

pub mates : (q : Setup) (check more : Bool) → IsTrue check ↔ IsInCheck q.board q.side → IsTrue more ↔ HasMove q
    → check ≡ true → more ≡ false → SignText q (codes "#")
mates q check more c h e none = inr (inr (c.0 e, (never _ more h none, refl)))

-- ---- the whole text

by-effect : (p : Setup) (m : Move) (e : Effect) (text front sign : List ℕ) → FrontText e p m front → SignBehind e (after p m e) sign
    → text ≡ front ++ sign → SanBy e p m text
by-effect p m Plain text front sign f s spelled = record { front = front; sign = sign; spelled = spelled; is_front = f; is_sign = s }
by-effect p m Double text front sign f s spelled = record { front = front; sign = sign; spelled = spelled; is_front = f; is_sign = s }
by-effect p m Passing text front sign f s spelled = record { front = front; sign = sign; spelled = spelled; is_front = f; is_sign = s }
by-effect p m (Castle wing) text front sign f s spelled = record { front = front; sign = sign; spelled = spelled; is_front = f; is_sign = s }
by-effect p m Null text front sign f s spelled = rw (spelled, f, s) refl

pub spelled-out : (letter : ℕ) (origin capture square a b c d e : List ℕ) → a ≡ [] → b ≡ a ++ letter ∷ [] → c ≡ b ++ origin → d ≡ c ++ capture
    → e ≡ d ++ square → e ≡ letter ∷ (origin ++ (capture ++ square))
spelled-out letter origin capture square a b c d e f g h i j =
    rw (j, i, h, g, f) (append_assoc (letter ∷ origin) capture square)

pub san-by : (p q : Setup) (m : Move) (e : Effect) (text front sign : List ℕ) → e ≡ effect_of p m → Step p m q → FrontText e p m front
    → SignBehind e q sign → text ≡ front ++ sign → San p m text
san-by p q m e text front sign is step f s spelled =
    let leads : q ≡ after p m e = step.becomes ∙ ap (λ (x : Effect). after p m x) (sym is) in
    subst (λ (x : Effect). SanBy x p m text) is (by-effect p m e text front sign f (subst (λ (r : Setup). SignBehind e r sign) leads s) spelled)
