-- A table of where steps lead tells how far they lead over empty squares.
use Rattle.chess_laws.proofs.Words.{◌≡◌, ◌↔◌, ℕ, zero, suc, ◌+◌, ◌-◌, ◌*◌, ◌<◌, ◌≤◌, ◌⊎◌, inl, inr, Bool, true, false, ◌&&◌, ◌||◌, not, eqb, IsTrue, List, [], ◌∷◌, Option, Offset, length, get_or, subst, Some, None, is_some, refl, sym, ◌∙◌, ap, arith, bit_at, bit_and, bit_or, agree_below, agree_below_at, and_parts, cases_eq, cases_lt, cases_Bool, eq-eqb, eqb-true, false≢true, lt-ltb, ltb-true, Decides-or, Decides-eqb, bit_at-lt, Any, Man, Men, man_at, set_of, shift, Walk, Runs, entry, offset_at}
use Rattle.chess_laws.specs.RayTable.{before, has, is_after, is_ray, names_rays, on_next, rises}
use Rattle.chess_laws.proofs.Rows.{pair-at}
use Rattle.chess_laws.proofs.Sets.{bit-less, bit-told, both_bits, either_bits, no-bit, without_bits}
use Rattle.chess_laws.proofs.Walks.{shift-on_board}

-- which of two squares comes first
apart : (up : Bool) (a b : ℕ) → before up a b ≡ true → before up b a ≡ true → ⊥
apart true a b h k = omega (arith, ltb-true a b h, ltb-true b a k)
apart false a b h k = omega (arith, ltb-true b a h, ltb-true a b k)

follows : (up : Bool) (a b c : ℕ) → before up a b ≡ true → (before up a c ≡ true → ⊥) → before up c b ≡ true
follows true a b c h none = elim (cases_lt a c) [ inl less ↦ absurd (none (lt-ltb a c less)) | inr more ↦ lt-ltb c b (omega (arith, ltb-true a b h)) ]
follows false a b c h none = elim (cases_lt c a) [ inl less ↦ absurd (none (lt-ltb c a less)) | inr more ↦ lt-ltb b c (omega (arith, ltb-true b a h)) ]

-- how many squares may come behind one
rest : Bool → ℕ → ℕ
rest true a = 64 - a
rest false a = a

fewer : (up : Bool) (a c : ℕ) → before up a c ≡ true → c < 64 → rest up c < rest up a
unfolding rest
fewer true a c h less = omega (arith, ltb-true a c h)
fewer false a c h less = omega (arith, ltb-true c a h)

-- whether no man stands on a square
vacant : (men : Men) (c : ℕ) → (bit_at (set_of is_some men) c ≡ 1 → ⊥) ↔ (man_at men c ≡ None)
vacant men c = (λ none. none-of (man_at men c) (λ h. none (told.1 h)), λ empty set. false≢true (sym (ap is_some empty) ∙ told.0 set))
  where
    told : (bit_at (set_of is_some men) c ≡ 1) ↔ (is_some (man_at men c) ≡ true)
    told = bit-told is_some refl men c

    none-of : (x : Option Man) → (is_some x ≡ true → ⊥) → x ≡ None
    none-of None h = refl
    none-of (Some m) h = absurd (h refl)

module _ (table : List (List ℕ)) (row : ℕ) (says : names_rays table ≡ true) (row_less : row < 8) where
  told : (a : ℕ) → a < 64 → is_ray table row a ≡ true
  unfolding names_rays
  told a less = pair-at (is_ray table) 8 64 row a says row_less less

  fits : (a : ℕ) → a < 64 → entry table row a < 18446744073709551616
  fits a less = ltb-true (entry table row a) 18446744073709551616 (and_parts _ _ (and_parts _ _ (told a less)).0).0

  next : (a b : ℕ) → a < 64 → b < 64 → has (entry table row a) b ≡ on_next (entry table row) b (shift (offset_at row) a)
  next a b less within =
      agree_below_at (has (entry table row a)) (λ b. on_next (entry table row) b (shift (offset_at row) a)) 64 b (and_parts _ _ (and_parts _ _ (told a less)).1).0 within

  behind : (a b c : ℕ) → a < 64 → b < 64 → c < 64 → has (entry table row a) b ≡ true → has (entry table row b) c ≡ (has (entry table row a) c && before (rises row) b c)
  behind a b c less within c_less there =
      agree_below_at (has (entry table row b)) (λ c. has (entry table row a) c && before (rises row) b c) 64 c
      (rw there at (agree_below_at (λ b. not (has (entry table row a) b) || agree_below (has (entry table row b)) (λ c. has (entry table row a) c && before (rises row) b c) 64) (λ b. true) 64 b (and_parts _ _ (and_parts _ _ (told a less)).1).1 within)) c_less

  -- a step leads to the next square
  stepped : (a c : ℕ) → a < 64 → shift (offset_at row) a ≡ Some c → (c < 64) × ((has (entry table row a) c ≡ true) × (before (rises row) a c ≡ true))
  stepped a c less step =
      let within = shift-on_board (offset_at row) a c step in
      let after : is_after (rises row) a (shift (offset_at row) a) ≡ true = (and_parts _ _ (and_parts _ _ (told a less)).0).1 in
      (within, (next a c less within ∙ rw (step, eq-eqb c c refl) refl, rw step at after))

  found : (a b c : ℕ) → a < 64 → b < 64 → shift (offset_at row) a ≡ Some c → has (entry table row a) b ≡ true → (c ≡ b) ⊎ (has (entry table row c) b ≡ true)
  found a b c less within step there =
      (Decides-or _ _ (Decides-eqb c b) (λ h. h, λ h. h)).0 (rw step at (sym (next a b less within) ∙ there))

  leads : (x : Option ℕ) (b : ℕ) → on_next (entry table row) b x ≡ true → (c : ℕ) × (x ≡ Some c)
  leads None b h = absurd (false≢true h)
  leads (Some c) b h = (c, refl)

  -- over empty squares to each square of the line before which no man stands
  walks : (men : Men) (k a b : ℕ) → a < 64 → b < 64 → rest (rises row) a < k → has (entry table row a) b ≡ true
      → ((c : ℕ) → c < 64 → has (entry table row a) c ≡ true → before (rises row) c b ≡ true → man_at men c ≡ None) → Runs men a b (offset_at row)
  walks men zero a b less within room there none = absurd (omega arith)
  walks men (suc k) a b less within room there none =
      let (c, step) = leads (shift (offset_at row) a) b (sym (next a b less within) ∙ there) in
      let (c_less, (c_there, after)) = stepped a c less step in
      elim (found a b c less within step there) [
        | inl same ↦ (zero, step ∙ ap Some same)
        | inr further ↦
            let first = (and_parts _ _ (sym (behind a c b less c_less within c_there) ∙ further)).1 in
            let (n, walk) =
            walks men k c b c_less within (omega (arith, fewer (rises row) a c after c_less)) further
            (λ d d_less d_there before_b. none d d_less (and_parts _ _ (sym (behind a c d less c_less d_less c_there) ∙ d_there)).0 before_b) in
            (suc n, (c, step, none c c_less c_there first, walk))
      ]

  -- and to no other
  walked : (men : Men) (n a b : ℕ) → a < 64 → Walk men (offset_at row) n a b
      → (b < 64) × ((has (entry table row a) b ≡ true)
      × ((c : ℕ) → c < 64 → has (entry table row a) c ≡ true → before (rises row) c b ≡ true → man_at men c ≡ None))
  walked men zero a b less step =
      let (b_less, (there, after)) = stepped a b less step in (
        b_less,
        (
          there,
          λ c c_less c_there first. elim (found a c b less c_less step c_there) [
            | inl same ↦ absurd (apart (rises row) c c (rw same at first) (rw same at first))
            | inr further ↦ absurd (apart (rises row) c b first (and_parts _ _ (sym (behind a b c less b_less c_less there) ∙ further)).1)
          ],
        ),
      )
  walked men (suc n) a b less (d, step, empty, walk) =
      let (d_less, (d_there, after)) = stepped a d less step in
      let (b_less, (further, none)) = walked men n d b d_less walk in (
        b_less,
        (
          (and_parts _ _ (sym (behind a d b less d_less b_less d_there) ∙ further)).0,
          λ c c_less c_there first. elim (found a c d less c_less step c_there) [
            | inl same ↦ rw same at empty
            | inr beyond ↦ none c c_less beyond first
          ],
        ),
      )

  module _ (men : Men) (a b : ℕ) (less : a < 64) where
    clear : Runs men a b (offset_at row)
        ↔ ((has (entry table row a) b ≡ true)
        × ((c : ℕ) → has (entry table row a) c ≡ true → bit_at (set_of is_some men) c ≡ 1 → before (rises row) c b ≡ true → ⊥))
    clear = (
      λ (n, walk).
          let (b_less, (there, none)) = walked men n a b less walk in
          (there, λ c c_there full first. (vacant men c).1 (none c (bit-less (entry table row a) c (fits a less) (eqb-true _ 1 c_there)) c_there first) full),
      λ (there, none).
          walks men (suc (rest (rises row) a)) a b less (bit-less (entry table row a) b (fits a less) (eqb-true _ 1 there)) (omega arith) there
          (λ c c_less c_there first. (vacant men c).0 (λ full. none c c_there full first)),
    )

    -- to all squares of the line, where no man stands on it
    pub ray-free : bit_and (entry table row a) (set_of is_some men) ≡ 0 → (bit_at (entry table row a) b ≡ 1) ↔ Runs men a b (offset_at row)
    ray-free none = (
      λ h. clear.1 (eq-eqb _ 1 h, λ c there full first. no-bit _ c none ((both_bits (entry table row a) (set_of is_some men) c).1 (eqb-true _ 1 there, full))),
      λ h. eqb-true _ 1 (clear.0 h).0,
    )

    -- and else as far as to the first man
    pub ray-met : (f : ℕ) → f < 64 → bit_at (bit_and (entry table row a) (set_of is_some men)) f ≡ 1
        → ((c : ℕ) → bit_at (bit_and (entry table row a) (set_of is_some men)) c ≡ 1 → before (rises row) c f ≡ true → ⊥)
        → (bit_at (bit_and (entry table row a) (18446744073709551615 - entry table row f)) b ≡ 1) ↔ Runs men a b (offset_at row)
    ray-met f f_less met first =
        let left = without_bits (entry table row a) (entry table row f) (fits a less) (fits f f_less) b in
        let (f_there, stands) = (both_bits (entry table row a) (set_of is_some men) f).0 met in
        let f_on : has (entry table row a) f ≡ true = eq-eqb _ 1 f_there in (
          λ h.
              let (b_there, near) = left.0 h in
              let b_on : has (entry table row a) b ≡ true = eq-eqb _ 1 b_there in
              clear.1 (
                b_on,
                λ c c_on full before_b.
                    let far = follows (rises row) c b f before_b (first c ((both_bits (entry table row a) (set_of is_some men) c).1 (eqb-true _ 1 c_on, full))) in
                    let set = behind a f b less f_less (bit-less (entry table row a) b (fits a less) b_there) f_on ∙ rw (b_on, far) refl in
                    omega (arith, near, eqb-true (bit_at (entry table row f) b) 1 set),
              ),
          λ h.
              let (b_on, none) = clear.0 h in
              let within = bit-less (entry table row a) b (fits a less) (eqb-true _ 1 b_on) in
              left.1 (
                eqb-true _ 1 b_on,
                elim (cases_eq (bit_at (entry table row f) b) 1) [
                  | inl set ↦ absurd (none f f_on stands (and_parts _ _ (sym (behind a f b less f_less within f_on) ∙ eq-eqb _ 1 set)).1)
                  | inr other ↦ omega (arith, bit_at-lt (entry table row f) b)
                ],
              ),
        )

-- the squares to which steps lead, one more before those before it
pub no-more : (men : Men) (a b : ℕ) → (bit_at 0 b ≡ 1) ↔ Any (Runs men a b) []
no-more men a b = (λ h. absurd (no-bit 0 b refl h), λ any. absurd (omega (arith, any.2)))

pub one-more : (men : Men) (a b : ℕ) (o : Offset) (steps : List Offset) (u v : ℕ) → ((bit_at u b ≡ 1) ↔ Runs men a b o) → ((bit_at v b ≡ 1) ↔ Any (Runs men a b) steps)
    → (bit_at (bit_or u v) b ≡ 1) ↔ Any (Runs men a b) (o ∷ steps)
one-more men a b o steps u v first later = (
  λ h. elim ((either_bits u v b).0 h) [
    | inl is ↦ (zero, o, omega arith, refl, first.0 is)
    | inr is ↦ let (k, x, less, at, runs) = later.0 is in (suc k, x, omega (arith, less), at, runs)
  ],
  λ (k, x, less, at, runs). (either_bits u v b).1 (by k x less at runs),
)
  where
    by : (k : ℕ) (x : Offset) → k < length (o ∷ steps) → get_or (o ∷ steps) k x ≡ x → Runs men a b x → (bit_at u b ≡ 1) ⊎ (bit_at v b ≡ 1)
    by zero x less at runs = inl (first.1 (subst (λ (y : Offset). Runs men a b y) (sym at) runs))
    by (suc k) x less at runs = inr (later.1 (k, x, omega (arith, less), at, runs))
