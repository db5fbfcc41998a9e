-- A side's numbered squares follow what stands where: a man is taken away or added, or one of the other side comes or goes.
use Rattle.move_codec.proofs.Words.{◌≡◌, ℕ, suc, ◌-◌, ◌<◌, ◌≤◌, Bool, true, false, cond, eqb, ltb, List, [], ◌∷◌, ◌++◌, Option, Some, None, length, slice_get, get_or, take, set, inl, inr, refl, sym, ◌∙◌, ap, subst, arith, length-set, length-take, length-append, swap_remove, take-set-le, take-set-lt, cases_Bool, cases_eq, eq-eqb, false≢true, ne_eqb, eqb_tells, nat_tests, same_Some, none-some, slice_get-get_or, slice_get_past, slice_get_within, Colour, King, Man, is_of, is_man, number_of, went, without}
use Rattle.move_codec.proofs.Lists.{at, found, get-front, get-push, get-set, without-idle}
use Rattle.move_codec.proofs.Boards.{no_king}

-- the numbers name each square that a man of the side stands on, at its place, and no other; the king's is 0
pub record Tracks (c : Colour) (f : ℕ → Option Man) (get : ℕ → Option ℕ) : Type 0 where
  pub place : ℕ → ℕ
  pub numbered : (n s : ℕ) → get n ≡ Some s → (is_of c (f s) ≡ true) × (place s ≡ n)
  pub whole : (s : ℕ) → is_of c (f s) ≡ true → get (place s) ≡ Some s
  pub first : (s : ℕ) → is_man c King (f s) ≡ true → get 0 ≡ Some s

-- and the same for functions with the same values
Tracks-list : {c : Colour} {f : ℕ → Option Man} {get list : ℕ → Option ℕ} → Tracks c f get → ((n : ℕ) → list n ≡ get n) → Tracks c f list
Tracks-list {c} {f} h same = subst (λ u. Tracks c f u) (λ i n. sym (same n) i) h

-- what stands on a square where no man of the side came
pub away : (p : Option Man → Bool) (f : ℕ → Option Man) (t : ℕ) (x : Option Man) (s : ℕ) → p x ≡ false → p (at f t x s) ≡ true → (s ≡ t → ⊥) × (p (f s) ≡ true)
away p f t x s none h = elim (eqb_tells s t) [
  | inl same ↦ absurd (false≢true (sym none ∙ (rw same.0 at h)))
  | inr other ↦ (other.1, rw other.0 at h)
]

module _ (c : Colour) (f : ℕ → Option Man) (get : ℕ → Option ℕ) (h : Tracks c f get) (t : ℕ) (x : Option Man) where
  -- a man that is not of the side, where none of it stood
  pub Tracks-other : is_of c (f t) ≡ false → is_of c x ≡ false → Tracks c (at f t x) get
  Tracks-other free none = record {
    place = h.place;
    numbered = λ n s e.
        let was = h.numbered n s e in
        rw (ne_eqb s t (λ same. false≢true (sym free ∙ ap (λ u. is_of c (f u)) (sym same) ∙ was.0))) was;
    whole = λ s own. h.whole s (away (is_of c) f t x s none own).1;
    first = λ s is. h.first s (away (is_man c King) f t x s (no_king c x none) is).1;
  }

  -- and where a man of it stood
  pub Tracks-taken : (k : ℕ) → get k ≡ Some t → is_of c x ≡ false → Tracks c (at f t x) (at get k None)
  Tracks-taken k here none = record {
    place = h.place;
    numbered = λ n s e. elim (eqb_tells n k) [
      | inl same ↦ absurd (none-some s (rw same.0 at e))
      | inr other ↦
          let was = h.numbered n s (rw other.0 at e) in
          rw (ne_eqb s t (λ same. other.1 (sym was.1 ∙ ap h.place same ∙ (h.numbered k t here).1))) was
    ];
    whole = λ s own. let b = away (is_of c) f t x s none own in left s (h.place s) b.0 (h.whole s b.1);
    first = λ s is. let b = away (is_man c King) f t x s (no_king c x none) is in left s 0 b.0 (h.first s b.1);
  }
    where
      left : (s n : ℕ) → (s ≡ t → ⊥) → get n ≡ Some s → at get k None n ≡ Some s
      left s n apart e = rw (ne_eqb n k (λ same. apart (same_Some s t (sym e ∙ ap get same ∙ here)))) e

  -- a man of the side comes to a square that it has free, with a number that none has
  pub Tracks-added : (k : ℕ) → get k ≡ None → is_of c (f t) ≡ false → is_of c x ≡ true → (is_man c King x ≡ true → k ≡ 0) → Tracks c (at f t x) (at get k (Some t))
  Tracks-added k unused free own king = record {
    place = at h.place t k;
    numbered = λ n s e. elim (eqb_tells n k) [
      | inl same ↦ let is : t ≡ s = same_Some t s (rw same.0 at e) in rw (eq-eqb s t (sym is)) (own, sym same.1)
      | inr other ↦
          let was = h.numbered n s (rw other.0 at e) in
          rw (ne_eqb s t (λ same. false≢true (sym free ∙ ap (λ u. is_of c (f u)) (sym same) ∙ was.0))) was
    ];
    whole = λ s held. elim (eqb_tells s t) [
      | inl same ↦ rw (same.0, eq-eqb k k refl) (ap (λ (v : ℕ). Some v) (sym same.1))
      | inr other ↦ rw other.0 (left s (h.place s) (h.whole s (rw other.0 at held)))
    ];
    first = λ s is. elim (eqb_tells s t) [
      | inl same ↦ rw (eq-eqb 0 k (sym (king (rw same.0 at is)))) (ap (λ (v : ℕ). Some v) (sym same.1))
      | inr other ↦ left s 0 (h.first s (rw other.0 at is))
    ];
  }
    where
      left : (s n : ℕ) → get n ≡ Some s → at get k (Some t) n ≡ Some s
      left s n e = rw (ne_eqb n k (λ same. none-some s (sym unused ∙ sym (ap get same) ∙ e))) e

-- So the list follows: at most sixteen numbers

abbrev pub Tracked : Colour → (ℕ → Option Man) → List ℕ → Type 0
Tracked c f squares = (length squares ≤ 16) × Tracks c f (slice_get squares)

pub Tracked-like : {c : Colour} {f g : ℕ → Option Man} (squares : List ℕ) → Tracked c f squares → ((s : ℕ) → g s ≡ f s) → Tracked c g squares
Tracked-like {c} squares h same = subst (λ u. Tracked c u squares) (λ i s. sym (same s) i) h

module _ (c : Colour) (f : ℕ → Option Man) (squares : List ℕ) (h : Tracked c f squares) (t : ℕ) (x : Option Man) where
  -- what stands on a square has its number
  pub there : is_of c (f t) ≡ true → slice_get squares (number_of squares t) ≡ Some t
  there own = found squares (h.1.place t) t (h.1.whole t own)

  -- a man goes to a free square
  pub Tracked-went : (a : ℕ) → slice_get squares (number_of squares a) ≡ Some a → (is_man c King x ≡ true → slice_get squares 0 ≡ Some a)
      → is_of c (f t) ≡ false → is_of c x ≡ true → Tracked c (at (at f a None) t x) (went squares a t)
  Tracked-went a here king free own =
      let n = number_of squares a in
      let within = slice_get_within squares n a here in
      let zeroth : is_man c King x ≡ true → n ≡ 0 = λ is. sym (h.1.numbered n a here).1 ∙ (h.1.numbered 0 a (king is)).1 in (
        rw (length-set squares n t) h.0,
        Tracks-list (Tracks-added c (at f a None) (at (slice_get squares) n None) (Tracks-taken c f (slice_get squares) h.1 a None n here refl) t x n
            (rw (eq-eqb n n refl) refl) (elim (cases_Bool (eqb t a)) [ inl e ↦ rw e refl | inr e ↦ rw e free ]) own zeroth) (λ j. get-set squares n t j within),
      )

  -- a man is added
  pub Tracked-push : length squares < 16 → is_of c (f t) ≡ false → is_of c x ≡ true → (is_man c King x ≡ true → length squares ≡ 0)
      → Tracked c (at f t x) (squares ++ t ∷ [])
  Tracked-push room free own king = (
    omega (arith, length-append squares (t ∷ [])),
    Tracks-list (Tracks-added c f (slice_get squares) h.1 t x (length squares) (slice_get_past squares (length squares) (omega arith)) free own king) (get-push squares t),
  )

  -- a man is taken away: the last man takes his number
  taken : slice_get squares (number_of squares t) ≡ Some t → is_of c x ≡ false → Tracked c (at f t x) (swap_remove squares (number_of squares t) t)
  taken here none =
      let n : ℕ = number_of squares t in
      let within = slice_get_within squares n t here in
      let m : ℕ = length squares - 1 in
      let last : ℕ = get_or squares m t in
      let at_last : slice_get squares m ≡ Some last = slice_get-get_or squares m t (omega arith) in
      let size : length squares ≡ suc m = omega arith in
      let few : length (take m (set squares n last)) ≤ 16 = omega (arith, length-take m (set squares n last), h.0) in
      elim (cases_eq n m) [
        | inl same ↦ (
          few,
          Tracks-list (Tracks-taken c f (slice_get squares) h.1 t x n here none)
              (λ j. ap (λ l. slice_get l j) (take-set-le m squares n last (omega arith)) ∙ get-front squares m j size ∙ ap (λ i. at (slice_get squares) i None j) (sym same)),
        )
        | inr apart ↦
            let below : n < m = omega arith in
            let other : last ≡ t → ⊥ = λ e. apart (sym (h.1.numbered n t here).1 ∙ ap h.1.place (sym e) ∙ (h.1.numbered m last at_last).1) in
            let first = Tracks-taken c f (slice_get squares) h.1 last None m at_last refl in
            let second = Tracks-taken c (at f last None) (at (slice_get squares) m None) first t x n (rw (ne_eqb n m apart) here) none in
            let third = Tracks-added c (at (at f last None) t x) (at (at (slice_get squares) m None) n None) second last (f last) n
            (rw (eq-eqb n n refl) refl) (rw (ne_eqb last t other, eq-eqb last last refl) refl) (h.1.numbered m last at_last).0
            (λ is. absurd (omega (arith, (h.1.numbered 0 last (h.1.first last is)).1, (h.1.numbered m last at_last).1))) in
            let list : (j : ℕ) → slice_get (take m (set squares n last)) j ≡ at (at (at (slice_get squares) m None) n None) n (Some last) j =
            λ j. ap (λ l. slice_get l j) (take-set-lt m squares n last below) ∙ get-set (take m squares) n last j (omega (arith, length-take m squares))
            ∙ ap (λ o. cond (eqb j n) (Some last) (cond (eqb j n) None o)) (get-front squares m j size) in
            Tracked-like (take m (set squares n last)) (few, Tracks-list third list)
            (λ s. elim (eqb_tells s last) [ inl same ↦ rw (same.0, ne_eqb s t (λ e. other (sym same.1 ∙ e))) (ap f same.1) | inr e ↦ rw e.0 refl ])
      ]

  -- where none stands none is taken away
  pub idle : is_of c (f t) ≡ false → without squares t ≡ squares
  idle free = without-idle squares t (λ e. false≢true (sym free ∙ (h.1.numbered (number_of squares t) t e).0))

  -- if one stands there
  pub Tracked-without : is_of c x ≡ false → Tracked c (at f t x) (without squares t)
  Tracked-without none = elim (cases_Bool (is_of c (f t))) [
    | inl stood ↦
        let test : ltb (number_of squares t) (length squares) ≡ true = grind (arith, nat_tests, slice_get_within squares (number_of squares t) t (there stood)) in
        rw test (taken (there stood) none)
    | inr free ↦ rw (idle free) (h.0, Tracks-other c f (slice_get squares) h.1 t x free none)
  ]
