-- How often names are used, counted game by game.
use Rattle.std.proofs.Common.{◌≡◌, ◌<◌, ◌+◌, ◌^◌, ℕ, cond, min, nat_eq, List, [], ◌∷◌, ◌++◌, length, get_or, slice_index, slice_set, replicate, refl, sym, ap, ◌∙◌, subst, inl, inr, arith}
use Rattle.std.proofs.lemmas.Bool.{cases_eq, eq-eqb, ne_eqb}
use Rattle.std.proofs.lemmas.List.{ext_get_or, get_or-replicate, get_or-set_same, get_or-set_other, length-replicate, length-set}
use Rattle.std.proofs.lemmas.List.Elements.{All-from_get_or}
use Rattle.std.proofs.lemmas.List.FromFn.{get_or-map-range_with_len, length-map-range_with_len}
use Rattle.index_entry.specs.declared.entry.Entry.{Entry}
use Rattle.name_base.specs.NameLists.{NameLists}
use Rattle.name_base.specs.NamesText.{AreFrequencies}
use Rattle.base_core.specs.Counting.{HasUses, one_more, with_uses}
use Rattle.base_core.specs.Entries.{HasNames}
use Rattle.base_core.specs.Uses.{counted, frequencies_of, greatest_frequency, player_uses, uses_of}
use Rattle.base_core.proofs.Lists.{count_push}

pub counted-length : (count : ℕ) (uses : ℕ → ℕ) → length (counted count uses) ≡ count
unfolding counted
counted-length count uses = length-map-range_with_len (λ id. min (uses id) greatest_frequency) 0 count

counted-at : (count : ℕ) (uses : ℕ → ℕ) (i : ℕ) → i < count → get_or (counted count uses) i 0 ≡ min (uses i) greatest_frequency
unfolding counted
counted-at count uses i below = get_or-map-range_with_len (λ id. min (uses id) greatest_frequency) 0 count i i 0 below (omega arith)

pub counted-by : (count : ℕ) (uses others : ℕ → ℕ) → ((i : ℕ) → i < count → uses i ≡ others i) → counted count uses ≡ counted count others
counted-by count uses others same =
    ext_get_or 0 (counted count uses) (counted count others) (counted-length count uses ∙ sym (counted-length count others))
    (λ i below.
    let at : i < count = subst (λ n. i < n) (counted-length count uses) below in
    counted-at count uses i at ∙ (ap (λ n. min n greatest_frequency) (same i at) ∙ sym (counted-at count others i at)))

cut-more : (n : ℕ) → min (min n greatest_frequency + 1) greatest_frequency ≡ min (n + 1) greatest_frequency
cut-more n = omega arith

one_more-counted : (count id : ℕ) (uses : ℕ → ℕ) → id < count → one_more id (counted count uses) ≡ counted count (λ n. uses n + cond (nat_eq id n) 1 0)
one_more-counted count id uses below =
    let xs = counted count uses in
    let there : id < length xs = subst (λ n. id < n) (sym (counted-length count uses)) below in
    let new = min (slice_index xs id + 1) greatest_frequency in
    let more : ℕ → ℕ = λ n. uses n + cond (nat_eq id n) 1 0 in
    ext_get_or 0 (slice_set xs id new) (counted count more) (length-set xs id new ∙ (counted-length count uses ∙ sym (counted-length count more)))
    (λ i at_long.
    let at : i < count = subst (λ n. i < n) (length-set xs id new ∙ counted-length count uses) at_long in
    elim (cases_eq i id) [
      | inl same ↦
          let here : min (uses id + 1) greatest_frequency ≡ min (uses id + cond (nat_eq id id) 1 0) greatest_frequency = ap (λ b. min (uses id + cond b 1 0) greatest_frequency) (sym (eq-eqb id id refl)) in
          let G : ℕ → Type 0 = λ k. get_or (slice_set xs id new) k 0 ≡ get_or (counted count more) k 0 in
          subst G (sym same)
          (get_or-set_same xs id new 0 there
          ∙ (ap (λ n. min (n + 1) greatest_frequency) (counted-at count uses id below) ∙ (cut-more (uses id) ∙ (here ∙ sym (counted-at count more id below)))))
      | inr other ↦
          let none : uses i ≡ uses i + cond (nat_eq id i) 1 0 = rw (ne_eqb id i (λ e. other (sym e))) (omega arith) in
          get_or-set_other xs id i new 0 other ∙ (counted-at count uses i at ∙ (ap (λ n. min n greatest_frequency) none ∙ sym (counted-at count more i at)))
    ])

-- One field of one game more.
field-more : (field : Entry → ℕ) (count : ℕ) (es : List Entry) (e : Entry) → field e < count → one_more (field e) (counted count (uses_of field es)) ≡ counted count (uses_of field (es ++ e ∷ []))
field-more field count es e below =
    one_more-counted count (field e) (uses_of field es) below
    ∙ counted-by count (λ n. uses_of field es n + cond (nat_eq (field e) n) 1 0) (uses_of field (es ++ e ∷ [])) (λ n at. sym (count_push (λ d. nat_eq (field d) n) es e))

players-more : (count : ℕ) (es : List Entry) (e : Entry) → e.white < count → e.black < count → one_more e.black (one_more e.white (counted count (player_uses es))) ≡ counted count (player_uses (es ++ e ∷ []))
players-more count es e white black =
    let first : ℕ → ℕ = λ n. player_uses es n + cond (nat_eq e.white n) 1 0 in
    ap (one_more e.black) (one_more-counted count e.white (player_uses es) white)
    ∙ (one_more-counted count e.black first black
    ∙ counted-by count (λ n. first n + cond (nat_eq e.black n) 1 0) (player_uses (es ++ e ∷ []))
    (λ n at. omega (arith, count_push (λ d. nat_eq d.white n) es e, count_push (λ d. nat_eq d.black n) es e)))

pub uses-more : (names : NameLists) (es : List Entry) (e : Entry) → HasNames names e → with_uses (frequencies_of names es) e ≡ frequencies_of names (es ++ e ∷ [])
uses-more names es e has =
    let players = players-more (length names.players) es e has.white has.black in
    let events = field-more (λ d. d.event) (length names.events) es e has.event in
    let sites = field-more (λ d. d.site) (length names.sites) es e has.site in
    let rounds = field-more (λ d. d.round) (length names.rounds) es e has.round in
    λ i. record { players = players i; events = events i; sites = sites i; rounds = rounds i }

pub has-uses : (names : NameLists) (es : List Entry) (e : Entry) → HasNames names e → HasUses (frequencies_of names es) e
has-uses names es e has = record {
  white = subst (λ n. e.white < n) (sym (counted-length _ _)) has.white;
  black = subst (λ n. e.black < n) (sym (counted-length _ _)) has.black;
  event = subst (λ n. e.event < n) (sym (counted-length _ _)) has.event;
  site = subst (λ n. e.site < n) (sym (counted-length _ _)) has.site;
  round = subst (λ n. e.round < n) (sym (counted-length _ _)) has.round;
}

-- Without games nothing is used.
none-used : (count : ℕ) (uses : ℕ → ℕ) → ((i : ℕ) → uses i ≡ 0) → replicate count 0 ≡ counted count uses
none-used count uses none =
    ext_get_or 0 (replicate count 0) (counted count uses) (length-replicate count 0 ∙ sym (counted-length count uses))
    (λ i below.
    let at : i < count = subst (λ n. i < n) (length-replicate count 0) below in
    get_or-replicate count i 0 0 at ∙ sym (counted-at count uses i at ∙ ap (λ n. min n greatest_frequency) (none i)))

pub no-uses : (names : NameLists) (players events sites rounds : List ℕ) → players ≡ replicate (length names.players) 0 → events ≡ replicate (length names.events) 0 →
    sites ≡ replicate (length names.sites) 0 → rounds ≡ replicate (length names.rounds) 0 → record { players = players; events = events; sites = sites; rounds = rounds } ≡ frequencies_of names []
no-uses names players events sites rounds a b c d =
    let p = a ∙ none-used (length names.players) (player_uses []) (λ i. refl) in
    let e = b ∙ none-used (length names.events) (uses_of (λ d. d.event) []) (λ i. refl) in
    let s = c ∙ none-used (length names.sites) (uses_of (λ d. d.site) []) (λ i. refl) in
    let r = d ∙ none-used (length names.rounds) (uses_of (λ d. d.round) []) (λ i. refl) in
    λ i. record { players = p i; events = e i; sites = s i; rounds = r i }

-- There is a frequency for each name, and three bytes hold it.
pub are-frequencies : (names : List (List ℕ)) (uses : ℕ → ℕ) → AreFrequencies names (counted (length names) uses)
are-frequencies names uses = record {
  count = counted-length (length names) uses;
  small = All-from_get_or (λ n. n < 2 ^ 24) (counted (length names) uses) 0
      (λ i below.
      let at : i < length names = subst (λ n. i < n) (counted-length (length names) uses) below in
      subst (λ n. n < 2 ^ 24) (sym (counted-at (length names) uses i at)) (omega arith));
}
