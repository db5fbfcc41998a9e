-- A pass that moves what is listed of the games that stay to the front, and where each of them comes to stand.
use Rattle.std.proofs.Common.{◌≡◌, ◌≤◌, ◌<◌, ◌+◌, ℕ, zero, suc, List, [], ◌∷◌, ◌++◌, Option, None, Some, is_some, true, false, length, get_or, set, take, drop, slice_get, refl, sym, ap, ◌∙◌, arith, add-one, inl, inr}
use Rattle.std.specs.List.{swap}
use Rattle.std.proofs.lemmas.Bool.{cases_eq}
use Rattle.std.proofs.lemmas.List.{append-nil, take_more_set, take-set-le, take_all, drop-set-lt, drop-drop, length-set, length_push, get_or-drop, set-set}
use Rattle.std.proofs.lemmas.List.Edits.{swap_is}
use Rattle.std.proofs.lemmas.Option.{get_or_from_slice_get}
use Rattle.std.proofs.Math.Seq.{take-append_seam}
use Rattle.game_filter.specs.Renumbering.{Rises, renumbered}

-- What stays of one game.
abbrev staying : {T : Type 0} → Option ℕ → T → List T
staying None x = []
staying (Some number) x = x ∷ []

renumbered-next : {T : Type 0} (to : List (Option ℕ)) (xs : List T) (i : ℕ) (d : T) → i < length to → length to ≡ length xs
    → renumbered (take (i + 1) to) xs ≡ renumbered (take i to) xs ++ staying (get_or to i None) (get_or xs i d)
renumbered-next {T = T} to xs i d lt same = ap (λ (n : ℕ). renumbered (take n to) xs) (add-one i) ∙ by to xs i lt same
  where
    by : (to : List (Option ℕ)) (xs : List T) (i : ℕ) → i < length to → length to ≡ length xs → renumbered (take (suc i) to) xs ≡ renumbered (take i to) xs ++ staying (get_or to i None) (get_or xs i d)
    by [] xs i lt same = absurd (omega (arith, lt))
    by (number ∷ to) [] i lt same = absurd (omega (arith, same))
    by (None ∷ to) (x ∷ xs) zero lt same = refl
    by (Some number ∷ to) (x ∷ xs) zero lt same = refl
    by (None ∷ to) (x ∷ xs) (suc i) lt same = by to xs i (omega (arith, lt)) (omega (arith, same))
    by (Some number ∷ to) (x ∷ xs) (suc i) lt same = ap (λ (rest : List T). x ∷ rest) (by to xs i (omega (arith, lt)) (omega (arith, same)))

-- The pass has come to game i: what is listed of the games below it that stay is at the front, and what is listed from it on is as it was.
pub record Moved {T : Type 0} (to : List (Option ℕ)) (old now : List T) (i kept : ℕ) : Type 0 where
  pub front : take kept now ≡ renumbered (take i to) old
  pub size : kept ≡ length (renumbered (take i to) old)
  pub back : drop i now ≡ drop i old
  pub within : kept ≤ i
  pub len : length now ≡ length old

-- A list that is so long has an element there.
element : {T : Type 0} (xs : List T) (i : ℕ) → i < length xs → T
element [] i lt = absurd (omega (arith, lt))
element (x ∷ xs) zero lt = x
element (x ∷ xs) (suc i) lt = element xs i (omega (arith, lt))

entry_there : {T : Type 0} (to : List (Option ℕ)) (old now : List T) (i kept : ℕ) (d : T) → Moved to old now i kept → get_or now i d ≡ get_or old i d
entry_there {T = T} to old now i kept d so =
    let same : i + 0 ≡ i = omega arith in
    sym (get_or-drop i now 0 d ∙ ap (λ (n : ℕ). get_or now n d) same) ∙ ap (λ (l : List T). get_or l 0 d) so.back ∙ get_or-drop i old 0 d
    ∙ ap (λ (n : ℕ). get_or old n d) same

rest_there : {T : Type 0} (to : List (Option ℕ)) (old now : List T) (i kept : ℕ) → Moved to old now i kept → drop (i + 1) now ≡ drop (i + 1) old
rest_there {T = T} to old now i kept so = sym (drop-drop 1 i now) ∙ ap (λ (l : List T). drop 1 l) so.back ∙ drop-drop 1 i old

-- A swap with a later place, or with itself, brings what is there to the front, and leaves what is behind it.
swap-front : {T : Type 0} (xs : List T) (i j : ℕ) (d : T) → i ≤ j → j < length xs → take (i + 1) (swap xs i j) ≡ take i xs ++ get_or xs j d ∷ []
swap-front {T = T} xs i j d le lt =
    ap (take (i + 1)) (sym (swap_is xs i j d (omega (arith, le, lt)) lt)) ∙ elim (cases_eq i j) [
      | inl same ↦
          ap (λ (n : ℕ). take (i + 1) (set (set xs i (get_or xs j d)) n (get_or xs i d))) (sym same)
          ∙ ap (take (i + 1)) (set-set xs i (get_or xs j d) (get_or xs i d)) ∙ take_more_set xs i (get_or xs i d) (omega (arith, le, lt))
          ∙ ap (λ (n : ℕ). take i xs ++ get_or xs n d ∷ []) same
      | inr differs ↦
          take-set-le (i + 1) (set xs i (get_or xs j d)) j (get_or xs i d) (omega (arith, le, differs)) ∙ take_more_set xs i (get_or xs j d) (omega (arith, le, lt))
    ]

swap-back : {T : Type 0} (xs : List T) (i j : ℕ) (d : T) → i ≤ j → j < length xs → drop (j + 1) (swap xs i j) ≡ drop (j + 1) xs
swap-back xs i j d le lt =
    ap (drop (j + 1)) (sym (swap_is xs i j d (omega (arith, le, lt)) lt))
    ∙ drop-set-lt (j + 1) (set xs i (get_or xs j d)) j (get_or xs i d) (omega arith) ∙ drop-set-lt (j + 1) xs i (get_or xs j d) (omega (arith, le))

swap-length : {T : Type 0} (xs : List T) (i j : ℕ) (d : T) → i < length xs → j < length xs → length (swap xs i j) ≡ length xs
swap-length xs i j d lt lt' =
    ap length (sym (swap_is xs i j d lt lt')) ∙ length-set (set xs i (get_or xs j d)) j (get_or xs i d) ∙ length-set xs i (get_or xs j d)

-- One game more, which goes.
pub moved_goes : {T : Type 0} (to : List (Option ℕ)) (old now after : List T) (i kept kept' : ℕ) → Moved to old now i kept → i < length now → length to ≡ length old
    → is_some (get_or to i None) ≡ false → after ≡ now → kept' ≡ kept → Moved to old after (i + 1) kept'
moved_goes {T = T} to old now after i kept kept' so lt same goes is kept_is =
    let d = element now i lt in
    let next : renumbered (take (i + 1) to) old ≡ renumbered (take i to) old =
    renumbered-next to old i d (omega (arith, lt, same, so.len)) same ∙ ap (λ (l : List T). renumbered (take i to) old ++ l) (none (get_or to i None) (get_or old i d) goes)
    ∙ append-nil (renumbered (take i to) old) in
    rw (is, kept_is) (record {
      front = so.front ∙ sym next;
      size = so.size ∙ ap (λ (l : List T). length l) (sym next);
      back = rest_there to old now i kept so;
      within = omega (arith, so.within);
      len = so.len;
    })
  where
    none : (number : Option ℕ) (x : T) → is_some number ≡ false → staying number x ≡ []
    none None x e = refl
    none (Some number) x e = absurd (cc)

one-stays : {T : Type 0} (number : Option ℕ) (x : T) → is_some number ≡ true → staying number x ≡ x ∷ []
one-stays None x e = absurd (cc)
one-stays (Some number) x e = refl

-- One game more, which stays.
pub moved_stays : {T : Type 0} (to : List (Option ℕ)) (old now after : List T) (i kept kept' : ℕ) → Moved to old now i kept → i < length now → length to ≡ length old
    → is_some (get_or to i None) ≡ true → after ≡ swap now kept i → kept' ≡ kept + 1 → Moved to old after (i + 1) kept'
moved_stays {T = T} to old now after i kept kept' so lt same stays is kept_is =
    let d = element now i lt in
    let next : renumbered (take (i + 1) to) old ≡ renumbered (take i to) old ++ get_or old i d ∷ [] =
    renumbered-next to old i d (omega (arith, lt, same, so.len)) same ∙ ap (λ (l : List T). renumbered (take i to) old ++ l) (one-stays (get_or to i None) (get_or old i d) stays) in
    rw (is, kept_is) (record {
      front =
          swap-front now kept i d so.within lt ∙ ap (λ (l : List T). l ++ get_or now i d ∷ []) so.front
          ∙ ap (λ (x : T). renumbered (take i to) old ++ x ∷ []) (entry_there to old now i kept d so) ∙ sym next;
      size = omega (arith, so.size, ap (λ (l : List T). length l) next, length_push (renumbered (take i to) old) (get_or old i d));
      back = swap-back now kept i d so.within lt ∙ rest_there to old now i kept so;
      within = omega (arith, so.within);
      len = swap-length now kept i d (omega (arith, so.within, lt)) lt ∙ so.len;
    })

-- The same where the entry is written to the front.
pub moved_set : (to old now after : List (Option ℕ)) (i kept kept' : ℕ) (entry : Option ℕ) → Moved to old now i kept → i < length now → length to ≡ length old
    → is_some (get_or to i None) ≡ true → slice_get now i ≡ Some entry → after ≡ set now kept entry → kept' ≡ kept + 1 → Moved to old after (i + 1) kept'
moved_set to old now after i kept kept' entry so lt same stays read is kept_is =
    let next : renumbered (take (i + 1) to) old ≡ renumbered (take i to) old ++ get_or old i None ∷ [] =
    renumbered-next to old i None (omega (arith, lt, same, so.len)) same
    ∙ ap (λ (l : List (Option ℕ)). renumbered (take i to) old ++ l) (one-stays (get_or to i None) (get_or old i None) stays) in
    let here : entry ≡ get_or old i None = sym (get_or_from_slice_get now i entry None read) ∙ entry_there to old now i kept None so in
    rw (is, kept_is) (record {
      front =
          take_more_set now kept entry (omega (arith, so.within, lt)) ∙ ap (λ (l : List (Option ℕ)). l ++ entry ∷ []) so.front
          ∙ ap (λ (x : Option ℕ). renumbered (take i to) old ++ x ∷ []) here ∙ sym next;
      size = omega (arith, so.size, ap (λ (l : List (Option ℕ)). length l) next, length_push (renumbered (take i to) old) (get_or old i None));
      back = drop-set-lt (i + 1) now kept entry (omega (arith, so.within)) ∙ rest_there to old now i kept so;
      within = omega (arith, so.within);
      len = length-set now kept entry ∙ so.len;
    })

-- No game is left.
pub moved_all : {T : Type 0} (to : List (Option ℕ)) (old now : List T) (i kept : ℕ) → Moved to old now i kept → i ≡ length old → length to ≡ length old
    → take (length (renumbered to old)) now ≡ renumbered to old
moved_all {T = T} to old now i kept so end same =
    let all : renumbered (take i to) old ≡ renumbered to old = ap (λ (l : List (Option ℕ)). renumbered l old) (take_all i to (omega (arith, end, same))) in
    let size : length (renumbered to old) ≡ kept = sym (so.size ∙ ap (λ (l : List T). length l) all) in
    ap (λ (n : ℕ). take n now) size ∙ so.front ∙ all

-- As many games stay as have a new number.
pub length-renumbered : {T : Type 0} (next kept : ℕ) (to : List (Option ℕ)) (plies : List T) → Rises next to kept → length to ≡ length plies
    → next + length (renumbered to plies) ≡ kept
length-renumbered next kept [] plies rises same = omega (arith, rises)
length-renumbered next kept (number ∷ to) [] rises same = absurd (omega (arith, same))
length-renumbered next kept (None ∷ to) (x ∷ xs) rises same = length-renumbered next kept to xs rises (omega (arith, same))
length-renumbered next kept (Some number ∷ to) (x ∷ xs) rises same =
    omega (arith, length-renumbered (next + 1) kept to xs rises.1 (omega (arith, same)))

-- No more games stay than there are.
pub length-renumbered-le : {T : Type 0} (to : List (Option ℕ)) (xs : List T) → length (renumbered to xs) ≤ length xs
length-renumbered-le [] xs = omega arith
length-renumbered-le (number ∷ to) [] = omega arith
length-renumbered-le (None ∷ to) (x ∷ xs) = omega (arith, length-renumbered-le to xs)
length-renumbered-le (Some number ∷ to) (x ∷ xs) = omega (arith, length-renumbered-le to xs)

pub fewer-renumbered : {T : Type 0} (to : List (Option ℕ)) (old new : List T) (n : ℕ) → new ≡ renumbered to old → length old < n → length new < n
fewer-renumbered {T = T} to old new n is few = omega (arith, ap (λ (l : List T). length l) is, length-renumbered-le to old, few)

-- What was moved to the front, without what is behind it.
pub cut_moved : {T : Type 0} (kept : ℕ) (to : List (Option ℕ)) (old now new : List T) → Rises 0 to kept → length to ≡ length old
    → take (length (renumbered to old)) now ≡ renumbered to old → new ≡ take kept now → new ≡ renumbered to old
cut_moved kept to old now new rises same front cut =
    let size : kept ≡ length (renumbered to old) = omega (arith, length-renumbered 0 kept to old rises same) in
    cut ∙ ap (λ (n : ℕ). take n now) size ∙ front

-- The front of a list that was written back over the whole of an old one.
pub front_written : {T : Type 0} (new old all : List T) (len kept k : ℕ) → len ≡ length new → k ≡ kept
    → all ≡ take k (take len (new ++ drop (length new) old)) → all ≡ take kept new
front_written {T = T} new old all len kept k long same is =
    is ∙ ap (λ (l : List T). take k l) (ap (λ (n : ℕ). take n (new ++ drop (length new) old)) long ∙ take-append_seam new (drop (length new) old))
    ∙ ap (λ (n : ℕ). take n new) same

pub cut_length : {T : Type 0} (kept : ℕ) (to : List (Option ℕ)) (old new : List T) → Rises 0 to kept → length to ≡ length old → new ≡ renumbered to old → length new ≡ kept
cut_length {T = T} kept to old new rises same is =
    omega (arith, length-renumbered 0 kept to old rises same, ap (λ (l : List T). length l) is)

-- The entry of a game that stays has the game's new number.
pub entry-renumbered : {T : Type 0} (next kept : ℕ) (to : List (Option ℕ)) (plies : List T) (i number : ℕ) → Rises next to kept → length to ≡ length plies
    → slice_get to i ≡ Some (Some number) → (k : ℕ) × (number ≡ next + k) × (slice_get (renumbered to plies) k ≡ slice_get plies i)
entry-renumbered next kept [] plies zero number rises same here = absurd (cc)
entry-renumbered next kept [] plies (suc i) number rises same here = absurd (cc)
entry-renumbered next kept (other ∷ to) [] i number rises same here = absurd (omega (arith, same))
entry-renumbered next kept (None ∷ to) (x ∷ xs) zero number rises same here = absurd (cc)
entry-renumbered next kept (Some other ∷ to) (x ∷ xs) zero number rises same here =
    let is : other ≡ number = cc in (0, omega (arith, is, rises.0), refl)
entry-renumbered next kept (None ∷ to) (x ∷ xs) (suc i) number rises same here =
    entry-renumbered next kept to xs i number rises (omega (arith, same)) here
entry-renumbered next kept (Some other ∷ to) (x ∷ xs) (suc i) number rises same here =
    let rest = entry-renumbered (next + 1) kept to xs i number rises.1 (omega (arith, same)) here in
    (suc rest.0, omega (arith, rest.1), rest.2)

-- The numbers of all games rise from 0 on.
pub entry_at_number : {T : Type 0} (kept : ℕ) (to : List (Option ℕ)) (plies new : List T) (i number : ℕ) → Rises 0 to kept → length to ≡ length plies
    → new ≡ renumbered to plies → slice_get to i ≡ Some (Some number) → slice_get new number ≡ slice_get plies i
entry_at_number {T = T} kept to plies new i number rises same moved here =
    let found = entry-renumbered 0 kept to plies i number rises same here in
    let is : number ≡ found.0 = omega (arith, found.1) in
    ap (λ (l : List T). slice_get l number) moved ∙ ap (λ (k : ℕ). slice_get (renumbered to plies) k) is ∙ found.2

-- One game more stays or goes.
pub rises_stays : (next kept : ℕ) (to : List (Option ℕ)) → Rises next to kept → Rises next (to ++ Some kept ∷ []) (kept + 1)
rises_stays next kept [] rises = (rises, ap (λ (n : ℕ). n + 1) rises)
rises_stays next kept (None ∷ to) rises = rises_stays next kept to rises
rises_stays next kept (Some number ∷ to) rises = (rises.0, rises_stays (next + 1) kept to rises.1)

pub rises_goes : (next kept : ℕ) (to : List (Option ℕ)) → Rises next to kept → Rises next (to ++ None ∷ []) kept
rises_goes next kept [] rises = rises
rises_goes next kept (None ∷ to) rises = rises_goes next kept to rises
rises_goes next kept (Some number ∷ to) rises = (rises.0, rises_goes (next + 1) kept to rises.1)
