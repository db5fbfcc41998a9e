-- The places of the first games, with one more.
use Rattle.std.proofs.Common.{◌≡◌, ◌≤◌, ◌+◌, ◌-◌, ℕ, zero, suc, List, [], ◌∷◌, ◌++◌, length, is_some, if◌then◌else◌, Option, None, Some, Ok, Err, refl, sym, ap, ◌∙◌, subst, arith, append_assoc, append-nil, add-one, add-zero, zero-add, suc-add}
use Rattle.std.proofs.lemmas.List.{length_push}
use Rattle.index_entry.specs.Index.{entry_bytes}
use Rattle.name_base.specs.PartNames.{PartLists}
use Rattle.base_core.specs.Base.{Held}
use Rattle.base_core.specs.declared.fault.BaseFault.{BaseFault}
use Rattle.mend_base.specs.Notes.{Began, notes_from, notes_of_place, with_notes}
use Rattle.mend_base.specs.Places.{Found, Place, changed_of, games_of, place_of, places_of}
use Rattle.mend_base.specs.declared.ways.Way.{Way}
use Rattle.mend_base.specs.declared.report.Note.{Note}
use Rattle.mend_base.proofs.NoteLaws.{began-front, began-all, more-notes}

-- ---- places behind one another.

games_push : (places : List Place) (found : Found) → games_of (places ++ Ok found ∷ []) ≡ games_of places ++ found.held ∷ []
games_push [] found = refl
games_push (Ok f ∷ places) found = ap (λ gs. f.held ∷ gs) (games_push places found)
games_push (Err fault ∷ places) found = games_push places found

games_same : (places : List Place) (fault : BaseFault) → games_of (places ++ Err fault ∷ []) ≡ games_of places
games_same [] fault = refl
games_same (Ok f ∷ places) fault = ap (λ gs. f.held ∷ gs) (games_same places fault)
games_same (Err other ∷ places) fault = games_same places fault

changed_push : (places : List Place) (found : Found) → changed_of (places ++ Ok found ∷ []) ≡ changed_of places + (if is_some found.change then 1 else 0)
changed_push [] found = add-zero (if is_some found.change then 1 else 0) ∙ sym (zero-add (if is_some found.change then 1 else 0))
changed_push (Ok f ∷ places) found = omega (arith, changed_push places found)
changed_push (Err fault ∷ places) found = changed_push places found

changed_same : (places : List Place) (fault : BaseFault) → changed_of (places ++ Err fault ∷ []) ≡ changed_of places
changed_same [] fault = refl
changed_same (Ok f ∷ places) fault = ap (λ n. (if is_some f.change then 1 else 0) + n) (changed_same places fault)
changed_same (Err other ∷ places) fault = changed_same places fault

notes_push : (game : ℕ) (places : List Place) (place : Place) → notes_from game (places ++ place ∷ []) ≡ notes_from game places ++ notes_of_place (game + length places) place
notes_push game [] place = append-nil (notes_of_place game place) ∙ ap (λ n. notes_of_place n place) (omega arith)
notes_push game (p ∷ places) place =
    ap (λ ns. notes_of_place game p ++ ns) (notes_push (game + 1) places place)
    ∙ (sym (append_assoc (notes_of_place game p) (notes_from (game + 1) places) (notes_of_place (game + 1 + length places) place))
    ∙ ap (λ n. (notes_of_place game p ++ notes_from (game + 1) places) ++ notes_of_place n place) (omega arith))

-- ---- the places of the first games.

module _ (way : Way) (index : List ℕ) (names : PartLists) (games : List ℕ) where
  abbrev here : ℕ → Place
  here n = place_of way names games n (entry_bytes index n)

  pub places-long : (n : ℕ) → length (places_of way index names games n) ≡ n
  places-long zero = refl
  places-long (suc n) = length_push (places_of way index names games n) (here n) ∙ (ap (λ k. k + 1) (places-long n) ∙ add-one n)

  places-next : (n : ℕ) → places_of way index names games (n + 1) ≡ places_of way index names games n ++ here n ∷ []
  places-next n = ap (places_of way index names games) (add-one n)

  next_is : (n : ℕ) (place : Place) → here n ≡ place → places_of way index names games (n + 1) ≡ places_of way index names games n ++ place ∷ []
  next_is n place is = places-next n ∙ ap (λ (p : Place). places_of way index names games n ++ p ∷ []) is

  -- A game that comes over.
  pub games-more : (n : ℕ) (found : Found) → here n ≡ Ok found → games_of (places_of way index names games (n + 1)) ≡ games_of (places_of way index names games n) ++ found.held ∷ []
  games-more n found is = ap games_of (next_is n (Ok found) is) ∙ games_push (places_of way index names games n) found

  pub changed-more : (n : ℕ) (found : Found) → here n ≡ Ok found → changed_of (places_of way index names games (n + 1)) ≡ changed_of (places_of way index names games n) + (if is_some found.change then 1 else 0)
  changed-more n found is = ap changed_of (next_is n (Ok found) is) ∙ changed_push (places_of way index names games n) found

  -- One that does not.
  pub games-same : (n : ℕ) (fault : BaseFault) → here n ≡ Err fault → games_of (places_of way index names games (n + 1)) ≡ games_of (places_of way index names games n)
  games-same n fault is = ap games_of (next_is n (Err fault) is) ∙ games_same (places_of way index names games n) fault

  pub changed-same : (n : ℕ) (fault : BaseFault) → here n ≡ Err fault → changed_of (places_of way index names games (n + 1)) ≡ changed_of (places_of way index names games n)
  changed-same n fault is = ap changed_of (next_is n (Err fault) is) ∙ changed_same (places_of way index names games n) fault

  -- What is told of it.
  pub notes-more : (n : ℕ) (place : Place) → here n ≡ place → notes_from 0 (places_of way index names games (n + 1)) ≡ notes_from 0 (places_of way index names games n) ++ notes_of_place n place
  notes-more n place is =
      let at : 0 + length (places_of way index names games n) ≡ n = omega (arith, places-long n) in
      ap (notes_from 0) (next_is n place is)
      ∙ (notes_push 0 (places_of way index names games n) place
      ∙ ap (λ k. notes_from 0 (places_of way index names games n) ++ notes_of_place k place) at)

  pub told-more : (before told now : Option (List Note)) (n : ℕ) (place : Place) → here n ≡ place → told ≡ with_notes before (notes_from 0 (places_of way index names games n)) → now ≡ with_notes told (notes_of_place n place) →
      now ≡ with_notes before (notes_from 0 (places_of way index names games (n + 1)))
  told-more before told now n place is told_is now_is =
      now_is
      ∙ (ap (λ t. with_notes t (notes_of_place n place)) told_is
      ∙ (more-notes before (notes_from 0 (places_of way index names games n)) (notes_of_place n place)
      ∙ ap (λ ns. with_notes before ns) (sym (notes-more n place is))))

  -- ---- the first of more games.

  notes_front : (n k : ℕ) → (rest : List Note) × (notes_from 0 (places_of way index names games n) ++ rest ≡ notes_from 0 (places_of way index names games (k + n)))
  notes_front n zero = ([], append-nil (notes_from 0 (places_of way index names games n)) ∙ ap (λ m. notes_from 0 (places_of way index names games m)) (sym (zero-add n)))
  notes_front n (suc k) =
      let front = notes_front n k in
      let more = notes_of_place (k + n) (here (k + n)) in
      let behind : k + n + 1 ≡ suc k + n = omega arith in (
        front.0 ++ more,
        sym (append_assoc (notes_from 0 (places_of way index names games n)) front.0 more)
            ∙ (ap (λ ns. ns ++ more) front.1
            ∙ (sym (notes-more (k + n) (here (k + n)) refl) ∙ ap (λ m. notes_from 0 (places_of way index names games m)) behind)),
      )

  one_front : (n m : ℕ) (place : Place) → here m ≡ place → (rest : List Held) × (games_of (places_of way index names games m) ≡ games_of (places_of way index names games n) ++ rest) →
      (rest : List Held) × (games_of (places_of way index names games (m + 1)) ≡ games_of (places_of way index names games n) ++ rest)
  one_front n m (Ok found) is front = (
    front.0 ++ found.held ∷ [],
    games-more m found is
        ∙ (ap (λ gs. gs ++ found.held ∷ []) front.1 ∙ append_assoc (games_of (places_of way index names games n)) front.0 (found.held ∷ [])),
  )
  one_front n m (Err fault) is front = (front.0, games-same m fault is ∙ front.1)

  games_front : (n k : ℕ) → (rest : List Held) × (games_of (places_of way index names games (k + n)) ≡ games_of (places_of way index names games n) ++ rest)
  games_front n zero = ([], ap (λ m. games_of (places_of way index names games m)) (zero-add n) ∙ sym (append-nil (games_of (places_of way index names games n))))
  games_front n (suc k) =
      let next = one_front n (k + n) (here (k + n)) refl (games_front n k) in
      let behind : suc k + n ≡ k + n + 1 = omega arith in
      (next.0, ap (λ m. games_of (places_of way index names games m)) behind ∙ next.1)

  -- What is told of the first games begins what is told of all.
  pub began-so-far : (n count : ℕ) (before now : Option (List Note)) → n ≤ count → now ≡ with_notes before (notes_from 0 (places_of way index names games n)) → Began (notes_from 0 (places_of way index names games count)) before now
  began-so-far n count before now few tells =
      let front = notes_front n (count - n) in
      let behind : count - n + n ≡ count = omega (arith, few) in
      let all : notes_from 0 (places_of way index names games n) ++ front.0 ≡ notes_from 0 (places_of way index names games count) = front.1 ∙ ap (λ m. notes_from 0 (places_of way index names games m)) behind in
      let B : List Note → Type 0 = λ ns. Began ns before now in
      subst B all (began-front (notes_from 0 (places_of way index names games n)) front.0 before now (began-all (notes_from 0 (places_of way index names games n)) before now tells))

  -- The games that come over of the first are the first that come over.
  pub games-first : (n count : ℕ) → n ≤ count → (rest : List Held) × (games_of (places_of way index names games count) ≡ games_of (places_of way index names games n) ++ rest)
  games-first n count few =
      let front = games_front n (count - n) in
      let behind : count ≡ count - n + n = omega (arith, few) in
      (front.0, ap (λ m. games_of (places_of way index names games m)) behind ∙ front.1)
