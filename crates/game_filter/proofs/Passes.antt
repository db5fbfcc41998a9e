-- A pass over a filter that has come to game n: the games below n are changed, the others are not yet.
use Rattle.std.proofs.Common.{◌≡◌, ℕ, ◌+◌, ◌<◌, suc, zero, List, [], ◌∷◌, Option, Some, None, length, get_or, map, set, slice_get, refl, ap, arith, add-one}
use Rattle.std.specs.List.{enumerate_from}
use Rattle.std.proofs.lemmas.Option.{get_or_from_slice_get}
use Rattle.game_filter.specs.Filter.{joined, entry_within}

abbrev pub joined_below : (Option ℕ → Option ℕ → Option ℕ) → ℕ → List (Option ℕ) → List (Option ℕ) → List (Option ℕ)
joined_below join zero owns others = owns
joined_below join (suc n) [] others = []
joined_below join (suc n) (own ∷ owns) [] = own ∷ owns
joined_below join (suc n) (own ∷ owns) (other ∷ others) = join own other ∷ joined_below join n owns others

-- The entry of game n is the old one.
pub get_or-joined_below : (join : Option ℕ → Option ℕ → Option ℕ) (n : ℕ) (owns others : List (Option ℕ)) (d : Option ℕ)
    → get_or (joined_below join n owns others) n d ≡ get_or owns n d
get_or-joined_below join zero owns others d = refl
get_or-joined_below join (suc n) [] others d = refl
get_or-joined_below join (suc n) (own ∷ owns) [] d = refl
get_or-joined_below join (suc n) (own ∷ owns) (other ∷ others) d = get_or-joined_below join n owns others d

-- One more game.
pub joined_below_more : (join : Option ℕ → Option ℕ → Option ℕ) (n : ℕ) (owns others : List (Option ℕ)) (d e : Option ℕ)
    → n < length owns → n < length others
    → set (joined_below join n owns others) n (join (get_or owns n d) (get_or others n e)) ≡ joined_below join (suc n) owns others
joined_below_more join n [] others d e within there = absurd (omega arith)
joined_below_more join n (own ∷ owns) [] d e within there = absurd (omega arith)
joined_below_more join zero (own ∷ owns) (other ∷ others) d e within there = refl
joined_below_more join (suc n) (own ∷ owns) (other ∷ others) d e within there =
    ap (λ rest. join own other ∷ rest) (joined_below_more join n owns others d e (omega arith) (omega arith))

-- Every game.
pub joined_below_all : (join : Option ℕ → Option ℕ → Option ℕ) (owns others : List (Option ℕ))
    → length owns ≡ length others → joined_below join (length owns) owns others ≡ joined join owns others
joined_below_all join [] others same = refl
joined_below_all join (own ∷ owns) [] same = absurd (omega arith)
joined_below_all join (own ∷ owns) (other ∷ others) same = ap (λ rest. join own other ∷ rest) (joined_below_all join owns others (omega arith))

-- A loop's step, from the entries as they are now.
pub joined_step : (join : Option ℕ → Option ℕ → Option ℕ) (n : ℕ) (owns others now : List (Option ℕ)) (ply : Option ℕ)
    → n < length owns → n < length others → now ≡ joined_below join n owns others
    → ply ≡ join (get_or now n None) (get_or others n None) → set now n ply ≡ joined_below join (n + 1) owns others
joined_step join n owns others now ply within there is read =
    rw (read, is, get_or-joined_below, add-one) (joined_below_more join n owns others None None within there)

-- `restrict`, over games that are numbered from i on, at the nth of them.
abbrev pub restricted_below : ℕ → ℕ → ℕ → ℕ → List (Option ℕ) → List (Option ℕ)
restricted_below zero i first last plies = plies
restricted_below (suc n) i first last [] = []
restricted_below (suc n) i first last (ply ∷ plies) = entry_within first last i ply ∷ restricted_below n (i + 1) first last plies

-- The entry of game n is the old one.
pub get_or-restricted_below : (n i first last : ℕ) (plies : List (Option ℕ)) (d : Option ℕ)
    → get_or (restricted_below n i first last plies) n d ≡ get_or plies n d
get_or-restricted_below zero i first last plies d = refl
get_or-restricted_below (suc n) i first last [] d = refl
get_or-restricted_below (suc n) i first last (ply ∷ plies) d = get_or-restricted_below n (i + 1) first last plies d

-- One more game.
pub restricted_below_more : (n i k first last : ℕ) (plies : List (Option ℕ)) (d : Option ℕ)
    → n < length plies → k ≡ i + n
    → set (restricted_below n i first last plies) n (entry_within first last k (get_or plies n d)) ≡ restricted_below (suc n) i first last plies
restricted_below_more n i k first last [] d within at = absurd (omega arith)
restricted_below_more zero i k first last (ply ∷ plies) d within at =
    let here : k ≡ i = omega arith in ap (λ j. entry_within first last j ply ∷ plies) here
restricted_below_more (suc n) i k first last (ply ∷ plies) d within at =
    ap (λ rest. entry_within first last i ply ∷ rest) (restricted_below_more n (i + 1) k first last plies d (omega arith) (omega arith))

-- The entries of the games from number i on, restricted.
abbrev pub restricted_from : ℕ → ℕ → ℕ → List (Option ℕ) → List (Option ℕ)
restricted_from i first last plies = map (λ (game : ℕ × Option ℕ). entry_within first last game.0 game.1) (enumerate_from i plies)

-- Every game.
pub restricted_below_all : (i first last : ℕ) (plies : List (Option ℕ))
    → restricted_below (length plies) i first last plies ≡ restricted_from i first last plies
restricted_below_all i first last [] = refl
restricted_below_all i first last (ply ∷ plies) = ap (λ rest. entry_within first last i ply ∷ rest) (restricted_below_all (i + 1) first last plies)

-- A loop's step, from the entries as they are now.
pub restricted_step : (n first last : ℕ) (plies now : List (Option ℕ)) (ply : Option ℕ)
    → n < length plies → now ≡ restricted_below n 0 first last plies
    → ply ≡ entry_within first last n (get_or now n None) → set now n ply ≡ restricted_below (n + 1) 0 first last plies
restricted_step n first last plies now ply within is read =
    rw (read, is, get_or-restricted_below, add-one) (restricted_below_more n 0 n first last plies None within (omega arith))

-- The same for a loop over a `Filter`, whose `get` gave the old entry: a search's step.
pub joined_step_at : (join : Option ℕ → Option ℕ → Option ℕ) (n : ℕ) (owns others now : List (Option ℕ)) (old first : Option ℕ)
    → n < length owns → n < length others → now ≡ joined_below join n owns others
    → slice_get now n ≡ Some old → slice_get others n ≡ Some first → set now n (join old first) ≡ joined_below join (n + 1) owns others
joined_step_at join n owns others now old first within there is own other =
    let read : join old first ≡ join (get_or now n None) (get_or others n None) =
    rw (get_or_from_slice_get now n old None own, get_or_from_slice_get others n first None other) refl in
    joined_step join n owns others now (join old first) within there is read

pub restricted_step_at : (n first last : ℕ) (plies now : List (Option ℕ)) (old : Option ℕ)
    → n < length plies → now ≡ restricted_below n 0 first last plies
    → slice_get now n ≡ Some old → set now n (entry_within first last n old) ≡ restricted_below (n + 1) 0 first last plies
restricted_step_at n first last plies now old within is own =
    let read : entry_within first last n old ≡ entry_within first last n (get_or now n None) =
    rw (get_or_from_slice_get now n old None own) refl in
    restricted_step n first last plies now (entry_within first last n old) within is read
