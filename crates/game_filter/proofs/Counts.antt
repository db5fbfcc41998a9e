-- How many games are in, after each change of a filter.
use Rattle.std.proofs.Common.{◌≡◌, ℕ, ◌+◌, ◌-◌, ◌<◌, ◌≤◌, List, [], ◌∷◌, Option, Some, None, cond, is_some, length, get_or, set, take, refl, sym, arith, ap, ◌∙◌}
use Rattle.std.proofs.lemmas.List.{length-set, set-get_or, take_more_set}
use Rattle.std.proofs.lemmas.List.Folds.{sum_by-replicate}
use Rattle.std.proofs.lemmas.List.Sums.{count_by-le-length, sum_by-cons, sum_by-set, sum_by_push}
use Rattle.game_filter.specs.Filter.{count_in, all_in, all_out, negated}

-- What one entry counts.
abbrev pub counted : Option ℕ → ℕ
counted ply = cond (is_some ply) 1 0

-- The count and the old entry's part are the old count and the new entry's part.
pub count_in-set : (plies : List (Option ℕ)) (i : ℕ) (ply : Option ℕ) → i < length plies
    → count_in (set plies i ply) + counted (get_or plies i None) ≡ count_in plies + counted ply
count_in-set plies i ply within = sum_by-set counted plies i ply None within

-- A filter has at least as many games as are in.
pub count_in-le-length : (plies : List (Option ℕ)) → count_in plies ≤ length plies
count_in-le-length plies = count_by-le-length is_some plies

-- A `set` leaves no more games in than there are.
pub count_in-set_fits : (plies : List (Option ℕ)) (i : ℕ) (ply : Option ℕ) → i < length plies
    → count_in plies + counted ply ≤ length plies + counted (get_or plies i None)
count_in-set_fits plies i ply within =
    omega (arith, count_in-set plies i ply within, count_in-le-length (set plies i ply), length-set plies i ply)

-- A loop's step.
pub count_in_more : (plies : List (Option ℕ)) (i : ℕ) (ply : Option ℕ) → i < length plies
    → count_in (take (i + 1) (set plies i ply)) ≡ count_in (take i plies) + counted ply
count_in_more plies i ply within = ap count_in (take_more_set plies i ply within) ∙ sum_by_push counted (take i plies) ply

pub count_in_next : (plies : List (Option ℕ)) (i : ℕ) → i < length plies → count_in (take (i + 1) plies) ≡ count_in (take i plies) + counted (get_or plies i None)
count_in_next plies i within =
    ap (λ (l : List (Option ℕ)). count_in (take (i + 1) l)) (sym (set-get_or plies i None)) ∙ count_in_more plies i (get_or plies i None) within

-- The count is kept where an entry is set.
pub recounted : (plies : List (Option ℕ)) (i count before now : ℕ) (ply : Option ℕ) → i < length plies → count ≡ count_in plies
    → before ≡ counted (get_or plies i None) → now ≡ counted ply
    → (before ≤ count) × (count - before + now ≤ length plies) × (count - before + now ≡ count_in (set plies i ply))
recounted plies i count before now ply within is was becomes =
    let without = count_in-set plies i None within in
    let with_it = count_in-set plies i ply within in
    let fits = count_in-set_fits plies i ply within in
    (omega (arith, without, is, was, becomes), omega (arith, without, fits, is, was, becomes), omega (arith, without, with_it, is, was, becomes))

pub count_in-all_in : (n : ℕ) → count_in (all_in n) ≡ n
count_in-all_in n = omega (arith, sum_by-replicate counted n (Some 0))

pub count_in-all_out : (n : ℕ) → count_in (all_out n) ≡ 0
count_in-all_out n = omega (arith, sum_by-replicate counted n None)

-- A game is in before or afterwards.
pub count_in-negated : (plies : List (Option ℕ)) → count_in (negated plies) + count_in plies ≡ length plies
count_in-negated [] = refl
count_in-negated (Some p ∷ plies) =
    omega (arith, count_in-negated plies, sum_by-cons counted None (negated plies), sum_by-cons counted (Some p) plies)
count_in-negated (None ∷ plies) =
    omega (arith, count_in-negated plies, sum_by-cons counted (Some 0) (negated plies), sum_by-cons counted None plies)

-- After a `negate` the games that were out are in.
pub negated_count : (before after : List (Option ℕ)) (games count : ℕ)
    → after ≡ negated before → games ≡ length before → count ≡ count_in before → games - count ≡ count_in after
negated_count before after games count turns all in_before =
    rw turns (omega (arith, count_in-negated before))
