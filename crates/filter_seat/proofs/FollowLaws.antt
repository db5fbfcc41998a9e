-- Laws of filters as they follow what moved.
use Rattle.std.proofs.Common.{◌≡◌, ◌≤◌, ◌<◌, ◌+◌, ◌-◌, ℕ, zero, suc, List, [], ◌∷◌, ◌++◌, Option, Some, None, Result, Ok, Err, All, OnOk, length, map, take, drop, get_or, replicate, refl, sym, ap, subst, ◌∙◌, arith}
use Rattle.std.proofs.lemmas.List.{length-append, length-map, length-replicate}
use Rattle.std.proofs.lemmas.List.Elements.{All-map}
use Rattle.game_filter.proofs.Renumberings.{length-renumbered}
use Rattle.game_filter.specs.Renumbering.{Numbering}
use Rattle.filter_seat.specs.Following.{CanFollow, Moving, Rising, filter_after, games_after, seat_after}
use Rattle.filter_seat.specs.SavedFilters.{kept_with, to_start}
use Rattle.filter_seat.specs.Seats.{FitsGames, Seat}
use Rattle.filter_seat.specs.declared.saved.SavedFilter.{SavedFilter}
use Rattle.filter_seat.proofs.SavedLaws.{length_to_start}

-- A filter that is kept with so many games.
abbrev pub kept_longer : ℕ → SavedFilter → SavedFilter
kept_longer games = kept_with (λ (plies : List (Option ℕ)). plies ++ replicate (games - length plies) None)

-- Nothing moved.
pub saved_same : (saved : List SavedFilter) → map (kept_with (λ (plies : List (Option ℕ)). plies)) saved ≡ saved
saved_same [] = refl
saved_same (kept ∷ saved) = ap (λ (l : List SavedFilter). kept ∷ l) (saved_same saved)

pub seat_same : (seat : Seat) → seat_after Moving.nothing seat ≡ seat
seat_same seat = ap (λ (l : List SavedFilter). record { filter = seat.filter; saved = l }) (saved_same seat.saved)

-- ---- lengths

pub longer : (entry : Option ℕ) (games : ℕ) (plies : List (Option ℕ)) → length plies ≤ games → length (plies ++ replicate (games - length plies) entry) ≡ games
longer entry games plies few = omega (arith, few, length-append plies (replicate (games - length plies) entry), length-replicate {A = Option ℕ} (games - length plies) entry)

pub length_after : (entry : Option ℕ) (moving : Moving) (plies : List (Option ℕ)) (games : ℕ) → length plies ≡ games → CanFollow moving games → Rising moving → length (filter_after entry moving plies) ≡ games_after moving games
length_after entry Moving.nothing plies games long follows rises = long
length_after entry (Moving.added later) plies games long follows rises = longer entry later plies (omega (arith, long, follows))
length_after entry (Moving.started game) plies games long follows rises = length_to_start game plies ∙ long
length_after entry (Moving.numbered numbering) plies games long follows rises = omega (arith, length-renumbered 0 numbering.kept numbering.to plies rises (follows ∙ sym long))

-- Each filter of a seat has an entry for each game then.
pub fits_after : (entry : Option ℕ) (moving : Moving) (old new : Seat) (games : ℕ) → FitsGames old games → CanFollow moving games → Rising moving → new.filter ≡ filter_after entry moving old.filter
    → new.saved ≡ map (kept_with (filter_after None moving)) old.saved → FitsGames new (games_after moving games)
fits_after entry moving old new games fits follows rises filter saved = record {
  filter = ap (λ (l : List (Option ℕ)). length l) filter ∙ length_after entry moving old.filter games fits.filter follows rises;
  saved = subst (λ (l : List SavedFilter). All (λ (kept : SavedFilter). length kept.plies ≡ games_after moving games) l) (sym saved)
      (All-map (λ (kept : SavedFilter). length kept.plies ≡ games_after moving games) (kept_with (filter_after None moving)) old.saved
      (λ k d within. length_after None moving (get_or old.saved k d).plies games (fits.saved k d within) follows rises));
}

pub fits_if : {A E : Type 0} (r : Result A E) (entry : Option ℕ) (moving : Moving) (old new : Seat) (games : ℕ) → FitsGames old games → CanFollow moving games → Rising moving → OnOk r (new.filter ≡ filter_after entry moving old.filter)
    → OnOk r (new.saved ≡ map (kept_with (filter_after None moving)) old.saved) → OnOk r (FitsGames new (games_after moving games))
fits_if (Ok x) entry moving old new games fits follows rises filter saved = fits_after entry moving old new games fits follows rises filter saved
fits_if (Err e) entry moving old new games fits follows rises filter saved = tt
