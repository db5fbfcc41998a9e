-- What a search of games asks of the games file, and how it ends early (this project's own).
use Rattle.std.specs.Prelude.{◌≡◌, ℕ, ◌+◌, ◌<◌, ◌≤◌, Bool, false, None, List, [], ◌∷◌, Option, length, slice_index_or}
use Rattle.base_files.specs.declared.extent.Extent.{Extent}
use Rattle.sig_index.specs.declared.games.FetchError.{FetchError}
use Rattle.sig_index.specs.Games.{Names}

-- The bytes that all games cost, by what each costs: by what is known of it, as its signature, by its extent and its entry in a filter.
abbrev pub price_by : {T : Type 0} → (T → Extent → Option ℕ → ℕ) → List T → List Extent → List (Option ℕ) → ℕ
price_by cost [] extents plies = 0
price_by cost (known ∷ games) [] plies = 0
price_by cost (known ∷ games) (extent ∷ extents) [] = 0
price_by cost (known ∷ games) (extent ∷ extents) (old ∷ plies) = cost known extent old + price_by cost games extents plies

-- The search ended at a game that there is, which the error names if it names one: the games from this one on have their old entries.
pub record LeavesRest (error : FetchError) (old new : List (Option ℕ)) : Type 0 where
  pub game : ℕ
  pub named : Names error game
  pub below : game < length new
  pub rest : (k : ℕ) → game ≤ k → slice_index_or new k None ≡ slice_index_or old k None

-- And the filter is what it is after a search of the games before it.
pub record EndsAt (error : FetchError) (after : ℕ → List (Option ℕ)) (old new : List (Option ℕ)) : Type 0 where
  pub game : ℕ
  pub named : Names error game
  pub below : game < length new
  pub before : new ≡ after game
  pub rest : (k : ℕ) → game ≤ k → slice_index_or new k None ≡ slice_index_or old k None

-- Each game at whose entry the search does not look keeps that.
abbrev pub KeepsOthers : (Option ℕ → Bool) → List (Option ℕ) → List (Option ℕ) → Type 0
KeepsOthers looks old new = (k : ℕ) → looks (slice_index_or old k None) ≡ false → slice_index_or new k None ≡ slice_index_or old k None
