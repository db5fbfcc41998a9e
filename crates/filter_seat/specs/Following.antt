-- What a change of the games of a base makes of the filters over them. This project's own.
use Rattle.std.specs.Prelude.{◌≡◌, ℕ, ◌-◌, ◌<◌, ◌≤◌, ⊤, List, ◌++◌, Option, None, length, replicate}
use Rattle.game_filter.specs.Renumbering.{Numbering, Rises, renumbered}
use Rattle.filter_seat.specs.SavedFilters.{to_start}
use Rattle.filter_seat.specs.Seats.{Seat, each_filter}
use Rattle.filter_seat.specs.declared.following.Moved.{Moved}
use Rattle.filter_seat.specs.declared.following.Moved.TheVariants as moved

-- What moved: nothing; games came, and there are so many now; a game starts anew; or the games that stay have new numbers.
pub data Moving : Type 0 where
  nothing : Moving
  added : ℕ → Moving
  started : ℕ → Moving
  numbered : Numbering → Moving

-- A filter after that. Games that came have this entry, a game that starts anew is in at ply 0 if it is in, and the entries of the games that
-- stay move with them.
abbrev pub filter_after : Option ℕ → Moving → List (Option ℕ) → List (Option ℕ)
filter_after entry Moving.nothing plies = plies
filter_after entry (Moving.added games) plies = plies ++ replicate (games - length plies) entry
filter_after entry (Moving.started game) plies = to_start game plies
filter_after entry (Moving.numbered numbering) plies = renumbered numbering.to plies

-- The seat of another user after it: games that came are out of each of its filters.
abbrev pub seat_after : Moving → Seat → Seat
seat_after moving = each_filter (filter_after None moving)

-- Filters over so many games can follow it.
abbrev pub CanFollow : Moving → ℕ → Type 0
CanFollow Moving.nothing games = ⊤
CanFollow (Moving.added later) games = games ≤ later
CanFollow (Moving.started game) games = game < games
CanFollow (Moving.numbered numbering) games = length numbering.to ≡ games

-- New numbers rise.
abbrev pub Rising : Moving → Type 0
Rising (Moving.numbered numbering) = Rises 0 numbering.to numbering.kept
Rising _ = ⊤

-- How many games there are after it.
abbrev pub games_after : Moving → ℕ → ℕ
games_after Moving.nothing games = games
games_after (Moving.added later) games = later
games_after (Moving.started game) games = games
games_after (Moving.numbered numbering) games = numbering.kept

-- What the code tells.
abbrev pub told_by : Moved → Moving
told_by moved.Nothing = Moving.nothing
told_by (moved.Added games) = Moving.added games
told_by (moved.Started game) = Moving.started game
told_by (moved.Renumbered numbering) = Moving.numbered numbering.now
