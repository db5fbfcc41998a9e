-- What an edit leaves of what an open base keeps, whatever its games file holds (this project's own).
use Rattle.std.specs.Prelude.{◌≡◌, ◌≤◌, ◌<◌, ⊤, true, List, ℕ, ◌++◌, length, nat_lt, if◌then◌else◌, Option, None, Some}
use Rattle.block_store.specs.Placing.{longest_file, padded}
use Rattle.game_codec.specs.Written.{longest}
use Rattle.name_base.specs.NameLists.{NameLists, limit_of}
use Rattle.name_base.specs.declared.kind.NameKind.TheVariants.{Player, Event, Site, Round}
use Rattle.base_core.specs.declared.fault.EditError.{EditError}
use Rattle.base_core.specs.declared.fault.EditError.TheVariants as error
use Rattle.base_core.specs.declared.fault.What.{What}
use Rattle.base_core.specs.declared.fault.What.TheVariants as what
use Rattle.base_core.specs.Base.{Base}
use Rattle.base_core.specs.Represents.{Kept, Represents, extents_of, sigs_of}

-- The edit was done: if what was kept stands for a base beside a games file, what is kept now stands for the base after the edit beside it.
abbrev pub Does : (Base → Base) → Kept → Kept → Type 0
Does after old new = (games : List ℕ) (base : Base) → Represents old games base → Represents new games (after base)

-- Only heads were changed, and the changes are not saved.
pub record ChangedHeads (old new : Kept) : Type 0 where
  pub header : new.header ≡ old.header
  pub names : new.names ≡ old.names
  pub extents : extents_of new ≡ extents_of old
  pub sigs : sigs_of new ≡ sigs_of old
  pub end : new.end ≡ old.end
  pub unsaved : new.unsaved ≡ true

-- The edit was done and placed a record. If what was kept stood for a base beside a games file that ends there, what is
-- kept now stands for the base after the edit. The games file then has that record too, behind zero bytes or none.
abbrev pub Places : List ℕ → (Base → Base) → Kept → Kept → Type 0
Places bytes after old new =
    (games : List ℕ) (base : Base) → length games ≡ old.end → Represents old games base → Represents new (games ++ padded old.end bytes) (after base)

-- The greatest number of games of a base.
abbrev pub most_games : ℕ
most_games = 16777214

-- The first kind of names that passes its limit.
unfoldable pub full_names : NameLists → Option What
full_names names =
    if nat_lt (limit_of Player) (length names.players) then Some what.Players
    else if nat_lt (limit_of Event) (length names.events) then Some what.Events
    else if nat_lt (limit_of Site) (length names.sites) then Some what.Sites
    else if nat_lt (limit_of Round) (length names.rounds) then Some what.Rounds
    else None

-- The first, or else the games file, if it passes its own.
abbrev pub or_file : Option What → ℕ → Option What
or_file (Some full) end = Some full
or_file None end = if nat_lt longest_file end then Some what.File else None

-- What would pass its limit first with so many games, these names and this end of the games file.
unfoldable pub first_full : ℕ → NameLists → ℕ → Option What
first_full games names end = if nat_lt most_games games then Some what.Games else or_file (full_names names) end

-- A record of so many bytes can be placed: it is not too long, and nothing would be full.
pub record CanPlace (len : ℕ) (full : Option What) : Type 0 where
  pub short : len ≤ longest
  pub room : full ≡ None

-- Why it is not placed. After `Failed` it could have been.
abbrev pub WhyNotPlaced : ℕ → Option What → EditError → Type 0
WhyNotPlaced len full (error.TooLong n) = (n ≡ len) × (longest < n)
WhyNotPlaced len full (error.Full thing) = (len ≤ longest) × (full ≡ Some thing)
WhyNotPlaced len full error.Failed = CanPlace len full
WhyNotPlaced len full error.Memory = ⊤
WhyNotPlaced len full _ = ⊥

-- Why a game is not put in the place of game i: there is none, or it can't be placed.
abbrev pub WhyNotReplaced : Kept → ℕ → ℕ → Option What → EditError → Type 0
WhyNotReplaced kept i len full (error.NoGame game) = (game ≡ i) × (length kept.entries ≤ i)
WhyNotReplaced kept i len full e = WhyNotPlaced len full e
