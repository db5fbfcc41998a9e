-- A reader of the items of a text, as its contracts see it (this project's own).
use Rattle.std.specs.Prelude.{◌≡◌, ◌⊎◌, ℕ, Bool, false, List, [], ◌∷◌, ◌++◌, Option, None, Some, IfSome, option_map}
use Rattle.pgn_read.specs.declared.error.PgnError.{PgnError}
use Rattle.pgn_read.specs.declared.item.Item.{Item}
use Rattle.pgn_read.specs.Causes.{HasCause}
use Rattle.pgn_read.specs.declared.place.Place.{Place}
use Rattle.pgn_read.specs.Place.{first_place}
use Rattle.pgn_read.specs.Text.{At, here, longest}
use Rattle.pgn_read.specs.Items.{next, next_item, AreItems}

-- The unread bytes, where they stand, and whether the source has come to its end behind them.
pub record Window : Type 0 where
  pub unread : List ℕ
  pub place : Place
  pub room : ℕ
  pub ended : Bool

-- What stands ahead, if these bytes come behind the window, and if the source tells what it has left.
abbrev pub with_more : Window → List ℕ → At
with_more w more = here w.place w.room (w.unread ++ more)

abbrev pub ahead : Window → Option (List ℕ) → Option At
ahead w left = option_map (with_more w) left

-- What was read of the source and not yet used, and the error from which on the reader answers the same.
pub record Reader : Type 0 where
  pub window : Window
  pub stuck : Option PgnError

-- At the beginning of a text.
abbrev pub fresh_reader : Reader
fresh_reader = record { window = record { unread = []; place = first_place; room = longest; ended = false }; stuck = None }

-- What stands ahead of the reader, if the source tells what it has left.
abbrev pub told : Reader → Option (List ℕ) → Option At
told reader left = ahead reader.window left

-- The next item of what was ahead is this one, or there is none, and what is ahead then stands behind it.
abbrev pub Follows : Option At → Option Item → Option At → Type 0
Follows old item new = option_map next_item old ≡ option_map (next item) new

-- The items that are ahead, if the source tells what it has left.
abbrev pub ItemsAhead : Option At → List Item → Type 0
ItemsAhead ahead items = IfSome ahead (λ a. AreItems a items)

-- These items were read one behind the other, and then that there is none.
abbrev pub AreRead : Option At → List Item → Type 0
AreRead old [] = (new : Option At) × Follows old None new
AreRead old (item ∷ items) = (new : Option At) × (Follows old (Some item) new × AreRead new items)

-- An error has its cause in this call, or the reader had the same error before.
abbrev pub IsStuck : PgnError → Reader → ℕ → ℕ → Type 0
IsStuck error old before after = (old.stuck ≡ Some error) ⊎ HasCause error before after
