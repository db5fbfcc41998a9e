-- Steps over the bytes of a source that were read and not yet taken. No public contract cites these words.
use Rattle.std.specs.Prelude.{◌≡◌, ◌≤◌, ◌<◌, ◌⊎◌, ⊤, ℕ, ◌+◌, ◌-◌, if◌then◌else◌, Bool, true, false, length, take, drop, Option, Some, option_map, IsTrue, fold}
use Rattle.pgn_read.specs.declared.step.End.{End}
use Rattle.pgn_read.specs.declared.step.End.TheVariants as end
use Rattle.pgn_read.specs.declared.step.Step.{Step}
use Rattle.pgn_read.specs.declared.step.Step.TheVariants as step
use Rattle.pgn_read.specs.declared.step.Untaken.{Untaken}
use Rattle.pgn_read.specs.declared.step.Untaken.TheVariants as untaken
use Rattle.pgn_read.specs.Place.{next_place}
use Rattle.pgn_read.specs.Lexing.{lexed, size}
use Rattle.pgn_read.specs.Text.{At, here, behind_gap, behind_token, longest}
use Rattle.pgn_read.specs.Reading.{Reading}
use Rattle.pgn_read.specs.Items.{Next, ended, ended_before, faulty, resumed}
use Rattle.pgn_read.specs.Readers.{Window}

-- From here on, behind the rest of a gap, inside or outside of a line that is skipped.
abbrev pub gap_behind : Bool → At → At
gap_behind inside a = behind_gap inside a.place a.room a.bytes

-- From the line on which reading goes on behind a fault here.
abbrev pub resumed_at : At → At
resumed_at a = resumed a.place a.room a.bytes

-- What the window has tells the token at its front, or that it is too long.
abbrev pub Decides : Window → Type 0
Decides w = IsTrue w.ended ⊎ ((8 ≤ length (lexed w.unread).rest) ⊎ (w.room + 8 ≤ length w.unread))

-- One until the source's end is known, then none.
abbrev pub waiting : Window → ℕ
waiting w = if w.ended then 0 else 1

-- The window alone, as if nothing came behind it.
abbrev pub front : Window → At
front w = here w.place w.room w.unread

-- ---- steps over a window

-- The token at the front was passed over; it is not too long.
pub record FrontPassed (old new : Window) : Type 0 where
  pub fits : size old.unread ≤ old.room
  pub unread : new.unread ≡ drop (size old.unread) old.unread
  pub place : new.place ≡ fold next_place old.place (take (size old.unread) old.unread)
  pub room : new.room ≡ old.room - size old.unread
  pub ended : new.ended ≡ old.ended

-- It is passed over if reading goes on, and if it is an end mark.
abbrev pub FrontMoved : Step → Window → Window → Type 0
FrontMoved step.GoesOn old new = FrontPassed old new
FrontMoved (step.Ends (end.Behind outcome)) old new = FrontPassed old new
FrontMoved (step.Ends end.Before) old new = new ≡ old
FrontMoved (step.Ends (end.Faulty what)) old new = new ≡ old

-- The same of what is ahead.
abbrev pub Moved : Step → Option At → Option At → Type 0
Moved step.GoesOn old new = option_map behind_token old ≡ new
Moved (step.Ends (end.Behind outcome)) old new = option_map behind_token old ≡ new
Moved (step.Ends end.Before) old new = old ≡ new
Moved (step.Ends (end.Faulty what)) old new = old ≡ new

-- Why the token at the front was not taken: the window does not tell it, and all is as before; or memory ran out.
abbrev pub WhyUntaken : Untaken → Window → Window → Reading → Reading → Type 0
WhyUntaken untaken.Untold old new before after = (new ≡ old) × ((after ≡ before) × ((old.ended ≡ false) × (length old.unread < longest + 8)))
WhyUntaken untaken.Memory old new before after = ⊤

-- The item of a game that ends so, from behind its end mark on, and else from the token on that ends it.
abbrev pub by_end : Reading → End → At → Next
by_end r (end.Behind outcome) a = ended r (Some outcome) a
by_end r end.Before a = ended_before r a
by_end r (end.Faulty what) a = faulty what a

-- Whether the token at the front is passed over.
abbrev pub passes : Step → Bool
passes step.GoesOn = true
passes (step.Ends (end.Behind outcome)) = true
passes (step.Ends end.Before) = false
passes (step.Ends (end.Faulty what)) = false
