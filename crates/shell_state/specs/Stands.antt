-- How the machine stands for a plain state, beside the files of its base. This project's own.
use Rattle.std.specs.Bool.{MatchBool}
use Rattle.std.specs.Prelude.{ℕ, List, ◌≡◌, Option, Some, None, IfSome, length, replicate, ⊤, IsTrue, slice_get, [], ◌∷◌, ◌++◌, Bool, true, false, ◌+◌, map, option_map, ◌≤◌}
use Rattle.base_core.specs.Base.{Base, Held}
use Rattle.base_core.specs.Entries.{head_of, sig_in}
use Rattle.base_core.specs.Means.{Means}
use Rattle.base_core.specs.Represents.{Kept, Represents, IsSound}
use Rattle.base_files.specs.Counters.{raised}
use Rattle.base_files.specs.Seen.{Seen}
use Rattle.base_files.specs.Told.{Grew, adds}
use Rattle.base_files.specs.declared.faults.Stop.TheVariants as stop
use Rattle.block_store.specs.Placing.{IsEnd}
use Rattle.command_runs.specs.Counts.{Counts, Why}
use Rattle.game_tree.specs.Game.{GameTree}
use Rattle.index_entry.specs.declared.entry.Entry.{Entry}
use Rattle.name_base.specs.NameLists.{NameLists}
use Rattle.pos_index.specs.Hits.{Index, Place, row_of, rows_told}
use Rattle.filter_seat.specs.Seats.{FitsGames, Seat}
use Rattle.shell_state.specs.Carrying.{AreBeside, AreEmpty, Contents}
use Rattle.shell_state.specs.Passing.{len_in}
use Rattle.shell_state.specs.Slots.{HitTable, Slot, tables_of}
use Rattle.shell_state.specs.State.{State, begin}
use Rattle.shell_state.specs.Work.{Look, Work, price, Price}
use Rattle.shell_state.specs.Work.Price.{by_looks, by_state}
use Rattle.tree_live.specs.Slots.{in_slot}
use Rattle.shell_state.specs.declared.halt.Halt.{Halt}
use Rattle.shell_state.specs.declared.halt.Halt.TheVariants as halt

-- What is kept of the games for speed: the position index, if there is one, and the hits for each slot that shows a tree.
pub record Tables : Type 0 where
  pub index : Option Index
  pub hits : List (Option HitTable)

-- What a machine holds: what the open base keeps, its tables, and the seat of its user.
pub record Holding : Type 0 where
  pub kept : Kept
  pub tables : Tables
  pub seat : Seat

-- The position index of games to a depth.
abbrev pub index_of : List GameTree → ℕ → Index
index_of games depth = record { depth = depth; rows = map (row_of depth) (map Some games) }

-- The tables without an index, when no slot shows a tree.
abbrev pub no_tables : Tables
no_tables = record { index = None; hits = replicate 8 None }

-- The tables of the games of a state.
abbrev pub tables_by : Option ℕ → List Slot → List Held → Tables
tables_by depth slots games = record { index = option_map (index_of (map (λ held. held.game) games)) depth; hits = tables_of games slots }

-- The depth of an index, if there is one.
abbrev pub depth_of : Option Index → Option ℕ
depth_of index = option_map (λ (x : Index). x.depth) index

-- The machine stands for this state, and the files are told.
pub record Stands (holding : Holding) (seen : Seen) (s : State) : Type 0 where
  pub games : List ℕ
  pub told : seen.games ≡ Some games
  pub base : Represents holding.kept games s.shared.base
  pub unsaved : holding.kept.unsaved ≡ s.shared.unsaved
  pub carried : AreBeside holding.kept seen s.shared.unsaved s.shared.carried
  pub tables : holding.tables ≡ tables_by s.shared.index s.slots s.shared.base.games
  pub seat : holding.seat ≡ s.seat
  pub fresh : seen.fresh ≡ s.shared.fresh

-- Each filter of a machine has an entry for each game.
abbrev pub Fits : Holding → Type 0
Fits holding = FitsGames holding.seat (length holding.kept.entries)

-- And its tables do: the position index, if there is one, has a row for each, and each slot that shows a tree has a hit or none.
pub record AreTables (tables : Tables) (games : ℕ) : Type 0 where
  pub index : IfSome tables.index (λ (index : Index). length index.rows ≡ games)
  pub hits : (k : ℕ) → IfSome (in_slot tables.hits k) (λ (table : HitTable). length table.hits ≡ games)

abbrev pub TablesFit : Holding → Type 0
TablesFit holding = AreTables holding.tables (length holding.kept.entries)

-- What every machine keeps, whatever the files tell: its filters and its tables fit, its base is sound, and the base ends where the games file
-- ends, within its known length.
pub record Sound (holding : Holding) (seen : Seen) : Type 0 where
  pub fits : Fits holding
  pub tables : TablesFit holding
  pub base : IsSound holding.kept
  pub at_end : IsEnd holding.kept.end seen

-- A line that uses no file did what it says, and this is its text. The base keeps its end.
pub record Quiet (old : Holding) (work : Work) (new : Holding) (line : List ℕ) : Type 0 where
  pub stands : (seen : Seen) (s : State) → Stands old seen s → Stands new seen (work.after s)
  pub text : (seen : Seen) (s : State) → Stands old seen s → line ≡ work.text s
  pub fits : Fits new
  pub tables : TablesFit old → TablesFit new
  pub base : IsSound old.kept → IsSound new.kept
  pub end : new.kept.end ≡ old.kept.end

-- What was written of a text if the files failed: nothing, or not all of one that goes out while its command works.
abbrev pub Unfinished : Bool → List ℕ → Option (List ℕ) → Option (List ℕ) → Type 0
Unfinished false text told told' = told' ≡ told
Unfinished true text told told' = (front : List ℕ) × (byte : ℕ) × (rest : List ℕ) × (text ≡ front ++ byte ∷ rest) × Grew told' (adds told front)

-- What is known of a command that was broken off in a state: the input fails only at one that reads a body, the files only at one that uses
-- them, and told files never change. If the files fail, its text is unfinished.
abbrev pub Broken : State → Work → Halt → List ℕ → Option (List ℕ) → Option (List ℕ) → Type 0
Broken s work (halt.Device stop.Read) text told told' = IsTrue work.body
Broken s work (halt.Device stop.Files) text told told' = IsTrue work.files × Unfinished work.early text told told'
Broken s work (halt.Device stop.Write) text told told' = ⊤
Broken s work (halt.Device stop.Memory) text told told' = ⊤
Broken s work (halt.Changed game kept found) text told told' = ⊥

-- The cause of an early end: a device counted a fault, or a record has another signature than the kept one, or none.
abbrev pub WhyHalt : Halt → Counts → Counts → Type 0
WhyHalt (halt.Device stop) old new = Why stop old new
WhyHalt (halt.Changed game kept found) old new = found ≡ Some kept → ⊥

-- The bytes of the record of one game; past the last game there are none.
abbrev pub len_at : List Entry → ℕ → ℕ
len_at entries game = len_in (λ e. e.len) (slice_get entries game)

-- What the price of a command looks at, of what the machine holds.
abbrev pub look_at : NameLists → List Place → Entry → Look
look_at names places e = record { len = e.len; sig = sig_in e; head = head_of names e []; places = places }

abbrev pub looks_at_all : NameLists → List (List Place) → List Entry → List Look
looks_at_all names rows [] = []
looks_at_all names [] (e ∷ entries) = look_at names [] e ∷ looks_at_all names [] entries
looks_at_all names (row ∷ rows) (e ∷ entries) = look_at names row e ∷ looks_at_all names rows entries

abbrev pub looks_in : Holding → List Look
looks_in holding = looks_at_all holding.kept.names (rows_told holding.tables.index) holding.kept.entries

-- A command asks no more bytes of the games file than its price by what the machine holds before it.
abbrev pub AsksBy : Price → Holding → ℕ → ℕ → Type 0
AsksBy (by_looks price) holding old new = new ≤ old + price (looks_in holding) holding.seat.filter
AsksBy (by_state price) holding old new = ⊤

abbrev pub Asks : Holding → Work → ℕ → ℕ → Type 0
Asks holding work old new = AsksBy work.price holding old new

-- And no fewer, of one whose price is what it asks if it is done; a counter of bytes stands still at its last value.
abbrev pub AsksAllBy : Price → Holding → ℕ → ℕ → Type 0
AsksAllBy (by_looks price) holding old new = raised old (price (looks_in holding) holding.seat.filter) ≤ new
AsksAllBy (by_state price) holding old new = ⊤

abbrev pub AsksAll : Holding → Work → ℕ → ℕ → Type 0
AsksAll holding work old new = AsksAllBy work.price holding old new

-- A base was opened or created, beside files that are told: what is kept stands for it, without changes, and the files mean it or are empty.
pub record IsOpen (kept : Kept) (seen : Seen) (created : Bool) (base : Base) : Type 0 where
  pub contents : Contents seen
  pub represents : Represents kept contents.games base
  pub saved : kept.unsaved ≡ false
  pub means : MatchBool created (AreEmpty seen) (Means contents.index contents.names contents.games base)

-- None of eight slots shows a tree.
abbrev pub ShowNone : List Slot → Type 0
ShowNone slots = (games : List Held) → tables_of games slots ≡ replicate 8 None

-- A machine begins with what an open base keeps. It is sound if the base ends with the games file. If a base was opened
-- or created, it stands for the state in which a script begins.
pub record Begins (kept : Kept) (holding : Holding) : Type 0 where
  pub sound : (seen : Seen) → IsEnd kept.end seen → Sound holding seen
  pub stands : (seen : Seen) (created : Bool) (slots : List Slot) (base : Base) → ShowNone slots → IsOpen kept seen created base
      → Stands holding seen (begin created seen.fresh slots base)
