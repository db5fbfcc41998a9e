-- The bytes of a record one behind the other, by its lengths and marks alone, whatever its moves say (this project's own, after Scid's format si4).
use Rattle.std.specs.Prelude.{◌≤◌, ℕ, ◌+◌, ◌-◌, ◌%◌, ◌==◌, ◌&&◌, ◌||◌, Bool, true, false, nat_le, nat_lt, if◌then◌else◌, List, fold}
use Rattle.mend_base.specs.declared.marks.Due.{Due}
use Rattle.mend_base.specs.declared.marks.Due.TheVariants as due
use Rattle.mend_base.specs.declared.marks.LineEnd.{LineEnd}
use Rattle.mend_base.specs.declared.marks.Spot.{Spot}
use Rattle.mend_base.specs.declared.marks.TextsLeft.{TextsLeft}

-- What is due behind the first byte of an extra tag, and behind any byte.
abbrev pub due_in_tag : ℕ → Due
due_in_tag byte = if byte == 0 then due.Flags else if nat_le byte 240 then due.Name byte else if byte == 255 then due.Value 3 else due.Length

abbrev pub due_after : Due → ℕ → Due
due_after due.Tag byte = due_in_tag byte
due_after (due.Name left) byte = if nat_le left 1 then due.Length else due.Name (left - 1)
due_after due.Length byte = if byte == 0 then due.Tag else due.Value byte
due_after (due.Value left) byte = if nat_le left 1 then due.Tag else due.Value (left - 1)
due_after due.Flags byte = if byte % 2 == 0 then due.Item else due.Fen
due_after due.Fen byte = if byte == 0 then due.Item else due.Fen
due_after due.Item byte = if byte == 11 then due.Number else if byte == 15 then due.Text else due.Item
due_after due.Number byte = due.Item
due_after due.Text byte = due.Text

-- The number of the comment that stands where an item is due in a line of this depth, or 0: a move ends it, and so does the beginning of the line.
abbrev pub own_after : ℕ → Spot → ℕ → ℕ
own_after line s byte =
    if byte == 12 then (if s.depth == line then s.comments + 1 else s.own)
    else if byte == 13 then (if s.depth + 1 == line then 0 else s.own)
    else if byte == 11 || byte == 14 then s.own
    else if s.depth == line then 0 else s.own

-- Behind a byte of the moves: 12 marks a comment, 13 begins a variation, and 14 ends it.
abbrev pub behind_item : ℕ → Spot → ℕ → Spot
behind_item line s byte = record {
  due = due_after due.Item byte;
  passed = s.passed + 1;
  depth = if byte == 13 then s.depth + 1 else if byte == 14 then s.depth - 1 else s.depth;
  comments = if byte == 12 then s.comments + 1 else s.comments;
  own = own_after line s byte;
}

-- Behind a byte. The texts of the comments are not passed.
abbrev pub behind_byte : ℕ → Spot → Due → ℕ → Spot
behind_byte line s due.Item byte = behind_item line s byte
behind_byte line s due.Text byte = s
behind_byte line s other byte = record s { due = due_after other byte; passed = s.passed + 1 }

abbrev pub spot_after : ℕ → Spot → ℕ → Spot
spot_after line s byte = behind_byte line s s.due byte

-- The beginning of a record, and behind these bytes of it.
abbrev pub beginning : Spot
beginning = record { due = due.Tag; passed = 0; depth = 0; comments = 0; own = 0 }

abbrev pub spot_behind : ℕ → List ℕ → Spot
spot_behind line bytes = fold (spot_after line) beginning bytes

-- A byte ends the line of this depth: 15, or 14 where as many variations are open.
abbrev pub is_item : Due → Bool
is_item due.Item = true
is_item _ = false

abbrev pub ends_line : ℕ → Spot → ℕ → Bool
ends_line line s byte = is_item s.due && (byte == 15 || (byte == 14 && (nat_lt 0 line && s.depth == line)))

-- Where the line ends, from a spot of it on: before the first of the bytes that ends it.
abbrev pub end_after : ℕ → LineEnd → ℕ → LineEnd
end_after line e byte = if e.found || ends_line line e.spot byte then record { spot = e.spot; found = true } else record { spot = spot_after line e.spot byte; found = false }

abbrev pub line_end : ℕ → Spot → List ℕ → Spot
line_end line s bytes = (fold (end_after line) (record { spot = s; found = false }) bytes).spot

-- How many bytes so many texts take, each with its zero byte, and how many texts are missing.
abbrev pub text_after : TextsLeft → ℕ → TextsLeft
text_after t byte = if t.due == 0 then t else record { due = if byte == 0 then t.due - 1 else t.due; used = t.used + 1 }

abbrev pub texts_in : ℕ → List ℕ → TextsLeft
texts_in n bytes = fold text_after (record { due = n; used = 0 }) bytes

-- ---- as the functions of this crate go through it.

-- What is counted at a spot is no more than the bytes that were passed.
pub record IsCounted (s : Spot) : Type 0 where
  pub depth : s.depth ≤ s.passed
  pub comments : s.comments ≤ s.passed
