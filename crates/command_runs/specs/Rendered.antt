-- What a sink has taken of a text whose lines get a tag. This project's own.
use Rattle.std.specs.Prelude.{◌≡◌, ◌<◌, ◌≤◌, ℕ, true, List, [], ◌++◌, length, drop, Option, Some, None}
use Rattle.base_files.specs.Counters.{raised}
use Rattle.base_files.specs.Told.{adds}
use Rattle.command_runs.specs.Tagged.{line_begins, tagged, untagged}
use Rattle.command_runs.specs.Waiting.{Waiting}

-- Where a tagged text begins: its tag, what the sink tells before it and how many faults it has counted. Ghost names
-- tell which references to the sink and to the page it goes through.
pub record Opening : Type 0 where
  pub tag : List ℕ
  pub told : Option (List ℕ)
  pub faults : ℕ
  pub out_name : ℕ
  pub page_name : ℕ

abbrev pub opening : List ℕ → Option (List ℕ) → ℕ → ℕ → ℕ → Opening
opening tag told faults out_name page_name = record { tag = tag; told = told; faults = faults; out_name = out_name; page_name = page_name }

-- No text yet, if the sink tells what it has taken.
abbrev pub no_text : Option (List ℕ) → Option (List ℕ)
no_text None = None
no_text (Some told) = Some []

-- What is told behind what was told before.
abbrev pub told_behind : Option (List ℕ) → Option (List ℕ) → List ℕ
told_behind None told = []
told_behind (Some first) None = []
told_behind (Some first) (Some told) = drop (length first) told

-- The text without its tags, if the sink tells what it took of it; the rest waits.
abbrev pub untagged_text : List ℕ → Option (List ℕ) → Option (List ℕ) → List ℕ → Option (List ℕ)
untagged_text tag None told waits = None
untagged_text tag (Some first) None waits = None
untagged_text tag (Some first) (Some told) waits = Some (untagged (length tag) (length tag) (drop (length first) told ++ waits))

abbrev pub said : Opening → Option (List ℕ) → Waiting → Option (List ℕ)
said o told page = untagged_text o.tag o.told told page.bytes

-- The sink has kept what it had taken before. What it took since, with what waits, is the text so far with its tags, and a line begins
-- behind it if the page says so. If a write of it failed, a fault was counted.
pub record Rendered (o : Opening) (told : Option (List ℕ)) (faults : ℕ) (page : Waiting) : Type 0 where
  pub kept : told ≡ adds o.told (told_behind o.told told)
  pub text : (text : List ℕ) → said o told page ≡ Some text → adds told page.bytes ≡ adds o.told (tagged o.tag text)
  pub line : (text : List ℕ) → said o told page ≡ Some text → page.begins ≡ line_begins true text
  pub counts : o.faults ≤ faults
  pub failed : 0 < page.faults → raised o.faults 1 ≤ faults
