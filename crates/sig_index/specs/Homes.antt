-- Which games a search of a position can leave unread, by the pawns that stand at home (this project's own).
use Rattle.std.specs.Prelude.{ℕ, ◌<◌, ◌≤◌, zero, suc, ◌+◌, ◌^◌, ◌||◌, ◌==◌, nat_eq, if◌then◌else◌, Bool, List, length, slice_index, take}
use Rattle.std.specs.Int.{bit_at}
use Rattle.std.specs.List.{list_all, list_any, range_with_len}
use Rattle.cell_core.specs.Board.{Men}
use Rattle.chess_laws.specs.Counts.{is_home}
use Rattle.sig_index.specs.declared.signature.HomeList.{HomeList}
use Rattle.sig_index.specs.declared.signature.Sig.{Sig}
use Rattle.sig_index.specs.Signature.{all_homes}

-- A home list has at most sixteen values, each below 16.
pub record IsHomeList (home : HomeList) : Type 0 where
  pub count : home.count ≤ 16
  pub small : (i : ℕ) → slice_index home.values i < 16

-- The home values below n of the pawns that stand on their own squares, as bits: bit v is set for the value v.
abbrev pub home_bits : Men → ℕ → ℕ
home_bits men zero = 0
home_bits men (suc n) = home_bits men n + (if is_home men n then 2 ^ n else 0)

-- Those of all pawns that do.
unfoldable pub home_set : Men → ℕ
home_set men = home_bits men 16

-- A set of home values, as bits, has all values but these: the bit of a value among these is 0, and every other is 1.
unfoldable pub is_all_but : List ℕ → ℕ → Bool
is_all_but left set = list_all (λ value. bit_at set value == (if list_any (nat_eq value) left then 0 else 1)) all_homes

-- It has all values but the first of these, be that none of them, some or all.
abbrev pub is_all_but_first : List ℕ → ℕ → Bool
is_all_but_first left set = list_any (λ n. is_all_but (take n left) set) (range_with_len 0 (length left + 1))

-- The pawns at home in a game with this signature can have been those of a set: those that did not leave with the first so many.
unfoldable pub home_allows : Sig → ℕ → Bool
home_allows sig set = sig.own_start || is_all_but_first (take sig.home.count sig.home.values) set
