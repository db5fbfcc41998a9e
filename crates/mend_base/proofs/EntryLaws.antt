-- The header and the number of entries of an index.
use Rattle.std.proofs.Common.{◌≡◌, ◌≤◌, ◌<◌, ◌+◌, ◌-◌, ◌*◌, ◌/◌, ℕ, Bool, true, false, nat_lt, if◌then◌else◌, List, length, Result, Ok, Err, refl, sym, ◌⊎◌, inl, inr, arith, div-mul-le_self}
use Rattle.std.proofs.lemmas.Bool.{ltb-false}
use Rattle.std.proofs.lemmas.Nat.{le-div}
use Rattle.index_entry.specs.Index.{header_read}
use Rattle.index_entry.specs.declared.fault.IndexFault.{IndexFault}
use Rattle.index_entry.specs.declared.fault.IndexFault.TheVariants.{Magic, Short, Version}
use Rattle.index_entry.specs.declared.index.IndexHead.{IndexHead}
use Rattle.mend_base.specs.Entries.{entries_found, head_found}
use Rattle.mend_base.specs.Finding.{HasEntry}

-- There are no more entries than an index can hold.
pub found-few : (index : List ℕ) → entries_found index ≤ 16777214
found-few index = omega arith

-- Each is there whole.
pub found-there : (index : List ℕ) (game : ℕ) → game < entries_found index → HasEntry index game
found-there index game below = omega (arith, below, div-mul-le_self (length index - 182) 47)

-- Entries that are there are found.
pub found-all : (index : List ℕ) (games : ℕ) → games ≤ 16777214 → 182 + 47 * games ≤ length index → games ≤ entries_found index
found-all index games few room =
    let all : games ≤ (length index - 182) / 47 = le-div games (length index - 182) 47 (omega arith) (omega (arith, room)) in
    omega (arith, few, all)

-- ---- the header of an index without a fault.

pub header-found : (bytes : List ℕ) (head : IndexHead) → header_read bytes ≡ Ok head → head_found bytes ≡ Ok head
unfolding head_found
header-found bytes head is = rw is refl

-- ---- the length of an index.

by_length : (bytes : List ℕ) (b : Bool) (rest : Result IndexHead IndexFault) (fault : IndexFault) → nat_lt (length bytes) 182 ≡ b → (if b then Err (Short (length bytes)) else rest) ≡ Err fault →
    (fault ≡ Short (length bytes)) ⊎ (182 ≤ length bytes)
by_length bytes true rest fault short is = inl cc
by_length bytes false rest fault long is = inr (ltb-false (length bytes) 182 long)

-- An index whose header has another fault than its length has a whole one.
pub long-unless : (bytes : List ℕ) (fault : IndexFault) → header_read bytes ≡ Err fault → (fault ≡ Short (length bytes)) ⊎ (182 ≤ length bytes)
unfolding header_read
long-unless bytes fault is = by_length bytes (nat_lt (length bytes) 182) _ fault refl is

pub long-magic : (bytes : List ℕ) → Err Magic ≡ header_read bytes → 182 ≤ length bytes
long-magic bytes is =
    elim (long-unless bytes Magic (sym is)) [
      | inl short ↦ absurd cc
      | inr long ↦ long
    ]

pub long-version : (bytes : List ℕ) (version : ℕ) → Err (Version version) ≡ header_read bytes → 182 ≤ length bytes
long-version bytes version is =
    elim (long-unless bytes (Version version) (sym is)) [
      | inl short ↦ absurd cc
      | inr long ↦ long
    ]
