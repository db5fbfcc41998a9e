-- The first fault of an index is that of its header, or that its entries are cut off.
use Rattle.std.proofs.Common.{◌≡◌, ◌≤◌, ◌<◌, ℕ, ◌+◌, ◌*◌, Bool, true, false, not, nat_eq, nat_lt, List, length, take, Result, Ok, Err, if◌then◌else◌, refl, sym, ap, ◌∙◌, subst}
use Rattle.std.specs.Str.{bytes_eq}
use Rattle.std.proofs.lemmas.Bool.{lt-ltb, ltb-false}
use Rattle.cell_core.specs.Steps.{◌>>=◌}
use Rattle.index_entry.specs.Index.{head_in, header_read, index_read, magic, number_in, with_entries}
use Rattle.index_entry.specs.declared.index.IndexHead.{IndexHead}
use Rattle.index_entry.specs.declared.fault.IndexFault.{IndexFault}
use Rattle.index_entry.specs.declared.fault.IndexFault.TheVariants.{Short, Magic, Version, Games, Length}

pub cut-off : (bytes : List ℕ) (head : IndexHead) → Ok head ≡ header_read bytes → length bytes < 182 + 47 * head.games → Err (Length (length bytes)) ≡ index_read bytes
unfolding index_read
cut-off bytes head is short =
    sym (ap (λ b. if b then Err (Length (length bytes)) else Ok head) (lt-ltb (length bytes) (182 + 47 * head.games) short)) ∙ ap (λ r. r >>= with_entries (length bytes)) is

pub faulty-header : (bytes : List ℕ) (fault : IndexFault) → Err fault ≡ header_read bytes → Err fault ≡ index_read bytes
unfolding index_read
faulty-header bytes fault is = ap (λ r. r >>= with_entries (length bytes)) is

both : (bytes : List ℕ) (r : Result IndexHead IndexFault) (head : IndexHead) → (r >>= with_entries (length bytes)) ≡ Ok head → (r ≡ Ok head) × (182 + 47 * head.games ≤ length bytes)
both bytes (Err fault) head is = absurd cc
both bytes (Ok found) head is = by (nat_lt (length bytes) (182 + 47 * found.games)) refl is
  where
    by : (b : Bool) → nat_lt (length bytes) (182 + 47 * found.games) ≡ b → ◌≡◌ {A = Result IndexHead IndexFault} (if b then Err (Length (length bytes)) else Ok found) (Ok head) →
        (◌≡◌ {A = Result IndexHead IndexFault} (Ok found) (Ok head)) × (182 + 47 * head.games ≤ length bytes)
    by true short is = absurd cc
    by false long is =
        let same : found ≡ head = cc in
        (is, subst (λ (h : IndexHead). 182 + 47 * h.games ≤ length bytes) same (ltb-false (length bytes) (182 + 47 * found.games) long))

-- An index without a fault has a header without one, and the entries of all its games.
pub header-read : (bytes : List ℕ) (head : IndexHead) → index_read bytes ≡ Ok head → header_read bytes ≡ Ok head
unfolding index_read
header-read bytes head is = (both bytes (header_read bytes) head is).0

pub index-whole : (bytes : List ℕ) (head : IndexHead) → index_read bytes ≡ Ok head → 182 + 47 * head.games ≤ length bytes
unfolding index_read
index-whole bytes head is = (both bytes (header_read bytes) head is).1

-- ---- a header without a fault.

step_ok : {A : Type 0} (b : Bool) (fault : IndexFault) (rest : Result A IndexFault) (x : A) → (if b then Err fault else rest) ≡ Ok x → (b ≡ false) × (rest ≡ Ok x)
step_ok true fault rest x is = absurd cc
step_ok false fault rest x is = (refl, is)

pub header-long : (bytes : List ℕ) (head : IndexHead) → header_read bytes ≡ Ok head → 182 ≤ length bytes
unfolding header_read
header-long bytes head is = ltb-false (length bytes) 182 (step_ok (nat_lt (length bytes) 182) (Short (length bytes)) _ head is).0

sound : (bytes : List ℕ) (head : IndexHead) → header_read bytes ≡ Ok head → (head_in bytes ≡ head) × (head.games ≤ 16777214)
unfolding header_read head_in
sound bytes head is =
    let one = step_ok (nat_lt (length bytes) 182) (Short (length bytes)) _ head is in
    let two = step_ok (not (bytes_eq (take 8 bytes) magic)) Magic _ head one.1 in
    let three = step_ok (not (nat_eq (number_in 8 2 bytes) 400)) (Version (number_in 8 2 bytes)) _ head two.1 in
    let four = step_ok (nat_lt 16777214 (number_in 14 3 bytes)) (Games (number_in 14 3 bytes)) (Ok (head_in bytes)) head three.1 in
    let same : head_in bytes ≡ head = cc in
    (same, subst (λ (h : IndexHead). h.games ≤ 16777214) same (ltb-false 16777214 (number_in 14 3 bytes) four.0))

pub header-is : (bytes : List ℕ) (head : IndexHead) → header_read bytes ≡ Ok head → head_in bytes ≡ head
header-is bytes head is = (sound bytes head is).0

pub header-few : (bytes : List ℕ) (head : IndexHead) → header_read bytes ≡ Ok head → head.games ≤ 16777214
header-few bytes head is = (sound bytes head is).1
