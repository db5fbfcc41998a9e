-- Laws of text that waits behind what an output has taken.
use Rattle.std.proofs.Common.{◌≡◌, ◌≤◌, ◌+◌, ℕ, ◌-◌, List, [], ◌++◌, length, take, drop, Option, sym, ap, ◌∙◌, subst, arith}
use Rattle.std.specs.List.{copy_within}
use Rattle.std.proofs.lemmas.List.{take-append-drop, drop-drop, drop_all, take_all, drop-take, length-drop}
use Rattle.std.proofs.lemmas.List.Edits.{take-paste}
use Rattle.base_files.proofs.Telling.{adds-append, Grew-adds, Grew-trans}
use Rattle.base_files.specs.Told.{adds, Grew}
use Rattle.command_runs.specs.Endings.{NoneLost}

moved_front : (from to : ℕ) (bytes : List ℕ) → from ≤ to → to ≤ length bytes → take (to - from) (copy_within bytes from to 0) ≡ drop from (take to bytes)
moved_front from to bytes order inside =
    let rest : length (drop from bytes) ≡ length bytes - from = length-drop from bytes in
    let all : from + (to - from) ≡ to = omega (arith, order) in
    let none : 0 + (to - from) ≡ to - from = omega arith in
    ap (λ n. take n (copy_within bytes from to 0)) (sym none)
    ∙ take-paste bytes 0 (drop from bytes) (to - from) (omega arith) (omega (arith, rest, order, inside))
    ∙ sym (drop-take from (to - from) bytes) ∙ ap (λ n. drop from (take n bytes)) all

-- The bytes from a place on are moved to the front, and the others are cut off.
pub front_removed : (bytes : List ℕ) (count : ℕ) → count ≤ length bytes → take (length bytes - count) (copy_within bytes count (length bytes) 0) ≡ drop count bytes
front_removed bytes count inside =
    moved_front count (length bytes) bytes inside (omega arith) ∙ ap (drop count) (take_all (length bytes) bytes (omega arith))

-- Nothing waits any more.
pub none_waits : (told told' : Option (List ℕ)) (bytes rest : List ℕ) (n : ℕ) → n ≡ length bytes → rest ≡ [] → adds told' (drop n bytes) ≡ told → adds told' rest ≡ told
none_waits told told' bytes rest n all none kept =
    ap (adds told') (none ∙ sym (drop_all n bytes (omega (arith, all)))) ∙ kept
