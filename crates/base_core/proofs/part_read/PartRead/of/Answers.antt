use Rattle.std.proofs.Common.{◌≡◌, ◌-◌, ℕ, List, length, take, drop, sym, ap, ◌∙◌, arith}
use lib.Seq.{paste}
use Rattle.std.proofs.lemmas.List.{length-drop, take_all}
use Rattle.std.proofs.lemmas.List.Edits.{take-paste}
use Rattle.base_core.proofs.PackLaws.{none-read}
use Rattle.base_core.proofs.part_read.PartRead.of.Goals as goal

pub returns-clause-none : goal.returns-clause-none
returns-clause-none c = none-read c.truncate.new.self.items

pub returns-clause-ahead : goal.returns-clause-ahead
returns-clause-ahead c =
    let all : List ℕ = c.args.index.items in
    let len : length all ≡ c.args.index.len = sym c.args.index.ok.0 in
    let n : ℕ = c.args.index.len - 182 in
    let behind : length (drop 182 all) ≡ n = length-drop 182 all ∙ ap (λ (k : ℕ). k - 182) len in
    let copied : c.copy_within.new.self.items ≡ paste all 0 (drop 182 all) n = c.copy_within.ensures.items in
    c.truncate.ensures.items
    ∙ (ap (λ (k : ℕ). take (k - 182) c.copy_within.new.self.items) c.len-len.ensures
    ∙ (ap (λ (b : List ℕ). take n b) copied ∙ (ap (λ (k : ℕ). take k (paste all 0 (drop 182 all) n)) (omega arith) ∙ (take-paste all 0 (drop 182 all) n (omega arith) (omega (arith, behind)) ∙ take_all n (drop 182 all) (omega (arith, behind))))))
