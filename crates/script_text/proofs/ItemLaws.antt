-- One item after another.
use Rattle.std.proofs.Common.{◌≡◌, ◌+◌, ◌<◌, ◌≤◌, ℕ, List, [], ◌∷◌, ◌++◌, Option, Some, None, Result, Ok, Err, length, get_or, take, drop, refl, sym, ◌∙◌, arith}
use Rattle.std.proofs.lemmas.List.{drop_more, take_more, length-take-le, drop_all}
use Rattle.script_text.specs.declared.fault.ScriptFault.{ScriptFault}
use Rattle.script_text.specs.declared.fault.ScriptFault.TheVariants.{Argument}
use Rattle.script_text.specs.Words.{Word}
use Rattle.script_text.specs.Items.{with_item, with_items}

pub item_missed : {Q : Type 0} (add : Q → List ℕ → List ℕ → Option Q) (items : List Word) (n : ℕ) (query : Q)
    (whole : Result Q ScriptFault) → n < length items
    → with_items add (take n items) (drop n items) query ≡ whole
    → None ≡ with_item add (take n items) query (get_or items n None)
    → whole ≡ Err (Argument (n + 3))
unfolding with_items
item_missed add items n query whole there same missed =
    sym same ∙ rw (drop_more items n None there, ← missed, length-take-le n items (omega arith)) refl

pub item_added : {Q : Type 0} (add : Q → List ℕ → List ℕ → Option Q) (items : List Word) (n : ℕ) (query longer : Q)
    (whole : Result Q ScriptFault) → n < length items
    → with_items add (take n items) (drop n items) query ≡ whole
    → Some longer ≡ with_item add (take n items) query (get_or items n None)
    → with_items add (take (n + 1) items) (drop (n + 1) items) longer ≡ whole
unfolding with_items
item_added {Q} add items n query longer whole there same added =
    let step : with_items add (take n items) (drop n items) query
    ≡ with_items add (take n items ++ get_or items n None ∷ []) (drop (n + 1) items) longer
    = rw (drop_more items n None there, ← added) refl in
    rw (take_more items n None there) (sym step ∙ same)

pub items_end : {Q : Type 0} (add : Q → List ℕ → List ℕ → Option Q) (items : List Word) (n : ℕ) (query : Q)
    (whole : Result Q ScriptFault) → length items ≤ n
    → with_items add (take n items) (drop n items) query ≡ whole
    → whole ≡ Ok query
unfolding with_items
items_end add items n query whole at_end same =
    sym same ∙ rw (drop_all n items at_end) refl
