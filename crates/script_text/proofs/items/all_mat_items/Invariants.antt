use Rattle.std.proofs.Common.{◌≡◌, ℕ, List, [], take, drop}
use Rattle.sig_index.specs.Queries.{any_material}
use Rattle.sig_index.specs.declared.mat_query.MatQuery.{MatQuery}
use Rattle.script_text.specs.Words.{Word}
use Rattle.script_text.specs.Items.{with_items}
use Rattle.script_text.specs.MatItems.{mat_item}
use Rattle.script_text.specs.Sound.{IsMatQuery}
use Rattle.script_text.proofs.items.all_mat_items.Given as goal

-- The items that are left add to the query so far what all of them ask.
pub record Adding (n : ℕ) (items all : List Word) (query : MatQuery) : Type 0 where
  pub same : with_items mat_item (take n items) (drop n items) query ≡ with_items mat_item [] all any_material
  pub bounds : IsMatQuery query

abbrev pub invariant-loop-n : goal.invariant-loop-n
invariant-loop-n l = Adding l.n l.items l.fn.items l.query
