use Rattle.std.proofs.Common.{◌≡◌, ℕ, List, [], take, drop}
use Rattle.sig_index.specs.Queries.{any_head}
use Rattle.sig_index.specs.declared.head_query.HeadQuery.{HeadQuery}
use Rattle.script_text.specs.Words.{Word}
use Rattle.script_text.specs.Items.{with_items}
use Rattle.script_text.specs.HeadItems.{head_item}
use Rattle.script_text.specs.Sound.{IsHeadQuery}
use Rattle.script_text.proofs.items.all_head_items.Given as goal

-- The items that are left add to the query so far what all of them ask.
pub record Adding (n : ℕ) (items all : List Word) (query : HeadQuery) : Type 0 where
  pub same : with_items head_item (take n items) (drop n items) query ≡ with_items head_item [] all any_head
  pub bounds : IsHeadQuery query

abbrev pub invariant-loop-n : goal.invariant-loop-n
invariant-loop-n l = Adding l.n l.items l.fn.items l.query
