-- What a search of all games asks of the games file (this project's own).
use Rattle.std.specs.Prelude.{◌≡◌, ℕ, List, Option, None, map}
use Rattle.base_files.specs.declared.extent.Extent.{Extent}
use Rattle.game_filter.specs.declared.op.Op.{Op}
use Rattle.game_search.specs.Questions.{Unread, cost_of}
use Rattle.sig_index.specs.Costs.{price_by}
use Rattle.sig_index.specs.declared.mat_query.MatQuery.{MatQuery}
use Rattle.sig_index.specs.declared.signature.Sig.{Sig}
use Rattle.mat_search.specs.Passing.{passes}

-- The bytes that all games cost: a game that can match has to be read.
abbrev pub price : Op → MatQuery → List Sig → List Extent → List (Option ℕ) → ℕ
price op query sigs = price_by (cost_of op) (map (λ sig. passes sig query) sigs)

-- Which games a query has read, and what is known of the others: they have no matching ply.
abbrev pub tells : MatQuery → Unread → Type 0
tells query unread = ((i : ℕ) (sig : Sig) → unread.reads i sig ≡ passes sig query) × ((i : ℕ) → unread.ply i ≡ None)
