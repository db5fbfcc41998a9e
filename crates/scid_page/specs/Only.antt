-- Of which games of a base the pages are made, each at ply 0 (this project's own).
use Rattle.std.specs.Prelude.{ℕ, List, length, Option, None, Some}
use Rattle.base_core.specs.Represents.{Kept, heads_of, sigs_of}
use Rattle.game_filter.specs.Filter.{all_in}
use Rattle.game_filter.specs.Search.{searched}
use Rattle.game_filter.specs.declared.op.Op.TheVariants.{And}
use Rattle.head_search.specs.Matching.{firsts_of}
use Rattle.sig_index.specs.declared.head_query.HeadQuery.{HeadQuery}

-- All of them, or those that a search of heads finds among all.
abbrev pub games_asked : Option HeadQuery → Kept → List (Option ℕ)
games_asked None kept = all_in (length kept.entries)
games_asked (Some query) kept = searched And (firsts_of query (heads_of kept) (sigs_of kept)) (all_in (length kept.entries))
