-- There is an entry for each game of the base, whichever of them count.
use Rattle.std.proofs.Common.{◌≡◌, ℕ, List, length, Option, Some, None, ap, ◌∙◌}
use Rattle.std.proofs.lemmas.List.{length-replicate}
use Rattle.base_core.specs.Represents.{Kept, heads_of, sigs_of}
use Rattle.game_filter.specs.Filter.{all_in}
use Rattle.game_filter.specs.declared.op.Op.TheVariants.{And}
use Rattle.game_filter.proofs.Searches.{length-searched}
use Rattle.head_search.specs.Matching.{firsts_of}
use Rattle.scid_page.specs.Only.{games_asked}
use Rattle.sig_index.specs.declared.head_query.HeadQuery.{HeadQuery}

asked-one-each : (query : Option HeadQuery) (kept : Kept) → length (games_asked query kept) ≡ length kept.entries
asked-one-each None kept = length-replicate (length kept.entries) (Some 0)
asked-one-each (Some query) kept =
    length-searched And (firsts_of query (heads_of kept) (sigs_of kept)) (all_in (length kept.entries)) ∙ length-replicate (length kept.entries) (Some 0)

pub one_each : (query : Option HeadQuery) (kept : Kept) (plies : List (Option ℕ)) → plies ≡ games_asked query kept → length plies ≡ length kept.entries
one_each query kept plies same = ap (λ (all : List (Option ℕ)). length all) same ∙ asked-one-each query kept
