-- Laws of the search for counts of men over a machine.
use Rattle.std.proofs.Common.{◌≡◌, ℕ, ◌+◌, List, [], ◌∷◌, map, refl, ap, ◌∙◌}
use Rattle.base_core.specs.Entries.{extent_of, sig_in}
use Rattle.game_filter.specs.declared.op.Op.{Op}
use Rattle.index_entry.specs.declared.entry.Entry.{Entry}
use Rattle.mat_search.specs.Passing.{passes}
use Rattle.game_search.specs.Questions.{cost_of}
use Rattle.mat_search.specs.Searching.{price}
use Rattle.pos_index.specs.Hits.{rows_told}
use Rattle.sig_index.specs.declared.mat_query.MatQuery.{MatQuery}
use Rattle.sig_index.specs.declared.signature.Sig.{Sig}
use Rattle.search_commands.specs.Searching.{material_len}
use Rattle.shell_state.proofs.PriceLaws.{searched_looks}
use Rattle.shell_state.proofs.Quietly.{Plies}
use Rattle.shell_state.specs.Passing.{searched_len}
use Rattle.shell_state.specs.Stands.{Holding, looks_in}

search-price : (op : Op) (query : MatQuery) (plies : Plies) (entries : List Entry)
    → price op query (map sig_in entries) (map extent_of entries) plies ≡ searched_len (λ (e : Entry). e.len) (λ (e : Entry). passes (sig_in e) query) op plies entries
search-price op query [] [] = refl
search-price op query [] (e ∷ entries) = refl
search-price op query (old ∷ plies) [] = refl
search-price op query (old ∷ plies) (e ∷ entries) =
    ap (λ (n : ℕ). cost_of op (passes (sig_in e) query) (extent_of e) old + n) (search-price op query plies entries)

-- What the search asks is what the command costs.
pub price_is : (op : Op) (query : MatQuery) (plies : Plies) (holding : Holding)
    → price op query (map sig_in holding.kept.entries) (map extent_of holding.kept.entries) plies ≡ material_len op query (looks_in holding) plies
price_is op query plies holding =
    search-price op query plies holding.kept.entries
    ∙ searched_looks (λ (s : Sig). passes s query) op plies holding.kept.names (rows_told holding.tables.index) holding.kept.entries
