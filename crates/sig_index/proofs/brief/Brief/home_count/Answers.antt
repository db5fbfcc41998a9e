use Rattle.std.proofs.Common.{◌≡◌, ℕ, List, length, sym, ap, ◌∙◌}
use Rattle.std.proofs.lemmas.List.FromFn.{length-map-range_with_len}
use Rattle.index_entry.specs.Entry.{entry_in, home_in}
use Rattle.sig_index.specs.declared.signature.Sig.{Sig}
use Rattle.sig_index.proofs.brief.Brief.home_count.Goals as goal

sixteen : (bytes : List ℕ) → length (entry_in bytes).home ≡ 16
unfolding entry_in
sixteen bytes = length-map-range_with_len (home_in bytes) 0 16

pub returns-clause-values : goal.returns-clause-values
returns-clause-values c = sym (ap (λ (s : Sig). length s.home.values) c.self.view_is) ∙ sixteen c.self.inside.entry.now
