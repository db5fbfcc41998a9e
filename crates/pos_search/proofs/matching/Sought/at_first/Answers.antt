-- Where no man is missing, all can come.
use Rattle.std.proofs.Common.{◌≡◌, List, ℕ, sym, ap, ◌∙◌}
use Rattle.chess_laws.specs.Counts.{counts_of}
use Rattle.sig_index.specs.Coming.{can_come}
use Rattle.sig_index.specs.declared.pos_query.PosQuery.{PosQuery}
use Rattle.pos_search.specs.Passing.{just}
use Rattle.pos_search.proofs.MatchLemmas.{comes_same}
use Rattle.pos_search.proofs.matching.Sought.at_first.Goals as goal

pub returns : goal.returns
returns c =
    let sought = counts_of c.args.self.now.board in
    let own : c.self.inside.counts ≡ sought = c.self.invariant.numbers ∙ ap (λ (p : PosQuery). counts_of p.board) c.self.view_is in
    record { told = sym (ap (λ (counts : List ℕ). can_come (just sought) counts) own ∙ comes_same sought) }
