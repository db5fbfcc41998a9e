use Rattle.pos_index.specs.Hits.{rows_told}
use Rattle.std.proofs.Common.{◌≡◌, sym, subst}
use Rattle.std.specs.Prelude.{IfOk, option_copied}
use Rattle.sig_index.specs.declared.pos_query.PosQuery.{PosQuery}
use Rattle.pos_search.specs.Matching.{hit_of}
use Rattle.pos_search.specs.Telling.{hits_told}
use Rattle.pos_search.proofs.searching.hit.Goals as goal

pub returns-clause-found : goal.returns-clause-found
returns-clause-found g c = λ told list game same holds there is.
    subst (λ (q : PosQuery). IfOk c.hit_sought.result (λ hit. hit ≡ hit_of q game)) c.new.ensures.query
    (c.hit_sought.ensures.found told list game (option_copied c.args.index) same holds there c.new.ensures.squares
    (subst (λ (q : PosQuery). c.hits_told.result ≡ hits_told q (rows_told (option_copied c.args.index))) (sym c.new.ensures.query) c.hits_told.ensures.told) is)
