use Rattle.std.proofs.Common.{◌+◌, sym, subst}
use Rattle.std.specs.Prelude.{All, IfSome}
use Rattle.pos_index.specs.declared.hit.Hit.{Hit}
use Rattle.pos_index.specs.Hits.{IsLegalOn}
use Rattle.pos_index.proofs.LegalHits.{rows_legal}
use Rattle.pos_index.proofs.index.PosIndex.find.Goals as goal

pub returns-clause-legal : goal.returns-clause-legal
returns-clause-legal c =
    subst (All (λ (hit : Hit). IfSome hit.next (IsLegalOn c.args.p.now))) (sym c.find.ensures)
    (rows_legal (c.self.inside.depth + 1) c.args.p.now 0 c.self.inside.places c.self.invariant.1.1.0)
