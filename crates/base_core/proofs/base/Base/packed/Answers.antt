use Rattle.std.proofs.Common.{◌≡◌, slice_get, Some, subst}
use Rattle.index_entry.specs.Entry.{entry_in}
use Rattle.base_core.specs.Represents.{IsSound, Kept}
use Rattle.base_core.proofs.GamesLaws.{head-at, kept-at, plies-at}
use Rattle.base_core.proofs.base.Base.packed.Goals as goal

pub returns : goal.returns
returns c =
    let e = entry_in c.packed.result.now in
    let kept = c.args.self.now in
    let at : slice_get kept.entries c.args.i ≡ Some e = subst (λ (k : Kept). slice_get k.entries c.args.i ≡ Some e) c.self.view_is c.packed.ensures.at in
    let is = kept-at kept c.args.i e (subst IsSound c.self.view_is c.self.invariant) at in
    record {
      at = at;
      kept = is;
      head = head-at kept c.args.i e at;
      plies = plies-at kept c.args.i e at;
      named = is.named;
    }
