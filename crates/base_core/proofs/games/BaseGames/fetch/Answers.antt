use Rattle.std.proofs.Common.{◌≤◌, ◌+◌, sym, subst}
use Rattle.base_files.specs.declared.extent.Extent.{Extent}
use Rattle.base_core.proofs.games.BaseGames.fetch.Goals as goal

pub fetch-requires-clause-within : goal.fetch-requires-clause-within
fetch-requires-clause-within g c =
    let W : Extent → Type 0 = λ x. x.offset + x.len ≤ (g.F.Files.seen c.args.files.now).known in
    subst W (sym c.place-extent.ensures.place) (c.requires.within c.args.i)
