use Rattle.std.proofs.Common.{◌&&◌, map, sym, ◌∙◌, ap, rules}
use Rattle.std.specs.Prelude.{is_none}
use Rattle.base_core.proofs.GamesLaws.{holds}
use Rattle.base_core.specs.Base.{Held}
use Rattle.base_core.specs.Represents.{extents_of, sigs_of}
use Rattle.pos_index.specs.Hits.{rows_told}
use Rattle.pos_search.proofs.OutLemmas.{unread_out}
use Rattle.shell_state.proofs.ReadHitLaws.{game-at, none-read}
use Rattle.shell_state.proofs.hits.is_passed.Goals as goal

pub returns-clause-none : goal.returns-clause-none
returns-clause-none c = λ contents all held index yes is at told indexed.
    let base = c.args.base.now in
    let rows = rows_told index in
    none-read held c.args.query.now
    (unread_out contents (extents_of base) (sigs_of base) (map (λ (h : Held). h.game) all.games) c.args.i c.brief.result held.game index c.args.query.now indexed (holds base contents all is)
    c.brief.ensures.kept (game-at all.games c.args.i held at) c.requires.squares (sym (c.is_passed.ensures.untold yes rows told)) (c.is_passed.ensures.closed yes rows told))
