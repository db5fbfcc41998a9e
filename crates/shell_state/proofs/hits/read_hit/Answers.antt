use Rattle.std.proofs.Common.{ℕ, Option, map, ap, sym, subst, ◌∙◌}
use Rattle.base_core.proofs.GamesLaws.{are-within, holds}
use Rattle.base_core.specs.Base.{Held}
use Rattle.base_core.specs.Represents.{extents_of, heads_of, sigs_of}
use Rattle.cell_core.specs.declared.man.Colour.{Colour}
use Rattle.cell_core.specs.declared.step.Move.{Move}
use Rattle.pos_search.specs.Matching.{IsLegalFrom}
use Rattle.sig_index.specs.Games.{head_in}
use Rattle.tree_rows.specs.Hits.{hit_of}
use Rattle.tree_rows.specs.MoveText.{IsKey}
use Rattle.tree_rows.specs.declared.hit.GameHit.{GameHit}
use Rattle.shell_state.proofs.ReadHitLaws.{game-at, hit-read, key-from, none-read}
use Rattle.shell_state.proofs.hits.read_hit.Goals as goal
use Rattle.shell_state.proofs.HoldingLaws.{fetch_device}
use Rattle.shell_state.specs.Ends.{IsDevice}
use Rattle.shell_state.specs.declared.halt.Halt.{Halt}

pub hit_sought-requires-clause-within : goal.hit_sought-requires-clause-within
hit_sought-requires-clause-within g c = are-within c.args.base.now (g.F.Files.seen c.args.files.now).known c.requires.sound c.requires.within

pub returns-in-Ok-Some-clause-hit : goal.returns-in-Ok-Some-clause-hit
returns-in-Ok-Some-clause-hit g c = λ contents all held index same is at told indexed.
    let base = c.args.base.now in
    let found = c.in-Ok-Some.ensures.found contents (map (λ (h : Held). h.game) all.games) held.game index same (holds base contents all is) (game-at all.games c.args.i held at)
    c.requires.squares told indexed in
    hit-read base contents all held c.args.i c.args.query.now c.in-Ok-Some.field-0-0-0 c.in-Ok-Some.next c.counted.result is at
    (sym c.in-Ok-Some.field-0-is ∙ found) (c.counted.ensures.counted ∙ ap (λ (side : Colour). hit_of c.in-Ok-Some.next side (head_in (heads_of base) c.args.i)) c.side.ensures.side)

pub returns-in-Ok-Some-clause-key : goal.returns-in-Ok-Some-clause-key
returns-in-Ok-Some-clause-key g c =
    let query = c.args.query.now in
    let L : Option (ℕ × Option Move) → Type 0 = λ found. IsLegalFrom query found in
    let K : GameHit → Type 0 = λ hit. IsKey query.board query.side hit.next in
    subst K (sym c.counted.ensures.counted) (key-from query c.in-Ok-Some.field-0-0-0 c.in-Ok-Some.next c.requires.squares c.requires.exact (subst L c.in-Ok-Some.field-0-is (c.in-Ok-Some.ensures.legal c.requires.legal)))

pub returns-in-Ok-None-clause-hit : goal.returns-in-Ok-None-clause-hit
returns-in-Ok-None-clause-hit g c = λ contents all held index same is at told indexed.
    let found = c.in-Ok-None.ensures.found contents (map (λ (h : Held). h.game) all.games) held.game index same (holds c.args.base.now contents all is) (game-at all.games c.args.i held at)
    c.requires.squares told indexed in
    none-read held c.args.query.now (sym c.in-Ok-None.field-0-is ∙ found)

pub returns-in-Err-clause-devices : goal.returns-in-Err-clause-devices
returns-in-Err-clause-devices g c = λ told all same is.
    let D : Halt → Type 0 = λ e. IsDevice e in
    subst D (sym c.from.ensures)
    (fetch_device c.in-Err.error (g.F.Files.seen c.args.files.now).games told (extents_of c.args.base.now) (sigs_of c.args.base.now) (map (λ (h : Held). h.game) all.games) c.hit_sought.new.buf _ _
    same (holds c.args.base.now told all is) c.in-Err.ensures.cause)
