use Rattle.std.proofs.Common.{◌≡◌, sym, subst, Option, List, ℕ, [], OnOk}
use Rattle.base_files.specs.Told.{adds}
use Rattle.command_runs.specs.Endings.{Halted}
use Rattle.command_runs.specs.Rendered.{Opening, no_text, said}
use Rattle.command_runs.specs.Waiting.{Waiting}
use Rattle.command_runs.proofs.Texts.{said_begun}
use Rattle.command_runs.proofs.tagged_writing.write_in.Goals as goal

pub returns-clause-said : goal.returns-clause-said
returns-clause-said g c =
    let o : Opening = g.O.Opens.opening in
    let begun = said_begun o (g.K.Sink.taken c.open-sink.result.out.now) c.open-sink.result.page.now c.open-sink.ensures.told c.open-sink.ensures.nothing in
    let P : Option (List ℕ) → Type 0 = λ first. OnOk c.write_text-result.result (said o (g.K.Sink.taken c.write_text-result.new.out.out.now) c.write_text-result.new.out.page.now ≡ adds first c.args.text.now) in
    let Q : _ → Type 0 = λ k. OnOk c.write_text-result.result (said o (g.K.Sink.taken k) c.write_text-result.new.out.page.now ≡ adds (no_text o.told) c.args.text.now) in
    let R : Waiting → Type 0 = λ p. OnOk c.write_text-result.result (said o (g.K.Sink.taken c.close.result.out.now) p ≡ adds (no_text o.told) c.args.text.now) in
    subst R (sym c.close.ensures.page) (subst Q (sym c.close.ensures.out) (subst P begun c.write_text-result.ensures.written))

pub returns-clause-halted : goal.returns-clause-halted
returns-clause-halted g c =
    let o : Opening = g.O.Opens.opening in
    let begun = said_begun o (g.K.Sink.taken c.open-sink.result.out.now) c.open-sink.result.page.now c.open-sink.ensures.told c.open-sink.ensures.nothing in
    let P : Option (List ℕ) → Type 0 = λ first. Halted [] c.args.text.now first (said o (g.K.Sink.taken c.write_text-result.new.out.out.now) c.write_text-result.new.out.page.now) in
    let Q : _ → Type 0 = λ k. Halted [] c.args.text.now (no_text o.told) (said o (g.K.Sink.taken k) c.write_text-result.new.out.page.now) in
    let R : Waiting → Type 0 = λ p. Halted [] c.args.text.now (no_text o.told) (said o (g.K.Sink.taken c.close.result.out.now) p) in
    subst R (sym c.close.ensures.page) (subst Q (sym c.close.ensures.out) (subst P begun c.write_text-result.ensures.halted))
