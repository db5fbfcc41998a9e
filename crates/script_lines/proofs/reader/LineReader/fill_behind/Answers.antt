use Rattle.std.proofs.Common.{arith, ◌≡◌, ◌+◌, ◌-◌, ℕ, List, ◌++◌, length, drop, take, sym, ap, ◌∙◌}
use Rattle.base_files.specs.Told.{before}
use Rattle.script_lines.specs.Reading.{Reader}
use Rattle.script_lines.proofs.ReadingLaws.{all_lent, filled_behind}
use Rattle.script_lines.proofs.reader.LineReader.fill_behind.Goals as goal

pub returns-clause-kept : goal.returns-clause-kept
returns-clause-kept g c =
    let u : ℕ = c.self.inside.to - c.self.inside.from in
    let new : List ℕ = c.read_behind.new.piece in
    let same : c.args.self.now.unread ≡ drop c.self.inside.from (take c.self.inside.to c.self.inside.piece.items) = ap (λ (r : Reader). r.unread) (sym c.self.view_is) in
    let back : take c.shift.new.piece.len (new ++ drop (length new) c.shift.new.piece.items) ≡ new =
    all_lent c.shift.new.piece.len new c.shift.new.piece.items (omega (arith, c.read_behind.ensures.size, c.as_mut_slice.ensures.len)) in
    filled_behind u c.in_ok-count.count new c.args.self.now.unread (g.S.Source.left c.args.input.now) (g.S.Source.left c.read_behind.new.input)
    (c.read_behind.ensures.kept ∙ ap (take u) c.as_mut_slice.ensures.value ∙ c.shift.ensures.moved ∙ sym same) c.in_ok-count.ensures.given
    ∙ ap (λ (p : List ℕ). before (take (u + c.in_ok-count.count) p) (g.S.Source.left c.read_behind.new.input)) (sym back)
