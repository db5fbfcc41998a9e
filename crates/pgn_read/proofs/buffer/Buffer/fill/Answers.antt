use Rattle.std.proofs.Common.{arith, ◌≡◌, ◌+◌, ◌-◌, ◌++◌, ℕ, List, take, drop, sym, ◌∙◌}
use Rattle.pgn_read.proofs.BufferLaws.{filled, front_of, kept_behind}
use Rattle.pgn_read.proofs.buffer.Buffer.fill.Goals as goal

pub returns-clause-kept : goal.returns-clause-kept
returns-clause-kept g c =
    let from : ℕ = c.shift-from.result in
    let to : ℕ = from + (c.self.inside.to - c.self.inside.from) in
    let n : ℕ = c.in_ok-self-inside.field-0 in
    let bytes : List ℕ = c.read_to.new.bytes.items in
    let same : c.args.self.now ≡ drop c.self.inside.from (take c.self.inside.to c.self.inside.bytes.items) = sym c.self.view_is in
    let whole : drop from (take n bytes) ≡ c.args.self.now ++ drop to (take n bytes) =
    filled from to n c.args.self.now c.shift-from.new.bytes.items bytes (c.shift-from.ensures.moved ∙ sym same)
    (c.read_to.ensures.front
    ∙ front_of to c.shift-from.new.bytes.items c.lengthen.new.bytes.items
    (omega (arith, c.self.invariant, c.shift-from.ensures.before, c.shift-from.ensures.size)) c.lengthen.ensures.front)
    (omega arith) c.in_ok-self-inside.ensures.more
    (omega (arith, c.in_ok-self-inside.ensures.more, c.in_ok-self-inside.ensures.within)) in
    kept_behind c.args.self.now (drop to (take n bytes)) (drop from (take n bytes)) (g.S.Source.left c.args.source.now) (g.S.Source.left c.read_to.new.source)
    whole c.in_ok-self-inside.ensures.given
