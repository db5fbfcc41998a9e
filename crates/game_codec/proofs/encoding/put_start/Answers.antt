use Rattle.std.proofs.Common.{◌≡◌, ℕ, List, true, false, ◌++◌, sym, ap, ◌∙◌}
use Rattle.chess_laws.specs.Position.{is_start}
use Rattle.game_codec.proofs.WritingLaws.{own-adds, standard-adds}
use Rattle.game_codec.proofs.encoding.put_start.Goals as goal

pub returns-then-is_start-clause-start : goal.returns-then-is_start-clause-start
returns-then-is_start-clause-start c =
    let initial : is_start c.args.start.now ≡ true = sym c.is_start.ensures.decided ∙ c.if-is_start.true in
    standard-adds c.args.start.now c.args.flags c.args.out.now.items c.push.new.self.items c.standard.result initial c.in_ok-push.ensures.items
    c.standard.ensures.position c.standard.ensures.numbers

pub returns-clause-start : goal.returns-clause-start
returns-clause-start c =
    let own : is_start c.args.start.now ≡ false = sym c.is_start.ensures.decided ∙ c.if-is_start.false in
    own-adds c.args.start.now c.args.flags c.args.out.now.items c.push-2.new.self.items c.extend_from_slice.new.self.items c.push-3.new.self.items
    c.in_ok-fen.fen c.from_start.result own c.in_ok-push-2.ensures.items c.in_ok-fen.ensures.written
    (c.in_ok-extend_from_slice.ensures.items ∙ ap (λ (bytes : List ℕ). c.push-2.new.self.items ++ bytes) c.as_bytes.ensures.bytes)
    c.in_ok-push-3.ensures.items c.from_start.ensures.position c.from_start.ensures.numbers
