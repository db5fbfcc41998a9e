use Rattle.std.proofs.Common.{arith, not, ◌≡◌, ◌-◌, length, take, ap, sym, ◌∙◌}
use Rattle.std.proofs.lemmas.List.{length-drop, length-take, take_all}
use Rattle.script_lines.specs.Bodies.{feed_at}
use Rattle.script_lines.specs.Script.{longest_script}
use Rattle.script_lines.proofs.ReadingLaws.{front_part, none_more, ok_is, some_more, took_part}
use Rattle.script_lines.proofs.reader.LineReader.take_open.Goals as goal

pub take-requires-clause-within : goal.take-requires-clause-within
take-requires-clause-within c =
    let size = ap length c.within-within.ensures.within ∙ length-take (longest_script - c.args.self.now.used) c.args.self.now.unread in
    omega (arith, size, c.within-within.ensures.used)

pub returns-clause-part : goal.returns-clause-part
returns-clause-part c = λ l.
    let room = longest_script - c.args.self.now.used in
    let count = length c.within-within.result.now in
    let same : take count c.args.self.now.unread ≡ take room c.args.self.now.unread =
    ap (λ b. take (length b) c.args.self.now.unread) c.within-within.ensures.within ∙ front_part room c.args.self.now.unread in
    let size = ap length c.within-within.ensures.within ∙ length-take room c.args.self.now.unread in
    took_part c.args.self.now c.take.new.self count l (ap feed_at same ∙ c.requires.none) (omega (arith, size)) c.in_ok-take.ensures.unread c.take.ensures.tagged c.in_ok-take.ensures.line c.in_ok-take.ensures.used

pub returns-clause-full : goal.returns-clause-full
returns-clause-full c = λ is.
    let size = ap length c.within-within.ensures.within ∙ length-take (longest_script - c.args.self.now.used) c.args.self.now.unread in
    let rest = ap length c.in_ok-take.ensures.unread ∙ length-drop (length c.within-within.result.now) c.args.self.now.unread in
    let more = some_more (length c.unread.result.now) (ap not (sym c.is_empty.ensures) ∙ ok_is is) in
    let same = ap length c.unread.ensures.unread in
    record {
      full = omega (arith, size, rest, more, same, c.in_ok-take.ensures.used, c.within-within.ensures.used);
      more = omega (arith, more, same);
    }

pub returns-clause-none : goal.returns-clause-none
returns-clause-none c = λ is.
    let room = longest_script - c.args.self.now.used in
    let unread = c.args.self.now.unread in
    let size = ap length c.within-within.ensures.within ∙ length-take room unread in
    let rest = ap length c.in_ok-take.ensures.unread ∙ length-drop (length c.within-within.result.now) unread in
    let none = none_more (length c.unread.result.now) (ap not (sym c.is_empty.ensures) ∙ ok_is is) in
    let same = ap length c.unread.ensures.unread in
    ap feed_at (sym (take_all room unread (omega (arith, size, rest, none, same)))) ∙ c.requires.none
