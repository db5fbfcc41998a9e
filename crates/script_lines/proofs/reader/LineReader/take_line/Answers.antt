use Rattle.std.proofs.Common.{arith, ◌-◌, length, ap, ◌∙◌}
use Rattle.std.proofs.lemmas.List.{length-drop}
use Rattle.script_lines.specs.Script.{longest_script}
use Rattle.script_lines.proofs.ScriptLaws.{feed_room}
use Rattle.script_lines.proofs.reader.LineReader.take_line.Goals as goal

pub take-requires-clause-there : goal.take-requires-clause-there
take-requires-clause-there c =
    let room = feed_room (longest_script - c.args.self.now.used) c.args.self.now.unread c.args.place c.requires.at in omega (arith, room.1)

pub take-requires-clause-within : goal.take-requires-clause-within
take-requires-clause-within c =
    let room = feed_room (longest_script - c.args.self.now.used) c.args.self.now.unread c.args.place c.requires.at in omega (arith, room.2)

pub pass-requires-clause-there : goal.pass-requires-clause-there
pass-requires-clause-there c =
    let room = feed_room (longest_script - c.args.self.now.used) c.args.self.now.unread c.args.place c.requires.at in
    let rest = ap length c.in_ok-take.ensures.unread ∙ length-drop c.args.place c.args.self.now.unread in
    omega (arith, room.1, rest)

pub pass-requires-clause-within : goal.pass-requires-clause-within
pass-requires-clause-within c =
    let room = feed_room (longest_script - c.args.self.now.used) c.args.self.now.unread c.args.place c.requires.at in
    omega (arith, room.2, c.in_ok-take.ensures.used)

pub returns-clause-sum : goal.returns-clause-sum
returns-clause-sum c =
    let room = feed_room (longest_script - c.args.self.now.used) c.args.self.now.unread c.args.place c.requires.at in
    let rest = ap length c.in_ok-take.ensures.unread ∙ length-drop c.args.place c.args.self.now.unread in
    let last = ap length c.pass.ensures.unread ∙ length-drop 1 c.take.new.self.unread in
    omega (arith, room.1, rest, last, c.in_ok-take.ensures.used, c.pass.ensures.used)

pub returns-clause-shorter : goal.returns-clause-shorter
returns-clause-shorter c =
    let room = feed_room (longest_script - c.args.self.now.used) c.args.self.now.unread c.args.place c.requires.at in
    let rest = ap length c.in_ok-take.ensures.unread ∙ length-drop c.args.place c.args.self.now.unread in
    let last = ap length c.pass.ensures.unread ∙ length-drop 1 c.take.new.self.unread in
    omega (arith, room.1, rest, last)
