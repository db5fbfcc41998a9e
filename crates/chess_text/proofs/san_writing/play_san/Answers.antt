use Rattle.std.specs.Option.{option_to_list}
use Rattle.chess_laws.proofs.Stepping.{Step-stepped}
use Rattle.chess_text.proofs.RivalLaws.{san-by}
use Rattle.chess_text.specs.SanText.{san_text}
use Rattle.chess_text.proofs.OneText.{one-text}
use Rattle.chess_text.proofs.TextLaws.{computed}
use Rattle.chess_text.proofs.WrittenSan.{san-reads}
use Rattle.chess_text.proofs.san_writing.play_san.Goals as goal

pub returns-clause-text : goal.returns-clause-text
returns-clause-text c =
    san-by c.args.p.now c.play_as.new.self c.args.m.now c.effect-effect.result _ c.front_of-text.result.items (option_to_list c.sign_behind.result)
    c.effect-effect.ensures.effect c.play_as.ensures.step c.front_of-text.ensures.text c.sign_behind.ensures.sign c.push_sign.ensures.text

pub returns-clause-exact : goal.returns-clause-exact
returns-clause-exact c =
    one-text c.args.p.now c.args.m.now _ (san_text c.args.p.now c.args.m.now)
    (san-by c.args.p.now c.play_as.new.self c.args.m.now c.effect-effect.result _ c.front_of-text.result.items (option_to_list c.sign_behind.result)
    c.effect-effect.ensures.effect c.play_as.ensures.step c.front_of-text.ensures.text c.sign_behind.ensures.sign c.push_sign.ensures.text)
    (computed c.args.p.now c.args.m.now c.setup.ensures.sound c.requires.legal)

pub returns-clause-read_again : goal.returns-clause-read_again
returns-clause-read_again c =
    san-reads c.args.p.now c.args.m.now _ c.setup.ensures.sound c.requires.legal
    (san-by c.args.p.now c.play_as.new.self c.args.m.now c.effect-effect.result _ c.front_of-text.result.items (option_to_list c.sign_behind.result)
    c.effect-effect.ensures.effect c.play_as.ensures.step c.front_of-text.ensures.text c.sign_behind.ensures.sign c.push_sign.ensures.text)

pub returns-clause-becomes : goal.returns-clause-becomes
returns-clause-becomes c = Step-stepped c.args.p.now c.args.m.now c.play_as.new.self c.play_as.ensures.step
