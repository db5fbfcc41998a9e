use Rattle.std.proofs.Common.{◌≡◌, ◌≢◌, Err, OnErr, subst}
use Rattle.base_files.specs.Seen.{Seen}
use Rattle.base_core.specs.declared.fault.EditError.TheVariants.{Failed}
use Rattle.base_core.proofs.TagLaws.{sets, sets-told, there-is, unplaced-all}
use Rattle.base_core.proofs.base.Base.set_tag.Goals as goal

pub returns-clause-edited : goal.returns-clause-edited
returns-clause-edited g c =
    sets c.replace_game.result c.args.i c.args.edit.now c.args.self.now c.replace_game.new.self (g.F.Files.seen c.args.files.now) (g.F.Files.seen c.game.new.files) (g.F.Files.seen c.replace_game.new.files) c.game.new.buf
    c.in_ok-head.head c.apply.new.head c.in_ok-head.game c.in_ok-apply.ensures.ok c.game.ensures.same_files c.in_ok-head.ensures.shown c.in_ok-head.ensures.found c.replace_game.ensures.replaced c.replace_game.ensures.room c.replace_game.ensures.appended

pub returns-clause-tagged : goal.returns-clause-tagged
returns-clause-tagged g c =
    let done = sets c.replace_game.result c.args.i c.args.edit.now c.args.self.now c.replace_game.new.self (g.F.Files.seen c.args.files.now) (g.F.Files.seen c.game.new.files) (g.F.Files.seen c.replace_game.new.files) c.game.new.buf
    c.in_ok-head.head c.apply.new.head c.in_ok-head.game c.in_ok-apply.ensures.ok c.game.ensures.same_files c.in_ok-head.ensures.shown c.in_ok-head.ensures.found c.replace_game.ensures.replaced c.replace_game.ensures.room c.replace_game.ensures.appended
    in
    sets-told c.replace_game.result c.args.i c.args.edit.now c.args.self.now c.replace_game.new.self (g.F.Files.seen c.args.files.now) (g.F.Files.seen c.replace_game.new.files) c.game.new.buf c.requires.at_end.told
    (there-is c.game.result _ c.args.self.now c.args.i c.in_ok-head.was c.game.ensures.no_game.1) done

pub returns-clause-why : goal.returns-clause-why
returns-clause-why g c =
    unplaced-all c.replace_game.result c.args.self.now (g.F.Files.seen c.args.files.now).games c.args.i c.args.edit.now c.game.new.buf c.in_ok-head.head c.apply.new.head c.in_ok-head.game c.in_ok-apply.ensures.ok
    c.in_ok-head.ensures.shown c.in_ok-head.ensures.found c.replace_game.ensures.why

pub returns-clause-none_added : goal.returns-clause-none_added
returns-clause-none_added g c =
    let S : Seen → Type 0 = λ s. OnErr c.replace_game.result (c.replace_game.result ≢ Err Failed → g.F.Files.seen c.replace_game.new.files ≡ s) in
    subst S c.game.ensures.same_files c.replace_game.ensures.none_added
