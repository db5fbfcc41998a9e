use Rattle.std.proofs.Common.{refl}
use Rattle.std.proofs.lemmas.Result.{err_from_is_err_and}
use Rattle.game_codec.specs.Reading.{BreaksLine}
use Rattle.game_codec.proofs.ReadingLaws.{varies, varies-badly}
use Rattle.game_codec.proofs.reading.At.variation.Goals as goal

pub returns-in_err-used-clause-fault : goal.returns-in_err-used-clause-fault
returns-in_err-used-clause-fault c =
    let told : BreaksLine c.args.self.now c.in_err-used.field-0.0 =
    varies-badly c.args.self.now c.args.behind.now c.requires.takes c.variation.result c.in_err-used.field-0.0 c.variation.ensures.variation c.in_err-used.ensures.err in
    let gone = err_from_is_err_and c.from_residual.result c.from_residual.ensures.1 in
    rw (gone.1, gone.2) told

pub returns-clause-does : goal.returns-clause-does
returns-clause-does c =
    varies c.args.self.now c.args.behind.now c.requires.takes _ c.variation.result c.args.met c.check_line.new.tally c.in_ok-used.used c.variation.ensures.variation c.requires.met
    c.in_ok-used.ensures.used c.in_ok-used.ensures.few c.in_ok-used.ensures.spelled refl c.split_at.ensures.back refl
