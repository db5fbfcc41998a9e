use Rattle.std.proofs.Common.{List, ℕ, refl, subst}
use Rattle.std.proofs.lemmas.Result.{err_from_is_err_and}
use Rattle.game_codec.specs.Breach.{Tells}
use Rattle.game_codec.specs.Checking.{AreSomeTexts}
use Rattle.game_codec.specs.Reading.{BreaksRecord}
use Rattle.game_codec.specs.Texts.{BreaksTexts}
use Rattle.game_codec.proofs.ReadingLaws.{finishes, line-broken, texts-broken}
use Rattle.game_codec.proofs.reading.At.totals.Goals as goal

pub returns-in_err-to_end-clause-fault : goal.returns-in_err-to_end-clause-fault
returns-in_err-to_end-clause-fault c =
    let told : BreaksRecord c.args.self.now c.in_err-to_end.field-0.0 =
    λ bytes has. line-broken c.args.self.now bytes c.in_err-to_end.field-0.0 has c.in_err-to_end.ensures.fault in
    let gone = err_from_is_err_and c.from_residual.result c.from_residual.ensures.1 in
    rw (gone.1, gone.2) told

pub returns-in_err-comments-clause-fault : goal.returns-in_err-comments-clause-fault
returns-in_err-comments-clause-fault c =
    let end = c.in_ok-to_end.ensures.end in
    let q = c.to_end.new.self in
    let tells = subst (λ (l : List ℕ). Tells (BreaksTexts q.tally.comments l) c.in_err-comments.field-0.0) c.split_at.ensures.back c.in_err-comments.ensures.err in
    let told : BreaksRecord c.args.self.now c.in_err-comments.field-0.0 =
    λ bytes has. texts-broken c.args.self.now q bytes end.0 has end.1 c.in_err-comments.field-0.0 tells in
    let gone = err_from_is_err_and c.from_residual-in_err-comments.result c.from_residual-in_err-comments.ensures.1 in
    rw (gone.1, gone.2) told

pub returns-clause-finishes : goal.returns-clause-finishes
returns-clause-finishes c = λ bytes has.
    let end = c.in_ok-to_end.ensures.end in
    let q = c.to_end.new.self in
    let texts = subst (λ (l : List ℕ). AreSomeTexts q.tally.comments l c.in_ok-comments.comments) c.split_at.ensures.back c.in_ok-comments.ensures.ok in
    finishes c.args.self.now q bytes end.0 has end.1 _ texts refl refl refl refl
