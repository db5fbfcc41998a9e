use Rattle.std.proofs.Common.{rules, [], sym, subst}
use Rattle.std.proofs.lemmas.Result.{err_from_is_err_and}
use Rattle.game_codec.specs.Breach.{Tells}
use Rattle.game_codec.specs.Fault.{Breaks}
use Rattle.game_codec.specs.Moves.{BreaksMoves, Upto}
use Rattle.game_codec.specs.Place.{Place}
use Rattle.game_codec.specs.Start.{BeginsStart}
use Rattle.game_codec.specs.TagReading.{BeginsTags}
use Rattle.game_codec.proofs.CheckLaws.{line_is, moves_broken, some_record, start_broken, texts_broken}
use Rattle.game_codec.proofs.checking.check.Goals as goal

pub returns-in_err-read-clause-err : goal.returns-in_err-read-clause-err
returns-in_err-read-clause-err c =
    let bytes = c.args.bytes.now in
    let tags = c.in_ok-tags_len.ensures.ok in
    let first = subst (BeginsTags bytes tags.0) (sym c.split_at.ensures.back) tags.1 in
    let told : Tells (Breaks bytes) c.in_err-read.field-0.0 =
    start_broken bytes c.split_at.result.1.now tags.0 c.in_err-read.field-0.0 first c.in_err-read.ensures.err in
    search (rules, told)

pub returns-in_err-used-clause-err : goal.returns-in_err-used-clause-err
returns-in_err-used-clause-err c =
    let bytes = c.args.bytes.now in
    let tags = c.in_ok-tags_len.ensures.ok in
    let start = c.read_start.new.start in
    let behind_tags = c.split_at.result.1.now in
    let behind_start = c.split_at-2.result.1.now in
    let first = subst (BeginsTags bytes tags.0) (sym c.split_at.ensures.back) tags.1 in
    let then = subst (BeginsStart behind_tags start) (sym c.split_at-2.ensures.back) c.in_ok-read.ensures.ok in
    let tells = subst (λ (p : Place). Tells (λ rest what. (u : Upto) × BreaksMoves p u behind_start rest what) c.in_err-used.field-0.0) c.beginning.ensures.beginning c.in_err-used.ensures.err in
    let told : Tells (Breaks bytes) c.in_err-used.field-0.0 = moves_broken bytes behind_tags behind_start [] tags.0 start first then c.in_err-used.field-0.0 tells in
    let gone = err_from_is_err_and c.from_residual-in_err-used.result c.from_residual-in_err-used.ensures.1 in
    rw (gone.1, gone.2) told

pub returns-clause-ok : goal.returns-clause-ok
returns-clause-ok c =
    let bytes = c.args.bytes.now in
    let tags = c.in_ok-tags_len.ensures.ok in
    let start = c.read_start.new.start in
    let behind_tags = c.split_at.result.1.now in
    let behind_start = c.split_at-2.result.1.now in
    let behind_moves = c.split_at-3.result.1.now in
    let first = subst (BeginsTags bytes tags.0) (sym c.split_at.ensures.back) tags.1 in
    let then = subst (BeginsStart behind_tags start) (sym c.split_at-2.ensures.back) c.in_ok-read.ensures.ok in
    let line =
    line_is c.beginning.result start behind_start behind_moves c.in_ok-used.used c.new-tally.result c.check_line.new.tally c.beginning.ensures.beginning
    c.split_at-3.ensures.back c.new-tally.ensures.none c.in_ok-used.ensures.spelled in
    some_record bytes behind_tags behind_start behind_moves tags.0 start first then c.check_line.new.tally.comments c.in_ok-_some._some line c.in_ok-_some.ensures.ok

pub returns-in_err-_some-clause-err : goal.returns-in_err-_some-clause-err
returns-in_err-_some-clause-err c =
    let bytes = c.args.bytes.now in
    let tags = c.in_ok-tags_len.ensures.ok in
    let start = c.read_start.new.start in
    let behind_tags = c.split_at.result.1.now in
    let behind_start = c.split_at-2.result.1.now in
    let behind_moves = c.split_at-3.result.1.now in
    let first = subst (BeginsTags bytes tags.0) (sym c.split_at.ensures.back) tags.1 in
    let then = subst (BeginsStart behind_tags start) (sym c.split_at-2.ensures.back) c.in_ok-read.ensures.ok in
    let line =
    line_is c.beginning.result start behind_start behind_moves c.in_ok-used.used c.new-tally.result c.check_line.new.tally c.beginning.ensures.beginning
    c.split_at-3.ensures.back c.new-tally.ensures.none c.in_ok-used.ensures.spelled in
    let told : Tells (Breaks bytes) c.in_err-_some.field-0.0 =
    texts_broken bytes behind_tags behind_start behind_moves tags.0 start first then c.check_line.new.tally.comments c.in_err-_some.field-0.0 line c.in_err-_some.ensures.err in
    let gone = err_from_is_err_and c.from_residual-in_err-_some.result c.from_residual-in_err-_some.ensures.1 in
    rw (gone.1, gone.2) told
