use Rattle.std.proofs.Common.{refl}
use Rattle.std.proofs.lemmas.Result.{err_from_is_err_and}
use Rattle.game_codec.specs.Breach.{Tells}
use Rattle.game_codec.specs.Moves.{BreaksMoves, Upto}
use Rattle.game_codec.proofs.TallyLaws.{HasTallied-breaks, by_close, by_comment, by_end, by_fault, by_move, by_nag, by_variation}
use Rattle.game_codec.proofs.checking.+check_line.Goals as goal

pub returns-in-Err-clause-err : goal.returns-in-Err-clause-err
returns-in-Err-clause-err t c = (
  c.items.rest.now,
  refl,
  HasTallied-breaks c.args.place c.args.bytes.now c.items.here c.items.rest.now c.args.tally.now c.items.tally c.in-Err.what c.items.invariant c.in-Err.ensures.fault,
)

pub returns-in_err-used-in-Open-clause-err : goal.returns-in_err-used-in-Open-clause-err
returns-in_err-used-in-Open-clause-err t c =
    let told : Tells (λ rest what. (u : Upto) × BreaksMoves c.args.place u c.args.bytes.now rest what) c.in_err-used-in-Open.field-0.0 =
    by_fault c.args.place c.args.bytes.now c.items.here c.items.rest.now c.args.tally.now c.items.tally c.items.invariant c.in-Ok.next.used c.in-Ok.ensures.used.1
    c.in-Ok.ensures.used.0 c.in-Ok.next.token c.in-Ok.ensures.takes c.next_token.new.place c.in-Ok.ensures.past c.split_at.result.1.now c.split_at.ensures.back
    c.add.new.self c.add.ensures.added c.in-Open.is c.variation.result c.variation.ensures.variation
    c.in_err-used-in-Open.field-0.0 c.in_err-used-in-Open.ensures.err in
    let gone = err_from_is_err_and c.from_residual.result c.from_residual.ensures.1 in
    rw (gone.1, gone.2) told

pub items-preserved-in-Open : goal.items-preserved-in-Open
items-preserved-in-Open t c =
    by_variation c.args.place c.args.bytes.now c.items.here c.items.rest.now c.args.tally.now c.items.tally c.items.invariant c.in-Ok.next.used c.in-Ok.ensures.used.1
    c.in-Ok.ensures.used.0 c.in-Ok.next.token c.in-Ok.ensures.takes c.next_token.new.place c.in-Ok.ensures.past c.split_at.result.1.now c.split_at.ensures.back
    c.add.new.self c.add.ensures.added c.in-Open.is c.variation.result c.variation.ensures.variation
    c.in_ok-used-in-Open.used c.in_ok-used-in-Open.ensures.used c.check_line.new.tally c.in_ok-used-in-Open.ensures.few
    c.split_at-in-Open.result.1.now c.split_at-in-Open.ensures.back c.in_ok-used-in-Open.ensures.spelled

pub returns-in-Close-clause-spelled : goal.returns-in-Close-clause-spelled
returns-in-Close-clause-spelled t c =
    by_close c.args.place c.args.bytes.now c.items.here c.items.rest.now c.args.tally.now c.items.tally c.items.invariant c.in-Ok.next.used c.in-Ok.ensures.used.1
    c.in-Ok.ensures.used.0 c.in-Ok.next.token c.in-Ok.ensures.takes c.next_token.new.place c.in-Ok.ensures.past c.split_at.result.1.now c.split_at.ensures.back
    c.add.new.self c.add.ensures.added c.in-Close.is

pub returns-in-End-clause-spelled : goal.returns-in-End-clause-spelled
returns-in-End-clause-spelled t c =
    by_end c.args.place c.args.bytes.now c.items.here c.items.rest.now c.args.tally.now c.items.tally c.items.invariant c.in-Ok.next.used c.in-Ok.ensures.used.1
    c.in-Ok.ensures.used.0 c.in-Ok.next.token c.in-Ok.ensures.takes c.next_token.new.place c.in-Ok.ensures.past c.split_at.result.1.now c.split_at.ensures.back
    c.add.new.self c.add.ensures.added c.in-End.is

pub items-preserved-in-Play : goal.items-preserved-in-Play
items-preserved-in-Play t c =
    by_move c.args.place c.args.bytes.now c.items.here c.items.rest.now c.args.tally.now c.items.tally c.items.invariant c.in-Ok.next.used c.in-Ok.ensures.used.1
    c.in-Ok.ensures.used.0 c.in-Ok.next.token c.in-Ok.ensures.takes c.next_token.new.place c.in-Ok.ensures.past c.split_at.result.1.now c.split_at.ensures.back
    c.add.new.self c.add.ensures.added _ c.in-Play.is

pub items-preserved-in-Nag : goal.items-preserved-in-Nag
items-preserved-in-Nag t c =
    by_nag c.args.place c.args.bytes.now c.items.here c.items.rest.now c.args.tally.now c.items.tally c.items.invariant c.in-Ok.next.used c.in-Ok.ensures.used.1
    c.in-Ok.ensures.used.0 c.in-Ok.next.token c.in-Ok.ensures.takes c.next_token.new.place c.in-Ok.ensures.past c.split_at.result.1.now c.split_at.ensures.back
    c.add.new.self c.add.ensures.added _ c.in-Nag.is

pub items-preserved : goal.items-preserved
items-preserved t c =
    by_comment c.args.place c.args.bytes.now c.items.here c.items.rest.now c.args.tally.now c.items.tally c.items.invariant c.in-Ok.next.used c.in-Ok.ensures.used.1
    c.in-Ok.ensures.used.0 c.in-Ok.next.token c.in-Ok.ensures.takes c.next_token.new.place c.in-Ok.ensures.past c.split_at.result.1.now c.split_at.ensures.back
    c.add.new.self c.add.ensures.added c.in-Comment.is
