use Rattle.std.proofs.Common.{ℕ, List, drop, rules, sym, subst}
use Rattle.std.proofs.lemmas.List.{drop-drop}
use Rattle.game_codec.specs.Breach.{Tells}
use Rattle.game_codec.specs.Fault.{Breaks}
use Rattle.game_codec.specs.TagReading.{BeginsTags}
use Rattle.game_codec.proofs.CheckLaws.{start_broken, tags_broken}
use Rattle.game_codec.specs.Start.{BeginsStart, BreaksStart}
use Rattle.game_codec.proofs.PassLaws.{if_err}
use Rattle.game_codec.proofs.WalkSteps.{begun, no_start, no_tags, starts_so}
use Rattle.game_codec.proofs.walk.begin.Goals as goal

pub returns-in_err-used-clause-fault : goal.returns-in_err-used-clause-fault
returns-in_err-used-clause-fault c =
    let told = c.in_err-used.ensures.err in
    if_err _ c.from_residual.result (λ some. no_tags c.args.bytes.now told.0 c.in_err-used.field-0.0.what told.2 some)

pub returns-in_err-read-clause-fault : goal.returns-in_err-read-clause-fault
returns-in_err-read-clause-fault c =
    let tags = c.in_ok-used.ensures.ok in
    let told = c.in_err-read.ensures.err in
    let what = c.in_err-read.field-0.0.what in
    let breaks = subst (λ (l : List ℕ). BreaksStart l told.0 what) c.split_at.ensures.back told.2 in
    if_err _ c.from_residual-in_err-read.result (λ some. no_start c.args.bytes.now tags.0 c.in_ok-used.used told.0 what tags.1 breaks some)

pub returns-clause-begun : goal.returns-clause-begun
returns-clause-begun c =
    let tags = c.in_ok-used.ensures.ok in
    let start = c.read_start.new.start in
    let used = c.in_ok-read.read in
    let then = subst (λ (l : List ℕ). BeginsStart l start (drop used l)) c.split_at.ensures.back c.in_ok-read.ensures.ok in
    begun c.args.bytes.now tags.0 start c.in_ok-used.used used tags.1 then

pub returns-in_err-used-clause-first : goal.returns-in_err-used-clause-first
returns-in_err-used-clause-first c =
    let told : Tells (Breaks c.args.bytes.now) c.in_err-used.field-0.0 = tags_broken c.args.bytes.now c.in_err-used.field-0.0 c.in_err-used.ensures.err in
    search (rules, told)

pub returns-in_err-read-clause-first : goal.returns-in_err-read-clause-first
returns-in_err-read-clause-first c =
    let bytes = c.args.bytes.now in
    let tags = c.in_ok-used.ensures.ok in
    let first = subst (BeginsTags bytes tags.0) (sym c.split_at.ensures.back) tags.1 in
    let told : Tells (Breaks bytes) c.in_err-read.field-0.0 =
    start_broken bytes c.split_at.result.1.now tags.0 c.in_err-read.field-0.0 first c.in_err-read.ensures.err in
    search (rules, told)

pub returns-clause-starts : goal.returns-clause-starts
returns-clause-starts c =
    let tags = c.in_ok-used.ensures.ok in
    let start = c.read_start.new.start in
    let used = c.in_ok-read.read in
    let then = subst (λ (l : List ℕ). BeginsStart l start (drop used l)) c.split_at.ensures.back c.in_ok-read.ensures.ok in
    starts_so c.args.bytes.now tags.0 start c.in_ok-used.used used tags.1 then

pub returns-clause-spelled : goal.returns-clause-spelled
returns-clause-spelled c =
    let tags = c.in_ok-used.ensures.ok in
    let start = c.read_start.new.start in
    let used = c.in_ok-read.read in
    let behind = drop c.in_ok-used.used c.args.bytes.now in
    let then = subst (λ (l : List ℕ). BeginsStart l start (drop used l)) c.split_at.ensures.back c.in_ok-read.ensures.ok in
    (tags.0, (behind, (tags.1, subst (BeginsStart behind start) (drop-drop used c.in_ok-used.used c.args.bytes.now) then)))
