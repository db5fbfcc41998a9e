use Rattle.std.proofs.Common.{ℕ, take, subst, arith}
use Rattle.base_files.specs.Told.{Tells, part_told}
use Rattle.base_core.proofs.ReadLaws.{asked-le}
use Rattle.base_core.proofs.Results.{from_ok}
use Rattle.mend_base.proofs.DeviceLaws.{if-ok-weaker}
use Rattle.mend_base.proofs.FindLaws.{cost-there, ends-in, left-found, unread-place, whole-found}
use Rattle.mend_base.proofs.finding.find_game.Goals as goal

pub returns-in-Some-clause-found : goal.returns-in-Some-clause-found
returns-in-Some-clause-found g c =
    unread-place (g.F.Files.seen c.args.old.now).games c.args.source.now.way c.args.source.now.index.now c.args.source.now.names.now c.args.source.now.end c.args.game c.entry_of_game-change.result.0 c.in-Some.what c.requires.told
    c.entry_of_game-change.ensures.known c.in-Some.ensures.first

pub read_games-requires-clause-within : goal.read_games-requires-clause-within
read_games-requires-clause-within g c =
    omega (arith, c.from.ensures, ends-in c.args.source.now.end c.entry_of_game-change.result.0 c.in_default.ensures.first, c.requires.known)

pub returns-then-is_err-clause-asks : goal.returns-then-is_err-clause-asks
returns-then-is_err-clause-asks g c =
    omega (arith, asked-le _ _ _ c.read_games.ensures.asks, cost-there c.args.source.now.index.now c.args.game c.entry_of_game-change.result.0 c.entry_of_game-change.ensures.known)

pub returns-in-Ok-clause-asks : goal.returns-in-Ok-clause-asks
returns-in-Ok-clause-asks g c =
    omega (arith, asked-le _ _ _ c.read_games.ensures.asks, cost-there c.args.source.now.index.now c.args.game c.entry_of_game-change.result.0 c.entry_of_game-change.ensures.known)

pub returns-in-Err-clause-asks : goal.returns-in-Err-clause-asks
returns-in-Err-clause-asks g c =
    omega (arith, asked-le _ _ _ c.read_games.ensures.asks, cost-there c.args.source.now.index.now c.args.game c.entry_of_game-change.result.0 c.entry_of_game-change.ensures.known)

pub returns-in-Ok-clause-found : goal.returns-in-Ok-clause-found
returns-in-Ok-clause-found g c =
    let entry = c.entry_of_game-change.result.0 in
    let T : ℕ → Type 0 = λ n. Tells (part_told (g.F.Files.seen c.args.old.now).games n entry.len) (take entry.len c.read_games.new.into) in
    let tells = subst T c.from.ensures (from_ok c.read_games.result (T c.from.result) c.if-is_err.ensures.value c.read_games.ensures.bytes) in
    whole-found (g.F.Files.seen c.args.old.now).games c.args.source.now.way c.args.source.now.index.now c.args.source.now.names.now c.args.source.now.end c.args.game c.read_games.new.into entry c.in-Ok.kept
    c.entry_of_game-change.result.1 c.requires.told tells c.entry_of_game-change.ensures.known c.in_default.ensures.first c.entry_of_game-change.ensures.change c.in-Ok.ensures.mended

pub returns-in-Err-clause-found : goal.returns-in-Err-clause-found
returns-in-Err-clause-found g c =
    let entry = c.entry_of_game-change.result.0 in
    let T : ℕ → Type 0 = λ n. Tells (part_told (g.F.Files.seen c.args.old.now).games n entry.len) (take entry.len c.read_games.new.into) in
    let tells = subst T c.from.ensures (from_ok c.read_games.result (T c.from.result) c.if-is_err.ensures.value c.read_games.ensures.bytes) in
    if-ok-weaker _ _ c.find_left.result
    (λ find found. left-found (g.F.Files.seen c.args.old.now).games c.args.source.now.way c.args.source.now.index.now c.args.source.now.names.now c.args.source.now.end c.args.game c.find_left.new.buf
    (take entry.len c.read_games.new.into) entry c.in-Err.fault find c.requires.told tells c.entry_of_game-change.ensures.known c.in_default.ensures.first c.in-Err.ensures.fault.answer found)
    c.find_left.ensures.found
