use Rattle.std.proofs.Common.{◌≡◌, Bool, false, IfSome, sym, subst}
use Rattle.name_base.proofs.FileLemmas.{names_again}
use Rattle.base_core.specs.Opening.{Opens, is_created}
use Rattle.base_core.specs.Represents.{Kept}
use Rattle.base_core.proofs.OpenLaws.{entries_refuse, opens_told}
use Rattle.base_core.proofs.opening.open_loaded.Goals as goal

pub returns-in-Err-read_games-clause-refuses : goal.returns-in-Err-read_games-clause-refuses
returns-in-Err-read_games-clause-refuses g c =
    entries_refuse (g.F.Files.seen c.args.files.now).games c.args.strict c.args.loaded.index.items c.args.loaded.names.items c.in-Ok.whole.0 c.in-Ok.whole.1 c.in-Err-read_games.error
    c.in-Ok.ensures.header (names_again c.args.loaded.names.items c.in-Ok.whole.1 c.in-Ok.ensures.names) c.in-Err-read_games.ensures.fault

pub returns-clause-opens : goal.returns-clause-opens
returns-clause-opens g c =
    let K : Kept → Type 0 = λ kept. IfSome (g.F.Files.seen c.args.files.now).games (λ games. (create : Bool) → is_created create c.args.loaded.index.items c.args.loaded.names.items games ≡ false →
    Opens create c.args.strict c.args.loaded.index.items c.args.loaded.names.items games kept c.in-Ok-read_games.read.1) in
    subst K (sym c.of.ensures.parts)
    (opens_told (g.F.Files.seen c.args.files.now).games c.args.strict c.args.loaded.index.items c.args.loaded.names.items c.in-Ok.whole.0 c.in-Ok.whole.1 c.in-Ok-read_games.read.0 c.in-Ok-read_games.read.1 c.args.loaded.end
    c.in-Ok.ensures.header (names_again c.args.loaded.names.items c.in-Ok.whole.1 c.in-Ok.ensures.names) c.requires.told c.in-Ok-read_games.ensures.count c.in-Ok-read_games.ensures.read)
