use Rattle.std.proofs.Common.{◌≡◌, ◌≤◌, ◌+◌, ℕ, take, sym, ◌∙◌, subst, arith}
use Rattle.std.proofs.lemmas.List.{length-take-le}
use Rattle.base_files.specs.Told.{Tells, part_told}
use Rattle.index_entry.specs.Entry.{entry_in}
use Rattle.index_entry.specs.declared.entry.Entry.{Entry}
use Rattle.base_core.proofs.CheckLaws.{checked, ends_within, read_is}
use Rattle.base_core.proofs.ReadLaws.{asked-le, checked_told, fails_so, kept_so, reads_so}
use Rattle.base_core.proofs.Results.{from_ok}
use Rattle.base_core.proofs.reading.read_game.Goals as goal

pub read_games-requires-clause-room : goal.read_games-requires-clause-room
read_games-requires-clause-room g c = omega (arith, c.in-Ok.ensures.fields.len, c.requires.room)

pub read_games-requires-clause-within : goal.read_games-requires-clause-within
read_games-requires-clause-within g c =
    let k = checked c.args.o.now.names.now c.args.o.now.end c.args.game c.args.packed.now c.in-Ok.entry (sym c.in-Ok.ensures.exact) in
    omega (arith, c.from.ensures, ends_within c.args.o.now.end c.in-Ok.entry k.placed, c.requires.known)

pub returns-then-is_err-clause-asks : goal.returns-then-is_err-clause-asks
returns-then-is_err-clause-asks g c =
    let k = checked c.args.o.now.names.now c.args.o.now.end c.args.game c.args.packed.now c.in-Ok.entry (sym c.in-Ok.ensures.exact) in
    let same : entry_in c.args.packed.now ≡ c.in-Ok.entry = read_is c.args.packed.now c.in-Ok.entry k.read in
    subst (λ (e : Entry). g.F.Files.asked c.read_games.new.self ≤ g.F.Files.asked c.args.files.now + e.len) (sym same) (asked-le _ _ _ c.read_games.ensures.asks)

pub slice_bounds-taken_entry-end : goal.slice_bounds-taken_entry-end
slice_bounds-taken_entry-end g c = omega (arith, c.in-Ok.ensures.fields.len, c.requires.room, c.read_games.auto.into)

pub slice_bounds-taken_entry-end-2 : goal.slice_bounds-taken_entry-end-2
slice_bounds-taken_entry-end-2 g c =
    sym (length-take-le c.in-Ok.entry.len c.read_games.new.into (omega (arith, c.in-Ok.ensures.fields.len, c.requires.room, c.read_games.auto.into)))

pub taken_entry-requires-clause-fields : goal.taken_entry-requires-clause-fields
taken_entry-requires-clause-fields g c = c.in-Ok.ensures.fields

pub returns-clause-read : goal.returns-clause-read
returns-clause-read g c =
    let T : ℕ → Type 0 = λ n. Tells (part_told (g.F.Files.seen c.args.files.now).games n c.in-Ok.entry.len) (take c.in-Ok.entry.len c.read_games.new.into) in
    let tells = subst T c.from.ensures (from_ok c.read_games.result (T c.from.result) c.if-is_err.ensures.value c.read_games.ensures.bytes) in
    reads_so c.taken_entry.result (g.F.Files.seen c.args.files.now).games c.args.o.now.strict c.args.o.now.names.now c.args.o.now.end c.args.game c.args.packed.now _ c.in-Ok.entry
    c.in-Ok.ensures.fields.event_rule c.requires.told tells (sym c.in-Ok.ensures.exact) c.taken_entry.ensures.taken

pub returns-clause-kept : goal.returns-clause-kept
returns-clause-kept g c =
    kept_so c.taken_entry.result c.args.o.now.strict c.args.o.now.names.now c.args.o.now.end c.args.game c.args.packed.now _ c.in-Ok.entry
    (sym c.in-Ok.ensures.exact) c.taken_entry.ensures.taken c.taken_entry.ensures.fields c.taken_entry.ensures.homes

pub returns-clause-fault : goal.returns-clause-fault
returns-clause-fault g c =
    let T : ℕ → Type 0 = λ n. Tells (part_told (g.F.Files.seen c.args.files.now).games n c.in-Ok.entry.len) (take c.in-Ok.entry.len c.read_games.new.into) in
    let tells = subst T c.from.ensures (from_ok c.read_games.result (T c.from.result) c.if-is_err.ensures.value c.read_games.ensures.bytes) in
    fails_so c.taken_entry.result (g.F.Files.seen c.args.files.now).games c.args.o.now.strict c.args.o.now.names.now c.args.o.now.end c.args.game c.args.packed.now _ c.in-Ok.entry
    c.requires.told tells (sym c.in-Ok.ensures.exact) c.taken_entry.ensures.not_taken

pub returns-clause-asks : goal.returns-clause-asks
returns-clause-asks g c =
    let k = checked c.args.o.now.names.now c.args.o.now.end c.args.game c.args.packed.now c.in-Ok.entry (sym c.in-Ok.ensures.exact) in
    let same : entry_in c.args.packed.now ≡ c.in-Ok.entry = read_is c.args.packed.now c.in-Ok.entry k.read in
    subst (λ (e : Entry). g.F.Files.asked c.read_games.new.self ≤ g.F.Files.asked c.args.files.now + e.len) (sym same) (asked-le _ _ _ c.read_games.ensures.asks)

pub returns-in-Err-clause-fault : goal.returns-in-Err-clause-fault
returns-in-Err-clause-fault g c =
    checked_told (g.F.Files.seen c.args.files.now).games c.args.o.now.strict c.args.o.now.names.now c.args.o.now.end c.args.game c.args.packed.now
    c.in-Err.fault c.requires.told (sym c.checked_entry.ensures.exact ∙ c.in-Err.is)
