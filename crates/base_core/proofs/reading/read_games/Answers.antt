use Rattle.std.proofs.Common.{◌≡◌, ◌<◌, ◌≤◌, ◌+◌, ◌*◌, ℕ, take, drop, Bool, All, List, length, IfSome, if◌then◌else◌, refl, rules, sym, ap, ◌∙◌, subst, arith}
use Rattle.std.proofs.lemmas.List.{drop-drop}
use Rattle.std.proofs.lemmas.List.Elements.{All-nil}
use Rattle.base_files.specs.Seen.{Seen}
use Rattle.index_entry.specs.Entry.{entry_in}
use Rattle.index_entry.specs.Index.{entry_bytes}
use Rattle.index_entry.specs.declared.entry.Entry.{Entry}
use Rattle.base_core.specs.FirstFault.{EntryFails, Fails}
use Rattle.base_core.specs.Opening.{IfBad}
use Rattle.base_core.specs.Reading.{AreRead, IsReadSo}
use Rattle.base_core.specs.Represents.{IsKept}
use Rattle.base_core.proofs.ReadLaws.{all_kept, asked-within, at_most_one, fails_by, next_read, none_told, one_longer}
use Rattle.base_core.proofs.reading.read_games.Goals as goal

pub loop-game-init : goal.loop-game-init
loop-game-init g c =
    let E : List Entry → Type 0 = λ es. IfSome (g.F.Files.seen c.args.files.now).games (λ games. AreRead c.args.o.now.strict c.args.index.items c.args.o.now.names.now games es 0) in
    let K : List Entry → Type 0 = λ es. All (IsKept c.args.o.now.names.now c.args.o.now.end) es in
    record {
      read = subst E (sym c.of-part.ensures.none) (none_told (g.F.Files.seen c.args.files.now).games c.args.o.now.strict c.args.index.items c.args.o.now.names.now);
      count = ap (λ (es : List Entry). length es) c.of-part.ensures.none;
      ahead = c.of-part.ensures.ahead;
      kept = subst K (sym c.of-part.ensures.none) (All-nil (IsKept c.args.o.now.names.now c.args.o.now.end));
      few = omega arith;
      strictly = λ strict. refl;
      asks = omega arith;
      unchanged = refl;
      counts = omega arith;
    }

pub returns-in_err-read-clause-fault : goal.returns-in_err-read-clause-fault
returns-in_err-read-clause-fault g c =
    let below : c.loop-game.game < c.args.count = omega (arith, c.loop-game-test.true) in
    let next : c.next.result ≡ entry_bytes c.args.index.items c.loop-game.game = c.next.ensures.next ∙ ap (λ (b : List ℕ). take 47 b) c.loop-game.invariant.ahead in
    let B : List ℕ → Type 0 = λ b. IfBad (λ fault. IfSome (g.F.Files.seen c.loop-game.files).games (λ games. Fails c.args.o.now.strict c.args.o.now.names.now games c.loop-game.game b fault)) c.in_err-read.field-0.0 in
    let fails : IfBad (λ fault. IfSome (g.F.Files.seen c.args.files.now).games (λ games. EntryFails c.args.o.now.strict c.args.index.items c.args.o.now.names.now games c.args.count fault)) c.in_err-read.field-0.0 =
    fails_by c.in_err-read.field-0.0 _ _ c.args.o.now.strict c.args.index.items c.args.o.now.names.now c.loop-game.part.read c.loop-game.mended c.loop-game.game c.args.count
    (ap (λ (seen : Seen). seen.games) c.loop-game.invariant.unchanged) c.loop-game.invariant.count below c.loop-game.invariant.read (subst B next c.in_err-read.ensures.fault)
    in
    search rules

pub returns-in_err-read-clause-asks : goal.returns-in_err-read-clause-asks
returns-in_err-read-clause-asks g c =
    let next : c.next.result ≡ entry_bytes c.args.index.items c.loop-game.game = c.next.ensures.next ∙ ap (λ (b : List ℕ). take 47 b) c.loop-game.invariant.ahead in
    let A : List ℕ → Type 0 = λ b. g.F.Files.asked c.read_game.new.files ≤ g.F.Files.asked c.loop-game.files + (entry_in b).len in
    asked-within c.args.index.items c.loop-game.game c.args.count _ _ _ (omega (arith, c.loop-game-test.true)) c.loop-game.invariant.asks (subst A next c.read_game.ensures.asks)

pub loop-game-preserved : goal.loop-game-preserved
loop-game-preserved g c =
    let next : c.next.result ≡ entry_bytes c.args.index.items c.loop-game.game = c.next.ensures.next ∙ ap (λ (b : List ℕ). take 47 b) c.loop-game.invariant.ahead in
    let A : List ℕ → Type 0 = λ b. g.F.Files.asked c.read_game.new.files ≤ g.F.Files.asked c.loop-game.files + (entry_in b).len in
    let R : List ℕ → Type 0 = λ b. IfSome (g.F.Files.seen c.loop-game.files).games (λ games. IsReadSo c.args.o.now.strict c.args.o.now.names.now games c.loop-game.game b c.in_ok-read.read.entry c.in_ok-read.read.mended) in
    record {
      read = next_read _ _ c.args.o.now.strict c.args.index.items c.args.o.now.names.now c.loop-game.part.read c.put.new.self.read c.loop-game.mended c.count-mended.result c.loop-game.game c.in_ok-read.read.entry c.in_ok-read.read.mended
          (ap (λ (seen : Seen). seen.games) c.loop-game.invariant.unchanged) c.loop-game.invariant.count c.put.ensures.read c.count-mended.ensures.count c.loop-game.invariant.read (subst R next c.in_ok-read.ensures.read);
      count = one_longer c.loop-game.part.read c.put.new.self.read c.in_ok-read.read.entry c.loop-game.game c.loop-game.invariant.count c.put.ensures.read;
      ahead = c.put.ensures.ahead ∙ (ap (λ (b : List ℕ). drop 47 b) c.loop-game.invariant.ahead ∙ (drop-drop 47 (182 + 47 * c.loop-game.game) c.args.index.items ∙ ap (λ (n : ℕ). drop n c.args.index.items) (omega arith)));
      kept = all_kept c.args.o.now.names.now c.args.o.now.end c.loop-game.part.read c.put.new.self.read c.in_ok-read.read.entry c.put.ensures.read c.loop-game.invariant.kept c.in_ok-read.ensures.kept;
      few = omega (arith, c.loop-game.invariant.few, at_most_one c.in_ok-read.read.mended c.count-mended.result c.count-mended.ensures.count);
      strictly = λ strict. omega (arith, c.loop-game.invariant.strictly strict, c.count-mended.ensures.count ∙ ap (λ (b : Bool). (if b then 1 else 0)) (c.in_ok-read.ensures.strictly strict));
      asks = asked-within c.args.index.items c.loop-game.game (c.loop-game.game + 1) _ _ _ (omega arith) c.loop-game.invariant.asks (subst A next c.read_game.ensures.asks);
      unchanged = c.read_game.ensures.unchanged ∙ c.loop-game.invariant.unchanged;
      counts = omega (arith, c.loop-game.invariant.counts, c.read_game.ensures.counts);
    }
