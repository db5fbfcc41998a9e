use Rattle.std.proofs.Common.{◌≡◌, ◌+◌, List, ℕ, [], Option, IfSome, length, refl, sym, ap, ◌∙◌, subst, arith}
use Rattle.base_files.specs.Seen.{Seen, told_instead}
use Rattle.base_core.specs.Represents.{Kept}
use Rattle.mend_base.specs.Entries.{entries_found}
use Rattle.base_core.specs.declared.fault.What.{What}
use Rattle.mend_base.specs.Keeping.{FillsNext, MendsNext}
use Rattle.mend_base.specs.Mending.{HasMended}
use Rattle.mend_base.proofs.DeviceLaws.{alone-begun, alone-then, stopped-weaker}
use Rattle.mend_base.proofs.MendLaws.{began-here, began-told, cost-within, fills-told, next-told, none-told}
use Rattle.mend_base.proofs.mending.mend_games.Goals as goal

pub returns-in-Err-clause-began : goal.returns-in-Err-clause-began
returns-in-Err-clause-began g c =
    began-here (g.F.Files.seen c.args.old.now).games (entries_found c.args.source.now.index.now) c.args.source.now.way c.args.source.now.index.now c.args.source.now.names.now (g.R.Report.told c.args.report.now) (g.R.Report.told c.args.report.now) refl

pub loop-game-init : goal.loop-game-init
loop-game-init g c =
    let old = (g.F.Files.seen c.args.old.now).games in
    let way = c.args.source.now.way in
    let index = c.args.source.now.index.now in
    let names = c.args.source.now.names.now in
    let told = g.R.Report.told c.args.report.now in
    let fresh : (g.N.Files.seen c.begin.new.new).fresh ≡ told_instead [] (g.N.Files.seen c.args.new.now).games = ap (λ (s : Seen). s.fresh) c.in_default.ensures.begun in
    let none : length c.begin-draft.result.entries ≡ 0 = ap (λ (k : Kept). length k.entries) c.begin-draft.ensures.empty in
    let M : Kept → Option (List ℕ) → Type 0 = λ k f. IfSome old (λ games. HasMended 0 c.args.header.now way index names games told told 0 k f) in
    record {
      mended = subst (λ (f : Option (List ℕ)). M c.begin-draft.result f) (sym fresh)
          (subst (λ (k : Kept). M k (told_instead [] (g.N.Files.seen c.args.new.now).games)) (sym c.begin-draft.ensures.empty) (none-told old c.args.header.now way index names told (g.N.Files.seen c.args.new.now).games));
      few = omega (arith, none);
      small = omega arith;
      within = omega arith;
      alone = alone-begun (g.N.Files.seen c.args.new.now) (g.N.Files.seen c.begin.new.new) c.in_default.ensures.begun;
      unchanged = refl;
      asks = omega arith;
      none_asked = c.begin.ensures.none_asked;
      old_counts = omega arith;
      new_counts = c.begin.ensures.counts;
      report_counts = omega arith;
    }

pub returns-in-Err-mend_game-clause-asks : goal.returns-in-Err-mend_game-clause-asks
returns-in-Err-mend_game-clause-asks g c =
    omega (arith, c.mend_game.ensures.asks, c.loop-game.invariant.asks, cost-within c.args.source.now.index.now c.loop-game.game (entries_found c.args.source.now.index.now) (omega (arith, c.loop-game-test.true, c.entries_found-game-end.ensures.found)))

pub loop-game-preserved : goal.loop-game-preserved
loop-game-preserved g c =
    let way = c.args.source.now.way in
    let index = c.args.source.now.index.now in
    let names = c.args.source.now.names.now in
    let same : (g.F.Files.seen c.loop-game.old).games ≡ (g.F.Files.seen c.args.old.now).games = ap (λ (s : Seen). s.games) c.loop-game.invariant.unchanged in
    let told = g.R.Report.told c.loop-game.report in
    let N : Option (List ℕ) → Type 0 =
    λ o. IfSome o (λ games. MendsNext c.loop-game.game way index names games told (g.R.Report.told c.mend_game.new.report) c.in-Ok.more c.loop-game.draft c.mend_game.new.draft (g.N.Files.seen c.loop-game.new).fresh (g.N.Files.seen c.mend_game.new.new).fresh) in
    record {
      mended = next-told (g.F.Files.seen c.args.old.now).games c.loop-game.game c.args.header.now way index names (g.R.Report.told c.args.report.now) told (g.R.Report.told c.mend_game.new.report) c.loop-game.changed c.in-Ok.more c.loop-game.draft c.mend_game.new.draft
          (g.N.Files.seen c.loop-game.new).fresh (g.N.Files.seen c.mend_game.new.new).fresh c.loop-game.invariant.mended (subst N same c.in-Ok.ensures.mended);
      few = omega (arith, c.in-Ok.ensures.few, c.loop-game.invariant.few);
      small = omega (arith, c.in-Ok.ensures.one, c.loop-game.invariant.small);
      within = omega (arith, c.loop-game-test.true, c.entries_found-game-end.ensures.found);
      alone = alone-then (g.N.Files.seen c.args.new.now) (g.N.Files.seen c.loop-game.new) (g.N.Files.seen c.mend_game.new.new) c.loop-game.invariant.alone c.mend_game.ensures.alone;
      unchanged = c.mend_game.ensures.unchanged ∙ c.loop-game.invariant.unchanged;
      asks = omega (arith, c.mend_game.ensures.asks, c.loop-game.invariant.asks, cost-within index c.loop-game.game (c.loop-game.game + 1) (omega arith));
      none_asked = c.mend_game.ensures.none_asked ∙ c.loop-game.invariant.none_asked;
      old_counts = omega (arith, c.mend_game.ensures.old_counts, c.loop-game.invariant.old_counts);
      new_counts = omega (arith, c.mend_game.ensures.new_counts, c.loop-game.invariant.new_counts);
      report_counts = omega (arith, c.mend_game.ensures.report_counts, c.loop-game.invariant.report_counts);
    }

pub returns-in-Err-mend_game-clause-began : goal.returns-in-Err-mend_game-clause-began
returns-in-Err-mend_game-clause-began g c =
    let way = c.args.source.now.way in
    let index = c.args.source.now.index.now in
    began-told (g.F.Files.seen c.args.old.now).games c.loop-game.game (entries_found index) c.args.header.now c.args.source.now.way index c.args.source.now.names.now (g.R.Report.told c.args.report.now) (g.R.Report.told c.loop-game.report)
    (g.R.Report.told c.mend_game.new.report) c.loop-game.changed c.loop-game.draft (g.N.Files.seen c.loop-game.new).fresh c.in-Err-mend_game.ensures.none_told c.loop-game.invariant.within c.loop-game.invariant.mended

pub returns-in-Err-mend_game-clause-why : goal.returns-in-Err-mend_game-clause-why
returns-in-Err-mend_game-clause-why g c =
    let way = c.args.source.now.way in
    let index = c.args.source.now.index.now in
    let names = c.args.source.now.names.now in
    let same : (g.F.Files.seen c.loop-game.old).games ≡ (g.F.Files.seen c.args.old.now).games = ap (λ (s : Seen). s.games) c.loop-game.invariant.unchanged in
    let told = g.R.Report.told c.loop-game.report in
    let fresh = (g.N.Files.seen c.loop-game.new).fresh in
    let fills : What → Option (List ℕ) → Type 0 = λ what o. IfSome o (λ games. FillsNext c.loop-game.game way index names games told c.loop-game.draft fresh what) in
    stopped-weaker _ _
    (λ what full. fills-told (g.F.Files.seen c.args.old.now).games c.loop-game.game c.args.header.now way index names (g.R.Report.told c.args.report.now) told c.loop-game.changed c.loop-game.draft fresh what c.loop-game.invariant.mended
    (subst (fills what) same full))
    c.in-Err-mend_game.error c.in-Err-mend_game.ensures.why
