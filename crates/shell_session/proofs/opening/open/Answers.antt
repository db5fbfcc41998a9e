use Rattle.std.proofs.Common.{◌≤◌, ◌+◌, ℕ, Bool, IfSome, sym, ap, ◌∙◌, subst}
use Rattle.base_files.specs.Seen.{Seen}
use Rattle.base_files.proofs.Rising.{Rose-after}
use Rattle.base_core.specs.Opening.{IfBad, IfTold, Opens, Refuses, open_cost}
use Rattle.script_lines.specs.Clients.{Clients}
use Rattle.shell_session.specs.Running.{OpeningRefused}
use Rattle.session_status.specs.declared.status.Status.{Status}
use Rattle.shell_session.proofs.OpeningLaws.{Starts, failed_is, opening, refused_by}
use Rattle.shell_session.proofs.opening.open.Goals as goal

pub returns-in-Err-opened-clause-refused : goal.returns-in-Err-opened-clause-refused
returns-in-Err-opened-clause-refused g c =
    let P : Seen → Type 0 = λ seen. IfBad (λ fault. IfTold seen (λ index names games. Refuses c.args.wanted.now.create c.args.wanted.now.strict index names games fault)) c.in-Err-opened.error in
    let Q : Status → Type 0 = λ status. OpeningRefused c.args.wanted.now.create c.args.wanted.now.strict (g.F.Files.seen c.args.files.now) status in
    subst Q (sym c.from-in-Err-opened.ensures)
    (refused_by c.in-Err-opened.error c.args.wanted.now.create c.args.wanted.now.strict (g.F.Files.seen c.args.files.now) (subst P c.in_default.ensures.chosen c.in-Err-opened.ensures.refuses))

pub returns-in-Err-opened-clause-asks : goal.returns-in-Err-opened-clause-asks
returns-in-Err-opened-clause-asks g c =
    let P : Seen → Type 0 = λ seen. IfSome seen.index (λ index. g.F.Files.asked c.open_base-opened.new.files ≤ g.F.Files.asked c.choose.new.self + open_cost index) in
    let A : ℕ → Type 0 = λ asked. IfSome (g.F.Files.seen c.args.files.now).index (λ index. g.F.Files.asked c.open_base-opened.new.files ≤ asked + open_cost index) in
    subst A c.choose.ensures.none_asked (subst P c.in_default.ensures.chosen c.open_base-opened.ensures.asks)

pub returns-in-Ok-new-clause-asks : goal.returns-in-Ok-new-clause-asks
returns-in-Ok-new-clause-asks g c =
    let P : Seen → Type 0 = λ seen. IfSome seen.index (λ index. g.F.Files.asked c.open_base-opened.new.files ≤ g.F.Files.asked c.choose.new.self + open_cost index) in
    let A : ℕ → Type 0 = λ asked. IfSome (g.F.Files.seen c.args.files.now).index (λ index. g.F.Files.asked c.open_base-opened.new.files ≤ asked + open_cost index) in
    subst A c.choose.ensures.none_asked (subst P c.in_default.ensures.chosen c.open_base-opened.ensures.asks)

pub returns-in-Err-new-clause-asks : goal.returns-in-Err-new-clause-asks
returns-in-Err-new-clause-asks g c =
    let P : Seen → Type 0 = λ seen. IfSome seen.index (λ index. g.F.Files.asked c.open_base-opened.new.files ≤ g.F.Files.asked c.choose.new.self + open_cost index) in
    let A : ℕ → Type 0 = λ asked. IfSome (g.F.Files.seen c.args.files.now).index (λ index. g.F.Files.asked c.open_base-opened.new.files ≤ asked + open_cost index) in
    subst A c.choose.ensures.none_asked (subst P c.in_default.ensures.chosen c.open_base-opened.ensures.asks)

pub returns-in-Err-opened-clause-cause : goal.returns-in-Err-opened-clause-cause
returns-in-Err-opened-clause-cause g c = λ is.
    Rose-after _ _ _ c.choose.ensures.counts (c.in-Err-opened.ensures.cause (failed_is c.in-Err-opened.error (sym c.from-in-Err-opened.ensures ∙ is)))

pub returns-in-Ok-new-clause-opens : goal.returns-in-Ok-new-clause-opens
returns-in-Ok-new-clause-opens g c =
    let P : Seen → Type 0 = λ seen. IfTold seen (λ index names games. Opens c.args.wanted.now.create c.args.wanted.now.strict index names games c.in-Ok-opened.opened.0 c.in-Ok-opened.opened.1) in
    let index = ap (λ (seen : Seen). seen.index) c.open_base-opened.ensures.measured ∙ ap (λ (seen : Seen). seen.index) c.in_default.ensures.chosen in
    let names = ap (λ (seen : Seen). seen.names) c.open_base-opened.ensures.measured ∙ ap (λ (seen : Seen). seen.names) c.in_default.ensures.chosen in
    let games = ap (λ (seen : Seen). seen.games) c.open_base-opened.ensures.measured ∙ ap (λ (seen : Seen). seen.games) c.in_default.ensures.chosen in
    let fresh = ap (λ (seen : Seen). seen.fresh) c.open_base-opened.ensures.measured ∙ ap (λ (seen : Seen). seen.fresh) c.in_default.ensures.chosen in
    opening c.args.wanted.now.create c.args.wanted.now.strict c.args.wanted.now.desk (g.F.Files.seen c.args.files.now) _ c.in-Ok-opened.opened.0 c.in-Ok-new.desk c.in-Ok-opened.opened.1
    (subst P c.in_default.ensures.chosen c.in-Ok-opened.ensures.opens) index names games fresh
    (subst (λ (desk : Bool). Starts c.in-Ok-opened.opened.0 desk c.in-Ok-new.desk) (ap (λ (clients : Clients). clients.tagged) c.new.ensures.new) c.in-Ok-new.ensures.stands)

pub returns-in-Ok-new-clause-sound : goal.returns-in-Ok-new-clause-sound
returns-in-Ok-new-clause-sound g c = c.in-Ok-new.ensures.sound (g.F.Files.seen c.open_base-opened.new.files) c.in-Ok-opened.ensures.at_end
