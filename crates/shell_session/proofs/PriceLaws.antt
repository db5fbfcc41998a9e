-- Laws of what the tasks of a script ask.
use Rattle.std.proofs.Common.{◌≡◌, ◌≤◌, ◌+◌, inl, inr, ℕ, List, [], ◌∷◌, ◌++◌, length, Option, Some, IfSome, ap, subst, sym, arith}
use Rattle.base_files.specs.Seen.{Seen}
use Rattle.base_core.specs.Opening.{IfTold, is_created, open_cost}
use Rattle.command_runs.specs.Plain.{after_all}
use Rattle.desk_commands.specs.Desk.{Desk, desk_begin, desks}
use Rattle.desk_commands.specs.Standing.{DeskHolding, line_price}
use Rattle.script_lines.specs.Clients.{Tagged, tagged_task}
use Rattle.script_lines.specs.Script.{script_of}
use Rattle.script_lines.specs.declared.line.Line.{Line}
use Rattle.shell_session.specs.Around.{Lives, Views, around, price_all, slots_by}
use Rattle.shell_session.specs.Running.{Opening}
use Rattle.shell_session.specs.Session.{Asks, Given, given}
use Rattle.shell_session.specs.Words.{Wanted, words_read}
use Rattle.shell_session.proofs.AnswerLaws.{opened, told}
use Rattle.shell_session.proofs.DeskLaws.{its_line}
use Rattle.shell_session.proofs.ViewLaws.{lives_first, none_told, show_none}

-- Some tasks, and then others.
pub price_all-append : (d : Desk) (xs ys : List Tagged) → price_all d (xs ++ ys) ≡ price_all d xs + price_all (after_all desks d xs) ys
price_all-append d [] ys = omega arith
price_all-append d (x ∷ xs) ys =
    let rest : price_all (desks.after d x) (xs ++ ys) ≡ price_all (desks.after d x) xs + price_all (after_all desks (desks.after d x) xs) ys = price_all-append (desks.after d x) xs ys in
    omega (arith, rest)

-- One task of some that are left.
pub paid_one : (d : Desk) (done : List Tagged) (next : Tagged) (a₀ a a' : ℕ) → a ≤ a₀ + price_all d done → a' ≤ a + line_price (after_all desks d done) (its_line next)
    → a' ≤ a₀ + price_all d (done ++ next ∷ [])
paid_one d done next a₀ a a' paid asked =
    let all : price_all d (done ++ next ∷ []) ≡ price_all d done + (line_price (after_all desks d done) (its_line next) + 0) = price_all-append d done (next ∷ []) in
    omega (arith, paid, asked, all)

-- All that are left.
pub paid_all : (d : Desk) (all done lasts : List Tagged) (a₀ a a' : ℕ) → all ≡ done ++ lasts → a ≤ a₀ + price_all d done → a' ≤ a + price_all (after_all desks d done) lasts
    → a' ≤ a₀ + price_all d all
paid_all d all done lasts a₀ a a' is paid asked =
    let parts : price_all d (done ++ lasts) ≡ price_all d done + price_all (after_all desks d done) lasts = price_all-append d done lasts in
    let whole : price_all d all ≡ price_all d (done ++ lasts) = ap (price_all d) is in
    omega (arith, paid, asked, parts, whole)

-- Of some tasks the first one.
pub price_front : (d : Desk) (all left : List Tagged) (line : Line) (body : List ℕ) (a a' : ℕ) → all ≡ tagged_task line body ∷ left → a' ≤ a + line_price d line → a' ≤ a + price_all d all
price_front d all left line body a a' is asked =
    let whole : price_all d all ≡ line_price d line + price_all (desks.after d (tagged_task line body)) left = ap (price_all d) is in
    omega (arith, asked, whole)

-- Of a last task and then the end of the input, the first, and both.
pub price_quit : (d : Desk) (all : List Tagged) (last : Tagged) (a a' : ℕ) → all ≡ last ∷ [] → a' ≤ a + line_price d (its_line last) → a' ≤ a + price_all d all
price_quit d all last a a' is asked =
    let whole : price_all d all ≡ price_all d (last ∷ []) = ap (price_all d) is in
    omega (arith, asked, whole)

pub price_both : (d : Desk) (all more : List Tagged) (last : Tagged) (a a' a'' : ℕ) → all ≡ last ∷ more → a' ≤ a + line_price d (its_line last) → a'' ≤ a' + price_all (desks.after d last) more
    → a'' ≤ a + price_all d all
price_both d all more last a a' a'' is first second =
    let whole : price_all d all ≡ price_all d (last ∷ more) = ap (price_all d) is in
    omega (arith, first, second, whole)

-- What a session asks, from its parts.
pub asks_opening : (g : Given) (a a' : ℕ) (o : Option (List ℕ)) → o ≡ Some g.index → IfSome o (λ index. a' ≤ a + open_cost index) → Asks g a a'
asks_opening g a a' o is known = let P : Option (List ℕ) → Type 0 = λ x. IfSome x (λ index. a' ≤ a + open_cost index) in inl (subst P is known)

pub asks_script : (words : List (List ℕ)) (index names games script : List ℕ) (views : Views) (seen seen' : Seen) (wanted : Wanted (List ℕ)) (held : DeskHolding) (mended : ℕ) (left : Option (List ℕ)) (a a' a'' : ℕ)
    → words_read words ≡ Some wanted
    → IfTold seen (λ index names games. Opening wanted.create wanted.strict wanted.desk index names games seen.fresh held seen' mended)
    → length views ≤ 8 → (now : Views) → now ≡ views → IfSome seen.index (λ index. a' ≤ a + open_cost index)
    → ((d : Desk) (first : Views) (most : ℕ → ℕ) (script : List ℕ) → Lives held (around seen' first most now) d → left ≡ Some script → a'' ≤ a' + price_all d (script_of d.clients.tagged script))
    → seen.index ≡ Some index → seen.names ≡ Some names → seen.games ≡ Some games → left ≡ Some script
    → Asks (given words index names games seen.fresh script views) a a''
asks_script words index names games script views seen seen' wanted held mended left a a' a'' said opens few now lent opening running i n g l =
    let o : Opening wanted.create wanted.strict wanted.desk index names games seen.fresh held seen' mended =
    told seen (λ index names games. Opening wanted.create wanted.strict wanted.desk index names games seen.fresh held seen' mended) index names games opens i n g in
    let P : Option (List ℕ) → Type 0 = λ x. IfSome x (λ index. a' ≤ a + open_cost index) in
    let paid : a' ≤ a + open_cost index = subst P i opening in
    let d : Desk = desk_begin wanted.desk (is_created wanted.create index names games) seen.fresh (slots_by views) o.base in
    let ran : a'' ≤ a' + price_all d (script_of d.clients.tagged script) = running d views none_told script (subst (λ (v : Views). Lives held (around seen' views none_told v) (desk_begin wanted.desk (is_created wanted.create index names games) seen.fresh (slots_by views) o.base)) (sym lent) (lives_first held seen' views wanted.desk (is_created wanted.create index names games) seen.fresh o.base few (o.stands (slots_by views) (show_none views)))) l in
    inr (opened words index names games seen.fresh script views seen' wanted held mended said o, omega (arith, paid, ran))
