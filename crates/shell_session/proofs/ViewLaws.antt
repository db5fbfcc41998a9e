-- Laws of the views beside a desk.
use Rattle.std.proofs.Common.{◌≡◌, ◌≤◌, ◌+◌, ℕ, zero, suc, Bool, false, List, Option, Some, None, Result, Ok, Err, [], ◌∷◌, ◌++◌, length, map, option_map, replicate, arith, ap₂, refl, sym, subst, ap, ◌∙◌}
use Rattle.std.proofs.lemmas.List.{get_or_past, length-map}
use Rattle.std.specs.List.{range_with_len}
use Rattle.std.specs.Prelude.{IfErr, OnOk, if◌then◌else◌, is_some}
use Rattle.base_core.specs.Base.{Base, Held}
use Rattle.base_files.specs.Seen.{Seen}
use Rattle.command_runs.specs.Endings.{Done, Serves}
use Rattle.command_runs.specs.Plain.{after_all}
use Rattle.desk_commands.specs.Desk.{Desk, desk_begin, desks, seen_by}
use Rattle.desk_commands.specs.Standing.{BrokenLine, DeskHolding, DeskStands}
use Rattle.desk_commands.specs.Views.{AllRight, LineShown, line_told, line_touches, owner}
use Rattle.script_lines.specs.Clients.{Tagged}
use Rattle.shell_state.proofs.TableLaws.{in_mapped}
use Rattle.shell_state.specs.Slots.{HitTable, Slot, slot_at, table_of, tables_of}
use Rattle.shell_state.specs.Slots.Slot.{empty, idle, shows}
use Rattle.shell_state.specs.Stands.{ShowNone}
use Rattle.shell_state.specs.State.{State}
use Rattle.shell_state.specs.declared.halt.Halt.{Halt}
use Rattle.tree_live.specs.Slots.{in_slot}
use Rattle.tree_live.specs.Views.{Told}
use Rattle.tree_rows.specs.declared.row.Row.{Row}
use Rattle.view_commands.specs.Views.{AreLeft, IsRight, IsToldAtMost, is_shown}
use Rattle.view_commands.proofs.ToldLaws.{told_few, told_same, told_twice}
use Rattle.shell_session.proofs.DeskLaws.{its_line}
use Rattle.shell_session.proofs.IdleLaws.{idle_before}
use Rattle.shell_session.specs.Around.{AreLeftBy, Around, IsLeftIn, Lives, Meaning, Views, around, meanings, slots_by, told_all, told_more}

-- ---- views and what they mean

abbrev meaning : {B : Type 0} → (B → List Row) → (B → Told) → B → Meaning
meaning rows told view = record { rows = rows view; told = told view }

pub in_meanings : {B : Type 0} (rows : B → List Row) (told : B → Told) (views : List (Option B)) (k : ℕ) → in_slot (meanings rows told views) k ≡ option_map (meaning rows told) (in_slot views k)
in_meanings rows told views k = in_mapped (meaning rows told) views k

is_right : {B : Type 0} (rows : B → List Row) (told : B → Told) (s : State) (slot : Slot) (view : Option B) → IsRight rows s slot view → IsRight (λ (m : Meaning). m.rows) s slot (option_map (meaning rows told) view)
is_right rows told s empty view is = ap (option_map (meaning rows told)) is
is_right rows told s idle None is = cc
is_right rows told s idle (Some view) is = refl
is_right rows told s (shows board) None is = is
is_right rows told s (shows board) (Some view) is = is

was_right : {B : Type 0} (rows : B → List Row) (told : B → Told) (s : State) (slot : Slot) (view : Option B) → IsRight (λ (m : Meaning). m.rows) s slot (option_map (meaning rows told) view) → IsRight rows s slot view
was_right rows told s empty None is = refl
was_right rows told s empty (Some view) is = cc
was_right rows told s idle None is = cc
was_right rows told s idle (Some view) is = refl
was_right rows told s (shows board) None is = is
was_right rows told s (shows board) (Some view) is = is

-- What the owner of a slot sees.
abbrev owner_sees : Desk → ℕ → State
owner_sees d k = seen_by d (owner d.clients.tagged k)

pub right_in : {B : Type 0} (rows : B → List Row) (told : B → Told) (d : Desk) (views : List (Option B)) → AllRight rows d views → AllRight (λ (m : Meaning). m.rows) d (meanings rows told views)
right_in rows told d views are k =
    subst (IsRight (λ (m : Meaning). m.rows) (owner_sees d k) (slot_at d.slots k)) (sym (in_meanings rows told views k)) (is_right rows told (owner_sees d k) (slot_at d.slots k) (in_slot views k) (are k))

pub right_out : {B : Type 0} (rows : B → List Row) (told : B → Told) (d : Desk) (views : List (Option B)) → AllRight (λ (m : Meaning). m.rows) d (meanings rows told views) → AllRight rows d views
right_out rows told d views are k =
    was_right rows told (owner_sees d k) (slot_at d.slots k) (in_slot views k) (subst (IsRight (λ (m : Meaning). m.rows) (owner_sees d k) (slot_at d.slots k)) (in_meanings rows told views k) (are k))

-- ---- a task that is done or broken off

-- A view that was right and is as before: none in an empty slot, and in an idle one that of the beginning.
left_in : (s : State) (slot : Slot) (first now now' : Option Meaning) → IsRight (λ (m : Meaning). m.rows) s slot now → (slot ≡ idle → now ≡ first) → (is_shown slot ≡ false → now' ≡ now) → IsLeftIn slot first now'
left_in s empty first now now' right stays same = same refl ∙ right
left_in s idle first now now' right stays same = same refl ∙ stays refl
left_in s (shows board) first now now' right stays same = tt

-- So is each beside a machine that stands for a state.
pub left_alone : (held : DeskHolding) (around : Around) (d : Desk) → Lives held around d → (k : ℕ) → IsLeftIn (slot_at d.slots k) (in_slot around.first k) (in_slot around.now k)
left_alone held around d lives k =
    left_in (owner_sees d k) (slot_at d.slots k) (in_slot around.first k) (in_slot around.now k) (in_slot around.now k) (lives.views.right k) (lives.views.idle k) (λ hidden. refl)

-- And those that it does not watch.
pub left_by : {B : Type 0} (rows : B → List Row) (told : B → Told) (d : Desk) (t : Tagged) (held : DeskHolding) (seen seen' : Seen) (first : Views) (most : ℕ → ℕ) (views views' : List (Option B))
    → Lives held (around seen first most (meanings rows told views)) d → AreLeft (line_touches d (its_line t)) views views' → AreLeftBy (around seen' first most (meanings rows told views')) d (its_line t)
left_by rows told d t held seen seen' first most views views' lives left k other =
    left_in (owner_sees d k) (slot_at d.slots k) (in_slot first k) (in_slot (meanings rows told views) k) (in_slot (meanings rows told views') k) (lives.views.right k) (lives.views.idle k)
    (λ hidden.
    let untouched : line_touches d (its_line t) k ≡ false = rw (hidden, other) refl in
    in_meanings rows told views' k ∙ (ap (option_map (meaning rows told)) (left k untouched) ∙ sym (in_meanings rows told views k)))

told_meant : {B : Type 0} (rows : B → List Row) (told : B → Told) (most : ℕ) (before after : Option B) → IsToldAtMost told most before after
    → IsToldAtMost (λ (m : Meaning). m.told) most (option_map (meaning rows told) before) (option_map (meaning rows told) after)
told_meant rows told most None after is = ap (option_map (meaning rows told)) is
told_meant rows told most (Some before) None is = tt
told_meant rows told most (Some before) (Some after) is = is

pub lives_behind : {B : Type 0} (rows : B → List Row) (told : B → Told) (d : Desk) (t : Tagged) (held held' : DeskHolding) (seen seen' : Seen) (first : Views) (most : ℕ → ℕ) (views views' : List (Option B)) (text : List ℕ) (before after : Option (List ℕ))
    → Lives held (around seen first most (meanings rows told views)) d → Done (DeskStands held' seen') (desks.after d t) text before after → LineShown rows told d t views views' → AreLeft (line_touches d (its_line t)) views views'
    → Done (Lives held' (told_more (around seen' first most (meanings rows told views')) (line_told d t))) (desks.after d t) text before after
lives_behind rows told d t held held' seen seen' first most views views' text before after lives did done left = record {
  stands = record {
    stands = did.stands;
    views = record {
      right = right_in rows told (desks.after d t) views' done.right;
      idle = λ k is.
          let earlier = idle_before d t k is in
          subst (λ slot. IsLeftIn slot (in_slot first k) (in_slot (meanings rows told views') k)) earlier.0 (left_by rows told d t held seen seen' first most views views' lives left k earlier.1);
      told = λ k.
          let more : IsToldAtMost (λ (m : Meaning). m.told) (line_told d t k) (in_slot (meanings rows told views) k) (in_slot (meanings rows told views') k)
          = subst (λ (new : Option Meaning). IsToldAtMost (λ (m : Meaning). m.told) (line_told d t k) (in_slot (meanings rows told views) k) new) (sym (in_meanings rows told views' k))
          (subst (λ (old : Option Meaning). IsToldAtMost (λ (m : Meaning). m.told) (line_told d t k) old (option_map (meaning rows told) (in_slot views' k))) (sym (in_meanings rows told views k))
          (told_meant rows told (line_told d t k) (in_slot views k) (in_slot views' k) (done.counted k))) in
          told_twice (λ (m : Meaning). m.told) (most k) (line_told d t k) _ (in_slot first k) (in_slot (meanings rows told views) k) (in_slot (meanings rows told views') k) (omega arith)
          (lives.views.told k) more;
    };
  };
  written = did.written;
}

pub serves_alive : {A B : Type 0} (rows : B → List Row) (told : B → Told) (d : Desk) (t : Tagged) (held held' : DeskHolding) (seen seen' : Seen) (first : Views) (most : ℕ → ℕ) (views views' : List (Option B)) (before after : Option (List ℕ)) (result : Result A Halt)
    → Lives held (around seen first most (meanings rows told views)) d → Serves desks (DeskStands held' seen') BrokenLine d t before after result → OnOk result (LineShown rows told d t views views')
    → AreLeft (line_touches d (its_line t)) views views' → Serves desks (Lives held' (told_more (around seen' first most (meanings rows told views')) (line_told d t))) BrokenLine d t before after result
serves_alive rows told d t held held' seen seen' first most views views' before after (Ok x) lives serves done left =
    lives_behind rows told d t held held' seen seen' first most views views' (desks.text d t) before after lives serves done left
serves_alive rows told d t held held' seen seen' first most views views' before after (Err e) lives serves done left = serves

-- A fact of whatever error there is.
pub whatever_error : {A E : Type 0} (r : Result A E) (X : Type 0) → X → IfErr r (λ (e : E). X)
whatever_error (Ok x) X so = tt
whatever_error (Err e) X so = so

-- ---- how many changes were told

-- No fewer than these.
pub lives_more : (held : DeskHolding) (here : Around) (more later : ℕ → ℕ) (d : Desk) → Lives held (told_more here more) d → ((k : ℕ) → more k ≤ later k) → Lives held (told_more here later) d
lives_more held here more later d lives less = record {
  stands = lives.stands;
  views = record { right = lives.views.right; idle = lives.views.idle; told = λ k. told_few (λ (m : Meaning). m.told) _ _ (in_slot here.first k) (in_slot here.now k) (omega (arith, less k)) (lives.views.told k) };
}

pub lives_since : (held : DeskHolding) (here : Around) (more : ℕ → ℕ) (d : Desk) → Lives held here d → Lives held (told_more here more) d
lives_since held here more d lives = record {
  stands = lives.stands;
  views = record { right = lives.views.right; idle = lives.views.idle; told = λ k. told_few (λ (m : Meaning). m.told) _ _ (in_slot here.first k) (in_slot here.now k) (omega arith) (lives.views.told k) };
}

pub lives_twice : (held : DeskHolding) (here : Around) (more again later : ℕ → ℕ) (d : Desk) → Lives held (told_more (told_more here more) again) d → ((k : ℕ) → more k + again k ≤ later k)
    → Lives held (told_more here later) d
lives_twice held here more again later d lives less = record {
  stands = lives.stands;
  views = record { right = lives.views.right; idle = lives.views.idle; told = λ k. told_few (λ (m : Meaning). m.told) _ _ (in_slot here.first k) (in_slot here.now k) (omega (arith, less k)) (lives.views.told k) };
}

-- Some tasks, and then others.
pub told_all-append : (d : Desk) (xs ys : List Tagged) (k : ℕ) → told_all d (xs ++ ys) k ≡ told_all d xs k + told_all (after_all desks d xs) ys k
told_all-append d [] ys k = omega arith
told_all-append d (x ∷ xs) ys k =
    let rest : told_all (desks.after d x) (xs ++ ys) k ≡ told_all (desks.after d x) xs k + told_all (after_all desks (desks.after d x) xs) ys k = told_all-append (desks.after d x) xs ys k in
    omega (arith, rest)

pub told_one : (d : Desk) (done : List Tagged) (next : Tagged) (k : ℕ) → told_all d done k + line_told (after_all desks d done) next k ≤ told_all d (done ++ next ∷ []) k
told_one d done next k = omega (arith, told_all-append d done (next ∷ []) k)

-- ---- the beginning

-- No change was told yet.
abbrev pub none_told : ℕ → ℕ
none_told k = 0

abbrev slot_by : Option Meaning → Slot
slot_by view = if is_some view then idle else empty

-- No slot shows a tree then.
slot_none : (games : List Held) (view : Option Meaning) → table_of games (slot_by view) ≡ None
slot_none games None = refl
slot_none games (Some view) = refl

none_shown : (views : Views) (games : List Held) (from n : ℕ) → tables_of games (map (λ (k : ℕ). slot_by (in_slot views k)) (range_with_len from n)) ≡ replicate n None
none_shown views games from zero = refl
none_shown views games from (suc n) = ap₂ (λ (x : Option HitTable) (l : List (Option HitTable)). x ∷ l) (slot_none games (in_slot views from)) (none_shown views games (from + 1) n)

pub show_none : (views : Views) → ShowNone (slots_by views)
show_none views games = none_shown views games 0 8

-- And each view is right.
slot_right : (s : State) (view : Option Meaning) → IsRight (λ (m : Meaning). m.rows) s (slot_by view) view
slot_right s None = refl
slot_right s (Some view) = refl

in_range : (views : Views) (from n k : ℕ) → length views ≤ from + n → slot_at (map (λ (j : ℕ). slot_by (in_slot views j)) (range_with_len from n)) k ≡ slot_by (in_slot views (from + k))
in_range views from zero k few = ap slot_by (sym (get_or_past views (from + k) None (omega (arith, few))))
in_range views from (suc n) zero few = ap (λ (j : ℕ). slot_by (in_slot views j)) (omega arith)
in_range views from (suc n) (suc k) few = in_range views (from + 1) n k (omega (arith, few)) ∙ ap (λ (j : ℕ). slot_by (in_slot views j)) (omega arith)

pub lives_first : (held : DeskHolding) (seen : Seen) (views : Views) (desk created : Bool) (fresh : Option (List ℕ)) (base : Base) → length views ≤ 8 → DeskStands held seen (desk_begin desk created fresh (slots_by views) base)
    → Lives held (around seen views none_told views) (desk_begin desk created fresh (slots_by views) base)
lives_first held seen views desk created fresh base few stands =
    let d : Desk = desk_begin desk created fresh (slots_by views) base in
    record {
      stands = stands;
      views = record {
        right = λ k. subst (λ (slot : Slot). IsRight (λ (m : Meaning). m.rows) (owner_sees d k) slot (in_slot views k)) (sym (in_range views 0 8 k few ∙ ap (λ (j : ℕ). slot_by (in_slot views j)) (omega arith))) (slot_right (owner_sees d k) (in_slot views k));
        idle = λ k is. refl;
        told = λ k. told_same (λ (m : Meaning). m.told) 0 (in_slot views k) (in_slot views k) refl;
      };
    }

pub meanings_few : {B : Type 0} (rows : B → List Row) (told : B → Told) (views : List (Option B)) → length views ≤ 8 → length (meanings rows told views) ≤ 8
meanings_few rows told views few = omega (arith, few, length-map views (option_map (meaning rows told)))
