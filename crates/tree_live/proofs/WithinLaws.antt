-- Some slots, one behind the other, of a list of them, and what is told to their views.
use Rattle.std.proofs.Common.{◌≡◌, ℕ, ◌+◌, ◌-◌, ◌<◌, ◌≤◌, nat_le, nat_lt, Bool, true, false, List, ◌++◌, Option, Some, None, length, option_map, take, drop, refl, sym, ap, subst, ◌∙◌, arith, IfSome}
use Rattle.std.proofs.lemmas.Bool.{and_parts, le-leb, leb-true, ltb-false, ltb-true}
use Rattle.std.proofs.lemmas.List.{get_or-append_right, get_or-drop, get_or-take, get_or_append_left, get_or_past, length-drop, length-take-le}
use Rattle.std.specs.Prelude.{if◌then◌else◌}
use Rattle.tree_rows.specs.declared.row.Row.{Row}
use Rattle.tree_live.specs.Watching.{Watched, hits_in}
use Rattle.tree_live.specs.Slots.{AreShownIf, AreToldRows, Slotted, in_slot, is_within, rows_in, IsTold}
use Rattle.tree_live.specs.Showing.{ShownBelow, ToldEach}
use Rattle.tree_live.specs.Views.{Told, Shows, ToldRows}

-- ---- a slot among them, or not

record Among (start count k : ℕ) : Type 0 where
  from : start ≤ k
  below : k - start < count

among : (start count k : ℕ) → is_within start count k ≡ true → Among start count k
among start count k within =
    let both = and_parts (nat_le start k) (nat_lt k (start + count)) within in
    let from = leb-true start k both.0 in
    let to = ltb-true k (start + count) both.1 in
    record { from = from; below = omega (arith, from, to) }

past_them : (start count k : ℕ) → start ≤ k → is_within start count k ≡ false → count ≤ k - start
past_them start count k from not =
    let test : nat_le start k ≡ true = le-leb start k from in
    let past : nat_lt k (start + count) ≡ false = rw test at not in
    omega (arith, from, ltb-false k (start + count) past)

-- ---- the part of a list where they stand

pub part_count : (all : List (Option Watched)) (a n start count : ℕ) → a ≡ start → n ≡ count → start + count ≤ length all → length (take n (drop a all)) ≡ count
part_count all a n start count from many within = length-take-le n (drop a all) (omega (arith, length-drop a all, from, many, within)) ∙ many

-- Its slots are these of the list.
in_part : (all : List (Option Watched)) (a n start count k : ℕ) → a ≡ start → n ≡ count → start ≤ k → k - start < count → in_slot (take n (drop a all)) (k - start) ≡ in_slot all k
in_part all a n start count k from many behind below =
    get_or-take n (drop a all) (k - start) None (omega (arith, many, below)) ∙ get_or-drop a all (k - start) None ∙ ap (in_slot all) (omega (arith, from, behind))

-- So they are with another part in its place.
in_place : (front part rest : List (Option Watched)) (start k : ℕ) → length front ≡ start → start ≤ k → k - start < length part → in_slot (front ++ (part ++ rest)) k ≡ in_slot part (k - start)
in_place front part rest start k is behind below =
    get_or-append_right front (part ++ rest) start k None is behind ∙ get_or_append_left part rest None (k - start) below

-- ---- what is told

pub shown_within : {B : Type 0} (rows : B → List Row) (told : B → Told) (start count first : ℕ) (front part rest : List (Option Watched)) (views views' : List (Option B)) (slots : Slotted)
    → first ≡ slots.first + start → slots.watches ≡ front ++ (part ++ rest) → length front ≡ start → length part ≡ count
    → ShownBelow rows told first (length part) part views views' → AreShownIf rows (is_within start count) slots views'
shown_within rows told start count first front part rest views views' slots at are front_is part_is shown k within =
    let b = among start count k within in
    let here : in_slot slots.watches k ≡ in_slot part (k - start) = ap (λ (l : List (Option Watched)). in_slot l k) are ∙ in_place front part rest start k front_is b.from (omega (arith, b.below, part_is)) in
    let place : first + (k - start) ≡ slots.first + k = omega (arith, at, b.from) in
    subst (λ (watch : Option Watched). IfSome watch (λ watch. IfSome (in_slot views' (slots.first + k)) (λ view. Shows (hits_in watch.games) (rows view)))) (sym here)
    (subst (λ (n : ℕ). IfSome (in_slot part (k - start)) (λ watch. IfSome (in_slot views' n) (λ view. Shows (hits_in watch.games) (rows view)))) place (shown.shown (k - start) (omega (arith, b.below, part_is))))

-- The rows of changed watches.
changed_rows : (change : Watched → Watched) (watch : Option Watched) → option_map rows_in (option_map change watch) ≡ option_map (λ (w : Watched). rows_in (change w)) watch
changed_rows change None = refl
changed_rows change (Some watch) = refl

told_within : {B : Type 0} (rows : B → List Row) (told : B → Told) (start count first a n : ℕ) (all part : List (Option Watched)) (views views' : List (Option B)) (slots : Slotted) (change : Watched → Watched)
    → first ≡ slots.first + start → all ≡ slots.watches → a ≡ start → n ≡ count → length part ≡ count
    → ((j : ℕ) → j < count → in_slot part j ≡ option_map change (in_slot (take n (drop a all)) j))
    → ToldEach rows told first part views views' → AreToldRows rows told (is_within start count) change slots views views'
told_within {B} rows told start count first a n all part views views' slots change at are from many part_is changed tells = record {
  views = λ k. by k (is_within start count k) refl;
  others = λ i below. tells.others i (omega (arith, below, at));
  number = tells.number;
}
  where
    -- The view behind so many of them.
    behind : (k : ℕ) (later : Option (List Row)) → start ≤ k → option_map rows_in (in_slot part (k - start)) ≡ later
        → IsTold (ToldRows rows told) later (in_slot views (slots.first + k)) (in_slot views' (slots.first + k))
    behind k later from is =
        let place : first + (k - start) ≡ slots.first + k = omega (arith, at, from) in
        subst (λ (o : Option (List Row)). IsTold (ToldRows rows told) o (in_slot views (slots.first + k)) (in_slot views' (slots.first + k))) is
        (subst (λ (i : ℕ). IsTold (ToldRows rows told) (option_map rows_in (in_slot part (k - start))) (in_slot views i) (in_slot views' i)) place (tells.slots (k - start)))

    outside : (k : ℕ) (from : Bool) → nat_lt k start ≡ from → is_within start count k ≡ false → IsTold (ToldRows rows told) None (in_slot views (slots.first + k)) (in_slot views' (slots.first + k))
    outside k true before not = tells.others (slots.first + k) (omega (arith, at, ltb-true k start before))
    outside k false behind_it not =
        let from = ltb-false k start behind_it in
        behind k None from (ap (option_map rows_in) (get_or_past part (k - start) None (omega (arith, part_is, past_them start count k from not))))

    by : (k : ℕ) (within : Bool) → is_within start count k ≡ within
        → IsTold (ToldRows rows told) (if within then option_map (λ (w : Watched). rows_in (change w)) (in_slot slots.watches k) else None) (in_slot views (slots.first + k)) (in_slot views' (slots.first + k))
    by k true within =
        let b = among start count k within in
        let same : in_slot (take n (drop a all)) (k - start) ≡ in_slot slots.watches k =
        in_part all a n start count k from many b.from b.below ∙ ap (λ (l : List (Option Watched)). in_slot l k) are in
        behind k (option_map (λ (w : Watched). rows_in (change w)) (in_slot slots.watches k)) b.from
        (ap (option_map rows_in) (changed (k - start) b.below ∙ ap (option_map change) same) ∙ changed_rows change (in_slot slots.watches k))
    by k false not = outside k (nat_lt k start) refl not

-- The same of slots that are these.
pub told_of : {B : Type 0} (rows : B → List Row) (told : B → Told) (start count first a n : ℕ) (all part : List (Option Watched)) (views views' : List (Option B)) (slots slots' : Slotted) (change : Watched → Watched)
    → slots ≡ slots' → first ≡ slots.first + start → all ≡ slots.watches → a ≡ start → n ≡ count → length part ≡ count
    → ((j : ℕ) → j < count → in_slot part j ≡ option_map change (in_slot (take n (drop a all)) j))
    → ToldEach rows told first part views views' → AreToldRows rows told (is_within start count) change slots' views views'
told_of rows told start count first a n all part views views' slots slots' change same at are from many part_is changed tells =
    subst (λ (s : Slotted). AreToldRows rows told (is_within start count) change s views views') same
    (told_within rows told start count first a n all part views views' slots change at are from many part_is changed tells)
