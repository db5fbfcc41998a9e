-- What the writer of a text knows when it is written: what the sink told before, `o.told`, and after it.
use Rattle.std.proofs.Common.{◌≡◌, ◌≤◌, ◌<◌, ◌⊎◌, inl, inr, ℕ, true, List, [], ◌∷◌, ◌++◌, length, drop, Option, None, Some, Result, Ok, Err, OnOk, refl, sym, ap, ◌∙◌, subst, arith, append_assoc, append-nil}
use Rattle.std.proofs.lemmas.Bool.{cases_lt}
use Rattle.std.proofs.lemmas.List.{append_cancel_left}
use Rattle.base_files.specs.Counters.{LAST, Rose, raised}
use Rattle.base_files.specs.Told.{IsPrefix, adds, Grew}
use Rattle.base_files.specs.declared.faults.Stop.{Stop}
use Rattle.base_files.specs.declared.faults.Stop.TheVariants as stop
use Rattle.base_files.proofs.Rising.{Rose-after}
use Rattle.base_files.proofs.Telling.{adds-nil, Grew-refl, Grew-adds, Grew-trans}
use Rattle.command_runs.specs.Counts.{Causes, Why, counts}
use Rattle.command_runs.specs.Endings.{Halted, NoneLost}
use Rattle.command_runs.proofs.Joining.{halted_by}
use Rattle.command_runs.specs.Rendered.{Opening, Rendered, no_text, said, told_behind, untagged_text}
use Rattle.command_runs.specs.Tagged.{tagged, untagged}
use Rattle.command_runs.specs.Waiting.{Waiting}
use Rattle.command_runs.proofs.Lines.{tagged_none, tagged_prefix}

-- ---- how much was written

whole_by : (tag : List ℕ) (first told : Option (List ℕ)) (waits text : List ℕ) → told ≡ adds first (told_behind first told)
    → ((so_far : List ℕ) → untagged_text tag first told waits ≡ Some so_far → adds told waits ≡ adds first (tagged tag so_far))
    → untagged_text tag first told waits ≡ adds (no_text first) text → adds told waits ≡ adds first (tagged tag text)
whole_by tag None None waits text kept whole is = refl
whole_by tag None (Some told) waits text kept whole is = cc
whole_by tag (Some first) None waits text kept whole is = cc
whole_by tag (Some first) (Some told) waits text kept whole is = whole text is

-- The whole text was written, and then what waited.
pub tagged_written : (o : Opening) (told told' : Option (List ℕ)) (faults : ℕ) (page : Waiting) (text : List ℕ) → Rendered o told faults page
    → said o told page ≡ adds (no_text o.told) text → told' ≡ adds told page.bytes → told' ≡ adds o.told (tagged o.tag text)
tagged_written o told told' faults page text r all written = written ∙ whole_by o.tag o.told told page.bytes text r.kept r.text all

most_by : (tag : List ℕ) (first told : Option (List ℕ)) (waits text : List ℕ) → told ≡ adds first (told_behind first told)
    → ((so_far : List ℕ) → untagged_text tag first told waits ≡ Some so_far → adds told waits ≡ adds first (tagged tag so_far))
    → Grew (untagged_text tag first told waits) (adds (no_text first) text) → Grew (adds told waits) (adds first (tagged tag text))
most_by tag None None waits text kept whole most = tt
most_by tag None (Some told) waits text kept whole most = cc
most_by tag (Some first) None waits text kept whole most = cc
most_by tag (Some first) (Some told) waits text kept whole most =
    let so_far : List ℕ = untagged (length tag) (length tag) (drop (length first) told ++ waits) in
    let more : IsPrefix (tagged tag so_far) (tagged tag text) = tagged_prefix tag so_far text most in
    let same : adds (Some told) waits ≡ adds (Some first) (tagged tag so_far) = whole so_far refl in
    let P : Option (List ℕ) → Type 0 = λ t. Grew t (adds (Some first) (tagged tag text)) in
    let longer : Grew (adds (Some first) (tagged tag so_far)) (adds (Some first) (tagged tag text)) =
    (more.0, ap (λ (l : List ℕ). first ++ l) more.1 ∙ sym (append_assoc first (tagged tag so_far) more.0)) in
    subst P (sym same) longer

-- The sink has kept what it told before.
pub tagged_grew : (o : Opening) (told : Option (List ℕ)) (faults : ℕ) (page : Waiting) → Rendered o told faults page → Grew o.told told
tagged_grew o told faults page r =
    let P : Option (List ℕ) → Type 0 = λ t. Grew o.told t in
    subst P (sym r.kept) (Grew-adds o.told (told_behind o.told told))

-- A front part of the text was written, and then perhaps some of what waited.
pub tagged_halted : (o : Opening) (told told' : Option (List ℕ)) (faults : ℕ) (page : Waiting) (text : List ℕ) → Rendered o told faults page
    → Halted [] text (no_text o.told) (said o told page) → Halted [] page.bytes told told' → Halted [] (tagged o.tag text) o.told told'
tagged_halted o told told' faults page text r part flushed =
    let P : Option (List ℕ) → Type 0 = λ t. Grew t told' in
    let later : Grew told told' = subst P (adds-nil told) flushed.none_lost in
    halted_by (tagged o.tag text) o.told told'
    (Grew-trans o.told told told' (tagged_grew o told faults page r) later)
    (Grew-trans told' (adds told page.bytes) (adds o.told (tagged o.tag text)) flushed.no_more (most_by o.tag o.told told page.bytes text r.kept r.text part.no_more))

-- Nothing was written of what waited.
pub none_flushed : (told : Option (List ℕ)) (waits : List ℕ) → Halted [] waits told told
none_flushed told waits = halted_by waits told told (Grew-refl told) (Grew-adds told waits)

-- A front part of the text was written, and nothing of what waited.
pub tagged_broken : (o : Opening) (told : Option (List ℕ)) (faults : ℕ) (page : Waiting) (text : List ℕ) → Rendered o told faults page
    → Halted [] text (no_text o.told) (said o told page) → Halted [] (tagged o.tag text) o.told told
tagged_broken o told faults page text r part = tagged_halted o told told faults page text r part (none_flushed told page.bytes)

-- What it told before it tells still.
pub tagged_none_lost : (o : Opening) (told told' : Option (List ℕ)) (faults : ℕ) (page : Waiting) → Rendered o told faults page → NoneLost told told' → NoneLost o.told told'
tagged_none_lost o told told' faults page r later = λ front grew. later front (Grew-trans front o.told told grew (tagged_grew o told faults page r))

none_in_front : (xs ys : List ℕ) → xs ++ ys ≡ [] → xs ≡ []
none_in_front [] ys none = refl
none_in_front (x ∷ xs) ys none = cc

untouched_by : (tag : List ℕ) (first told : Option (List ℕ)) (waits : List ℕ) → told ≡ adds first (told_behind first told)
    → ((so_far : List ℕ) → untagged_text tag first told waits ≡ Some so_far → adds told waits ≡ adds first (tagged tag so_far))
    → untagged_text tag first told waits ≡ no_text first → told ≡ first
untouched_by tag None told waits kept whole is = kept
untouched_by tag (Some first) None waits kept whole is = cc
untouched_by tag (Some first) (Some told) waits kept whole is =
    let was : told ≡ first ++ drop (length first) told = cc in
    let all : adds (Some told) waits ≡ Some (first ++ []) = whole [] is ∙ ap (λ (l : List ℕ). Some (first ++ l)) (tagged_none true tag) in
    let same : told ++ waits ≡ first ++ [] = cc in
    let none : drop (length first) told ++ waits ≡ [] =
    append_cancel_left first (drop (length first) told ++ waits) [] (sym (append_assoc first (drop (length first) told) waits) ∙ ap (λ (l : List ℕ). l ++ waits) (sym was) ∙ same) in
    ap (λ (l : List ℕ). Some l) (was ∙ ap (λ (l : List ℕ). first ++ l) (none_in_front (drop (length first) told) waits none) ∙ append-nil first)

-- Where nothing of a text was handed in, the sink tells what it told before.
pub tagged_untouched : (o : Opening) (told : Option (List ℕ)) (faults : ℕ) (page : Waiting) → Rendered o told faults page → said o told page ≡ no_text o.told → told ≡ o.told
tagged_untouched o told faults page r none = untouched_by o.tag o.told told page.bytes r.kept r.text none

-- The same where an early end of writing what waits leaves it open.
pub flushed_written : {A E : Type 0} (result : Result A E) (o : Opening) (told told' : Option (List ℕ)) (faults : ℕ) (page : Waiting) (text : List ℕ) → Rendered o told faults page
    → said o told page ≡ adds (no_text o.told) text → OnOk result (told' ≡ adds told page.bytes) → OnOk result (told' ≡ adds o.told (tagged o.tag text))
flushed_written (Ok value) o told told' faults page text r all written = tagged_written o told told' faults page text r all written
flushed_written (Err e) o told told' faults page text r all written = tt

-- ---- faults

rose_by : (a b : ℕ) → raised a 1 ≤ b → (a < LAST) ⊎ (LAST ≤ a) → Rose a b
rose_by a b more (inl below) = inl (omega (arith, more, below))
rose_by a b more (inr last) = inr (omega (arith, more, last))

some_failed : (n : ℕ) → Rose 0 n → 0 < n
some_failed n rose = elim rose [ inl p ↦ p | inr p ↦ omega (arith, p) ]

none_rose : Rose 0 0 → ⊥
none_rose rose = elim rose [ inl p ↦ omega (arith, p) | inr p ↦ omega (arith, p) ]

-- Where a write of the text failed, the sink counted a fault.
pub tagged_rose : (o : Opening) (told : Option (List ℕ)) (faults : ℕ) (page : Waiting) → Rendered o told faults page → Rose 0 page.faults → Rose o.faults faults
tagged_rose o told faults page r rose = rose_by o.faults faults (r.failed (some_failed page.faults rose)) (cases_lt o.faults LAST)

-- The cause of an early end of the text.
pub tagged_why : (end : Stop) (o : Opening) (told : Option (List ℕ)) (faults : ℕ) (page : Waiting) (files files' input input' : ℕ) → Rendered o told faults page
    → Why end (counts files input 0) (counts files' input' page.faults) → Why end (counts files input o.faults) (counts files' input' faults)
tagged_why stop.Read o told faults page files files' input input' r why = why
tagged_why stop.Write o told faults page files files' input input' r why = tagged_rose o told faults page r why
tagged_why stop.Files o told faults page files files' input input' r why = why
tagged_why stop.Memory o told faults page files files' input input' r why = tt

-- The cause of an early end of writing what waited.
pub flushed_why : (end : Stop) (o : Opening) (told : Option (List ℕ)) (faults faults' : ℕ) (page : Waiting) (files files' input input' : ℕ) → Rendered o told faults page
    → Why end (counts 0 0 faults) (counts 0 0 faults') → Why end (counts files input o.faults) (counts files' input' faults')
flushed_why stop.Read o told faults faults' page files files' input input' r why = absurd (none_rose why)
flushed_why stop.Write o told faults faults' page files files' input input' r why = Rose-after o.faults faults faults' r.counts why
flushed_why stop.Files o told faults faults' page files files' input input' r why = absurd (none_rose why)
flushed_why stop.Memory o told faults faults' page files files' input input' r why = tt

-- The causes of how the text ended, and of how writing what waited did.
pub tagged_causes : {A : Type 0} (result : Result A Stop) (o : Opening) (told : Option (List ℕ)) (faults : ℕ) (page : Waiting) (files files' input input' : ℕ) → Rendered o told faults page
    → Causes Why result (counts files input 0) (counts files' input' page.faults) → Causes Why result (counts files input o.faults) (counts files' input' faults)
tagged_causes (Ok value) o told faults page files files' input input' r c = record { none_fell = record { files = c.none_fell.files; input = c.none_fell.input; output = r.counts }; why = tt }
tagged_causes (Err end) o told faults page files files' input input' r c =
    record { none_fell = record { files = c.none_fell.files; input = c.none_fell.input; output = r.counts }; why = tagged_why end o told faults page files files' input input' r c.why }

pub flushed_causes : {A : Type 0} (result : Result A Stop) (o : Opening) (told : Option (List ℕ)) (faults faults' : ℕ) (page : Waiting) → Rendered o told faults page
    → Causes Why result (counts 0 0 faults) (counts 0 0 faults') → Causes Why result (counts 0 0 o.faults) (counts 0 0 faults')
flushed_causes (Ok value) o told faults faults' page r c = record { none_fell = record { files = omega arith; input = omega arith; output = omega (arith, r.counts, c.none_fell.output) }; why = tt }
flushed_causes (Err end) o told faults faults' page r c =
    record { none_fell = record { files = omega arith; input = omega arith; output = omega (arith, r.counts, c.none_fell.output) }; why = flushed_why end o told faults faults' page 0 0 0 0 r c.why }
