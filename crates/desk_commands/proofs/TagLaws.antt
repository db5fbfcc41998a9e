-- A text whose lines went out behind a tag, where its end waited on a page.
use Rattle.std.proofs.Common.{◌≡◌, ◌<◌, ◌≤◌, ◌+◌, ◌==◌, ℕ, Bool, true, false, cond, List, [], ◌∷◌, ◌++◌, Option, Some, None, Err, length, refl, sym, ap, subst, ◌∙◌, arith, inl, inr}
use Rattle.std.proofs.lemmas.Bool.{ltb-true}
use Rattle.std.proofs.lemmas.List.{append_assoc, append-nil, length-append}
use Rattle.std.specs.Prelude.{nat_lt}
use Rattle.base_files.proofs.Telling.{Grew-adds, Grew-trans}
use Rattle.base_files.specs.Counters.{Rose, raised}
use Rattle.base_files.specs.Told.{adds, Grew, IsPrefix}
use Rattle.base_files.specs.declared.faults.Stop.TheVariants as stop
use Rattle.command_runs.proofs.Joining.{halted_by, none_lost_by}
use Rattle.command_runs.specs.Counts.{Causes, counts}
use Rattle.command_runs.specs.Endings.{Halted, NoneLost}
use Rattle.shell_state.proofs.Unfinishing.{has_byte, unfinished_within}
use Rattle.shell_state.specs.Stands.{Broken, Unfinished, WhyHalt}
use Rattle.shell_state.specs.State.{State}
use Rattle.shell_state.specs.Work.{Work}
use Rattle.shell_state.specs.declared.halt.Halt.{Halt}
use Rattle.shell_state.specs.declared.halt.Halt.TheVariants as halt
use Rattle.command_runs.proofs.Lines.{tagged_append, tagged_byte, tagged_none, tagged_prefix}
use Rattle.command_runs.specs.Rendered.{Opening, Rendered, no_text, said, told_behind, untagged_text}
use Rattle.command_runs.specs.Tagged.{line_begins, tagged, tagged_lines}
use Rattle.command_runs.specs.Waiting.{Waiting}

kept_grew : (first told : Option (List ℕ)) (bytes : List ℕ) → told ≡ adds first bytes → Grew first told
kept_grew first told bytes is = subst (λ (x : Option (List ℕ)). Grew first x) (sym is) (Grew-adds first bytes)

same_front : (front a b : List ℕ) → IsPrefix a b → IsPrefix (front ++ a) (front ++ b)
same_front front a b (rest, is) = (rest, ap (λ (l : List ℕ). front ++ l) is ∙ sym (append_assoc front a rest))

-- What the sink and the page have is a front part of the text with its tags.
front_of : (tag : List ℕ) (first told : Option (List ℕ)) (waits text : List ℕ) → told ≡ adds first (told_behind first told)
    → ((so_far : List ℕ) → untagged_text tag first told waits ≡ Some so_far → adds told waits ≡ adds first (tagged tag so_far)) → Grew (untagged_text tag first told waits) (adds (no_text first) text)
    → Grew (adds told waits) (adds first (tagged tag text))
front_of tag None None waits text kept is within = tt
front_of tag None (Some told) waits text kept is within = absurd cc
front_of tag (Some first) None waits text kept is within = absurd cc
front_of tag (Some first) (Some told) waits text kept is within =
    subst (λ (x : Option (List ℕ)). Grew x (Some (first ++ tagged tag text))) (sym (is _ refl)) (same_front first (tagged tag _) (tagged tag text) (tagged_prefix tag _ text within))

pub tag_halted : (o : Opening) (told told' : Option (List ℕ)) (faults : ℕ) (page : Waiting) (text : List ℕ) → Rendered o told faults page → Halted [] text (no_text o.told) (said o told page) → Halted [] page.bytes told told'
    → Halted [] (tagged o.tag text) o.told told'
tag_halted o told told' faults page text r inner flushed =
    halted_by (tagged o.tag text) o.told told'
    (Grew-trans o.told told told' (kept_grew o.told told (told_behind o.told told) r.kept) (Grew-trans told (adds told []) told' (Grew-adds told []) flushed.none_lost))
    (Grew-trans told' (adds told page.bytes) (adds o.told (tagged o.tag text)) flushed.no_more (front_of o.tag o.told told page.bytes text r.kept r.text inner.no_more))

pub tag_lost : (o : Opening) (told told' : Option (List ℕ)) (faults : ℕ) (page : Waiting) → Rendered o told faults page → Halted [] page.bytes told told' → NoneLost o.told told'
tag_lost o told told' faults page r flushed =
    none_lost_by o.told told' (Grew-trans o.told told told' (kept_grew o.told told (told_behind o.told told) r.kept) (Grew-trans told (adds told []) told' (Grew-adds told []) flushed.none_lost))

-- All of it went out.
all_of : (tag : List ℕ) (first told : Option (List ℕ)) (waits text : List ℕ) → told ≡ adds first (told_behind first told)
    → ((so_far : List ℕ) → untagged_text tag first told waits ≡ Some so_far → adds told waits ≡ adds first (tagged tag so_far)) → untagged_text tag first told waits ≡ adds (no_text first) text
    → adds told waits ≡ adds first (tagged tag text)
all_of tag None None waits text kept is said = refl
all_of tag None (Some told) waits text kept is said = absurd cc
all_of tag (Some first) None waits text kept is said = absurd cc
all_of tag (Some first) (Some told) waits text kept is said = is text said

pub tag_written : (o : Opening) (told told' : Option (List ℕ)) (faults : ℕ) (page : Waiting) (text : List ℕ) → Rendered o told faults page → said o told page ≡ adds (no_text o.told) text → told' ≡ adds told page.bytes → told' ≡ adds o.told (tagged o.tag text)
tag_written o told told' faults page text r inner flushed = flushed ∙ all_of o.tag o.told told page.bytes text r.kept r.text inner

-- Nothing of it was said, and nothing went out.
no_rest : (front rest more : List ℕ) → front ≡ (front ++ rest) ++ more → rest ≡ []
no_rest front [] more is = refl
no_rest front (byte ∷ rest) more is = absurd (omega (arith, ap (λ (l : List ℕ). length l) is, length-append (front ++ byte ∷ rest) more, length-append front (byte ∷ rest)))

same_both : (a b : Option (List ℕ)) → Grew a b → Grew b a → b ≡ a
same_both None None there back = refl
same_both None (Some b) there back = absurd there
same_both (Some a) None there back = absurd there
same_both (Some a) (Some b) there back =
    let whole : a ≡ (a ++ there.0) ++ back.0 = back.1 ∙ ap (λ (l : List ℕ). l ++ back.0) there.1 in
    ap (λ (l : List ℕ). Some l) (there.1 ∙ (ap (λ (l : List ℕ). a ++ l) (no_rest a there.0 back.0 whole) ∙ append-nil a))

none_of : (tag : List ℕ) (first told : Option (List ℕ)) (waits : List ℕ) → told ≡ adds first (told_behind first told)
    → ((so_far : List ℕ) → untagged_text tag first told waits ≡ Some so_far → adds told waits ≡ adds first (tagged tag so_far)) → untagged_text tag first told waits ≡ no_text first → adds told waits ≡ first
none_of tag None None waits kept is said = refl
none_of tag None (Some told) waits kept is said = absurd cc
none_of tag (Some first) None waits kept is said = absurd cc
none_of tag (Some first) (Some told) waits kept is said = is [] said ∙ ap (λ (l : List ℕ). Some l) (ap (λ (l : List ℕ). first ++ l) (tagged_none true tag) ∙ append-nil first)

pub tag_unsaid : (o : Opening) (told told' : Option (List ℕ)) (faults : ℕ) (page : Waiting) → Rendered o told faults page → said o told page ≡ no_text o.told → Halted [] page.bytes told told' → told' ≡ o.told
tag_unsaid o told told' faults page r none flushed =
    let back = subst (λ (x : Option (List ℕ)). Grew told' x) (none_of o.tag o.told told page.bytes r.kept r.text none) flushed.no_more in
    same_both o.told told' (Grew-trans o.told told told' (kept_grew o.told told (told_behind o.told told) r.kept) (Grew-trans told (adds told []) told' (Grew-adds told []) flushed.none_lost)) back

-- The files left it unfinished.
tag_within : (o : Opening) (told told' : Option (List ℕ)) (faults : ℕ) (page : Waiting) (front : List ℕ) → Rendered o told faults page → Grew (said o told page) (adds (no_text o.told) front) → Halted [] page.bytes told told'
    → Grew told' (adds o.told (tagged o.tag front))
tag_within o told told' faults page front r within flushed =
    Grew-trans told' (adds told page.bytes) (adds o.told (tagged o.tag front)) flushed.no_more (front_of o.tag o.told told page.bytes front r.kept r.text within)

tag_unfinished : (early : Bool) (o : Opening) (told told' : Option (List ℕ)) (faults : ℕ) (page : Waiting) (text : List ℕ) → Rendered o told faults page → Halted [] page.bytes told told'
    → Unfinished early text (no_text o.told) (said o told page) → Unfinished early (tagged o.tag text) o.told told'
tag_unfinished false o told told' faults page text r flushed none = tag_unsaid o told told' faults page r none flushed
tag_unfinished true o told told' faults page text r flushed part =
    let front : List ℕ = part.0 in
    let more : List ℕ = tagged_lines (line_begins true front) o.tag (part.1 ∷ part.2) in
    let all : tagged o.tag text ≡ tagged o.tag front ++ more = ap (tagged o.tag) part.3 ∙ tagged_append true o.tag front (part.1 ∷ part.2) in
    let some : more ≡ [] → ⊥ = λ none. has_byte (cond (line_begins true front) o.tag []) part.1 (tagged_lines (part.1 == 10) o.tag part.2) (sym (tagged_byte (line_begins true front) o.tag part.1 part.2) ∙ none) in
    let P : List ℕ → Type 0 = λ l. Unfinished true l o.told told' in
    subst P (sym all) (unfinished_within (tagged o.tag front) more o.told told' (tag_within o told told' faults page front r part.4 flushed) some)

pub tag_broken : (s : State) (work : Work) (e : Halt) (o : Opening) (told told' : Option (List ℕ)) (faults : ℕ) (page : Waiting) (text : List ℕ) → Rendered o told faults page → Halted [] page.bytes told told'
    → Broken s work e text (no_text o.told) (said o told page) → Broken s work e (tagged o.tag text) o.told told'
tag_broken s work (halt.Device stop.Read) o told told' faults page text r flushed broken = broken
tag_broken s work (halt.Device stop.Files) o told told' faults page text r flushed broken = (broken.0, tag_unfinished work.early o told told' faults page text r flushed broken.1)
tag_broken s work (halt.Device stop.Write) o told told' faults page text r flushed broken = tt
tag_broken s work (halt.Device stop.Memory) o told told' faults page text r flushed broken = tt
tag_broken s work (halt.Changed game kept found) o told told' faults page text r flushed broken = absurd broken

-- ---- why

rose_by : (a b : ℕ) → raised a 1 ≤ b → Rose a b
rose_by a b most = by-test (nat_lt a b) refl
  where
    by-test : (t : Bool) → nat_lt a b ≡ t → Rose a b
    by-test true e = inl (ltb-true a b e)
    by-test false e = inr (grind (arith, most, e))

-- A command that was broken off over the page was broken off over the sink.
why_sink : (e : Halt) (f f' b b' faults faults' k : ℕ) → (0 < faults' → raised k 1 ≤ faults) → WhyHalt e (counts f b 0) (counts f' b' faults') → WhyHalt e (counts f b k) (counts f' b' faults)
why_sink (halt.Device stop.Read) f f' b b' faults faults' k failed why = why
why_sink (halt.Device stop.Files) f f' b b' faults faults' k failed why = why
why_sink (halt.Device stop.Write) f f' b b' faults faults' k failed why = rose_by k faults (failed (some faults' why))
  where
    some : (n : ℕ) → Rose 0 n → 0 < n
    some n (inl p) = p
    some n (inr p) = omega (arith, p)
why_sink (halt.Device stop.Memory) f f' b b' faults faults' k failed why = tt
why_sink (halt.Changed game kept found) f f' b b' faults faults' k failed why = why

later_sink : (e : Halt) (f f' b b' k m n : ℕ) → m ≤ n → WhyHalt e (counts f b k) (counts f' b' m) → WhyHalt e (counts f b k) (counts f' b' n)
later_sink (halt.Device stop.Read) f f' b b' k m n less why = why
later_sink (halt.Device stop.Files) f f' b b' k m n less why = why
later_sink (halt.Device stop.Write) f f' b b' k m n less (inl p) = inl (omega (arith, p, less))
later_sink (halt.Device stop.Write) f f' b b' k m n less (inr p) = inr (omega (arith, p, less))
later_sink (halt.Device stop.Memory) f f' b b' k m n less why = tt
later_sink (halt.Changed game kept found) f f' b b' k m n less why = why

pub tag_causes : {A B : Type 0} (o : Opening) (told : Option (List ℕ)) (faults later : ℕ) (page : Waiting) (e : Halt) (f f' b b' : ℕ) → Rendered o told faults page → faults ≤ later
    → Causes {A = A} {E = Halt} WhyHalt (Err e) (counts f b 0) (counts f' b' page.faults) → Causes {A = B} {E = Halt} WhyHalt (Err e) (counts f b o.faults) (counts f' b' later)
tag_causes o told faults later page e f f' b b' r less causes = record {
  none_fell = record { files = causes.none_fell.files; input = causes.none_fell.input; output = omega (arith, r.counts, less) };
  why = later_sink e f f' b b' o.faults faults later less (why_sink e f f' b b' faults page.faults o.faults r.failed causes.why);
}
