-- Laws of texts of games that were written up to any place: the games before it stand whole.
use Rattle.std.proofs.Common.{◌≡◌, ℕ, List, Option, None, Some, Result, Ok, Err, [], ◌∷◌, ◌++◌, ◌+◌, zero, suc, ◌⊎◌, inl, inr, take, refl, sym, ap, ◌∙◌, append_assoc, append-nil, add-one, subst}
use Rattle.base_core.specs.Base.{Held}
use Rattle.base_files.proofs.Telling.{adds-nil, Grew-adds, Grew-refl, Grew-trans}
use Rattle.base_files.specs.Told.{adds, Grew, IsPrefix}
use Rattle.base_files.specs.declared.faults.Stop.TheVariants as stop
use Rattle.command_runs.specs.Endings.{NoneLost}
use Rattle.shell_state.proofs.Causing.{fault_of_output}
use Rattle.shell_state.specs.Ends.{IsOutput}
use Rattle.shell_state.specs.Lines.{texts_from}
use Rattle.shell_state.specs.declared.halt.Halt.{Halt}
use Rattle.shell_state.specs.declared.halt.Halt.TheVariants as halt
use Rattle.text_commands.proofs.TextLaws.{TextOf, texts-begin}
use Rattle.text_commands.specs.Cuts.{GamesEnd}
use Rattle.text_commands.specs.GameTexts.{ExportCut, exported, exported_first, text_if_in}

-- Of two ways to part a list, one ends before the other.
abbrev Parted : List ℕ → List ℕ → List ℕ → List ℕ → Type 0
Parted t later x rest = IsPrefix x t ⊎ ((more : List ℕ) × (x ≡ t ++ more) × (later ≡ more ++ rest))

parted_on : (a b : ℕ) (t later x rest : List ℕ) → a ≡ b → Parted t later x rest → Parted (a ∷ t) later (b ∷ x) rest
parted_on a b t later x rest same (inl (k, is)) = inl (k, cc)
parted_on a b t later x rest same (inr (more, is, behind)) = inr (more, cc, behind)

parted : (t later x rest : List ℕ) → t ++ later ≡ x ++ rest → Parted t later x rest
parted [] later x rest is = inr (x, refl, is)
parted (a ∷ t) later [] rest is = inl (a ∷ t, refl)
parted (a ∷ t) later (b ∷ x) rest is =
    let head : a ≡ b = cc in
    let tail : t ++ later ≡ x ++ rest = cc in
    parted_on a b t later x rest head (parted t later x rest tail)

-- What was written ends within the text of one game.
record CutAt {A : Type 0} (text : TextOf A) (n : ℕ) (plies : List (Option ℕ)) (items : List A) (x : List ℕ) : Type 0 where
  count : ℕ
  front : IsPrefix (texts_from text n (take count plies) (take count items)) x
  within : IsPrefix x (texts_from text n (take (suc count) plies) (take (suc count) items))

cut_later : {A : Type 0} (text : TextOf A) (n : ℕ) (ply : Option ℕ) (item : A) (plies : List (Option ℕ)) (items : List A) (x more : List ℕ) → x ≡ text n ply item ++ more
    → CutAt text (n + 1) plies items more → CutAt text n (ply ∷ plies) (item ∷ items) x
cut_later text n ply item plies items x more is cut =
    let t : List ℕ = text n ply item in
    let f : List ℕ = texts_from text (n + 1) (take cut.count plies) (take cut.count items) in
    let g : List ℕ = texts_from text (n + 1) (take (suc cut.count) plies) (take (suc cut.count) items) in
    record {
      count = suc cut.count;
      front = (cut.front.0, is ∙ ap (λ (l : List ℕ). t ++ l) cut.front.1 ∙ sym (append_assoc t f cut.front.0));
      within = (cut.within.0, ap (λ (l : List ℕ). t ++ l) cut.within.1 ∙ sym (append_assoc t more cut.within.0) ∙ ap (λ (l : List ℕ). l ++ cut.within.0) (sym is));
    }

cut_here : {A : Type 0} (text : TextOf A) (n : ℕ) (ply : Option ℕ) (item : A) (plies : List (Option ℕ)) (items : List A) (x : List ℕ) → IsPrefix x (text n ply item)
    → CutAt text n (ply ∷ plies) (item ∷ items) x
cut_here text n ply item plies items x (k, is) = record { count = zero; front = (x, refl); within = (k, append-nil (text n ply item) ∙ is) }

cut_parted : {A : Type 0} (text : TextOf A) (n : ℕ) (ply : Option ℕ) (item : A) (plies : List (Option ℕ)) (items : List A) (x rest : List ℕ)
    → ((more : List ℕ) → texts_from text (n + 1) plies items ≡ more ++ rest → CutAt text (n + 1) plies items more)
    → Parted (text n ply item) (texts_from text (n + 1) plies items) x rest → CutAt text n (ply ∷ plies) (item ∷ items) x
cut_parted text n ply item plies items x rest later (inl here) = cut_here text n ply item plies items x here
cut_parted text n ply item plies items x rest later (inr (more, is, behind)) = cut_later text n ply item plies items x more is (later more behind)

cut_at : {A : Type 0} (text : TextOf A) (n : ℕ) (plies : List (Option ℕ)) (items : List A) (x rest : List ℕ) → texts_from text n plies items ≡ x ++ rest → CutAt text n plies items x
cut_at text n [] items x rest is = record { count = zero; front = (x, refl); within = (rest, is) }
cut_at text n (ply ∷ plies) [] x rest is = record { count = zero; front = (x, refl); within = (rest, is) }
cut_at text n (ply ∷ plies) (item ∷ items) x rest is =
    cut_parted text n ply item plies items x rest (λ more behind. cut_at text (n + 1) plies items more rest behind) (parted (text n ply item) (texts_from text (n + 1) plies items) x rest is)

-- The same of what an output tells.
cancelled : (t a b : List ℕ) → t ++ a ≡ t ++ b → a ≡ b
cancelled [] a b is = is
cancelled (x ∷ t) a b is = let tail : t ++ a ≡ t ++ b = cc in cancelled t a b tail

no_files : (e : Halt) → IsOutput e → e ≡ halt.Device stop.Files → ⊥
no_files e output is = subst IsOutput is output

cut_somewhere : (e : Halt) (plies : List (Option ℕ)) (games : List Held) (told told' : Option (List ℕ)) → IsOutput e → Grew told told' → Grew told' (adds told (exported plies games)) → ExportCut plies games e told told'
cut_somewhere e plies games None None output grew within = record { count = 0; wrote = record { none_lost = tt; no_more = tt }; whole = λ is. absurd (no_files e output is) }
cut_somewhere e plies games None (Some new) output grew within = absurd grew
cut_somewhere e plies games (Some old) None output grew within = absurd grew
cut_somewhere e plies games (Some old) (Some new) output (x, is) (rest, all) =
    let split : exported plies games ≡ x ++ rest = cancelled old (exported plies games) (x ++ rest) (all ∙ ap (λ (l : List ℕ). l ++ rest) is ∙ append_assoc old x rest) in
    let cut = cut_at text_if_in 0 plies games x rest split in
    let f : List ℕ = exported_first cut.count plies games in
    let g : List ℕ = exported_first (suc cut.count) plies games in
    let P : ℕ → Type 0 = λ n. IsPrefix new (old ++ exported_first n plies games) in
    record {
      count = cut.count;
      wrote = record {
        none_lost = (cut.front.0, is ∙ ap (λ (l : List ℕ). old ++ l) cut.front.1 ∙ sym (append_assoc old f cut.front.0));
        no_more = subst P (sym (add-one cut.count)) (cut.within.0, ap (λ (l : List ℕ). old ++ l) cut.within.1 ∙ sym (append_assoc old x cut.within.0) ∙ ap (λ (l : List ℕ). l ++ cut.within.0) (sym is));
      };
      whole = λ is. absurd (no_files e output is);
    }

-- ---- the page at the end of an export

-- What was put is a front part of all.
put_within : {A : Type 0} (r : Result A Halt) (plies : List (Option ℕ)) (games : List Held) (told waits : Option (List ℕ)) → GamesEnd r plies games told waits → Grew waits (adds told (exported plies games))
put_within (Ok x) plies games told waits ends = let P : Option (List ℕ) → Type 0 = λ t. Grew waits t in subst P ends (Grew-refl waits)
put_within (Err e) plies games told waits ends =
    let cut = ends.0 in
    let P : List ℕ → Type 0 = λ l. Grew waits (adds told l) in
    subst P (append-nil (exported plies games))
    (Grew-trans waits (adds told (exported_first (cut.count + 1) plies games)) (adds told (exported plies games ++ [])) cut.wrote.no_more (texts-begin text_if_in told (cut.count + 1) plies games []))

-- The page was written behind what was taken.
pub page_written : {A : Type 0} (r : Result A Halt) (plies : List (Option ℕ)) (games : List Held) (told told' waits : Option (List ℕ)) (page page' : List ℕ) → page ≡ [] → GamesEnd r plies games (adds told page) waits
    → adds told' page' ≡ waits → page' ≡ [] → GamesEnd r plies games told told'
page_written r plies games told told' waits page page' none ends kept empty =
    let first : adds told page ≡ told = ap (adds told) none ∙ adds-nil told in
    let last : waits ≡ told' = sym kept ∙ ap (adds told') empty ∙ adds-nil told' in
    let P : Option (List ℕ) → Type 0 = λ t. GamesEnd r plies games t waits in
    let Q : Option (List ℕ) → Type 0 = λ t. GamesEnd r plies games told t in
    subst Q last (subst P first ends)

-- The page was not, or in part.
pub page_unwritten : {A : Type 0} (r : Result A Halt) (e : Halt) (plies : List (Option ℕ)) (games : List Held) (told told' waits : Option (List ℕ)) (page page' : List ℕ) → page ≡ [] → GamesEnd r plies games (adds told page) waits
    → adds told' page' ≡ waits → NoneLost told told' → IsOutput e → GamesEnd {A = A} (Err e) plies games told told'
page_unwritten {A = A} r e plies games told told' waits page page' none ends kept lost output =
    let first : adds told page ≡ told = ap (adds told) none ∙ adds-nil told in
    let P : Option (List ℕ) → Type 0 = λ t. GamesEnd r plies games t waits in
    let Q : Option (List ℕ) → Type 0 = λ t. Grew told' t in
    let within : Grew told' (adds told (exported plies games)) =
    Grew-trans told' waits (adds told (exported plies games)) (subst Q kept (Grew-adds told' page')) (put_within r plies games told waits (subst P first ends)) in
    (cut_somewhere e plies games told told' output (lost told (Grew-refl told)) within, fault_of_output e output, λ is. absurd (no_files e output is))
