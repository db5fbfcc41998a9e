-- Laws of the lines that `find` writes: they are written one game after the other.
use Rattle.std.proofs.Common.{◌≡◌, ℕ, suc, ◌+◌, List, [], ◌∷◌, ◌++◌, length, Option, Some, None, refl, sym, append_assoc, add-zero, arith, ◌<◌, ◌≤◌, take, get_or, slice_get, ap, ◌∙◌, zero-add, drop, take-append-drop, count_by, is_some, subst}
use Rattle.std.proofs.lemmas.List.{take_more, length-take-le, take_all}
use Rattle.std.proofs.lemmas.Option.{get_or_from_slice_get}
use Rattle.base_files.proofs.Telling.{Grew-adds, adds-append, Grew-trans}
use Rattle.base_files.specs.Told.{adds, Grew}
use Rattle.shell_state.specs.Lines.{hit_line, hit_lines, count_line, hits_text}

-- The lines of two runs of games, one behind the other.
pub hit_lines-append : (n : ℕ) (xs ys : List (Option ℕ)) → hit_lines n (xs ++ ys) ≡ hit_lines n xs ++ hit_lines (n + length xs) ys
hit_lines-append n [] ys = rw add-zero refl
hit_lines-append n (Some ply ∷ xs) ys =
    let e : n + suc (length xs) ≡ n + 1 + length xs = omega arith in
    rw (e, hit_lines-append (n + 1) xs ys) (sym (append_assoc (hit_line n ply) (hit_lines (n + 1) xs) (hit_lines (n + 1 + length xs) ys)))
hit_lines-append n (None ∷ xs) ys =
    let e : n + suc (length xs) ≡ n + 1 + length xs = omega arith in rw e (hit_lines-append (n + 1) xs ys)

-- The lines of one game more.
pub hit_lines-more : (hits : List (Option ℕ)) (i : ℕ) → i < length hits → hit_lines 0 (take (i + 1) hits) ≡ hit_lines 0 (take i hits) ++ hit_lines i (get_or hits i None ∷ [])
hit_lines-more hits i below =
    let within : i ≤ length hits = omega arith in
    let e : hit_lines 0 (take i hits ++ get_or hits i None ∷ []) ≡ hit_lines 0 (take i hits) ++ hit_lines (0 + length (take i hits)) (get_or hits i None ∷ []) = hit_lines-append 0 (take i hits) (get_or hits i None ∷ []) in
    rw (take_more hits i None below) (e ∙ ap (λ (n : ℕ). hit_lines 0 (take i hits) ++ hit_lines n (get_or hits i None ∷ [])) (zero-add (length (take i hits)) ∙ length-take-le i hits within))

-- The lines of the first games are a front part of the whole text.
pub hits_text-begins : (told : Option (List ℕ)) (hits : List (Option ℕ)) (i : ℕ) → Grew (adds told (hit_lines 0 (take i hits))) (adds told (hits_text hits))
hits_text-begins told hits i =
    let lines : List ℕ = hit_lines 0 (take i hits) in
    let later : List ℕ = hit_lines (0 + length (take i hits)) (drop i hits) in
    let count : List ℕ = count_line (count_by is_some hits) (length hits) in
    let whole : hit_lines 0 hits ≡ lines ++ later = ap (λ (xs : List (Option ℕ)). hit_lines 0 xs) (sym (take-append-drop i hits)) ∙ hit_lines-append 0 (take i hits) (drop i hits) in
    let e : hits_text hits ≡ lines ++ (later ++ count) = ap (λ (xs : List ℕ). xs ++ count) whole ∙ append_assoc lines later count in
    let P : List ℕ → Type 0 = λ text. Grew (adds told lines) (adds told text) in
    let Q : Option (List ℕ) → Type 0 = λ t. Grew (adds told lines) t in
    subst P (sym e) (subst Q (sym (adds-append told lines (later ++ count))) (Grew-adds (adds told lines) (later ++ count)))

-- A game's lines, put behind the text that waits.
pub lines_put : (told taken taken' : Option (List ℕ)) (text text' : List ℕ) (hits : List (Option ℕ)) (i : ℕ) (hit : Option ℕ) → i < length hits →
    slice_get hits i ≡ Some hit → adds taken text ≡ adds told (hit_lines 0 (take i hits)) → adds taken' text' ≡ adds taken (text ++ hit_lines i (hit ∷ [])) →
    adds taken' text' ≡ adds told (hit_lines 0 (take (i + 1) hits))
lines_put told taken taken' text text' hits i hit below read before now =
    let more : List ℕ = hit_lines i (get_or hits i None ∷ []) in
    now ∙ ap (λ (h : Option ℕ). adds taken (text ++ hit_lines i (h ∷ []))) (sym (get_or_from_slice_get hits i hit None read))
    ∙ adds-append taken text more ∙ ap (λ (t : Option (List ℕ)). adds t more) before ∙ sym (adds-append told (hit_lines 0 (take i hits)) more)
    ∙ ap (λ (l : List ℕ). adds told l) (sym (hit_lines-more hits i below))

-- What was taken of the lines so far and of one game's lines is a front part of the whole text.
pub begun : (told taken taken' : Option (List ℕ)) (text : List ℕ) (hits : List (Option ℕ)) (i : ℕ) (hit : Option ℕ) → i < length hits →
    slice_get hits i ≡ Some hit → adds taken text ≡ adds told (hit_lines 0 (take i hits)) →
    Grew taken' (adds taken (text ++ hit_lines i (hit ∷ []))) → Grew taken' (adds told (hits_text hits))
begun told taken taken' text hits i hit below read before grew =
    let P : Option (List ℕ) → Type 0 = λ t. Grew taken' t in
    let e : adds taken (text ++ hit_lines i (hit ∷ [])) ≡ adds told (hit_lines 0 (take (i + 1) hits)) =
    lines_put told taken taken text (text ++ hit_lines i (hit ∷ [])) hits i hit below read before refl in
    Grew-trans taken' (adds told (hit_lines 0 (take (i + 1) hits))) (adds told (hits_text hits)) (subst P e grew) (hits_text-begins told hits (i + 1))

-- What was taken before the text that waits is a front part of the whole text.
pub waiting : (told taken : Option (List ℕ)) (text : List ℕ) (hits : List (Option ℕ)) (i : ℕ) →
    adds taken text ≡ adds told (hit_lines 0 (take i hits)) → Grew taken (adds told (hits_text hits))
waiting told taken text hits i before =
    let P : Option (List ℕ) → Type 0 = λ t. Grew taken t in
    Grew-trans taken (adds told (hit_lines 0 (take i hits))) (adds told (hits_text hits)) (subst P before (Grew-adds taken text)) (hits_text-begins told hits i)

-- The whole text, where all games' lines and the count are added.
pub all_put : (told taken : Option (List ℕ)) (text whole : List ℕ) (hits : List (Option ℕ)) (i count games : ℕ) →
    length hits ≤ i → count ≡ count_by is_some hits → games ≡ length hits →
    adds taken text ≡ adds told (hit_lines 0 (take i hits)) → whole ≡ text ++ count_line count games →
    adds taken whole ≡ adds told (hits_text hits)
all_put told taken text whole hits i count games end counted numbered before e =
    let last : List ℕ = count_line (count_by is_some hits) (length hits) in
    ap (λ (l : List ℕ). adds taken l) e
    ∙ ap (λ (n : ℕ). adds taken (text ++ count_line n games)) counted
    ∙ ap (λ (n : ℕ). adds taken (text ++ count_line (count_by is_some hits) n)) numbered
    ∙ adds-append taken text last ∙ ap (λ (t : Option (List ℕ)). adds t last) before
    ∙ sym (adds-append told (hit_lines 0 (take i hits)) last)
    ∙ ap (λ (xs : List (Option ℕ)). adds told (hit_lines 0 xs ++ last)) (take_all i hits end)
