-- Laws of texts of games, one behind the other.
use Rattle.std.proofs.Common.{ℕ, List, Option, ◌≡◌, [], ◌∷◌, refl, zero, suc, ◌+◌, ◌++◌, take, Some, sym, ap, ◌∙◌, append_assoc, append-nil, add-zero, arith, add-one, zero-add, drop, subst, ◌≤◌, length}
use Rattle.std.proofs.lemmas.List.{take_all}
use Rattle.std.proofs.lemmas.Option.{same_Some}
use Rattle.std.specs.Prelude.{slice_get}
use Rattle.base_files.proofs.Telling.{adds-append, Grew-adds, Grew-trans}
use Rattle.base_files.specs.Told.{adds, Grew}
use Rattle.shell_state.specs.Lines.{texts_from}

-- A text of a game, by its number, its entry and what there is of it.
abbrev pub TextOf : Type 0 → Type 0
TextOf A = ℕ → Option ℕ → A → List ℕ

texts-none : {A : Type 0} (text : TextOf A) (n : ℕ) (plies : List (Option ℕ)) → texts_from text n plies [] ≡ []
texts-none text n [] = refl
texts-none text n (ply ∷ plies) = refl

-- The texts of one entry more.
more : {A : Type 0} (text : TextOf A) (n i : ℕ) (plies : List (Option ℕ)) (items : List A) (ply : Option ℕ) (item : A) → slice_get plies i ≡ Some ply → slice_get items i ≡ Some item
    → texts_from text n (take (suc i) plies) (take (suc i) items) ≡ texts_from text n (take i plies) (take i items) ++ text (n + i) ply item
more text n i [] items ply item p x = absurd cc
more text n i (q ∷ plies) [] ply item p x = absurd cc
more text n zero (q ∷ plies) (y ∷ items) ply item p x =
    append-nil (text n q y)
    ∙ ap (λ (k : ℕ). text k q y) (sym (add-zero n))
    ∙ ap (λ (r : Option ℕ). text (n + 0) r y) (same_Some q ply p)
    ∙ ap (λ z. text (n + 0) ply z) (same_Some y item x)
more text n (suc i) (q ∷ plies) (y ∷ items) ply item p x =
    let e : n + 1 + i ≡ n + suc i = omega arith in
    ap (λ (l : List ℕ). text n q y ++ l) (more text (n + 1) i plies items ply item p x ∙ ap (λ (k : ℕ). texts_from text (n + 1) (take i plies) (take i items) ++ text k ply item) e)
    ∙ sym (append_assoc (text n q y) (texts_from text (n + 1) (take i plies) (take i items)) (text (n + suc i) ply item))

pub texts-more : {A : Type 0} (text : TextOf A) (i : ℕ) (plies : List (Option ℕ)) (items : List A) (ply : Option ℕ) (item : A) → slice_get plies i ≡ Some ply → slice_get items i ≡ Some item
    → texts_from text 0 (take (i + 1) plies) (take (i + 1) items) ≡ texts_from text 0 (take i plies) (take i items) ++ text i ply item
texts-more text i plies items ply item p x =
    ap (λ (k : ℕ). texts_from text 0 (take k plies) (take k items)) (add-one i)
    ∙ more text 0 i plies items ply item p x
    ∙ ap (λ (k : ℕ). texts_from text 0 (take i plies) (take i items) ++ text k ply item) (zero-add i)

-- The texts of the first entries, and those of the others.
pub texts-split : {A : Type 0} (text : TextOf A) (n i : ℕ) (plies : List (Option ℕ)) (items : List A)
    → texts_from text n plies items ≡ texts_from text n (take i plies) (take i items) ++ texts_from text (n + i) (drop i plies) (drop i items)
texts-split text n zero plies items = ap (λ (k : ℕ). texts_from text k plies items) (sym (add-zero n))
texts-split text n (suc i) [] items = refl
texts-split text n (suc i) (q ∷ plies) [] = sym (texts-none text (n + suc i) (drop i plies))
texts-split text n (suc i) (q ∷ plies) (y ∷ items) =
    let e : n + 1 + i ≡ n + suc i = omega arith in
    ap (λ (l : List ℕ). text n q y ++ l) (texts-split text (n + 1) i plies items ∙ ap (λ (k : ℕ). texts_from text (n + 1) (take i plies) (take i items) ++ texts_from text k (drop i plies) (drop i items)) e)
    ∙ sym (append_assoc (text n q y) (texts_from text (n + 1) (take i plies) (take i items)) (texts_from text (n + suc i) (drop i plies) (drop i items)))

-- A game's text, put behind what waits.
pub put_more : {A : Type 0} (text : TextOf A) (told taken taken' : Option (List ℕ)) (bytes bytes' : List ℕ) (i : ℕ) (plies : List (Option ℕ)) (items : List A) (ply : Option ℕ) (item : A)
    → slice_get plies i ≡ Some ply → slice_get items i ≡ Some item
    → adds taken bytes ≡ adds told (texts_from text 0 (take i plies) (take i items)) → adds taken' bytes' ≡ adds taken (bytes ++ text i ply item)
    → adds taken' bytes' ≡ adds told (texts_from text 0 (take (i + 1) plies) (take (i + 1) items))
put_more text told taken taken' bytes bytes' i plies items ply item p x before now =
    let so_far : List ℕ = texts_from text 0 (take i plies) (take i items) in
    now ∙ adds-append taken bytes (text i ply item) ∙ ap (λ (t : Option (List ℕ)). adds t (text i ply item)) before
    ∙ sym (adds-append told so_far (text i ply item))
    ∙ ap (λ (l : List ℕ). adds told l) (sym (texts-more text i plies items ply item p x))

-- The texts of the first entries are a front part of all, and of what stands behind them.
pub texts-begin : {A : Type 0} (text : TextOf A) (told : Option (List ℕ)) (i : ℕ) (plies : List (Option ℕ)) (items : List A) (behind : List ℕ)
    → Grew (adds told (texts_from text 0 (take i plies) (take i items))) (adds told (texts_from text 0 plies items ++ behind))
texts-begin text told i plies items behind =
    let front : List ℕ = texts_from text 0 (take i plies) (take i items) in
    let later : List ℕ = texts_from text (0 + i) (drop i plies) (drop i items) in
    let e : texts_from text 0 plies items ++ behind ≡ front ++ (later ++ behind) =
    ap (λ (l : List ℕ). l ++ behind) (texts-split text 0 i plies items) ∙ append_assoc front later behind in
    let P : List ℕ → Type 0 = λ l. Grew (adds told front) (adds told l) in
    let Q : Option (List ℕ) → Type 0 = λ t. Grew (adds told front) t in
    subst P (sym e) (subst Q (sym (adds-append told front (later ++ behind))) (Grew-adds (adds told front) (later ++ behind)))

-- What was taken of the texts so far and of one game's is a front part of the whole.
pub begun_more : {A : Type 0} (text : TextOf A) (told taken taken' : Option (List ℕ)) (bytes : List ℕ) (i : ℕ) (plies : List (Option ℕ)) (items : List A) (ply : Option ℕ) (item : A) (behind : List ℕ)
    → slice_get plies i ≡ Some ply → slice_get items i ≡ Some item
    → adds taken bytes ≡ adds told (texts_from text 0 (take i plies) (take i items)) → Grew taken' (adds taken (bytes ++ text i ply item))
    → Grew taken' (adds told (texts_from text 0 plies items ++ behind))
begun_more text told taken taken' bytes i plies items ply item behind p x before grew =
    let P : Option (List ℕ) → Type 0 = λ t. Grew taken' t in
    Grew-trans taken' (adds told (texts_from text 0 (take (i + 1) plies) (take (i + 1) items))) (adds told (texts_from text 0 plies items ++ behind))
    (subst P (put_more text told taken taken bytes (bytes ++ text i ply item) i plies items ply item p x before refl) grew)
    (texts-begin text told (i + 1) plies items behind)

-- What was taken before the text that waits is a front part of the whole.
pub begun_waiting : {A : Type 0} (text : TextOf A) (told taken : Option (List ℕ)) (bytes : List ℕ) (i : ℕ) (plies : List (Option ℕ)) (items : List A) (behind : List ℕ)
    → adds taken bytes ≡ adds told (texts_from text 0 (take i plies) (take i items)) → Grew taken (adds told (texts_from text 0 plies items ++ behind))
begun_waiting text told taken bytes i plies items behind before =
    let P : Option (List ℕ) → Type 0 = λ t. Grew taken t in
    Grew-trans taken (adds told (texts_from text 0 (take i plies) (take i items))) (adds told (texts_from text 0 plies items ++ behind))
    (subst P before (Grew-adds taken bytes)) (texts-begin text told i plies items behind)

-- The whole, where all texts and what stands behind them are added.
pub all_more : {A : Type 0} (text : TextOf A) (told taken : Option (List ℕ)) (bytes whole : List ℕ) (i : ℕ) (plies : List (Option ℕ)) (items : List A) (behind : List ℕ)
    → length plies ≤ i → length items ≤ i → adds taken bytes ≡ adds told (texts_from text 0 (take i plies) (take i items)) → whole ≡ bytes ++ behind
    → adds taken whole ≡ adds told (texts_from text 0 plies items ++ behind)
all_more {A = A} text told taken bytes whole i plies items behind all every before e =
    let so_far : List ℕ = texts_from text 0 (take i plies) (take i items) in
    ap (λ (l : List ℕ). adds taken l) e ∙ adds-append taken bytes behind ∙ ap (λ (t : Option (List ℕ)). adds t behind) before ∙ sym (adds-append told so_far behind)
    ∙ ap (λ (l : List (Option ℕ)). adds told (texts_from text 0 l (take i items) ++ behind)) (take_all i plies all)
    ∙ ap (λ (l : List A). adds told (texts_from text 0 plies l ++ behind)) (take_all i items every)
