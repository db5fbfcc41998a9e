-- Laws of texts that are written in parts.
use Rattle.std.proofs.Common.{◌≡◌, ◌+◌, ℕ, List, [], ◌++◌, take, drop, Option, sym, ap, ◌∙◌, subst}
use Rattle.std.proofs.lemmas.List.{drop-drop, take-append-drop}
use Rattle.base_files.specs.Told.{adds, Grew}
use Rattle.base_files.proofs.Telling.{adds-nil, adds-append, Grew-refl, Grew-adds, Grew-trans}
use Rattle.command_runs.specs.Endings.{Done, Halted, NoneLost}

-- What is written later leaves what was written before.
grew_more : (told : Option (List ℕ)) (xs ys : List ℕ) → Grew (adds told xs) (adds told (xs ++ ys))
grew_more told xs ys = let P : Option (List ℕ) → Type 0 = λ t. Grew (adds told xs) t in subst P (sym (adds-append told xs ys)) (Grew-adds (adds told xs) ys)

-- Nothing was written.
pub halted_none : (text : List ℕ) (told : Option (List ℕ)) → Halted [] text told told
halted_none text told =
    let P : Option (List ℕ) → Type 0 = λ t. Grew t told in
    record { none_lost = subst P (sym (adds-nil told)) (Grew-refl told); no_more = Grew-adds told text }

-- Two bounds of what was written are what a device's loop tells.
pub halted_by : (text : List ℕ) (a b : Option (List ℕ)) → Grew a b → Grew b (adds a text) → Halted [] text a b
halted_by text a b none_lost no_more =
    let P : Option (List ℕ) → Type 0 = λ t. Grew t b in
    record { none_lost = subst P (sym (adds-nil a)) none_lost; no_more = no_more }

-- What it told before it tells still.
pub none_lost_by : (a b : Option (List ℕ)) → Grew a b → NoneLost a b
none_lost_by a b grew = λ told before. Grew-trans told a b before grew

-- The whole was written.
pub halted_all : (text : List ℕ) (a b : Option (List ℕ)) → b ≡ adds a text → Halted text text a b
halted_all text a b written =
    let P : Option (List ℕ) → Type 0 = λ t. Grew t b in
    let Q : Option (List ℕ) → Type 0 = λ t. Grew b t in
    record { none_lost = subst P written (Grew-refl b); no_more = subst Q written (Grew-refl b) }

-- No less was written than less, and no more than more.
pub halted_within : (sure least most more : List ℕ) (a b : Option (List ℕ)) → Halted (sure ++ least) most a b → Halted sure (most ++ more) a b
halted_within sure least most more a b h = record {
  none_lost = Grew-trans (adds a sure) (adds a (sure ++ least)) b (grew_more a sure least) h.none_lost;
  no_more = Grew-trans b (adds a most) (adds a (most ++ more)) h.no_more (grew_more a most more);
}

-- Less is sure, and more is possible.
pub halted_more : (sure most more : List ℕ) (a b : Option (List ℕ)) → Halted sure most a b → Halted sure (most ++ more) a b
halted_more sure most more a b h = record {
  none_lost = h.none_lost;
  no_more = Grew-trans b (adds a most) (adds a (most ++ more)) h.no_more (grew_more a most more);
}

-- Nothing is sure.
pub halted_unsure : (sure most : List ℕ) (a b : Option (List ℕ)) → Halted sure most a b → Halted [] most a b
halted_unsure sure most a b h =
    halted_by most a b (Grew-trans a (adds a sure) b (Grew-adds a sure) h.none_lost) h.no_more

-- Behind what was written before.
pub halted_after : (front sure most : List ℕ) (a b c : Option (List ℕ)) → b ≡ adds a front → Halted sure most b c → Halted (front ++ sure) (front ++ most) a c
halted_after front sure most a b c written h =
    let e : (xs : List ℕ) → adds b xs ≡ adds a (front ++ xs) = λ xs. ap (λ (t : Option (List ℕ)). adds t xs) written ∙ sym (adds-append a front xs) in
    let P : Option (List ℕ) → Type 0 = λ t. Grew t c in
    let Q : Option (List ℕ) → Type 0 = λ t. Grew c t in
    record { none_lost = subst P (e sure) h.none_lost; no_more = subst Q (e most) h.no_more }

-- Text behind what was written before.
pub written_after : (front text : List ℕ) (a b c : Option (List ℕ)) → b ≡ adds a front → c ≡ adds b text → c ≡ adds a (front ++ text)
written_after front text a b c first second =
    second ∙ ap (λ (t : Option (List ℕ)). adds t text) first ∙ sym (adds-append a front text)

-- A state stands whose text was written behind what was written before.
pub done_after : {S : Type 0} (Stands : S → Type 0) (state : S) (front text : List ℕ) (a b c : Option (List ℕ)) → b ≡ adds a front → Done Stands state text b c → Done Stands state (front ++ text) a c
done_after Stands state front text a b c written d =
    record { stands = d.stands; written = written_after front text a b c written d.written }

-- ---- writing from a place on

-- The sink took more bytes from the front of those that wait.
pub taken_more : (told told' : Option (List ℕ)) (bytes rest : List ℕ) (from n : ℕ) → rest ≡ drop from bytes → told' ≡ adds told (take n rest) → adds told' (drop (from + n) bytes) ≡ adds told (drop from bytes)
taken_more told told' bytes rest from n same is =
    ap (λ (t : Option (List ℕ)). adds t (drop (from + n) bytes)) (is ∙ ap (λ (l : List ℕ). adds told (take n l)) same)
    ∙ sym (adds-append told (take n (drop from bytes)) (drop (from + n) bytes))
    ∙ ap (λ (l : List ℕ). adds told (take n (drop from bytes) ++ l)) (sym (drop-drop n from bytes))
    ∙ ap (adds told) (take-append-drop n (drop from bytes))

pub grew_further : (told told' told'' : Option (List ℕ)) (bytes : List ℕ) → Grew told told' → told'' ≡ adds told' bytes → Grew told told''
grew_further told told' told'' bytes grew is =
    let P : Option (List ℕ) → Type 0 = λ t. Grew told t in
    subst P (sym is) (Grew-trans told told' (adds told' bytes) grew (Grew-adds told' bytes))
