-- The steps of the loops that read a kind.
use Rattle.std.proofs.Common.{◌≡◌, ◌≤◌, ◌<◌, ◌+◌, ◌-◌, ℕ, suc, true, false, List, [], ◌∷◌, ◌++◌, length, map, set, Some, Result, Ok, refl, sym, ap, subst, ◌∙◌, arith, true≢false}
use Rattle.std.specs.List.{AllByRecursion}
use Rattle.std.proofs.lemmas.List.{map-append, map-set, length-append, nil_from_length}
use Rattle.name_base.specs.declared.header.Shape.{Shape}
use Rattle.name_base.specs.declared.kind.NameKind.{NameKind}
use Rattle.name_base.specs.declared.fault.NameFault.{NameFault}
use Rattle.name_base.specs.declared.fault.NamesError.{NamesError}
use Rattle.name_base.specs.declared.fault.NamesError.TheVariants.{Bad, Memory}
use Rattle.name_base.specs.NameLists.{AreNames}
use Rattle.name_base.specs.NamesFile.{Entry}
use Rattle.name_base.specs.Reading.{◌>>=◌, Fails, blamed, entry_at, entries_at, put_names, by_id, last_name}
use Rattle.name_base.specs.KindRead.{AreMet}
use Rattle.name_base.proofs.NameLemmas.{AreNames-wider}
use Rattle.name_base.proofs.FieldLemmas.{IsBytes}
use Rattle.name_base.proofs.PieceLemmas.{entry_of, entry_takes}
use Rattle.name_base.proofs.ByIdLemmas.{put_names-push, by_id-Arranges, arranged-AreNames}
use Rattle.name_base.proofs.KindLemmas.{blamed_ok, AreMet-push}

-- ---- names put at the places of their ids.

all_of_front : {X : Type 0} (P : X → Type 0) (xs : List X) (y : X) → AllByRecursion P (xs ++ y ∷ []) → AllByRecursion P xs
all_of_front P [] y h = tt
all_of_front P (x ∷ xs) y h = (h.0, all_of_front P xs y h.1)

of_last : {X : Type 0} (P : X → Type 0) (xs : List X) (y : X) → AllByRecursion P (xs ++ y ∷ []) → P y
of_last P [] y h = h.0
of_last P (x ∷ xs) y h = of_last P xs y h.1

module _ {X : Type 0} (f : X → List ℕ) where
  abbrev entry : X × ℕ → Entry
  entry p = record { id = p.1; name = f p.0 }

  pub id_below : (before after : List (X × ℕ)) (k : X) (id count : ℕ) → before ≡ after ++ (k, id) ∷ [] → AllByRecursion (λ p. p.1 < count) before → id < count
  id_below before after k id count is below = of_last (λ p. p.1 < count) after (k, id) (subst (AllByRecursion (λ p. p.1 < count)) is below)

  pub others_below : (before after : List (X × ℕ)) (k : X) (id count : ℕ) → before ≡ after ++ (k, id) ∷ [] → AllByRecursion (λ p. p.1 < count) before → AllByRecursion (λ p. p.1 < count) after
  others_below before after k id count is below = all_of_front (λ p. p.1 < count) after (k, id) (subst (AllByRecursion (λ p. p.1 < count)) is below)

  pub put_last : (before after : List (X × ℕ)) (k : X) (id : ℕ) (names : List X) (total : List (List ℕ)) → before ≡ after ++ (k, id) ∷ []
      → put_names (map entry before) (map f names) ≡ total → put_names (map entry after) (map f (set names id k)) ≡ total
  put_last before after k id names total is so_far =
      ap (put_names (map entry after)) (map-set f names id k)
      ∙ sym (put_names-push (map entry after) (entry (k, id)) (map f names))
      ∙ ap (λ es. put_names es (map f names)) (sym (map-append entry after ((k, id) ∷ [])) ∙ ap (map entry) (sym is))
      ∙ so_far

  -- The names that were put, once no entry is left.
  pub all_put : (before : List (X × ℕ)) (names : List (List ℕ)) (total : List (List ℕ)) → length before ≡ 0 → put_names (map entry before) names ≡ total → names ≡ total
  all_put before names total none so_far = subst (λ es. put_names (map entry es) names ≡ total) (nil_from_length before none) so_far

-- ---- names read one after the other.

module _ (kind : NameKind) (shape : Shape) (i : ℕ) (met : List Entry) (bytes : List ℕ) (total : Result (List Entry × List ℕ) NameFault)
    (lt : i < shape.count) (index : i ≡ length met) (so_far : entries_at kind shape (shape.count - i) met bytes ≡ total) where
  one_more : total ≡ (blamed (Some kind) i (entry_at shape met bytes) >>= λ more. entries_at kind shape (shape.count - (i + 1)) more.0 more.1)
  unfolding entries_at
  one_more =
      let k : shape.count - i ≡ suc (shape.count - (i + 1)) = omega arith in
      sym so_far ∙ ap (λ n. entries_at kind shape n met bytes) k ∙ ap (λ n. blamed (Some kind) n (entry_at shape met bytes) >>= λ more. entries_at kind shape (shape.count - (i + 1)) more.0 more.1) (sym index)

  pub read_fails : (e : NamesError) → Fails e (blamed (Some kind) i (entry_at shape met bytes)) → Fails e total
  read_fails Memory h = tt
  read_fails (Bad fault) h = one_more ∙ ap (λ r. r >>= λ more. entries_at kind shape (shape.count - (i + 1)) more.0 more.1) h

  pub record Goes (after : List Entry) (rest : List ℕ) : Type 0 where
    pub same : entries_at kind shape (shape.count - (i + 1)) after rest ≡ total
    pub next : i + 1 ≡ length after
    pub are : AreMet shape.count after
    pub bytes_left : IsBytes rest

  pub read_goes : (after : List Entry) (rest : List ℕ) → AreMet shape.count met → IsBytes bytes → blamed (Some kind) i (entry_at shape met bytes) ≡ Ok (after, rest) → Goes after rest
  read_goes after rest are fits h =
      let t = entry_takes shape met bytes (after, rest) fits are.each (blamed_ok (Some kind) i (entry_at shape met bytes) (after, rest) h) in
      let one = entry_of (last_name met) t.stored in
      record {
        same = sym (one_more ∙ ap (λ r. r >>= λ more. entries_at kind shape (shape.count - (i + 1)) more.0 more.1) h);
        next = (let n : i + 1 ≡ length (met ++ one ∷ []) = omega (arith, length-append met (one ∷ [])) in n) ∙ ap length (sym t.added);
        are = subst (AreMet shape.count) (sym t.added) (AreMet-push shape.count met one are t.fits.id t.fits.name t.new_id t.new_name);
        bytes_left = t.rest;
      }

-- Once all were read.
pub all_read : (kind : NameKind) (shape : Shape) (i : ℕ) (met : List Entry) (bytes : List ℕ) (total : Result (List Entry × List ℕ) NameFault) → shape.count ≤ i
    → entries_at kind shape (shape.count - i) met bytes ≡ total → total ≡ Ok (met, bytes)
unfolding entries_at
all_read kind shape i met bytes total le so_far =
    let k : shape.count - i ≡ 0 = omega arith in
    sym so_far ∙ ap (λ n. entries_at kind shape n met bytes) k

pub none_left : {X : Type 0} (es : List X) → (0 < length es → false ≡ true) → length es ≡ 0
none_left [] h = refl
none_left (x ∷ xs) h = absurd (true≢false (sym (h (omega arith))))

-- What holds of the entries of a map holds of the names that were met.
pub below_entries : {X : Type 0} (f : X → List ℕ) (count : ℕ) (es : List (X × ℕ)) → AllByRecursion (λ e. e.id < count) (map (entry f) es) → AllByRecursion (λ p. p.1 < count) es
below_entries f count [] h = tt
below_entries f count (e ∷ es) h = (h.0, below_entries f count es h.1)

-- The names of a kind by id, once all were met.
pub names_by_id : (count limit : ℕ) (es : List Entry) (names : List (List ℕ)) → AreMet count es → length es ≡ count → count ≤ limit → names ≡ by_id count es → AreNames limit names
names_by_id count limit es names are all le is =
    AreNames-wider count limit names le (subst (AreNames count) (sym is) (arranged-AreNames count es are all (by_id count es) (by_id-Arranges count es are all)))
