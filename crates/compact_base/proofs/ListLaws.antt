-- What one game more does to the lists that a compaction makes.
use Rattle.std.proofs.Common.{◌≡◌, ◌≤◌, ◌+◌, ℕ, zero, suc, Bool, true, false, not, cond, List, [], ◌∷◌, ◌++◌, length, map, filter, take, drop, slice_get, Option, Some, None, refl, sym, ap, ap₂, ◌∙◌, subst, inl, inr, arith, add-one}
use Rattle.std.proofs.lemmas.Bool.{cases_Bool}
use Rattle.std.proofs.lemmas.List.{append-nil, append_assoc, length_push, map-append, take-append-drop}
use Rattle.std.proofs.lemmas.List.Elements.{filter-append}
use Rattle.std.proofs.lemmas.List.Sums.{sum_by-cons}
use Rattle.std.proofs.lemmas.Option.{none-some, same_Some}
use Rattle.base_files.specs.Extents.{record_in}
use Rattle.block_store.specs.Placing.{end_after, padded}
use Rattle.game_filter.specs.Renumbering.{Numbering}
use Rattle.index_entry.specs.declared.entry.Entry.{Entry}
use Rattle.base_core.specs.Compacted.{end_of}
use Rattle.base_core.specs.Entries.{extent_of}
use Rattle.base_core.proofs.Lists.{take_next}
use Rattle.base_core.proofs.OnlyLaws.{end_more}
use Rattle.compact_base.specs.Compacting.{kept_len, new_end, new_games, numbering, numbers_from, records_from, staying}
use Rattle.compact_base.specs.Drafting.{len_if_kept}

-- ---- the elements that pass a test.

module _ {X : Type 0} (p : X → Bool) (xs : List X) (i : ℕ) (x : X) where
  filter_next : slice_get xs i ≡ Some x → filter p (take (i + 1) xs) ≡ filter p (take i xs) ++ filter p (x ∷ [])
  filter_next at = ap (λ (l : List X). filter p l) (take_next xs i x at) ∙ filter-append p (take i xs) (x ∷ [])

  pub filter-stays : slice_get xs i ≡ Some x → p x ≡ true → filter p (take (i + 1) xs) ≡ filter p (take i xs) ++ x ∷ []
  filter-stays at is = filter_next at ∙ ap (λ (b : Bool). filter p (take i xs) ++ cond b (x ∷ []) []) is

  pub filter-goes : slice_get xs i ≡ Some x → p x ≡ false → filter p (take (i + 1) xs) ≡ filter p (take i xs)
  filter-goes at other = filter_next at ∙ (ap (λ (b : Bool). filter p (take i xs) ++ cond b (x ∷ []) []) other ∙ append-nil (filter p (take i xs)))

pub filter-short : {X : Type 0} (p : X → Bool) (xs : List X) → length (filter p xs) ≤ length xs
filter-short p [] = omega arith
filter-short p (x ∷ xs) =
    elim (cases_Bool (p x)) [
      | inl is ↦ rw is (omega (arith, filter-short p xs))
      | inr other ↦ rw other (omega (arith, filter-short p xs))
    ]

-- ---- where the records end.

end_behind : (end : ℕ) (lens : List ℕ) → end ≤ end_of end lens
end_behind end [] = omega arith
end_behind end (l ∷ lens) = omega (arith, end_behind (end_after end l) lens)

end_grows : (end : ℕ) (lens more : List ℕ) → end_of end lens ≤ end_of end (lens ++ more)
end_grows end [] more = end_behind end more
end_grows end (l ∷ lens) more = end_grows (end_after end l) lens more

pub new-end-stays : (entries : List Entry) (i : ℕ) (e : Entry) → slice_get entries i ≡ Some e → e.deleted ≡ false → new_end (take (i + 1) entries) ≡ end_after (new_end (take i entries)) e.len
new-end-stays entries i e at stays =
    ap (λ (es : List Entry). end_of 0 (map (λ x. x.len) es)) (filter-stays (λ (x : Entry). not x.deleted) entries i e at (ap not stays))
    ∙ (ap (λ (lens : List ℕ). end_of 0 lens) (map-append (λ (x : Entry). x.len) (staying (take i entries)) (e ∷ [])) ∙ end_more 0 (map (λ (x : Entry). x.len) (staying (take i entries))) e.len)

pub staying-goes : (entries : List Entry) (i : ℕ) (e : Entry) → slice_get entries i ≡ Some e → e.deleted ≡ true → staying (take (i + 1) entries) ≡ staying (take i entries)
staying-goes entries i e at goes = filter-goes (λ (x : Entry). not x.deleted) entries i e at (ap not goes)

pub staying-stays : (entries : List Entry) (i : ℕ) (e : Entry) → slice_get entries i ≡ Some e → e.deleted ≡ false → staying (take (i + 1) entries) ≡ staying (take i entries) ++ e ∷ []
staying-stays entries i e at stays = filter-stays (λ (x : Entry). not x.deleted) entries i e at (ap not stays)

-- The first of the games end no later than all.
pub new-end-within : (entries : List Entry) (i : ℕ) → new_end (take i entries) ≤ new_end entries
new-end-within entries i =
    let front = staying (take i entries) in
    let back = staying (drop i entries) in
    let all : staying entries ≡ front ++ back = ap (λ (es : List Entry). staying es) (sym (take-append-drop i entries)) ∙ filter-append (λ (x : Entry). not x.deleted) (take i entries) (drop i entries) in
    let ends : new_end entries ≡ end_of 0 (map (λ (x : Entry). x.len) front ++ map (λ (x : Entry). x.len) back) =
    ap (λ (es : List Entry). end_of 0 (map (λ x. x.len) es)) all ∙ ap (λ (lens : List ℕ). end_of 0 lens) (map-append (λ (x : Entry). x.len) front back) in
    subst (λ (n : ℕ). new_end (take i entries) ≤ n) (sym ends) (end_grows 0 (map (λ (x : Entry). x.len) front) (map (λ (x : Entry). x.len) back))

-- ---- the new games file.

records_more : (games : List ℕ) (end : ℕ) (entries : List Entry) (e : Entry) →
    records_from games end (entries ++ e ∷ []) ≡ records_from games end entries ++ padded (end_of end (map (λ x. x.len) entries)) (record_in games (extent_of e))
records_more games end [] e = append-nil (padded end (record_in games (extent_of e)))
records_more games end (x ∷ entries) e =
    ap (λ (bytes : List ℕ). padded end (record_in games (extent_of x)) ++ bytes) (records_more games (end_after end x.len) entries e)
    ∙ sym (append_assoc (padded end (record_in games (extent_of x))) (records_from games (end_after end x.len) entries)
    (padded (end_of (end_after end x.len) (map (λ y. y.len) entries)) (record_in games (extent_of e))))

pub new-games-stays : (games : List ℕ) (entries : List Entry) (i : ℕ) (e : Entry) → slice_get entries i ≡ Some e → e.deleted ≡ false →
    new_games (take (i + 1) entries) games ≡ new_games (take i entries) games ++ padded (new_end (take i entries)) (record_in games (extent_of e))
new-games-stays games entries i e at stays =
    ap (λ (es : List Entry). records_from games 0 es) (staying-stays entries i e at stays) ∙ records_more games 0 (staying (take i entries)) e

-- ---- the new numbers.

numbers_goes : (next : ℕ) (entries : List Entry) (e : Entry) → e.deleted ≡ true → numbers_from next (map (λ x. x.deleted) (entries ++ e ∷ [])) ≡ numbers_from next (map (λ x. x.deleted) entries) ++ None ∷ []
numbers_goes next [] e goes = rw goes refl
numbers_goes next (x ∷ entries) e goes =
    elim (cases_Bool x.deleted) [
      | inl is ↦ rw is (ap (λ (l : List (Option ℕ)). None ∷ l) (numbers_goes next entries e goes))
      | inr other ↦ rw other (ap (λ (l : List (Option ℕ)). Some next ∷ l) (numbers_goes (next + 1) entries e goes))
    ]

numbers_stays : (next : ℕ) (entries : List Entry) (e : Entry) → e.deleted ≡ false →
    numbers_from next (map (λ x. x.deleted) (entries ++ e ∷ [])) ≡ numbers_from next (map (λ x. x.deleted) entries) ++ Some (next + length (staying entries)) ∷ []
numbers_stays next [] e stays = let same : next ≡ next + 0 = omega arith in rw stays (ap (λ (n : ℕ). Some n ∷ []) same)
numbers_stays next (x ∷ entries) e stays =
    elim (cases_Bool x.deleted) [
      | inl is ↦ rw is (ap (λ (l : List (Option ℕ)). None ∷ l) (numbers_stays next entries e stays))
      | inr other ↦
          let same : (next + 1) + length (staying entries) ≡ next + length (x ∷ staying entries) = omega arith in
          rw other (ap (λ (l : List (Option ℕ)). Some next ∷ l) (numbers_stays (next + 1) entries e stays ∙ ap (λ (n : ℕ). numbers_from (next + 1) (map (λ y. y.deleted) entries) ++ Some n ∷ []) same))
    ]

abbrev pub numbered : List (Option ℕ) → ℕ → Numbering
numbered to kept = record { to = to; kept = kept }

pub numbering-goes : (entries : List Entry) (i : ℕ) (e : Entry) → slice_get entries i ≡ Some e → e.deleted ≡ true →
    numbered ((numbering (take i entries)).to ++ None ∷ []) (numbering (take i entries)).kept ≡ numbering (take (i + 1) entries)
numbering-goes entries i e at goes =
    let to = ap (λ (es : List Entry). numbers_from 0 (map (λ x. x.deleted) es)) (take_next entries i e at) ∙ numbers_goes 0 (take i entries) e goes in
    let kept = ap (λ (es : List Entry). length es) (staying-goes entries i e at goes) in
    ap₂ (λ (a : List (Option ℕ)) (b : ℕ). numbered a b) (sym to) (sym kept)

pub numbering-stays : (entries : List Entry) (i : ℕ) (e : Entry) → slice_get entries i ≡ Some e → e.deleted ≡ false →
    numbered ((numbering (take i entries)).to ++ Some (numbering (take i entries)).kept ∷ []) ((numbering (take i entries)).kept + 1) ≡ numbering (take (i + 1) entries)
numbering-stays entries i e at stays =
    let zero_first : 0 + length (staying (take i entries)) ≡ length (staying (take i entries)) = omega arith in
    let to = ap (λ (es : List Entry). numbers_from 0 (map (λ x. x.deleted) es)) (take_next entries i e at)
    ∙ (numbers_stays 0 (take i entries) e stays ∙ ap (λ (n : ℕ). numbers_from 0 (map (λ x. x.deleted) (take i entries)) ++ Some n ∷ []) zero_first) in
    let kept = ap (λ (es : List Entry). length es) (staying-stays entries i e at stays) ∙ length_push (staying (take i entries)) e in
    ap₂ (λ (a : List (Option ℕ)) (b : ℕ). numbered a b) (sym to) (sym kept)

numbers_long : (next : ℕ) (deleted : List Bool) → length (numbers_from next deleted) ≡ length deleted
numbers_long next [] = refl
numbers_long next (true ∷ deleted) = omega (arith, numbers_long next deleted)
numbers_long next (false ∷ deleted) = omega (arith, numbers_long (next + 1) deleted)

long_map : (entries : List Entry) → length (map (λ e. e.deleted) entries) ≡ length entries
long_map [] = refl
long_map (e ∷ entries) = omega (arith, long_map entries)

-- There is one for each game.
pub numbers-long : (entries : List Entry) → length (numbering entries).to ≡ length entries
numbers-long entries = numbers_long 0 (map (λ e. e.deleted) entries) ∙ long_map entries

-- ---- the bytes of the records.

kept_first : (e : Entry) (entries : List Entry) → kept_len (e ∷ entries) ≡ len_if_kept e + kept_len entries
kept_first e entries =
    elim (cases_Bool e.deleted) [
      | inl goes ↦ rw goes (omega arith)
      | inr stays ↦ rw stays (sum_by-cons (λ (x : Entry). x.len) e (staying entries))
    ]

kept_suc : (entries : List Entry) (i : ℕ) (e : Entry) → slice_get entries i ≡ Some e → kept_len (drop i entries) ≡ len_if_kept e + kept_len (drop (suc i) entries)
kept_suc [] i e at = absurd (none-some e at)
kept_suc (x ∷ entries) zero e at = kept_first x entries ∙ ap (λ (y : Entry). len_if_kept y + kept_len entries) (same_Some x e at)
kept_suc (x ∷ entries) (suc i) e at = kept_suc entries i e at

pub kept-next : (entries : List Entry) (i : ℕ) (e : Entry) → slice_get entries i ≡ Some e → kept_len (drop i entries) ≡ len_if_kept e + kept_len (drop (i + 1) entries)
kept-next entries i e at = kept_suc entries i e at ∙ ap (λ (k : ℕ). len_if_kept e + kept_len (drop k entries)) (sym (add-one i))
