-- The base of some games alone, with one game more.
use Rattle.std.proofs.Common.{◌≡◌, ◌≤◌, ◌+◌, ℕ, List, [], ◌∷◌, ◌++◌, length, map, fold, replicate, refl, sym, ap, ◌∙◌, subst, arith}
use Rattle.std.proofs.lemmas.List.{length-append, length_push, length-replicate, map-append}
use Rattle.base_files.specs.Extents.{record_in}
use Rattle.block_store.specs.Placing.{end_after, padded, padding}
use Rattle.index_entry.specs.declared.entry.Entry.{Entry}
use Rattle.name_base.specs.NameLists.{NameLists, no_names}
use Rattle.base_core.specs.Base.{Base, Held}
use Rattle.base_core.specs.Compacted.{end_of, only}
use Rattle.base_core.specs.Edits.{names_with, with_game}
use Rattle.base_core.specs.Entries.{extent_of}
use Rattle.base_core.proofs.TakeLaws.{record-long}

-- Where the records end.
pub end_more : (end : ℕ) (lens : List ℕ) (len : ℕ) → end_of end (lens ++ len ∷ []) ≡ end_after (end_of end lens) len
end_more end [] len = refl
end_more end (l ∷ lens) len = end_more (end_after end l) lens len

-- The names that games use.
abbrev names_used : NameLists → List Held → NameLists
names_used names games = fold (λ names held. names_with held.head names) names games

names_more : (names : NameLists) (games : List Held) (held : Held) → names_used names (games ++ held ∷ []) ≡ names_with held.head (names_used names games)
names_more names [] held = refl
names_more names (x ∷ games) held = names_more (names_with x.head names) games held

-- The base with one game more.
pub only-more : (games : List Held) (held : Held) (whole : Base) → with_game held (only games whole) ≡ only (games ++ held ∷ []) whole
unfolding only
only-more games held whole =
    let made : ℕ → NameLists → ℕ → Base = λ n names end. record { header = record whole.header { games = n }; names = names; games = games ++ held ∷ []; end = end } in
    let end : end_of 0 (map (λ (h : Held). h.len) (games ++ held ∷ [])) ≡ end_after (end_of 0 (map (λ (h : Held). h.len) games)) held.len =
    ap (λ (lens : List ℕ). end_of 0 lens) (map-append (λ (h : Held). h.len) games (held ∷ [])) ∙ end_more 0 (map (λ (h : Held). h.len) games) held.len in
    let names = names_more no_names games held in
    ap (λ (n : ℕ). made n (names_with held.head (names_used no_names games)) (end_after (end_of 0 (map (λ (h : Held). h.len) games)) held.len)) (sym (length_push games held))
    ∙ (ap (λ (m : NameLists). made (length (games ++ held ∷ [])) m (end_after (end_of 0 (map (λ (h : Held). h.len) games)) held.len)) (sym names)
    ∙ ap (λ (n : ℕ). made (length (games ++ held ∷ [])) (names_used no_names (games ++ held ∷ [])) n) (sym end))

padded-long : (end : ℕ) (bytes : List ℕ) → length (padded end bytes) ≡ padding end (length bytes) + length bytes
padded-long end bytes =
    let nil : ℕ = 0 in
    length-append (replicate (padding end (length bytes)) nil) bytes ∙ ap (λ (n : ℕ). n + length bytes) (length-replicate (padding end (length bytes)) nil)

-- A games file with the record of an entry placed behind it.
pub placed-long : (games fresh : List ℕ) (end : ℕ) (e : Entry) → length fresh ≡ end → e.offset + e.len ≤ length games → length (fresh ++ padded end (record_in games (extent_of e))) ≡ end_after end e.len
placed-long games fresh end e long within =
    let bytes = record_in games (extent_of e) in
    let size : length bytes ≡ e.len = record-long games e within in
    let P : ℕ → Type 0 = λ n. length (fresh ++ padded end bytes) ≡ end_after end n in
    let all = length-append fresh (padded end bytes) in
    subst P size (omega (arith, all, padded-long end bytes, long))
