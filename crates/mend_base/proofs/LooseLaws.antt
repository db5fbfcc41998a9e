-- Records that have no entry: the search for them from one byte to the next.
use Rattle.std.proofs.Common.{◌≡◌, ◌≤◌, ◌<◌, ◌+◌, ◌-◌, ◌*◌, ℕ, zero, suc, max, Bool, true, false, List, [], ◌∷◌, ◌++◌, length, take, drop, Result, Ok, Err, Option, None, Some, IfSome, refl, sym, ap, ◌∙◌, subst, inl, inr, arith, div-mul-le_self, add-one, add-zero, drop-drop, append_assoc, append-nil}
use Rattle.base_files.specs.Told.{TellsLength}
use Rattle.std.proofs.lemmas.List.{drop-append-le, drop-take, drop_at, length-append, length-drop, length-take-le, take-append-le, take-take}
use Rattle.index_entry.specs.Index.{entry_bytes, header_read, magic}
use Rattle.index_entry.specs.declared.fault.IndexFault.{IndexFault}
use Rattle.index_entry.specs.declared.index.IndexHead.{IndexHead}
use Rattle.index_entry.proofs.HeaderLemmas.{header-long}
use Rattle.name_base.specs.PartNames.{PartLists}
use Rattle.base_core.proofs.Results.{ok_err}
use Rattle.mend_base.specs.Entries.{entries_found, head_found, head_tried, renewed}
use Rattle.mend_base.specs.Loose.{block_count, block_of, entry_of_loose, free_bytes, free_front, front_by, lengthened, loose_entries, loose_from, loose_in, loose_len, marks_of}
use Rattle.mend_base.specs.Places.{Place, place_of, places_of}
use Rattle.mend_base.specs.Ways.{known_by, known_entries}
use Rattle.mend_base.specs.declared.ways.Way.{Way}
use Rattle.mend_base.proofs.EntryLaws.{found-all, found-few, long-unless}

-- ---- one byte after the other.

drop_one : (k : ℕ) (bytes : List ℕ) → drop k (drop 1 bytes) ≡ drop (suc k) bytes
drop_one k bytes =
    let one : 1 + k ≡ suc k = omega arith in
    drop-drop k 1 bytes ∙ ap (λ (n : ℕ). drop n bytes) one

-- Where a record takes so many bytes more, the search goes on behind them.
pub skip-ahead : (place k : ℕ) (marks : List Bool) (bytes : List ℕ) → loose_from place k marks bytes ≡ loose_from (place + k) 0 (drop k marks) (drop k bytes)
skip-ahead place zero marks bytes = ap (λ (n : ℕ). loose_from n 0 marks bytes) (sym (add-zero place))
skip-ahead place (suc k) [] bytes = refl
skip-ahead place (suc k) (mark ∷ marks) bytes =
    let further : place + 1 + k ≡ place + suc k = omega arith in
    skip-ahead (place + 1) k marks (drop 1 bytes)
    ∙ (ap (λ (n : ℕ). loose_from n 0 (drop k marks) (drop k (drop 1 bytes))) further ∙ ap (λ (bs : List ℕ). loose_from (place + suc k) 0 (drop k marks) bs) (drop_one k bytes))

none_there : (place : ℕ) (bytes : List ℕ) → entry_of_loose place (loose_len (free_bytes [] bytes)) ≡ []
unfolding loose_len
none_there place bytes = refl

step_by : (place len n : ℕ) (mark : Bool) (marks : List Bool) (bytes : List ℕ) → n ≡ suc (len - 1) → loose_from (place + 1) (len - 1) marks (drop 1 bytes) ≡ loose_from (place + n) 0 (drop n (mark ∷ marks)) (drop n bytes)
step_by place len n mark marks bytes is =
    let further : place + 1 + (len - 1) ≡ place + suc (len - 1) = omega arith in
    let S : ℕ → List ℕ = λ m. loose_from (place + m) 0 (drop m (mark ∷ marks)) (drop m bytes) in
    skip-ahead (place + 1) (len - 1) marks (drop 1 bytes)
    ∙ (ap (λ (m : ℕ). loose_from m 0 (drop (len - 1) marks) (drop (len - 1) (drop 1 bytes))) further
    ∙ (ap (λ (bs : List ℕ). loose_from (place + suc (len - 1)) 0 (drop (len - 1) marks) bs) (drop_one (len - 1) bytes) ∙ ap S (sym is)))

-- One step of the search: behind the record that is found, or one byte further.
pub search-step : (place n : ℕ) (marks : List Bool) (bytes : List ℕ) → n ≡ max (loose_len (free_bytes marks bytes)) 1 →
    loose_from place 0 marks bytes ≡ entry_of_loose place (loose_len (free_bytes marks bytes)) ++ loose_from (place + n) 0 (drop n marks) (drop n bytes)
search-step place n [] bytes is =
    let none : loose_from (place + n) 0 (drop n []) (drop n bytes) ≡ [] = nothing n in
    sym (ap (λ (es : List ℕ). es ++ loose_from (place + n) 0 (drop n []) (drop n bytes)) (none_there place bytes) ∙ none)
  where
    nothing : (m : ℕ) → loose_from (place + n) 0 (drop m []) (drop n bytes) ≡ []
    nothing zero = refl
    nothing (suc m) = refl
search-step place n (mark ∷ marks) bytes is =
    let len = loose_len (free_bytes (mark ∷ marks) bytes) in
    ap (λ (es : List ℕ). entry_of_loose place len ++ es) (step_by place len n mark marks bytes (omega (arith, is)))

-- ---- the free bytes.

pub free-behind : (k : ℕ) (marks : List Bool) → k ≤ free_front marks → free_front (drop k marks) ≡ free_front marks - k
free-behind zero marks few = omega arith
free-behind (suc k) [] few = omega (arith, few)
free-behind (suc k) (true ∷ marks) few = absurd (omega (arith, few))
free-behind (suc k) (false ∷ marks) few = free-behind k marks (omega (arith, few)) ∙ omega arith

-- ---- the loop of the search.

pub leads-next : (place at n len end : ℕ) (marks : List Bool) (bytes before now all window : List ℕ) → before ++ loose_from (place + at) 0 (drop at marks) (drop at bytes) ≡ all → end ≡ at + free_front (drop at marks) →
    window ≡ take (end - at) (drop at bytes) → len ≡ loose_len window → n ≡ max len 1 → now ≡ before ++ entry_of_loose (place + at) len → now ++ loose_from (place + (at + n)) 0 (drop (at + n) marks) (drop (at + n) bytes) ≡ all
leads-next place at n len end marks bytes before now all window leads end_is part len_is n_is now_is =
    let free : end - at ≡ free_front (drop at marks) = omega (arith, end_is) in
    let found : len ≡ loose_len (free_bytes (drop at marks) (drop at bytes)) = len_is ∙ ap loose_len (part ∙ ap (λ (k : ℕ). take k (drop at bytes)) free) in
    let rest : ℕ → List Bool → List ℕ → List ℕ = λ p ms bs. loose_from p 0 ms bs in
    let behind = loose_from (place + at + n) 0 (drop n (drop at marks)) (drop n (drop at bytes)) in
    let further : place + (at + n) ≡ place + at + n = omega arith in
    let same : loose_from (place + (at + n)) 0 (drop (at + n) marks) (drop (at + n) bytes) ≡ behind =
    ap (λ (p : ℕ). rest p (drop (at + n) marks) (drop (at + n) bytes)) further
    ∙ (ap (λ (ms : List Bool). rest (place + at + n) ms (drop (at + n) bytes)) (sym (drop-drop n at marks))
    ∙ ap (λ (bs : List ℕ). rest (place + at + n) (drop n (drop at marks)) bs) (sym (drop-drop n at bytes))) in
    let step = search-step (place + at) n (drop at marks) (drop at bytes) (n_is ∙ ap (λ (l : ℕ). max l 1) found) in
    ap (λ (es : List ℕ). now ++ es) same
    ∙ (ap (λ (es : List ℕ). es ++ behind) (now_is ∙ ap (λ (l : ℕ). before ++ entry_of_loose (place + at) l) found)
    ∙ (append_assoc before (entry_of_loose (place + at) (loose_len (free_bytes (drop at marks) (drop at bytes)))) behind ∙ (ap (λ (es : List ℕ). before ++ es) (sym step) ∙ leads)))

pub free-next : (at n end : ℕ) (marks : List Bool) → end ≡ at + free_front (drop at marks) → at + n < end → end - (at + n) ≡ free_front (drop (at + n) marks)
free-next at n end marks end_is below =
    let free : end - (at + n) ≡ free_front (drop at marks) - n = omega (arith, end_is) in
    free ∙ (sym (free-behind n (drop at marks) (omega (arith, end_is, below))) ∙ ap (λ (ms : List Bool). free_front ms) (drop-drop n at marks))

-- ---- the blocks.

pub none-added : (told : Option (List ℕ)) (marks : List Bool) (before : List ℕ) → IfSome told (λ games. before ≡ before ++ loose_in marks games 0)
none-added None marks before = tt
none-added (Some games) marks before = sym (append-nil before)

pub block-added : (told : Option (List ℕ)) (end block : ℕ) (marks : List Bool) (before mid after : List ℕ) → TellsLength told end → IfSome told (λ games. mid ≡ before ++ loose_in marks games block) →
    IfSome told (λ games. after ≡ mid ++ loose_from (131072 * block) 0 (block_of end block marks) (block_of end block games)) → IfSome told (λ games. after ≡ before ++ loose_in marks games (block + 1))
block-added None end block marks before mid after long so_far here = tt
block-added (Some games) end block marks before mid after long so_far here =
    let found : ℕ → List ℕ = λ n. loose_from (131072 * block) 0 (block_of n block marks) (block_of n block games) in
    let next : loose_in marks games (block + 1) ≡ loose_in marks games block ++ found (length games) = ap (loose_in marks games) (add-one block) in
    here
    ∙ (ap (λ (es : List ℕ). mid ++ es) (ap found long)
    ∙ (ap (λ (es : List ℕ). es ++ found (length games)) so_far ∙ (append_assoc before (loose_in marks games block) (found (length games)) ∙ ap (λ (es : List ℕ). before ++ es) (sym next))))

-- The index with all of them.
pub lengthened-so : (told : Option (List ℕ)) (end : ℕ) (index : List ℕ) (marks : List Bool) (front after : List ℕ) → TellsLength told end → marks ≡ marks_of index end (known_entries index) → front ≡ front_by index (head_found index) →
    IfSome told (λ games. after ≡ front ++ loose_in marks games (block_count end)) → IfSome told (λ games. after ≡ lengthened index games)
unfolding lengthened
lengthened-so None end index marks front after long marks_are front_is added = tt
lengthened-so (Some games) end index marks front after long marks_are front_is added =
    let all : ℕ → List ℕ = λ n. front_by index (head_found index) ++ loose_in (marks_of index n (known_entries index)) games (block_count n) in
    added
    ∙ (ap (λ (es : List ℕ). es ++ loose_in marks games (block_count end)) front_is
    ∙ (ap (λ (ms : List Bool). front_by index (head_found index) ++ loose_in ms games (block_count end)) marks_are ∙ ap all long))

-- ---- the entries of an index file.

known_few_by : (index : List ℕ) (head : Result IndexHead IndexFault) → known_by index head ≤ entries_found index
known_few_by index (Ok header) = omega arith
known_few_by index (Err fault) = omega arith

pub known-few : (index : List ℕ) → known_entries index ≤ entries_found index
known-few index = known_few_by index (head_found index)

-- ---- the entries of the index file are the first ones of the lengthened index.

found_long : (index : List ℕ) (header : IndexHead) (read : Result IndexHead IndexFault) → header_read index ≡ read → head_tried index read ≡ Ok header → 182 ≤ length index
found_long index header (Ok first) is found = header-long index first is
found_long index header (Err fault) is found =
    elim (long-unless index fault is) [
      | inl short ↦ absurd (ok_err (head_tried index (Err fault)) header fault found (subst (λ (f : IndexFault). head_tried index (Err f) ≡ Err f) (sym short) refl))
      | inr long ↦ long
    ]

head_long : (index : List ℕ) (header : IndexHead) → head_found index ≡ Ok header → 182 ≤ length index
unfolding head_found
head_long index header found = found_long index header (header_read index) refl found

renewed_long : (index : List ℕ) → 182 ≤ length index → length (renewed index) ≡ 182
renewed_long index long =
    let rest : List ℕ = take 172 (drop 10 index) in
    let eight : length magic ≡ 8 = refl in
    let two : length (1 ∷ 144 ∷ rest) ≡ 2 + length rest = omega arith in
    omega (arith, length-append magic (1 ∷ 144 ∷ rest), eight, two, length-take-le 172 (drop 10 index) (omega (arith, length-drop 10 index, long)))

-- An entry of the front is that of what the front is made of.
part_same : (head entries more : List ℕ) (f n : ℕ) → length head ≡ 182 → n < f → 47 * f ≤ length entries → entry_bytes ((head ++ take (47 * f) entries) ++ more) n ≡ take 47 (drop (47 * n) entries)
part_same head entries more f n long below room =
    let front : List ℕ = take (47 * f) entries in
    let len : length front ≡ 47 * f = length-take-le (47 * f) entries room in
    let split : n * 47 + (47 * f - n * 47) ≡ 47 * f = omega (arith, below) in
    let rest : ℕ = 47 * f - n * 47 in
    let at : 182 + 47 * n ≡ 182 + n * 47 = omega arith in
    let back : n * 47 ≡ 47 * n = omega arith in
    let left : drop (n * 47) front ≡ take rest (drop (n * 47) entries) = ap (λ (k : ℕ). drop (n * 47) (take k entries)) (sym split) ∙ drop-take (n * 47) rest entries in
    ap (λ (k : ℕ). take 47 (drop k ((head ++ front) ++ more))) at
    ∙ (ap (λ (l : List ℕ). take 47 (drop (182 + n * 47) l)) (append_assoc head front more)
    ∙ (ap (λ (l : List ℕ). take 47 l) (sym (drop-drop (n * 47) 182 (head ++ (front ++ more))))
    ∙ (ap (λ (l : List ℕ). take 47 (drop (n * 47) l)) (drop_at head (front ++ more) 182 long)
    ∙ (ap (λ (l : List ℕ). take 47 l) (drop-append-le (n * 47) front more (omega (arith, len, below)))
    ∙ (take-append-le 47 (drop (n * 47) front) more (omega (arith, length-drop (n * 47) front, len, below))
    ∙ (ap (λ (l : List ℕ). take 47 l) left ∙ (take-take 47 rest (drop (n * 47) entries) (omega (arith, below)) ∙ ap (λ (k : ℕ). take 47 (drop k entries)) back)))))))

entry_same : (index games : List ℕ) (header : IndexHead) (n : ℕ) → head_found index ≡ Ok header → n < entries_found index → entry_bytes (lengthened index games) n ≡ entry_bytes index n
unfolding lengthened
entry_same index games header n found below =
    let long = head_long index header found in
    let room : 47 * entries_found index ≤ length (drop 182 index) = omega (arith, length-drop 182 index, div-mul-le_self (length index - 182) 47) in
    ap (λ (r : Result IndexHead IndexFault). entry_bytes (front_by index r ++ loose_entries index games) n) found
    ∙ (part_same (renewed index) (drop 182 index) (loose_entries index games) (entries_found index) n (renewed_long index long) below room ∙ ap (λ (l : List ℕ). take 47 l) (drop-drop (47 * n) 182 index))

pub places-same : (way : Way) (index games : List ℕ) (names : PartLists) (header : IndexHead) (n : ℕ) → head_found index ≡ Ok header → n ≤ entries_found index → places_of way (lengthened index games) names games n ≡ places_of way index names games n
places-same way index games names header zero found few = refl
places-same way index games names header (suc n) found few =
    ap (λ (ps : List Place). ps ++ place_of way names games n (entry_bytes (lengthened index games) n) ∷ []) (places-same way index games names header n found (omega (arith, few)))
    ∙ ap (λ (bs : List ℕ). places_of way index names games n ++ place_of way names games n bs ∷ []) (entry_same index games header n found (omega (arith, few)))

longer : (index games : List ℕ) (header : IndexHead) → head_found index ≡ Ok header → 182 + 47 * entries_found index ≤ length (lengthened index games)
unfolding lengthened
longer index games header found =
    let n = entries_found index in
    let part : List ℕ = take (47 * n) (drop 182 index) in
    let room : 47 * n ≤ length (drop 182 index) = omega (arith, length-drop 182 index, div-mul-le_self (length index - 182) 47) in
    let len : length (renewed index ++ part) ≡ 182 + 47 * n = omega (arith, length-append (renewed index) part, renewed_long index (head_long index header found), length-take-le (47 * n) (drop 182 index) room) in
    subst (λ (r : Result IndexHead IndexFault). 182 + 47 * n ≤ length (front_by index r ++ loose_entries index games)) (sym found) (omega (arith, len, length-append (renewed index ++ part) (loose_entries index games)))

-- The lengthened index has all entries of the index file.
pub entries-kept : (index games : List ℕ) (header : IndexHead) → head_found index ≡ Ok header → entries_found index ≤ entries_found (lengthened index games)
entries-kept index games header found = found-all (lengthened index games) (entries_found index) (found-few index) (longer index games header found)

entries_first_by : (way : Way) (index games : List ℕ) (names : PartLists) (head : Result IndexHead IndexFault) → head_found index ≡ head → places_of way (lengthened index games) names games (known_by index head) ≡ places_of way index names games (known_by index head)
entries_first_by way index games names (Ok header) found = places-same way index games names header (entries_found index) found (omega arith)
entries_first_by way index games names (Err fault) found = refl

pub entries-first : (way : Way) (index games : List ℕ) (names : PartLists) → places_of way (lengthened index games) names games (known_entries index) ≡ places_of way index names games (known_entries index)
entries-first way index games names = entries_first_by way index games names (head_found index) refl
