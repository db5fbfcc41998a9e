-- A base without a fault comes over whole.
use Rattle.std.proofs.Common.{◌≡◌, ◌≤◌, ◌<◌, ◌+◌, ◌-◌, ◌*◌, ℕ, zero, suc, Bool, false, true≢false, if◌then◌else◌, List, [], ◌∷◌, ◌++◌, length, map, take, slice_get, unwrap_or, Option, Some, None, Result, Ok, Err, refl, sym, ap, ap₂, ◌∙◌, subst, inl, inr, arith, add-one, append_assoc, take_all}
use Rattle.std.proofs.lemmas.Bool.{eq-eqb, le-ltb, lt-ltb}
use Rattle.base_files.specs.Extents.{record_in}
use Rattle.game_codec.specs.RecordAnswer.{record_answer}
use Rattle.game_tree.specs.Settle.{settled}
use Rattle.game_tree.specs.declared.head.Head.{Head}
use Rattle.game_tree.specs.declared.head.Tag.{Tag}
use Rattle.index_entry.specs.Entry.{entry_read}
use Rattle.index_entry.specs.Index.{entry_bytes, header_read}
use Rattle.index_entry.specs.declared.entry.Entry.{Entry}
use Rattle.index_entry.specs.declared.fault.IndexFault.{IndexFault}
use Rattle.index_entry.specs.declared.fault.IndexFault.TheVariants.{Length}
use Rattle.index_entry.specs.declared.index.IndexHead.{IndexHead}
use Rattle.index_entry.proofs.HeaderLemmas.{header-few, header-read, index-whole}
use Rattle.name_base.specs.NameLists.{NameLists}
use Rattle.name_base.specs.PartNames.{PartLists, all_known, filled, filled_names, names_in_part}
use Rattle.name_base.proofs.PartLemmas.{AreFew, all-filled, all-met, length-filled, read-whole}
use Rattle.base_core.specs.Base.{Base, Held}
use Rattle.base_core.specs.Entries.{HasNames, extent_of, head_of, name_at}
use Rattle.base_core.specs.FirstFault.{FirstFault, Passes, id_fault, place_fault}
use Rattle.base_core.specs.Means.{IsEntryOf, Means}
use Rattle.base_core.specs.declared.fault.BaseFault.{BaseFault}
use Rattle.base_core.specs.declared.fault.BaseFault.TheVariants.{Index}
use Rattle.base_core.proofs.CheckLaws.{checked, has_names}
use Rattle.base_core.proofs.Lists.{get_some, take_next}
use Rattle.base_core.proofs.Results.{same_ok}
use Rattle.base_core.proofs.SomeBase.{FaultOrBase}
use Rattle.mend_base.specs.Entries.{entries_found, head_found}
use Rattle.mend_base.specs.Fields.{known_in}
use Rattle.mend_base.specs.Loose.{lengthened}
use Rattle.mend_base.specs.Mending.{ComesOver}
use Rattle.mend_base.specs.Notes.{all_notes, notes_from, notes_of_count, notes_of_fault, notes_of_rest, notes_with}
use Rattle.mend_base.specs.declared.finding.Change.{Change}
use Rattle.mend_base.specs.Ways.{known_by, way_of}
use Rattle.mend_base.specs.declared.fronts.Faulty.{Faulty}
use Rattle.mend_base.specs.declared.ways.Way.{Way}
use Rattle.mend_base.specs.declared.report.Note.{Note}
use Rattle.mend_base.specs.declared.report.Note.TheVariants as line
use Rattle.mend_base.specs.Places.{Found, Place, change_in, games_of, held_by, missing_in, place_of, places_of}
use Rattle.mend_base.proofs.EntryLaws.{found-all, header-found}
use Rattle.mend_base.proofs.FieldLaws.{known-read, no-fault}
use Rattle.mend_base.proofs.FindLaws.{held-by, read-place}
use Rattle.mend_base.proofs.LooseLaws.{entries-kept, places-same}
use Rattle.mend_base.proofs.PlaceLaws.{games-first, games-more, notes-more}

-- ---- names that are all there.

module _ (names : NameLists) (few : AreFew names) (e : Entry) (has : HasNames names e) where
  name_same : (limit : ℕ) (list : List (List ℕ)) (id : ℕ) → length list ≤ limit → id < length list → name_at (filled limit (map Some list)) id ≡ name_at list id
  name_same limit list id within less =
      let at = get_some list id less in
      ap (λ (o : Option (List ℕ)). unwrap_or o []) (all-filled limit list id at.0 within at.1 ∙ sym at.1)

  head_same : (tags : List Tag) → head_of (filled_names (all_known names)) e tags ≡ head_of names e tags
  unfolding head_of
  head_same tags =
      rw (
        name_same 1048576 names.players e.white few.players has.white,
        name_same 1048576 names.players e.black few.players has.black,
        name_same 524288 names.events e.event few.events has.event,
        name_same 524288 names.sites e.site few.sites has.site,
        name_same 262144 names.rounds e.round few.rounds has.round,
      ) refl

  none_missing : missing_in (all_known names) e ≡ None
  unfolding missing_in
  none_missing = rw (all-met names.players e.white has.white, all-met names.players e.black has.black, all-met names.events e.event has.event, all-met names.sites e.site has.site, all-met names.rounds e.round has.round) refl

-- An entry that is read, each of whose names is there, is changed in nothing.
no_change : (way : Way) (names : NameLists) (few : AreFew names) (game : ℕ) (bytes : List ℕ) (e : Entry) → game < way.known → HasNames names e → entry_read bytes ≡ Ok e → change_in way (all_known names) game bytes ≡ None
unfolding change_in
no_change way names few game bytes e known has is = rw (lt-ltb game way.known known, no-fault bytes e is, known-read bytes e is, none_missing names few e has) refl

-- ---- the places.

-- The place of a game of a base.
place_whole : (way : Way) (names : NameLists) (games : List ℕ) (game : ℕ) (bytes : List ℕ) (held : Held) → game < way.known → AreFew names → IsEntryOf names games bytes held → Passes false names games game bytes →
    place_of way (all_known names) games game bytes ≡ Ok (record { held = held; change = None })
place_whole way names games game bytes held below few is passes =
    let parts = all_known names in
    let check = checked names (length games) game bytes passes.fields passes.checked in
    let e = is.fields in
    let same : passes.fields ≡ e = same_ok _ passes.fields e check.read is.read in
    let known : known_in bytes ≡ e = known-read bytes e is.read in
    let has = has_names names e (subst (λ (x : Entry). id_fault names x ≡ None) same check.named) in
    let tags = is.says.tags in
    let made : Head → Held = λ h. record { head = h; game = held.game; len = e.len } in
    let here : held_by (filled_names parts) e (tags, held.game) ≡ held =
    ap (λ (h : Head). made (settled h)) (head_same names few e has tags) ∙ held-by names games e held is.says in
    let same_as_it : Option Change → Place = λ c. Ok (record { held = held; change = c }) in
    let place : Entry → Place = λ x. Ok (record { held = held_by (filled_names parts) x (tags, held.game); change = change_in way parts game bytes }) in
    read-place way parts games game bytes tags held.game (subst (λ (x : Entry). place_fault (length games) x ≡ None) (same ∙ sym known) check.placed)
    (subst (λ (x : Entry). record_answer (record_in games (extent_of x)) ≡ Ok (tags, held.game)) (sym known) is.says.read.answer)
    ∙ (ap place known ∙ (ap (λ (h : Held). Ok (record { held = h; change = change_in way parts game bytes })) here ∙ ap same_as_it (no_change way names few game bytes e below has is.read)))

module _ (way : Way) (index names games : List ℕ) (base : Base) (all_known_here : way.known ≡ entries_found index) (means : Means index names games base) (passes : (i : ℕ) → i < base.header.games → Passes false base.names games i (entry_bytes index i)) where
  abbrev parts : PartLists
  parts = names_in_part names

  read : header_read index ≡ Ok base.header
  read = header-read index base.header means.header

  all_there : base.header.games ≤ entries_found index
  all_there = found-all index base.header.games (header-few index base.header read) (index-whole index base.header means.header)

  place_at : (i : ℕ) → i < base.header.games → (held : Held) × ((slice_get base.games i ≡ Some held) × (place_of way parts games i (entry_bytes index i) ≡ Ok (record { held = held; change = None })))
  place_at i below =
      let lists = read-whole names base.names means.lists in
      let held = get_some base.games i (omega (arith, below, means.held.long)) in
      let whole = place_whole way base.names games i (entry_bytes index i) held.0 (omega (arith, below, all_there, all_known_here)) lists.few (means.held.each i held.0 held.1) (passes i below) in
      (held.0, (held.1, ap (λ (p : PartLists). place_of way p games i (entry_bytes index i)) lists.part ∙ whole))

  games_whole : (n : ℕ) → n ≤ base.header.games → games_of (places_of way index parts games n) ≡ take n base.games
  games_whole zero few = refl
  games_whole (suc n) few =
      let here = place_at n (omega (arith, few)) in
      let found : Found = record { held = here.0; change = None } in
      ap (λ m. games_of (places_of way index parts games m)) (sym (add-one n))
      ∙ (games-more way index parts games n found here.1.1
      ∙ (ap (λ gs. gs ++ here.0 ∷ []) (games_whole n (omega (arith, few)))
      ∙ (sym (take_next base.games n here.0 here.1.0) ∙ ap (λ m. take m base.games) (add-one n))))

  notes_whole : (n : ℕ) → n ≤ base.header.games → notes_from 0 (places_of way index parts games n) ≡ []
  notes_whole zero few = refl
  notes_whole (suc n) few =
      let here = place_at n (omega (arith, few)) in
      ap (λ m. notes_from 0 (places_of way index parts games m)) (sym (add-one n))
      ∙ (notes-more way index parts games n (Ok (record { held = here.0; change = None })) here.1.1 ∙ ap (λ ns. ns ++ []) (notes_whole n (omega (arith, few))))

  games_all : games_of (places_of way index parts games base.header.games) ≡ base.games
  games_all = games_whole base.header.games (omega arith) ∙ take_all base.header.games base.games (omega (arith, means.held.long))

  untold : notes_from 0 (places_of way index parts games base.header.games) ≡ []
  untold = notes_whole base.header.games (omega arith)

  first : (others : List Held) × (games_of (places_of way index parts games (entries_found index)) ≡ base.games ++ others)
  first =
      let front = games-first way index parts games base.header.games (entries_found index) all_there in
      (front.0, front.1 ∙ ap (λ gs. gs ++ front.0) games_all)

  found : head_found index ≡ Ok base.header
  found = header-found index base.header read

  first_of_all : (others : List Held) × (games_of (places_of way (lengthened index games) parts games (entries_found (lengthened index games))) ≡ base.games ++ others)
  first_of_all =
      let front = games-first way (lengthened index games) parts games (entries_found index) (entries_found (lengthened index games)) (entries-kept index games base.header found) in
      let same = ap (λ (ps : List Place). games_of ps) (places-same way index games parts base.header (entries_found index) found (omega arith)) in
      (first.0 ++ front.0, front.1 ∙ (ap (λ (gs : List Held). gs ++ front.0) (same ∙ first.1) ∙ append_assoc base.games first.0 front.0))

  untold_of_all : notes_from 0 (places_of way (lengthened index games) parts games base.header.games) ≡ []
  untold_of_all = ap (λ (ps : List Place). notes_from 0 ps) (places-same way index games parts base.header base.header.games found all_there) ∙ untold

  silent : entries_found index ≡ base.header.games → all_notes way index parts games ≡ []
  silent same =
      let fault : notes_of_fault (header_read index) ≡ [] = ap notes_of_fault read in
      let none : List Note = [] in
      let count : notes_of_count base.header.games way.known ≡ [] = ap (λ (b : Bool). if b then none else (line.Counted base.header.games way.known ∷ [])) (eq-eqb base.header.games way.known (sym (all_known_here ∙ same))) in
      let games_are : notes_from 0 (places_of way index parts games (entries_found index)) ≡ [] = ap (λ m. notes_from 0 (places_of way index parts games m)) same ∙ untold in
      let rest : notes_of_rest way index base.header ≡ [] = ap (λ (b : Bool). if b then (line.NotThere (entries_found index) (base.header.games - 1) (Index (Length way.len)) ∷ []) else none) (le-ltb (entries_found index) base.header.games (omega (arith, same))) in
      ap (λ (r : Result IndexHead IndexFault). notes_with r way index parts games) found
      ∙ (ap₂ (λ a b. a ++ b) (ap₂ (λ a b. a ++ b) fault count) (ap₂ (λ a b. a ++ b) games_are rest))

  over : ComesOver way index names games base
  over = record {
    means = means;
    first = first;
    untold = untold;
    alone = λ same. ap (λ m. games_of (places_of way index parts games m)) same ∙ games_all;
    silent = silent;
    first_of_all = first_of_all;
    untold_of_all = untold_of_all;
  }

-- With the way for its index file.
pub comes : (faulty : Faulty) (index names games : List ℕ) (base : Base) → Means index names games base → ((i : ℕ) → i < base.header.games → Passes false base.names games i (entry_bytes index i)) → ComesOver (way_of faulty index) index names games base
comes faulty index names games base means passes =
    let found : head_found index ≡ Ok base.header = header-found index base.header (header-read index base.header means.header) in
    over (way_of faulty index) index names games base (ap (λ (r : Result IndexHead IndexFault). known_by index r) found) means passes

passes_loosely : (strict : Bool) (names : NameLists) (games : List ℕ) (game : ℕ) (bytes : List ℕ) → Passes strict names games game bytes → Passes false names games game bytes
passes_loosely strict names games game bytes p = record { fields = p.fields; checked = p.checked; sig = p.sig; signs = p.signs; derived = λ is. absurd (true≢false (sym is)) }

-- Files without a first fault mean a base that comes over as it is.
pub comes-over : (strict : Bool) (faulty : Faulty) (index names games : List ℕ) → FaultOrBase strict index names games → ((fault : BaseFault) → FirstFault strict index names games fault → ⊥) →
    (base : Base) × ComesOver (way_of faulty index) index names games base
comes-over strict faulty index names games (inl f) none = absurd (none f.0 f.1)
comes-over strict faulty index names games (inr b) none =
    (b.0, comes faulty index names games b.0 b.1.0 (λ i less. passes_loosely strict b.0.names games i (entry_bytes index i) (b.1.1 i less)))
