-- The draft and the new games file after the first games, and one game more.
use Rattle.std.proofs.Common.{◌≡◌, ◌≤◌, ◌<◌, ◌+◌, ◌-◌, ℕ, zero, suc, max, List, [], ◌∷◌, ◌++◌, length, is_some, if◌then◌else◌, Option, None, Some, Result, Ok, Err, IfSome, refl, sym, ap, ◌∙◌, subst, arith, add-zero, zero-add, suc-add}
use Rattle.std.proofs.lemmas.List.{length_push}
use Rattle.std.proofs.lemmas.Option.{none-some}
use Rattle.base_files.specs.Extents.{record_in}
use Rattle.base_files.specs.Seen.{FreshAlone, Seen, committed, told_instead}
use Rattle.base_files.specs.Told.{Tells, adds}
use Rattle.block_store.specs.Placing.{end_after, padded}
use Rattle.game_tree.specs.declared.head.Head.{Head}
use Rattle.index_entry.specs.Index.{entry_bytes}
use Rattle.index_entry.specs.declared.fault.IndexFault.{IndexFault}
use Rattle.index_entry.specs.declared.entry.Entry.{Entry}
use Rattle.index_entry.specs.declared.index.IndexHead.{IndexHead}
use Rattle.name_base.specs.NameLists.{NameLists}
use Rattle.name_base.specs.PartNames.{PartLists, filled_names, names_in_part}
use Rattle.base_core.specs.Base.{Base, Held, empty_base}
use Rattle.base_core.specs.Compacted.{only}
use Rattle.base_core.specs.Drafts.{Grows, Takes, begun}
use Rattle.base_core.specs.Edited.{full_names, or_file}
use Rattle.base_core.specs.Edits.{names_with, with_game}
use Rattle.base_core.specs.Entries.{extent_of, head_of}
use Rattle.base_core.specs.Represents.{Keeps, Kept, Represents}
use Rattle.base_core.specs.Saved.{OpensAgain}
use Rattle.base_core.specs.declared.fault.BaseFault.{BaseFault}
use Rattle.base_core.specs.declared.fault.What.{What}
use Rattle.base_core.proofs.OnlyLaws.{only-more, placed-long}
use Rattle.base_core.proofs.TakeLaws.{names-settled}
use Rattle.mend_base.specs.Entries.{entries_found, head_found}
use Rattle.mend_base.specs.Finding.{KeepsWhole, entries_cost, entry_cost}
use Rattle.mend_base.specs.Keeping.{FillsNext, MendsNext, PutsIt, WhyStopped}
use Rattle.mend_base.specs.Mending.{HasMended, IsMade, IsTooMuch, Mends, WhyNotMended}
use Rattle.mend_base.specs.Notes.{Began, all_notes, notes_from, notes_of_head, notes_of_change, notes_of_place, notes_of_rest, notes_with, with_notes}
use Rattle.mend_base.specs.Places.{Found, games_of, mended_base, place_of, places_of}
use Rattle.mend_base.specs.declared.fault.MendError.{MendError}
use Rattle.mend_base.specs.declared.fault.MendError.TheVariants as error
use Rattle.mend_base.specs.declared.finding.Change.{Change}
use Rattle.mend_base.specs.declared.ways.Way.{Way}
use Rattle.mend_base.specs.declared.mending.Mended.{Mended}
use Rattle.mend_base.specs.declared.report.Note.{Note}
use Rattle.mend_base.proofs.NoteLaws.{all-told, began-all, began-behind, began-front, began-none, no-more-notes}
use Rattle.mend_base.proofs.PlaceLaws.{began-so-far, changed-more, changed-same, games-more, games-same, told-more}

-- ---- no games.

none-stand : (header : IndexHead) (seen : Option (List ℕ)) → IfSome (told_instead [] seen) (λ file. (length file ≡ (begun header).end) × Represents (begun header) file (mended_base header []))
unfolding only
none-stand header None = tt
none-stand header (Some games) = (refl, record { header = refl; names = refl; end = refl; count = refl; each = λ i e held at_e at_held. absurd (none-some e at_e) })

has-none : (header : IndexHead) (way : Way) (index : List ℕ) (names : PartLists) (games : List ℕ) (told : Option (List Note)) (seen : Option (List ℕ)) → HasMended 0 header way index names games told told 0 (begun header) (told_instead [] seen)
unfolding only
has-none header way index names games told seen = record {
  notes = sym (no-more-notes told);
  came = refl;
  changed_are = refl;
  end = refl;
  names_are = refl;
  stands = none-stand header seen;
}

-- ---- a game that is left out.

has-left-out : (game : ℕ) (way : Way) (index : List ℕ) (names : PartLists) (games : List ℕ) (told now : Option (List Note)) (draft : Kept) (file : Option (List ℕ)) (fault : BaseFault) →
    place_of way names games game (entry_bytes index game) ≡ Err fault → now ≡ with_notes told (notes_of_place game (Err fault)) → MendsNext game way index names games told now 0 draft draft file file
has-left-out game way index names games told now draft file fault place tells = λ header before changed has.
    let same : games_of (places_of way index names games game) ≡ games_of (places_of way index names games (game + 1)) = sym (games-same way index names games game fault place) in
    let S : List Held → Type 0 = λ gs. IfSome file (λ f. (length f ≡ draft.end) × Represents draft f (mended_base header gs)) in
    record {
      notes = told-more way index names games before told now game (Err fault) place has.notes tells;
      came = has.came ∙ ap (λ (gs : List Held). length gs) same;
      changed_are = add-zero changed ∙ (has.changed_are ∙ sym (changed-same way index names games game fault place));
      end = has.end ∙ ap (λ (gs : List Held). (mended_base header gs).end) same;
      names_are = has.names_are ∙ ap (λ (gs : List Held). (mended_base header gs).names) same;
      stands = subst S same has.stands;
    }

-- ---- a game that comes over.

names_kept : (names : NameLists) (games : List ℕ) (kept : Entry) (held : Held) (old : NameLists) → Keeps names games kept held → names_with (head_of names kept []) old ≡ names_with held.head old
names_kept names games kept held old keeps = sym (names-settled names old kept keeps.says.tags) ∙ ap (λ (h : Head). names_with h old) (sym keeps.says.head)

module _ (game : ℕ) (way : Way) (index : List ℕ) (names : PartLists) (games : List ℕ) (header : IndexHead) (bytes : List ℕ) (kept : Entry) (change : Option Change) (whole : KeepsWhole way index names games game bytes kept change) where
  abbrev so_far : Base
  so_far = mended_base header (games_of (places_of way index names games game))

  abbrev next : Base
  next = mended_base header (games_of (places_of way index names games (game + 1)))

  -- The base of the games so far with this one.
  with_held : with_game whole.held so_far ≡ next
  with_held =
      only-more (games_of (places_of way index names games game)) whole.held (record empty_base { header = header })
      ∙ ap (λ (gs : List Held). mended_base header gs) (sym (games-more way index names games game (record { held = whole.held; change = change }) whole.place))

  -- Its names and its end.
  pub next-names : (draft : Kept) → draft.names ≡ so_far.names → names_with (head_of (filled_names names) kept []) draft.names ≡ next.names
  next-names draft are =
      names_kept (filled_names names) whole.file kept whole.held draft.names whole.keeps
      ∙ (ap (λ (n : NameLists). names_with whole.held.head n) are ∙ ap (λ (b : Base). b.names) with_held)

  pub next-end : (draft : Kept) → draft.end ≡ so_far.end → end_after draft.end kept.len ≡ next.end
  next-end draft end =
      ap (λ (n : ℕ). end_after draft.end n) (sym whole.keeps.says.len)
      ∙ (ap (λ (n : ℕ). end_after n whole.held.len) end ∙ ap (λ (b : Base). b.end) with_held)

  -- The new games file with its record.
  pub next-stands : (draft after : Kept) (file fresh : Option (List ℕ)) → Takes (filled_names names) kept draft after → after.end ≡ end_after draft.end kept.len →
      fresh ≡ adds file (padded draft.end bytes) → IfSome file (λ f. (length f ≡ draft.end) × Represents draft f so_far) → IfSome fresh (λ f. (length f ≡ after.end) × Represents after f next)
  next-stands draft after None fresh takes end is stands = subst (λ (o : Option (List ℕ)). IfSome o (λ f. (length f ≡ after.end) × Represents after f next)) (sym is) tt
  next-stands draft after (Some file) fresh takes end is stands =
      let G : List ℕ → Base → Type 0 = λ bs b. (length (file ++ padded draft.end bs) ≡ after.end) × Represents after (file ++ padded draft.end bs) b in
      let done : G (record_in whole.file (extent_of kept)) (with_game whole.held so_far) =
      (placed-long whole.file file draft.end kept stands.0 whole.keeps.says.within ∙ sym end, takes whole.held whole.file file so_far whole.keeps stands.0 stands.1) in
      let here : G bytes (with_game whole.held so_far) = subst (λ (bs : List ℕ). G bs (with_game whole.held so_far)) (sym whole.stands) done in
      subst (λ (o : Option (List ℕ)). IfSome o (λ f. (length f ≡ after.end) × Represents after f next)) (sym is) (subst (G bytes) with_held here)

has-kept : (game : ℕ) (way : Way) (index : List ℕ) (names : PartLists) (games : List ℕ) (told now : Option (List Note)) (more : ℕ) (draft after : Kept) (file fresh : Option (List ℕ)) (bytes : List ℕ) (kept : Entry) (change : Option Change) →
    KeepsWhole way index names games game bytes kept change → Takes (filled_names names) kept draft after → Grows kept.len draft after → after.names ≡ names_with (head_of (filled_names names) kept []) draft.names →
    fresh ≡ adds file (padded draft.end bytes) → now ≡ with_notes told (notes_of_change game change) → more ≡ (if is_some change then 1 else 0) →
    MendsNext game way index names games told now more draft after file fresh
has-kept game way index names games told now more draft after file fresh bytes kept change whole takes grows names_are added tells one = λ header before changed has.
    let found : Found = record { held = whole.held; change = change } in
    record {
      notes = told-more way index names games before told now game (Ok found) whole.place has.notes tells;
      came = grows.count ∙ (ap (λ n. n + 1) has.came ∙ (sym (length_push (games_of (places_of way index names games game)) whole.held) ∙ ap (λ (gs : List Held). length gs) (sym (games-more way index names games game found whole.place))));
      changed_are = ap (λ n. changed + n) one ∙ (ap (λ n. n + (if is_some change then 1 else 0)) has.changed_are ∙ sym (changed-more way index names games game found whole.place));
      end = grows.end ∙ next-end game way index names games header bytes kept change whole draft has.end;
      names_are = names_are ∙ next-names game way index names games header bytes kept change whole draft has.names_are;
      stands = next-stands game way index names games header bytes kept change whole draft after file fresh takes grows.end added has.stands;
    }

-- The new base would be full with it.
has-filled : (game : ℕ) (way : Way) (index : List ℕ) (names : PartLists) (games : List ℕ) (told : Option (List Note)) (draft : Kept) (file : Option (List ℕ)) (bytes : List ℕ) (kept : Entry) (change : Option Change) (what : What) → game < entries_found index →
    KeepsWhole way index names games game bytes kept change → or_file (full_names (names_with (head_of (filled_names names) kept []) draft.names)) (end_after draft.end kept.len) ≡ Some what → FillsNext game way index names games told draft file what
has-filled game way index names games told draft file bytes kept change what below whole full = λ header before changed has.
    let N : NameLists → Type 0 = λ n. or_file (full_names n) (end_after draft.end kept.len) ≡ Some what in
    let E : ℕ → Type 0 = λ n. or_file (full_names (mended_base header (games_of (places_of way index names games (game + 1)))).names) n ≡ Some what in
    record {
      header = header;
      count = game + 1;
      few = omega (arith, below);
      full = subst E (next-end game way index names games header bytes kept change whole draft has.end) (subst N (next-names game way index names games header bytes kept change whole draft has.names_are) full);
    }

-- The same, where the games file may be told.
pub kept-told : (old : Option (List ℕ)) (game : ℕ) (way : Way) (index : List ℕ) (names : PartLists) (told now : Option (List Note)) (more : ℕ) (draft after : Kept) (file fresh : Option (List ℕ)) (bytes : List ℕ) (kept : Entry) (change : Option Change) →
    IfSome old (λ games. KeepsWhole way index names games game bytes kept change) → Takes (filled_names names) kept draft after → Grows kept.len draft after →
    after.names ≡ names_with (head_of (filled_names names) kept []) draft.names → fresh ≡ adds file (padded draft.end bytes) → now ≡ with_notes told (notes_of_change game change) → more ≡ (if is_some change then 1 else 0) →
    IfSome old (λ games. MendsNext game way index names games told now more draft after file fresh)
kept-told None game way index names told now more draft after file fresh bytes kept change whole takes grows names_are added tells one = tt
kept-told (Some games) game way index names told now more draft after file fresh bytes kept change whole takes grows names_are added tells one =
    has-kept game way index names games told now more draft after file fresh bytes kept change whole takes grows names_are added tells one

pub left-out-told : (old : Option (List ℕ)) (game : ℕ) (way : Way) (index : List ℕ) (names : PartLists) (told now : Option (List Note)) (draft : Kept) (file : Option (List ℕ)) (fault : BaseFault) →
    IfSome old (λ games. place_of way names games game (entry_bytes index game) ≡ Err fault) → now ≡ with_notes told (notes_of_place game (Err fault)) → IfSome old (λ games. MendsNext game way index names games told now 0 draft draft file file)
left-out-told None game way index names told now draft file fault place tells = tt
left-out-told (Some games) game way index names told now draft file fault place tells = has-left-out game way index names games told now draft file fault place tells

pub filled-told : (old : Option (List ℕ)) (game : ℕ) (way : Way) (index : List ℕ) (names : PartLists) (told : Option (List Note)) (draft : Kept) (file : Option (List ℕ)) (bytes : List ℕ) (kept : Entry) (change : Option Change) (what : What) → game < entries_found index →
    IfSome old (λ games. KeepsWhole way index names games game bytes kept change) → or_file (full_names (names_with (head_of (filled_names names) kept []) draft.names)) (end_after draft.end kept.len) ≡ Some what →
    IfSome old (λ games. FillsNext game way index names games told draft file what)
filled-told None game way index names told draft file bytes kept change what below whole full = tt
filled-told (Some games) game way index names told draft file bytes kept change what below whole full = has-filled game way index names games told draft file bytes kept change what below whole full

-- ---- all games.

pub none-told : (old : Option (List ℕ)) (header : IndexHead) (way : Way) (index : List ℕ) (names : PartLists) (told : Option (List Note)) (seen : Option (List ℕ)) → IfSome old (λ games. HasMended 0 header way index names games told told 0 (begun header) (told_instead [] seen))
none-told None header way index names told seen = tt
none-told (Some games) header way index names told seen = has-none header way index names games told seen

pub next-told : (old : Option (List ℕ)) (count : ℕ) (header : IndexHead) (way : Way) (index : List ℕ) (names : PartLists) (before told now : Option (List Note)) (changed more : ℕ) (draft after : Kept) (file fresh : Option (List ℕ)) →
    IfSome old (λ games. HasMended count header way index names games before told changed draft file) → IfSome old (λ games. MendsNext count way index names games told now more draft after file fresh) →
    IfSome old (λ games. HasMended (count + 1) header way index names games before now (changed + more) after fresh)
next-told None count header way index names before told now changed more draft after file fresh has next = tt
next-told (Some games) count header way index names before told now changed more draft after file fresh has next = next header before changed has

-- What was told of the first games begins what is told of all of them.
pub began-told : (old : Option (List ℕ)) (n count : ℕ) (header : IndexHead) (way : Way) (index : List ℕ) (names : PartLists) (before told now : Option (List Note)) (changed : ℕ) (draft : Kept) (file : Option (List ℕ)) → now ≡ told → n ≤ count →
    IfSome old (λ games. HasMended n header way index names games before told changed draft file) → IfSome old (λ games. Began (notes_from 0 (places_of way index names games count)) before now)
began-told None n count header way index names before told now changed draft file same few has = tt
began-told (Some games) n count header way index names before told now changed draft file same few has = began-so-far way index names games n count before now few (same ∙ has.notes)

pub began-here : (old : Option (List ℕ)) (count : ℕ) (way : Way) (index : List ℕ) (names : PartLists) (before now : Option (List Note)) → now ≡ before → IfSome old (λ games. Began (notes_from 0 (places_of way index names games count)) before now)
began-here None count way index names before now same = tt
began-here (Some games) count way index names before now same = began-none (notes_from 0 (places_of way index names games count)) before now same

pub fills-told : (old : Option (List ℕ)) (count : ℕ) (header : IndexHead) (way : Way) (index : List ℕ) (names : PartLists) (before told : Option (List Note)) (changed : ℕ) (draft : Kept) (file : Option (List ℕ)) (what : What) →
    IfSome old (λ games. HasMended count header way index names games before told changed draft file) → IfSome old (λ games. FillsNext count way index names games told draft file what) → IfSome old (λ games. IsTooMuch way index names games what)
fills-told None count header way index names before told changed draft file what has fills = tt
fills-told (Some games) count header way index names before told changed draft file what has fills = fills header before changed has

-- What the games so far and one more cost.
cost-more : (index : List ℕ) (a n : ℕ) → entries_cost index a ≤ entries_cost index (n + a)
cost-more index a zero = subst (λ (k : ℕ). entries_cost index a ≤ entries_cost index k) (sym (zero-add a)) (omega arith)
cost-more index a (suc n) = subst (λ (k : ℕ). entries_cost index a ≤ entries_cost index k) (sym (suc-add n a)) (omega (arith, cost-more index a n))

pub cost-within : (index : List ℕ) (game count : ℕ) → game < count → entries_cost index game + entry_cost index game ≤ entries_cost index count
cost-within index game count below =
    let e : count - suc game + suc game ≡ count = omega (arith, below) in
    subst (λ (k : ℕ). entries_cost index (suc game) ≤ entries_cost index k) e (cost-more index (suc game) (count - suc game))

-- ---- the new files.

pub puts-it : (old new : Seen) (draft : Kept) (index names : List ℕ) → new ≡ committed names index old → ((games : List ℕ) (base : Base) → draft.end ≡ length games → Represents draft games base → OpensAgain index names games base) →
    PutsIt draft old new
puts-it old new draft index names is means =
    subst (λ (s : Seen). PutsIt draft old s) (sym is) (record { games = refl; opens = by old.index old.names old.fresh })
  where
    by : (i n f : Option (List ℕ)) → IfSome (told_instead index i) (λ x. IfSome (told_instead names n) (λ y. IfSome f (λ z. (base : Base) → length z ≡ draft.end → Represents draft z base → OpensAgain x y z base)))
    by None n f = tt
    by (Some i) None f = tt
    by (Some i) (Some n) None = tt
    by (Some i) (Some n) (Some file) = λ base long is. means file base (sym long) is

means_so : (i n g fresh : Option (List ℕ)) (draft : Kept) (made : Base) → g ≡ fresh → IfSome fresh (λ file. (length file ≡ draft.end) × Represents draft file made) →
    IfSome i (λ x. IfSome n (λ y. IfSome g (λ z. (base : Base) → length z ≡ draft.end → Represents draft z base → OpensAgain x y z base))) → IfSome i (λ x. IfSome n (λ y. IfSome g (λ z. OpensAgain x y z made)))
means_so None n g fresh draft made same stands opens = tt
means_so (Some i) None g fresh draft made same stands opens = tt
means_so (Some i) (Some n) None fresh draft made same stands opens = tt
means_so (Some i) (Some n) (Some g) fresh draft made same stands opens =
    let here = subst (λ (o : Option (List ℕ)). IfSome o (λ file. (length file ≡ draft.end) × Represents draft file made)) (sym same) stands in
    opens made here.0 here.1

pub mends-so : (old : Option (List ℕ)) (way : Way) (index : List ℕ) (names : PartLists) (before told now after : Option (List Note)) (changed : ℕ) (mid new : Seen) (header : IndexHead) (draft : Kept) (mended : Mended) → head_found index ≡ Ok header →
    mended.of ≡ max header.games (entries_found index) → mended.came ≡ length draft.entries → mended.changed ≡ changed → told ≡ with_notes before (notes_of_head way index header) →
    IfSome old (λ games. HasMended (entries_found index) header way index names games told now changed draft mid.fresh) → after ≡ with_notes now (notes_of_rest way index header) → PutsIt draft mid new →
    IfSome old (λ games. Mends way index names games before after new mended)
mends-so None way index names before told now after changed mid new header draft mended read of came more first has rest puts = tt
mends-so (Some games) way index names before told now after changed mid new header draft mended read of came more first has rest puts = record {
  header = header;
  read = read;
  of = of;
  came = came ∙ has.came;
  changed = more ∙ has.changed_are;
  notes = rest
      ∙ (ap (λ t. with_notes t (notes_of_rest way index header)) (has.notes ∙ (ap (λ t. with_notes t (notes_from 0 (places_of way index names games (entries_found index)))) first))
      ∙ (all-told before (notes_of_head way index header) (notes_from 0 (places_of way index names games (entries_found index))) (notes_of_rest way index header)
      ∙ ap (λ (r : Result IndexHead IndexFault). with_notes before (notes_with r way index names games)) (sym read)));
  means = means_so new.index new.names new.games mid.fresh draft (mended_base header (games_of (places_of way index names games (entries_found index)))) puts.games has.stands puts.opens;
}

-- ---- what was told where mending stopped.

module _ (old : Option (List ℕ)) (way : Way) (index : List ℕ) (names : PartLists) (header : IndexHead) (read : head_found index ≡ Ok header) where
  abbrev games_notes : List ℕ → List Note
  games_notes games = notes_from 0 (places_of way index names games (entries_found index))

  all_are : (games : List ℕ) (before now : Option (List Note)) → Began (notes_of_head way index header ++ (games_notes games ++ notes_of_rest way index header)) before now → Began (all_notes way index names games) before now
  all_are games before now began = subst (λ (r : Result IndexHead IndexFault). Began (notes_with r way index names games) before now) (sym read) began

  pub began-head : (before now : Option (List Note)) → Began (notes_of_head way index header) before now → IfSome old (λ games. Began (all_notes way index names games) before now)
  began-head before now began = by old
    where
      by : (o : Option (List ℕ)) → IfSome o (λ games. Began (all_notes way index names games) before now)
      by None = tt
      by (Some games) = all_are games before now (began-front (notes_of_head way index header) (games_notes games ++ notes_of_rest way index header) before now began)

  pub began-games : (before mid now : Option (List Note)) → mid ≡ with_notes before (notes_of_head way index header) → IfSome old (λ games. Began (games_notes games) mid now) → IfSome old (λ games. Began (all_notes way index names games) before now)
  began-games before mid now first = by old
    where
      by : (o : Option (List ℕ)) → IfSome o (λ games. Began (games_notes games) mid now) → IfSome o (λ games. Began (all_notes way index names games) before now)
      by None began = tt
      by (Some games) began =
          all_are games before now
          (began-behind (notes_of_head way index header) (games_notes games ++ notes_of_rest way index header) before mid now first (began-front (games_notes games) (notes_of_rest way index header) mid now began))

  pub began-rest : (before mid told now : Option (List Note)) (changed : ℕ) (draft : Kept) (file : Option (List ℕ)) → mid ≡ with_notes before (notes_of_head way index header) →
      IfSome old (λ games. HasMended (entries_found index) header way index names games mid told changed draft file) → Began (notes_of_rest way index header) told now → IfSome old (λ games. Began (all_notes way index names games) before now)
  began-rest before mid told now changed draft file first = by old
    where
      by : (o : Option (List ℕ)) → IfSome o (λ games. HasMended (entries_found index) header way index names games mid told changed draft file) → Began (notes_of_rest way index header) told now →
          IfSome o (λ games. Began (all_notes way index names games) before now)
      by None has began = tt
      by (Some games) has began =
          all_are games before now
          (began-behind (notes_of_head way index header) (games_notes games ++ notes_of_rest way index header) before mid now first
          (began-behind (games_notes games) (notes_of_rest way index header) mid told now has.notes began))

-- ---- where the whole old base is told.

pub told-so : (P : List ℕ → List ℕ → List ℕ → Type 0) (i n g : Option (List ℕ)) (index names : List ℕ) → Tells i index → Tells n names → IfSome g (λ games. P index names games) → IfSome i (λ x. IfSome n (λ y. IfSome g (λ games. P x y games)))
told-so P None n g index names at_i at_n is = tt
told-so P (Some i) None g index names at_i at_n is = tt
told-so P (Some i) (Some n) None index names at_i at_n is = tt
told-so P (Some i) (Some n) (Some games) index names at_i at_n is = subst (λ (x : List ℕ). P x n games) at_i (subst (λ (y : List ℕ). P index y games) at_n is)

-- Why no base is mended.
pub why-so : (old : Option (List ℕ)) (way : Way) (index : List ℕ) (names : PartLists) (e : MendError) → WhyStopped (λ what. IfSome old (λ games. IsTooMuch way index names games what)) e → IfSome old (λ games. WhyNotMended way index names games e)
why-so None way index names e why = tt
why-so (Some games) way index names (error.Bad fault) why = absurd why
why-so (Some games) way index names (error.Full what) why = why
why-so (Some games) way index names error.OldFailed why = tt
why-so (Some games) way index names error.NewFailed why = tt
why-so (Some games) way index names error.ReportFailed why = tt
why-so (Some games) way index names error.Memory why = tt

pub made-so : (old mid new : Seen) → FreshAlone old mid → IsMade mid new → IsMade old new
made-so old mid new alone made = record {
  between = made.between;
  index = made.index;
  names = made.names;
  alone = made.alone ∙ ap (λ (s : Seen). record s { fresh = made.between.fresh; added = made.between.added }) alone;
  put = made.put;
}

pub began-unread : (notes : List ℕ → List ℕ → List ℕ → List Note) (i n g : Option (List ℕ)) (told : Option (List Note)) → IfSome i (λ index. IfSome n (λ names. IfSome g (λ games. Began (notes index names games) told told)))
began-unread notes None n g told = tt
began-unread notes (Some i) None g told = tt
began-unread notes (Some i) (Some n) None told = tt
began-unread notes (Some i) (Some n) (Some g) told = began-none (notes i n g) told told refl

pub began-nothing : (old : Option (List ℕ)) (way : Way) (index : List ℕ) (names : PartLists) (told now : Option (List Note)) → now ≡ told → IfSome old (λ games. Began (all_notes way index names games) told now)
began-nothing None way index names told now same = tt
began-nothing (Some games) way index names told now same = began-none (all_notes way index names games) told now same

-- ---- with the records that have no entry.

pub began-not : (old : Option (List ℕ)) (notes : List ℕ → List Note) (before now : Option (List Note)) → now ≡ before → IfSome old (λ games. Began (notes games) before now)
began-not None notes before now same = tt
began-not (Some games) notes before now same = began-none (notes games) before now same

pub began-first : (old : Option (List ℕ)) (first : List Note) (notes : List ℕ → List Note) (before now : Option (List Note)) → now ≡ with_notes before first → IfSome old (λ games. Began (first ++ notes games) before now)
began-first None first notes before now tells = tt
began-first (Some games) first notes before now tells = began-front first (notes games) before now (began-all first before now tells)

pub began-longer : (old seen : Option (List ℕ)) (first : List Note) (notes : List ℕ → List ℕ → List Note) (index : List ℕ) (longer : List ℕ → List ℕ) (before mid now : Option (List Note)) → seen ≡ old → IfSome old (λ games. index ≡ longer games) →
    mid ≡ with_notes before first → IfSome seen (λ games. Began (notes index games) mid now) → IfSome old (λ games. Began (first ++ notes (longer games) games) before now)
began-longer old seen first notes index longer before mid now same index_is tells began =
    by old index_is (subst (λ (o : Option (List ℕ)). IfSome o (λ games. Began (notes index games) mid now)) same began)
  where
    by : (o : Option (List ℕ)) → IfSome o (λ games. index ≡ longer games) → IfSome o (λ games. Began (notes index games) mid now) → IfSome o (λ games. Began (first ++ notes (longer games) games) before now)
    by None is behind = tt
    by (Some games) is behind = began-behind first (notes (longer games) games) before mid now tells (subst (λ (x : List ℕ). Began (notes x games) mid now) is behind)
