-- What is kept of a draft that takes over a game.
use Rattle.std.proofs.Common.{◌≡◌, ◌<◌, ◌≤◌, ◌+◌, ℕ, List, [], ◌∷◌, ◌++◌, length, drop, slice_get, Some, Ok, refl, sym, ap, ◌∙◌, subst, arith}
use Rattle.std.proofs.lemmas.Bool.{lt-ltb}
use Rattle.std.proofs.lemmas.List.{length-drop, length-take-le, length_push}
use Rattle.std.proofs.lemmas.Option.{same_Some, slice_get_within}
use Rattle.base_files.specs.Extents.{record_in}
use Rattle.block_store.specs.Placing.{end_after, longest_file, padded, padding, placed_at}
use Rattle.block_store.proofs.Places.{padding-fits}
use Rattle.game_codec.specs.Record.{IsRecord}
use Rattle.game_tree.specs.Settle.{settled}
use Rattle.game_tree.specs.declared.head.Head.{Head}
use Rattle.game_tree.specs.declared.head.Tag.{Tag}
use Rattle.index_entry.specs.Entry.{IsEntry}
use Rattle.index_entry.specs.declared.entry.Entry.{Entry}
use Rattle.index_entry.specs.declared.index.IndexHead.{IndexHead}
use Rattle.name_base.specs.NameLists.{AreSound, NameLists}
use Rattle.base_core.specs.declared.naming.NameIds.{NameIds}
use Rattle.base_core.specs.Base.{Held}
use Rattle.base_core.specs.Drafts.{Grows, Takes, TakesOver, length_at, length_in, placed_entry}
use Rattle.base_core.specs.declared.fault.What.TheVariants.{File}
use Rattle.base_core.specs.Edited.{full_names, or_file}
use Rattle.base_core.specs.Edits.{names_with, with_game}
use Rattle.base_core.specs.Entries.{HasNames, extent_of, head_of}
use Rattle.base_core.specs.Means.{HoldsNames}
use Rattle.base_core.specs.Placing.{AreIds}
use Rattle.base_core.specs.Represents.{IsKept, IsSound, Keeps, Kept, Represents}
use Rattle.base_core.proofs.KeptLaws.{settled-rest}
use Rattle.base_core.proofs.NamingLaws.{none-full}
use Rattle.base_core.proofs.PlaceLaws.{below, last-each, last-sound, placed-well, record-there, within-placed}

-- ---- the entry of the game.

taken-named : (names : NameLists) (head : Head) (e : Entry) (ids : NameIds) (offset : ℕ) → AreIds names head ids → HasNames names (placed_entry e ids offset)
unfolding placed_entry
taken-named names head e ids offset are = record {
  white = slice_get_within names.players ids.white head.white are.white;
  black = slice_get_within names.players ids.black head.black are.black;
  event = slice_get_within names.events ids.event head.event are.event;
  site = slice_get_within names.sites ids.site head.site are.site;
  round = slice_get_within names.rounds ids.round head.round are.round;
}

pub taken-fields : (names : NameLists) (head : Head) (e : Entry) (ids : NameIds) (offset : ℕ) → AreIds names head ids → AreSound names → IsEntry e → IsEntry (placed_entry e ids offset)
unfolding placed_entry
taken-fields names head e ids offset are sound is = record {
  len = is.len;
  marks = is.marks;
  white = below ids.white (length names.players) 1048576 (slice_get_within names.players ids.white head.white are.white) sound.players.within;
  black = below ids.black (length names.players) 1048576 (slice_get_within names.players ids.black head.black are.black) sound.players.within;
  event = below ids.event (length names.events) 524288 (slice_get_within names.events ids.event head.event are.event) sound.events.within;
  site = below ids.site (length names.sites) 524288 (slice_get_within names.sites ids.site head.site are.site) sound.sites.within;
  round = below ids.round (length names.rounds) 262144 (slice_get_within names.rounds ids.round head.round are.round) sound.rounds.within;
  vars = is.vars;
  comments = is.comments;
  nags = is.nags;
  eco = is.eco;
  date = is.date;
  event_date = is.event_date;
  event_rule = is.event_rule;
  white_rating = is.white_rating;
  black_rating = is.black_rating;
  material = is.material;
  plies = is.plies;
  home_count = is.home_count;
  home = is.home;
}

taken-head : (of names : NameLists) (e : Entry) (ids : NameIds) (offset : ℕ) (tags : List Tag) → AreIds names (head_of of e []) ids → head_of names (placed_entry e ids offset) tags ≡ head_of of e tags
unfolding head_of placed_entry
taken-head of names e ids offset tags are = rw (are.white, are.black, are.event, are.site, are.round) refl

-- ---- its record.

pub record-long : (games : List ℕ) (e : Entry) → e.offset + e.len ≤ length games → length (record_in games (extent_of e)) ≡ e.len
record-long games e within = length-take-le e.len (drop e.offset games) (omega (arith, within, length-drop e.offset games))

keeps-taken : (of names : NameLists) (games fresh : List ℕ) (end : ℕ) (e : Entry) (ids : NameIds) (held : Held) → length fresh ≡ end → AreIds names (head_of of e []) ids → Keeps of games e held →
    Keeps names (fresh ++ padded end (record_in games (extent_of e))) (placed_entry e ids (end + padding end e.len)) held
unfolding placed_entry
keeps-taken of names games fresh end e ids held long are is =
    let bytes = record_in games (extent_of e) in
    let size : length bytes ≡ e.len = record-long games e is.says.within in
    let W : ℕ → Type 0 = λ n. end + padding end n + n ≤ length (fresh ++ padded end bytes) in
    let T : ℕ → Type 0 = λ n. record_in (fresh ++ padded end bytes) (placed_at end n) ≡ bytes in
    let R : List ℕ → Type 0 = λ b. IsRecord b is.says.tags held.game in
    record {
      says = record {
        tags = is.says.tags;
        within = subst W size (within-placed fresh bytes end long);
        read = subst R (sym (subst T size (record-there fresh bytes end long))) is.says.read;
        head = is.says.head ∙ ap settled (sym (taken-head of names e ids (end + padding end e.len) is.says.tags are));
        len = is.says.len;
      };
      event_date = is.event_date;
      signed = is.signed;
    }

-- ---- the draft with the game.

-- Settling leaves the names.
pub names-settled : (of names : NameLists) (e : Entry) (tags : List Tag) → names_with (settled (head_of of e tags)) names ≡ names_with (head_of of e []) names
unfolding head_of
names-settled of names e tags = ap (λ (h : Head). names_with h names) (settled-rest (head_of of e tags))

pub entry-placed : (x e : Entry) (ids : NameIds) (offset place : ℕ) → x ≡ placed_entry e ids offset → offset ≡ place → x ≡ placed_entry e ids place
entry-placed x e ids offset place is same = is ∙ ap (λ (n : ℕ). placed_entry e ids n) same

-- What is kept with the entry of the game.
abbrev pub with_taken : Kept → NameLists → Entry → NameIds → Kept
with_taken old names e ids = record {
  header = record old.header { games = old.header.games + 1 };
  names = names;
  entries = old.entries ++ placed_entry e ids (old.end + padding old.end e.len) ∷ [];
  end = end_after old.end e.len;
  unsaved = old.unsaved;
}

pub takes-in : (of names : NameLists) (old : Kept) (e : Entry) (ids : NameIds) → IsSound old → HoldsNames names old.names → names ≡ names_with (head_of of e []) old.names → AreIds names (head_of of e []) ids →
    Takes of e old (with_taken old names e ids)
takes-in of names old e ids sound holds named are = λ held games fresh made keeps long draft.
    let here = keeps-taken of names games fresh old.end e ids held long are keeps in
    let last = placed_entry e ids (old.end + padding old.end e.len) in
    record {
      header = ap (λ (h : IndexHead). record h { games = h.games + 1 }) draft.header;
      names = named ∙ (sym (names-settled of old.names e keeps.says.tags) ∙ (ap (λ (h : Head). names_with h old.names) (sym keeps.says.head) ∙ ap (λ (n : NameLists). names_with held.head n) draft.names));
      end = ap (λ (n : ℕ). end_after old.end n) (sym keeps.says.len) ∙ ap (λ (n : ℕ). end_after n held.len) draft.end;
      count = length_push old.entries last ∙ (ap (λ (n : ℕ). n + 1) draft.count ∙ sym (length_push made.games held));
      each = last-each old names last fresh (padded old.end (record_in games (extent_of e))) made held sound holds draft here;
    }

pub takes : (i : ℕ) (of old : Kept) (names : NameLists) (e : Entry) (ids : NameIds) → slice_get of.entries i ≡ Some e → IsSound old → HoldsNames names old.names → names ≡ names_with (head_of of.names e []) old.names →
    AreIds names (head_of of.names e []) ids → TakesOver i of old (with_taken old names e ids)
takes i of old names e ids at sound holds named are = λ x held games fresh whole made at_x at_held is long draft.
    let done = takes-in of.names names old e ids sound holds named are held games fresh made (is.each i e held at at_held) long draft in
    let S : Entry → Type 0 = λ y. Represents (with_taken old names e ids) (fresh ++ padded old.end (record_in games (extent_of y))) (with_game held made) in
    subst S (same_Some e x (sym at ∙ at_x)) done

len-at : (i : ℕ) (of : Kept) (e : Entry) → slice_get of.entries i ≡ Some e → e.len ≡ length_at i of
len-at i of e at = sym (ap length_in at)

pub grows : (i : ℕ) (of old : Kept) (names : NameLists) (e : Entry) (ids : NameIds) → slice_get of.entries i ≡ Some e → end_after old.end e.len ≤ longest_file → Grows (length_at i of) old (with_taken old names e ids)
grows i of old names e ids at room = record {
  header = refl;
  count = length_push old.entries (placed_entry e ids (old.end + padding old.end e.len));
  end = ap (λ (n : ℕ). end_after old.end n) (len-at i of e at);
  room = room;
  unsaved = refl;
}

given-kept : (names : NameLists) (end : ℕ) (head : Head) (e : Entry) (ids : NameIds) → AreIds names head ids → AreSound names → IsEntry e → e.home_count ≤ 16 → e.len ≤ 131071 →
    IsKept names (end_after end e.len) (placed_entry e ids (end + padding end e.len))
unfolding placed_entry
given-kept names end head e ids are sound fields homes short = record {
  fields = taken-fields names head e ids (end + padding end e.len) are sound fields;
  named = taken-named names head e ids (end + padding end e.len) are;
  placed = placed-well (end_after end e.len) (placed_entry e ids (end + padding end e.len)) (record { in_block = padding-fits end e.len short; in_file = omega arith });
  homes = homes;
}

pub given-sound : (old : Kept) (names : NameLists) (head : Head) (e : Entry) (ids : NameIds) → IsSound old → AreSound names → HoldsNames names old.names → AreIds names head ids → IsEntry e → e.home_count ≤ 16 → e.len ≤ 131071 →
    old.header.games < 16777214 → IsSound (with_taken old names e ids)
given-sound old names head e ids is sound holds are fields homes short few =
    let all = last-sound old names (placed_entry e ids (old.end + padding old.end e.len)) (end_after old.end e.len) is sound holds (omega arith) few (given-kept names old.end head e ids are sound fields homes short) in
    record { header = all.header; count = all.count; names = all.names; entries = all.entries }

pub taken-sound : (of : NameLists) (last : ℕ) (old : Kept) (names : NameLists) (head : Head) (e : Entry) (ids : NameIds) → IsSound old → AreSound names → HoldsNames names old.names → AreIds names head ids → IsKept of last e →
    e.len ≤ 131071 → old.header.games < 16777214 → IsSound (with_taken old names e ids)
taken-sound of last old names head e ids is sound holds are kept short few = given-sound old names head e ids is sound holds are kept.fields kept.homes short few

-- Where names can be taken and the record would end behind the limit, the file is full.
pub over-file : (names : NameLists) (end : ℕ) → AreSound names → longest_file < end → or_file (full_names names) end ≡ Some File
over-file names end sound lt = rw (none-full names sound, lt-ltb longest_file end lt) refl
