-- What is kept of a game whose record was placed.
use Rattle.std.proofs.Common.{◌≡◌, ◌<◌, ◌≤◌, ◌+◌, ◌%◌, ℕ, true, IsTrue, List, [], ◌∷◌, ◌++◌, length, slice_get, slice_set, unwrap_or, option_map, Option, Some, None, nat_lt, if◌then◌else◌, replicate, refl, sym, ap, ◌∙◌, subst, inl, inr, arith, eq-or-lt_of_le}
use Rattle.std.proofs.lemmas.Bool.{cases_eq, le-ltb, lt-ltb}
use Rattle.std.proofs.lemmas.List.{length-append, length_push, length-replicate, length-set}
use Rattle.std.proofs.lemmas.List.Elements.{All-push, All-set, All-weaker}
use Rattle.std.proofs.lemmas.Option.{same_Some, slice_get_within}
use Rattle.base_files.specs.Extents.{IsPlaced, block_len, record_in}
use Rattle.base_files.specs.Seen.{Seen, appended}
use Rattle.block_store.specs.Placing.{padded, padding, placed_at}
use Rattle.block_store.proofs.Places.{added_there}
use Rattle.game_codec.specs.Record.{IsRecord}
use Rattle.game_codec.specs.Written.{longest, written_record}
use Rattle.game_tree.specs.Date.{keeps_rule}
use Rattle.game_tree.specs.Game.{GameTree}
use Rattle.game_tree.specs.Head.{IsBounded}
use Rattle.game_tree.specs.Settle.{IsSettled, settled}
use Rattle.game_tree.specs.declared.head.Head.{Head}
use Rattle.game_tree.specs.declared.head.Tag.{Tag}
use Rattle.game_tree.proofs.SettleLemmas.{settled-keeps_rule}
use Rattle.index_entry.specs.Entry.{IsEntry}
use Rattle.index_entry.specs.declared.entry.Entry.{Entry}
use Rattle.index_entry.specs.declared.index.IndexHead.{IndexHead}
use Rattle.name_base.specs.NameLists.{AreSound, NameLists}
use Rattle.sig_index.specs.Signature.{IsSig, IsSigBounded}
use Rattle.sig_index.specs.declared.signature.Sig.{Sig}
use Rattle.base_core.specs.declared.fault.EditError.{EditError}
use Rattle.base_core.specs.declared.fault.EditError.TheVariants as error
use Rattle.base_core.specs.declared.fault.PlaceWhat.TheVariants as place
use Rattle.base_core.specs.declared.fault.What.{What}
use Rattle.base_core.specs.declared.fault.What.TheVariants as what
use Rattle.base_core.specs.declared.naming.NameIds.{NameIds}
use Rattle.base_core.specs.Base.{Base, Held}
use Rattle.base_core.specs.Edited.{Places, WhyNotPlaced, WhyNotReplaced, first_full, full_names, most_games, or_file}
use Rattle.base_core.specs.Edits.{added, changed_at, end_with, game_replaced, held_of, names_with}
use Rattle.base_core.specs.Entries.{HasNames, head_of, name_at}
use Rattle.base_core.specs.FirstFault.{place_fault}
use Rattle.base_core.specs.Means.{HoldsNames}
use Rattle.base_core.specs.Placing.{AreIds, IfFull, entry_with}
use Rattle.base_core.specs.Represents.{IsKept, IsSound, Keeps, Kept, Represents}
use Rattle.base_core.proofs.CheckLaws.{ends_within}
use Rattle.base_core.proofs.GamesLaws.{at-all}
use Rattle.base_core.proofs.GrowLaws.{says-stays}
use Rattle.base_core.proofs.Lists.{get_some, get_push_new, get_push_old, get-set_other, get-set_same}
use Rattle.base_core.proofs.MarkLaws.{changed-length, changed-other, changed-same}
use Rattle.base_core.proofs.NamingLaws.{id-stays}
use Rattle.base_core.proofs.Results.{step_none}

-- ---- the entry of a game.

pub entry-named : (names : NameLists) (head : Head) (ids : NameIds) (s : Sig) (len offset : ℕ) → AreIds names head ids → HasNames names (entry_with ids head s len offset)
unfolding entry_with
entry-named names head ids s len offset are = record {
  white = slice_get_within names.players ids.white head.white are.white;
  black = slice_get_within names.players ids.black head.black are.black;
  event = slice_get_within names.events ids.event head.event are.event;
  site = slice_get_within names.sites ids.site head.site are.site;
  round = slice_get_within names.rounds ids.round head.round are.round;
}

rule-kept : (head : Head) → IsSettled head → IsTrue (keeps_rule head.event_date head.date)
rule-kept head is = let R : Head → Type 0 = λ h. IsTrue (keeps_rule h.event_date h.date) in subst R is (settled-keeps_rule head)

pub below : (id count limit : ℕ) → id < count → count ≤ limit → id < limit
below id count limit less within = omega (arith, less, within)

pub entry-fields : (names : NameLists) (head : Head) (ids : NameIds) (s : Sig) (len offset : ℕ) → AreIds names head ids → AreSound names → IsBounded head → IsSettled head → IsSigBounded s → len ≤ 131071 →
    IsEntry (entry_with ids head s len offset)
unfolding entry_with
entry-fields names head ids s len offset are sound is settled small short = record {
  len = below len 131072 131072 (omega (arith, short)) (omega arith);
  marks = is.marks;
  white = below ids.white (length names.players) 1048576 (slice_get_within names.players ids.white head.white are.white) sound.players.within;
  black = below ids.black (length names.players) 1048576 (slice_get_within names.players ids.black head.black are.black) sound.players.within;
  event = below ids.event (length names.events) 524288 (slice_get_within names.events ids.event head.event are.event) sound.events.within;
  site = below ids.site (length names.sites) 524288 (slice_get_within names.sites ids.site head.site are.site) sound.sites.within;
  round = below ids.round (length names.rounds) 262144 (slice_get_within names.rounds ids.round head.round are.round) sound.rounds.within;
  vars = small.vars;
  comments = small.comments;
  nags = small.nags;
  eco = is.eco;
  date = is.date;
  event_date = is.event_date;
  event_rule = rule-kept head settled;
  white_rating = is.white_rating;
  black_rating = is.black_rating;
  material = small.material;
  plies = omega (arith, small.plies);
  home_count = omega (arith, small.home_count);
  home = small.home;
}

-- A record that is placed has no fault of its place.
pub placed-well : (end : ℕ) (e : Entry) → IsPlaced end (record { offset = e.offset; len = e.len }) → place_fault end e ≡ None
unfolding place_fault
placed-well end e is = rw (le-ltb block_len (e.offset % block_len + e.len) is.in_block, le-ltb end (e.offset + e.len) is.in_file) refl

-- Nor has it in a games file that is longer.
placed-on : (end last : ℕ) (e : Entry) → place_fault end e ≡ None → end ≤ last → place_fault last e ≡ None
unfolding place_fault
placed-on end last e placed longer =
    let first = step_none (nat_lt block_len (e.offset % block_len + e.len)) place.Crosses (if nat_lt end (e.offset + e.len) then Some place.Past else None) placed in
    let within : e.offset + e.len ≤ end = ends_within end e placed in
    rw (first.0, le-ltb last (e.offset + e.len) (omega (arith, within, longer))) refl

pub entry-kept : (names : NameLists) (end : ℕ) (head : Head) (ids : NameIds) (s : Sig) (len offset : ℕ) → AreIds names head ids → IsEntry (entry_with ids head s len offset) → IsSigBounded s →
    IsPlaced end (record { offset = offset; len = len }) → IsKept names end (entry_with ids head s len offset)
unfolding entry_with
entry-kept names end head ids s len offset are fields small placed = record {
  fields = fields;
  named = entry-named names head ids s len offset are;
  placed = placed-well end (entry_with ids head s len offset) placed;
  homes = small.home_count;
}

-- ---- what was kept before.

more-names : (all names : List (List ℕ)) (id : ℕ) → ((more : List (List ℕ)) × (all ≡ names ++ more)) → id < length names → id < length all
more-names all names id is less =
    let long : length all ≡ length names + length is.0 = ap (λ (x : List (List ℕ)). length x) is.1 ∙ length-append names is.0 in
    omega (arith, long, less)

has-more : (all names : NameLists) (e : Entry) → HoldsNames all names → HasNames names e → HasNames all e
has-more all names e holds has = record {
  white = more-names all.players names.players e.white holds.players has.white;
  black = more-names all.players names.players e.black holds.players has.black;
  event = more-names all.events names.events e.event holds.events has.event;
  site = more-names all.sites names.sites e.site holds.sites has.site;
  round = more-names all.rounds names.rounds e.round holds.rounds has.round;
}

kept-on : (all names : NameLists) (end last : ℕ) → HoldsNames all names → end ≤ last → (e : Entry) → IsKept names end e → IsKept all last e
kept-on all names end last holds longer e is = record {
  fields = is.fields;
  named = has-more all names e holds is.named;
  placed = placed-on end last e is.placed longer;
  homes = is.homes;
}

-- A name keeps its id.
name-stays : (all names : List (List ℕ)) (id : ℕ) → ((more : List (List ℕ)) × (all ≡ names ++ more)) → id < length names → name_at all id ≡ name_at names id
name-stays all names id is less =
    let there = get_some names id less in
    ap (λ (o : Option (List ℕ)). unwrap_or o []) (id-stays all names id there.0 is there.1 ∙ sym there.1)

head-stays : (all names : NameLists) (e : Entry) (given : List Tag) → HoldsNames all names → HasNames names e → head_of all e given ≡ head_of names e given
unfolding head_of
head-stays all names e given holds has =
    rw (
      name-stays all.players names.players e.white holds.players has.white,
      name-stays all.players names.players e.black holds.players has.black,
      name-stays all.events names.events e.event holds.events has.event,
      name-stays all.sites names.sites e.site holds.sites has.site,
      name-stays all.rounds names.rounds e.round holds.rounds has.round,
    ) refl

keeps-on : (all names : NameLists) (games more : List ℕ) (e : Entry) (held : Held) → HoldsNames all names → HasNames names e → Keeps names games e held → Keeps all (games ++ more) e held
keeps-on all names games more e held holds has is =
    let says = says-stays names games more e held is.says in
    record {
      says = record {
        tags = says.tags;
        within = says.within;
        read = says.read;
        head = says.head ∙ ap settled (sym (head-stays all names e says.tags holds has));
        len = says.len;
      };
      event_date = is.event_date;
      signed = is.signed;
    }

-- ---- the game that was placed.

-- Its record stands in its place.
pub record-there : (games bytes : List ℕ) (end : ℕ) → length games ≡ end → record_in (games ++ padded end bytes) (placed_at end (length bytes)) ≡ bytes
record-there games bytes end long =
    let before : Seen = record { index = None; names = None; games = Some games; fresh = None; choices = []; known = 0; added = 0 } in
    sym (added_there before (appended (padded end bytes) before) end (padding end (length bytes)) (end + padding end (length bytes)) bytes refl (sym long) refl)

pub within-placed : (games bytes : List ℕ) (end : ℕ) → length games ≡ end → end + padding end (length bytes) + length bytes ≤ length (games ++ padded end bytes)
within-placed games bytes end long =
    let nil : ℕ = 0 in
    let zeros : length (replicate (padding end (length bytes)) nil) ≡ padding end (length bytes) = length-replicate (padding end (length bytes)) nil in
    let all = length-append games (padded end bytes) in
    let both : length (padded end bytes) ≡ length (replicate (padding end (length bytes)) nil) + length bytes = length-append (replicate (padding end (length bytes)) nil) bytes in
    omega (arith, all, both, zeros, long)

-- The entry has the names of the head.
head-named : (names : NameLists) (head : Head) (ids : NameIds) (s : Sig) (len offset : ℕ) → AreIds names head ids → head_of names (entry_with ids head s len offset) head.tags ≡ head
unfolding head_of entry_with
head-named names head ids s len offset are = rw (are.white, are.black, are.event, are.site, are.round) refl

pub keeps-placed : (names : NameLists) (games : List ℕ) (end : ℕ) (head : Head) (game : GameTree) (ids : NameIds) (s : Sig) → length games ≡ end → AreIds names head ids → IsSettled head → IsSig game s →
    IsRecord (written_record head.tags game) head.tags game →
    Keeps names (games ++ padded end (written_record head.tags game)) (entry_with ids head s (length (written_record head.tags game)) (end + padding end (length (written_record head.tags game)))) (held_of head game)
unfolding entry_with
keeps-placed names games end head game ids s long are settles signed read =
    let bytes = written_record head.tags game in
    let R : List ℕ → Type 0 = λ b. IsRecord b head.tags game in
    record {
      says = record {
        tags = head.tags;
        within = within-placed games bytes end long;
        read = subst R (sym (record-there games bytes end long)) read;
        head = sym (ap settled (head-named names head ids s (length bytes) (end + padding end (length bytes)) are) ∙ settles);
        len = refl;
      };
      event_date = refl;
      signed = signed;
    }

-- ---- a game that was added.

-- What is kept with one entry more.
abbrev pub with_last : Kept → NameLists → Entry → ℕ → Kept
with_last old names e end = record { header = record old.header { games = old.header.games + 1 }; names = names; entries = old.entries ++ e ∷ []; end = end; unsaved = true }

pub last-sound : (old : Kept) (names : NameLists) (e : Entry) (end : ℕ) → IsSound old → AreSound names → HoldsNames names old.names → old.end ≤ end → old.header.games < 16777214 → IsKept names end e → IsSound (with_last old names e end)
last-sound old names e end is sound holds longer few kept = record {
  header = record { games = omega (arith, few); autoload = is.header.autoload };
  count = length_push old.entries e ∙ ap (λ (n : ℕ). n + 1) is.count;
  names = sound;
  entries = All-push (IsKept names end) old.entries e (All-weaker (IsKept old.names old.end) (IsKept names end) (kept-on names old.names old.end end holds longer) old.entries is.entries) kept;
}

-- The entries with the last one, and the games with the last one.
pub last-each : (old : Kept) (names : NameLists) (e : Entry) (games more : List ℕ) (base : Base) (last : Held) → IsSound old → HoldsNames names old.names → Represents old games base → Keeps names (games ++ more) e last →
    (i : ℕ) (x : Entry) (held : Held) → slice_get (old.entries ++ e ∷ []) i ≡ Some x → slice_get (base.games ++ last ∷ []) i ≡ Some held → Keeps names (games ++ more) x held
last-each old names e games more base last sound holds is here i x held at_x at_held =
    let file = games ++ more in
    let within : i ≤ length old.entries = omega (arith, slice_get_within (old.entries ++ e ∷ []) i x at_x, length_push old.entries e) in
    elim (eq-or-lt_of_le within) [
      | inl same ↦
          let entry : e ≡ x = same_Some e x (sym (get_push_new old.entries e) ∙ subst (λ (k : ℕ). slice_get (old.entries ++ e ∷ []) k ≡ Some x) same at_x) in
          let placed : last ≡ held = same_Some last held (sym (get_push_new base.games last) ∙ subst (λ (k : ℕ). slice_get (base.games ++ last ∷ []) k ≡ Some held) (same ∙ is.count) at_held) in
          let E : Entry → Type 0 = λ y. Keeps names file y last in
          let H : Held → Type 0 = λ y. Keeps names file x y in
          subst H placed (subst E entry here)
      | inr less ↦
          let there : slice_get old.entries i ≡ Some x = sym (get_push_old old.entries e i less) ∙ at_x in
          let kept = at-all (IsKept old.names old.end) old.entries i x sound.entries there in
          keeps-on names old.names games more x held holds kept.named
          (is.each i x held there (sym (get_push_old base.games last i (subst (λ (n : ℕ). i < n) is.count less)) ∙ at_held))
    ]

pub adds : (old : Kept) (head : Head) (game : GameTree) (ids : NameIds) (s : Sig) → IsSound old → HoldsNames (names_with head old.names) old.names → AreIds (names_with head old.names) head ids → IsSettled head → IsSig game s →
    IsRecord (written_record head.tags game) head.tags game →
    Places (written_record head.tags game) (added head game) old
    (with_last old (names_with head old.names) (entry_with ids head s (length (written_record head.tags game)) (old.end + padding old.end (length (written_record head.tags game)))) (end_with head game old.end))
unfolding added
adds old head game ids s sound holds are settles signed read = λ games base long is.
    let bytes = written_record head.tags game in
    let e = entry_with ids head s (length bytes) (old.end + padding old.end (length bytes)) in
    let all = names_with head old.names in
    let here = keeps-placed all games old.end head game ids s long are settles signed read in
    record {
      header = ap (λ (h : IndexHead). record h { games = h.games + 1 }) is.header;
      names = ap (λ (n : NameLists). names_with head n) is.names;
      end = ap (λ (n : ℕ). end_with head game n) is.end;
      count = length_push old.entries e ∙ (ap (λ (n : ℕ). n + 1) is.count ∙ sym (length_push base.games (held_of head game)));
      each = last-each old all e games (padded old.end bytes) base (held_of head game) sound holds is here;
    }

-- ---- a game that was put in the place of another.

-- What is kept with another entry in one place.
abbrev pub with_entry : Kept → ℕ → NameLists → Entry → ℕ → Kept
with_entry old i names e end = record { header = old.header; names = names; entries = slice_set old.entries i e; end = end; unsaved = true }

pub entry-sound : (old : Kept) (i : ℕ) (names : NameLists) (e : Entry) (end : ℕ) → IsSound old → AreSound names → HoldsNames names old.names → old.end ≤ end → IsKept names end e → IsSound (with_entry old i names e end)
entry-sound old i names e end is sound holds longer kept = record {
  header = is.header;
  count = length-set old.entries i e ∙ is.count;
  names = sound;
  entries = All-set (IsKept names end) old.entries i e kept (All-weaker (IsKept old.names old.end) (IsKept names end) (kept-on names old.names old.end end holds longer) old.entries is.entries);
}

pub replaces : (old : Kept) (i : ℕ) (head : Head) (game : GameTree) (ids : NameIds) (s : Sig) → IsSound old → i < length old.entries → HoldsNames (names_with head old.names) old.names →
    AreIds (names_with head old.names) head ids → IsSettled head → IsSig game s → IsRecord (written_record head.tags game) head.tags game →
    Places (written_record head.tags game) (game_replaced i head game) old
    (with_entry old i (names_with head old.names) (entry_with ids head s (length (written_record head.tags game)) (old.end + padding old.end (length (written_record head.tags game)))) (end_with head game old.end))
unfolding game_replaced
replaces old i head game ids s sound there holds are settles signed read = λ games base long is.
    let bytes = written_record head.tags game in
    let e = entry_with ids head s (length bytes) (old.end + padding old.end (length bytes)) in
    let all = names_with head old.names in
    let file = games ++ padded old.end bytes in
    let whole : Held → Held = λ held. held_of head game in
    let here = keeps-placed all games old.end head game ids s long are settles signed read in
    let before = get_some base.games i (subst (λ (n : ℕ). i < n) is.count there) in
    record {
      header = is.header;
      names = ap (λ (n : NameLists). names_with head n) is.names;
      end = ap (λ (n : ℕ). end_with head game n) is.end;
      count = length-set old.entries i e ∙ (is.count ∙ sym (changed-length whole i base.games));
      each = λ j x held at_x at_held.
          elim (cases_eq j i) [
            | inl same ↦
                let entry : e ≡ x = same_Some e x (sym (get-set_same old.entries i e there) ∙ subst (λ (k : ℕ). slice_get (slice_set old.entries i e) k ≡ Some x) same at_x) in
                let placed : held_of head game ≡ held =
                same_Some (held_of head game) held (sym (changed-same whole i base.games ∙ ap (option_map whole) before.1) ∙ subst (λ (k : ℕ). slice_get (changed_at whole i base.games) k ≡ Some held) same at_held)
                in
                let E : Entry → Type 0 = λ y. Keeps all file y (held_of head game) in
                let H : Held → Type 0 = λ y. Keeps all file x y in
                subst H placed (subst E entry here)
            | inr other ↦
                let old_at : slice_get old.entries j ≡ Some x = sym (get-set_other old.entries i j e other) ∙ at_x in
                let kept = at-all (IsKept old.names old.end) old.entries j x sound.entries old_at in
                keeps-on all old.names games (padded old.end bytes) x held holds kept.named (is.each j x held old_at (sym (changed-other whole i j base.games other) ∙ at_held))
          ];
    }

-- ---- the entry that was made before its record was placed.

moved : (ids : NameIds) (head : Head) (s : Sig) (len offset : ℕ) → record (entry_with ids head s len 0) { offset = offset } ≡ entry_with ids head s len offset
unfolding entry_with
moved ids head s len offset = refl

-- The entry that was made, before its record is placed.
pub made-fields : (x : Entry) (names : NameLists) (head : Head) (ids : NameIds) (s : Sig) (len : ℕ) → x ≡ entry_with ids head s len 0 → AreIds names head ids → AreSound names → IsBounded head → IsSettled head → IsSigBounded s →
    len ≤ 131071 → IsEntry x
made-fields x names head ids s len is are sound bounded settled small short =
    let E : Entry → Type 0 = λ e. IsEntry e in
    subst E (sym is) (entry-fields names head ids s len 0 are sound bounded settled small short)

pub entry-is : (x : Entry) (ids : NameIds) (head : Head) (s : Sig) (bytes slice : List ℕ) (len end : ℕ) → x ≡ entry_with ids head s len 0 → len ≡ length slice → slice ≡ bytes →
    record x { offset = end + padding end (length slice) } ≡ entry_with ids head s (length bytes) (end + padding end (length bytes))
entry-is x ids head s bytes slice len end is long same =
    let E : List ℕ → Entry = λ b. entry_with ids head s (length b) (end + padding end (length b)) in
    ap (λ (y : Entry). record y { offset = end + padding end (length slice) }) is
    ∙ (moved ids head s len (end + padding end (length slice))
    ∙ (ap (λ (n : ℕ). entry_with ids head s n (end + padding end (length slice))) long ∙ ap E same))

-- ---- why a game is not placed.

pub full-games : (games : ℕ) (names : NameLists) (end : ℕ) → 16777214 < games → first_full games names end ≡ Some what.Games
unfolding first_full
full-games games names end over = rw (lt-ltb most_games games over) refl

few-games : (games : ℕ) (names : NameLists) (end : ℕ) → games ≤ 16777214 → first_full games names end ≡ or_file (full_names names) end
unfolding first_full
few-games games names end few = rw (le-ltb most_games games few) refl

-- The names are full.
pub why-names : (len games : ℕ) (names : NameLists) (end : ℕ) (e : EditError) → len ≤ longest → games ≤ 16777214 → IfFull (λ w. full_names names ≡ Some w) e → WhyNotPlaced len (first_full games names end) e
why-names len games names end (error.Full w) short few why = (short, few-games games names end few ∙ ap (λ (o : Option What). or_file o end) why)
why-names len games names end error.Memory short few why = tt
why-names len games names end error.Failed short few why = absurd why
why-names len games names end (error.NoGame n) short few why = absurd why
why-names len games names end (error.TooLong n) short few why = absurd why
why-names len games names end (error.Changed game kept found) short few why = absurd why

-- A base that is open has no more games than it may.
pub few-kept : (kept : Kept) → IsSound kept → length kept.entries ≤ 16777214
few-kept kept is = omega (arith, is.count, is.header.games)

-- So where the game was to be put in the place of another one.
pub not-replaced : (kept : Kept) (i len : ℕ) (full : Option What) (e : EditError) → WhyNotPlaced len full e → WhyNotReplaced kept i len full e
not-replaced kept i len full (error.Full w) why = why
not-replaced kept i len full error.Memory why = why
not-replaced kept i len full error.Failed why = why
not-replaced kept i len full (error.NoGame n) why = absurd why
not-replaced kept i len full (error.TooLong n) why = why
not-replaced kept i len full (error.Changed game sig found) why = why

-- With room for the games and the names, what would be full is the games file.
pub full-file : (games : ℕ) (names : NameLists) (end : ℕ) → games ≤ 16777214 → full_names names ≡ None → first_full games names end ≡ or_file None end
full-file games names end few room = few-games games names end few ∙ ap (λ (o : Option What). or_file o end) room
