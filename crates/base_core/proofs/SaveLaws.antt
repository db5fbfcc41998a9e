-- What saving writes means the base, and opens again as it.
use Rattle.std.proofs.Common.{◌≡◌, ◌<◌, ◌≤◌, ◌+◌, ◌*◌, ℕ, Bool, true, false, if◌then◌else◌, List, ◌++◌, length, take, drop, slice_get, Option, Some, None, IfSome, Result, Ok, Err, OnErr, refl, sym, ap, ◌∙◌, subst, arith}
use Rattle.std.proofs.lemmas.Bool.{lt-leb, ne_eqb}
use Rattle.std.proofs.lemmas.List.{append_assoc, drop_at, length-append, length-drop, length-take-le, take-append-drop}
use Rattle.std.proofs.lemmas.Option.{slice_get_within}
use Rattle.std.proofs.Math.Seq.{drop-append-add}
use Rattle.base_files.specs.Seen.{Seen, replaced, told_instead}
use Rattle.base_files.specs.Told.{TellsLength}
use Rattle.base_files.specs.declared.part.Part.TheVariants as part
use Rattle.index_entry.specs.Bits.{bit_in}
use Rattle.index_entry.specs.Entry.{IsWritten, entry_read, free_places, is_among}
use Rattle.index_entry.specs.Index.{entry_bytes, head_in, index_bytes, index_read}
use Rattle.index_entry.specs.declared.entry.Entry.{Entry}
use Rattle.index_entry.specs.declared.index.IndexHead.{IndexHead}
use Rattle.index_entry.proofs.HeaderLemmas.{header-is, header-long, header-read}
use Rattle.index_entry.proofs.KeptLemmas.{written_is_cleared}
use Rattle.name_base.specs.NameLists.{AreSound, NameLists}
use Rattle.name_base.specs.Reading.{names_at}
use Rattle.name_base.specs.NamesText.{IsNamesText}
use Rattle.name_base.proofs.AgainLemmas.{text_again}
use Rattle.name_base.proofs.FileLemmas.{names_again}
use Rattle.base_core.specs.declared.fault.BaseFault.{BaseFault}
use Rattle.base_core.specs.Base.{Base, Held}
use Rattle.base_core.specs.Entries.{HasNames, sig_in}
use Rattle.base_core.specs.FirstFault.{FirstFault, Passes, entry_checked, id_fault, place_fault}
use Rattle.base_core.specs.Means.{AreGames, Carries, HoldsNames, Means}
use Rattle.base_core.specs.Opening.{is_created}
use Rattle.base_core.specs.Packing.{packed_at}
use Rattle.base_core.specs.Represents.{IsKept, IsSound, Keeps, Kept, Represents}
use Rattle.base_core.specs.Saved.{AreWhole, IsClear, IsIndexOf, MeansIt, OpensAgain, StillCarries, Writes}
use Rattle.base_core.specs.Uses.{frequencies_of, player_uses, uses_of}
use Rattle.base_core.proofs.GamesLaws.{at-all}
use Rattle.base_core.proofs.Lists.{get_some}
use Rattle.base_core.proofs.OneFault.{none_fails}
use Rattle.base_core.proofs.OpenLaws.{opened_meant, whole_is}
use Rattle.base_core.proofs.SigLaws.{own-sig}
use Rattle.base_core.proofs.UseLaws.{are-frequencies}

-- ---- the entries of an index stand behind its header.

head-parts : (bytes : List ℕ) (h : IndexHead) → index_read bytes ≡ Ok h → (length h.description ≡ 108) × (length h.custom ≡ 54)
unfolding head_in
head-parts bytes h is =
    let read = header-read bytes h is in
    let long : 182 ≤ length bytes = header-long bytes h read in
    let head : head_in bytes ≡ h = header-is bytes h read in (
      sym (ap (λ (x : IndexHead). length x.description) head) ∙ length-take-le 108 (drop 20 bytes) (omega (arith, long, length-drop 20 bytes)),
      sym (ap (λ (x : IndexHead). length x.custom) head) ∙ length-take-le 54 (drop 128 bytes) (omega (arith, long, length-drop 128 bytes)),
    )

behind : (h : IndexHead) (entries : List ℕ) → length h.description ≡ 108 → length h.custom ≡ 54 → drop 182 (index_bytes h entries) ≡ entries
unfolding index_bytes
behind h entries description custom =
    ap (λ (b : List ℕ). drop 162 b) (sym (append_assoc h.description h.custom entries))
    ∙ drop_at (h.description ++ h.custom) entries 162 (length-append h.description h.custom ∙ omega (arith, description, custom))

drop-more : (a n : ℕ) (xs : List ℕ) → a ≤ length xs → drop (a + n) xs ≡ drop n (drop a xs)
drop-more a n xs within =
    let front : length (take a xs) ≡ a = length-take-le a xs within in
    let D : ℕ → Type 0 = λ k. drop (k + n) (take a xs ++ drop a xs) ≡ drop n (drop a xs) in
    ap (λ (l : List ℕ). drop (a + n) l) (sym (take-append-drop a xs)) ∙ subst D front (drop-append-add (take a xs) (drop a xs) n)

entry-at : (h : IndexHead) (entries : List ℕ) (i : ℕ) → index_read (index_bytes h entries) ≡ Ok h → entry_bytes (index_bytes h entries) i ≡ packed_at entries i
entry-at h entries i is =
    let parts = head-parts (index_bytes h entries) h is in
    ap (λ (b : List ℕ). take 47 b) (drop-more 182 (47 * i) (index_bytes h entries) (header-long (index_bytes h entries) h (header-read (index_bytes h entries) h is)) ∙ ap (λ (b : List ℕ). drop (47 * i) b) (behind h entries parts.0 parts.1))

-- The bytes of an entry in the index of what is kept.
written-at : (kept : Kept) (index : List ℕ) (i : ℕ) (e : Entry) → IsIndexOf kept index → index_read index ≡ Ok kept.header → slice_get kept.entries i ≡ Some e → entry_read (entry_bytes index i) ≡ Ok e
written-at kept index i e is read at =
    let text : entry_bytes index i ≡ packed_at is.entries i =
    ap (λ (b : List ℕ). entry_bytes b i) is.text ∙ entry-at kept.header is.entries i (sym (ap index_read is.text) ∙ read)
    in
    ap entry_read text ∙ (is.written.each i e at).says

-- ---- what is written means the base.

-- The names file of what is kept.
pub names-written : (kept : Kept) (names : List ℕ) → AreSound kept.names → IsNamesText kept.names (frequencies_of kept.names kept.entries) names → names_at names ≡ Ok kept.names
names-written kept names sound is =
    names_again names kept.names (text_again kept.names (frequencies_of kept.names kept.entries) names sound
    (are-frequencies kept.names.players (player_uses kept.entries))
    (are-frequencies kept.names.events (uses_of (λ e. e.event) kept.entries))
    (are-frequencies kept.names.sites (uses_of (λ e. e.site) kept.entries))
    (are-frequencies kept.names.rounds (uses_of (λ e. e.round) kept.entries)) is)

-- The game at a place, and its entry.
record At (kept : Kept) (games : List ℕ) (i : ℕ) (held : Held) : Type 0 where
  e : Entry
  at : slice_get kept.entries i ≡ Some e
  keeps : Keeps kept.names games e held
  is : IsKept kept.names kept.end e

game-at : (kept : Kept) (games : List ℕ) (base : Base) (i : ℕ) (held : Held) → IsSound kept → Represents kept games base → slice_get base.games i ≡ Some held → At kept games i held
game-at kept games base i held sound is at =
    let e = get_some kept.entries i (subst (λ n. i < n) (sym is.count) (slice_get_within base.games i held at)) in
    record { e = e.0; at = e.1; keeps = is.each i e.0 held e.1 at; is = at-all (IsKept kept.names kept.end) kept.entries i e.0 sound.entries e.1 }

-- Its ids have names.
no-id-fault : (names : NameLists) (e : Entry) → HasNames names e → id_fault names e ≡ None
unfolding id_fault
no-id-fault names e has =
    rw (
      lt-leb (length names.players) e.white has.white,
      lt-leb (length names.players) e.black has.black,
      lt-leb (length names.events) e.event has.event,
      lt-leb (length names.sites) e.site has.site,
      lt-leb (length names.rounds) e.round has.round,
    ) refl

written-games : (kept : Kept) (index games : List ℕ) (base : Base) → IsSound kept → IsIndexOf kept index → index_read index ≡ Ok kept.header → Represents kept games base → AreGames index kept.names games base.header.games base.games
written-games kept index games base sound written read is = record {
  long = sym is.count ∙ (sound.count ∙ ap (λ (h : IndexHead). h.games) is.header);
  each = λ i held at.
      let g = game-at kept games base i held sound is at in
      record { fields = g.e; read = written-at kept index i g.e written read g.at; named = no-id-fault kept.names g.e g.is.named; says = g.keeps.says };
}

pub written-means : (kept : Kept) (index names games : List ℕ) (base : Base) → IsSound kept → Writes kept index names → index_read index ≡ Ok kept.header → kept.end ≡ length games → Represents kept games base →
    Means index names games base
written-means kept index names games base sound writes read end is =
    let N : NameLists → Type 0 = λ n. names_at names ≡ Ok n in
    let G : NameLists → Type 0 = λ n. AreGames index n games base.header.games base.games in
    record {
      header = read ∙ ap (λ (h : IndexHead). Ok h) is.header;
      lists = subst N is.names (names-written kept names sound.names writes.uses);
      end = sym is.end ∙ end;
      held = subst G is.names (written-games kept index games base sound writes.entries read is);
    }

-- ---- and has no fault.

checks : (names : NameLists) (end game : ℕ) (bytes : List ℕ) (e : Entry) → entry_read bytes ≡ Ok e → id_fault names e ≡ None → place_fault end e ≡ None → entry_checked names end game bytes ≡ Ok e
unfolding entry_checked
checks names end game bytes e read named placed = rw (read, named, placed) refl

passes : (strict : Bool) (kept : Kept) (index games : List ℕ) (i : ℕ) (held : Held) → IsIndexOf kept index → index_read index ≡ Ok kept.header → kept.end ≡ length games → At kept games i held →
    Passes strict kept.names games i (entry_bytes index i)
passes strict kept index games i held written read end g =
    let P : ℕ → Type 0 = λ n. place_fault n g.e ≡ None in
    record {
      fields = g.e;
      checked = checks kept.names (length games) i (entry_bytes index i) g.e (written-at kept index i g.e written read g.at) (no-id-fault kept.names g.e g.is.named) (subst P end g.is.placed);
      sig = sig_in g.e;
      signs = record { tags = g.keeps.says.tags; tree = held.game; read = g.keeps.says.read; signed = g.keeps.signed };
      derived = λ strictly. own-sig g.e;
    }

faultless : (kept : Kept) (index names games : List ℕ) (base : Base) (strict : Bool) (fault : BaseFault) → IsSound kept → Writes kept index names → index_read index ≡ Ok kept.header → kept.end ≡ length games →
    Represents kept games base → FirstFault strict index names games fault → ⊥
faultless kept index names games base strict fault sound writes read end is =
    none_fails strict index names games (record { header = kept.header; names = kept.names }) fault
    (whole_is index names kept.header kept.names read (names-written kept names sound.names writes.uses))
    (λ i below.
    let held = get_some base.games i (subst (λ n. i < n) (sym sound.count ∙ is.count) below) in
    passes strict kept index games i held.0 writes.entries read end (game-at kept games base i held.0 sound is held.1))

-- ---- with zeros in all places that say nothing.

least : (free : Bool) (own other : ℕ) → own ≡ (if free then 0 else other) → own ≤ other
least true own other is = omega (arith, is)
least false own other is = omega (arith, is)

clear-so : (bytes : List ℕ) (e : Entry) → IsWritten bytes e → IsClear bytes
clear-so bytes e written = λ others same place within.
    least (is_among place (free_places others)) (bit_in bytes place) (bit_in others place) (written_is_cleared others bytes e (same ∙ written.says) written place within)

written-whole : (kept : Kept) (index names games : List ℕ) (base : Base) → IsSound kept → Writes kept index names → index_read index ≡ Ok kept.header → kept.end ≡ length games → Represents kept games base →
    AreWhole index names games base
written-whole kept index names games base sound writes read end is =
    let text = writes.entries in
    let parts = head-parts index kept.header read in
    let rest : drop 182 index ≡ text.entries = ap (λ (b : List ℕ). drop 182 b) text.text ∙ behind kept.header text.entries parts.0 parts.1 in
    let count : length (drop 182 index) ≡ length text.entries = ap (λ (b : List ℕ). length b) rest in
    let long : 182 ≤ length index = header-long index kept.header (header-read index kept.header read) in
    record {
      faultless = λ strict fault. faultless kept index names games base strict fault sound writes read end is;
      size = omega (arith, long, length-drop 182 index, count, text.written.size, is.count);
      clear = λ game below.
          let e = get_some kept.entries game (subst (λ n. game < n) (sym is.count) below) in
          let at : entry_bytes index game ≡ packed_at text.entries game =
          ap (λ (b : List ℕ). entry_bytes b game) text.text ∙ entry-at kept.header text.entries game (sym (ap index_read text.text) ∙ read) in
          subst IsClear (sym at) (clear-so (packed_at text.entries game) e.0 (text.written.each game e.0 e.1));
    }

not_created : (create : Bool) (index names games : List ℕ) → 182 ≤ length index → is_created create index names games ≡ false
not_created false index names games long = refl
not_created true index names games long = rw (ne_eqb (length index) 0 (λ none. absurd (omega (arith, none, long)))) refl

pub written-again : (kept : Kept) (index names games : List ℕ) (base : Base) → IsSound kept → Writes kept index names → index_read index ≡ Ok kept.header → kept.end ≡ length games → Represents kept games base →
    OpensAgain index names games base
written-again kept index names games base sound writes read end is =
    let means = written-means kept index names games base sound writes read end is in
    record {
      means = means;
      whole = written-whole kept index names games base sound writes read end is;
      opened = λ create strict again mended opens. opened_meant create strict index names games again mended base (not_created create index names games (header-long index kept.header (header-read index kept.header read))) opens means;
    }

-- ---- where the files may be told.

by-options : (i n g : Option (List ℕ)) (index names : List ℕ) (kept : Kept) → IsSound kept → Writes kept index names → index_read index ≡ Ok kept.header → TellsLength g kept.end →
    IfSome (told_instead index i) (λ x. IfSome (told_instead names n) (λ y. IfSome g (λ z. (base : Base) → Represents (record kept { unsaved = false }) z base → OpensAgain x y z base)))
by-options None n g index names kept sound writes read end = tt
by-options (Some i) None g index names kept sound writes read end = tt
by-options (Some i) (Some n) None index names kept sound writes read end = tt
by-options (Some i) (Some n) (Some games) index names kept sound writes read end = λ base is.
    written-again kept index names games base sound writes read end (record { header = is.header; names = is.names; end = is.end; count = is.count; each = is.each })

pub saved-means : (kept : Kept) (old : Seen) (index names : List ℕ) → IsSound kept → Writes kept index names → index_read index ≡ Ok kept.header → TellsLength old.games kept.end →
    MeansIt (record kept { unsaved = false }) (replaced part.Index index (replaced part.Names names old))
saved-means kept old index names sound writes read end = by-options old.index old.names old.games index names kept sound writes read end

-- ---- after a fault between the two parts.

-- Names behind names: each keeps its id.
abbrev IsMore : List (List ℕ) → List (List ℕ) → Type 0
IsMore all names = (more : List (List ℕ)) × (all ≡ names ++ more)

more-more : (all names first : List (List ℕ)) → IsMore all names → IsMore names first → IsMore all first
more-more all names first one two = (two.0 ++ one.0, one.1 ∙ (ap (λ (n : List (List ℕ)). n ++ one.0) two.1 ∙ append_assoc first two.0 one.0))

pub holds-more : (all names first : NameLists) → HoldsNames all names → HoldsNames names first → HoldsNames all first
holds-more all names first one two = record {
  players = more-more all.players names.players first.players one.players two.players;
  events = more-more all.events names.events first.events one.events two.events;
  sites = more-more all.sites names.sites first.sites one.sites two.sites;
  rounds = more-more all.rounds names.rounds first.rounds one.rounds two.rounds;
}

carries-on : (kept : Kept) (index old names games : List ℕ) (base : Base) → AreSound kept.names → IsNamesText kept.names (frequencies_of kept.names kept.entries) names → (carried : Carries index old games base) →
    HoldsNames kept.names carried.all_names → Carries index names games base
carries-on kept index old names games base sound written carried holds = record {
  header = carried.header;
  all_names = kept.names;
  lists = names-written kept names sound written;
  more_names = holds-more kept.names carried.all_names base.names holds carried.more_names;
  end = carried.end;
  held = carried.held;
}

carries-told : (i n g : Option (List ℕ)) (names : List ℕ) (kept : Kept) → AreSound kept.names → IsNamesText kept.names (frequencies_of kept.names kept.entries) names →
    IfSome i (λ x. IfSome n (λ y. IfSome g (λ z. IfSome i (λ a. IfSome (told_instead names n) (λ b. IfSome g (λ c. (base : Base) (carried : Carries x y z base) → HoldsNames kept.names carried.all_names → Carries a b c base))))))
carries-told None n g names kept sound written = tt
carries-told (Some i) None g names kept sound written = tt
carries-told (Some i) (Some n) None names kept sound written = tt
carries-told (Some i) (Some n) (Some g) names kept sound written = λ base carried holds. carries-on kept i n names g base sound written carried holds

pub still-carries : (kept : Kept) (old : Seen) (names : List ℕ) → AreSound kept.names → IsNamesText kept.names (frequencies_of kept.names kept.entries) names → StillCarries kept old (replaced part.Names names old)
still-carries kept old names sound written = carries-told old.index old.names old.games names kept sound written

pub on_err : {A E : Type 0} (r : Result A E) (P : Type 0) → P → OnErr r P
on_err (Ok x) P is = tt
on_err (Err e) P is = is
