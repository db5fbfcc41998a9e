-- What the files carry as the games file grows.
use Rattle.std.proofs.Common.{◌≡◌, ◌≤◌, ◌+◌, ℕ, List, [], ◌++◌, length, take, drop, Ok, sym, ap, ◌∙◌, subst, arith}
use Rattle.std.proofs.lemmas.List.{append-nil, drop-append-le, length-append, length-drop, take-append-le}
use Rattle.base_files.specs.Extents.{record_in}
use Rattle.base_files.specs.declared.extent.Extent.{Extent}
use Rattle.game_codec.specs.Record.{IsRecord}
use Rattle.index_entry.specs.declared.entry.Entry.{Entry}
use Rattle.name_base.specs.NameLists.{NameLists}
use Rattle.base_core.specs.Base.{Base, Held}
use Rattle.base_core.specs.Entries.{Says, extent_of}
use Rattle.base_core.specs.Means.{AreGames, Carries, HoldsNames, Means}

-- A record stays where it is as bytes are added behind the games file.
pub record-stays : (games more : List ℕ) (x : Extent) → x.offset + x.len ≤ length games → record_in (games ++ more) x ≡ record_in games x
record-stays games more x within =
    let at : x.offset ≤ length games = omega (arith, within) in
    let long : x.len ≤ length (drop x.offset games) = omega (arith, within, length-drop x.offset games) in
    ap (λ (b : List ℕ). take x.len b) (drop-append-le x.offset games more at) ∙ take-append-le x.len (drop x.offset games) more long

pub says-stays : (names : NameLists) (games more : List ℕ) (e : Entry) (held : Held) → Says names games e held → Says names (games ++ more) e held
says-stays names games more e held is =
    let R : List ℕ → Type 0 = λ b. IsRecord b is.tags held.game in
    record {
      tags = is.tags;
      within = omega (arith, is.within, length-append games more);
      read = subst R (sym (record-stays games more (extent_of e) is.within)) is.read;
      head = is.head;
      len = is.len;
    }

games-stay : (index : List ℕ) (names : NameLists) (games more : List ℕ) (count : ℕ) (all : List Held) → AreGames index names games count all → AreGames index names (games ++ more) count all
games-stay index names games more count all are = record {
  long = are.long;
  each = λ i held at.
      let is = are.each i held at in
      record { fields = is.fields; read = is.read; named = is.named; says = says-stays names games more is.fields held is.says };
}

pub carries-longer : (index names games more : List ℕ) (base : Base) → Carries index names games base → Carries index names (games ++ more) base
carries-longer index names games more base is = record {
  header = is.header;
  all_names = is.all_names;
  lists = is.lists;
  more_names = is.more_names;
  end = omega (arith, is.end, length-append games more);
  held = games-stay index base.names games more base.header.games base.games is.held;
}

pub holds-own : (names : NameLists) → HoldsNames names names
holds-own names = record {
  players = ([], sym (append-nil names.players));
  events = ([], sym (append-nil names.events));
  sites = ([], sym (append-nil names.sites));
  rounds = ([], sym (append-nil names.rounds));
}

pub means-carries : (index names games : List ℕ) (base : Base) → Means index names games base → Carries index names games base
means-carries index names games base is = record {
  header = is.header;
  all_names = base.names;
  lists = is.lists;
  more_names = holds-own base.names;
  end = omega (arith, is.end);
  held = is.held;
}
