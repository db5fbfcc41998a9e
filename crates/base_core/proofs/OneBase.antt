-- Three files mean one base, and what is kept of a base stands for one.
use Rattle.std.proofs.Common.{◌≡◌, ◌<◌, ℕ, List, length, sym, ap, ◌∙◌, subst}
use Rattle.std.proofs.lemmas.Option.{slice_get_within}
use Rattle.base_files.specs.Extents.{record_in}
use Rattle.game_tree.specs.Game.{GameTree}
use Rattle.game_tree.specs.Settle.{settled}
use Rattle.game_tree.specs.declared.head.Head.{Head}
use Rattle.game_tree.specs.declared.head.Tag.{Tag}
use Rattle.game_codec.proofs.RecordAnswerLaws.{record-one}
use Rattle.index_entry.specs.Index.{entry_bytes}
use Rattle.index_entry.specs.declared.entry.Entry.{Entry}
use Rattle.index_entry.specs.declared.index.IndexHead.{IndexHead}
use Rattle.name_base.specs.NameLists.{NameLists}
use Rattle.base_core.specs.Base.{Base, Held}
use Rattle.base_core.specs.Entries.{Says, extent_of, head_of}
use Rattle.base_core.specs.Means.{AreGames, IsEntryOf, Means}
use Rattle.base_core.specs.Represents.{Kept, Represents}
use Rattle.base_core.proofs.Lists.{get_some, same_lists}
use Rattle.base_core.proofs.Results.{same_ok}

-- An entry says one game.
pub says-one : (names : NameLists) (games : List ℕ) (e : Entry) (held other : Held) → Says names games e held → Says names games e other → held ≡ other
says-one names games e held other x y =
    let one = record-one (record_in games (extent_of e)) x.tags y.tags held.game other.game x.read y.read in
    let head : held.head ≡ other.head = x.head ∙ (ap (λ (tags : List Tag). settled (head_of names e tags)) one.0 ∙ sym y.head) in
    let first : held ≡ record held { head = other.head } = ap (λ (h : Head). record held { head = h }) head in
    let second : record held { head = other.head } ≡ record other { len = held.len } = ap (λ (g : GameTree). record other { game = g; len = held.len }) one.1 in
    let third : record other { len = held.len } ≡ other = ap (λ (n : ℕ). record other { len = n }) (x.len ∙ sym y.len) in
    first ∙ (second ∙ third)

entry-one : (names : NameLists) (games bytes : List ℕ) (held other : Held) → IsEntryOf names games bytes held → IsEntryOf names games bytes other → held ≡ other
entry-one names games bytes held other x y =
    let fields : x.fields ≡ y.fields = same_ok _ x.fields y.fields x.read y.read in
    let S : Entry → Type 0 = λ e. Says names games e held in
    says-one names games y.fields held other (subst S fields x.says) y.says

games-one : (index : List ℕ) (names : NameLists) (games : List ℕ) (count : ℕ) (all others : List Held) → AreGames index names games count all → AreGames index names games count others → all ≡ others
games-one index names games count all others x y =
    same_lists all others (x.long ∙ sym y.long) (λ i held other at_held at_other. entry-one names games (entry_bytes index i) held other (x.each i held at_held) (y.each i other at_other))

base-by : (a b : Base) → a.header ≡ b.header → a.names ≡ b.names → a.games ≡ b.games → a.end ≡ b.end → a ≡ b
base-by a b header names games end =
    let one : a ≡ record a { header = b.header } = ap (λ (h : IndexHead). record a { header = h }) header in
    let two : record a { header = b.header } ≡ record a { header = b.header; names = b.names } = ap (λ (n : NameLists). record a { header = b.header; names = n }) names in
    let three : record a { header = b.header; names = b.names } ≡ record b { end = a.end } = ap (λ (g : List Held). record b { games = g; end = a.end }) games in
    let four : record b { end = a.end } ≡ b = ap (λ (n : ℕ). record b { end = n }) end in
    one ∙ (two ∙ (three ∙ four))

-- Three files mean one base.
pub means-one : (index names games : List ℕ) (a b : Base) → Means index names games a → Means index names games b → a ≡ b
means-one index names games a b x y =
    let header : a.header ≡ b.header = same_ok _ a.header b.header x.header y.header in
    let lists : a.names ≡ b.names = same_ok _ a.names b.names x.lists y.lists in
    let N : NameLists → Type 0 = λ n. AreGames index n games a.header.games a.games in
    let H : IndexHead → Type 0 = λ h. AreGames index b.names games h.games a.games in
    let all : a.games ≡ b.games = games-one index b.names games b.header.games a.games b.games (subst H header (subst N lists x.held)) y.held in
    base-by a b header lists all (x.end ∙ sym y.end)

-- What is kept stands for one base.
pub represents-one : (kept : Kept) (games : List ℕ) (a b : Base) → Represents kept games a → Represents kept games b → a ≡ b
represents-one kept games a b x y =
    let long : length a.games ≡ length b.games = sym x.count ∙ y.count in
    let all : a.games ≡ b.games =
    same_lists a.games b.games long
    (λ i held other at_held at_other.
    let e = get_some kept.entries i (subst (λ n. i < n) (sym x.count) (slice_get_within a.games i held at_held)) in
    says-one kept.names games e.0 held other (x.each i e.0 held e.1 at_held).says (y.each i e.0 other e.1 at_other).says)
    in
    base-by a b (sym x.header ∙ y.header) (sym x.names ∙ y.names) all (sym x.end ∙ y.end)
