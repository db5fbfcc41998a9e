-- The first games of a base in a draft: what it stands for, and one game more.
use Rattle.std.proofs.Common.{◌≡◌, ◌≤◌, ◌<◌, ◌+◌, ℕ, true, false, not, List, [], ◌∷◌, ◌++◌, length, map, filter, take, slice_get, Some, Result, Err, refl, sym, ap, ◌∙◌, subst, arith}
use Rattle.std.proofs.lemmas.List.{length_push, length-take-le, take_all}
use Rattle.std.proofs.lemmas.Option.{none-some, slice_get_within}
use Rattle.base_files.specs.Extents.{record_in}
use Rattle.block_store.specs.Placing.{end_after, longest_file, padded}
use Rattle.game_tree.specs.declared.head.Head.{Head}
use Rattle.game_tree.specs.declared.head.Tag.{Tag}
use Rattle.index_entry.specs.declared.entry.Entry.{Entry}
use Rattle.index_entry.specs.declared.index.IndexHead.{IndexHead}
use Rattle.name_base.specs.NameLists.{NameLists}
use Rattle.sig_index.specs.Games.{head_in}
use Rattle.base_core.specs.Base.{Base, Held}
use Rattle.base_core.specs.Compacted.{compacted, end_of, only, stays}
use Rattle.base_core.specs.Drafts.{AreNamesOf, Grows, TakesOver, emptied, length_at, length_in}
use Rattle.base_core.specs.Edits.{with_game}
use Rattle.base_core.specs.Entries.{extent_of, head_of}
use Rattle.base_core.specs.Represents.{Kept, Keeps, Represents, heads_of}
use Rattle.base_core.proofs.GamesLaws.{head-at}
use Rattle.base_core.proofs.KeptLaws.{settled-rest}
use Rattle.base_core.proofs.Lists.{get_some}
use Rattle.base_core.proofs.OnlyLaws.{only-more, placed-long}
use Rattle.compact_base.specs.declared.fault.CompactError.{CompactError}
use Rattle.compact_base.specs.declared.fault.CompactError.TheVariants as error
use Rattle.compact_base.specs.Compacting.{new_end, new_games, records_from, staying}
use Rattle.base_core.specs.declared.fault.DraftError.{DraftError}
use Rattle.base_core.specs.declared.fault.DraftError.TheVariants as refused
use Rattle.compact_base.specs.Drafting.{HasFirst, StandsForFirst, WhyNotDrafted}
use Rattle.compact_base.specs.Errors.{draft_error}
use Rattle.compact_base.proofs.ListLaws.{filter-goes, filter-stays, filter-short, new-end-stays, new-end-within, new-games-stays, staying-goes, staying-stays}

-- ---- whether a game stays.

entry_deleted : (names : NameLists) (e : Entry) (tags : List Tag) → (head_of names e tags).deleted ≡ e.deleted
unfolding head_of
entry_deleted names e tags = refl

-- What is read of a game.
pub deleted-at : (kept : Kept) (i : ℕ) (e : Entry) → slice_get kept.entries i ≡ Some e → (head_in (heads_of kept) i).deleted ≡ e.deleted
deleted-at kept i e at = ap (λ (h : Head). h.deleted) (head-at kept i e at) ∙ entry_deleted kept.names e []

-- The game of an entry is deleted where the entry is.
pub held-deleted : (names : NameLists) (games : List ℕ) (e : Entry) (held : Held) → Keeps names games e held → held.head.deleted ≡ e.deleted
held-deleted names games e held is =
    ap (λ (h : Head). h.deleted) is.says.head ∙ (ap (λ (h : Head). h.deleted) (settled-rest (head_of names e is.says.tags)) ∙ entry_deleted names e is.says.tags)

-- ---- no games.

none-stand : (kept : Kept) → StandsForFirst 0 kept (emptied kept)
unfolding only
none-stand kept = λ games whole is. (
  refl,
  record {
    header = ap (λ (h : IndexHead). record h { games = 0 }) is.header;
    names = refl;
    end = refl;
    count = refl;
    each = λ i e held at_e at_held. absurd (none-some e at_e);
  },
)

pub has-none : (kept : Kept) → HasFirst 0 kept (emptied kept)
has-none kept = record {
  count = refl;
  end = refl;
  room = omega arith;
  saved = refl;
  names = record { players = tt; events = tt; sites = tt; rounds = tt };
  stands = none-stand kept;
}

-- ---- a game that goes.

stand-goes : (i : ℕ) (kept draft : Kept) (e : Entry) → slice_get kept.entries i ≡ Some e → e.deleted ≡ true → StandsForFirst i kept draft → StandsForFirst (i + 1) kept draft
stand-goes i kept draft e at goes stands = λ games whole is.
    let before = stands games whole is in
    let held = get_some whole.games i (subst (λ (n : ℕ). i < n) is.count (slice_get_within kept.entries i e at)) in
    let gone : stays held.0 ≡ false = ap not (held-deleted kept.names games e held.0 (is.each i e held.0 at held.1) ∙ goes) in
    let entries = staying-goes kept.entries i e at goes in
    let games_left = filter-goes stays whole.games i held.0 held.1 gone in
    let L : List Entry → List Held → Type 0 = λ es hs. Represents draft (records_from games 0 es) (only hs whole) in
    let N : List Entry → Type 0 = λ es. length (records_from games 0 es) ≡ draft.end in (
      subst N (sym entries) before.0,
      subst (λ (es : List Entry). L es (filter stays (take (i + 1) whole.games))) (sym entries) (subst (λ (hs : List Held). L (staying (take i kept.entries)) hs) (sym games_left) before.1),
    )

pub has-gone : (i : ℕ) (kept draft : Kept) (e : Entry) → slice_get kept.entries i ≡ Some e → e.deleted ≡ true → HasFirst i kept draft → HasFirst (i + 1) kept draft
has-gone i kept draft e at goes has =
    let same = staying-goes kept.entries i e at goes in
    let C : List Entry → Type 0 = λ es. length draft.entries ≡ length es in
    let E : List Entry → Type 0 = λ es. draft.end ≡ end_of 0 (map (λ x. x.len) es) in
    record {
      count = subst C (sym same) has.count;
      end = subst E (sym same) has.end;
      room = has.room;
      saved = has.saved;
      names = has.names;
      stands = stand-goes i kept draft e at goes has.stands;
    }

-- ---- a game that stays.

len_here : (i : ℕ) (kept : Kept) (e : Entry) → slice_get kept.entries i ≡ Some e → length_at i kept ≡ e.len
len_here i kept e at = ap length_in at

stand-stays : (i : ℕ) (kept old new : Kept) (e : Entry) → slice_get kept.entries i ≡ Some e → e.deleted ≡ false → old.end ≡ new_end (take i kept.entries) → new.end ≡ end_after old.end e.len →
    TakesOver i kept old new → StandsForFirst i kept old → StandsForFirst (i + 1) kept new
stand-stays i kept old new e at stay end after takes stands = λ games whole is.
    let before = stands games whole is in
    let held = get_some whole.games i (subst (λ (n : ℕ). i < n) is.count (slice_get_within kept.entries i e at)) in
    let keeps : Keeps kept.names games e held.0 = is.each i e held.0 at held.1 in
    let here : stays held.0 ≡ true = ap not (held-deleted kept.names games e held.0 keeps ∙ stay) in
    let fresh = new_games (take i kept.entries) games in
    let made = only (filter stays (take i whole.games)) whole in
    let done : Represents new (fresh ++ padded old.end (record_in games (extent_of e))) (with_game held.0 made) = takes e held.0 games fresh whole made at held.1 is before.0 before.1 in
    let file : new_games (take (i + 1) kept.entries) games ≡ fresh ++ padded old.end (record_in games (extent_of e)) =
    new-games-stays games kept.entries i e at stay ∙ ap (λ (n : ℕ). fresh ++ padded n (record_in games (extent_of e))) (sym end) in
    let base : with_game held.0 made ≡ only (filter stays (take (i + 1) whole.games)) whole =
    only-more (filter stays (take i whole.games)) held.0 whole ∙ ap (λ (hs : List Held). only hs whole) (sym (filter-stays stays whole.games i held.0 held.1 here)) in
    let F : List ℕ → Type 0 = λ b. Represents new b (only (filter stays (take (i + 1) whole.games)) whole) in
    let B : Base → Type 0 = λ b. Represents new (fresh ++ padded old.end (record_in games (extent_of e))) b in (
      ap (λ (b : List ℕ). length b) file ∙ (placed-long games fresh old.end e before.0 keeps.says.within ∙ sym after),
      subst F (sym file) (subst B base done),
    )

pub has-stayed : (i : ℕ) (kept old new : Kept) (e : Entry) → slice_get kept.entries i ≡ Some e → e.deleted ≡ false → Grows (length_at i kept) old new → TakesOver i kept old new → AreNamesOf new.names kept.names →
    HasFirst i kept old → HasFirst (i + 1) kept new
has-stayed i kept old new e at stay grows takes names has =
    let after : new.end ≡ end_after old.end e.len = grows.end ∙ ap (λ (n : ℕ). end_after old.end n) (len_here i kept e at) in
    let C : List Entry → Type 0 = λ es. length new.entries ≡ length es in
    let count : length new.entries ≡ length (staying (take i kept.entries) ++ e ∷ []) = grows.count ∙ (ap (λ (n : ℕ). n + 1) has.count ∙ sym (length_push (staying (take i kept.entries)) e)) in
    record {
      count = subst C (sym (staying-stays kept.entries i e at stay)) count;
      end = after ∙ (ap (λ (n : ℕ). end_after n e.len) has.end ∙ sym (new-end-stays kept.entries i e at stay));
      room = grows.room;
      saved = grows.unsaved ∙ has.saved;
      names = names;
      stands = stand-stays i kept old new e at stay has.end after takes has.stands;
    }

-- It is not taken over where the new games file would pass its limit.
pub full-there : (i : ℕ) (kept old : Kept) (e : Entry) → slice_get kept.entries i ≡ Some e → e.deleted ≡ false → HasFirst i kept old → longest_file < end_after old.end (length_at i kept) →
    longest_file < new_end (take (i + 1) kept.entries)
full-there i kept old e at stay has over =
    let E : ℕ → Type 0 = λ n. longest_file < n in
    subst E (ap (λ (n : ℕ). end_after old.end n) (len_here i kept e at) ∙ (ap (λ (n : ℕ). end_after n e.len) has.end ∙ sym (new-end-stays kept.entries i e at stay))) over

-- There are no more games in the draft than there were in the base so far.
pub few-taken : (i : ℕ) (kept draft : Kept) → i ≤ length kept.entries → HasFirst i kept draft → length draft.entries ≤ i
few-taken i kept draft within has =
    let short = filter-short (λ (e : Entry). not e.deleted) (take i kept.entries) in
    let first : length (take i kept.entries) ≡ i = length-take-le i kept.entries within in
    omega (arith, has.count, short, first)

-- Why a game is not taken over.
pub why-not-taken : (r : Result ℕ DraftError) (e : DraftError) (result : CompactError) (end : ℕ) → r ≡ Err e → result ≡ draft_error e → (r ≡ Err refused.Full → longest_file < end) → WhyNotDrafted end result
why-not-taken r refused.Full result end is same over = subst (λ (x : CompactError). WhyNotDrafted end x) (sym same) (over is)
why-not-taken r refused.Memory result end is same over = subst (λ (x : CompactError). WhyNotDrafted end x) (sym same) tt

-- Where the first of the games pass the limit, all do.
pub not-drafted : (entries : List Entry) (i : ℕ) (e : CompactError) → WhyNotDrafted (new_end (take i entries)) e → WhyNotDrafted (new_end entries) e
not-drafted entries i error.Full why = omega (arith, why, new-end-within entries i)
not-drafted entries i error.Memory why = why
not-drafted entries i error.Failed why = absurd why
not-drafted entries i (error.Changed game sig found) why = absurd why

-- ---- all games.

pub all-taken : {X : Type 0} (xs : List X) → take (length xs) xs ≡ xs
all-taken xs = take_all (length xs) xs (omega arith)

-- The draft of all games stands for the base after a compaction.
pub all-stand : (kept draft : Kept) (games : List ℕ) (base : Base) → HasFirst (length kept.entries) kept draft → Represents kept games base → Represents draft (new_games kept.entries games) (compacted base)
unfolding compacted
all-stand kept draft games base has is =
    let done = has.stands games base is in
    let held : take (length kept.entries) base.games ≡ base.games = ap (λ (n : ℕ). take n base.games) is.count ∙ all-taken base.games in
    let E : List Entry → Type 0 = λ es. Represents draft (new_games es games) (only (filter stays base.games) base) in
    let H : List Held → Type 0 = λ hs. Represents draft (new_games (take (length kept.entries) kept.entries) games) (only (filter stays hs) base) in
    subst E (all-taken kept.entries) (subst H held done.1)
