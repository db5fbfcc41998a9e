-- Laws of the hits of a game whose head has become another.
use Rattle.std.proofs.Common.{◌≡◌, ℕ, zero, suc, ◌+◌, ◌<◌, ◌≤◌, true, false, nat_lt, List, [], ◌∷◌, length, map, Option, Some, None, option_map, slice_get, refl, sym, subst, ap, ap₂, ◌∙◌, arith}
use Rattle.std.proofs.lemmas.Bool.{lt-ltb}
use Rattle.std.proofs.lemmas.List.{length-map}
use Rattle.std.proofs.lemmas.Option.{get_or_from_slice_get, same_Some, slice_get-map}
use Rattle.std.specs.Prelude.{IfSome, if◌then◌else◌, option_and_then}
use Rattle.base_core.proofs.GamesLaws.{heads-are}
use Rattle.base_core.proofs.MarkLaws.{changed-same}
use Rattle.base_core.specs.Base.{Base, Held}
use Rattle.base_core.specs.Edits.{game_replaced, held_of, tagged, tagged_at}
use Rattle.base_core.specs.Represents.{IsSound, Kept, Represents, heads_of}
use Rattle.cell_core.specs.Packed.{Packed}
use Rattle.cell_core.specs.declared.man.Colour.{Colour}
use Rattle.cell_core.specs.declared.step.Move.{Move}
use Rattle.game_tree.specs.Head.{without_tags}
use Rattle.game_tree.specs.TagEdit.{edited}
use Rattle.game_tree.specs.declared.head.Head.{Head}
use Rattle.game_tree.specs.declared.tag_edit.TagEdit.{TagEdit}
use Rattle.pos_search.specs.Matching as position
use Rattle.sig_index.specs.Games.{head_in}
use Rattle.sig_index.specs.declared.pos_query.PosQuery.{PosQuery}
use Rattle.tree_live.specs.Keeping.{entry_at}
use Rattle.tree_live.specs.Slots.{AreBelow, in_slot}
use Rattle.tree_live.specs.Watching.{Watched, with_game}
use Rattle.tree_live.specs.declared.entry.Entry.{Entry}
use Rattle.tree_rows.specs.Hits.{hit_of}
use Rattle.tree_rows.specs.declared.hit.GameHit.{GameHit}
use Rattle.edit_commands.specs.Retagging.{AreAgain, hit_again}
use Rattle.shell_state.proofs.TableLaws.{hits_among, hits_on, in_mapped, in_tables, slots_follow, with_hit}
use Rattle.shell_state.specs.Hits.{AreHits, hit_on}
use Rattle.shell_state.specs.Slots.{HitTable, Slot, exactly_on, hit_of_game, slot_at, table_in, table_of, tables_in, tables_of}
use Rattle.shell_state.specs.Slots.Slot.{empty, idle, shows}

-- ---- for eight slots

-- The hits of eight slots are those of all.
pub eight_again : (head : Head) (i : ℕ) (watches : List (Option Watched)) (count : ℕ) (h0 h1 h2 h3 h4 h5 h6 h7 : Option GameHit) → count ≡ 8 → AreBelow count watches
    → h0 ≡ hit_again head i (in_slot watches 0) → h1 ≡ hit_again head i (in_slot watches 1) → h2 ≡ hit_again head i (in_slot watches 2) → h3 ≡ hit_again head i (in_slot watches 3)
    → h4 ≡ hit_again head i (in_slot watches 4) → h5 ≡ hit_again head i (in_slot watches 5) → h6 ≡ hit_again head i (in_slot watches 6) → h7 ≡ hit_again head i (in_slot watches 7)
    → AreAgain head i watches (h0 ∷ h1 ∷ h2 ∷ h3 ∷ h4 ∷ h5 ∷ h6 ∷ h7 ∷ [])
eight_again head i watches count h0 h1 h2 h3 h4 h5 h6 h7 eight below i0 i1 i2 i3 i4 i5 i6 i7 = each
  where
    each : AreAgain head i watches (h0 ∷ h1 ∷ h2 ∷ h3 ∷ h4 ∷ h5 ∷ h6 ∷ h7 ∷ [])
    each zero = i0
    each (suc zero) = i1
    each (suc (suc zero)) = i2
    each (suc (suc (suc zero))) = i3
    each (suc (suc (suc (suc zero)))) = i4
    each (suc (suc (suc (suc (suc zero))))) = i5
    each (suc (suc (suc (suc (suc (suc zero)))))) = i6
    each (suc (suc (suc (suc (suc (suc (suc zero))))))) = i7
    each (suc (suc (suc (suc (suc (suc (suc (suc k)))))))) =
        sym (ap (hit_again head i) (below (suc (suc (suc (suc (suc (suc (suc (suc k)))))))) (omega (arith, eight))))

-- ---- the hits are those of the game with its new head

-- The hit that is kept of the game at a place.
hit-kept : (games : List Entry) (i : ℕ) (hit : Option GameHit) → slice_get (map (λ (e : Entry). e.hit) games) i ≡ Some hit → (entry_at games i).hit ≡ hit
hit-kept [] i hit at = absurd (cc)
hit-kept (e ∷ games) zero hit at = same_Some e.hit hit at
hit-kept (e ∷ games) (suc i) hit at = hit-kept games i hit at

-- With another head it is the hit of a game with that head, of which the tags are not looked at.
counted-again : (side : Colour) (head head' : Head) (found : Option (ℕ × Option Move))
    → option_map (λ (hit : GameHit). hit_of hit.next side (without_tags head')) (option_map (λ (f : ℕ × Option Move). hit_of f.1 side head) found)
    ≡ option_map (λ (f : ℕ × Option Move). hit_of f.1 side head') found
counted-again side head head' None = refl
counted-again side head head' (Some f) = refl

again-is : (now head : Head) (held : Held) (board : Packed) (kept : Option GameHit) → now ≡ without_tags head → kept ≡ hit_of_game (exactly_on board) held
    → option_map (λ (hit : GameHit). hit_of hit.next board.side now) kept ≡ hit_on head held.game board
again-is now head held board kept same is =
    ap₂ (λ (h : Head) (k : Option GameHit). option_map (λ (hit : GameHit). hit_of hit.next board.side h) k) same is
    ∙ counted-again board.side held.head head (position.hit_of (exactly_on board) held.game)

pub are_hits : (now head : Head) (i : ℕ) (held : Held) (games : List Held) (slots : List Slot) (watches : List (Option Watched)) (hits : List (Option GameHit)) → AreAgain now i watches hits
    → now ≡ without_tags head → slice_get games i ≡ Some held → tables_in watches ≡ tables_of games slots → AreHits watches head held.game hits
are_hits now head i held games slots watches hits again same at tables = λ k. again k ∙ by (in_slot watches k) (slot_at slots k) (there k)
  where
    there : (k : ℕ) → option_map table_in (in_slot watches k) ≡ table_of games (slot_at slots k)
    there k = sym (in_mapped table_in watches k) ∙ (ap (λ (l : List (Option HitTable)). in_slot l k) tables ∙ in_tables games slots k)

    by : (watch : Option Watched) (slot : Slot) → option_map table_in watch ≡ table_of games slot
        → hit_again now i watch ≡ option_and_then (λ (w : Watched). hit_on head held.game w.board) watch
    by None slot is = refl
    by (Some watch) empty is = absurd (cc)
    by (Some watch) idle is = absurd (cc)
    by (Some watch) (shows board) is =
        let table = same_Some (table_in watch) (record { board = board; hits = hits_on (exactly_on board) games }) is in
        let kept : map (λ (e : Entry). e.hit) watch.games ≡ hits_on (exactly_on watch.board) games =
        ap (λ (t : HitTable). t.hits) table ∙ ap (λ (b : Packed). hits_on (exactly_on b) games) (sym (ap (λ (t : HitTable). t.board) table)) in
        let hit : (entry_at watch.games i).hit ≡ hit_of_game (exactly_on watch.board) held =
        hit-kept watch.games i (hit_of_game (exactly_on watch.board) held)
        (ap (λ (l : List (Option GameHit)). slice_get l i) kept ∙ (slice_get-map (hit_of_game (exactly_on watch.board)) games i ∙ ap (option_map (hit_of_game (exactly_on watch.board))) at)) in
        again-is now head held watch.board (entry_at watch.games i).hit same hit

-- ---- a game whose tag is set

-- Its head is what is kept of it, without its tags.
pub head_now : (kept : Kept) (games : List ℕ) (base : Base) (i : ℕ) (tag : TagEdit) (held : Held) → slice_get base.games i ≡ Some held → Represents kept games (tagged i tag base)
    → head_in (heads_of kept) i ≡ without_tags (edited held.head tag)
unfolding tagged game_replaced
head_now kept games base i tag held at is =
    let bare : Held → Head = λ h. without_tags h.head in
    let one : Held = held_of (edited held.head tag) held.game in
    let there : slice_get (tagged i tag base).games i ≡ Some one =
    ap (λ (o : Option Held). slice_get (tagged_at i tag o base).games i) at ∙ (changed-same (λ _. one) i base.games ∙ ap (option_map (λ (_ : Held). one)) at) in
    get_or_from_slice_get (heads_of kept) i (bare one) _
    (ap (λ (heads : List Head). slice_get heads i) (heads-are kept games (tagged i tag base) is) ∙ (slice_get-map bare (tagged i tag base).games i ∙ ap (option_map bare) there))

-- Its hits come in the place of those that it had.
hits_tagged : (query : PosQuery) (base : Base) (i : ℕ) (tag : TagEdit) (held : Held) → slice_get base.games i ≡ Some held → i < length base.games
    → hits_on query (tagged i tag base).games ≡ with_hit i (hit_of_game query (held_of (edited held.head tag) held.game)) (hits_on query base.games)
unfolding tagged game_replaced
hits_tagged query base i tag held at there =
    ap (λ (o : Option Held). hits_on query (tagged_at i tag o base).games) at ∙ hits_among query (held_of (edited held.head tag) held.game) base.games i there

pub slots_tagged : (kept : Kept) (games : List ℕ) (base : Base) (i : ℕ) (tag : TagEdit) (held : Held) (hits : List (Option GameHit)) (watches watches' : List (Option Watched)) (slots : List Slot)
    → slice_get base.games i ≡ Some held → i < length base.games → Represents kept games (tagged i tag base) → length watches' ≡ length watches → AreAgain (head_in (heads_of kept) i) i watches hits
    → ((k : ℕ) → in_slot watches' k ≡ option_map (λ (w : Watched). record w { games = with_game i (record { hit = in_slot hits k; is_in = false }) w.games }) (in_slot watches k))
    → tables_in watches ≡ tables_of base.games slots → tables_in watches' ≡ tables_of (tagged i tag base).games slots
slots_tagged kept games base i tag held hits watches watches' slots at there is count again follow tables =
    let head : Head = edited held.head tag in
    slots_follow i head held.game hits watches watches' base.games (tagged i tag base).games slots count
    (are_hits (head_in (heads_of kept) i) head i held base.games slots watches hits again (head_now kept games base i tag held at is) at tables)
    follow (λ query. hits_tagged query base i tag held at there) tables

-- ---- how many they are

-- There is room for it in each slot.
pub room_among : (kept : Kept) (i : ℕ) (watches : List (Option Watched)) → IsSound kept → i < length kept.entries
    → ((k : ℕ) → IfSome (in_slot (tables_in watches) k) (λ (table : HitTable). length table.hits ≡ length kept.entries))
    → (k : ℕ) → IfSome (in_slot watches k) (λ (watch : Watched). (i ≤ length watch.games) × (i < 16777214))
room_among kept i watches sound there fits = λ k.
    by (in_slot watches k) (subst (λ (o : Option HitTable). IfSome o (λ (table : HitTable). length table.hits ≡ length kept.entries)) (in_mapped table_in watches k) (fits k))
  where
    by : (watch : Option Watched) → IfSome (option_map table_in watch) (λ (table : HitTable). length table.hits ≡ length kept.entries)
        → IfSome watch (λ (w : Watched). (i ≤ length w.games) × (i < 16777214))
    by None is = tt
    by (Some watch) is = (omega (arith, is, there, length-map watch.games (λ (e : Entry). e.hit)), omega (arith, there, sound.count, sound.header.games))

-- It comes in the place of one.
pub one_among : (i games entries : ℕ) → i < games → entries ≡ games → (n : ℕ) → n ≡ games → (if nat_lt i n then n else n + 1) ≡ entries
one_among i games entries there count n is =
    let test : nat_lt i n ≡ true = lt-ltb i n (omega (arith, there, is)) in
    rw test (is ∙ sym count)
