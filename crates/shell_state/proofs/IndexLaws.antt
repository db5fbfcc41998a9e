-- Laws of the position index of a machine.
use Rattle.std.proofs.Common.{◌≡◌, ℕ, zero, suc, List, [], ◌∷◌, length, map, slice_get, Option, None, Some, option_map, refl, sym, subst, ap, ◌∙◌, arith}
use Rattle.std.proofs.lemmas.List.{length-map}
use Rattle.std.proofs.lemmas.Option.{slice_get_within}
use Rattle.std.specs.Prelude.{slice_set}
use Rattle.base_core.proofs.GamesLaws.{holds}
use Rattle.base_core.proofs.Lists.{get_some, same_lists}
use Rattle.base_core.specs.Base.{Base, Held}
use Rattle.base_core.specs.Edits.{changed_at}
use Rattle.base_core.specs.Entries.{extent_of, sig_in}
use Rattle.base_core.specs.Represents.{Kept, Represents, extents_of, sigs_of}
use Rattle.base_files.specs.Extents.{record_in}
use Rattle.base_files.specs.Seen.{Seen}
use Rattle.base_files.specs.declared.extent.Extent.{Extent}
use Rattle.game_codec.proofs.RecordAnswerLaws.{record-one}
use Rattle.game_codec.specs.Record.{IsRecord}
use Rattle.game_tree.specs.Game.{GameTree}
use Rattle.pos_index.specs.Hits.{Index, IndexesAll}
use Rattle.sig_index.specs.Games.{extent_in}
use Rattle.shell_state.specs.Stands.{Holding, Stands, Tables, depth_of, index_of}
use Rattle.shell_state.specs.State.{State, games_of}

-- The index that is held is one of the games of the state, and has its depth.
pub index_is : {holding : Holding} {seen : Seen} {s : State} → Stands holding seen s → holding.tables.index ≡ option_map (index_of (games_of s)) s.shared.index
index_is st = ap (λ (t : Tables). t.index) st.tables

indexes_by : (depth : Option ℕ) (games : List GameTree) → IndexesAll (option_map (index_of games) depth) games
indexes_by None games = tt
indexes_by (Some depth) games = refl

pub indexes_all : (holding : Holding) (seen : Seen) (s : State) → Stands holding seen s → IndexesAll holding.tables.index (games_of s)
indexes_all holding seen s st = subst (λ (index : Option Index). IndexesAll index (games_of s)) (sym (index_is st)) (indexes_by s.shared.index (games_of s))

depth_by : (depth : Option ℕ) (games : List GameTree) → depth_of (option_map (index_of games) depth) ≡ depth
depth_by None games = refl
depth_by (Some depth) games = refl

pub depth_is : (holding : Holding) (seen : Seen) (s : State) → Stands holding seen s → depth_of holding.tables.index ≡ s.shared.index
depth_is holding seen s st = ap depth_of (index_is st) ∙ depth_by s.shared.index (games_of s)

-- The games of a base are those of its records, which an edit of heads leaves.
abbrev games_in : Base → List GameTree
games_in base = map (λ (held : Held). held.game) base.games

games_stay : (old new : Kept) (told : List ℕ) (base base' : Base) → Represents old told base → Represents new told base' → extents_of new ≡ extents_of old → games_in base' ≡ games_in base
games_stay old new told base base' is is' places =
    let before = holds old told base is in
    let after = holds new told base' is' in
    let count : length new.entries ≡ length old.entries =
    sym (length-map new.entries extent_of) ∙ ap (λ (x : List Extent). length x) places ∙ length-map old.entries extent_of in
    same_lists (games_in base') (games_in base) (after.count ∙ length-map new.entries sig_in ∙ count ∙ sym (length-map old.entries sig_in) ∙ sym before.count)
    (λ i x y left right.
    let sig = get_some (sigs_of new) i (omega (arith, slice_get_within (games_in base') i x left, after.count)) in
    let sig' = get_some (sigs_of old) i (omega (arith, slice_get_within (games_in base) i y right, before.count)) in
    let one = after.each i sig.0 x sig.1 left in
    let other = before.each i sig'.0 y sig'.1 right in
    (record-one (record_in told (extent_in (extents_of new) i)) one.tags other.tags x y one.is_record
    (subst (λ (extents : List Extent). IsRecord (record_in told (extent_in extents i)) other.tags y) (sym places) other.is_record)).1)

-- A game that is put in the place of another one; and one that is the same game.
pub put_games : (change : Held → Held) (i : ℕ) (all : List Held) (game : GameTree) → ((held : Held) → (change held).game ≡ game)
    → map (λ (held : Held). held.game) (changed_at change i all) ≡ slice_set (map (λ (held : Held). held.game) all) i game
put_games change i [] game same = refl
put_games change zero (held ∷ all) game same = ap (λ (g : GameTree). g ∷ map (λ (h : Held). h.game) all) (same held)
put_games change (suc i) (held ∷ all) game same = ap (λ (games : List GameTree). held.game ∷ games) (put_games change i all game same)

pub same_games : (change : Held → Held) (i : ℕ) (all : List Held) (held : Held) → slice_get all i ≡ Some held → (change held).game ≡ held.game
    → map (λ (held : Held). held.game) (changed_at change i all) ≡ map (λ (held : Held). held.game) all
same_games change i [] held there same = absurd (cc)
same_games change zero (first ∷ all) held there same =
    let first_is : first ≡ held = cc in
    ap (λ (g : GameTree). g ∷ map (λ (h : Held). h.game) all) (ap (λ (h : Held). (change h).game) first_is ∙ same ∙ ap (λ (h : Held). h.game) (sym first_is))
same_games change (suc i) (first ∷ all) held there same = ap (λ (games : List GameTree). first.game ∷ games) (same_games change i all held there same)

-- So the index of the games is theirs then too.
pub index_stays : (old new : Kept) (told : List ℕ) (base base' : Base) (index : Option Index) (depth : Option ℕ) → Represents old told base → Represents new told base' → extents_of new ≡ extents_of old
    → index ≡ option_map (index_of (games_in base)) depth → index ≡ option_map (index_of (games_in base')) depth
index_stays old new told base base' index depth is is' places held =
    held ∙ ap (λ (games : List GameTree). option_map (index_of games) depth) (sym (games_stay old new told base base' is is' places))
