-- Laws of `eco`.
use Rattle.std.proofs.Common.{◌≡◌, ◌+◌, ℕ, List, [], ◌∷◌, map, sum_by, refl, sym, ap, ◌∙◌, ◌<◌, length, take, ◌≤◌, ◌++◌, get_or, Option, Some, ap₂, None, ◌||◌, Bool, true, subst, false, option_map}
use Rattle.std.proofs.lemmas.List.{map_more}
use Rattle.std.proofs.lemmas.List.Sums.{sum_by_more, sum_by_more_le}
use Rattle.std.proofs.lemmas.Option.{get_or_from_slice_get, slice_get_within}
use Rattle.std.specs.List.{list_any}
use Rattle.std.specs.Prelude.{slice_get, is_some}
use Rattle.base_core.specs.Base.{Held, Base}
use Rattle.base_core.specs.Edits.{changed_at, classified}
use Rattle.base_core.specs.Means.{HoldsNames}
use Rattle.base_core.specs.Represents.{Kept, Represents}
use Rattle.base_files.specs.Seen.{Seen}
use Rattle.base_files.specs.declared.extent.Extent.{Extent}
use Rattle.base_files.specs.declared.faults.Stop.TheVariants as stop
use Rattle.eco_class.specs.Table.{Opening, eco_of}
use Rattle.game_tree.specs.Game.{GameTree}
use Rattle.name_base.specs.NameLists.{NameLists}
use Rattle.sig_index.specs.Games.{extent_in}
use Rattle.sig_index.specs.declared.pos_query.PosQuery.{PosQuery}
use Rattle.filter_seat.specs.declared.saved.SavedFilter.{SavedFilter}
use Rattle.report_commands.specs.Classifying.{classified_by, codes_of}
use Rattle.report_commands.specs.Ends.{AreCoded, IsCoded, coded, with_code}
use Rattle.shell_state.proofs.EditedLaws.{same_count, fits_count}
use Rattle.shell_state.proofs.Quietly.{held_by}
use Rattle.shell_state.proofs.TableLaws.{hits_on, tables_are}
use Rattle.shell_state.specs.Carrying.{AreBeside}
use Rattle.shell_state.specs.Ends.{IsDevice, IsBodyFault}
use Rattle.shell_state.specs.Slots.{hit_of_game}
use Rattle.shell_state.specs.Stands.{Stands, Fits, Tables, index_of}
use Rattle.shell_state.specs.State.{Carried, State}
use Rattle.shell_state.specs.declared.halt.Halt.{Halt}
use Rattle.shell_state.specs.declared.halt.Halt.TheVariants as halt

-- ---- what is asked

-- What is asked for one game more.
pub asked_more : (places : List Extent) (i : ℕ) → i < length places
    → sum_by (λ (x : Extent). x.len) (take (i + 1) places) ≡ sum_by (λ (x : Extent). x.len) (take i places) + (extent_in places i).len
asked_more places i below = sum_by_more (λ (x : Extent). x.len) places i (record { offset = 0; len = 0 }) below

pub asked_within : (places : List Extent) (i : ℕ) → i < length places
    → sum_by (λ (x : Extent). x.len) (take i places) + (extent_in places i).len ≤ sum_by (λ (x : Extent). x.len) places
asked_within places i below = sum_by_more_le (λ (x : Extent). x.len) places i (record { offset = 0; len = 0 }) below

-- ---- the codes that are found

-- The code of one game more.
pub code_more : (f : GameTree → Option ℕ) (list : List GameTree) (i : ℕ) (codes later : List (Option ℕ)) (code : Option ℕ) (game : GameTree) → slice_get list i ≡ Some game
    → codes ≡ map f (take i list) → code ≡ f game → later ≡ codes ++ code ∷ [] → later ≡ map f (take (i + 1) list)
code_more f list i codes later code game at found is more =
    let there : f game ≡ f (get_or list i game) = ap f (sym (get_or_from_slice_get list i game game at)) in
    more ∙ (ap₂ (λ (xs : List (Option ℕ)) (x : Option ℕ). xs ++ x ∷ []) found (is ∙ there) ∙ sym (map_more f list i game (slice_get_within list i game at)))

-- ---- the games that get codes

-- No code more changes nothing.
coded_none : (codes : List (Option ℕ)) (games : List Held) → coded (codes ++ None ∷ []) games ≡ coded codes games
coded_none [] [] = refl
coded_none [] (held ∷ games) = refl
coded_none (code ∷ codes) [] = refl
coded_none (code ∷ codes) (held ∷ games) = ap (λ (later : List Held). with_code code held ∷ later) (coded_none codes games)

-- A code more changes the next game.
abbrev pub set_code : ℕ → Held → Held
set_code code held = record held { head = record held.head { eco = code } }

coded_some : (codes : List (Option ℕ)) (code : ℕ) (games : List Held) → coded (codes ++ Some code ∷ []) games ≡ changed_at (set_code code) (length codes) (coded codes games)
coded_some [] code [] = refl
coded_some [] code (held ∷ games) = refl
coded_some (first ∷ codes) code [] = refl
coded_some (first ∷ codes) code (held ∷ games) = ap (λ (later : List Held). with_code first held ∷ later) (coded_some codes code games)

abbrev pub with_games : Base → List Held → Base
with_games base games = record base { games = games }

classified_more : (base : Base) (codes : List (Option ℕ)) (i code : ℕ) → i ≡ length codes
    → classified i code (with_games base (coded codes base.games)) ≡ with_games base (coded (codes ++ Some code ∷ []) base.games)
unfolding classified
classified_more base codes i code is =
    ap (with_games base) (ap (λ (n : ℕ). changed_at (set_code code) n (coded codes base.games)) is ∙ sym (coded_some codes code base.games))

-- Whether there is a code.
some_more : (codes : List (Option ℕ)) (rest : Bool) → (list_any is_some (codes ++ None ∷ []) || rest) ≡ (list_any is_some codes || rest)
some_more [] rest = refl
some_more (None ∷ codes) rest = some_more codes rest
some_more (Some code ∷ codes) rest = refl

some_now : (codes : List (Option ℕ)) (code : ℕ) (rest : Bool) → (list_any is_some (codes ++ Some code ∷ []) || rest) ≡ true
some_now [] code rest = refl
some_now (None ∷ codes) code rest = some_now codes code rest
some_now (Some first ∷ codes) code rest = refl

pub none_coded : (kept : Kept) → AreCoded [] kept kept
none_coded kept = record { does = λ told base is. is; names = refl; count = refl; end = refl; unsaved = refl }

pub coded_more : (codes : List (Option ℕ)) (i : ℕ) (code : Option ℕ) (old mid new : Kept) → i ≡ length codes → AreCoded codes old mid → IsCoded i code mid new
    → AreCoded (codes ++ code ∷ []) old new
coded_more codes i None old mid new at are same = record {
  does = λ told base is.
      let before : Represents mid told (with_games base (coded (codes ++ None ∷ []) base.games)) =
      subst (λ (games : List Held). Represents mid told (with_games base games)) (sym (coded_none codes base.games)) (are.does told base is) in
      subst (λ (k : Kept). Represents k told (with_games base (coded (codes ++ None ∷ []) base.games))) (sym same) before;
  names = ap (λ (k : Kept). k.names) same ∙ are.names;
  count = ap (λ (k : Kept). length k.entries) same ∙ are.count;
  end = ap (λ (k : Kept). k.end) same ∙ are.end;
  unsaved = ap (λ (k : Kept). k.unsaved) same ∙ (are.unsaved ∙ sym (some_more codes old.unsaved));
}
coded_more codes i (Some code) old mid new at are change = record {
  does = λ told base is.
      subst (λ (b : Base). Represents new told b) (classified_more base codes i code at) (change.0 told (with_games base (coded codes base.games)) (are.does told base is));
  names = change.1.names ∙ are.names;
  count = same_count mid new change.1 ∙ are.count;
  end = change.1.end ∙ are.end;
  unsaved = change.1.unsaved ∙ sym (some_now codes code old.unsaved);
}

-- Each game has the code of its own moves.
all_coded : (table : List Opening) (games : List Held)
    → coded (map (eco_of table) (map (λ (held : Held). held.game) games)) games ≡ map (λ (held : Held). with_code (eco_of table held.game) held) games
all_coded table [] = refl
all_coded table (held ∷ games) = ap (λ (later : List Held). with_code (eco_of table held.game) held ∷ later) (all_coded table games)

-- ---- what the machine stands for

right_false : (some unsaved : Bool) → (some || unsaved) ≡ false → unsaved ≡ false
right_false true unsaved clean = absurd (cc)
right_false false unsaved clean = clean

-- Heads were edited or not, and no file was changed.
beside_coded : (old new : Kept) (seen : Seen) (some unsaved : Bool) (carried : Option Carried) → new.names ≡ old.names → AreBeside old seen unsaved carried → AreBeside new seen (some || unsaved) carried
beside_coded old new seen some unsaved (Some base) names b = record {
  contents = b.contents;
  carries = b.carries;
  names = subst (λ (n : NameLists). HoldsNames n b.carries.all_names) (sym names) b.names;
  means = λ clean. b.means (right_false some unsaved clean);
  whole = λ clean. b.whole (right_false some unsaved clean);
}
beside_coded old new seen some unsaved None names b = b

-- A game keeps its moves whatever its code is.
code_game : (code : Option ℕ) (held : Held) → (with_code code held).game ≡ held.game
code_game None held = refl
code_game (Some code) held = refl

classified_games : (table : List Opening) (games : List Held)
    → map (λ (held : Held). held.game) (map (λ (held : Held). with_code (eco_of table held.game) held) games) ≡ map (λ (held : Held). held.game) games
classified_games table [] = refl
classified_games table (held ∷ games) =
    ap₂ (λ (g : GameTree) (later : List GameTree). g ∷ later) (code_game (eco_of table held.game) held) (classified_games table games)

-- And trees count of it what they did.
code_hit : (query : PosQuery) (code : Option ℕ) (held : Held) → hit_of_game query (with_code code held) ≡ hit_of_game query held
code_hit query None held = refl
code_hit query (Some code) held = refl

pub classified_hits : (table : List Opening) (query : PosQuery) (games : List Held) → hits_on query (map (λ (held : Held). with_code (eco_of table held.game) held) games) ≡ hits_on query games
classified_hits table query [] = refl
classified_hits table query (held ∷ games) =
    ap₂ (λ (hit : Option _) (later : List (Option _)). hit ∷ later) (code_hit query (eco_of table held.game) held) (classified_hits table query games)

pub coded_stands : (table : List Opening) (codes : List (Option ℕ)) (old new : Kept) (tables : Tables) (filter : List (Option ℕ)) (saved : List SavedFilter) (seen : Seen) (s : State)
    → codes ≡ codes_of table s → AreCoded codes old new → Stands (held_by old tables filter saved) seen s → Stands (held_by new tables filter saved) seen (classified_by s table)
coded_stands table codes old new tables filter saved seen s are coded_are st =
    let all = ap (λ (found : List (Option ℕ)). coded found s.shared.base.games) are ∙ all_coded table s.shared.base.games in
    record {
      games = st.games;
      told = st.told;
      base = subst (λ (games : List Held). Represents new st.games (with_games s.shared.base games)) all (coded_are.does st.games s.shared.base st.base);
      seat = st.seat;
      unsaved = coded_are.unsaved ∙ ap₂ (λ (found : List (Option ℕ)) (rest : Bool). list_any is_some found || rest) are st.unsaved;
      carried = beside_coded old new seen (list_any is_some (codes_of table s)) s.shared.unsaved s.shared.carried coded_are.names st.carried;
      tables = tables_are tables s.shared.index s.slots s.shared.base.games (map (λ (held : Held). with_code (eco_of table held.game) held) s.shared.base.games) st.tables
          (ap (λ (games : List GameTree). option_map (index_of games) s.shared.index) (sym (classified_games table s.shared.base.games)))
          (λ query. classified_hits table query s.shared.base.games);
      fresh = st.fresh;
    }

pub coded_fits : (codes : List (Option ℕ)) (old new : Kept) (tables : Tables) (filter : List (Option ℕ)) (saved : List SavedFilter) → AreCoded codes old new → Fits (held_by old tables filter saved) → Fits (held_by new tables filter saved)
coded_fits codes old new tables filter saved are fits = fits_count old new tables filter saved are.count fits

-- ---- why it ends

pub device_fault : (e : Halt) → IsDevice e → IsBodyFault e
device_fault (halt.Device stop.Files) device = tt
device_fault (halt.Device stop.Memory) device = tt
device_fault (halt.Device stop.Read) device = tt
device_fault (halt.Device stop.Write) device = tt
device_fault (halt.Changed game kept found) device = absurd device
