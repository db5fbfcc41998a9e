-- Laws of an index that is built.
use Rattle.std.proofs.Common.{◌≡◌, ℕ, Bool, false, List, map, Option, Some, sym, ap, ◌∙◌, None, subst, ap₂, ◌+◌, ◌*◌, nat_lt, length}
use Rattle.std.specs.Prelude.{if◌then◌else◌}
use Rattle.base_files.specs.declared.extent.Extent.{Extent}
use Rattle.command_runs.specs.Counts.{counts}
use Rattle.game_tree.specs.Game.{GameTree}
use Rattle.pos_index.specs.Causes.{HasBuildCause}
use Rattle.pos_index.specs.Hits.{Fits, Index, Indexes, entries_of, row_of}
use Rattle.pos_index.specs.declared.fault.BuildError.{BuildError}
use Rattle.pos_index.specs.declared.fault.BuildError.TheVariants as build
use Rattle.sig_index.specs.Games.{Holds}
use Rattle.sig_index.specs.declared.signature.Sig.{Sig}
use Rattle.index_commands.specs.Ends.{halt_of_build}
use Rattle.index_commands.specs.Indexing.{index_after, index_line, index_text, is_too_big, too_big_line}
use Rattle.base_core.specs.Represents.{Kept}
use Rattle.base_files.specs.Seen.{Seen}
use Rattle.filter_seat.specs.declared.saved.SavedFilter.{SavedFilter}
use Rattle.std.proofs.lemmas.Bool.{le-ltb}
use Rattle.shell_state.specs.Carrying.{AreBeside}
use Rattle.shell_state.proofs.Quietly.{held_by}
use Rattle.shell_state.proofs.HoldingLaws.{fetch_device, fetch_why}
use Rattle.shell_state.specs.Ends.{IsDevice}
use Rattle.shell_state.specs.Slots.{HitTable}
use Rattle.shell_state.specs.Stands.{WhyHalt, index_of, Sound, Stands, Tables}
use Rattle.shell_state.specs.State.{State, games_of, with_index}

-- Why it is not.
pub build_device : (e : BuildError) (games : Option (List ℕ)) (told : List ℕ) (extents : List Extent) (sigs : List Sig) (list : List GameTree) (buffer : List ℕ) (f f' : ℕ)
    → games ≡ Some told → Holds told extents sigs list → HasBuildCause e sigs extents games buffer f f' → IsDevice (halt_of_build e)
build_device (build.Fetch error) games told extents sigs list buffer f f' same holds cause = fetch_device error games told extents sigs list buffer f f' same holds cause
build_device build.Memory games told extents sigs list buffer f f' same holds cause = tt

pub build_why : (e : BuildError) (games : Option (List ℕ)) (extents : List Extent) (sigs : List Sig) (buffer : List ℕ) (f f' : ℕ)
    → HasBuildCause e sigs extents games buffer f f' → WhyHalt (halt_of_build e) (counts f 0 0) (counts f' 0 0)
build_why (build.Fetch error) games extents sigs buffer f f' cause = fetch_why error games extents sigs buffer f f' cause
build_why build.Memory games extents sigs buffer f f' cause = tt

-- It is the index of the games.
pub built : (index : Index) (games : List GameTree) (depth : ℕ) → index.depth ≡ depth → Indexes index (map Some games) → index ≡ index_of games depth
built index games depth deep is =
    (λ i. record { depth = deep i; rows = index.rows })
    ∙ ap (λ rows. record { depth = depth; rows = rows }) (is ∙ ap (λ (d : ℕ). map (row_of d) (map Some games)) deep)

-- The state and the line, where the index has room.
pub has_room : (s : State) (depth games : ℕ) → games ≡ length s.shared.base.games → Fits depth games → is_too_big s depth ≡ false
has_room s depth games same fits = ap (λ (n : ℕ). nat_lt 16000000 (n * (depth + 1))) (sym same) ∙ le-ltb 16000000 (games * (depth + 1)) fits

pub after_built : (s : State) (depth : ℕ) → is_too_big s depth ≡ false → with_index s (Some depth) ≡ index_after s (Some depth)
after_built s depth room = ap (λ (b : Bool). if b then s else with_index s (Some depth)) (sym room)

pub text_built : (s : State) (depth : ℕ) → is_too_big s depth ≡ false → index_line depth (entries_of (index_of (games_of s) depth).rows) ≡ index_text s (Some depth)
text_built s depth room = ap (λ (b : Bool). if b then too_big_line else index_line depth (entries_of (index_of (games_of s) depth).rows)) (sym room)

-- The machine stands for the state with it.
pub built_stands : (kept : Kept) (old : Tables) (new : Index) (filter : List (Option ℕ)) (saved : List SavedFilter) (seen seen' : Seen) (s : State) (depth : ℕ)
    → Stands (held_by kept old filter saved) seen s → seen' ≡ seen → new ≡ index_of (games_of s) depth
    → Stands (held_by kept (record old { index = Some new }) filter saved) seen' (with_index s (Some depth))
built_stands kept old new filter saved seen seen' s depth st same is = record {
  games = st.games;
  told = ap (λ (t : Seen). t.games) same ∙ st.told;
  base = st.base;
  seat = st.seat;
  unsaved = st.unsaved;
  carried = subst (λ (x : Seen). AreBeside kept x s.shared.unsaved s.shared.carried) (sym same) st.carried;
  tables = ap₂ (λ (x : Index) (hits : List (Option HitTable)). record { index = Some x; hits = hits }) is (ap (λ (t : Tables). t.hits) st.tables);
  fresh = ap (λ (t : Seen). t.fresh) same ∙ st.fresh;
}

-- And without one.
pub dropped_stands : (kept : Kept) (old : Tables) (filter : List (Option ℕ)) (saved : List SavedFilter) (seen : Seen) (s : State)
    → Stands (held_by kept old filter saved) seen s → Stands (held_by kept (record old { index = None }) filter saved) seen (index_after s None)
dropped_stands kept old filter saved seen s st = record {
  games = st.games;
  told = st.told;
  base = st.base;
  seat = st.seat;
  unsaved = st.unsaved;
  carried = st.carried;
  tables = ap (λ (t : Tables). record { index = None; hits = t.hits }) st.tables;
  fresh = st.fresh;
}

pub dropped_sound : (kept : Kept) (old : Tables) (filter : List (Option ℕ)) (saved : List SavedFilter) (seen : Seen)
    → Sound (held_by kept old filter saved) seen → Sound (held_by kept (record old { index = None }) filter saved) seen
dropped_sound kept old filter saved seen sound = record {
  fits = record { filter = sound.fits.filter; saved = sound.fits.saved };
  tables = record { index = tt; hits = sound.tables.hits };
  base = sound.base;
  at_end = sound.at_end;
}
