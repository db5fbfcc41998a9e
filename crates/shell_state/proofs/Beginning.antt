-- The machine with which a script begins.
use Rattle.std.proofs.Common.{ℕ, zero, suc, List, Option, length, false, None, Some, Bool, true, ap, replicate, ◌≡◌, refl, sym, subst}
use Rattle.std.specs.Prelude.{IfSome}
use Rattle.std.proofs.Math.ListN.{length-replicate}
use Rattle.std.proofs.lemmas.List.Elements.{All-nil}
use Rattle.base_core.specs.Base.{Base}
use Rattle.base_core.specs.Represents.{Kept, IsSound}
use Rattle.base_files.specs.Seen.{Seen}
use Rattle.block_store.specs.Placing.{IsEnd}
use Rattle.filter_seat.specs.Seats.{first_seat}
use Rattle.filter_seat.specs.declared.saved.SavedFilter.{SavedFilter}
use Rattle.shell_state.proofs.CarryLaws.{beside_meant}
use Rattle.shell_state.specs.Carrying.{AreBeside}
use Rattle.shell_state.specs.Slots.{HitTable, Slot}
use Rattle.shell_state.specs.Stands.{Holding, IsOpen, ShowNone, Stands, Begins, no_tables, tables_by}
use Rattle.shell_state.specs.State.{begin}
use Rattle.tree_live.specs.Slots.{in_slot}

-- Every game is in, no filter is kept, there is no index, and no slot shows a tree.
abbrev pub first_holding : Kept → Holding
first_holding kept = record { kept = kept; tables = no_tables; seat = first_seat (length kept.entries) }

-- The files beside a base that was opened.
beside_open : (kept : Kept) (seen : Seen) (base : Base) → IsOpen kept seen false base → AreBeside kept seen false (Some (record { base = base; sound = false }))
beside_open kept seen base is =
    beside_meant kept seen base false is.contents is.represents.names is.means (λ sound. absurd (cc))

begun_tables : (slots : List Slot) (base : Base) → ShowNone slots → no_tables ≡ tables_by None slots base.games
begun_tables slots base none = ap (λ (hits : List (Option HitTable)). record { index = None; hits = hits }) (sym (none base.games))

begun_so : (kept : Kept) (seen : Seen) (created : Bool) (slots : List Slot) (base : Base) → ShowNone slots → IsOpen kept seen created base → Stands (first_holding kept) seen (begin created seen.fresh slots base)
begun_so kept seen true slots base none is =
    record { games = is.contents.games; told = is.contents.games_told; base = is.represents; seat = ap first_seat is.represents.count; unsaved = is.saved; carried = is.means; tables = begun_tables slots base none; fresh = refl }
begun_so kept seen false slots base none is =
    record { games = is.contents.games; told = is.contents.games_told; base = is.represents; seat = ap first_seat is.represents.count; unsaved = is.saved; carried = beside_open kept seen base is; tables = begun_tables slots base none; fresh = refl }

begins_first : (kept : Kept) → IsSound kept → Begins kept (first_holding kept)
begins_first kept is_sound = record {
  sound = λ (seen : Seen) (at : IsEnd kept.end seen). record {
    fits = record { filter = length-replicate (length kept.entries) (Some 0); saved = All-nil (λ (f : SavedFilter). length f.plies ≡ length kept.entries) };
    tables = record { index = tt; hits = none_there };
    base = is_sound;
    at_end = at;
  };
  stands = λ (seen : Seen) (created : Bool) (slots : List Slot) (base : Base) (none : ShowNone slots) (is : IsOpen kept seen created base). begun_so kept seen created slots base none is;
}
  where
    none_in : (n k : ℕ) → in_slot {T = HitTable} (replicate n None) k ≡ None
    none_in zero k = refl
    none_in (suc n) zero = refl
    none_in (suc n) (suc k) = none_in n k

    none_there : (k : ℕ) → IfSome (in_slot no_tables.hits k) (λ (table : HitTable). length table.hits ≡ length kept.entries)
    none_there k = subst (λ (o : Option HitTable). IfSome o (λ (table : HitTable). length table.hits ≡ length kept.entries)) (sym (none_in 8 k)) tt

pub begins_by : (kept : Kept) (holding : Holding) → IsSound kept → holding ≡ first_holding kept → Begins kept holding
begins_by kept holding is_sound same = subst (Begins kept) (sym same) (begins_first kept is_sound)
