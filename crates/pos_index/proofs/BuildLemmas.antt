-- The places of the games of a base, one game after the other.
use Rattle.std.proofs.Common.{◌≡◌, ◌≤◌, ◌<◌, ◌+◌, ℕ, List, [], ◌∷◌, ◌++◌, None, Some, Option, length, map, take, sum_by, sym, ap, ◌∙◌, subst, arith}
use Rattle.std.specs.Prelude.{slice_get}
use Rattle.std.proofs.lemmas.List.{length_push, map_push, take_all, take_more}
use Rattle.std.proofs.lemmas.List.Elements.{All-push}
use Rattle.std.proofs.lemmas.List.Sums.{sum_by-take-le, sum_by_more}
use Rattle.std.proofs.lemmas.Option.{get_or_from_slice_get, slice_get_within}
use Rattle.base_files.specs.Told.{Tells}
use Rattle.base_files.specs.declared.extent.Extent.{Extent}
use Rattle.game_codec.specs.Record.{IsSomeRecord}
use Rattle.game_tree.specs.Game.{GameTree}
use Rattle.sig_index.specs.Games.{HasChanged, extent_in, record_told}
use Rattle.sig_index.specs.declared.signature.Sig.{Sig}
use Rattle.pos_index.specs.Hits.{IsRow, Place, places_of, row_of}
use Rattle.pos_index.specs.Keeping.{AddsRow, HasPutAtMost, row_in, with_row}
use Rattle.pos_index.proofs.IndexLemmas.{AreShort, put_last}

-- What is put behind an empty row at the end is a row at the end.
pub added_last : (old mid now : List (List Place)) (i : ℕ) (places : List Place) → i ≡ length old → mid ≡ old ++ [] ∷ [] → now ≡ with_row mid i (row_in mid i ++ places)
    → now ≡ old ++ places ∷ []
added_last old mid now i places last is put =
    put_last old now i places last (put ∙ ap (λ (l : List (List Place)). with_row l i (row_in l i ++ places)) is)

pub adds_row : (most : ℕ) (old mid now : List (List Place)) (i : ℕ) → i ≡ length old → mid ≡ old ++ [] ∷ [] → HasPutAtMost most mid i now → AddsRow most old now
adds_row most old mid now i last is put = record {
  row = put.places;
  is_row = put.row;
  added = added_last old mid now i put.places last is put.put;
}

pub adds-length : (most : ℕ) (old now : List (List Place)) → AddsRow most old now → length now ≡ length old + 1
adds-length most old now adds = ap length adds.added ∙ length_push old adds.row

pub adds-short : (most : ℕ) (old now : List (List Place)) → AddsRow most old now → AreShort most old → AreShort most now
adds-short most old now adds all =
    subst (AreShort most) (sym adds.added) (All-push (IsRow most) old adds.row all adds.is_row)

-- One game more of a list.
pub rows_next : (depth : ℕ) (list : List GameTree) (i : ℕ) (game : GameTree) (old now : List (List Place)) → slice_get list i ≡ Some game
    → old ≡ map (row_of depth) (map Some (take i list)) → now ≡ old ++ places_of depth game ∷ [] → now ≡ map (row_of depth) (map Some (take (i + 1) list))
rows_next depth list i game old now there before added =
    let within = slice_get_within list i game there in
    let next : take (i + 1) list ≡ take i list ++ game ∷ [] =
    take_more list i game within ∙ ap (λ (x : GameTree). take i list ++ x ∷ []) (get_or_from_slice_get list i game game there) in
    added ∙ ap (λ (l : List (List Place)). l ++ places_of depth game ∷ []) before
    ∙ sym (ap (λ (l : List GameTree). map (row_of depth) (map Some l)) next ∙ ap (map (row_of depth)) (map_push Some (take i list) game) ∙ map_push (row_of depth) (map Some (take i list)) (Some game))

pub rows_all : (depth : ℕ) (list : List GameTree) (i : ℕ) (now : List (List Place)) → now ≡ map (row_of depth) (map Some (take i list)) → length list ≡ i → now ≡ map (row_of depth) (map Some list)
rows_all depth list i now is end = is ∙ ap (λ (l : List GameTree). map (row_of depth) (map Some l)) (take_all i list (omega (arith, end)))

-- The lengths of the records.
abbrev pub asked_for : List Extent → ℕ → ℕ
asked_for extents i = sum_by (λ (extent : Extent). extent.len) (take i extents)

pub asked_next : (extents : List Extent) (i : ℕ) → i < length extents → asked_for extents (i + 1) ≡ asked_for extents i + (extent_in extents i).len
asked_next extents i lt = sum_by_more (λ (extent : Extent). extent.len) extents i (record { offset = 0; len = 0 }) lt

pub asked_within : (extents : List Extent) (i : ℕ) → asked_for extents i ≤ sum_by (λ (extent : Extent). extent.len) extents
asked_within extents i = sum_by-take-le (λ (extent : Extent). extent.len) extents i

-- Bytes that are no record show that the game's record has changed.
pub changed : (games : Option (List ℕ)) (extents : List Extent) (sigs : List Sig) (i : ℕ) (buffer bytes : List ℕ) (len : ℕ) (sig : Sig)
    → len ≡ (extent_in extents i).len → bytes ≡ take len buffer
    → Tells (record_told games (extent_in extents i)) (take len buffer) → slice_get sigs i ≡ Some sig → (IsSomeRecord bytes → ⊥)
    → HasChanged sigs extents games buffer i sig None
changed games extents sigs i buffer bytes len sig has front tells kept none = record {
  is_kept = kept;
  is_told = subst (λ (n : ℕ). Tells (record_told games (extent_in extents i)) (take n buffer)) has tells;
  is_shown = λ is. none (subst IsSomeRecord (sym (front ∙ ap (λ (n : ℕ). take n buffer) has)) is);
  is_other = λ e. absurd (cc);
}
