-- Laws of `tree`.
use Rattle.std.proofs.Common.{◌≡◌, ℕ, Option, Some, ◌+◌, List, [], ◌∷◌, ◌++◌, All, ap, ◌∙◌, ◌≤◌, sym, zero, suc, take, append_assoc, append-nil, add-one, length}
use Rattle.std.proofs.lemmas.List.{take_all}
use Rattle.std.proofs.lemmas.List.Elements.{All-nil, All-same}
use Rattle.std.proofs.lemmas.Option.{same_Some}
use Rattle.std.specs.Prelude.{slice_get, option_to_list}
use Rattle.base_core.specs.Base.{Held}
use Rattle.sig_index.specs.declared.pos_query.PosQuery.{PosQuery}
use Rattle.tree_rows.specs.MoveText.{IsKey}
use Rattle.tree_rows.specs.Rows.{rows_of}
use Rattle.tree_rows.specs.declared.hit.GameHit.{GameHit}
use Rattle.tree_rows.specs.declared.row.Row.{Row}
use Rattle.tree_rows.proofs.HitKeys.{keys-hold}
use Rattle.shell_state.specs.Meeting.{hit_if_in, tree_hits}

-- The rows of no hit have no key.
pub no-keys : (query : PosQuery) (rows : List Row) → rows ≡ rows_of [] → All (λ (row : Row). IsKey query.board query.side row.key) rows
no-keys query rows is =
    All-same (λ (row : Row). IsKey query.board query.side row.key) rows (rows_of []) is (keys-hold (IsKey query.board query.side) [] (All-nil (λ (hit : GameHit). IsKey query.board query.side hit.next)))

-- The hits of the games that are in, one game more.
more : (query : PosQuery) (i : ℕ) (plies : List (Option ℕ)) (games : List Held) (ply : Option ℕ) (held : Held) → slice_get plies i ≡ Some ply → slice_get games i ≡ Some held
    → tree_hits query (take (suc i) plies) (take (suc i) games) ≡ tree_hits query (take i plies) (take i games) ++ option_to_list (hit_if_in query ply held)
more query i [] games ply held p x = absurd cc
more query i (q ∷ plies) [] ply held p x = absurd cc
more query zero (q ∷ plies) (y ∷ games) ply held p x =
    append-nil (option_to_list (hit_if_in query q y))
    ∙ ap (λ (r : Option ℕ). option_to_list (hit_if_in query r y)) (same_Some q ply p)
    ∙ ap (λ (h : Held). option_to_list (hit_if_in query ply h)) (same_Some y held x)
more query (suc i) (q ∷ plies) (y ∷ games) ply held p x =
    ap (λ (l : List GameHit). option_to_list (hit_if_in query q y) ++ l) (more query i plies games ply held p x)
    ∙ sym (append_assoc (option_to_list (hit_if_in query q y)) (tree_hits query (take i plies) (take i games)) (option_to_list (hit_if_in query ply held)))

pub rows-more : (query : PosQuery) (i : ℕ) (plies : List (Option ℕ)) (games : List Held) (ply : Option ℕ) (held : Held) (after : List Row)
    → slice_get plies i ≡ Some ply → slice_get games i ≡ Some held → after ≡ rows_of (tree_hits query (take i plies) (take i games) ++ option_to_list (hit_if_in query ply held))
    → after ≡ rows_of (tree_hits query (take (i + 1) plies) (take (i + 1) games))
rows-more query i plies games ply held after p x now =
    now ∙ ap rows_of (sym (more query i plies games ply held p x))
    ∙ ap (λ (k : ℕ). rows_of (tree_hits query (take k plies) (take k games))) (sym (add-one i))

-- No game more.
pub rows-all : (query : PosQuery) (i : ℕ) (plies : List (Option ℕ)) (games : List Held) (rows : List Row) → length plies ≤ i → length games ≤ i
    → rows ≡ rows_of (tree_hits query (take i plies) (take i games)) → rows ≡ rows_of (tree_hits query plies games)
rows-all query i plies games rows all every so_far =
    so_far ∙ ap (λ (l : List (Option ℕ)). rows_of (tree_hits query l (take i games))) (take_all i plies all)
    ∙ ap (λ (l : List Held). rows_of (tree_hits query plies l)) (take_all i games every)
