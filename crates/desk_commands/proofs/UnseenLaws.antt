-- Commands of a client that no other client sees in the trees that it watches.
use Rattle.std.proofs.Common.{◌≡◌, ◌≤◌, ◌-◌, ℕ, zero, suc, Bool, true, false, cond, List, [], ◌∷◌, ◌++◌, Option, Some, None, Ok, length, replicate, unwrap_or, option_map, refl, ap, ◌∙◌, arith}
use Rattle.std.specs.Prelude.{option_to_list}
use Rattle.base_core.specs.Base.{Base, Held}
use Rattle.filter_seat.specs.Following.{Moving, filter_after}
use Rattle.filter_seat.specs.Seats.{Seat, first_seat}
use Rattle.index_commands.specs.Indexing.{is_too_big}
use Rattle.script_text.specs.Tasks.{Order, task}
use Rattle.script_text.specs.declared.command.Command.TheVariants.{Import, Replace, Eco, Tag, Delete, Undelete, Mark, Twins, Index, Save, Demo, Quit, Compact}
use Rattle.shell_commands.proofs.MarkLaws.{CountAlike, marks_alike}
use Rattle.shell_commands.proofs.RefusedLaws.{imported, made}
use Rattle.shell_commands.specs.Tasks.{tasks}
use Rattle.shell_state.specs.Meeting.{hit_if_in, tree_hits}
use Rattle.shell_state.specs.State.{State, with_index}
use Rattle.sig_index.specs.declared.pos_query.PosQuery.{PosQuery}
use Rattle.tree_rows.specs.declared.hit.GameHit.{GameHit}
use Rattle.view_commands.specs.declared.window.Window.{Window}
use Rattle.desk_commands.proofs.BringLaws.{some_added}
use Rattle.desk_commands.specs.Desk.{brought}
use Rattle.desk_commands.specs.Kinds.{is_seen, order_kind}
use Rattle.desk_commands.specs.declared.kinds.Kind.TheVariants.{Public, Adds, Moves}

pub moves_seen : (order : Order) → order_kind order ≡ Moves → is_seen order ≡ false → ⊥
moves_seen (Ok (Replace game word)) is unseen = cc
moves_seen (Ok Compact) is unseen = cc
moves_seen _ is unseen = cc

-- ---- commands that leave the games, or change their marks

index_alike : (s : State) (big : Bool) (depth : ℕ) → CountAlike s (cond big s (with_index s (Some depth)))
index_alike s true depth = λ board. refl
index_alike s false depth = λ board. refl

pub public_alike : (w : Window) (order : Order) (body : List ℕ) (s : State) → order_kind order ≡ Public → is_seen order ≡ false → CountAlike s ((tasks w).after s (task order body))
public_alike w (Ok (Eco word)) body s is unseen = marks_alike w s (Eco word) body refl
public_alike w (Ok (Tag game edit)) body s is unseen = absurd cc
public_alike w (Ok (Delete game)) body s is unseen = marks_alike w s (Delete game) body refl
public_alike w (Ok (Undelete game)) body s is unseen = marks_alike w s (Undelete game) body refl
public_alike w (Ok (Mark game bit on)) body s is unseen = marks_alike w s (Mark game bit on) body refl
public_alike w (Ok (Twins depth)) body s is unseen = marks_alike w s (Twins depth) body refl
public_alike w (Ok (Index (Some depth))) body s is unseen = index_alike s (is_too_big s depth) depth
public_alike w (Ok (Index None)) body s is unseen = λ board. refl
public_alike w (Ok Save) body s is unseen = λ board. refl
public_alike w (Ok Quit) body s is unseen = λ board. refl
public_alike w _ body s is unseen = absurd cc

-- ---- games that are added, and out of the filter

none_in : (query : PosQuery) (n : ℕ) (games : List Held) → tree_hits query (replicate n None) games ≡ []
none_in query zero games = refl
none_in query (suc n) [] = refl
none_in query (suc n) (held ∷ games) = none_in query n games

hits_out : (query : PosQuery) (plies : List (Option ℕ)) (games more : List Held) (n : ℕ) → length plies ≤ length games → tree_hits query (plies ++ replicate n None) (games ++ more) ≡ tree_hits query plies games
hits_out query [] games more n fit = none_in query n (games ++ more)
hits_out query (ply ∷ plies) [] more n fit = absurd (omega (arith, fit))
hits_out query (ply ∷ plies) (held ∷ games) more n fit = ap (λ (hits : List GameHit). option_to_list (hit_if_in query ply held) ++ hits) (hits_out query plies games more n (omega (arith, fit)))

-- The filter of a seat, if a client has one.
abbrev plies_of : Option Seat → List (Option ℕ)
plies_of seat = (unwrap_or seat (first_seat 0)).filter

-- What such a command brings to another seat, behind games that come after those that are there.
brought_out : (query : PosQuery) (order : Order) (before after : Base) (seat : Option Seat) (more : List Held) → order_kind order ≡ Adds → after.games ≡ before.games ++ more
    → length (plies_of seat) ≤ length before.games → tree_hits query (plies_of (option_map (brought order before after) seat)) after.games ≡ tree_hits query (plies_of seat) before.games
brought_out query order before after None more is games fit = refl
brought_out query order before after (Some seat) more is games fit =
    let n = length after.games - length seat.filter in
    ap (λ (m : Moving). tree_hits query (filter_after None m seat.filter) after.games) (some_added order before after is)
    ∙ ap (tree_hits query (seat.filter ++ replicate n None)) games ∙ hits_out query seat.filter before.games more n fit

pub adds_out : (w : Window) (query : PosQuery) (order : Order) (body : List ℕ) (s : State) (seat : Option Seat) → order_kind order ≡ Adds → length (plies_of seat) ≤ length s.shared.base.games
    → tree_hits query (plies_of (option_map (brought order s.shared.base ((tasks w).after s (task order body)).shared.base) seat)) ((tasks w).after s (task order body)).shared.base.games ≡ tree_hits query (plies_of seat) s.shared.base.games
adds_out w query (Ok (Import word)) body s seat is fit =
    let l = imported w s word body in
    brought_out query (Ok (Import word)) s.shared.base ((tasks w).after s (task (Ok (Import word)) body)).shared.base seat l.0 refl l.1 fit
adds_out w query (Ok (Demo seed games)) body s seat is fit =
    let l = made w s seed games body in
    brought_out query (Ok (Demo seed games)) s.shared.base ((tasks w).after s (task (Ok (Demo seed games)) body)).shared.base seat l.0 refl l.1 fit
adds_out w query _ body s seat is fit = absurd cc
