use Rattle.std.proofs.Common.{rules, ◌≡◌, ◌<◌, ◌++◌, ◌∙◌, ap, arith, drop, get_or, length, min, set, subst, sym, take, List, ℕ, []}
use Rattle.std.specs.Prelude.{All}
use Rattle.std.proofs.lemmas.List.{get_or_default}
use Rattle.std.proofs.lemmas.List.Elements.{All-drop}
use Rattle.pos_index.specs.declared.hit.Hit.{Hit}
use Rattle.pos_index.specs.Keeping.{AreListed, Listed, row_in, rows_seen, with_row}
use Rattle.pos_index.proofs.ListedLemmas.{written_back}
use Rattle.pos_index.proofs.SeenLemmas.{all_known, game_there, lasts_kept, own_length, taken_few, with_rows}
use Rattle.pos_index.proofs.lists.Lists.truncate.Goals as goal

pub index-requires : goal.index-requires
index-requires c =
    omega (arith, game_there c.self.inside.lists.items c.self.inside.rows.items c.args.self.now c.self.invariant c.self.view_is c.args.i c.requires.game)

pub take_lasts-requires : goal.take_lasts-requires
take_lasts-requires c =
    let lists = c.self.inside.lists.items in
    let boards = c.self.inside.rows.items in
    let there = game_there lists boards c.args.self.now c.self.invariant c.self.view_is c.args.i c.requires.game in
    let on : c.boards-boards.result.now ≡ get_or boards c.args.i [] = c.boards-boards.ensures ∙ c.index.ensures ∙ get_or_default boards c.args.i c.index.result.now [] there in
    subst (λ (n : ℕ). All (λ (board : ℕ). board < n) c.split_at.result.1.now) (ap length (sym c.as_mut_slice.ensures.value))
    (subst (All (λ (board : ℕ). board < length lists)) (sym (c.split_at.ensures.back ∙ ap (drop c.min-kept.result) on))
    (All-drop (λ (board : ℕ). board < length lists) c.min-kept.result (get_or boards c.args.i []) (all_known lists boards c.self.invariant c.args.i there)))

pub index_mut-requires : goal.index_mut-requires
index_mut-requires c =
    omega (arith, game_there c.self.inside.lists.items c.self.inside.rows.items c.args.self.now c.self.invariant c.self.view_is c.args.i c.requires.game)

pub invariant_of-self : goal.invariant_of-self
invariant_of-self c =
    let lists = c.self.inside.lists.items in
    let boards = c.self.inside.rows.items in
    let there = game_there lists boards c.args.self.now c.self.invariant c.self.view_is c.args.i c.requires.game in
    let on : c.boards-boards.result.now ≡ get_or boards c.args.i [] = c.boards-boards.ensures ∙ c.index.ensures ∙ get_or_default boards c.args.i c.index.result.now [] there in
    let row : c.index_mut.result.now ≡ get_or boards c.args.i [] = c.index_mut.ensures.value ∙ get_or_default boards c.args.i c.index_mut.result.now [] there in
    let kept =
    lasts_kept lists boards c.self.invariant c.args.i there c.min-kept.result c.split_at.result.1.now c.truncate.new.self c.take_lasts.new.lists
    (c.split_at.ensures.back ∙ ap (drop c.min-kept.result) on)
    (λ rows front spots lt is on_boards listed. c.take_lasts.ensures.taken rows front spots lt is on_boards (subst (λ (l : List (List Hit)). AreListed l rows) (sym c.as_mut_slice.ensures.value) listed))
    (c.truncate.ensures ∙ ap (take c.min-kept.result) row) in
    let whole : take c.self.inside.lists.len (c.take_lasts.new.lists ++ drop (length c.take_lasts.new.lists) lists) ≡ c.take_lasts.new.lists =
    written_back c.take_lasts.new.lists lists c.self.inside.lists.len (search (rules, c.take_lasts.ensures.len)) in
    subst (λ (l : List (List Hit)). AreListed l (rows_seen l 0 (set boards c.args.i c.truncate.new.self))) (sym whole) kept.listed

pub returns : goal.returns
returns c =
    let lists = c.self.inside.lists.items in
    let boards = c.self.inside.rows.items in
    let there = game_there lists boards c.args.self.now c.self.invariant c.self.view_is c.args.i c.requires.game in
    let on : c.boards-boards.result.now ≡ get_or boards c.args.i [] = c.boards-boards.ensures ∙ c.index.ensures ∙ get_or_default boards c.args.i c.index.result.now [] there in
    let row : c.index_mut.result.now ≡ get_or boards c.args.i [] = c.index_mut.ensures.value ∙ get_or_default boards c.args.i c.index_mut.result.now [] there in
    let few : c.min-kept.result ≡ min c.args.count (length (get_or boards c.args.i [])) = c.min-kept.ensures ∙ ap (λ (l : List ℕ). min c.args.count (length l)) on in
    let kept =
    lasts_kept lists boards c.self.invariant c.args.i there c.min-kept.result c.split_at.result.1.now c.truncate.new.self c.take_lasts.new.lists
    (c.split_at.ensures.back ∙ ap (drop c.min-kept.result) on)
    (λ rows front spots lt is on_boards listed. c.take_lasts.ensures.taken rows front spots lt is on_boards (subst (λ (l : List (List Hit)). AreListed l rows) (sym c.as_mut_slice.ensures.value) listed))
    (c.truncate.ensures ∙ ap (take c.min-kept.result) row) in
    let whole : take c.self.inside.lists.len (c.take_lasts.new.lists ++ drop (length c.take_lasts.new.lists) lists) ≡ c.take_lasts.new.lists =
    written_back c.take_lasts.new.lists lists c.self.inside.lists.len (search (rules, c.take_lasts.ensures.len)) in
    let rows = rows_seen lists 0 boards in
    let own : take c.min-kept.result (row_in rows c.args.i) ≡ take c.args.count (row_in rows c.args.i) =
    taken_few c.args.count c.min-kept.result (row_in rows c.args.i) (few ∙ ap (min c.args.count) (sym (own_length lists boards c.self.invariant c.args.i there))) in
    with_rows _ _ _ c.args.self.now
    (ap (λ (l : List (List Hit)). rows_seen l 0 (set boards c.args.i c.truncate.new.self)) whole ∙ kept.are
    ∙ ap (with_row rows c.args.i) own ∙ ap (λ (l : Listed). with_row l.rows c.args.i (take c.args.count (row_in l.rows c.args.i))) c.self.view_is)
    (ap length whole ∙ c.take_lasts.ensures.len ∙ ap length c.as_mut_slice.ensures.value ∙ ap (λ (l : Listed). l.boards) c.self.view_is)
