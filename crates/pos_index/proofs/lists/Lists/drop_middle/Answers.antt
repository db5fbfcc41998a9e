use Rattle.std.proofs.Common.{rules, ◌≡◌, ◌≤◌, ◌<◌, ◌+◌, ◌++◌, ◌∙◌, ap, arith, drop, get_or, length, set, subst, sym, take, List, ℕ, []}
use Rattle.std.specs.Prelude.{All}
use Rattle.std.proofs.lemmas.List.{get_or_default, length-drop}
use Rattle.std.proofs.lemmas.List.Elements.{All-drop, All-take}
use Rattle.pos_index.specs.declared.hit.Hit.{Hit}
use Rattle.pos_index.specs.Keeping.{AreListed, Listed, row_in, rows_seen, with_row}
use Rattle.pos_index.proofs.ListedLemmas.{written_back}
use Rattle.pos_index.proofs.SeenLemmas.{all_known, game_there, middle_kept, row_length, with_rows}
use Rattle.pos_index.proofs.lists.Lists.drop_middle.Goals as goal

pub index-requires : goal.index-requires
index-requires c =
    omega (arith, game_there c.self.inside.lists.items c.self.inside.rows.items c.args.self.now c.self.invariant c.self.view_is c.args.i c.requires.game)

pub split_at-requires : goal.split_at-requires
split_at-requires c =
    let lists = c.self.inside.lists.items in
    let boards = c.self.inside.rows.items in
    let there = game_there lists boards c.args.self.now c.self.invariant c.self.view_is c.args.i c.requires.game in
    let on : c.boards.result.now ≡ get_or boards c.args.i [] = c.boards.ensures ∙ c.index.ensures ∙ get_or_default boards c.args.i c.index.result.now [] there in
    let long : c.args.from + c.args.count ≤ length (get_or boards c.args.i []) =
    omega (arith, c.requires.spots, row_length lists boards c.args.self.now c.self.invariant c.self.view_is c.args.i c.requires.game) in
    omega (arith, long, ap length on)

pub split_at-requires-2 : goal.split_at-requires-2
split_at-requires-2 c =
    let lists = c.self.inside.lists.items in
    let boards = c.self.inside.rows.items in
    let there = game_there lists boards c.args.self.now c.self.invariant c.self.view_is c.args.i c.requires.game in
    let on : c.boards.result.now ≡ get_or boards c.args.i [] = c.boards.ensures ∙ c.index.ensures ∙ get_or_default boards c.args.i c.index.result.now [] there in
    let long : c.args.from + c.args.count ≤ length (get_or boards c.args.i []) =
    omega (arith, c.requires.spots, row_length lists boards c.args.self.now c.self.invariant c.self.view_is c.args.i c.requires.game) in
    omega (arith, long, ap length on, ap length c.split_at.ensures.back, length-drop c.args.from c.boards.result.now)

pub take_middle-requires : goal.take_middle-requires
take_middle-requires c =
    let lists = c.self.inside.lists.items in
    let boards = c.self.inside.rows.items in
    let there = game_there lists boards c.args.self.now c.self.invariant c.self.view_is c.args.i c.requires.game in
    let on : c.boards.result.now ≡ get_or boards c.args.i [] = c.boards.ensures ∙ c.index.ensures ∙ get_or_default boards c.args.i c.index.result.now [] there in
    let long : c.args.from + c.args.count ≤ length (get_or boards c.args.i []) =
    omega (arith, c.requires.spots, row_length lists boards c.args.self.now c.self.invariant c.self.view_is c.args.i c.requires.game) in
    let middle : c.split_at-2.result.0.now ≡ take c.args.count (drop c.args.from (get_or boards c.args.i [])) =
    c.split_at-2.ensures.front ∙ ap (take c.args.count) (c.split_at.ensures.back ∙ ap (drop c.args.from) on) in
    subst (λ (n : ℕ). All (λ (board : ℕ). board < n) c.split_at-2.result.0.now) (ap length (sym c.as_mut_slice.ensures.value))
    (subst (All (λ (board : ℕ). board < length lists)) (sym middle)
    (All-take (λ (board : ℕ). board < length lists) c.args.count (drop c.args.from (get_or boards c.args.i []))
    (All-drop (λ (board : ℕ). board < length lists) c.args.from (get_or boards c.args.i []) (all_known lists boards c.self.invariant c.args.i there))))

pub index_mut-requires : goal.index_mut-requires
index_mut-requires c =
    omega (arith, game_there c.self.inside.lists.items c.self.inside.rows.items c.args.self.now c.self.invariant c.self.view_is c.args.i c.requires.game)

pub drop_middle-requires : goal.drop_middle-requires
drop_middle-requires c =
    let lists = c.self.inside.lists.items in
    let boards = c.self.inside.rows.items in
    let there = game_there lists boards c.args.self.now c.self.invariant c.self.view_is c.args.i c.requires.game in
    let on : c.boards.result.now ≡ get_or boards c.args.i [] = c.boards.ensures ∙ c.index.ensures ∙ get_or_default boards c.args.i c.index.result.now [] there in
    let long : c.args.from + c.args.count ≤ length (get_or boards c.args.i []) =
    omega (arith, c.requires.spots, row_length lists boards c.args.self.now c.self.invariant c.self.view_is c.args.i c.requires.game) in
    omega (arith, long, ap length (c.index_mut.ensures.value ∙ get_or_default boards c.args.i c.index_mut.result.now [] there))

pub invariant_of-self : goal.invariant_of-self
invariant_of-self c =
    let lists = c.self.inside.lists.items in
    let boards = c.self.inside.rows.items in
    let there = game_there lists boards c.args.self.now c.self.invariant c.self.view_is c.args.i c.requires.game in
    let on : c.boards.result.now ≡ get_or boards c.args.i [] = c.boards.ensures ∙ c.index.ensures ∙ get_or_default boards c.args.i c.index.result.now [] there in
    let long : c.args.from + c.args.count ≤ length (get_or boards c.args.i []) =
    omega (arith, c.requires.spots, row_length lists boards c.args.self.now c.self.invariant c.self.view_is c.args.i c.requires.game) in
    let middle : c.split_at-2.result.0.now ≡ take c.args.count (drop c.args.from (get_or boards c.args.i [])) =
    c.split_at-2.ensures.front ∙ ap (take c.args.count) (c.split_at.ensures.back ∙ ap (drop c.args.from) on) in
    let row : c.index_mut.result.now ≡ get_or boards c.args.i [] = c.index_mut.ensures.value ∙ get_or_default boards c.args.i c.index_mut.result.now [] there in
    let kept =
    middle_kept lists boards c.self.invariant c.args.i there c.args.from c.args.count c.split_at.result.0.now c.split_at-2.result.0.now c.drop_middle.new.self c.take_middle.new.lists
    (c.split_at.ensures.front ∙ ap (take c.args.from) on) middle
    (λ rows before spots behind lt is ahead on_boards listed. c.take_middle.ensures.taken rows before spots behind lt is ahead on_boards (subst (λ (l : List (List Hit)). AreListed l rows) (sym c.as_mut_slice.ensures.value) listed))
    (c.drop_middle.ensures ∙ ap (λ (r : List ℕ). take c.args.from r ++ drop (c.args.from + c.args.count) r) row) in
    let whole : take c.self.inside.lists.len (c.take_middle.new.lists ++ drop (length c.take_middle.new.lists) lists) ≡ c.take_middle.new.lists =
    written_back c.take_middle.new.lists lists c.self.inside.lists.len (search (rules, c.take_middle.ensures.len)) in
    subst (λ (l : List (List Hit)). AreListed l (rows_seen l 0 (set boards c.args.i c.drop_middle.new.self))) (sym whole) kept.listed

pub returns : goal.returns
returns c =
    let lists = c.self.inside.lists.items in
    let boards = c.self.inside.rows.items in
    let there = game_there lists boards c.args.self.now c.self.invariant c.self.view_is c.args.i c.requires.game in
    let on : c.boards.result.now ≡ get_or boards c.args.i [] = c.boards.ensures ∙ c.index.ensures ∙ get_or_default boards c.args.i c.index.result.now [] there in
    let long : c.args.from + c.args.count ≤ length (get_or boards c.args.i []) =
    omega (arith, c.requires.spots, row_length lists boards c.args.self.now c.self.invariant c.self.view_is c.args.i c.requires.game) in
    let middle : c.split_at-2.result.0.now ≡ take c.args.count (drop c.args.from (get_or boards c.args.i [])) =
    c.split_at-2.ensures.front ∙ ap (take c.args.count) (c.split_at.ensures.back ∙ ap (drop c.args.from) on) in
    let row : c.index_mut.result.now ≡ get_or boards c.args.i [] = c.index_mut.ensures.value ∙ get_or_default boards c.args.i c.index_mut.result.now [] there in
    let kept =
    middle_kept lists boards c.self.invariant c.args.i there c.args.from c.args.count c.split_at.result.0.now c.split_at-2.result.0.now c.drop_middle.new.self c.take_middle.new.lists
    (c.split_at.ensures.front ∙ ap (take c.args.from) on) middle
    (λ rows before spots behind lt is ahead on_boards listed. c.take_middle.ensures.taken rows before spots behind lt is ahead on_boards (subst (λ (l : List (List Hit)). AreListed l rows) (sym c.as_mut_slice.ensures.value) listed))
    (c.drop_middle.ensures ∙ ap (λ (r : List ℕ). take c.args.from r ++ drop (c.args.from + c.args.count) r) row) in
    let whole : take c.self.inside.lists.len (c.take_middle.new.lists ++ drop (length c.take_middle.new.lists) lists) ≡ c.take_middle.new.lists =
    written_back c.take_middle.new.lists lists c.self.inside.lists.len (search (rules, c.take_middle.ensures.len)) in
    with_rows _ _ _ c.args.self.now
    (ap (λ (l : List (List Hit)). rows_seen l 0 (set boards c.args.i c.drop_middle.new.self)) whole ∙ kept.are
    ∙ ap (λ (l : Listed). with_row l.rows c.args.i (take c.args.from (row_in l.rows c.args.i) ++ drop (c.args.from + c.args.count) (row_in l.rows c.args.i))) c.self.view_is)
    (ap length whole ∙ c.take_middle.ensures.len ∙ ap length c.as_mut_slice.ensures.value ∙ ap (λ (l : Listed). l.boards) c.self.view_is)
