use Rattle.std.proofs.Common.{◌≡◌, ℕ, Option, None, Some, List, [], ◌++◌, refl, rules, sym, ap, ◌∙◌}
use Rattle.std.proofs.lemmas.List.{append-nil}
use Rattle.std.specs.Prelude.{option_to_list}
use Rattle.base_core.specs.Base.{Held}
use Rattle.sig_index.specs.declared.pos_query.PosQuery.{PosQuery}
use Rattle.tree_rows.specs.Rows.{rows_of}
use Rattle.tree_rows.specs.declared.hit.GameHit.{GameHit}
use Rattle.shell_state.specs.Meeting.{hit_if_in}
use Rattle.shell_state.specs.Slots.{hit_of_game}
use Rattle.search_commands.proofs.trees.add_game.Goals as goal

-- A game that does not meet the position adds no hit.
none_in : (query : PosQuery) (ply : Option ℕ) (held : Held) → None ≡ hit_of_game query held → None ≡ hit_if_in query ply held
none_in query (Some ply) held none = none
none_in query None held none = refl

pub returns-then-is_passed-clause-added : goal.returns-then-is_passed-clause-added
returns-then-is_passed-clause-added g c = λ contents all held index hits same is at told indexed summed.
    let none = c.is_passed.ensures.none contents all held index (search rules) is at told indexed in
    summed ∙ ap rows_of (sym (append-nil hits) ∙ ap (λ (hit : Option GameHit). hits ++ option_to_list hit) (none_in c.args.query.now c.args.ply held none))
