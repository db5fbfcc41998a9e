use Rattle.std.proofs.Common.{rules, ◌≡◌, ◌<◌, ◌∙◌, ℕ, ap, length, map, subst, sym}
use Rattle.std.specs.Prelude.{All}
use Rattle.std.proofs.lemmas.List.{length-map}
use Rattle.game_filter.specs.Renumbering.{renumbered}
use Rattle.pos_index.specs.declared.hit.Hit.{Hit}
use Rattle.pos_index.specs.Keeping.{Listed, moved, rows_seen}
use Rattle.pos_index.proofs.ListedLemmas.{written_back}
use Rattle.pos_index.proofs.SeenLemmas.{games_below, length-seen, moved_kept, with_rows}
use Rattle.pos_index.proofs.lists.Lists.renumber.Goals as goal

pub renumber_lists-requires : goal.renumber_lists-requires
renumber_lists-requires c =
    let list = c.self.inside.lists.items in
    let boards = c.self.inside.rows.items in
    let lists : list ≡ c.as_mut_slice.result.now = search rules in
    let same : length c.args.renumbering.now.to ≡ length boards = c.requires.same_games ∙ ap (λ (l : Listed). length l.rows) (sym c.self.view_is) ∙ length-seen list 0 boards in
    subst (λ (n : ℕ). All (All (λ (h : Hit). h.game < n)) c.as_mut_slice.result.now) (sym same ∙ ap length (sym c.to.ensures.to))
    (subst (All (All (λ (h : Hit). h.game < length boards))) lists (games_below list boards c.self.invariant))

pub apply-requires : goal.apply-requires
apply-requires c = record {
  same_games = c.requires.same_games ∙ ap (λ (l : Listed). length l.rows) (sym c.self.view_is) ∙ length-seen c.self.inside.lists.items 0 c.self.inside.rows.items;
}

pub invariant_of-self : goal.invariant_of-self
invariant_of-self c =
    let to = c.args.renumbering.now.to in
    let list = c.self.inside.lists.items in
    let boards = c.self.inside.rows.items in
    let lists : c.renumber_lists.new.lists ≡ map (moved to) list = search rules in
    rw (c.apply.ensures.stayed, written_back c.renumber_lists.new.lists list c.self.inside.lists.len (search rules), lists)
    (moved_kept list boards c.self.invariant to c.args.renumbering.now.kept c.to.ensures.rises
    (c.requires.same_games ∙ ap (λ (l : Listed). length l.rows) (sym c.self.view_is) ∙ length-seen list 0 boards)).listed

pub returns : goal.returns
returns c =
    let to = c.args.renumbering.now.to in
    let list = c.self.inside.lists.items in
    let boards = c.self.inside.rows.items in
    let lists : c.renumber_lists.new.lists ≡ map (moved to) list = search rules in
    let whole = written_back c.renumber_lists.new.lists list c.self.inside.lists.len (search rules) ∙ lists in
    let kept =
    moved_kept list boards c.self.invariant to c.args.renumbering.now.kept c.to.ensures.rises
    (c.requires.same_games ∙ ap (λ (l : Listed). length l.rows) (sym c.self.view_is) ∙ length-seen list 0 boards) in
    with_rows _ _ (renumbered to c.args.self.now.rows) c.args.self.now
    ((λ j. rows_seen (whole j) 0 (c.apply.ensures.stayed j)) ∙ kept.are ∙ ap (λ (l : Listed). renumbered to l.rows) c.self.view_is)
    (ap length whole ∙ length-map list (moved to) ∙ ap (λ (l : Listed). l.boards) c.self.view_is)
