use Rattle.std.proofs.Common.{◌≡◌, ◌≤◌, [], ℕ, OnOk, length, arith, subst, Option, List, ◌∙◌}
use Rattle.std.proofs.lemmas.List.{length-map}
use Rattle.base_core.specs.Entries.{head_of}
use Rattle.base_core.specs.Represents.{heads_of}
use Rattle.base_files.proofs.Telling.{Grew-trans}
use Rattle.base_files.specs.Told.{Grew, adds}
use Rattle.shell_state.specs.Lines.{filter_line}
use Rattle.text_commands.proofs.ListingLaws.{head_there}
use Rattle.text_commands.proofs.TextLaws.{all_more, begun_more, begun_waiting, put_more}
use Rattle.text_commands.proofs.listing.put_list.Given as given
use Rattle.text_commands.proofs.listing.put_list.Goals as goal
use Rattle.text_commands.specs.Listing.{list_of, listed_if_in}

pub returns-in_err-put_game-clause-none_lost : goal.returns-in_err-put_game-clause-none_lost
returns-in_err-put_game-clause-none_lost g c = Grew-trans _ _ _ c.loop-i.invariant.none_lost c.put_game.ensures.none_lost

pub returns-in_err-put_game-clause-no_more : goal.returns-in_err-put_game-clause-no_more
returns-in_err-put_game-clause-no_more g c =
    let head = head_there c.args.base.now c.loop-i.i (omega (arith, c.loop-i-test.true, c.len-i-end.ensures.len, c.requires.games)) in
    begun_more listed_if_in _ _ _ _ c.loop-i.i c.args.filter.now (heads_of c.args.base.now) c.get.result head.0 (filter_line c.args.filter.now) c.get.ensures.entry head.1
    c.loop-i.invariant.lines (c.put_game.ensures.no_more head.0 head.1)

pub loop-i-preserved : goal.loop-i-preserved
loop-i-preserved g c =
    let head = head_there c.args.base.now c.loop-i.i (omega (arith, c.loop-i-test.true, c.len-i-end.ensures.len, c.requires.games)) in
    record {
      lines = put_more listed_if_in _ _ _ _ _ c.loop-i.i c.args.filter.now (heads_of c.args.base.now) c.get.result head.0 c.get.ensures.entry head.1
          c.loop-i.invariant.lines (c.in_ok-put_game.ensures.put head.0 head.1);
      none_lost = Grew-trans _ _ _ c.loop-i.invariant.none_lost c.put_game.ensures.none_lost;
      counts = omega (arith, c.loop-i.invariant.counts, c.put_game.ensures.counts);
    }

pub returns-in_err-push_count-clause-no_more : goal.returns-in_err-push_count-clause-no_more
returns-in_err-push_count-clause-no_more g c =
    begun_waiting listed_if_in _ _ _ c.loop-i.i c.args.filter.now (heads_of c.args.base.now) (filter_line c.args.filter.now) c.loop-i.invariant.lines

-- What was taken and the last piece are the whole text.
whole_text : (g : given.Over) (c : goal.After-write_all g) → adds (g.K.Sink.taken c.loop-i.out) c.as_slice.result.now ≡ adds (g.K.Sink.taken c.args.out.now) (list_of c.args.filter.now (heads_of c.args.base.now))
whole_text g c =
    let all : length c.args.filter.now ≤ c.loop-i.i = omega (arith, c.loop-i-test.false, c.len-i-end.ensures.len) in
    let every : length (heads_of c.args.base.now) ≤ c.loop-i.i =
    omega (arith, all, c.requires.games, length-map c.args.base.now.entries (λ e. head_of c.args.base.now.names e [])) in
    all_more listed_if_in _ _ _ _ c.loop-i.i c.args.filter.now (heads_of c.args.base.now) (filter_line c.args.filter.now) all every c.loop-i.invariant.lines
    (c.as_slice.ensures.value ∙ c.in_ok-push_count.ensures)

pub returns-clause-written : goal.returns-clause-written
returns-clause-written g c =
    let P : Option (List ℕ) → Type 0 = λ t. OnOk c.write_all.result (g.K.Sink.taken c.write_all.new.sink ≡ t) in
    subst P (whole_text g c) c.write_all.ensures.added

pub returns-clause-none_lost : goal.returns-clause-none_lost
returns-clause-none_lost g c = Grew-trans _ _ _ c.loop-i.invariant.none_lost c.write_all.ensures.none_lost

pub returns-clause-no_more : goal.returns-clause-no_more
returns-clause-no_more g c =
    let P : Option (List ℕ) → Type 0 = λ t. Grew (g.K.Sink.taken c.write_all.new.sink) t in
    subst P (whole_text g c) c.write_all.ensures.no_more
