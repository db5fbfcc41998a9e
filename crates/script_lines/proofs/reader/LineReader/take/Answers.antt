use Rattle.std.proofs.lemmas.List.{drop-take}
use Rattle.std.proofs.Common.{rules, arith, vec_len, sym, ◌+◌, ◌≡◌, ◌≤◌, ◌-◌, ℕ, List, ◌++◌, length, take, drop, min, ap, ◌∙◌, subst}
use Rattle.script_lines.specs.Reading.{Reader, most_kept}
use Rattle.script_lines.proofs.ReadingLaws.{kept_more}
use Rattle.script_lines.proofs.reader.LineReader.take.Goals as goal

pub returns-clause-line : goal.returns-clause-line
returns-clause-line c =
    let line : List ℕ = c.self.inside.line.items in
    let unread : List ℕ = drop c.self.inside.from (take c.self.inside.to c.self.inside.piece.items) in
    let P : Reader → Type 0 = λ r. c.extend_from_slice.new.self.items ≡ take most_kept (r.line ++ take c.args.count r.unread) in
    let fits : length line ≤ most_kept = c.self.invariant.3 in
    let from_to : c.self.inside.from + (c.self.inside.to - c.self.inside.from) ≡ c.self.inside.to = omega (arith, c.self.invariant.1) in
    let slice : take (c.self.inside.to - c.self.inside.from) (drop c.self.inside.from c.self.inside.piece.items) ≡ unread =
    sym (drop-take c.self.inside.from (c.self.inside.to - c.self.inside.from) c.self.inside.piece.items)
    ∙ ap (λ n. drop c.self.inside.from (take n c.self.inside.piece.items)) from_to in
    let size : vec_len c.self.inside.line ≡ length line = search rules in
    let part : c.split_at.result.0.now ≡ take (min c.args.count (most_kept - length line)) unread =
    c.split_at.ensures.front
    ∙ ap (λ b. take c.min.result (take (c.self.inside.to - c.self.inside.from) (drop c.self.inside.from b))) c.deref.ensures.value
    ∙ ap (take c.min.result) slice
    ∙ ap (λ n. take n unread) (c.min.ensures ∙ ap (λ k. min c.args.count (most_kept - k)) (c.len-room.ensures ∙ size)) in
    subst P c.self.view_is (c.in_ok-extend_from_slice.ensures.items ∙ ap (λ p. line ++ p) part ∙ kept_more most_kept c.args.count line unread fits)
