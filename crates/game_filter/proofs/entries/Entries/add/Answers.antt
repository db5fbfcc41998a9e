use Rattle.std.proofs.Common.{◌≡◌, ◌<◌, ◌++◌, ◌∷◌, [], ℕ, List, arith, ap, length, ◌∙◌}
use Rattle.std.specs.Vec.{vec_len}
use Rattle.game_filter.specs.Entries.{has_bit}
use Rattle.game_filter.specs.declared.entries.Entries.TheInside.{Inside}
use Rattle.game_filter.proofs.EntryLaws.{entries-size, entries-more, word-more, length-entries}
use Rattle.game_filter.proofs.entries.Entries.add.Goals.{then-len-eq0+in_ok-push, else-len-eq0}
use Rattle.game_filter.proofs.entries.Entries.add.Goals as goal

pub invariant_of-self-2 : goal.invariant_of-self-2
invariant_of-self-2 c =
    let entries = c.self.inside in
    let size = entries-size entries.inside.items entries.plies.items c.args.self.now c.self.view_is in
    elim c.if-len-eq0.branch [
      | then-len-eq0+in_ok-push w ↦
          let plies = ap (λ (e : Inside). vec_len e.plies) w.self-inside-is in
          let words = ap (λ (e : Inside). vec_len e.inside) w.self-inside-is in (
            omega (arith, c.in_ok-push-2.ensures.len, plies, c.in_ok-reserve.ensures.len, size, entries.plies.ok.0, c.requires.room),
            omega (arith, c.in_ok-push-2.ensures.len, plies, words, c.in_ok-reserve.ensures.len, w.in_ok-push.ensures.len, c.self.invariant.1, c.len.ensures, w.if-len-eq0.true),
          )
      | else-len-eq0 w ↦
          let plies = ap (λ (e : Inside). vec_len e.plies) w.self-inside-is in
          let words = ap (λ (e : Inside). vec_len e.inside) w.self-inside-is in (
            omega (arith, c.in_ok-push-2.ensures.len, plies, c.in_ok-reserve.ensures.len, size, entries.plies.ok.0, c.requires.room),
            omega (arith, c.in_ok-push-2.ensures.len, plies, words, c.in_ok-reserve.ensures.len, c.self.invariant.1, c.len.ensures, w.if-len-eq0.false),
          )
    ]

-- The games before the new one keep their plies and their bits.
kept : (c : goal.In_ok-push-2) → (c.if-len-eq0.self-inside.plies.items ≡ c.self.inside.plies.items)
    × ((j : ℕ) → j < length c.self.inside.plies.items → has_bit c.if-len-eq0.self-inside.inside.items j ≡ has_bit c.self.inside.inside.items j)
kept c =
    let entries = c.self.inside in
    elim c.if-len-eq0.branch [
      | then-len-eq0+in_ok-push w ↦ (
        ap (λ (e : Inside). e.plies.items) w.self-inside-is ∙ c.in_ok-reserve.ensures.items,
        word-more entries.inside.items c.if-len-eq0.self-inside.inside.items (length entries.plies.items)
            (omega (arith, entries.plies.ok.0, entries.inside.ok.0, c.self.invariant.1))
            (ap (λ (e : Inside). e.inside.items) w.self-inside-is ∙ w.in_ok-push.ensures.items),
      )
      | else-len-eq0 w ↦ (
        ap (λ (e : Inside). e.plies.items) w.self-inside-is ∙ c.in_ok-reserve.ensures.items,
        λ j below. ap (λ (e : Inside). has_bit e.inside.items j) w.self-inside-is,
      )
    ]

pub returns-clause-kept : goal.returns-clause-kept
returns-clause-kept c =
    let entries = c.self.inside in
    let more = c.in_ok-push-2.ensures.items ∙ ap (λ (l : List ℕ). l ++ 0 ∷ []) (kept c).0 in
    entries-more entries.inside.items entries.plies.items c.if-len-eq0.self-inside.inside.items c.push-2.new.self.items c.args.self.now 0 c.self.view_is more (kept c).1

pub returns-clause-one_more : goal.returns-clause-one_more
returns-clause-one_more c =
    let entries = c.self.inside in
    let now = length-entries 0 c.if-len-eq0.self-inside.inside.items c.push-2.new.self.items in
    let plies = c.if-len-eq0.self-inside.plies in
    omega (
      arith,
      now,
      entries-size entries.inside.items entries.plies.items c.args.self.now c.self.view_is,
      c.in_ok-push-2.ensures.len,
      c.push-2.new.self.ok.0,
      ap (λ (l : List ℕ). length l) (kept c).0,
      plies.ok.0,
    )
