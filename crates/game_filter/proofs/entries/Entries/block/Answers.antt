use Rattle.std.proofs.Common.{◌≡◌, ◌+◌, ◌*◌, ◌/◌, ◌%◌, ◌==◌, ℕ, ap, sym, refl, ◌∙◌, get_or, arith}
use Rattle.std.specs.Int.{bit_at}
use Rattle.game_filter.proofs.EntryLaws.{entries-size, entry-bit}
use Rattle.game_filter.proofs.entries.Entries.block.Goals as goal

pub index-requires : goal.index-requires
index-requires c =
    let entries = c.self.inside in
    omega (arith, entries-size entries.inside.items entries.plies.items c.args.self.now c.self.view_is, c.requires.games, entries.plies.ok.0, c.self.invariant.1)

pub returns : goal.returns
returns c =
    let entries = c.self.inside in
    let word = c.index.result.now in
    let size = entries-size entries.inside.items entries.plies.items c.args.self.now c.self.view_is in
    record {
      marks = λ j small there.
          let row : (64 * c.args.k + j) / 64 ≡ c.args.k = omega (arith, small) in
          let column : (64 * c.args.k + j) % 64 ≡ j = omega (arith, small) in
          ap (λ (n : ℕ). bit_at word n == 1) (sym column)
          ∙ entry-bit entries.inside.items entries.plies.items c.args.self.now (64 * c.args.k + j) word
          (bit_at word ((64 * c.args.k + j) % 64) == 1) c.self.view_is (omega (arith, size, there))
          (omega (arith, size, there, entries.plies.ok.0, entries.inside.ok.0, c.self.invariant.1))
          (c.index.ensures ∙ ap (λ (n : ℕ). get_or entries.inside.items n word) (sym row)) refl;
    }
