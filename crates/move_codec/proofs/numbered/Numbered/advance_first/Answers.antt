-- The man with the number of the first byte is the mover's.
use Rattle.move_codec.proofs.Words.{◌≡◌, ◌/◌, Some, arith, common_steps, slice_get, slice_index_or, subst, man_at, man, Numbered, squares_of}
use Rattle.move_codec.proofs.Boards.{numbered-man, numbering_of}
use Rattle.move_codec.proofs.numbered.Numbered.advance_first.Goals as goal

pub advance_by-requires : goal.advance_by-requires
advance_by-requires c =
    let p = c.self.inside.position in
    let squares = squares_of p.side c.self.inside.numbers in
    let here : slice_get squares (slice_index_or c.args.bytes.now 0 0 / 16) ≡ Some c.in-Some.from = cc in
    let there : man_at p.board c.in-Some.from ≡ Some c.in-Some-at.man = cc in
    record {
      first = record {
        stands = subst (λ (n : Numbered). man_at n.position.board c.in-Some.from ≡ Some (man n.position.side c.in-Some-at.man.kind)) c.self.view_is
            (numbered-man p.board p.side squares (slice_index_or c.args.bytes.now 0 0 / 16) c.in-Some.from c.in-Some-at.man
            (numbering_of p.board c.self.inside.numbers c.self.invariant p.side).0 here there);
        number = subst (λ (n : Numbered). slice_get (squares_of n.position.side n.numbers) (slice_index_or c.args.bytes.now 0 0 / 16) ≡ Some c.in-Some.from) c.self.view_is here;
        named = grind (arith, common_steps);
      };
    }
