-- What is named is what the bytes decode to, where it is legal.
use Rattle.move_codec.proofs.Words.{◌≡◌, ◌∙◌, ◌/◌, refl, sym, subst, Some, slice_get, slice_index_or, err_from_is_err_and, man_at, man, squares_of}
use Rattle.move_codec.proofs.Decoding.{Decodes-fault, named-from}
use Rattle.move_codec.proofs.numbered.Numbered.advance_man.Goals as goal

pub returns-in_err-m : goal.returns-in_err-m
returns-in_err-m c =
    let p = err_from_is_err_and c.from_residual.result c.from_residual.ensures.1 in
    let decodes = Decodes-fault c.args.self.now c.args.bytes.now c.in_err-m.field-0.0 (sym c.named_by.ensures ∙ c.in_err-m.was) in
    rw (p.1, p.2) (record { advances = record { decodes = decodes; step = tt; numbers = tt; kept = refl } })

pub follow_legal-requires : goal.follow_legal-requires
follow_legal-requires c =
    let n = c.args.self.now in
    let here : c.in_ok-m.m.from ≡ c.args.from =
    named-from c.args.kind n.position.side c.args.from _ c.args.rest.now (c.in_ok-m.m, c.in_ok-m.used) (sym c.requires.first.named ∙ sym c.named_by.ensures ∙ c.in_ok-m.was) in
    record {
      stands = subst (λ s. man_at n.position.board s ≡ Some (man n.position.side c.args.kind)) (sym here) c.requires.first.stands;
      number = rw c.first_byte.ensures.byte (subst (λ s. slice_get (squares_of n.position.side n.numbers) (slice_index_or c.args.bytes.now 0 0 / 16) ≡ Some s) (sym here) c.requires.first.number);
    }
