use Rattle.move_codec.proofs.Decoding.{Decodes-told}
use Rattle.move_codec.proofs.numbered.Numbered.advance.Goals as goal

pub returns : goal.returns
returns c =
    let h = c.advance_first.ensures.advances in
    let told = Decodes-told c.args.self.now c.args.bytes.now c.advance_first.result h.decodes in
    record { decodes = h.decodes; exact = told.0; used = told.1.0; second = told.1.1; step = h.step; numbers = h.numbers; kept = h.kept }
