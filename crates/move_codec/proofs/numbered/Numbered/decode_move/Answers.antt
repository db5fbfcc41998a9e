use Rattle.move_codec.proofs.Words.{sym}
use Rattle.move_codec.proofs.Decoding.{Decodes-told, to_decodes}
use Rattle.move_codec.proofs.numbered.Numbered.decode_move.Goals as goal

pub returns : goal.returns
returns c =
    let decodes = to_decodes c.args.self.now c.args.bytes.now c.decode.result (sym c.decode.ensures) in
    let told = Decodes-told c.args.self.now c.args.bytes.now c.decode.result decodes in
    record { decodes = decodes; exact = told.0; used = told.1.0; second = told.1.1 }
