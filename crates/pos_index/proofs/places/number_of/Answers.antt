use Rattle.std.proofs.Common.{rules, ◌∙◌, sym}
use Rattle.std.proofs.lemmas.Option.{get_or_from_slice_get}
use Rattle.pos_index.proofs.KeyLemmas.{no_board, packed_eq-Decides}
use Rattle.pos_index.proofs.places.number_of.Goals as goal

pub returns-clause-number : goal.returns-clause-number
returns-clause-number c =
    let stored = c.in_ok-number.ensures.stored in
    record {
      within = search rules;
      board_is =
          get_or_from_slice_get c.insert_full.new.self.keys c.in_ok-number.number stored.0 no_board stored.1
          ∙ sym ((packed_eq-Decides c.args.board stored.0).0 stored.2);
    }
