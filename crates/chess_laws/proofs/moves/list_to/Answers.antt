-- What is known to come there has one move to make, which joins the list or is none.
use Rattle.chess_laws.proofs.Words.{true, sym, ◌∙◌, arith, false≢true, IsMove, Known, goes}
use Rattle.chess_laws.proofs.Knowing.{known}
use Rattle.chess_laws.proofs.Listing.{lists_added, lists_known, lists_none, lists_over}
use Rattle.chess_laws.proofs.moves.list_to.Goals as goal

pub is_legal_allowed-requires : goal.is_legal_allowed-requires
is_legal_allowed-requires g c =
    let is = known c.args.p.now c.args.from c.args.to c.args.kind c.requires.stands c.requires.comes c.if-not-is_known.ensures in
    let is' : Known c.args.p.now c.args.from c.args.to c.effect_as-effect.result = rw c.effect_as-effect.ensures is in
    record {
      sound = c.requires.sound;
      king = c.requires.king;
      shut = c.requires.shut;
      effect = is'.effect;
      allowed = is'.allowed;
    }

pub returns-then-not-is_legal_allowed-clause-listed : goal.returns-then-not-is_legal_allowed-clause-listed
returns-then-not-is_legal_allowed-clause-listed g c =
    let is = known c.args.p.now c.args.from c.args.to c.args.kind c.requires.stands c.requires.comes c.if-not-is_known.ensures in
    lists_known c.args.p.now g.row.N c.args.from c.args.to _ c.args.into.now.items true is c.requires.sound c.requires.on_board
    (lists_none c.args.p.now g.row.N _ _ c.args.into.now.items (goes c.args.from c.args.to)
    (λ is. false≢true (sym c.if-not-is_legal_allowed.true ∙ c.is_legal_allowed.ensures.1 is.legal)) c.requires.sound c.requires.on_board c.requires.before (omega arith) (omega arith))

pub returns : goal.returns
returns g c =
    let is = known c.args.p.now c.args.from c.args.to c.args.kind c.requires.stands c.requires.comes c.if-not-is_known.ensures in
    let move : IsMove c.args.p.now (goes c.args.from c.args.to) = record { legal = c.is_legal_allowed.ensures.0 c.if-not-is_legal_allowed.false; leaves = is.leaves } in
    record {
      listed =
          lists_known c.args.p.now g.row.N c.args.from c.args.to _ c.push.new.into.items c.push.result is c.requires.sound c.requires.on_board
          (lists_added c.args.p.now g.row.N _ _ c.args.into.now.items c.push.new.into.items (goes c.args.from c.args.to) c.push.result move
          c.requires.sound c.requires.before c.push.ensures.added c.push.ensures.room (omega arith) (omega arith));
      many =
          lists_over c.args.p.now g.row.N _ c.args.into.now.items (goes c.args.from c.args.to) c.push.result move c.requires.before c.push.ensures.full (omega arith);
    }
