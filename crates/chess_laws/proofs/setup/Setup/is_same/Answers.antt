use Rattle.chess_laws.proofs.Words.{◌≡◌, ap, rules, Setup}
use Rattle.chess_laws.proofs.setup.Setup.is_same.Goals as goal

pub returns : goal.returns
returns c =
    let side : c.args.self.now.side ≡ c.args.other.now.side = search rules in
    let square : c.args.self.now.en_passant ≡ c.args.other.now.en_passant = search rules in
    let rights : c.args.self.now.rights ≡ c.args.other.now.rights = search rules in
    record {
      same = (
        (λ h. λ i. record { board = c.is_same.ensures.same.0 h i; side = side i; rights = rights i; en_passant = square i }),
        (λ e. c.is_same.ensures.same.1 (ap (λ (s : Setup). s.board) e)),
      );
    }
