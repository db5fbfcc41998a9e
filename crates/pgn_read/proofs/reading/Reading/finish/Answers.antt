use Rattle.std.proofs.Common.{◌≡◌, ◌∙◌, ℕ, List, Option, refl, ap}
use Rattle.chess_laws.specs.declared.setup.Setup.{Setup}
use Rattle.game_tree.specs.Tree.{Line, Variation}
use Rattle.game_tree.specs.Building.{Building, read_line}
use Rattle.game_tree.specs.Game.{GameTree}
use Rattle.pgn_read.specs.Reading.{Reading, game_of}
use Rattle.pgn_read.proofs.LegalLaws.{fit_game}
use Rattle.pgn_read.proofs.reading.Reading.finish.Goals as goal

same_parts : (r : Reading) (start : Setup) (lead : Option (List ℕ)) (line : Line) → start ≡ r.start → lead ≡ r.moves.current.lead
    → line ≡ read_line r.moves.current → ◌≡◌ {A = GameTree} (record { start = start; lead = lead; line = line }) (game_of r)
same_parts r start lead line a b d = rw a rw b rw d refl

pub returns-clause-good : goal.returns-clause-good
returns-clause-good c =
    let start = ap (λ (r : Reading). r.start) c.self.view_is in
    let moves = ap (λ (r : Reading). r.moves) c.self.view_is in
    let lead = ap (λ (v : Variation). v.lead) c.lead.view_is ∙ c.in_ok-lead.ensures.lead ∙ ap (λ (b : Building). b.current.lead) moves in
    let line = ap (λ (v : Variation). v.line) c.lead.view_is ∙ c.in_ok-lead.ensures.line ∙ ap (λ (b : Building). read_line b.current) moves in
    fit_game c.args.self c.in_ok-head.head _ c.requires.legal c.requires.outside (same_parts c.args.self _ _ _ start lead line)
    c.in_ok-head.ensures.bounded c.in_ok-head.ensures.settled
