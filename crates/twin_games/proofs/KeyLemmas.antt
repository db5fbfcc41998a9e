-- What is kept of two games is equal exactly where their heads agree and they begin alike.
use Rattle.std.proofs.Common.{◌≡◌, ℕ, ◌&&◌, Option, refl, sym, ap, ◌∙◌, rules}
use Rattle.std.specs.Prelude.{◌==◌, nat_eq}
use Rattle.std.specs.Bool.{Decides}
use Rattle.std.specs.Cmp.Lexicographic.{pointwise}
use Rattle.std.specs.Option.{option_eq}
use Rattle.std.specs.Str.{bytes_eq}
use Rattle.std.proofs.lemmas.Bool.Decides.{Decides-and, Decides-eqb, Decides-like, same_from_decides}
use Rattle.std.proofs.lemmas.Slice.Eq.{slice_eq-Decides}
use Rattle.cell_core.specs.contracts.man.ColourPartialEq.TheImpl as colour
use Rattle.cell_core.specs.contracts.packed.PackedBoardPartialEq.TheImpl as packed
use Rattle.cell_core.specs.contracts.square.SquarePartialEq.TheImpl as square
use Rattle.cell_core.specs.contracts.step.MovePartialEq.TheImpl as move
use Rattle.cell_core.specs.declared.man.Colour.{Colour}
use Rattle.cell_core.specs.declared.step.Move.{Move}
use Rattle.cell_core.specs.Packed.{Packed, men_of}
use Rattle.cell_core.proofs.Packing.{given_back}
use Rattle.chess_laws.specs.declared.setup.Setup.{Setup}
use Rattle.chess_laws.specs.Position.{Sound}
use Rattle.game_tree.specs.Game.{GameTree}
use Rattle.game_tree.specs.contracts.date.DatePartialEq.TheImpl as date
use Rattle.game_tree.specs.contracts.head.OutcomePartialEq.TheImpl as outcome
use Rattle.game_tree.specs.declared.date.Date.{Date}
use Rattle.game_tree.specs.declared.head.Head.{Head}
use Rattle.game_tree.specs.declared.head.Outcome.{Outcome}
use Rattle.twin_games.specs.contracts.opening.StartPartialEq.TheImpl as start
use Rattle.twin_games.specs.declared.meeting.Met.{Met}
use Rattle.twin_games.specs.declared.opening.Start.{Start}
use Rattle.twin_games.specs.declared.pairing.Pairing.{Pairing}
use Rattle.twin_games.specs.Keys.{IsMet, IsPairing, same_met, same_pairing, start_of}
use Rattle.game_tree.specs.Outcome.{outcome_number}
use Rattle.twin_games.specs.Twins.{agrees, begins_like, first_moves, same_date, same_move, same_start}
use Rattle.twin_games.proofs.TestLemmas.{same_bits, same_date-Decides, same_move-Decides, same_outcome-Decides, same_start-Decides}

date_is : (a b : Date) → (date.ghosts).eq a b ≡ same_date a b
date_is a b = same_from_decides ((date.ghosts).eq a b) (same_date a b) (search rules) (same_date-Decides a b)

outcome_is : (a b : Outcome) → (outcome.ghosts).eq a b ≡ (outcome_number a == outcome_number b)
outcome_is a b = same_from_decides ((outcome.ghosts).eq a b) (outcome_number a == outcome_number b) (search rules) (same_outcome-Decides a b)

pub pairing_eq : (q k : Pairing) (a b : Head) → IsPairing q a → IsPairing k b → same_pairing q k ≡ agrees a b
unfolding agrees
pairing_eq q k a b is are =
    (λ i. bytes_eq q.white.now k.white.now && (bytes_eq q.black.now k.black.now && (date_is q.date k.date i && outcome_is q.result k.result i)))
    ∙ (λ i. bytes_eq (is.white i) (are.white i) && (bytes_eq (is.black i) (are.black i)
    && (same_date (is.date i) (are.date i) && (outcome_number (is.result i) == outcome_number (are.result i)))))

move_is : (a b : Move) → (move.ghosts).eq a b ≡ same_move a b
move_is a b = same_from_decides ((move.ghosts).eq a b) (same_move a b) (search rules) (same_move-Decides a b)

same_colour : (a b : Colour) → Decides ((colour.ghosts).eq a b) (a ≡ b)
same_colour a b = search rules

same_packed : (a b : Packed) → Decides ((packed.ghosts).eq a b) (a ≡ b)
same_packed a b =
    Decides-like (pointwise nat_eq a.cells b.cells && (colour.ghosts).eq a.side b.side)
    (λ (h : (a.cells ≡ b.cells) × (a.side ≡ b.side)). λ i. record { cells = h.0 i; side = h.1 i })
    (λ (h : a ≡ b). (ap (λ (p : Packed). p.cells) h, ap (λ (p : Packed). p.side) h))
    (Decides-and (pointwise nat_eq a.cells b.cells) ((colour.ghosts).eq a.side b.side)
    (slice_eq-Decides Decides-eqb a.cells b.cells (pointwise nat_eq a.cells b.cells) refl) (same_colour a.side b.side))

same_square : (a b : Option ℕ) → Decides (option_eq (square.ghosts).eq a b) (a ≡ b)
same_square a b = search rules

starts : (a b : Start) → Decides ((start.ghosts).eq a b) (a ≡ b)
starts a b =
    Decides-like ((packed.ghosts).eq a.board b.board && ((a.rights == b.rights) && option_eq (square.ghosts).eq a.en_passant b.en_passant))
    (λ (h : (a.board ≡ b.board) × ((a.rights ≡ b.rights) × (a.en_passant ≡ b.en_passant))). λ i. record { board = h.0 i; rights = h.1.0 i; en_passant = h.1.1 i })
    (λ (h : a ≡ b). (ap (λ (s : Start). s.board) h, (ap (λ (s : Start). s.rights) h, ap (λ (s : Start). s.en_passant) h)))
    (Decides-and ((packed.ghosts).eq a.board b.board) ((a.rights == b.rights) && option_eq (square.ghosts).eq a.en_passant b.en_passant) (same_packed a.board b.board)
    (Decides-and (a.rights == b.rights) (option_eq (square.ghosts).eq a.en_passant b.en_passant) (Decides-eqb a.rights b.rights) (same_square a.en_passant b.en_passant)))

-- A position is given back.
unpacked : (p q : Setup) → Sound p → Sound q → start_of p ≡ start_of q → p ≡ q
unpacked p q sound sound' same =
    let board : p.board ≡ q.board = sym (given_back p.board sound.squares) ∙ ap (λ (s : Start). men_of s.board.cells) same ∙ given_back q.board sound'.squares in
    let side : p.side ≡ q.side = ap (λ (s : Start). s.board.side) same in
    let rights = same_bits p.rights q.rights (ap (λ (s : Start). s.rights) same) in
    let square : p.en_passant ≡ q.en_passant = ap (λ (s : Start). s.en_passant) same in
    λ i. record { board = board i; side = side i; rights = rights i; en_passant = square i }

start_is : (p q : Setup) → Sound p → Sound q → (start.ghosts).eq (start_of p) (start_of q) ≡ same_start p q
start_is p q sound sound' =
    same_from_decides ((start.ghosts).eq (start_of p) (start_of q)) (same_start p q)
    (Decides-like ((start.ghosts).eq (start_of p) (start_of q)) (unpacked p q sound sound') (λ (h : p ≡ q). ap start_of h) (starts (start_of p) (start_of q)))
    (same_start-Decides p q)

pub met_eq : (depth : ℕ) (q k : Met) (a b : Head) (ga gb : GameTree) → IsMet depth q a ga → IsMet depth k b gb → Sound ga.start → Sound gb.start
    → same_met q k ≡ (agrees a b && begins_like depth ga gb)
unfolding begins_like
met_eq depth q k a b ga gb is are sound sound' =
    let pairings = pairing_eq q.pairing k.pairing a b is.pairing are.pairing in
    let begun : (start.ghosts).eq q.opening.start k.opening.start ≡ same_start ga.start gb.start =
    (λ i. (start.ghosts).eq (is.opening.start i) (are.opening.start i)) ∙ start_is ga.start gb.start sound sound' in
    let moves : pointwise (move.ghosts).eq q.opening.moves.items k.opening.moves.items ≡ pointwise same_move (first_moves depth ga) (first_moves depth gb) =
    (λ i. pointwise (λ (x y : Move). move_is x y i) q.opening.moves.items k.opening.moves.items)
    ∙ (λ i. pointwise same_move (is.opening.moves i) (are.opening.moves i)) in
    λ i. pairings i && (begun i && moves i)
