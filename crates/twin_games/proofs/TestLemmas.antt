-- The tests decide whether heads agree and whether games begin alike.
use Rattle.std.proofs.Common.{◌≡◌, ℕ, Bool, true, false, ◌&&◌, Option, Some, None, refl, sym, ap, ◌∙◌, rules}
use Rattle.std.specs.Prelude.{◌==◌, nat_eq}
use Rattle.std.specs.Bool.{Decides}
use Rattle.std.specs.Cmp.Lexicographic.{pointwise}
use Rattle.std.specs.Option.{option_eq}
use Rattle.std.specs.Str.{bytes_eq}
use Rattle.std.proofs.lemmas.Bool.Decides.{Decides-and, Decides-eqb, Decides-like}
use Rattle.std.proofs.lemmas.Slice.Eq.{bytes_eq-Decides, slice_eq-Decides}
use Rattle.cell_core.specs.declared.step.Move.{Move}
use Rattle.cell_core.specs.Board.{same_men}
use Rattle.cell_core.specs.Man.{same_colour, same_kind}
use Rattle.cell_core.proofs.Same.{same_colour-Decides, same_kind-Decides, same_men-Decides}
use Rattle.chess_laws.specs.declared.setup.Rights.{Rights}
use Rattle.chess_laws.specs.declared.setup.Setup.{Setup}
use Rattle.chess_laws.specs.Position.{bits_of, has_bit}
use Rattle.game_tree.specs.Game.{GameTree}
use Rattle.game_tree.specs.declared.date.Date.{Date}
use Rattle.game_tree.specs.declared.head.Head.{Head}
use Rattle.game_tree.specs.declared.head.Outcome.{Outcome}
use Rattle.game_tree.specs.Outcome.{outcome_number}
use Rattle.twin_games.specs.Twins.{Agree, BeginAlike, agrees, begins_like, first_moves, same_date, same_move, same_start}

pub same_date-Decides : (a b : Date) → Decides (same_date a b) (a ≡ b)
same_date-Decides a b =
    Decides-like (same_date a b)
    (λ (h : (a.year ≡ b.year) × ((a.month ≡ b.month) × (a.day ≡ b.day))). λ i. record { year = h.0 i; month = h.1.0 i; day = h.1.1 i })
    (λ (h : a ≡ b). (ap (λ (d : Date). d.year) h, (ap (λ (d : Date). d.month) h, ap (λ (d : Date). d.day) h)))
    (Decides-and (a.year == b.year) ((a.month == b.month) && (a.day == b.day)) (Decides-eqb a.year b.year)
    (Decides-and (a.month == b.month) (a.day == b.day) (Decides-eqb a.month b.month) (Decides-eqb a.day b.day)))

pub same_outcome-Decides : (a b : Outcome) → Decides (outcome_number a == outcome_number b) (a ≡ b)
same_outcome-Decides a b = search rules

pub agrees-Decides : (a b : Head) → Decides (agrees a b) (Agree a b)
unfolding agrees
agrees-Decides a b =
    Decides-like (bytes_eq a.white b.white && (bytes_eq a.black b.black && (same_date a.date b.date && (outcome_number a.result == outcome_number b.result))))
    (λ (h : (a.white ≡ b.white) × ((a.black ≡ b.black) × ((a.date ≡ b.date) × (a.result ≡ b.result)))). record { white = h.0; black = h.1.0; date = h.1.1.0; result = h.1.1.1 })
    (λ (h : Agree a b). (h.white, (h.black, (h.date, h.result))))
    (Decides-and (bytes_eq a.white b.white) (bytes_eq a.black b.black && (same_date a.date b.date && (outcome_number a.result == outcome_number b.result))) (bytes_eq-Decides a.white b.white)
    (Decides-and (bytes_eq a.black b.black) (same_date a.date b.date && (outcome_number a.result == outcome_number b.result)) (bytes_eq-Decides a.black b.black)
    (Decides-and (same_date a.date b.date) (outcome_number a.result == outcome_number b.result) (same_date-Decides a.date b.date) (same_outcome-Decides a.result b.result))))

-- The bits of castling rights give them back.
abbrev rights_by : ℕ → Rights
rights_by bits = record { white_king_side = has_bit bits 0; white_queen_side = has_bit bits 1; black_king_side = has_bit bits 2; black_queen_side = has_bit bits 3 }

back : (a b c d : Bool) → rights_by (bits_of (record { white_king_side = a; white_queen_side = b; black_king_side = c; black_queen_side = d }))
    ≡ record { white_king_side = a; white_queen_side = b; black_king_side = c; black_queen_side = d }
back true true true true = refl
back true true true false = refl
back true true false true = refl
back true true false false = refl
back true false true true = refl
back true false true false = refl
back true false false true = refl
back true false false false = refl
back false true true true = refl
back false true true false = refl
back false true false true = refl
back false true false false = refl
back false false true true = refl
back false false true false = refl
back false false false true = refl
back false false false false = refl

given_back : (r : Rights) → rights_by (bits_of r) ≡ r
given_back r = back r.white_king_side r.white_queen_side r.black_king_side r.black_queen_side

pub same_bits : (a b : Rights) → bits_of a ≡ bits_of b → a ≡ b
same_bits a b same = sym (given_back a) ∙ ap rights_by same ∙ given_back b

same_rights-Decides : (a b : Rights) → Decides (bits_of a == bits_of b) (a ≡ b)
same_rights-Decides a b = Decides-like (bits_of a == bits_of b) (same_bits a b) (λ (h : a ≡ b). ap bits_of h) (Decides-eqb (bits_of a) (bits_of b))

pub option_eq-Decides : {X : Type 0} (E : X → X → Bool) → ((a b : X) → Decides (E a b) (a ≡ b)) → (a b : Option X) → Decides (option_eq E a b) (a ≡ b)
option_eq-Decides E each None None = (λ h. refl, λ h. refl)
option_eq-Decides E each None (Some b) = (λ h. absurd (cc), λ h. absurd (cc))
option_eq-Decides E each (Some a) None = (λ h. absurd (cc), λ h. absurd (cc))
option_eq-Decides E each (Some a) (Some b) = Decides-like (E a b) (λ (h : a ≡ b). ap Some h) (λ h. cc) (each a b)

pub same_start-Decides : (a b : Setup) → Decides (same_start a b) (a ≡ b)
same_start-Decides a b =
    Decides-like (same_start a b)
    (λ (h : (a.board ≡ b.board) × ((a.side ≡ b.side) × ((a.rights ≡ b.rights) × (a.en_passant ≡ b.en_passant)))). λ i. record { board = h.0 i; side = h.1.0 i; rights = h.1.1.0 i; en_passant = h.1.1.1 i })
    (λ (h : a ≡ b). (ap (λ (s : Setup). s.board) h, (ap (λ (s : Setup). s.side) h, (ap (λ (s : Setup). s.rights) h, ap (λ (s : Setup). s.en_passant) h))))
    (Decides-and (same_men a.board b.board) (same_colour a.side b.side && ((bits_of a.rights == bits_of b.rights) && option_eq nat_eq a.en_passant b.en_passant)) (same_men-Decides a.board b.board)
    (Decides-and (same_colour a.side b.side) ((bits_of a.rights == bits_of b.rights) && option_eq nat_eq a.en_passant b.en_passant) (same_colour-Decides a.side b.side)
    (Decides-and (bits_of a.rights == bits_of b.rights) (option_eq nat_eq a.en_passant b.en_passant) (same_rights-Decides a.rights b.rights) (option_eq-Decides nat_eq Decides-eqb a.en_passant b.en_passant))))

pub same_move-Decides : (a b : Move) → Decides (same_move a b) (a ≡ b)
same_move-Decides a b =
    Decides-like (same_move a b)
    (λ (h : (a.from ≡ b.from) × ((a.to ≡ b.to) × (a.promo ≡ b.promo))). λ i. record { from = h.0 i; to = h.1.0 i; promo = h.1.1 i })
    (λ (h : a ≡ b). (ap (λ (m : Move). m.from) h, (ap (λ (m : Move). m.to) h, ap (λ (m : Move). m.promo) h)))
    (Decides-and (a.from == b.from) ((a.to == b.to) && option_eq same_kind a.promo b.promo) (Decides-eqb a.from b.from)
    (Decides-and (a.to == b.to) (option_eq same_kind a.promo b.promo) (Decides-eqb a.to b.to) (option_eq-Decides same_kind same_kind-Decides a.promo b.promo)))

pub begins_like-Decides : (depth : ℕ) (a b : GameTree) → Decides (begins_like depth a b) (BeginAlike depth a b)
unfolding begins_like
begins_like-Decides depth a b =
    Decides-like (same_start a.start b.start && pointwise same_move (first_moves depth a) (first_moves depth b))
    (λ (h : (a.start ≡ b.start) × (first_moves depth a ≡ first_moves depth b)). record { start = h.0; moves = h.1 })
    (λ (h : BeginAlike depth a b). (h.start, h.moves))
    (Decides-and (same_start a.start b.start) (pointwise same_move (first_moves depth a) (first_moves depth b)) (same_start-Decides a.start b.start)
    (slice_eq-Decides same_move-Decides (first_moves depth a) (first_moves depth b) (pointwise same_move (first_moves depth a) (first_moves depth b)) refl))
