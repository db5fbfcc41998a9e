-- Forsyth-Edwards Notation: which texts are positions, and which fault is the first (PGN standard, 16.1).
use Rattle.std.specs.Prelude.{◌≡◌, ℕ, ◌≤◌, ◌⊎◌, List, [], ◌∷◌, Option, length, slice_index_or}
use Rattle.cell_core.specs.declared.man.Colour.{Colour}
use Rattle.cell_core.specs.Board.{Men}
use Rattle.chess_laws.specs.declared.setup.Rights.{Rights}
use Rattle.chess_laws.specs.declared.setup.Setup.{Setup}
use Rattle.chess_laws.specs.declared.fault.PlaceFault.{PlaceFault}
use Rattle.chess_laws.specs.Position.{Sound, Breaks, bits_of, setup_of}
use Rattle.chess_text.specs.declared.fault.FenFault.{FenFault}
use Rattle.chess_text.specs.declared.fault.FenFault.TheVariants.{Field}
use Rattle.chess_text.specs.Fault.{fault_of}
use Rattle.chess_text.specs.Placement.{PlacementText}
use Rattle.chess_text.specs.Fields.{Spaced, side_text, RightsText, EnPassantText, CounterText}

-- The six fields of a FEN, from its words. Fields 3 to 6 may be missing from the right, and are then -, -, 0 and 1. A
-- missing field 1 or 2 is an empty word, which says nothing (this project's own: the standard wants all six).
abbrev pub placement_field : List (List ℕ) → List ℕ
placement_field words = slice_index_or words 0 []

abbrev pub side_field : List (List ℕ) → List ℕ
side_field words = slice_index_or words 1 []

abbrev pub rights_field : List (List ℕ) → List ℕ
rights_field words = slice_index_or words 2 (45 ∷ [])

abbrev pub en_passant_field : List (List ℕ) → List ℕ
en_passant_field words = slice_index_or words 3 (45 ∷ [])

abbrev pub half_moves_field : List (List ℕ) → List ℕ
half_moves_field words = slice_index_or words 4 (48 ∷ [])

abbrev pub moves_field : List (List ℕ) → List ℕ
moves_field words = slice_index_or words 5 (49 ∷ [])

-- The text says this board, side, castling rights and en passant square. The two counters are read and not kept.
pub record FenText (text : List ℕ) (says : Setup) : Type 0 where
  pub words : List (List ℕ)
  pub spaced : Spaced words text
  pub placement : PlacementText (placement_field words) says.board
  pub side : side_field words ≡ side_text says.side
  pub rights : RightsText (rights_field words) says.rights
  pub en_passant : EnPassantText says.side (en_passant_field words) says.en_passant
  pub half_moves : CounterText (half_moves_field words)
  pub moves : CounterText (moves_field words)
  pub no_seventh : length words ≤ 6

-- What the fields say as a setup: a right whose king or rook is not at home is dropped (this project's own).
abbrev pub kept : Setup → Setup
kept says = setup_of says.board says.side (bits_of says.rights) says.en_passant

-- The text is a FEN of the position p.
pub record FenReads (text : List ℕ) (p : Setup) : Type 0 where
  pub says : Setup
  pub fields : FenText text says
  pub position : p ≡ kept says
  pub sound : Sound p

-- A field that says nothing is the first fault, and if it says something the first fault comes after it.
abbrev pub FaultFrom : {A : Type 0} → ℕ → (A → Type 0) → FenFault → (A → Type 0) → Type 0
FaultFrom {A} n Says fault Later = (((x : A) → Says x → ⊥) × (fault ≡ Field n)) ⊎ ((x : A) × Says x × Later x)

-- The first fault: field by field from the left, then a seventh field, then the rules of positions in their order.
abbrev pub FirstFault : List (List ℕ) → FenFault → Type 0
FirstFault words fault =
    FaultFrom {A = Men} 1 (PlacementText (placement_field words)) fault (λ board.
    FaultFrom {A = Colour} 2 (λ side. side_field words ≡ side_text side) fault (λ side.
    FaultFrom {A = Rights} 3 (RightsText (rights_field words)) fault (λ rights.
    FaultFrom {A = Option ℕ} 4 (EnPassantText side (en_passant_field words)) fault (λ square.
    FaultFrom {A = Unit {0}} 5 (λ _. CounterText (half_moves_field words)) fault (λ _.
    FaultFrom {A = Unit {0}} 6 (λ _. CounterText (moves_field words)) fault (λ _.
    FaultFrom {A = Unit {0}} 7 (λ _. length words ≤ 6) fault (λ _.
    (broken : PlaceFault) × (fault ≡ fault_of broken) × Breaks (setup_of board side (bits_of rights) square) broken)))))))

-- The text is no FEN of a position, and this is its first fault.
abbrev pub FenFaultOf : List ℕ → FenFault → Type 0
FenFaultOf text fault = (words : List (List ℕ)) × Spaced words text × FirstFault words fault
