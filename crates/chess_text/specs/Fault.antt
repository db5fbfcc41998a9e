-- The faults of a FEN (this project's own).
use Rattle.chess_laws.specs.declared.fault.PlaceFault.{PlaceFault}
use Rattle.chess_laws.specs.declared.fault.PlaceFault.TheVariants as place
use Rattle.chess_text.specs.declared.fault.FenFault.{FenFault}
use Rattle.chess_text.specs.declared.fault.FenFault.TheVariants.{Field, Kings, Pawns, TooMany, InCheck}

-- The fault that stands for a broken rule of positions. The en passant square is the fourth field's.
abbrev pub fault_of : PlaceFault → FenFault
fault_of place.Kings = Kings
fault_of place.Pawns = Pawns
fault_of place.TooMany = TooMany
fault_of place.InCheck = InCheck
fault_of place.EnPassant = Field 4
