-- Two faults of the same bytes that are told alike.
use Rattle.std.proofs.Common.{◌≡◌, ℕ, List}
use Rattle.game_codec.specs.RecordAnswer.{place_of}
use Rattle.game_codec.specs.declared.fault.RecordWhat.{RecordWhat}

-- They say the same, and of the same place of a record.
pub record SameFault (rest : List ℕ) (what : RecordWhat) (rest' : List ℕ) (what' : RecordWhat) : Type 0 where
  pub same : what ≡ what'
  pub place : (len : ℕ) → place_of len rest what ≡ place_of len rest' what'
