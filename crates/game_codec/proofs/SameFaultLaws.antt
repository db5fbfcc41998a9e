-- When two faults are told alike.
use Rattle.std.proofs.Common.{◌≡◌, ℕ, List, refl, sym, ◌∙◌}
use Rattle.game_codec.specs.declared.fault.RecordWhat.{RecordWhat}
use Rattle.game_codec.specs.declared.fault.RecordWhat.TheVariants.{Short}
use Rattle.game_codec.proofs.SameFault.{SameFault}

-- At the same bytes.
pub SameFault-same : (r s : List ℕ) (w v : RecordWhat) → r ≡ s → w ≡ v → SameFault r w s v
SameFault-same r s w v rest what = record { same = what; place = λ len. rw (rest, what) refl }

-- Where the record ends early.
pub SameFault-short : (r s : List ℕ) (w v : RecordWhat) → w ≡ Short → v ≡ Short → SameFault r w s v
SameFault-short r s w v first second = record { same = first ∙ sym second; place = λ len. rw (first, second) refl }
