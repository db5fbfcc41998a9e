-- What a breach tells of the bytes. No public contract cites these words.
use Rattle.std.specs.Prelude.{◌≡◌, ℕ, List, length}
use Rattle.game_codec.specs.declared.breach.Breach.{Breach}
use Rattle.game_codec.specs.declared.fault.RecordWhat.{RecordWhat}

-- So many bytes are left from a place on at which this holds of what is wrong.
abbrev pub Tells : (List ℕ → RecordWhat → Type 0) → Breach → Type 0
Tells Holds breach = (rest : List ℕ) × (length rest ≡ breach.left) × Holds rest breach.what
