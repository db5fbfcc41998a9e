-- Files that tell nothing of their contents.
use Rattle.std.specs.Prelude.{◌≡◌, ℕ, List}
use Rattle.std.proofs.Common.{refl}
use Rattle.std_devices.specs.Meters.{DiskMeter, seen_of}
use Rattle.base_files.specs.Seen.{replaced}
use Rattle.base_files.specs.declared.part.Part.{Part}
use Rattle.base_files.specs.declared.part.Part.TheVariants.{Index, Names}

-- To replace a part changes nothing of what is told.
pub untold_replaced : (part : Part) (bytes : List ℕ) (old : DiskMeter) → seen_of old ≡ replaced part bytes (seen_of old)
untold_replaced Index bytes old = refl
untold_replaced Names bytes old = refl
