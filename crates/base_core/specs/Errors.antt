-- The errors of this crate for those of the crates below (this project's own).
use Rattle.base_files.specs.declared.faults.DeviceError.{DeviceError}
use Rattle.base_files.specs.declared.faults.DeviceError.TheVariants as device
use Rattle.std.specs.Prelude.{ℕ, None}
use Rattle.block_store.specs.declared.fault.StoreError.{StoreError}
use Rattle.block_store.specs.declared.fault.StoreError.TheVariants as store
use Rattle.game_codec.specs.declared.fault.DecodeError.{DecodeError}
use Rattle.game_codec.specs.declared.fault.DecodeError.TheVariants as decode
use Rattle.game_codec.specs.declared.fault.EncodeError.{EncodeError}
use Rattle.game_codec.specs.declared.fault.EncodeError.TheVariants as encode
use Rattle.name_base.specs.declared.fault.NamesError.{NamesError}
use Rattle.name_base.specs.declared.fault.NamesError.TheVariants as names
use Rattle.sig_index.specs.declared.signature.Sig.{Sig}
use Rattle.base_core.specs.declared.fault.BaseFault.TheVariants.{Names}
use Rattle.base_core.specs.declared.fault.EditError.{EditError}
use Rattle.base_core.specs.declared.fault.EditError.TheVariants as edit
use Rattle.base_core.specs.declared.fault.OpenError.{OpenError}
use Rattle.base_core.specs.declared.fault.OpenError.TheVariants as opening
use Rattle.base_core.specs.declared.fault.SaveError.{SaveError}
use Rattle.base_core.specs.declared.fault.SaveError.TheVariants as saving
use Rattle.base_core.specs.declared.fault.What.TheVariants.{File}

-- Why a base is not opened if its files do not answer.
abbrev pub open_error : DeviceError → OpenError
open_error device.Failed = opening.Failed
open_error device.Memory = opening.Memory

-- Where its names are not read.
abbrev pub names_error : NamesError → OpenError
names_error (names.Bad fault) = opening.Bad (Names fault)
names_error names.Memory = opening.Memory

-- Why a game is not read that has this signature.
abbrev pub unread_error : ℕ → Sig → DecodeError → EditError
unread_error game kept (decode.Bad fault) = edit.Changed game kept None
unread_error game kept decode.Memory = edit.Memory

-- Why a game is not placed that is not written.
abbrev pub unwritten_error : EncodeError → EditError
unwritten_error (encode.TooLong n) = edit.TooLong n
unwritten_error encode.Memory = edit.Memory

-- Why it is not placed if its record is not.
abbrev pub unplaced_error : StoreError → EditError
unplaced_error store.Full = edit.Full File
unplaced_error store.Memory = edit.Memory
unplaced_error store.Failed = edit.Failed

-- Why a base is not saved if its files do not answer.
abbrev pub save_error : DeviceError → SaveError
save_error device.Failed = saving.Failed
save_error device.Memory = saving.Memory
