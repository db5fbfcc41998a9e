-- Where nothing is told of the contents, what the trait says of them holds of itself.
use Rattle.std.proofs.Common.{rules, ℕ, List, None, Result, Ok, Err, IfOk}
use Rattle.std.specs.Prelude.{⊤}
use Rattle.base_files.specs.Told.{Tells}
use Rattle.base_files.specs.Parts.{of_part}
use Rattle.base_files.specs.declared.part.Part.{Part}
use Rattle.base_files.specs.declared.part.Part.TheVariants.{Index, Names}
use Rattle.std_devices.proofs.disk_files.DiskFilesFiles.TheImpl.Goals as goal

always_ok : {T E : Type 0} (r : Result T E) → IfOk r (λ _. ⊤)
always_ok (Ok x) = tt
always_ok (Err e) = tt

untold_part : (part : Part) (bytes : List ℕ) → Tells (of_part part None None) bytes
untold_part Index bytes = tt
untold_part Names bytes = tt

untold_load : (part : Part) {T E : Type 0} (bytes_of : T → List ℕ) (r : Result T E) → IfOk r (λ v. Tells (of_part part None None) (bytes_of v))
untold_load part bytes_of (Ok v) = untold_part part (bytes_of v)
untold_load part bytes_of (Err e) = tt

pub load-tells : goal.load-tells
load-tells g c = record {
  loaded = untold_load c.args.part (λ v. v.items) c.result;
  unchanged = search rules;
  none_asked = search rules;
  counts = search rules;
  cause = search rules;
  memory = search rules;
}

pub games_len-tells : goal.games_len-tells
games_len-tells g c = record {
  length = always_ok c.result;
  now_known = search rules;
  unchanged = search rules;
  none_asked = search rules;
  counts = search rules;
  cause = search rules;
}

pub read_games-tells : goal.read_games-tells
read_games-tells g c = record {
  bytes = always_ok c.result;
  unchanged = search rules;
  asks = search rules;
  counts = search rules;
  cause = search rules;
}
