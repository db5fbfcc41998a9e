-- Each part is put behind those before it.
use Rattle.std.proofs.Common.{refl}
use Rattle.index_entry.specs.Writing.{place_bytes, id_bytes, game_bytes, last_bytes, written}
use Rattle.index_entry.proofs.packing.write_entry.Goals as goal

pub returns-clause-is : goal.returns-clause-is
unfolding written place_bytes id_bytes game_bytes last_bytes
returns-clause-is c =
    rw (
      c.put-4.ensures,
      c.put-3.ensures,
      c.put-2.ensures,
      c.put.ensures,
      c.place_bytes.ensures.is,
      c.id_bytes.ensures,
      c.game_bytes.ensures,
      c.last_bytes.ensures,
    )
    refl
