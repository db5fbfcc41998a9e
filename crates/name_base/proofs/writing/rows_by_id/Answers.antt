-- One more row.
use Rattle.std.proofs.Common.{◌<◌, length, refl, arith}
use Rattle.std.proofs.lemmas.Option.{slice_get-get_or}
use Rattle.name_base.proofs.TextLemmas.{rows_more}
use Rattle.name_base.proofs.writing.rows_by_id.Goals as goal

pub loop-id-preserved : goal.loop-id-preserved
loop-id-preserved c =
    let below : c.loop-id.id < length c.args.frequencies.now = omega arith in
    rows_more (λ r. record { id = r.id; frequency = r.frequency; name = r.name.now }) c.loop-id.rows.items c.push.new.self.items _ c.loop-id.id c.args.names.now c.args.frequencies.now _
    c.in_ok-push.ensures.items c.name_of.ensures (slice_get-get_or c.args.frequencies.now c.loop-id.id 0 below) refl c.loop-id.invariant
