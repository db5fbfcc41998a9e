use Rattle.base_core.proofs.reading.signed_by.Goals as goal

pub returns-clause-signed : goal.returns-clause-signed
returns-clause-signed c =
    let s = c.requires.has in
    record { tags = s.0; tree = s.1.0; read = s.1.1.0; signed = s.1.1.1; dated = c.settled_event_date.ensures.date s.0 s.1.0 s.1.1.0 }
