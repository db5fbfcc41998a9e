-- So many names without bytes were made.
use Rattle.std.proofs.Common.{◌≡◌, [], map, replicate}
use Rattle.name_base.proofs.kind_reader.empty_names.Given as goal

abbrev pub invariant-loop : goal.invariant-loop
invariant-loop l = map (λ v. v.items) l.names.items ≡ replicate l.counter []
