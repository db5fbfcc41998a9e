use Rattle.std.proofs.Common.{rules, ◌≡◌, take, drop, length, refl, ◌∙◌}
use Rattle.mend_base.specs.Finding.{IsSaved}
use Rattle.mend_base.specs.Fronts.{steps_of}
use Rattle.mend_base.proofs.FrontLaws.{saved-front}
use Rattle.mend_base.proofs.finding.find_left.Goals as goal

pub returns-clause-found : goal.returns-clause-found
returns-clause-found c =
    let saved = c.in-Some.saved in
    let bytes = take c.args.entry.now.len c.args.buf.now in
    let is : IsSaved (steps_of c.args.faulty) c.args.entry.now bytes c.args.fault saved.bytes.items saved.kept = search rules in
    let long : saved.kept.len ≡ length saved.bytes.items = search rules in
    record {
      is_saved = saved-front (steps_of c.args.faulty) c.args.entry.now bytes c.args.fault saved.bytes.items saved.kept c.copy_from_slice.new.self (drop c.len.result c.args.buf.now) is
          (c.copy_from_slice.ensures.after ∙ c.as_slice.ensures.value) long;
      change_is = refl;
    }
