use Rattle.std.proofs.Common.{◌≡◌, ◌≤◌, ◌<◌, ℕ, List, length, Option, IfSome, rules, sym, ap, subst, arith}
use Rattle.std.proofs.lemmas.List.{length-map}
use Rattle.base_files.specs.Seen.{Seen}
use Rattle.base_core.specs.Base.{Base}
use Rattle.base_core.specs.Entries.{extent_of}
use Rattle.base_core.specs.Represents.{Represents}
use Rattle.base_core.proofs.Lists.{get_some}
use Rattle.compact_base.specs.Compacting.{IfChanged}
use Rattle.compact_base.specs.Drafting.{AddsFirst, WhyNotCopied}
use Rattle.compact_base.proofs.CopyLaws.{copied-more, copied-none, copied-whole, device-why, fresh-alone, rose-later}
use Rattle.compact_base.proofs.ListLaws.{kept-next}
use Rattle.compact_base.proofs.RecordLaws.{adds-more, adds-none}
use Rattle.compact_base.proofs.copying.copy_games.Goals as goal

pub returns-in_err-begin-clause-why : goal.returns-in_err-begin-clause-why
returns-in_err-begin-clause-why g c =
    let told = device-why c.args.base.now (g.F.Files.seen c.args.files.now).games c.args.buf.now c.in_err-begin.field-0.0 c.in_err-begin.ensures.device in
    search (rules, told)

pub loop-i-init : goal.loop-i-init
loop-i-init g c = record {
  within = omega arith;
  copied = copied-none c.args.base.now (g.F.Files.seen c.args.files.now) (g.F.Files.seen c.begin.new.files) c.in_ok-begin.ensures.begun;
  records = adds-none c.args.base.now (g.F.Files.seen c.args.files.now) (g.F.Files.seen c.begin.new.files) c.in_ok-begin.ensures.begun;
  small = omega arith;
  asks = omega (arith, c.begin.ensures.none_asked);
  counts = c.begin.ensures.counts;
}

pub copy_if_kept-requires-clause-within : goal.copy_if_kept-requires-clause-within
copy_if_kept-requires-clause-within g c = subst (λ (s : Seen). c.args.base.now.end ≤ s.known) (sym c.loop-i.invariant.copied.seen) c.requires.within

pub returns-in-Err-clause-why : goal.returns-in-Err-clause-why
returns-in-Err-clause-why g c =
    subst (λ (o : Option (List ℕ)). WhyNotCopied c.args.base.now o c.copy_if_kept.new.buf c.in-Err.error) (ap (λ (s : Seen). s.games) c.loop-i.invariant.copied.seen) c.in-Err.ensures.why

pub returns-in-Err-clause-same : goal.returns-in-Err-clause-same
returns-in-Err-clause-same g c =
    subst (λ (o : Option (List ℕ)). IfChanged c.in-Err.error (IfSome o (λ games. (plain : Base) → Represents c.args.base.now games plain → ⊥))) (ap (λ (s : Seen). s.games) c.loop-i.invariant.copied.seen) c.in-Err.ensures.same

pub returns-in-Err-clause-left : goal.returns-in-Err-clause-left
returns-in-Err-clause-left g c =
    fresh-alone c.loop-i.i c.args.base.now c.loop-i.end (g.F.Files.seen c.args.files.now) (g.F.Files.seen c.loop-i.files) (g.F.Files.seen c.copy_if_kept.new.files) c.loop-i.invariant.copied c.in-Err.ensures.left

pub returns-in-Err-clause-asks : goal.returns-in-Err-clause-asks
returns-in-Err-clause-asks g c =
    let below : c.loop-i.i < length c.args.base.now.entries = omega (arith, c.loop-i-test.true, c.len-i-end.ensures.one_extent_each, length-map c.args.base.now.entries extent_of) in
    let e = get_some c.args.base.now.entries c.loop-i.i below in
    omega (arith, c.copy_if_kept.ensures.asks e.0 e.1, c.loop-i.invariant.asks, kept-next c.args.base.now.entries c.loop-i.i e.0 e.1)

pub returns-in-Err-clause-cause : goal.returns-in-Err-clause-cause
returns-in-Err-clause-cause g c = λ failed.
    rose-later (g.F.Files.faults c.args.files.now) (g.F.Files.faults c.loop-i.files) (g.F.Files.faults c.copy_if_kept.new.files) c.loop-i.invariant.counts (c.in-Err.ensures.cause failed)

pub loop-i-preserved : goal.loop-i-preserved
loop-i-preserved g c =
    let below : c.loop-i.i < length c.args.base.now.entries = omega (arith, c.loop-i-test.true, c.len-i-end.ensures.one_extent_each, length-map c.args.base.now.entries extent_of) in
    let e = get_some c.args.base.now.entries c.loop-i.i below in
    record {
      within = omega (arith, below);
      copied = copied-more c.loop-i.i c.args.base.now c.loop-i.end c.in-Ok.after (g.F.Files.seen c.args.files.now) (g.F.Files.seen c.loop-i.files) (g.F.Files.seen c.copy_if_kept.new.files) e.0 e.1 c.loop-i.invariant.copied c.in-Ok.ensures.copied;
      records = adds-more c.loop-i.i c.args.base.now c.loop-i.end c.in-Ok.after (g.F.Files.seen c.args.files.now) (g.F.Files.seen c.loop-i.files) (g.F.Files.seen c.copy_if_kept.new.files) e.0 e.1 c.loop-i.invariant.copied
          c.loop-i.invariant.records c.in-Ok.ensures.copied;
      small = c.in-Ok.ensures.small;
      asks = omega (arith, c.copy_if_kept.ensures.asks e.0 e.1, c.loop-i.invariant.asks, kept-next c.args.base.now.entries c.loop-i.i e.0 e.1);
      counts = omega (arith, c.copy_if_kept.ensures.counts, c.loop-i.invariant.counts);
    }

pub returns-clause-copied : goal.returns-clause-copied
returns-clause-copied g c =
    let all : c.loop-i.i ≡ length c.args.base.now.entries =
    omega (arith, c.loop-i-test.false, c.loop-i.invariant.within, c.len-i-end.ensures.one_extent_each, length-map c.args.base.now.entries extent_of) in
    copied-whole c.loop-i.i c.args.base.now c.loop-i.end (g.F.Files.seen c.args.files.now) (g.F.Files.seen c.loop-i.files) all c.loop-i.invariant.copied

pub returns-clause-records : goal.returns-clause-records
returns-clause-records g c =
    let all : c.loop-i.i ≡ length c.args.base.now.entries =
    omega (arith, c.loop-i-test.false, c.loop-i.invariant.within, c.len-i-end.ensures.one_extent_each, length-map c.args.base.now.entries extent_of) in
    subst (λ (n : ℕ). AddsFirst n c.args.base.now (g.F.Files.seen c.args.files.now) (g.F.Files.seen c.loop-i.files)) all c.loop-i.invariant.records

pub returns-clause-asks : goal.returns-clause-asks
returns-clause-asks g c = omega (arith, c.loop-i.invariant.asks)
