-- Each part of the signature.
use Rattle.std.proofs.Common.{◌≤◌, ℕ, List, ap, ◌∙◌, refl, sym, subst}
use Rattle.std.specs.Prelude.{min}
use Rattle.game_codec.specs.Fault.{IsRecordFault}
use Rattle.game_codec.specs.Record.{IsRecord}
use Rattle.game_codec.proofs.RecordAnswerLaws.{record-one, record-unbroken}
use Rattle.game_tree.specs.Replay.{plies_of, position_at}
use Rattle.sig_index.proofs.SigLemmas.{own_is}
use Rattle.sig_index.proofs.SignedLemmas.{sig-bounded, sig-is}
use Rattle.sig_index.proofs.record_sig.signed.Goals as goal

pub returns-clause-signed : goal.returns-clause-signed
returns-clause-signed c =
    let done = c.in_ok-totals.ensures.record_of in
    let bytes = c.left_along.ensures.bytes ∙ c.in_ok-reading.ensures.bytes in
    let tags = done.0 in
    let game = done.1.0 in
    let r = subst (λ (b : List ℕ). IsRecord b tags game) bytes done.1.1.0 in
    let here = subst (λ (b : List ℕ). IsRecord b tags game) (sym c.in_ok-reading.ensures.bytes) r in
    let there = subst (λ (b : List ℕ). IsRecord b tags game) (sym c.left_along.ensures.bytes) here in (
      tags,
      (
        game,
        (
          r,
          sig-is game _ c.position-2.result.now c.left_along.new.reading.ply c.in_ok-totals.totals
              (own_is c.is_start-own_start.result c.position.result.now game.start _ c.is_start-own_start.ensures.start
              (c.position.ensures.replay tags game here ∙ ap (position_at game) c.in_ok-reading.ensures.start))
              c.material_of-material.ensures.material (c.position-2.ensures.replay tags game there)
              (subst (λ (n : ℕ). n ≤ plies_of game) c.ply.ensures.ply (c.ply.ensures.within tags game there)) (c.in_ok-home.ensures.all tags game here)
              (c.in_ok-home.ensures.left tags game here) (c.min-plies.ensures ∙ ap (λ (n : ℕ). min n 1023) c.ply.ensures.ply) refl refl
              c.count_code.ensures.code c.count_code-2.ensures.code c.count_code-3.ensures.code done.1.1.1,
        ),
      ),
    )

pub returns-clause-bounded : goal.returns-clause-bounded
returns-clause-bounded c =
    let done = c.in_ok-totals.ensures.record_of in
    let bytes = c.left_along.ensures.bytes ∙ c.in_ok-reading.ensures.bytes in
    let tags = done.0 in
    let game = done.1.0 in
    let r = subst (λ (b : List ℕ). IsRecord b tags game) bytes done.1.1.0 in
    let here = subst (λ (b : List ℕ). IsRecord b tags game) (sym c.in_ok-reading.ensures.bytes) r in
    let there = subst (λ (b : List ℕ). IsRecord b tags game) (sym c.left_along.ensures.bytes) here in
    sig-bounded game _ (sig-is game _ c.position-2.result.now c.left_along.new.reading.ply c.in_ok-totals.totals
    (own_is c.is_start-own_start.result c.position.result.now game.start _ c.is_start-own_start.ensures.start
    (c.position.ensures.replay tags game here ∙ ap (position_at game) c.in_ok-reading.ensures.start))
    c.material_of-material.ensures.material (c.position-2.ensures.replay tags game there)
    (subst (λ (n : ℕ). n ≤ plies_of game) c.ply.ensures.ply (c.ply.ensures.within tags game there)) (c.in_ok-home.ensures.all tags game here)
    (c.in_ok-home.ensures.left tags game here) (c.min-plies.ensures ∙ ap (λ (n : ℕ). min n 1023) c.ply.ensures.ply) refl refl
    c.count_code.ensures.code c.count_code-2.ensures.code c.count_code-3.ensures.code done.1.1.1)
    c.material_of-material.ensures.bounded c.count_code.ensures.small c.count_code-2.ensures.small c.count_code-3.ensures.small

pub returns-clause-only : goal.returns-clause-only
returns-clause-only c = λ others other r'.
    let done = c.in_ok-totals.ensures.record_of in
    let bytes = c.left_along.ensures.bytes ∙ c.in_ok-reading.ensures.bytes in
    let tags = done.0 in
    let game = done.1.0 in
    let r = subst (λ (b : List ℕ). IsRecord b tags game) bytes done.1.1.0 in
    let here = subst (λ (b : List ℕ). IsRecord b tags game) (sym c.in_ok-reading.ensures.bytes) r in
    let there = subst (λ (b : List ℕ). IsRecord b tags game) (sym c.left_along.ensures.bytes) here in
    let same = record-one c.args.bytes.now tags others game other r r' in
    rw (sym same.1) (sig-is game _ c.position-2.result.now c.left_along.new.reading.ply c.in_ok-totals.totals
    (own_is c.is_start-own_start.result c.position.result.now game.start _ c.is_start-own_start.ensures.start
    (c.position.ensures.replay tags game here ∙ ap (position_at game) c.in_ok-reading.ensures.start))
    c.material_of-material.ensures.material (c.position-2.ensures.replay tags game there)
    (subst (λ (n : ℕ). n ≤ plies_of game) c.ply.ensures.ply (c.ply.ensures.within tags game there)) (c.in_ok-home.ensures.all tags game here)
    (c.in_ok-home.ensures.left tags game here) (c.min-plies.ensures ∙ ap (λ (n : ℕ). min n 1023) c.ply.ensures.ply) refl refl
    c.count_code.ensures.code c.count_code-2.ensures.code c.count_code-3.ensures.code done.1.1.1)

-- A record has no fault.
pub returns-in_err-reading-clause-only : goal.returns-in_err-reading-clause-only
returns-in_err-reading-clause-only c = λ tags game r.
    absurd (record-unbroken c.args.bytes.now tags game c.in_err-reading.field-0.0 r c.in_err-reading.ensures.fault)

pub returns-in_err-home-clause-only : goal.returns-in_err-home-clause-only
returns-in_err-home-clause-only c = λ tags game r.
    let fault = subst (λ (b : List ℕ). IsRecordFault b c.in_err-home.field-0.0) c.in_ok-reading.ensures.bytes c.in_err-home.ensures.fault in
    absurd (record-unbroken c.args.bytes.now tags game c.in_err-home.field-0.0 r fault)

pub returns-in_err-totals-clause-only : goal.returns-in_err-totals-clause-only
returns-in_err-totals-clause-only c = λ tags game r.
    let bytes = c.left_along.ensures.bytes ∙ c.in_ok-reading.ensures.bytes in
    let fault = subst (λ (b : List ℕ). IsRecordFault b c.in_err-totals.field-0.0) bytes c.in_err-totals.ensures.fault in
    absurd (record-unbroken c.args.bytes.now tags game c.in_err-totals.field-0.0 r fault)
