use Rattle.std.proofs.Common.{refl, sym, subst, ap, ◌∙◌, is_some}
use Rattle.sig_index.specs.Signature.{IsSig}
use Rattle.sig_index.specs.declared.signature.Sig.{Sig}
use Rattle.game_codec.proofs.RecordAnswerLaws.{record-unbroken}
use Rattle.base_core.proofs.SigLaws.{other-sig, none-differs}
use Rattle.base_core.proofs.game.check_unchanged.Goals as goal

pub returns-in-Err-clause-why : goal.returns-in-Err-clause-why
returns-in-Err-clause-why c =
    (refl, (c.sig_in.ensures.sig, λ some. record-unbroken c.args.bytes.now some.0 some.1.0 c.in-Err.field-0 some.1.1 c.in-Err.ensures.fault))

pub returns-then-is_some-clause-why : goal.returns-then-is_some-clause-why
returns-then-is_some-clause-why c =
    let s = c.in-Ok.ensures.signed in (
      refl,
      (
        c.sig_in-then-is_some.ensures.sig,
        (s.0, (s.1.0, (s.1.1.0, (s.1.1.1, other-sig c.args.e.now c.in-Ok.sig (ap (λ o. is_some o) (sym c.differing.ensures.first) ∙ sym c.if-is_some.ensures))))),
      ),
    )

pub returns-clause-same : goal.returns-clause-same
returns-clause-same c =
    let s = c.in-Ok.ensures.signed in
    let P : Sig → Type 0 = λ sig. IsSig s.1.0 sig in
    (s.0, (s.1.0, (s.1.1.0, subst P (sym (none-differs c.args.e.now c.in-Ok.sig (ap (λ o. is_some o) (sym c.differing.ensures.first) ∙ sym c.if-is_some.ensures))) s.1.1.1)))
