use Rattle.std.proofs.Common.{refl, sym, subst, ap, ◌∙◌, ◌≡◌, is_some}
use Rattle.sig_index.specs.Signature.{IsSig}
use Rattle.sig_index.specs.declared.signature.Sig.{Sig}
use Rattle.base_core.specs.declared.fault.EditError.{EditError}
use Rattle.base_core.specs.Entries.{sig_in}
use Rattle.base_core.specs.Errors.{unread_error}
use Rattle.base_core.specs.GameAt.{TellsChange}
use Rattle.base_core.proofs.ReadLaws.{unread_tells}
use Rattle.base_core.proofs.SigLaws.{other-sig, none-differs}
use Rattle.base_core.proofs.game.read_unchanged.Goals as goal

pub returns-in-Err-clause-why : goal.returns-in-Err-clause-why
returns-in-Err-clause-why c =
    let T : EditError → Type 0 = λ error. TellsChange c.args.i (sig_in c.args.e.now) c.args.bytes.now error in
    let is : c.unread_error.result ≡ unread_error c.args.i (sig_in c.args.e.now) c.in-Err.error =
    c.unread_error.ensures.error ∙ ap (λ (s : Sig). unread_error c.args.i s c.in-Err.error) c.sig_in.ensures.sig in
    subst T (sym is) (unread_tells c.args.i (sig_in c.args.e.now) c.args.bytes.now c.in-Err.error c.in-Err.ensures.fault)

pub returns-then-is_some-clause-why : goal.returns-then-is_some-clause-why
returns-then-is_some-clause-why c = (
  refl,
  (
    c.sig_in-then-is_some.ensures.sig,
    (
      _,
      (
        _,
        (
          c.in-Ok.ensures.found,
          (
            c.sig_ending-found.ensures.signature,
            other-sig c.args.e.now c.sig_ending-found.result (ap (λ o. is_some o) (sym c.differing.ensures.first) ∙ sym c.if-is_some.ensures),
          ),
        ),
      ),
    ),
  ),
)

pub returns-clause-same : goal.returns-clause-same
returns-clause-same c =
    let P : Sig → Type 0 = λ s. IsSig c.in-Ok.decoded.game s in
    subst P (sym (none-differs c.args.e.now c.sig_ending-found.result (ap (λ o. is_some o) (sym c.differing.ensures.first) ∙ sym c.if-is_some.ensures))) c.sig_ending-found.ensures.signature
