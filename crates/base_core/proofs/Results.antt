-- Laws of results and options.
use Rattle.std.proofs.Common.{◌≡◌, Bool, true, false, Option, Some, None, Result, Ok, Err, refl, sym, ap, ◌∙◌, true≢false, if◌then◌else◌}
use Rattle.std.specs.Prelude.{OnOk}
use Rattle.std.specs.Result.{is_err, is_ok}
use Rattle.std.proofs.lemmas.Option.{none-some}

abbrev value_of : {A E : Type 0} → A → Result A E → A
value_of d (Ok x) = x
value_of d (Err e) = d

abbrev error_of : {A E : Type 0} → E → Result A E → E
error_of d (Ok x) = d
error_of d (Err e) = e

pub same_ok : {A E : Type 0} (r : Result A E) (x y : A) → r ≡ Ok x → r ≡ Ok y → x ≡ y
same_ok r x y e f = ap (value_of x) (sym e ∙ f)

pub same_err : {A E : Type 0} (r : Result A E) (x y : E) → r ≡ Err x → r ≡ Err y → x ≡ y
same_err r x y e f = ap (error_of x) (sym e ∙ f)

pub ok_err : {A E : Type 0} (r : Result A E) (x : A) (f : E) → r ≡ Ok x → r ≡ Err f → ⊥
ok_err r x f e g = true≢false (ap is_ok (sym e ∙ g))

-- A test that answered nothing was false, and so were those behind it.
pub step_none : {F : Type 0} (b : Bool) (f : F) (rest : Option F) → (if b then Some f else rest) ≡ None → (b ≡ false) × (rest ≡ None)
step_none true f rest e = absurd (none-some f (sym e))
step_none false f rest e = (refl, e)

-- What holds where a call succeeded, where it did.
pub from_ok : {A E : Type 0} (r : Result A E) (P : Type 0) → false ≡ is_err r → OnOk r P → P
from_ok (Ok x) P ok is = is
from_ok (Err e) P ok is = absurd (true≢false (sym ok))
