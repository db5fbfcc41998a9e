-- What the devices leave, and why they fail.
use Rattle.std.proofs.Common.{◌≡◌, ◌≤◌, ℕ, List, IfErr, IfOk, OnOk, OnErr, Result, Ok, Err, refl, sym, ap, ◌∙◌, subst, inl, inr, arith}
use Rattle.base_files.specs.Counters.{Rose}
use Rattle.base_files.specs.Seen.{FreshAlone, Seen, begun, lengthened}
use Rattle.mend_base.specs.Devices.{IsNew, IsOld, IsReport}
use Rattle.mend_base.specs.Keeping.{IsKeeping, WhyStopped}
use Rattle.mend_base.specs.Mending.{Faults, HasRisen}
use Rattle.mend_base.specs.declared.fault.MendError.{MendError}
use Rattle.mend_base.specs.declared.fault.MendError.TheVariants as error
use Rattle.base_core.specs.declared.fault.What.{What}

-- ---- the new files.

pub none-changed : (old new : Seen) → new ≡ old → FreshAlone old new
none-changed old new is = subst (λ (s : Seen). s ≡ record old { fresh = s.fresh; added = s.added }) (sym is) refl

pub alone-then : (old mid new : Seen) → FreshAlone old mid → FreshAlone mid new → FreshAlone old new
alone-then old mid new first left = left ∙ ap (λ (s : Seen). record s { fresh = new.fresh; added = new.added }) first

pub alone-begun : (old new : Seen) → new ≡ begun old → FreshAlone old new
alone-begun old new is = subst (λ (s : Seen). s ≡ record old { fresh = s.fresh; added = s.added }) (sym is) refl

pub alone-longer : (old new : Seen) (bytes : List ℕ) → new ≡ lengthened bytes old → FreshAlone old new
alone-longer old new bytes is = subst (λ (s : Seen). s ≡ record old { fresh = s.fresh; added = s.added }) (sym is) refl

-- ---- causes.

pub rose-later : (first old new : ℕ) → first ≤ old → Rose old new → Rose first new
rose-later first old new before (inl rose) = inl (omega (arith, before, rose))
rose-later first old new before (inr last) = inr last

pub keeping-new : (old new : ℕ) (e : MendError) → IsNew old new e → IsKeeping old new e
keeping-new old new (error.Bad fault) is = absurd is
keeping-new old new (error.Full what) is = absurd is
keeping-new old new error.OldFailed is = absurd is
keeping-new old new error.NewFailed is = is
keeping-new old new error.ReportFailed is = absurd is
keeping-new old new error.Memory is = tt

pub stopped-new : (Fact : What → Type 0) (old new : ℕ) (e : MendError) → IsNew old new e → WhyStopped Fact e
stopped-new Fact old new (error.Bad fault) is = absurd is
stopped-new Fact old new (error.Full what) is = absurd is
stopped-new Fact old new error.OldFailed is = absurd is
stopped-new Fact old new error.NewFailed is = tt
stopped-new Fact old new error.ReportFailed is = absurd is
stopped-new Fact old new error.Memory is = tt

pub stopped-report : (Fact : What → Type 0) (old new : ℕ) (e : MendError) → IsReport old new e → WhyStopped Fact e
stopped-report Fact old new (error.Bad fault) is = absurd is
stopped-report Fact old new (error.Full what) is = absurd is
stopped-report Fact old new error.OldFailed is = absurd is
stopped-report Fact old new error.NewFailed is = absurd is
stopped-report Fact old new error.ReportFailed is = tt
stopped-report Fact old new error.Memory is = tt

pub stopped-weaker : (P Q : What → Type 0) → ((what : What) → P what → Q what) → (e : MendError) → WhyStopped P e → WhyStopped Q e
stopped-weaker P Q f (error.Bad fault) is = is
stopped-weaker P Q f (error.Full what) is = f what is
stopped-weaker P Q f error.OldFailed is = tt
stopped-weaker P Q f error.NewFailed is = tt
stopped-weaker P Q f error.ReportFailed is = tt
stopped-weaker P Q f error.Memory is = tt

-- Where the count of one device rose, that is why.
pub risen-old : (a b : Faults) (e : MendError) → IsOld a.old b.old e → HasRisen a b e
risen-old a b (error.Bad fault) is = tt
risen-old a b (error.Full what) is = tt
risen-old a b error.OldFailed is = is
risen-old a b error.NewFailed is = absurd is
risen-old a b error.ReportFailed is = absurd is
risen-old a b error.Memory is = tt

pub risen-new : (a b : Faults) (e : MendError) → IsNew a.new b.new e → HasRisen a b e
risen-new a b (error.Bad fault) is = tt
risen-new a b (error.Full what) is = tt
risen-new a b error.OldFailed is = absurd is
risen-new a b error.NewFailed is = is
risen-new a b error.ReportFailed is = absurd is
risen-new a b error.Memory is = tt

pub risen-keeping : (a b : Faults) (e : MendError) → IsKeeping a.new b.new e → HasRisen a b e
risen-keeping a b (error.Bad fault) is = tt
risen-keeping a b (error.Full what) is = tt
risen-keeping a b error.OldFailed is = absurd is
risen-keeping a b error.NewFailed is = is
risen-keeping a b error.ReportFailed is = absurd is
risen-keeping a b error.Memory is = tt

pub risen-report : (a b : Faults) (e : MendError) → IsReport a.report b.report e → HasRisen a b e
risen-report a b (error.Bad fault) is = tt
risen-report a b (error.Full what) is = tt
risen-report a b error.OldFailed is = absurd is
risen-report a b error.NewFailed is = absurd is
risen-report a b error.ReportFailed is = is
risen-report a b error.Memory is = tt

-- What rose since later counts rose since earlier ones.
pub risen-since : (a b c : Faults) (e : MendError) → a.old ≤ b.old → a.new ≤ b.new → a.report ≤ b.report → HasRisen b c e → HasRisen a c e
risen-since a b c (error.Bad fault) old new report is = tt
risen-since a b c (error.Full what) old new report is = tt
risen-since a b c error.OldFailed old new report is = rose-later a.old b.old c.old old is
risen-since a b c error.NewFailed old new report is = rose-later a.new b.new c.new new is
risen-since a b c error.ReportFailed old new report is = rose-later a.report b.report c.report report is
risen-since a b c error.Memory old new report is = tt

-- A fact of each error.
pub err-weaker : {A : Type 0} (P Q : MendError → Type 0) (r : Result A MendError) → ((e : MendError) → P e → Q e) → IfErr r P → IfErr r Q
err-weaker P Q (Ok x) f is = tt
err-weaker P Q (Err e) f is = f e is

pub on-ok-so : {A E : Type 0} (P Q : Type 0) (r : Result A E) → (P → Q) → OnOk r P → OnOk r Q
on-ok-so P Q (Ok x) f is = f is
on-ok-so P Q (Err e) f is = tt

pub on-err-so : {A E : Type 0} (P Q : Type 0) (r : Result A E) → (P → Q) → OnErr r P → OnErr r Q
on-err-so P Q (Ok x) f is = tt
on-err-so P Q (Err e) f is = f is

pub on-err-any : {A E : Type 0} (Q : Type 0) (r : Result A E) → Q → OnErr r Q
on-err-any Q (Ok x) is = tt
on-err-any Q (Err e) is = is

-- What a call answers, by two facts of it.
pub if-ok-so : {A E : Type 0} (P : Type 0) (Q R : A → Type 0) (r : Result A E) → ((x : A) → P → Q x → R x) → OnOk r P → IfOk r Q → IfOk r R
if-ok-so P Q R (Ok x) f is at = f x is at
if-ok-so P Q R (Err e) f is at = tt

pub if-ok-weaker : {A E : Type 0} (Q R : A → Type 0) (r : Result A E) → ((x : A) → Q x → R x) → IfOk r Q → IfOk r R
if-ok-weaker Q R (Ok x) f at = f x at
if-ok-weaker Q R (Err e) f at = tt
