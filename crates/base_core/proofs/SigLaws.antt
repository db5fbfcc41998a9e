-- The derived fields of an entry beside a signature.
use Rattle.std.proofs.Common.{◌≡◌, ◌≢◌, ℕ, Bool, true, false, not, List, Option, Some, None, is_some, nat_eq, bytes_eq, refl, sym, ap, ◌∙◌, true≢false, if◌then◌else◌}
use Rattle.std.specs.Bool.{beq}
use Rattle.std.specs.Cmp.{booleans_Decides}
use Rattle.std.proofs.lemmas.Bool.{eqb-true, eq-eqb}
use Rattle.std.proofs.lemmas.Slice.Eq.{bytes_eq-Decides}
use Rattle.index_entry.specs.declared.entry.Entry.{Entry}
use Rattle.sig_index.specs.declared.signature.HomeList.{HomeList}
use Rattle.sig_index.specs.declared.signature.Sig.{Sig}
use Rattle.base_core.specs.declared.fault.DerivedField.TheVariants as derived
use Rattle.base_core.specs.Entries.{sig_in}
use Rattle.base_core.specs.FirstFault.{derived_fault}
use Rattle.base_core.proofs.Results.{step_none}

-- Signatures with the same fields are one.
pub sig-by : (a b : Sig) → a.material ≡ b.material → a.home ≡ b.home → a.plies ≡ b.plies → a.promo ≡ b.promo → a.under ≡ b.under → a.own_start ≡ b.own_start → a.vars ≡ b.vars → a.comments ≡ b.comments → a.nags ≡ b.nags → a ≡ b
sig-by a b material home plies promo under own vars comments nags =
    let one : a ≡ record a { material = b.material } = ap (λ (m : List ℕ). record a { material = m }) material in
    let two : record a { material = b.material } ≡ record a { material = b.material; home = b.home } = ap (λ (h : HomeList). record a { material = b.material; home = h }) home in
    let three : record a { material = b.material; home = b.home } ≡ record a { material = b.material; home = b.home; plies = b.plies } = ap (λ (n : ℕ). record a { material = b.material; home = b.home; plies = n }) plies in
    let four : record a { material = b.material; home = b.home; plies = b.plies } ≡ record b { under = a.under; own_start = a.own_start; vars = a.vars; comments = a.comments; nags = a.nags } =
    ap (λ (t : Bool). record a { material = b.material; home = b.home; plies = b.plies; promo = t }) promo
    in
    let five : record b { under = a.under; own_start = a.own_start; vars = a.vars; comments = a.comments; nags = a.nags } ≡ record b { own_start = a.own_start; vars = a.vars; comments = a.comments; nags = a.nags } =
    ap (λ (t : Bool). record b { under = t; own_start = a.own_start; vars = a.vars; comments = a.comments; nags = a.nags }) under
    in
    let six : record b { own_start = a.own_start; vars = a.vars; comments = a.comments; nags = a.nags } ≡ record b { vars = a.vars; comments = a.comments; nags = a.nags } =
    ap (λ (t : Bool). record b { own_start = t; vars = a.vars; comments = a.comments; nags = a.nags }) own
    in
    let seven : record b { vars = a.vars; comments = a.comments; nags = a.nags } ≡ record b { comments = a.comments; nags = a.nags } = ap (λ (n : ℕ). record b { vars = n; comments = a.comments; nags = a.nags }) vars in
    let eight : record b { comments = a.comments; nags = a.nags } ≡ record b { nags = a.nags } = ap (λ (n : ℕ). record b { comments = n; nags = a.nags }) comments in
    let nine : record b { nags = a.nags } ≡ b = ap (λ (n : ℕ). record b { nags = n }) nags in
    one ∙ (two ∙ (three ∙ (four ∙ (five ∙ (six ∙ (seven ∙ (eight ∙ nine)))))))

home-by : (a b : HomeList) → a.count ≡ b.count → a.values ≡ b.values → a ≡ b
home-by a b count values =
    let one : a ≡ record a { count = b.count } = ap (λ (n : ℕ). record a { count = n }) count in
    let two : record a { count = b.count } ≡ b = ap (λ (v : List ℕ). record b { values = v }) values in
    one ∙ two

unnot : (b : Bool) → not b ≡ false → b ≡ true
unnot true e = refl
unnot false e = sym e

same-bools : (a b : Bool) → not (beq a b) ≡ false → a ≡ b
same-bools a b e = (booleans_Decides a b).0 (unnot (beq a b) e)

same-numbers : (a b : ℕ) → not (nat_eq a b) ≡ false → a ≡ b
same-numbers a b e = eqb-true a b (unnot (nat_eq a b) e)

same-bytes : (a b : List ℕ) → not (bytes_eq a b) ≡ false → a ≡ b
same-bytes a b e = (bytes_eq-Decides a b).0 (unnot (bytes_eq a b) e)

-- An entry of which no derived field differs has the signature.
pub same-sig : (e : Entry) (s : Sig) → derived_fault e s ≡ None → sig_in e ≡ s
unfolding derived_fault
same-sig e s none =
    let a = step_none _ derived.OwnStart _ none in
    let b = step_none _ derived.Promotion _ a.1 in
    let c = step_none _ derived.Underpromotion _ b.1 in
    let d = step_none _ derived.Variations _ c.1 in
    let f = step_none _ derived.Comments _ d.1 in
    let g = step_none _ derived.Nags _ f.1 in
    let h = step_none _ derived.Material _ g.1 in
    let i = step_none _ derived.Plies _ h.1 in
    let j = step_none _ derived.Home _ i.1 in
    let k = step_none _ derived.Home _ j.1 in
    sig-by (sig_in e) s (same-bytes e.material s.material h.0)
    (home-by (sig_in e).home s.home (same-numbers e.home_count s.home.count j.0) (same-bytes e.home s.home.values k.0))
    (same-numbers e.plies s.plies i.0) (same-bools e.promo s.promo b.0) (same-bools e.under s.under c.0) (same-bools e.own_start s.own_start a.0)
    (same-numbers e.vars s.vars d.0) (same-numbers e.comments s.comments f.0) (same-numbers e.nags s.nags g.0)

pass : {F : Type 0} (b : Bool) (f : F) (rest : Option F) → b ≡ true → rest ≡ None → (if not b then Some f else rest) ≡ None
pass true f rest is none = none
pass false f rest is none = absurd (true≢false (sym is))

-- No derived field of an entry differs from its own signature.
pub own-sig : (e : Entry) → derived_fault e (sig_in e) ≡ None
unfolding derived_fault
own-sig e =
    pass _ derived.OwnStart _ ((booleans_Decides e.own_start e.own_start).1 refl)
    (pass _ derived.Promotion _ ((booleans_Decides e.promo e.promo).1 refl)
    (pass _ derived.Underpromotion _ ((booleans_Decides e.under e.under).1 refl)
    (pass _ derived.Variations _ (eq-eqb e.vars e.vars refl)
    (pass _ derived.Comments _ (eq-eqb e.comments e.comments refl)
    (pass _ derived.Nags _ (eq-eqb e.nags e.nags refl)
    (pass _ derived.Material _ ((bytes_eq-Decides e.material e.material).1 refl)
    (pass _ derived.Plies _ (eq-eqb e.plies e.plies refl)
    (pass _ derived.Home _ (eq-eqb e.home_count e.home_count refl)
    (pass _ derived.Home _ ((bytes_eq-Decides e.home e.home).1 refl) refl)))))))))

-- A signature from which a derived field differs is another one.
pub other-sig : (e : Entry) (s : Sig) → is_some (derived_fault e s) ≡ true → s ≢ sig_in e
other-sig e s differs same = true≢false (sym differs ∙ (ap (λ (t : Sig). is_some (derived_fault e t)) same ∙ ap (λ o. is_some o) (own-sig e)))

none_from : {X : Type 0} (o : Option X) → is_some o ≡ false → o ≡ None
none_from None e = refl
none_from (Some x) e = absurd (true≢false e)

pub none-differs : (e : Entry) (s : Sig) → is_some (derived_fault e s) ≡ false → sig_in e ≡ s
none-differs e s same = same-sig e s (none_from (derived_fault e s) same)
