-- An open line that is kept as one list of moves, of which the last stands apart.
use Rattle.std.proofs.Common.{arith, ◌≡◌, ◌↔◌, ◌+◌, ◌-◌, ◌<◌, ℕ, zero, suc, false, List, [], ◌∷◌, ◌++◌, length, take, Option, Some, None, option_map, Result, Ok, Err, OnOk, IsTrue, refl, sym, ap, ◌∙◌}
use Rattle.std.specs.Prelude.{slice_get, slice_set, slice_index_or}
use Rattle.std.proofs.Math.Seq.{take-append_seam}
use Rattle.std.proofs.lemmas.List.{length-append, length-set, take-set}
use Rattle.std.proofs.lemmas.Option.{slice_get-get_or}
use Rattle.cell_core.specs.declared.step.Move.{Move}
use Rattle.game_tree.specs.Tree.{Played, Variation}
use Rattle.game_tree.specs.Movetext.{as_comment}
use Rattle.game_tree.specs.Building.{and_last, bare, more_comment, more_nags, more_variations, open_of, with_comment, with_comment_on, with_move, with_nag, with_variation}

-- What holds on success holds with all that follows from it.
pub on_ok : {X E A B : Type 0} (r : Result X E) → (A → B) → OnOk r A → OnOk r B
on_ok (Ok x) f is = f is
on_ok (Err e) f is = is

-- ---- the last move behind the others

and_last-led : (p : Played) (ps : List Played) (last : Option Played) → and_last (p ∷ ps) last ≡ p ∷ and_last ps last
and_last-led p ps None = refl
and_last-led p ps (Some q) = refl

rejoined_at : (ps : List Played) (n : ℕ) → length ps ≡ suc n → and_last (take n ps) (slice_get ps n) ≡ ps
rejoined_at [] n size = absurd (omega (arith, size))
rejoined_at (p ∷ []) zero size = refl
rejoined_at (p ∷ []) (suc n) size = absurd (omega (arith, size))
rejoined_at (p ∷ (q ∷ ps)) zero size = absurd (omega (arith, size))
rejoined_at (p ∷ (q ∷ ps)) (suc n) size =
    and_last-led p (take n (q ∷ ps)) (slice_get (q ∷ ps) n) ∙ ap (λ (l : List Played). p ∷ l) (rejoined_at (q ∷ ps) n (omega (arith, size)))

pub rejoined : (ps : List Played) → and_last (take (length ps - 1) ps) (slice_get ps (length ps - 1)) ≡ ps
rejoined [] = refl
rejoined (p ∷ ps) = rejoined_at (p ∷ ps) (length (p ∷ ps) - 1) (omega arith)

-- ---- one more move

last_pushed : (ps : List Played) (p : Played) → slice_get (ps ++ p ∷ []) (length ps) ≡ Some p
last_pushed [] p = refl
last_pushed (q ∷ ps) p = last_pushed ps p

pub played : (lead : Option (List ℕ)) (ps : List Played) (p : Played) (m : Move) → p ≡ bare m → open_of lead (ps ++ p ∷ []) ≡ with_move (bare m) (open_of lead ps)
played lead ps p m is =
    let one : length (ps ++ p ∷ []) ≡ length ps + 1 = length-append ps (p ∷ []) in
    let before : length (ps ++ p ∷ []) - 1 ≡ length ps = omega (arith, one) in
    rw (before, take-append_seam ps (p ∷ []), last_pushed ps p, is, rejoined ps) refl

-- ---- the last move changed

changed_at : (ps : List Played) (n : ℕ) (p q : Played) → slice_get ps n ≡ Some p → slice_get (slice_set ps n q) n ≡ Some q
changed_at [] n p q at = cc
changed_at (r ∷ ps) zero p q at = refl
changed_at (r ∷ ps) (suc n) p q at = changed_at ps n p q at

-- What is known of the last move that is lent.
abbrev pub IsLast : List Played → ℕ → Played → Type 0
IsLast ps n p = (n ≡ length ps) × ((0 < length ps) × (p ≡ slice_index_or ps (n - 1) p))

last_there : (ps : List Played) (n : ℕ) (p : Played) → IsLast ps n p → slice_get ps (length ps - 1) ≡ Some p
last_there ps n p is =
    slice_get-get_or ps (length ps - 1) p (omega (arith, is.1.0)) ∙ ap (λ (x : Played). Some x) (sym (is.1.1 ∙ ap (λ (k : ℕ). slice_index_or ps (k - 1) p) is.0))

changed : (lead : Option (List ℕ)) (ps : List Played) (n : ℕ) (p q : Played) → IsLast ps n p
    → open_of lead (slice_set ps (n - 1) q) ≡ record { lead = lead; done = take (length ps - 1) ps; last = Some q }
changed lead ps n p q is =
    let there = changed_at ps (length ps - 1) p q (last_there ps n p is) in
    rw (is.0, length-set ps (length ps - 1) q, take-set ps (length ps - 1) q, there) refl

changed_by : (f : Played → Played) (lead : Option (List ℕ)) (ps : List Played) (n : ℕ) (p q : Played) → IsLast ps n p → q ≡ f p
    → open_of lead (slice_set ps (n - 1) q) ≡ record { lead = lead; done = take (length ps - 1) ps; last = option_map f (slice_get ps (length ps - 1)) }
changed_by f lead ps n p q is by = changed lead ps n p q is ∙ rw (last_there ps n p is, by) refl

pub nagged : (lead : Option (List ℕ)) (ps : List Played) (n : ℕ) (p q : Played) (nag : ℕ) → IsLast ps n p → q ≡ more_nags nag p
    → open_of lead (slice_set ps (n - 1) q) ≡ with_nag nag (open_of lead ps)
nagged lead ps n p q nag is by = changed_by (more_nags nag) lead ps n p q is by

pub varied : (lead : Option (List ℕ)) (ps : List Played) (n : ℕ) (p q : Played) (v : Variation) → IsLast ps n p → q ≡ more_variations v p
    → open_of lead (slice_set ps (n - 1) q) ≡ with_variation v (open_of lead ps)
varied lead ps n p q v is by = changed_by (more_variations v) lead ps n p q is by

some_text : (text : List ℕ) → (IsTrue false ↔ (text ≡ [])) → as_comment text ≡ Some text
some_text [] some = let bad : IsTrue false = some.1 refl in cc
some_text (byte ∷ text) some = refl

pub commented : (lead : Option (List ℕ)) (ps : List Played) (n : ℕ) (p q : Played) (text : List ℕ) → (IsTrue false ↔ (text ≡ [])) → IsLast ps n p
    → q ≡ more_comment (Some text) p → open_of lead (slice_set ps (n - 1) q) ≡ with_comment text (open_of lead ps)
commented lead ps n p q text some is by =
    changed lead ps n p q is
    ∙ ap (λ (x : Played). record { lead = lead; done = take (length ps - 1) ps; last = Some x }) (by ∙ ap (λ (t : Option (List ℕ)). more_comment t p) (sym (some_text text some)))
    ∙ ap (with_comment_on (as_comment text) lead (take (length ps - 1) ps)) (sym (last_there ps n p is))
