-- Hits and rows that get new numbers, one after the other.
use Rattle.std.proofs.Common.{◌≡◌, ◌≤◌, ◌<◌, ◌+◌, ℕ, List, [], ◌∷◌, ◌++◌, Option, None, Some, length, get_or, set, take, drop, refl, sym, ap, ◌∙◌, arith}
use Rattle.std.proofs.lemmas.List.{append-nil, take_more, take_more_set, take_all, drop-set-lt, drop-drop, length-set, get_or-drop}
use Rattle.pos_index.specs.declared.hit.Hit.{Hit}
use Rattle.pos_index.specs.Keeping.{moved, moved_by}

-- ---- hits

no_hit : Hit
no_hit = record { game = 0; ply = 0; next = None }

moved_by-front : (to : List (Option ℕ)) (number : Option ℕ) (hit : Hit) (xs ys : List Hit) → moved_by number hit (xs ++ ys) ≡ moved_by number hit xs ++ ys
moved_by-front to None hit xs ys = refl
moved_by-front to (Some number) hit xs ys = refl

pub moved-append : (to : List (Option ℕ)) (xs ys : List Hit) → moved to (xs ++ ys) ≡ moved to xs ++ moved to ys
moved-append to [] ys = refl
moved-append to (hit ∷ xs) ys =
    ap (moved_by (get_or to hit.game None) hit) (moved-append to xs ys) ∙ moved_by-front to (get_or to hit.game None) hit (moved to xs) (moved to ys)

-- Those below place k that stay are at the front, and those from it on are as they were.
pub record MovedHits (to : List (Option ℕ)) (old now : List Hit) (k kept : ℕ) : Type 0 where
  pub front : take kept now ≡ moved to (take k old)
  pub back : drop k now ≡ drop k old
  pub within : kept ≤ k
  pub len : length now ≡ length old

pub moved_hits-init : (to : List (Option ℕ)) (old : List Hit) → MovedHits to old old 0 0
moved_hits-init to old = record { front = refl; back = refl; within = omega arith; len = refl }

-- The hit at place k is the old one.
pub hit_there : (to : List (Option ℕ)) (old now : List Hit) (k kept : ℕ) (d : Hit) → MovedHits to old now k kept → get_or now k d ≡ get_or old k d
hit_there to old now k kept d so =
    let same : k + 0 ≡ k = omega arith in
    sym (get_or-drop k now 0 d ∙ ap (λ (n : ℕ). get_or now n d) same) ∙ ap (λ (l : List Hit). get_or l 0 d) so.back ∙ get_or-drop k old 0 d
    ∙ ap (λ (n : ℕ). get_or old n d) same

rest_there : (to : List (Option ℕ)) (old now : List Hit) (k kept : ℕ) → MovedHits to old now k kept → drop (k + 1) now ≡ drop (k + 1) old
rest_there to old now k kept so = sym (drop-drop 1 k now) ∙ ap (λ (l : List Hit). drop 1 l) so.back ∙ drop-drop 1 k old

pub moved_goes : (to : List (Option ℕ)) (old now : List Hit) (k kept : ℕ) (hit : Hit) → MovedHits to old now k kept → k < length now → hit ≡ get_or now k hit
    → None ≡ get_or to hit.game None → MovedHits to old now (k + 1) kept
moved_goes to old now k kept hit so lt at goes = record {
  front = so.front ∙ sym (
      ap (moved to) (take_more old k hit (omega (arith, lt, so.len)) ∙ ap (λ (h : Hit). take k old ++ h ∷ []) (sym (at ∙ hit_there to old now k kept hit so)))
      ∙ moved-append to (take k old) (hit ∷ []) ∙ ap (λ (n : Option ℕ). moved to (take k old) ++ moved_by n hit []) (sym goes) ∙ append-nil (moved to (take k old)));
  back = rest_there to old now k kept so;
  within = omega (arith, so.within);
  len = so.len;
}

pub moved_stays : (to : List (Option ℕ)) (old now : List Hit) (k kept number : ℕ) (hit put : Hit) → MovedHits to old now k kept → k < length now → hit ≡ get_or now k hit
    → Some number ≡ get_or to hit.game None → put ≡ record { game = number; ply = hit.ply; next = hit.next } → MovedHits to old (set now kept put) (k + 1) (kept + 1)
moved_stays to old now k kept number hit put so lt at stays is = record {
  front =
      take_more_set now kept put (omega (arith, so.within, lt)) ∙ ap (λ (l : List Hit). l ++ put ∷ []) so.front ∙ ap (λ (h : Hit). moved to (take k old) ++ h ∷ []) is ∙ sym (
      ap (moved to) (take_more old k hit (omega (arith, lt, so.len)) ∙ ap (λ (h : Hit). take k old ++ h ∷ []) (sym (at ∙ hit_there to old now k kept hit so)))
      ∙ moved-append to (take k old) (hit ∷ []) ∙ ap (λ (n : Option ℕ). moved to (take k old) ++ moved_by n hit []) (sym stays));
  back = drop-set-lt (k + 1) now kept put (omega (arith, so.within)) ∙ rest_there to old now k kept so;
  within = omega (arith, so.within);
  len = length-set now kept put ∙ so.len;
}

pub moved_all : (to : List (Option ℕ)) (old now : List Hit) (k kept : ℕ) → MovedHits to old now k kept → k ≡ length old → take kept now ≡ moved to old
moved_all to old now k kept so end = so.front ∙ ap (moved to) (take_all k old (omega (arith, end)))

-- The same of what is there after one step.
pub hit_goes : (to : List (Option ℕ)) (old now after : List Hit) (k kept kept' : ℕ) (hit : Hit) → MovedHits to old now k kept → k < length now → hit ≡ get_or now k hit
    → None ≡ get_or to hit.game None → after ≡ now → kept' ≡ kept → MovedHits to old after (k + 1) kept'
hit_goes to old now after k kept kept' hit so lt at goes is same = rw (is, same) (moved_goes to old now k kept hit so lt at goes)

pub hit_stays : (to : List (Option ℕ)) (old now after : List Hit) (k kept kept' number : ℕ) (hit : Hit) → MovedHits to old now k kept → k < length now → hit ≡ get_or now k hit
    → Some number ≡ get_or to hit.game None → after ≡ set now kept (record { game = number; ply = hit.ply; next = hit.next }) → kept' ≡ kept + 1 → MovedHits to old after (k + 1) kept'
hit_stays to old now after k kept kept' number hit so lt at stays is same =
    rw (is, same) (moved_stays to old now k kept number hit (record { game = number; ply = hit.ply; next = hit.next }) so lt at stays refl)
