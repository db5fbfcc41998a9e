-- Laws of bytes that are moved to the front of a buffer, and of others that are read behind them.
use Rattle.std.proofs.Common.{◌≡◌, ◌≤◌, ◌+◌, ◌-◌, ℕ, List, [], ◌++◌, length, take, drop, Option, sym, ap, ◌∙◌, arith}
use Rattle.std.specs.List.{copy_within}
use Rattle.std.proofs.Math.Seq.{take-add, take-append_seam}
use Rattle.std.proofs.lemmas.List.Edits.{take-paste}
use Rattle.std.proofs.lemmas.List.{take-append-le, take-take, take_all, take-append-drop, drop-append-le, drop-take, drop_all, length-drop, length-take-le}
use borrow.Rule.Slice.PartMut.{post_of, put_mid}
use Rattle.base_files.specs.Told.{before}
use Rattle.base_files.proofs.Telling.{before-append}

pub moved_front : (from to : ℕ) (bytes : List ℕ) → from ≤ to → to ≤ length bytes → take (to - from) (copy_within bytes from to 0) ≡ drop from (take to bytes)
moved_front from to bytes order inside =
    let rest : length (drop from bytes) ≡ length bytes - from = length-drop from bytes in
    let all : from + (to - from) ≡ to = omega (arith, order) in
    let none : 0 + (to - from) ≡ to - from = omega arith in
    ap (λ n. take n (copy_within bytes from to 0)) (sym none)
    ∙ take-paste bytes 0 (drop from bytes) (to - from) (omega arith) (omega (arith, rest, order, inside))
    ∙ sym (drop-take from (to - from) bytes) ∙ ap (λ n. drop from (take n bytes)) all

-- What was read behind the first bytes.
pub tail_read : (kept n k : ℕ) (xs ys : List ℕ) → kept ≤ length xs → n ≤ length ys → drop kept (take (kept + n) (put_mid kept k xs ys)) ≡ take n ys
tail_read kept n k xs ys fits few =
    let size : length (take kept xs) ≡ kept = length-take-le kept xs fits in
    let none : drop kept (take kept xs) ≡ [] = drop_all kept (take kept xs) (omega (arith, size)) in
    drop-take kept n (put_mid kept k xs ys)
    ∙ ap (take n) (drop-append-le kept (take kept xs) (ys ++ post_of kept k xs) (omega (arith, size)) ∙ ap (λ l. l ++ (ys ++ post_of kept k xs)) none)
    ∙ take-append-le n ys (post_of kept k xs) few

-- Behind the bytes from one place to another come those that were read last.
parts : (kept to n : ℕ) (bytes : List ℕ) → kept ≤ to → to ≤ length bytes → drop kept (take (to + n) bytes) ≡ drop kept (take to bytes) ++ drop to (take (to + n) bytes)
parts kept to n bytes order inside =
    ap (drop kept) (take-add to n bytes)
    ∙ drop-append-le kept (take to bytes) (take n (drop to bytes)) (omega (arith, order, length-take-le to bytes inside))
    ∙ ap (λ l. drop kept (take to bytes) ++ l) (sym (drop-take to n bytes))

-- One more read of a loop.
pub read_more : (kept to n : ℕ) (old new : List ℕ) (l l' l'' : Option (List ℕ)) → kept ≤ to → to ≤ length new → take to new ≡ take to old
    → l ≡ before (drop kept (take to old)) l' → l' ≡ before (drop to (take (to + n) new)) l'' → l ≡ before (drop kept (take (to + n) new)) l''
read_more kept to n old new l l' l'' order inside same first next =
    first ∙ ap (before (drop kept (take to old))) next ∙ sym (before-append (drop kept (take to old)) (drop to (take (to + n) new)) l'')
    ∙ ap (λ x. before (drop kept x ++ drop to (take (to + n) new)) l'') (sym same)
    ∙ ap (λ x. before x l'') (sym (parts kept to n new order inside))

-- The first bytes stay where more of them do.
pub front_stays : (kept to : ℕ) (old mid new : List ℕ) → kept ≤ to → take to new ≡ take to mid → take kept mid ≡ take kept old → take kept new ≡ take kept old
front_stays kept to old mid new order last first =
    sym (take-take kept to new order) ∙ ap (take kept) last ∙ take-take kept to mid order ∙ first

-- What was read stands behind the bytes from one place to another.
pub filled : (from to n : ℕ) (unread old new : List ℕ) → drop from (take to old) ≡ unread → take to new ≡ take to old → from ≤ to → to ≤ n
    → to ≤ length new → drop from (take n new) ≡ unread ++ drop to (take n new)
filled from to n unread old new front stays order more inside =
    let rest : List ℕ = drop to (take n new) in
    let size : length (take to new) ≡ to = length-take-le to new inside in
    ap (drop from) (sym (take-append-drop to (take n new)) ∙ ap (λ x. x ++ rest) (take-take to n new more))
    ∙ drop-append-le from (take to new) rest (omega (arith, size, order))
    ∙ ap (λ x. x ++ rest) (ap (drop from) stays ∙ front)

pub kept_behind : (unread rest new : List ℕ) (l l' : Option (List ℕ)) → new ≡ unread ++ rest → l ≡ before rest l' → before unread l ≡ before new l'
kept_behind unread rest new l l' whole given = ap (before unread) given ∙ sym (before-append unread rest l') ∙ ap (λ b. before b l') (sym whole)

pub front_kept : (unread rest new : List ℕ) → new ≡ unread ++ rest → take (length unread) new ≡ unread
front_kept unread rest new whole = ap (take (length unread)) whole ∙ take-append_seam unread rest

-- The front of bytes behind which others came.
pub front_of : (n : ℕ) (old new : List ℕ) → n ≤ length old → take (length old) new ≡ old → take n new ≡ take n old
front_of n old new few front = sym (take-take n (length old) new few) ∙ ap (take n) front

-- All of a vector was lent as a slice.
pub all_lent : (n : ℕ) (new old : List ℕ) → length new ≡ n → take n (new ++ drop (length new) old) ≡ new
all_lent n new old size = take-append-le n new (drop (length new) old) (omega (arith, size)) ∙ take_all n new (omega (arith, size))
