-- To read the parts of a move's text one by one, each of which may be left out, is to cut the text where they end.
use Rattle.std.proofs.Common.{◌≡◌, ℕ, ◌==◌, Bool, cond, List, [], ◌∷◌, Option, Some, None, is_some, option_map, option_and_then, inl, inr, refl, ap, ◌∙◌}
use Rattle.std.specs.Prelude.{unwrap_or}
use Rattle.std.specs.List.{list_all}
use Rattle.std.specs.Option.{option_map_or, option_or}
use Rattle.std.proofs.lemmas.Bool.{cases_Bool}
use Rattle.cell_core.specs.declared.man.Kind.{Kind}
use Rattle.cell_core.specs.declared.man.Kind.TheVariants.{Pawn}
use Rattle.chess_laws.specs.Geometry.{square}
use Rattle.chess_text.specs.declared.shape.Going.{Going}
use Rattle.chess_text.specs.declared.shape.Shape.TheVariants.{Goes}
use Rattle.chess_text.specs.SanReading.{promotion_named, piece_named, file_named, rank_named, capture_named, is_sign, one, maybe, square_read, promotion_read, aimed, going_named, form_named, shape_named}
use Rattle.chess_text.specs.SanParts.{is_capture_sign, front, behind, begins, passed, square_from, square_front, behind_square, promotion_front, behind_promotion, from_square, from_capture, from_rank, from_file, from_kind, going_parts, shape_from, shape_parts}

-- what is read goes on, with the text behind it
abbrev split : {A : Type 0} → Option (A × List ℕ) → List ℕ → Option A × List ℕ
split found text = option_map_or (λ x. (Some x.0, x.1)) found (None, text)

abbrev told : {A B : Type 0} → Option (A × List ℕ) → List ℕ → (Option A → List ℕ → B) → B
told found text next = next (split found text).0 (split found text).1

abbrev optional : {A B : Type 0} → (List ℕ → Option (A × List ℕ)) → List ℕ → (Option A → List ℕ → B) → B
optional read text next = next (maybe read text).0 (maybe read text).1

-- one byte
one-found : {A B : Type 0} (o : Option A) (byte : ℕ) (text : List ℕ) (next : Option A → List ℕ → B)
    → told (option_map (λ (x : A). (x, text)) o) (byte ∷ text) next
    ≡ next o (cond (is_some o) text (byte ∷ text))
one-found None byte text next = refl
one-found (Some x) byte text next = refl

one-is : {A B : Type 0} (named : ℕ → Option A) (text : List ℕ) (next : Option A → List ℕ → B)
    → optional (one named) text next ≡ next (front named text) (behind named text)
unfolding maybe
one-is named [] next = refl
one-is named (byte ∷ text) next = one-found (named byte) byte text next

-- a sign
sign-is : {B : Type 0} (is_it : ℕ → Bool) (text : List ℕ) (next : Bool → List ℕ → B)
    → optional (one (λ byte. cond (is_it byte) (Some byte) None)) text (λ (found : Option ℕ) (rest : List ℕ). next (is_some found) rest)
    ≡ next (begins is_it text) (passed is_it text)
unfolding maybe
sign-is is_it [] next = refl
sign-is is_it (byte ∷ text) next =
    elim (cases_Bool (is_it byte)) [
      | inl is ↦ rw is refl
      | inr other ↦ rw other refl
    ]

-- a square
square-rank : {B : Type 0} (f a b : ℕ) (text : List ℕ) (u : Option ℕ) (next : Option ℕ → List ℕ → B)
    → told (option_map (λ (rank : ℕ × List ℕ). (square f rank.0, rank.1)) (option_map (λ (x : ℕ). (x, text)) u)) (a ∷ b ∷ text) next
    ≡ next (square_from (Some f) u) (cond (is_some (square_from (Some f) u)) text (a ∷ b ∷ text))
square-rank f a b text None next = refl
square-rank f a b text (Some r) next = refl

square-file : {B : Type 0} (a b : ℕ) (text : List ℕ) (o : Option ℕ) (next : Option ℕ → List ℕ → B)
    → told
    (option_and_then (λ (file : ℕ × List ℕ). option_map (λ (rank : ℕ × List ℕ). (square file.0 rank.0, rank.1)) (one rank_named file.1))
    (option_map (λ (x : ℕ). (x, b ∷ text)) o)) (a ∷ b ∷ text) next
    ≡ next (square_from o (rank_named b)) (cond (is_some (square_from o (rank_named b))) text (a ∷ b ∷ text))
square-file a b text None next = refl
square-file a b text (Some f) next = square-rank f a b text (rank_named b) next

square-alone : {B : Type 0} (a : ℕ) (o : Option ℕ) (next : Option ℕ → List ℕ → B)
    → told
    (option_and_then (λ (file : ℕ × List ℕ). option_map (λ (rank : ℕ × List ℕ). (square file.0 rank.0, rank.1)) (one rank_named file.1))
    (option_map (λ (x : ℕ). (x, [])) o)) (a ∷ []) next
    ≡ next (square_from o None) (cond (is_some (square_from o None)) [] (a ∷ []))
square-alone a None next = refl
square-alone a (Some f) next = refl

square-is : {B : Type 0} (text : List ℕ) (next : Option ℕ → List ℕ → B) → optional square_read text next ≡ next (square_front text) (behind_square text)
unfolding maybe square_read square_front behind_square
square-is [] next = refl
square-is (a ∷ []) next = square-alone a (file_named a) next
square-is (a ∷ b ∷ text) next = square-file a b text (file_named a) next

-- a promotion
letter-found : {B : Type 0} (o : Option Kind) (byte : ℕ) (rest text : List ℕ) (next : Option Kind → List ℕ → B)
    → told (option_map (λ (x : Kind). (x, rest)) o) text next
    ≡ next o (cond (is_some o) (cond (is_some o) rest (byte ∷ rest)) text)
letter-found None byte rest text next = refl
letter-found (Some k) byte rest text next = refl

letter-is : {B : Type 0} (rest text : List ℕ) (next : Option Kind → List ℕ → B)
    → told (one promotion_named rest) text next
    ≡ next (front promotion_named rest) (cond (is_some (front promotion_named rest)) (behind promotion_named rest) text)
letter-is [] text next = refl
letter-is (byte ∷ rest) text next = letter-found (promotion_named byte) byte rest text next

promotion-is : {B : Type 0} (text : List ℕ) (next : Option Kind → List ℕ → B)
    → optional promotion_read text next ≡ next (promotion_front text) (behind_promotion text)
unfolding maybe promotion_read promotion_front behind_promotion
promotion-is text next =
    ap (λ (found : Option (Kind × List ℕ)). told found text next)
    (sign-is (λ (byte : ℕ). byte == 61) text (λ (equals : Bool) (rest : List ℕ). one promotion_named rest))
    ∙ letter-is (passed (λ (byte : ℕ). byte == 61) text) text next

-- the parts one behind another
abbrev after_target : Kind → Option ℕ → Option ℕ → Bool → Option ℕ → List ℕ → Option Going
after_target k file rank takes target text =
    optional promotion_read text (λ promo rest. cond (list_all is_sign rest) (aimed k file rank takes target promo) None)

abbrev after_capture : Kind → Option ℕ → Option ℕ → Bool → List ℕ → Option Going
after_capture k file rank takes text = optional square_read text (λ target rest. after_target k file rank takes target rest)

abbrev after_rank : Kind → Option ℕ → Option ℕ → List ℕ → Option Going
after_rank k file rank text = optional (one capture_named) text (λ capture rest. after_capture k file rank (is_some capture) rest)

abbrev after_file : Kind → Option ℕ → List ℕ → Option Going
after_file k file text = optional (one rank_named) text (λ rank rest. after_rank k file rank rest)

abbrev after_kind : Kind → List ℕ → Option Going
after_kind k text = optional (one file_named) text (λ file rest. after_file k file rest)

target-is : (k : Kind) (file rank : Option ℕ) (takes : Bool) (target : Option ℕ) (text : List ℕ)
    → after_target k file rank takes target text ≡ from_square k file rank takes target text
target-is k file rank takes target text =
    promotion-is text (λ (promo : Option Kind) (rest : List ℕ). cond (list_all is_sign rest) (aimed k file rank takes target promo) None)

capture-is : (k : Kind) (file rank : Option ℕ) (takes : Bool) (text : List ℕ) → after_capture k file rank takes text ≡ from_capture k file rank takes text
capture-is k file rank takes text =
    square-is text (λ (target : Option ℕ) (rest : List ℕ). after_target k file rank takes target rest)
    ∙ target-is k file rank takes (square_front text) (behind_square text)

rank-is : (k : Kind) (file rank : Option ℕ) (text : List ℕ) → after_rank k file rank text ≡ from_rank k file rank text
rank-is k file rank text =
    sign-is is_capture_sign text (λ (takes : Bool) (rest : List ℕ). after_capture k file rank takes rest)
    ∙ capture-is k file rank (begins is_capture_sign text) (passed is_capture_sign text)

file-is : (k : Kind) (file : Option ℕ) (text : List ℕ) → after_file k file text ≡ from_file k file text
file-is k file text =
    one-is rank_named text (λ (rank : Option ℕ) (rest : List ℕ). after_rank k file rank rest)
    ∙ rank-is k file (front rank_named text) (behind rank_named text)

kind-is : (k : Kind) (text : List ℕ) → after_kind k text ≡ from_kind k text
kind-is k text =
    one-is file_named text (λ (file : Option ℕ) (rest : List ℕ). after_file k file rest)
    ∙ file-is k (front file_named text) (behind file_named text)

going-is : (text : List ℕ) → going_named text ≡ going_parts text
unfolding going_named going_parts
going-is text =
    one-is piece_named text (λ (piece : Option Kind) (rest : List ℕ). after_kind (unwrap_or piece Pawn) rest)
    ∙ kind-is (unwrap_or (front piece_named text) Pawn) (behind piece_named text)

shape-from-is : (o : Option Going) (text : List ℕ) → option_or (option_map Goes o) (form_named text) ≡ shape_from o text
shape-from-is None text = refl
shape-from-is (Some going) text = refl

pub shape_is : (text : List ℕ) → shape_named text ≡ shape_parts text
unfolding shape_named shape_parts
shape_is text =
    ap (λ (o : Option Going). option_or (option_map Goes o) (form_named text)) (going-is text) ∙ shape-from-is (going_parts text) text

pub shape_of_going : (text : List ℕ) (going : Going) → going_parts text ≡ Some going → shape_named text ≡ Some (Goes going)
unfolding shape_named
shape_of_going text going is = ap (λ (o : Option Going). option_or (option_map Goes o) (form_named text)) (going-is text ∙ is)

pub shape_of_form : (text : List ℕ) → going_parts text ≡ None → shape_named text ≡ form_named text
unfolding shape_named
shape_of_form text is = ap (λ (o : Option Going). option_or (option_map Goes o) (form_named text)) (going-is text ∙ is)
