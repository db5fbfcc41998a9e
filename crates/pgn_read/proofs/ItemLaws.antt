-- Laws of items: what one token does, and that a text has one list of items.
use Rattle.std.proofs.Common.{◌≡◌, ◌⊎◌, inl, inr, ◌≤◌, ◌<◌, ◌+◌, ◌-◌, ◌==◌, ◌&&◌, ◌||◌, ℕ, zero, suc, Bool, true, false, not, cond, nat_lt, IsTrue, List, [], ◌∷◌, ◌++◌, length, Option, Some, None, option_map, IfSome, Result, Ok, Err, IfOk, refl, sym, ap, ◌∙◌, arith, length-append, length-drop, append-nil}
use Rattle.std.proofs.lemmas.List.{take-append-le, drop-append-le}
use Rattle.base_files.specs.Told.{Tells}
use Rattle.game_tree.specs.declared.head.Outcome.{Outcome}
use Rattle.pgn_read.specs.declared.item.GameWhat.{GameWhat}
use Rattle.pgn_read.specs.declared.item.GameWhat.TheVariants as what
use Rattle.pgn_read.specs.declared.item.Item.{Item}
use Rattle.pgn_read.specs.declared.item.Item.TheVariants.{Good, Bad}
use Rattle.pgn_read.specs.declared.place.Place.{Place}
use Rattle.pgn_read.specs.declared.step.End.{End}
use Rattle.pgn_read.specs.declared.step.End.TheVariants as end
use Rattle.pgn_read.specs.declared.step.Step.{Step}
use Rattle.pgn_read.specs.declared.step.Step.TheVariants as step
use Rattle.pgn_read.specs.Place.{next_place}
use Rattle.pgn_read.specs.Bytes.{is_white}
use Rattle.pgn_read.specs.Token.{Token, Lexed}
use Rattle.pgn_read.specs.Lexing.{lexed, size}
use Rattle.pgn_read.specs.Text.{At, here, on_remark, behind_gap, longest, skipped, behind_mark, behind_token, spots}
use Rattle.pgn_read.specs.Reading.{Reading, Effect, goes_on, ends_behind, ends_before, is_faulty, unread, is_inside, effect, is_next_game, game_of}
use Rattle.pgn_read.specs.Heads.{head_from}
use Rattle.pgn_read.specs.Items.{Next, next, faulty, ended, ended_before, by_effect, effect_at, item_from, item_at, first_token, next_item, AreItems, PgnReads}
use Rattle.pgn_read.specs.Said.{said_end, EndsWell}
use Rattle.pgn_read.specs.Readers.{Window, with_more, ahead}
use Rattle.pgn_read.specs.Window.{front, resumed_at, Decides, by_end, Moved, FrontPassed, FrontMoved}
use Rattle.pgn_read.proofs.LexingLaws.{Goes, token_goes, token_shorter}

-- ---- progress

pub at_short : (c : Bool) (n : ℕ) (x y : At) → length x.bytes ≤ n → length y.bytes ≤ n → length (cond c x y).bytes ≤ n
at_short true n x y p q = p
at_short false n x y p q = q

pub gap_short : (inside : Bool) (place : Place) (room : ℕ) (w : List ℕ) → length (behind_gap inside place room w).bytes ≤ length w
gap_short inside place room [] = omega arith
gap_short inside place room (b ∷ w) =
    at_short (on_remark inside place b || is_white b) (suc (length w)) _ _
    (omega (arith, gap_short (on_remark inside place b && not (b == 10)) (next_place place b) (room - 1) w)) (omega arith)

pub next_short : (place : Place) (room b : ℕ) (w : List ℕ) → length (skipped (behind_token (here place room (b ∷ w)))).bytes ≤ length w
next_short place room b w =
    let behind = behind_token (here place room (b ∷ w)) in
    omega (arith, gap_short false behind.place behind.room behind.bytes, length-drop (size (b ∷ w)) (b ∷ w), token_shorter b w)

-- As many tokens as there are bytes, and the end, are all.
enough : (m n : ℕ) (place : Place) (room : ℕ) (w : List ℕ) → length w < m → length w < n → spots m (here place room w) ≡ spots n (here place room w)
unfolding spots
enough zero n place room w p q = absurd (omega (arith, p))
enough (suc m) zero place room w p q = absurd (omega (arith, q))
enough (suc m) (suc n) place room [] p q = refl
enough (suc m) (suc n) place room (b ∷ w) p q =
    let next = skipped (behind_token (here place room (b ∷ w))) in
    let short : length next.bytes ≤ length w = next_short place room b w in
    let more : nat_lt 0 (suc (length w)) ≡ true = search arith in
    rw more (ap (λ l. here place room (b ∷ w) ∷ l) (enough m n next.place next.room next.bytes (omega (arith, short, p)) (omega (arith, short, q))))

-- ---- what one token does

later_same : (r : Reading) (e : Effect) (a : At) (f g : Reading → Next) → ((s : Reading) → f s ≡ g s) → by_effect r a f e ≡ by_effect r a g e
later_same r (goes_on s) a f g same = same s
later_same r (ends_behind outcome) a f g same = refl
later_same r ends_before a f g same = refl
later_same r (is_faulty w) a f g same = refl

pub and_false : (a b : Bool) → (a && (b && false)) ≡ false
and_false true true = refl
and_false true false = refl
and_false false b = refl

pub end_at : (r : Reading) (place : Place) (room : ℕ) → effect_at r (here place room []) ≡ cond (is_inside r) (is_faulty what.Paren) ends_before
unfolding lexed effect
end_at r place room =
    let below : nat_lt room 0 ≡ false = search arith in
    rw (and_false r.in_moves (not (is_inside r))) rw below refl

ends_same : (r : Reading) (c : Bool) (a : At) (f g : Reading → Next)
    → by_effect r a f (cond c (is_faulty what.Paren) ends_before) ≡ by_effect r a g (cond c (is_faulty what.Paren) ends_before)
ends_same r true a f g = refl
ends_same r false a f g = refl

taken : (r : Reading) (place : Place) (room : ℕ) (w : List ℕ)
    → item_at r (here place room w) ≡ by_effect r (here place room w) (λ s. item_at s (skipped (behind_token (here place room w)))) (effect_at r (here place room w))
unfolding item_from spots
taken r place room [] = rw (end_at r place room) (ends_same r (is_inside r) (here place room []) _ _)
taken r place room (b ∷ w) =
    let a = here place room (b ∷ w) in
    let next = skipped (behind_token a) in
    let more : nat_lt 0 (suc (length w)) ≡ true = search arith in
    rw more (later_same r (effect_at r a) a _ _
    (λ s. ap (item_from s)
    (enough (suc (length w)) (suc (length next.bytes)) next.place next.room next.bytes (omega (arith, next_short place room b w)) (omega arith))))

pub token_taken : (r : Reading) (a : At) → item_at r a ≡ by_effect r a (λ s. item_at s (skipped (behind_token a))) (effect_at r a)
token_taken r a = taken r a.place a.room a.bytes

-- A token with which reading goes on has a byte.
pub not_end : (c : Bool) (s : Reading) → cond c (is_faulty what.Paren) ends_before ≡ goes_on s → ⊥
not_end true s is = cc
not_end false s is = cc

pub token_some : (w : List ℕ) (r s : Reading) (t : Token) → t ≡ (lexed w).token → goes_on s ≡ effect t r → length (lexed w).rest < length w
unfolding lexed effect
token_some [] r s t is goes = absurd (not_end (is_inside r) s (sym (goes ∙ ap (λ k. effect k r) is)))
token_some (b ∷ x) r s t is goes = omega (arith, token_shorter b x)

pub rest_fits : (w : List ℕ) → length (lexed w).rest ≤ length w
unfolding lexed
rest_fits [] = omega arith
rest_fits (b ∷ x) = omega (arith, token_shorter b x)

-- ---- what the window tells

-- Two texts have the same token at their front, or one that is too long.
SameSize : ℕ → List ℕ → List ℕ → Type 0
SameSize room v w = (((lexed w).token ≡ (lexed v).token) × (size w ≡ size v)) ⊎ ((room < size v) × (room < size w))

goes_size : (b : ℕ) (x more : List ℕ) (room : ℕ) → Goes more (lexed (b ∷ x)) (lexed (b ∷ (x ++ more)))
    → (8 ≤ length (lexed (b ∷ x)).rest) ⊎ (room + 8 ≤ length (b ∷ x)) → SameSize room (b ∷ x) (b ∷ (x ++ more))
unfolding SameSize
goes_size b x more room (inl goes) decides =
    let rest : (lexed (b ∷ (x ++ more))).rest ≡ (lexed (b ∷ x)).rest ++ more = ap (λ (l : Lexed). l.rest) goes in
    let n = ap length rest ∙ length-append (lexed (b ∷ x)).rest more in
    inl (ap (λ (l : Lexed). l.token) goes, omega (arith, n, length-append x more, token_shorter b x))
goes_size b x more room (inr short) (inl long) = absurd (omega (arith, short.0, long))
goes_size b x more room (inr short) (inr long) = inr (omega (arith, short.0, long), omega (arith, short.1, long, length-append x more))

decided : (w more : List ℕ) (room : ℕ) → (8 ≤ length (lexed w).rest) ⊎ (room + 8 ≤ length w) → SameSize room w (w ++ more)
unfolding lexed
decided [] more room (inl long) = absurd (omega (arith, long))
decided [] more room (inr long) = absurd (omega (arith, long))
decided (b ∷ x) more room long = goes_size b x more room (token_goes b x more) long

too_long : (room n : ℕ) → room < n → nat_lt room n ≡ true
too_long room n above = search (arith, above)

effect_same : (r : Reading) (place : Place) (room : ℕ) (v w : List ℕ) → SameSize room v w → is_next_game r w ≡ is_next_game r v
    → effect_at r (here place room w) ≡ effect_at r (here place room v)
unfolding SameSize
effect_same r place room v w (inl same) next = rw next rw same.0 rw same.1 refl
effect_same r place room v w (inr long) next = rw next rw (too_long room (size v) long.0) rw (too_long room (size w) long.1) refl

next_more : (r : Reading) (w more : List ℕ) → 1 ≤ length w → is_next_game r (w ++ more) ≡ is_next_game r w
next_more r [] more some = absurd (omega (arith, some))
next_more r (b ∷ w) more some = refl

rest_some : (w : List ℕ) → 8 ≤ length (lexed w).rest → 1 ≤ length w
unfolding lexed
rest_some [] long = absurd (omega (arith, long))
rest_some (b ∷ w) long = omega arith

decided_some : (w : List ℕ) (room : ℕ) → (8 ≤ length (lexed w).rest) ⊎ (room + 8 ≤ length w) → 1 ≤ length w
decided_some w room (inl long) = rest_some w long
decided_some w room (inr long) = omega (arith, long)

front_effect : (r : Reading) (v : Window) (more : List ℕ) → Decides v → (IsTrue v.ended → more ≡ []) → effect_at r (with_more v more) ≡ effect_at r (front v)
front_effect r v more (inl ended) none =
    ap (λ m. effect_at r (with_more v m)) (none ended) ∙ ap (λ w. effect_at r (here v.place v.room w)) (append-nil v.unread)
front_effect r v more (inr long) none =
    effect_same r v.place v.room v.unread (v.unread ++ more) (decided v.unread more v.room long) (next_more r v.unread more (decided_some v.unread v.room long))

same_fits : (room : ℕ) (v w : List ℕ) → SameSize room v w → size v ≤ room → size w ≡ size v
unfolding SameSize
same_fits room v w (inl same) fits = same.1
same_fits room v w (inr long) fits = absurd (omega (arith, long.0, fits))

front_size : (v : Window) (more : List ℕ) → Decides v → (IsTrue v.ended → more ≡ []) → size v.unread ≤ v.room → size (v.unread ++ more) ≡ size v.unread
front_size v more (inl ended) none fits = ap (λ m. size (v.unread ++ m)) (none ended) ∙ ap size (append-nil v.unread)
front_size v more (inr long) none fits = same_fits v.room v.unread (v.unread ++ more) (decided v.unread more v.room long) fits

-- Behind the token at the front.
behind_front : (v w : Window) (more : List ℕ) → Decides v → (IsTrue v.ended → more ≡ []) → FrontPassed v w → behind_token (with_more v more) ≡ with_more w more
behind_front v w more decides none pass =
    let n : size (v.unread ++ more) ≡ size v.unread = front_size v more decides none pass.fits in
    let within : size v.unread ≤ length v.unread = omega arith in
    rw n rw (take-append-le (size v.unread) v.unread more within) rw (drop-append-le (size v.unread) v.unread more within)
    rw pass.unread rw pass.place rw pass.room refl

-- ---- where the source tells

none_behind : (v : Window) (more : List ℕ) → (IsTrue v.ended → Tells (Some more) []) → IsTrue v.ended → more ≡ []
none_behind v more told ended = sym (told ended)

pub told_effect : (r : Reading) (e : Effect) (u v : Window) (k l : Option (List ℕ)) → ahead u k ≡ ahead v l → Decides v → (IsTrue v.ended → Tells l [])
    → effect_at r (front v) ≡ e → IfSome (ahead u k) (λ a. effect_at r a ≡ e)
told_effect r e u v k None kept decides told is = rw kept tt
told_effect r e u v k (Some more) kept decides told is = rw kept (front_effect r v more decides (none_behind v more told) ∙ is)

behind_told : (v w : Window) (l : Option (List ℕ)) → Decides v → (IsTrue v.ended → Tells l []) → FrontPassed v w → option_map behind_token (ahead v l) ≡ ahead w l
behind_told v w None decides told pass = refl
behind_told v w (Some more) decides told pass = ap Some (behind_front v w more decides (none_behind v more told) pass)

pub told_moved : (s : Step) (u v w : Window) (k l : Option (List ℕ)) → ahead u k ≡ ahead v l → Decides v → (IsTrue v.ended → Tells l [])
    → FrontMoved s v w → Moved s (ahead u k) (ahead w l)
told_moved step.GoesOn u v w k l kept decides told pass = ap (option_map behind_token) kept ∙ behind_told v w l decides told pass
told_moved (step.Ends (end.Behind outcome)) u v w k l kept decides told pass = ap (option_map behind_token) kept ∙ behind_told v w l decides told pass
told_moved (step.Ends end.Before) u v w k l kept decides told same = kept ∙ ap (λ x. ahead x l) (sym same)
told_moved (step.Ends (end.Faulty fault)) u v w k l kept decides told same = kept ∙ ap (λ x. ahead x l) (sym same)

-- ---- steps

went : (r s : Reading) (t : Option At) → IfSome t (λ a. effect_at r a ≡ goes_on s)
    → option_map (item_at r) t ≡ option_map (item_at s) (option_map skipped (option_map behind_token t))
went r s None is = refl
went r s (Some a) is = ap Some (token_taken r a ∙ ap (by_effect r a (λ q. item_at q (skipped (behind_token a)))) is)

-- Reading goes on behind a token and the gap behind it.
pub goes_further : (r s : Reading) (t u x : Option At) → IfSome t (λ a. effect_at r a ≡ goes_on s) → option_map behind_token t ≡ u
    → option_map skipped u ≡ x → option_map (item_at r) t ≡ option_map (item_at s) x
goes_further r s t u x is behind gap = went r s t is ∙ ap (λ o. option_map (item_at s) (option_map skipped o)) behind ∙ ap (option_map (item_at s)) gap

ended_told : (r : Reading) (e : End) (t : Option At) (f : At → Next) → ((a : At) → by_effect r a (λ q. item_at q (skipped (behind_token a))) (said_end e) ≡ f a)
    → IfSome t (λ a. effect_at r a ≡ said_end e) → option_map (item_at r) t ≡ option_map f t
ended_told r e None f same is = refl
ended_told r e (Some a) f same is = ap Some (token_taken r a ∙ ap (by_effect r a (λ q. item_at q (skipped (behind_token a)))) is ∙ same a)

map_twice : {A B C : Type 0} (f : B → C) (g : A → B) (t : Option A) → option_map (λ a. f (g a)) t ≡ option_map f (option_map g t)
map_twice f g None = refl
map_twice f g (Some a) = refl

-- A token ends the item.
pub comes_to_end : (r : Reading) (e : End) (t u : Option At) → IfSome t (λ a. effect_at r a ≡ said_end e) → Moved (step.Ends e) t u
    → option_map (item_at r) t ≡ option_map (by_end r e) u
comes_to_end r (end.Behind outcome) t u is moved =
    ended_told r (end.Behind outcome) t (λ a. by_end r (end.Behind outcome) (behind_token a)) (λ a. refl) is
    ∙ map_twice (by_end r (end.Behind outcome)) behind_token t ∙ ap (option_map (by_end r (end.Behind outcome))) moved
comes_to_end r end.Before t u is moved = ended_told r end.Before t (by_end r end.Before) (λ a. refl) is ∙ ap (option_map (by_end r end.Before)) moved
comes_to_end r (end.Faulty fault) t u is moved =
    ended_told r (end.Faulty fault) t (by_end r (end.Faulty fault)) (λ a. refl) is ∙ ap (option_map (by_end r (end.Faulty fault))) moved

by_end_same : (r s : Reading) (e : End) → EndsWell e r s → by_end r e ≡ by_end s e
by_end_same r s (end.Behind outcome) well = ap (λ x. by_end x (end.Behind outcome)) (sym well.0)
by_end_same r s end.Before well = ap (λ x. by_end x end.Before) (sym well.0)
by_end_same r s (end.Faulty fault) well = refl

pub ends_item : (r s : Reading) (e : End) (t u : Option At) → IfSome t (λ a. effect_at r a ≡ said_end e) → Moved (step.Ends e) t u → EndsWell e r s
    → option_map (item_at r) t ≡ option_map (by_end s e) u
ends_item r s e t u is moved well = comes_to_end r e t u is moved ∙ ap (λ f. option_map f u) (by_end_same r s e well)

-- What holds of an answer of Ok holds in another form.
pub ok_so : {A E : Type 0} (r : Result A E) (P Q : A → Type 0) → ((x : A) → P x → Q x) → IfOk r P → IfOk r Q
ok_so (Ok x) P Q so h = so x h
ok_so (Err e) P Q so h = h

-- ---- one list of items

same_some : {A : Type 0} (a b : A) → Some a ≡ Some b → a ≡ b
same_some a b is = cc

one_from : (a : At) (items others : List Item) → AreItems a items → AreItems a others → items ≡ others
one_from a [] [] h k = refl
one_from a [] (other ∷ others) h k = absurd (cc)
one_from a (item ∷ items) [] h k = absurd (cc)
one_from a (item ∷ items) (other ∷ others) h k =
    ap (λ i. i ∷ items) (same_some item other (sym h.0 ∙ k.0)) ∙ ap (λ l. other ∷ l) (one_from (next_item a).at items others h.1 k.1)

pub one_list : (text : List ℕ) (items others : List Item) → PgnReads text items → PgnReads text others → items ≡ others
one_list text items others h k = one_from _ items others h k

-- ---- items of what is told

abbrev pub whole_room : At → At
whole_room a = record a { room = longest }

counted_told : (v w : Window) (l : Option (List ℕ)) → w ≡ record v { room = longest } → option_map whole_room (ahead v l) ≡ ahead w l
counted_told v w None is = refl
counted_told v w (Some more) is = ap Some (ap (λ x. with_more x more) (sym is))

-- The way to an item's first token.
pub to_first : (t u : Option At) (v w : Window) (l : Option (List ℕ)) → option_map behind_mark t ≡ u → option_map skipped u ≡ ahead v l
    → w ≡ record v { room = longest } → option_map first_token t ≡ ahead w l
to_first t u v w l mark gap count =
    map_twice whole_room (λ a. skipped (behind_mark a)) t ∙ ap (option_map whole_room) (map_twice skipped behind_mark t)
    ∙ ap (λ o. option_map whole_room (option_map skipped o)) mark ∙ ap (option_map whole_room) gap ∙ counted_told v w l count

begun_told : (v w : Window) (l : Option (List ℕ)) → w ≡ record v { ended = false } → ahead w l ≡ ahead v l
begun_told v w None is = refl
begun_told v w (Some more) is = ap (λ x. Some (with_more x more)) is

-- An item from its first token on.
pub item_follows : (v w : Window) (l : Option (List ℕ)) (u x : Option At) (item : Option Item) → w ≡ record v { ended = false }
    → option_map first_token (ahead w l) ≡ u → option_map (item_at unread) u ≡ option_map (next item) x
    → option_map next_item (ahead v l) ≡ option_map (next item) x
unfolding next_item
item_follows v w l u x item begun first is =
    let same : ahead w l ≡ ahead v l = begun_told v w l begun in
    map_twice (item_at unread) first_token (ahead v l) ∙ ap (λ o. option_map (item_at unread) (option_map first_token o)) (sym same)
    ∙ ap (option_map (item_at unread)) first ∙ is

-- The item that ends behind its end mark, or before a token.
pub good_told : (r : Reading) (mark : Option Outcome) (item : Item) (t : Option At) → item ≡ Good (head_from r.tags mark) (game_of r)
    → option_map (ended r mark) t ≡ option_map (next (Some item)) t
good_told r mark item None is = refl
good_told r mark item (Some a) is = ap (λ i. Some (next (Some i) a)) (sym is)

pub before_game : (r : Reading) (item : Item) (t : Option At) → (r.in_moves || nat_lt 0 (length r.tags)) ≡ true → item ≡ Good (head_from r.tags None) (game_of r)
    → option_map (ended_before r) t ≡ option_map (next (Some item)) t
before_game r item None game is = refl
before_game r item (Some a) game is = rw game (ap (λ i. Some (next (Some i) a)) (sym is))

pub before_none : (r : Reading) (t : Option At) → (r.in_moves || nat_lt 0 (length r.tags)) ≡ false → option_map (ended_before r) t ≡ option_map (next None) t
before_none r None game = refl
before_none r (Some a) game = rw game refl

fault_here : (v : Window) (l : Option (List ℕ)) (fault : GameWhat)
    → option_map (faulty fault) (ahead v l) ≡ option_map (next (Some (Bad (record { line = v.place.line; column = v.place.column; what = fault })))) (option_map resumed_at (ahead v l))
fault_here v None fault = refl
fault_here v (Some more) fault = refl

-- The item that is faulty.
pub fault_told : (v : Window) (l : Option (List ℕ)) (fault : GameWhat) (u : Option At) → option_map resumed_at (ahead v l) ≡ u
    → option_map (faulty fault) (ahead v l) ≡ option_map (next (Some (Bad (record { line = v.place.line; column = v.place.column; what = fault })))) u
fault_told v l fault u resumes =
    fault_here v l fault ∙ ap (option_map (next (Some (Bad (record { line = v.place.line; column = v.place.column; what = fault }))))) resumes
