-- Who attacks after a move and did not before: the man that came, or one that slides.
use Rattle.chess_laws.proofs.Words.{◌≡◌, ℕ, zero, suc, ◌⊎◌, inl, inr, ◌↔◌, IsTrue, Bool, true, Option, Some, None, length, refl, sym, ◌∙◌, ap, arith, cases_eq, false≢true, Any, Decides, same_from_decides, OnFalse, OnTrue, not, false, Colour, Kind, King, Queen, Rook, Bishop, Man, Move, Men, man_at, put, man, other, Setup, Effect, Plain, Passing, Castle, Null, Offset, Walk, Runs, Attacks, IsInCheck, IsOnlyKing, is_calm, slides, in_check, Sound, king_square, rook_home, rook_target, passed_square, Hits, Shut, SlidesFrom, SlidesTo, effect_of, arriving, moved, board_after, after, Case, Legal}
use Rattle.chess_laws.proofs.Attackers.{by-attackers, hits-attack, slides-or-leaps}
use Rattle.chess_laws.proofs.Boards.{length-put, man-colour, man-kind, on_board, other-other, put-same, put-other}
use Rattle.chess_laws.proofs.Clear.{Slider}
use Rattle.chess_laws.proofs.Keeping.{length-moved, other-apart}
use Rattle.chess_laws.proofs.Following.{going, Going}
use Rattle.chess_laws.proofs.Soundness.{checked}
use Rattle.chess_laws.proofs.Running.{walk-ends}
use Rattle.chess_laws.proofs.MovedKings.{legal-of, moved-lands, only-king-after, king-stays, resting-king, legal-allowed, Sound-after}
use Rattle.chess_laws.proofs.Kings.{king-stands, king-only}
use Rattle.chess_laws.proofs.Deciding.{in_check-Decides}

-- a man on a board stood there before something was put on a square, if he is not what was put
put-was : (men : Men) (s : ℕ) (y : Option Man) (q : ℕ) (x : Man) → length men ≡ 64 → (q ≡ s → y ≡ Some x → ⊥) → man_at (put men s y) q ≡ Some x
    → man_at men q ≡ Some x
put-was men s y q x squares apart stands = elim (cases_eq q s) [
  | inl here ↦
      let less = on_board (put men s y) q x (length-put men s y squares) stands in
      absurd (apart here (sym (put-same men s y squares (rw here at less)) ∙ rw here at stands))
  | inr away ↦ sym (put-other men s q y away) ∙ stands
]

-- so he stood there before a move, if he neither came nor is a rook that castled
moved-was : (p : Setup) (m : Move) (q : ℕ) (x : Man) → length p.board ≡ 64 → (q ≡ m.to → arriving p m m.promo ≡ Some x → ⊥)
    → man_at (moved p m) q ≡ Some x → man_at p.board q ≡ Some x
moved-was p m q x squares came stands =
    put-was p.board m.from None q x squares (λ here e. cc)
    (put-was (put p.board m.from None) m.to (arriving p m m.promo) q x (length-put p.board m.from None squares) came stands)

after-was : (p : Setup) (m : Move) (e : Effect) (q : ℕ) (x : Man) → length p.board ≡ 64 → (q ≡ m.to → arriving p m m.promo ≡ Some x → ⊥)
    → (x ≡ man p.side Rook → ⊥) → man_at (board_after p m e) q ≡ Some x → man_at p.board q ≡ Some x
after-was p m Passing q x squares came rook stands =
    moved-was p m q x squares came (put-was (moved p m) (passed_square m) None q x (length-moved p m squares) (λ here e. cc) stands)
after-was p m (Castle w) q x squares came rook stands =
    let home = rook_home p.side w in
    let whole = length-moved p m squares in
    let left = put-was (put (moved p m) home None) (rook_target p.side w) (Some (man p.side Rook)) q x (length-put (moved p m) home None whole) (λ here e. rook cc) stands in
    moved-was p m q x squares came (put-was (moved p m) home None q x whole (λ here e. cc) left)
after-was p m Null q x squares came rook stands = stands
after-was p m e q x squares came rook stands = moved-was p m q x squares came stands

-- what is empty on a new board but for one square that was left was so before: a walk on it was one before, or runs over that square
walk-over : (men new : Men) (a : ℕ) → ((q : ℕ) → (q ≡ a → ⊥) → man_at new q ≡ None → man_at men q ≡ None) → (o : Offset) (n s f : ℕ)
    → Walk new o n s f → Walk men o n s f ⊎ Runs men s a o
walk-over men new a empties o zero s f walk = inl walk
walk-over men new a empties o (suc n) s f (q, step, empty, walk) = elim (cases_eq q a) [
  | inl here ↦ inr (zero, step ∙ ap Some here)
  | inr apart ↦ elim (walk-over men new a empties o n q f walk) [
    | inl same ↦ inl (q, step, empties q apart empty, same)
    | inr over ↦ inr (suc over.0, (q, step, empties q apart empty, over.1))
  ]
]

module _ (men new : Men) (c : Colour) (stood : (q : ℕ) (k : Kind) → man_at new q ≡ Some (man c k) → man_at men q ≡ Some (man c k)) where
  stood-sliding : (k : Kind) (q : ℕ) → Slider new c k q → Slider men c k q
  stood-sliding k q (inl h) = inl (stood q k h)
  stood-sliding k q (inr h) = inr (stood q Queen h)

  -- so who slides on the new board slid before, or over that square
  slides-over : (a s : ℕ) → ((q : ℕ) → (q ≡ a → ⊥) → man_at new q ≡ None → man_at men q ≡ None) → (k : Kind)
      → (Any (Runs men s a) (slides k) → ⊥) → Any (SlidesFrom new c k s) (slides k) → Any (SlidesFrom men c k s) (slides k)
  slides-over a s empties k off (n, o, less, at, l) = elim (walk-over men new a empties o l.runs.0 s l.from l.runs.1) [
    | inl was ↦
        let slid : SlidesFrom men c k s o =
        record { from = l.from; on_board = l.on_board; stands = stood-sliding k l.from l.stands; target = l.target; runs = (l.runs.0, was) } in
        (n, o, less, at, slid)
    | inr over ↦ absurd (off (n, o, less, at, over))
  ]

-- where the square is on no line of s, it hid nobody who slides to s
pub slides-off : (men : Men) (c : Colour) (a s : ℕ) → length men ≡ 64 → (Any (Runs men s a) (slides Rook) → ⊥) → (Any (Runs men s a) (slides Bishop) → ⊥)
    → SlidesTo (put men a None) c s → SlidesTo men c s
slides-off men c a s squares rooks bishops slid =
    let new = put men a None in
    let stood = λ (q : ℕ) (k : Kind) (h : man_at new q ≡ Some (man c k)). put-was men a None q (man c k) squares (λ here e. cc) h in
    let empties = λ (q : ℕ) (apart : q ≡ a → ⊥) (empty : man_at new q ≡ None). sym (put-other men a q None apart) ∙ empty in
    elim slid [
      | inl any ↦ inl (slides-over men new c stood a s empties Rook rooks any)
      | inr any ↦ inr (slides-over men new c stood a s empties Bishop bishops any)
    ]

-- where nobody slides anew to the mover's king over a square, it is shut
pub shut_of : (p : Setup) (king a : ℕ) (over : Bool) → IsOnlyKing p.board p.side king → (IsInCheck p.board p.side → ⊥) → (a ≡ king → ⊥)
    → OnFalse over (SlidesTo (put p.board a None) (other p.side) king → SlidesTo p.board (other p.side) king) → OnTrue (not over) (Shut p king a)
shut_of p king a true only unchecked apart kept = tt
shut_of p king a false only unchecked apart kept = record {
  unchecked = unchecked;
  apart = apart;
  covered = λ slid. unchecked (king, only.stands, by-attackers p.board (other p.side) king (inl (kept slid)));
}

-- an enemy that slides after a man has gone to his target slides where the square that he left is empty
moved-slides : (p : Setup) (m : Move) (s : ℕ) → Going p m → SlidesTo (moved p m) (other p.side) s → SlidesTo (put p.board m.from None) (other p.side) s
moved-slides p m s g slid =
    let gone = put p.board m.from None in
    let whole = length-put p.board m.from None g.goes.squares in
    let stood = λ (q : ℕ) (k : Kind) (h : man_at (moved p m) q ≡ Some (man (other p.side) k)).
    put-was gone m.to (arriving p m m.promo) q (man (other p.side) k) whole
    (λ here e. other-apart p.side (man-colour p.side (other p.side) g.becomes k (sym g.brings ∙ e))) h in
    let empties = λ (q : ℕ) (apart : q ≡ 64 → ⊥) (empty : man_at (moved p m) q ≡ None).
    sym (put-other gone m.to q (arriving p m m.promo) (λ here. cc (moved-lands p m g))) ∙ empty in
    let off : (k : Kind) → Any (Runs gone s 64) (slides k) → ⊥ = λ k to. omega (arith, walk-ends gone to.1 to.4.0 s 64 to.4.1) in
    elim slid [
      | inl any ↦ inl (slides-over gone (moved p m) (other p.side) stood 64 s empties Rook (off Rook) any)
      | inr any ↦ inr (slides-over gone (moved p m) (other p.side) stood 64 s empties Bishop (off Bishop) any)
    ]

-- a calm move is one of a man that goes, and changes the board by him
calm-going : (p : Setup) (m : Move) (e : Effect) → Sound p → effect_of p m ≡ e → is_calm e ≡ true → Case p m e → Going p m
calm-going p m e sound is quiet case = going p m e sound is case (λ n. false≢true (rw n at quiet))

calm-board : (p : Setup) (m : Move) (e : Effect) → is_calm e ≡ true → board_after p m e ≡ moved p m
calm-board p m Plain quiet = refl
calm-board p m e quiet = cc

-- so where the mover's king was safe and nobody slides to it over the square that is left, it is safe
pub legal-calm : (p : Setup) (m : Move) (king : ℕ) → Sound p → IsOnlyKing p.board p.side king → Case p m (effect_of p m) → is_calm (effect_of p m) ≡ true →
    Shut p king m.from → Legal p m
legal-calm p m king sound only case quiet shut =
    let e = effect_of p m in
    let g = calm-going p m e sound refl quiet case in
    let next = only-king-after p m king sound only case in
    legal-of p m case (λ check.
    let attacked : Attacks (moved p m) (other p.side) king =
    rw (calm-board p m e quiet, next.only check.0 check.1 ∙ king-stays king m shut.apart) at check.2 in
    elim (slides-or-leaps (moved p m) (other p.side) king attacked) [
      | inl slid ↦ shut.covered (moved-slides p m king g slid)
      | inr (q, hits) ↦
          let x = man (other p.side) hits.kind in
          let stood = moved-was p m q x sound.squares (λ here e. other-apart p.side (man-colour p.side (other p.side) g.becomes hits.kind (sym g.brings ∙ e))) hits.stands in
          let before : Hits p.board (other p.side) q king = record { kind = hits.kind; stands = stood; leaps = hits.leaps } in
          shut.unchecked (king, only.stands, hits-attack p.board (other p.side) q king sound.squares before)
    ])

-- so the man that came, if he leaps, and those who slide tell of check
pub check-told : (p : Setup) (m : Move) (s : ℕ) (test : Bool) → Sound p → Legal p m → s ≡ king_square p.board (other p.side) →
    (IsTrue test ↔ (Hits (board_after p m (effect_of p m)) p.side m.to s ⊎ SlidesTo (board_after p m (effect_of p m)) p.side s)) →
    test ≡ in_check (after p m (effect_of p m))
check-told p m s test sound legal is told =
    let e = effect_of p m in
    let men = board_after p m e in
    let next = Sound-after p m sound legal in
    let stood : man_at p.board s ≡ Some (man (other p.side) King) = rw is (king-stands p.board (other p.side) (sound.kings (other p.side))) in
    let stands = resting-king p m e s sound stood refl (legal-allowed p m legal) in
    let attacked = checked men (other p.side) s (next.kings (other p.side)) (king-only men (other p.side) s (next.kings (other p.side)) stands) in
    let decides : Decides test (IsInCheck men (other p.side)) = (
      λ h.
          attacked.0 (rw (other-other p.side) (elim (told.0 h) [
            | inl hits ↦ hits-attack men p.side m.to s next.squares hits
            | inr slid ↦ by-attackers men p.side s (inl slid)
          ])),
      λ check.
          let here : Attacks men p.side s = rw (other-other p.side) at (attacked.1 check) in
          elim (slides-or-leaps men p.side s here) [
            | inl slid ↦ told.1 (inr slid)
            | inr (q, hits) ↦ elim (cases_eq q m.to) [
              | inl came ↦ told.1 (inl (rw came at hits))
              | inr apart ↦
                  let was = after-was p m e q (man p.side hits.kind) sound.squares (λ came e. absurd (apart came))
                  (λ rook. absurd (rw (man-kind p.side p.side hits.kind Rook (ap (λ (x : Man). Some x) rook)) at hits.leaps)) hits.stands in
                  let before : Hits p.board p.side q s = record { kind = hits.kind; stands = was; leaps = hits.leaps } in
                  absurd (sound.not_in_check (s, stood, rw (other-other p.side) (hits-attack p.board p.side q s sound.squares before)))
            ]
          ],
    ) in
    same_from_decides test (in_check (after p m e)) decides (in_check-Decides men (other p.side))
