use Rattle.chess_laws.proofs.Words.{refl, inl, inr, ◌∙◌, false≢true, bit_or}
use Rattle.chess_laws.proofs.attack.slides_left.Goals as goal

pub returns-then-slides : goal.returns-then-slides
returns-then-slides c = λ new l. (λ h. inl ((c.if-slides.ensures new c.args.by (λ i. bit_or (c.of_kind.ensures new c.args.by l i) (c.of_kind-queens.ensures new c.args.by l i)) (c.occupied.ensures ∙ l.occupied)).0 refl), λ h. refl)

pub returns : goal.returns
returns c = λ new l. (
  λ h. inr ((c.slides-2.ensures new c.args.by (λ i. bit_or (c.of_kind-2.ensures new c.args.by l i) (c.of_kind-queens.ensures new c.args.by l i)) (c.occupied-2.ensures ∙ l.occupied)).0 h),
  λ slid. elim slid [
    | inl any ↦ absurd (false≢true ((c.if-slides.ensures new c.args.by (λ i. bit_or (c.of_kind.ensures new c.args.by l i) (c.of_kind-queens.ensures new c.args.by l i)) (c.occupied.ensures ∙ l.occupied)).1 any))
    | inr any ↦ (c.slides-2.ensures new c.args.by (λ i. bit_or (c.of_kind-2.ensures new c.args.by l i) (c.of_kind-queens.ensures new c.args.by l i)) (c.occupied-2.ensures ∙ l.occupied)).1 any
  ],
)
