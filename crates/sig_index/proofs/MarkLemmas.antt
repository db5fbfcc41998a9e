-- A square without a mark is the own one of no value that is looked for.
use Rattle.std.proofs.Common.{◌≡◌, inl, inr, ℕ, Bool, true, false, true≢false, not, List, [], ◌∷◌, refl, sym, ap, ◌∙◌}
use Rattle.std.specs.Prelude.{All, slice_index_or}
use Rattle.std.proofs.lemmas.List.Elements.{All-nil, All-cons, All-head, All-tail}
use Rattle.cell_core.specs.declared.step.Move.{Move}
use Rattle.chess_laws.specs.Castling.{touches}
use Rattle.chess_laws.specs.Counts.{home_square}
use Rattle.sig_index.specs.Leaving.{AreMarked, stays}
use Rattle.sig_index.proofs.StayLemmas.{touched}

-- A move between squares without marks touches no marked one.
by_mark : (t : Bool) (m : Move) (marks : List Bool) (s : ℕ) → touches m s ≡ t → slice_index_or marks m.from false ≡ false → slice_index_or marks m.to false ≡ false
    → slice_index_or marks s false ≡ true → t ≡ false
by_mark true m marks s touch from to mark = elim (touched m s touch) [
  | inl same ↦ absurd (true≢false (sym mark ∙ (ap (λ (n : ℕ). slice_index_or marks n false) (sym same) ∙ from)))
  | inr same ↦ absurd (true≢false (sym mark ∙ (ap (λ (n : ℕ). slice_index_or marks n false) (sym same) ∙ to)))
]
by_mark false m marks s touch from to mark = refl

pub all_stay : (m : Move) (marks : List Bool) (homes : List ℕ) → slice_index_or marks m.from false ≡ false → slice_index_or marks m.to false ≡ false
    → AreMarked marks homes → All (λ v. stays m v ≡ true) homes
all_stay m marks [] from to all = All-nil (λ v. stays m v ≡ true)
all_stay m marks (x ∷ xs) from to all =
    All-cons (λ v. stays m v ≡ true) x xs
    (ap not (by_mark (touches m (home_square x)) m marks (home_square x) refl from to (All-head (λ v. slice_index_or marks (home_square v) false ≡ true) x xs all)))
    (all_stay m marks xs from to (All-tail (λ v. slice_index_or marks (home_square v) false ≡ true) x xs all))
