-- The parts of a signature.
use Rattle.std.proofs.Common.{◌≡◌, ℕ, ◌≤◌, Bool, true, false, not, refl, sym, ap, ◌∙◌, arith, inl, inr}
use Rattle.std.specs.Prelude.{IsTrue, ◌↔◌}
use Rattle.std.specs.Bool.{MatchBool}
use Rattle.std.proofs.lemmas.Bool.{cases_lt, lt-leb, lt-ltb}
use Rattle.chess_laws.specs.declared.setup.Setup.{Setup}
use Rattle.game_tree.specs.Counts.{in_64_bits}
use Rattle.index_entry.specs.Counts.{count_code}

no : false ≡ true → ⊥
no e = absurd cc

-- what the test of the start says
pub own_is : (r : Bool) (position start initial : Setup) → (IsTrue r ↔ (position ≡ initial)) → position ≡ start → MatchBool (not r) (start ≡ initial → ⊥) (start ≡ initial)
own_is true position start initial both is = sym is ∙ both.0 refl
own_is false position start initial both is = λ same. no (both.1 (is ∙ same))

many : (n : ℕ) → 45 ≤ n → count_code n ≡ 15
many n le = rw (lt-leb n 10 (omega arith), lt-ltb 12 n (omega arith), lt-ltb 17 n (omega arith), lt-ltb 24 n (omega arith), lt-ltb 34 n (omega arith), lt-ltb 44 n (omega arith)) refl

-- a count of 64 bits has the code of the count
pub code_is : (n m : ℕ) → m ≡ in_64_bits n → count_code m ≡ count_code n
code_is n m e = elim (cases_lt n 45) [
  | inl few ↦
      let same : m ≡ n = omega arith in
      ap count_code same
  | inr more ↦ many m (omega arith) ∙ sym (many n more)
]
