-- What was passed so far, and what is left of the bytes.
use Rattle.std.proofs.Common.{◌≡◌, ℕ, ◌+◌, ◌-◌, ◌<◌, ◌≤◌, List, [], ◌∷◌, length, get_or, take, drop, refl, sym, ap, subst, ◌∙◌, length-drop, arith, Ok, Err}
use Rattle.std.specs.Prelude.{Result, IfErr}
use Rattle.std.proofs.lemmas.List.{take_all}
use Rattle.cell_core.specs.declared.step.Move.{Move}
use Rattle.move_codec.specs.Numbers.{Numbered}
use Rattle.game_codec.specs.Place.{IsMoveDue}
use Rattle.game_codec.specs.Walking.{GoesOn, Within}
use Rattle.game_codec.proofs.LineLaws.{left-drop}

-- In a variation so many of them are open.
pub record HasPassed (bytes rest : List ℕ) (depth : ℕ) : Type 0 where
  pub few : depth + length rest ≤ length bytes + 1
  pub within : length rest ≤ length bytes
  pub left : rest ≡ drop (length bytes - length rest) bytes
  pub passes : (behind : List ℕ) → Within 1 bytes behind → Within depth rest behind

none_read : (bytes : List ℕ) → bytes ≡ drop (length bytes - length bytes) bytes
none_read bytes = let none : length bytes - length bytes ≡ 0 = omega arith in rw none refl

pub HasPassed-none : (bytes : List ℕ) → HasPassed bytes bytes 1
HasPassed-none bytes = record { few = omega arith; within = omega arith; left = none_read bytes; passes = λ behind h. h }

pub HasPassed-more : (bytes rest later : List ℕ) (depth next used : ℕ) → HasPassed bytes rest depth → 0 < used → used ≤ length rest
    → next ≤ depth + 1 → later ≡ drop used rest → ((behind : List ℕ) → Within depth rest behind → Within next (drop used rest) behind)
    → HasPassed bytes later next
HasPassed-more bytes rest later depth next used has some fits more drops on =
    rw drops
    (record {
      few = omega (arith, has.few, some, fits, more, length-drop used rest);
      within = omega (arith, has.within, length-drop used rest);
      left = left-drop bytes rest used has.within fits has.left;
      passes = λ behind h. on behind (has.passes behind h);
    })

pub HasPassed-all : (bytes rest : List ℕ) (depth : ℕ) → HasPassed bytes rest depth → depth ≡ 0 → (behind : List ℕ) → Within 1 bytes behind
    → drop (length bytes - length rest) bytes ≡ behind
HasPassed-all bytes rest depth has none behind h =
    sym has.left ∙ subst (λ (n : ℕ). Within n rest behind) none (has.passes behind h)

-- In a main line.
pub record HasCome (bytes rest : List ℕ) : Type 0 where
  pub within : length rest ≤ length bytes
  pub left : rest ≡ drop (length bytes - length rest) bytes
  pub goes : (here : Numbered) (moves : List Move) → GoesOn here moves bytes → GoesOn here moves rest

pub HasCome-none : (bytes : List ℕ) → HasCome bytes bytes
HasCome-none bytes = record { within = omega arith; left = none_read bytes; goes = λ here moves g. g }

pub HasCome-more : (bytes rest later : List ℕ) (used : ℕ) → HasCome bytes rest → used ≤ length rest → later ≡ drop used rest
    → ((here : Numbered) (moves : List Move) → GoesOn here moves rest → GoesOn here moves (drop used rest)) → HasCome bytes later
HasCome-more bytes rest later used has fits drops on =
    rw drops
    (record {
      within = omega (arith, has.within, length-drop used rest);
      left = left-drop bytes rest used has.within fits has.left;
      goes = λ here moves g. on here moves (has.goes here moves g);
    })

pub HasCome-due : (bytes rest : List ℕ) → HasCome bytes rest → IsMoveDue rest
    → (length bytes - length rest ≤ length bytes)
    × (IsMoveDue (drop (length bytes - length rest) bytes)
    × ((here : Numbered) (moves : List Move) → GoesOn here moves bytes → GoesOn here moves (drop (length bytes - length rest) bytes)))
HasCome-due bytes rest has due = (omega arith, (subst IsMoveDue has.left due, λ here moves g. subst (GoesOn here moves) has.left (has.goes here moves g)))

-- What an error says that tells nothing of the bytes.
pub if_err : {A E : Type 0} (T : Type 0) (r : Result A E) → T → IfErr r (λ e. T)
if_err T (Ok a) t = tt
if_err T (Err e) t = t

-- A list of bytes by its first.
pub first_byte : (bytes : List ℕ) → 1 ≤ length bytes → bytes ≡ get_or bytes 0 0 ∷ take (length bytes - 1) (drop 1 bytes)
first_byte [] some = absurd (omega arith)
first_byte (byte ∷ behind) some =
    ap (λ (b : List ℕ). byte ∷ b) (sym (take_all (length (byte ∷ behind) - 1) behind (omega arith)))
