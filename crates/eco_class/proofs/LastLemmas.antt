-- The last position on which a line ends.
use Rattle.std.proofs.Common.{◌≡◌, ℕ, zero, suc, ◌+◌, ◌<◌, ◌≤◌, List, Option, None, Some, refl, sym, ap, ◌∙◌, subst, arith, inl, inr}
use Rattle.std.specs.Prelude.{All, IfSome}
use Rattle.std.specs.Option.{option_or}
use Rattle.std.proofs.lemmas.Bool.{cases_eq}
use Rattle.std.proofs.lemmas.Option.{slice_get_cases}
use Rattle.cell_core.specs.declared.step.Move.{Move}
use Rattle.chess_laws.specs.Position.{Sound}
use Rattle.chess_laws.specs.declared.setup.Setup.{Setup}
use Rattle.game_tree.specs.Game.{GameTree}
use Rattle.game_tree.specs.Legal.{IsLegalGame}
use Rattle.game_tree.specs.Replay.{main_moves, next_at, plies_of, position_at}
use Rattle.eco_class.specs.Table.{IsLast, Opening, code_of, eco_of, last_code}
use Rattle.eco_class.specs.Kept.{men_in}
use Rattle.eco_class.proofs.MenLemmas.{men_fall, none_ends}

-- ---- the definition

-- The same of the first n positions.
record IsAt (table : List Opening) (game : GameTree) (n code : ℕ) : Type 0 where
  ply : ℕ
  below : ply < n
  has : code_of table (position_at game ply) ≡ Some code
  later : (k : ℕ) → ply < k → k < n → code_of table (position_at game k) ≡ None

abbrev IsOf : List Opening → GameTree → ℕ → Option ℕ → Type 0
IsOf table game n (Some code) = IsAt table game n code
IsOf table game n None = (k : ℕ) → k < n → code_of table (position_at game k) ≡ None

up_to : (table : List Opening) (game : GameTree) (n k : ℕ) → k < suc n → code_of table (position_at game n) ≡ None
    → (k < n → code_of table (position_at game k) ≡ None) → code_of table (position_at game k) ≡ None
up_to table game n k less here before = elim (cases_eq k n) [
  | inl same ↦ subst (λ (i : ℕ). code_of table (position_at game i) ≡ None) (sym same) here
  | inr apart ↦ before (omega (arith, less, apart))
]

one_later : (table : List Opening) (game : GameTree) (n : ℕ) (found : Option ℕ) → code_of table (position_at game n) ≡ None → IsOf table game n found
    → IsOf table game (suc n) found
one_later table game n None here is = λ k less. up_to table game n k less here (is k)
one_later table game n (Some code) here is = record {
  ply = is.ply;
  below = omega (arith, is.below);
  has = is.has;
  later = λ k after less. up_to table game n k less here (is.later k after);
}

is_of : (table : List Opening) (game : GameTree) (n : ℕ) → IsOf table game n (last_code table game n)
unfolding last_code
is_of table game zero = λ k less. absurd (omega (arith, less))
is_of table game (suc n) = by (is_of table game n) (code_of table (position_at game n)) refl
  where
    by : IsOf table game n (last_code table game n) → (here : Option ℕ) → code_of table (position_at game n) ≡ here → IsOf table game (suc n) (option_or here (last_code table game n))
    by before (Some code) at = record { ply = n; below = omega arith; has = at; later = λ k after less. absurd (omega (arith, after, less)) }
    by before None at = one_later table game n (last_code table game n) at before

pub eco_is : (table : List Opening) (game : GameTree) → IsLast table game (eco_of table game)
eco_is table game = by (eco_of table game) (is_of table game (suc (plies_of game)))
  where
    by : (found : Option ℕ) → IsOf table game (suc (plies_of game)) found → IsLast table game found
    by None is = λ k within. is k (omega (arith, within))
    by (Some code) is = record {
      ply = is.ply;
      within = omega (arith, is.below);
      has = is.has;
      later = λ k after within. is.later k after (omega (arith, within));
    }

-- ---- the walk

-- Positions on which no line ends add nothing.
settled : (table : List Opening) (game : GameTree) (n e : ℕ) → n ≤ e → ((k : ℕ) → n ≤ k → k < e → code_of table (position_at game k) ≡ None)
    → last_code table game e ≡ last_code table game n
unfolding last_code
settled table game n zero within none = ap (last_code table game) (let same : 0 ≡ n = omega (arith, within) in same)
settled table game n (suc e) within none = elim (cases_eq n (suc e)) [
  | inl same ↦ ap (last_code table game) (sym same)
  | inr apart ↦
      let here : code_of table (position_at game e) ≡ None = none e (omega (arith, within, apart)) (omega arith) in
      rw here (settled table game n e (omega (arith, within, apart)) (λ k from less. none k from (omega (arith, less))))
]

-- The walk ends where fewer men are left than at the end of each line.
pub last_over : (table : List Opening) (game : GameTree) (ply : ℕ) (code : Option ℕ) → Sound game.start → IsLegalGame game → ply ≤ plies_of game
    → All (λ (line : Opening). men_in (position_at game ply).board < men_in line.board) table
    → code ≡ last_code table game (suc ply) → code ≡ eco_of table game
last_over table game ply code sound legal within over at =
    at
    ∙ sym (settled table game (suc ply) (suc (plies_of game)) (omega (arith, within))
    (λ k from less. none_ends table (position_at game k).board (position_at game k).side (men_in (position_at game ply).board) over
    (men_fall game ply k sound legal (omega (arith, from)))))

-- And where the main line ends.
pub last_end : (table : List Opening) (game : GameTree) (ply : ℕ) (code : Option ℕ) → ply ≤ plies_of game → plies_of game ≤ ply
    → code ≡ last_code table game (suc ply) → code ≡ eco_of table game
last_end table game ply code within past at = at ∙ ap (λ (k : ℕ). last_code table game (suc k)) (let same : ply ≡ plies_of game = omega (arith, within, past) in same)

-- The walk is at the start.
pub last_start : (table : List Opening) (game : GameTree) (ply : ℕ) → ply ≡ 0 → None ≡ last_code table game ply
unfolding last_code
last_start table game ply start = ap (last_code table game) (sym start)

-- With the position that was reached.
pub last_here : (table : List Opening) (game : GameTree) (ply : ℕ) (p : Setup) (here before now : Option ℕ) → here ≡ code_of table p → p ≡ position_at game ply
    → before ≡ last_code table game ply → now ≡ option_or here before → now ≡ last_code table game (suc ply)
unfolding last_code
last_here table game ply p here before now at is old new =
    new ∙ (λ i. option_or ((at ∙ ap (code_of table) is) i) (old i))

-- And the same at the next ply.
pub last_next : (table : List Opening) (game : GameTree) (ply later : ℕ) (now : Option ℕ) → later ≡ ply + 1 → now ≡ last_code table game (suc ply)
    → now ≡ last_code table game later
last_next table game ply later now is at = at ∙ ap (last_code table game) (let same : suc ply ≡ later = omega (arith, is) in same)

-- The start and the position behind a next move lie within the main line.
pub start_within : (game : GameTree) (ply : ℕ) → ply ≡ 0 → ply ≤ plies_of game
start_within game ply start = omega (arith, start)

pub next_within : (game : GameTree) (ply later : ℕ) (m : Move) → Some m ≡ next_at game ply → later ≡ ply + 1 → later ≤ plies_of game
next_within game ply later m next is = elim (slice_get_cases (main_moves game) ply).1 [
  | inl there ↦ omega (arith, there.1, is)
  | inr past ↦ absurd (cc (next, past.1))
]

-- One of two codes that are small.
pub or_small : (here before now : Option ℕ) → now ≡ option_or here before → IfSome here (λ code. (1 ≤ code) × (code ≤ 65500))
    → IfSome before (λ code. (1 ≤ code) × (code ≤ 65500)) → IfSome now (λ code. (1 ≤ code) × (code ≤ 65500))
or_small None before now is small small' = subst (λ (found : Option ℕ). IfSome found (λ code. (1 ≤ code) × (code ≤ 65500))) (sym is) small'
or_small (Some code) before now is small small' = subst (λ (found : Option ℕ). IfSome found (λ code. (1 ≤ code) × (code ≤ 65500))) (sym is) small
