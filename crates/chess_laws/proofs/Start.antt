-- The initial position keeps the rules, by computing.
use Rattle.chess_laws.proofs.Words.{◌+◌, ◌≡◌, ℕ, Bool, false, Option, Some, None, refl, sym, ◌∙◌, ap, arith, agree_below_at, false≢true, White, Black, Pawn, Man, man_at, same_kind, IsInCheck, Sound, start_men, start_setup}
use Rattle.chess_laws.specs.Geometry.{shift}
use Rattle.chess_laws.specs.LegalNow.{attacks_now, in_check_now, leaps_now, runs_now, some_below, walks_now}
use Rattle.chess_laws.proofs.Deciding.{in_check-Decides}
use Rattle.chess_laws.proofs.Pawns.{Clear, NoPawn, pawns-inside}
use Rattle.chess_laws.proofs.Soundness.{sound_of, both_kings, few_men}

-- nobody attacks the king
not-in-check : IsInCheck start_men Black → ⊥
unfolding in_check_now attacks_now some_below leaps_now walks_now runs_now shift
not-in-check check = false≢true ((in_check-Decides start_men Black).1 check)

pawn : Option Man → Bool
pawn None = false
pawn (Some m) = same_kind m.kind Pawn

no-pawn : (s : ℕ) → pawn (man_at start_men s) ≡ false → NoPawn start_men s
unfolding pawn
no-pawn s h c e = false≢true (sym h ∙ ap pawn e)

pawns : Clear start_men 8
unfolding pawn
pawns = record {
  first = λ f less. no-pawn f (agree_below_at (λ s. pawn (man_at start_men s)) (λ s. false) 8 f refl less);
  last = λ f less. no-pawn (56 + f) (agree_below_at (λ s. pawn (man_at start_men (56 + s))) (λ s. false) 8 f refl less);
  squares = λ more. refl;
}

pub start-sound : Sound start_setup
start-sound =
    sound_of start_men White 15 start_setup.rights None refl (both_kings start_men refl refl) (pawns-inside start_men pawns)
    (few_men start_men (omega arith) (omega arith)) not-in-check refl tt
