-- The signature of a game, part by part.
use Rattle.std.proofs.Common.{◌≡◌, Bool, true, false, not, refl, ap, sym, subst, ◌∙◌, min, []}
use Rattle.std.specs.Prelude.{if◌then◌else◌}
use Rattle.std.specs.Bool.{MatchBool}
use Rattle.std.proofs.lemmas.Bool.{false≢true}
use Rattle.chess_laws.specs.Position.{is_start, start_setup}
use Rattle.chess_laws.proofs.Initial.{is_start-Decides}
use Rattle.game_tree.specs.Game.{GameTree}
use Rattle.game_tree.specs.Replay.{plies_of, position_at}
use Rattle.game_tree.specs.Promotions.{has_promotion, has_underpromotion}
use Rattle.game_tree.specs.Counts.{variations_of, comments_of, nags_of}
use Rattle.index_entry.specs.Counts.{count_code}
use Rattle.sig_index.specs.Signature.{IsSig, home_list, left_of, material_of, sig_of}
use Rattle.sig_index.specs.declared.signature.Sig.{Sig}

own_is : (b : Bool) (P : Type 0) → (b ≡ true → P) → (P → b ≡ true) → MatchBool (not b) (P → ⊥) P
own_is true P gives holds = gives refl
own_is false P gives holds = λ p. false≢true (holds p)

-- What a signature says of its game, part by part.
pub record Signed (game : GameTree) (s : Sig) : Type 0 where
  pub material : s.material ≡ material_of (position_at game (plies_of game)).board
  pub own_start : MatchBool s.own_start (game.start ≡ start_setup → ⊥) (game.start ≡ start_setup)
  pub home : s.home ≡ home_list (if s.own_start then [] else left_of game)
  pub plies : s.plies ≡ min (plies_of game) 1023
  pub promo : s.promo ≡ has_promotion game
  pub under : s.under ≡ has_underpromotion game
  pub vars : s.vars ≡ count_code (variations_of game)
  pub comments : s.comments ≡ count_code (comments_of game)
  pub nags : s.nags ≡ count_code (nags_of game)

sig_of-signed : (game : GameTree) → Signed game (sig_of game)
unfolding sig_of
sig_of-signed game =
    let decides = is_start-Decides game.start in
    record {
      material = refl;
      own_start = own_is (is_start game.start) (game.start ≡ start_setup) decides.0 decides.1;
      home = refl;
      plies = refl;
      promo = refl;
      under = refl;
      vars = refl;
      comments = refl;
      nags = refl;
    }

pub parts : (game : GameTree) (s : Sig) → IsSig game s → Signed game s
parts game s is = subst (Signed game) (sym is) (sig_of-signed game)

own_one : (r s : Bool) (P : Type 0) → MatchBool r (P → ⊥) P → MatchBool s (P → ⊥) P → r ≡ s
own_one true true P p q = refl
own_one true false P p q = absurd (p q)
own_one false true P p q = absurd (q p)
own_one false false P p q = refl

-- What says all this of a game is its signature.
pub whole : (game : GameTree) (s : Sig) → Signed game s → IsSig game s
whole game s p =
    let q = sig_of-signed game in
    let own : s.own_start ≡ (sig_of game).own_start = own_one s.own_start (sig_of game).own_start (game.start ≡ start_setup) p.own_start q.own_start in
    λ i. record {
      material = (p.material ∙ sym q.material) i;
      home = (p.home ∙ ap (λ (o : Bool). home_list (if o then [] else left_of game)) own ∙ sym q.home) i;
      plies = (p.plies ∙ sym q.plies) i;
      promo = (p.promo ∙ sym q.promo) i;
      under = (p.under ∙ sym q.under) i;
      own_start = own i;
      vars = (p.vars ∙ sym q.vars) i;
      comments = (p.comments ∙ sym q.comments) i;
      nags = (p.nags ∙ sym q.nags) i;
    }

-- A game has no other.
pub signature_one : (game : GameTree) (a b : Sig) → IsSig game a → IsSig game b → a ≡ b
signature_one game a b p q = p ∙ sym q
