-- Laws of `cross`: what is read of the heads of a machine is what is read of those of the base.
use Rattle.std.proofs.Common.{◌≡◌, ℕ, List, [], ◌∷◌, map, refl, ap, inl, inr, ◌∙◌}
use Rattle.std.proofs.lemmas.Bool.{cases_Bool}
use Rattle.base_core.proofs.GamesLaws.{heads-are}
use Rattle.base_core.specs.Base.{Held}
use Rattle.base_core.specs.Represents.{heads_of}
use Rattle.base_files.specs.Seen.{Seen}
use Rattle.cross_table.specs.Crosstable.{Pairing, event_games, is_of, crosstable}
use Rattle.cross_table.specs.Keeping.{pairing_of}
use Rattle.game_tree.specs.Head.{without_tags}
use Rattle.game_tree.specs.declared.head.Head.{Head}
use Rattle.report_commands.specs.Crosstables.{cross_of, cross_work}
use Rattle.shell_state.specs.Stands.{Holding, Stands, Fits, Quiet}
use Rattle.shell_state.specs.State.{State}

-- Heads without their tags have the same games in an event.
same_games : (event : List ℕ) (held : List Held) → event_games event (map (λ (g : Held). without_tags g.head) held) ≡ event_games event (map (λ (g : Held). g.head) held)
unfolding event_games
same_games event [] = refl
same_games event (g ∷ held) =
    let rest = same_games event held in
    elim (cases_Bool (is_of event g.head)) [
      | inl is ↦ rw is (ap (λ (games : List Pairing). pairing_of g.head ∷ games) rest)
      | inr out ↦ rw out rest
    ]

same_text : (event : List ℕ) (a b : List Head) → event_games event a ≡ event_games event b → cross_of event a ≡ cross_of event b
unfolding crosstable
same_text event a b same = rw same refl

pub quiet_cross : (old : Holding) (event line : List ℕ) → Fits old → line ≡ cross_of event (heads_of old.kept) → Quiet old (cross_work event) old line
quiet_cross old event line fits written = record {
  stands = λ (seen : Seen) (s : State) (st : Stands old seen s). st;
  text = λ (seen : Seen) (s : State) (st : Stands old seen s).
      written ∙ (ap (cross_of event) (heads-are old.kept st.games s.shared.base st.base)
      ∙ same_text event (map (λ (g : Held). without_tags g.head) s.shared.base.games) (map (λ (g : Held). g.head) s.shared.base.games) (same_games event s.shared.base.games));
  fits = fits;
  tables = λ fits. fits;
  base = λ sound. sound;
  end = refl;
}
