-- Laws of `info`: what the machine counts is what the base has.
use Rattle.std.proofs.Common.{◌≡◌, ℕ, List, [], ◌∷◌, map, refl, sym, ap, ◌∙◌, Bool, length, Option}
use Rattle.std.proofs.lemmas.List.Sums.{sum_by-cons}
use Rattle.std.specs.Prelude.{count_by, cond, ◌+◌}
use Rattle.base_core.proofs.GamesLaws.{heads-are}
use Rattle.base_core.specs.Base.{Held}
use Rattle.base_core.specs.Represents.{heads_of}
use Rattle.base_files.specs.Seen.{Seen}
use Rattle.game_tree.specs.Head.{without_tags}
use Rattle.game_tree.specs.declared.head.Head.{Head}
use Rattle.name_base.specs.NameLists.{NameLists}
use Rattle.shell_state.proofs.IndexLaws.{depth_is}
use Rattle.shell_state.specs.Stands.{Holding, Stands, Fits, Quiet, depth_of}
use Rattle.shell_state.specs.State.{State}
use Rattle.text_commands.specs.Showing.{info_work}
use Rattle.text_commands.specs.Telling.{info_line}

-- Heads without their tags have the same marks.
deleted_of : (held : List Held) → count_by (λ (h : Head). h.deleted) (map (λ (g : Held). without_tags g.head) held) ≡ count_by (λ (g : Held). g.head.deleted) held
deleted_of [] = refl
deleted_of (g ∷ held) =
    sum_by-cons (λ (h : Head). cond h.deleted 1 0) (without_tags g.head) (map (λ (d : Held). without_tags d.head) held)
    ∙ (ap (λ (n : ℕ). cond g.head.deleted 1 0 + n) (deleted_of held) ∙ sym (sum_by-cons (λ (d : Held). cond d.head.deleted 1 0) g held))

-- The numbers of an open base are those of the base that it stands for.
pub quiet_info : (old : Holding) (line : List ℕ) (games deleted players events sites rounds : ℕ) (unsaved : Bool) (index : Option ℕ)
    → Fits old → line ≡ info_line games deleted players events sites rounds unsaved index
    → games ≡ length old.kept.entries → deleted ≡ count_by (λ (h : Head). h.deleted) (heads_of old.kept)
    → players ≡ length old.kept.names.players → events ≡ length old.kept.names.events → sites ≡ length old.kept.names.sites → rounds ≡ length old.kept.names.rounds
    → unsaved ≡ old.kept.unsaved → index ≡ depth_of old.tables.index → Quiet old info_work old line
quiet_info old line games deleted players events sites rounds unsaved index fits written g d p e t r u x = record {
  stands = λ (seen : Seen) (s : State) (st : Stands old seen s). st;
  text = λ (seen : Seen) (s : State) (st : Stands old seen s).
      let names : NameLists → ℕ = λ n. length n.players in
      let games' : games ≡ length s.shared.base.games = g ∙ st.base.count in
      let deleted' : deleted ≡ count_by (λ (g : Held). g.head.deleted) s.shared.base.games =
      d ∙ ap (λ (hs : List Head). count_by (λ (h : Head). h.deleted) hs) (heads-are old.kept st.games s.shared.base st.base) ∙ deleted_of s.shared.base.games in
      let players' : players ≡ length s.shared.base.names.players = p ∙ ap (λ (n : NameLists). length n.players) st.base.names in
      let events' : events ≡ length s.shared.base.names.events = e ∙ ap (λ (n : NameLists). length n.events) st.base.names in
      let sites' : sites ≡ length s.shared.base.names.sites = t ∙ ap (λ (n : NameLists). length n.sites) st.base.names in
      let rounds' : rounds ≡ length s.shared.base.names.rounds = r ∙ ap (λ (n : NameLists). length n.rounds) st.base.names in
      let unsaved' : unsaved ≡ s.shared.unsaved = u ∙ st.unsaved in
      let index' : index ≡ s.shared.index = x ∙ depth_is old seen s st in
      written ∙ cc;
  fits = fits;
  tables = λ fits. fits;
  base = λ sound. sound;
  end = refl;
}
