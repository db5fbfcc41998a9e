use Rattle.std.proofs.Common.{List, ℕ, sym, ap, ◌∙◌, subst}
use Rattle.name_base.specs.NamesText.{AreFrequencies, Frequencies}
use Rattle.base_core.specs.Uses.{player_uses, uses_of}
use Rattle.base_core.proofs.UseLaws.{are-frequencies}
use Rattle.base_core.proofs.base.Base.names_text.Goals as goal

pub write_names-requires-clause-players : goal.write_names-requires-clause-players
write_names-requires-clause-players c =
    let F : List ℕ → Type 0 = λ f. AreFrequencies c.self.inside.names.players f in
    subst F (sym (c.players.ensures.players ∙ ap (λ (f : Frequencies). f.players) c.in_ok-uses.ensures.uses)) (are-frequencies c.self.inside.names.players (player_uses c.self.inside.entries))

pub write_names-requires-clause-events : goal.write_names-requires-clause-events
write_names-requires-clause-events c =
    let F : List ℕ → Type 0 = λ f. AreFrequencies c.self.inside.names.events f in
    subst F (sym (c.events.ensures.events ∙ ap (λ (f : Frequencies). f.events) c.in_ok-uses.ensures.uses)) (are-frequencies c.self.inside.names.events (uses_of (λ e. e.event) c.self.inside.entries))

pub write_names-requires-clause-sites : goal.write_names-requires-clause-sites
write_names-requires-clause-sites c =
    let F : List ℕ → Type 0 = λ f. AreFrequencies c.self.inside.names.sites f in
    subst F (sym (c.sites.ensures.sites ∙ ap (λ (f : Frequencies). f.sites) c.in_ok-uses.ensures.uses)) (are-frequencies c.self.inside.names.sites (uses_of (λ e. e.site) c.self.inside.entries))

pub write_names-requires-clause-rounds : goal.write_names-requires-clause-rounds
write_names-requires-clause-rounds c =
    let F : List ℕ → Type 0 = λ f. AreFrequencies c.self.inside.names.rounds f in
    subst F (sym (c.rounds.ensures.rounds ∙ ap (λ (f : Frequencies). f.rounds) c.in_ok-uses.ensures.uses)) (are-frequencies c.self.inside.names.rounds (uses_of (λ e. e.round) c.self.inside.entries))
