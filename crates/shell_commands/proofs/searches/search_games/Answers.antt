use Rattle.std.proofs.Common.{refl}
use Rattle.shell_commands.proofs.TurnLaws.{causes_silent, kept_reads, unsaid_none}
use Rattle.shell_commands.proofs.searches.search_games.Goals as goal

pub returns-in-Find-clause-kept : goal.returns-in-Find-clause-kept
returns-in-Find-clause-kept g c = λ w taken output.
    rw c.in-Find.is
    (kept_reads refl refl (λ is. cc) (λ i own. refl) refl c.find_games.ensures.sound c.find_games.ensures.unchanged (λ late. unsaid_none c.find_games.result taken) c.find_games.ensures.asks (λ told grew. grew) (causes_silent c.find_games.result _ _ 0 0 output c.find_games.ensures.causes))

pub returns-in-SearchPosition-clause-kept : goal.returns-in-SearchPosition-clause-kept
returns-in-SearchPosition-clause-kept g c = λ w taken output.
    rw c.in-SearchPosition.is
    (kept_reads refl refl (λ is. cc) (λ i own. refl) refl c.position_games.ensures.sound c.position_games.ensures.unchanged (λ late. unsaid_none c.position_games.result taken) c.position_games.ensures.asks (λ told grew. grew) (causes_silent c.position_games.result _ _ 0 0 output c.position_games.ensures.causes))

pub returns-in-SearchMaterial-clause-kept : goal.returns-in-SearchMaterial-clause-kept
returns-in-SearchMaterial-clause-kept g c = λ w taken output.
    rw c.in-SearchMaterial.is
    (kept_reads refl refl (λ is. cc) (λ i own. refl) refl c.material_games.ensures.sound c.material_games.ensures.unchanged (λ late. unsaid_none c.material_games.result taken) c.material_games.ensures.asks (λ told grew. grew) (causes_silent c.material_games.result _ _ 0 0 output c.material_games.ensures.causes))
