use Rattle.text_commands.proofs.ListingLaws.{three}
use Rattle.text_commands.proofs.listing.push_game.Goals as goal

pub returns : goal.returns
returns c = three c.push_players.result _ _ _ _ _ _ _ c.in_ok-push_numbers.ensures c.in_ok-push_facts.ensures c.push_players.ensures
