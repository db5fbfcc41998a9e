use Rattle.page_html.proofs.TextLemmas.{size_some}
use Rattle.page_html.proofs.text.front.Goals as goal

pub returns-in-Some-default-clause-some : goal.returns-in-Some-default-clause-some
returns-in-Some-default-clause-some c = size_some c.args.text.now c.decode.result.1 c.requires.some c.decode.ensures.size
