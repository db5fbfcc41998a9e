use Rattle.std.proofs.Common.{arith}
use Rattle.page_html.proofs.TextLemmas.{all_added, one_more, reads_back}
use Rattle.page_html.proofs.text.push_text.Goals as goal

pub returns-in_err-push_char-clause-read_back : goal.returns-in_err-push_char-clause-read_back
returns-in_err-push_char-clause-read_back c = reads_back c.args.text.now (λ i. omega (arith, c.type_inv.text i))

pub loop-rest-preserved : goal.loop-rest-preserved
loop-rest-preserved c =
    one_more c.loop-rest.out.items c.push_char.new.out.items _ c.loop-rest.rest.now c.split_at.result.1.now c.front-character.result.0 c.front-character.result.1
    c.shown.result c.front-character.ensures.front c.front-character.ensures.some c.front-character.ensures.within c.shown.ensures
    c.in_ok-push_char.ensures.added c.split_at.ensures.back c.loop-rest.invariant

pub returns-clause-added : goal.returns-clause-added
returns-clause-added c =
    all_added c.loop-rest.out.items _ c.loop-rest.rest.now c.is_empty.result c.is_empty.ensures c.loop-rest-test.false c.loop-rest.invariant

pub returns-clause-read_back : goal.returns-clause-read_back
returns-clause-read_back c = reads_back c.args.text.now (λ i. omega (arith, c.type_inv.text i))
