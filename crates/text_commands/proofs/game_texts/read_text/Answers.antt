use Rattle.std.proofs.Common.{List, ℕ, ◌++◌, sym, subst, ap, ◌∙◌}
use Rattle.text_commands.proofs.game_texts.read_text.Goals as goal
use Rattle.text_commands.specs.GameTexts.{IsTextOf, game_text}

pub returns-in-Ok-clause-text : goal.returns-in-Ok-clause-text
returns-in-Ok-clause-text g c = λ told all held same is at. c.in-Ok.ensures.text told all held same is at ∙ ap (λ (l : List ℕ). l ++ game_text held) c.new-text.ensures.items

pub returns-in-Ok-clause-shown : goal.returns-in-Ok-clause-shown
returns-in-Ok-clause-shown g c = λ e at.
    let shown = c.in-Ok.ensures.shown e at in
    let P : List ℕ → Type 0 = λ text. IsTextOf c.args.base.now.names e text in
    subst P (sym (shown.1.0 ∙ ap (λ (l : List ℕ). l ++ shown.0) c.new-text.ensures.items)) shown.1.1
