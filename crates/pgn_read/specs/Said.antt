-- What the lexer's tokens say, and what the steps of a game's reading do. No public contract cites these words.
use Rattle.std.specs.Prelude.{◌≡◌, ◌≤◌, false, [], length, All, ⊤}
use Rattle.cell_core.specs.Text.{IsZeroFree}
use Rattle.game_tree.specs.TagName.{IsTagByte}
use Rattle.pgn_read.specs.declared.step.End.{End}
use Rattle.pgn_read.specs.declared.step.End.TheVariants as end
use Rattle.pgn_read.specs.declared.step.Step.{Step}
use Rattle.pgn_read.specs.declared.step.Step.TheVariants as step
use Rattle.pgn_read.specs.Reading.{Reading, Effect, goes_on, ends_behind, ends_before, is_faulty}
use Rattle.pgn_read.specs.declared.token.Token.{Token as Borrowed}
use Rattle.pgn_read.specs.declared.token.Token.TheVariants as borrowed
use Rattle.pgn_read.specs.Token.{Token}
use Rattle.pgn_read.specs.Token as token
use Rattle.pgn_read.specs.TagText.{unescaped_from}

abbrev pub said : Borrowed → Token
said (borrowed.Tag name raw) = token.tag name.now (unescaped_from false raw.now)
said borrowed.BadTag = token.bad_tag
said (borrowed.Comment text) = token.comment text.now
said borrowed.OpenComment = token.open_comment
said (borrowed.Nag n) = token.nag n
said borrowed.Opens = token.opens
said borrowed.Closes = token.closes
said (borrowed.Ending outcome) = token.ending outcome
said borrowed.Number = token.number
said (borrowed.Move text) = token.move text.now
said borrowed.Bad = token.bad
said borrowed.TheEnd = token.the_end

-- The effect that a step is, with the game behind it.
abbrev pub said_end : End → Effect
said_end (end.Behind outcome) = ends_behind outcome
said_end end.Before = ends_before
said_end (end.Faulty what) = is_faulty what

abbrev pub said_step : Step → Reading → Effect
said_step step.GoesOn r = goes_on r
said_step (step.Ends e) r = said_end e

-- A game ends outside variations, and nothing of it changes then.
abbrev pub EndsWell : End → Reading → Reading → Type 0
EndsWell (end.Behind outcome) old new = (new ≡ old) × (new.outer ≡ [])
EndsWell end.Before old new = (new ≡ old) × (new.outer ≡ [])
EndsWell (end.Faulty what) old new = ⊤

abbrev pub StepsWell : Step → Reading → Reading → Type 0
StepsWell step.GoesOn old new = ⊤
StepsWell (step.Ends e) old new = EndsWell e old new

-- As many lines are open as the builder of the tree has.
abbrev pub IsBalanced : Reading → Type 0
IsBalanced r = length r.outer ≡ length r.moves.outer

-- What every token keeps: a tag's name is made of the bytes of such names, and no text has a zero byte.
abbrev pub IsSound : Token → Type 0
IsSound (token.tag name value) = (1 ≤ length name) × (All IsTagByte name × IsZeroFree value)
IsSound token.bad_tag = ⊤
IsSound (token.comment text) = IsZeroFree text
IsSound token.open_comment = ⊤
IsSound (token.nag n) = ⊤
IsSound token.opens = ⊤
IsSound token.closes = ⊤
IsSound (token.ending outcome) = ⊤
IsSound token.number = ⊤
IsSound (token.move text) = ⊤
IsSound token.bad = ⊤
IsSound token.the_end = ⊤
