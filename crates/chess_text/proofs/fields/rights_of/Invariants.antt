use Rattle.std.proofs.Common.{◌≡◌, drop}
use Rattle.chess_text.specs.FieldReading.{with_rights, rights_named}
use Rattle.chess_text.proofs.fields.rights_of.Given as goal

-- the letters that are left add to the rights so far what the word names
abbrev pub invariant-loop-letter : goal.invariant-loop-letter
invariant-loop-letter l = with_rights (drop l.letter-index l.word) l.rights ≡ rights_named l.fn.word
