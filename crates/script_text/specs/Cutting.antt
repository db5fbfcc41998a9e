-- What a line that is being cut comes to: only private functions cite it.
use Rattle.std.specs.Prelude.{ℕ, List, ◌++◌}
use Rattle.script_text.specs.declared.words.Cutter.{Cutter}
use Rattle.script_text.specs.Words.{Word, front, cut}

-- The words of the whole line, if these bytes follow those that were taken.
unfoldable pub words_with : Cutter → List ℕ → List Word
words_with cutter rest = cutter.words.items ++ front cutter.word.items (cut cutter.place rest)
