-- The table by which the code tells bytes apart. No public contract cites these words.
use Rattle.std.specs.Prelude.{ℕ, ◌==◌, not, Bool, List, slice_index_or, bit_and}
use Rattle.std.proofs.lemmas.Bool.{agree_below}

-- Whether a table has in a class the bytes that pass a test.
unfoldable pub tells : List ℕ → ℕ → (ℕ → Bool) → Bool
tells table class test = agree_below (λ byte. not (bit_and (slice_index_or table byte 0) class == 0)) test 256
