-- A packed move decoded and played at once (this project's own). No public contract cites these words.
use Rattle.std.specs.Prelude.{◌≡◌, ℕ, ◌/◌, ◌%◌, List, Some, Result, IfOk, IfErr, slice_get, slice_index_or}
use Rattle.cell_core.specs.declared.man.Kind.{Kind}
use Rattle.cell_core.specs.declared.step.Move.{Move}
use Rattle.cell_core.specs.Board.{man_at}
use Rattle.cell_core.specs.Man.{man}
use Rattle.chess_laws.specs.Step.{Step}
use Rattle.move_codec.specs.Numbers.{Numbered, numbers_after, squares_of}
use Rattle.move_codec.specs.Packed.{Decodes, named, named_value}
use Rattle.move_codec.specs.declared.fault.MoveFault.{MoveFault}

-- The first byte has the number of the mover's man of this kind on this square, and these are the bytes after it.
pub record IsFirst (n : Numbered) (kind : Kind) (from : ℕ) (bytes rest : List ℕ) : Type 0 where
  pub stands : man_at n.position.board from ≡ Some (man n.position.side kind)
  pub number : slice_get (squares_of n.position.side n.numbers) (slice_index_or bytes 0 0 / 16) ≡ Some from
  pub named : named n bytes ≡ named_value kind n.position.side from (slice_index_or bytes 0 0 % 16) rest

-- What the bytes decode to, and the position with its numbers after that move, or as it was after a fault.
pub record Advances (old : Numbered) (bytes : List ℕ) (result : Result (Move × ℕ) MoveFault) (new : Numbered) : Type 0 where
  pub decodes : Decodes old bytes result
  pub step : IfOk result (λ decoded. Step old.position decoded.0 new.position)
  pub numbers : IfOk result (λ decoded. new.numbers ≡ numbers_after old.position decoded.0 old.numbers)
  pub kept : IfErr result (λ _. new ≡ old)
