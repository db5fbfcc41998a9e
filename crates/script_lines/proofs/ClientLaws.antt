-- Laws of clients: those of a script of one.
use Rattle.std.proofs.Common.{◌≡◌, ℕ, Bool, true, false, List, Some, refl}
use Rattle.script_text.specs.Reading.{reading}
use Rattle.script_text.specs.Tasks.{Order}
use Rattle.script_lines.specs.Clients.{Clients, ended_by, heard, is_end, is_quit, line_of, new_clients, said}
use Rattle.script_lines.specs.declared.line.Line.{Line}

one_ends_by : (order : Order) (quit : Bool) → is_quit order ≡ quit → is_end (new_clients false) (said (Some 0) order) ≡ is_quit order
unfolding is_end ended_by
one_ends_by order true is = rw is refl
one_ends_by order false is = rw is refl

-- The first `quit` ends a script of one client.
pub one_ends : (line : List ℕ) → is_end (new_clients false) (line_of false line) ≡ is_quit (reading line)
unfolding line_of
one_ends line = one_ends_by (reading line) (is_quit (reading line)) refl

-- No client ends with another line.
pub none_ends : (clients : Clients) (line : Line) → is_quit line.order ≡ false → heard clients line ≡ clients
unfolding ended_by
none_ends clients line is = rw is refl
