-- What one client at a desk sees of the others. This project's own.
use Rattle.std.specs.Prelude.{ℕ, ◌==◌, ◌||◌, not, Bool, false, List, [], ◌∷◌, filter, Option, Some, None}
use Rattle.script_lines.specs.Clients.{Tagged}
use Rattle.desk_commands.specs.Desk.{Desk, desk_after, desk_text}
use Rattle.desk_commands.specs.Kinds.{is_private, order_kind}

-- What is written at a line, and the client who said it, if one did.
pub record Said : Type 0 where
  pub client : Option ℕ
  pub text : List ℕ

-- What is written as the clients say these lines, one after the other.
abbrev pub desk_run : Desk → List Tagged → List Said
desk_run desk [] = []
desk_run desk (t ∷ list) = record { client = t.client; text = desk_text desk t } ∷ desk_run (desk_after desk t) list

-- Whether it is this client who says a line.
abbrev pub is_by : ℕ → Option ℕ → Bool
is_by client None = false
is_by client (Some other) = other == client

-- What is written to one client.
abbrev pub said_to : ℕ → List Said → List Said
said_to client list = filter (λ said. is_by client said.client) list

-- The lines without the private ones that this client does not say.
abbrev pub without_private : ℕ → List Tagged → List Tagged
without_private client list = filter (λ t. is_by client t.client || not (is_private (order_kind t.task.order))) list
