-- What a command does, whichever it is. This project's own.
use Rattle.std.specs.Option.{option_map_or}
use Rattle.std.specs.Prelude.{ℕ, Bool, true, false, List, [], map, Option, None}
use Rattle.base_core.specs.Base.{Base, Held}
use Rattle.command_runs.specs.Plain.{Plain}
use Rattle.filter_seat.specs.Seats.{Seat}
use Rattle.game_tree.specs.Game.{GameTree}
use Rattle.game_tree.specs.Head.{without_tags}
use Rattle.game_tree.specs.declared.head.Head.{Head}
use Rattle.pos_index.specs.Hits.{Place, places_of}
use Rattle.sig_index.specs.Signature.{sig_of}
use Rattle.sig_index.specs.declared.signature.Sig.{Sig}
use Rattle.shell_state.specs.State.{Shared, State, with_seat}

-- What the price of a command looks at in a game: the length of its record, its signature, its head, and the places that the position index
-- has of it.
pub record Look : Type 0 where
  pub len : ℕ
  pub sig : Sig
  pub head : Head
  pub places : List Place

-- The places that an index to this depth has of a game, and none without an index.
abbrev pub indexed_places : Option ℕ → GameTree → List Place
indexed_places depth game = option_map_or (λ depth. places_of depth game) depth []

abbrev pub look_of : Option ℕ → Held → Look
look_of depth held = record { len = held.len; sig = sig_of held.game; head = without_tags held.head; places = indexed_places depth held.game }

abbrev pub looks_of : Shared → List Look
looks_of shared = map (look_of shared.index) shared.base.games

-- How many bytes of the games file a command asks at most: by the games and the filter before it, or by the state behind the games that it
-- adds first.
pub data Price : Type 0 where
  by_looks : (List Look → List (Option ℕ) → ℕ) → Price
  by_state : (State → ℕ) → Price

abbrev pub price_by : Price → State → ℕ
price_by (by_looks price) s = price (looks_of s.shared) s.seat.filter
price_by (by_state price) s = price s

-- What a command makes of a state, and the text that it writes. It also has whether the text goes out while the command
-- works, and whether the command uses the files, may change them, and reads a body. Then come the base that it leaves in their place, if it replaces them, and its price.
pub record Work : Type 0 where
  pub after : State → State
  pub text : State → List ℕ
  pub early : Bool
  pub files : Bool
  pub writes : Bool
  pub body : Bool
  pub left : Option (Base → Base)
  pub price : Price

-- The plain machine over what commands do.
abbrev pub works : Plain State Work
works = record { after = λ s work. work.after s; text = λ s work. work.text s }

abbrev pub price : State → Work → ℕ
price s work = price_by work.price s

-- A command that uses no file, one that changes the seat alone, one that reads games, and one that adds to the games file.
abbrev pub quiet : (State → State) → (State → List ℕ) → Work
quiet after text = record { after = after; text = text; early = false; files = false; writes = false; body = false; left = None; price = by_looks (λ looks plies. 0) }

abbrev pub seated : (Seat → Seat) → (Seat → List ℕ) → Work
seated after text = quiet (λ s. with_seat s (after s.seat)) (λ s. text s.seat)

abbrev pub reading : (State → State) → (State → List ℕ) → (List Look → List (Option ℕ) → ℕ) → Work
reading after text price = record { after = after; text = text; early = false; files = true; writes = false; body = false; left = None; price = by_looks price }

abbrev pub writing : (State → State) → (State → List ℕ) → Price → Work
writing after text price = record { after = after; text = text; early = false; files = true; writes = true; body = false; left = None; price = price }
