-- The items of a record one behind the other, as the code reads them. No public contract cites these words.
use Rattle.std.specs.Prelude.{◌≡◌, ℕ, suc, List, [], ◌∷◌, Result, Ok, Err}
use Rattle.game_tree.specs.Item.{Item}
use Rattle.game_tree.specs.Item as item
use Rattle.game_tree.specs.Movetext.{Movetext, end, move, nag, comment, variation}
use Rattle.move_codec.specs.Numbers.{Numbered}
use Rattle.game_codec.specs.Place.{Place, Takes, FaultAt, beginning, after_move, after_comment, variation_of}
use Rattle.game_codec.specs.Token.{Token, Play, Nag, Comment, Open, Close, End}
use Rattle.game_codec.specs.declared.fault.RecordWhat.{RecordWhat}

-- The place after an item in the innermost line, and the lines round it.
pub record Nest : Type 0 where
  pub current : Place
  pub outer : List Place

abbrev pub nested_out : Place → List Place → Nest
nested_out p [] = record { current = p; outer = [] }
nested_out p (q ∷ outer) = record { current = q; outer = outer }

abbrev pub nest_after : Nest → Token → Nest
nest_after n (Play m) = record { current = after_move n.current m; outer = n.outer }
nest_after n (Nag number) = n
nest_after n Comment = record { current = after_comment n.current; outer = n.outer }
nest_after n Open = record { current = variation_of n.current; outer = n.current ∷ n.outer }
nest_after n Close = nested_out n.current n.outer
nest_after n End = n

-- The beginning of a game.
abbrev pub nest_of : Numbered → Nest
nest_of start = record { current = beginning 0 start; outer = [] }

-- What stops the reading of items: the end of the game, with the bytes behind it, or a fault, with the bytes from it on.
abbrev pub Stop : Type 0
Stop = Result (List ℕ) (List ℕ × RecordWhat)

abbrev pub StopsAt : Nest → List ℕ → Stop → Type 0
StopsAt n bytes (Ok rest) = Takes n.current bytes End rest
StopsAt n bytes (Err fault) = (fault.0 ≡ bytes) × FaultAt n.current bytes fault.1

-- An item that does not end the game.
abbrev pub IsInner : Token → Type 0
IsInner (Play m) = Unit {0}
IsInner (Nag n) = Unit {0}
IsInner Comment = Unit {0}
IsInner Open = Unit {0}
IsInner Close = Unit {0}
IsInner End = ⊥

-- The bytes begin with these items, and then this stops the reading.
abbrev pub Scans : Nest → List ℕ → List Token → Stop → Type 0
Scans n bytes [] stop = StopsAt n bytes stop
Scans n bytes (token ∷ tokens) stop =
    IsInner token × ((later : List ℕ) × Takes n.current bytes token later × Scans (nest_after n token) later tokens stop)

-- How many comments are among the items.
abbrev pub comments_in : List Token → ℕ
comments_in [] = 0
comments_in (Play m ∷ tokens) = comments_in tokens
comments_in (Nag n ∷ tokens) = comments_in tokens
comments_in (Comment ∷ tokens) = suc (comments_in tokens)
comments_in (Open ∷ tokens) = comments_in tokens
comments_in (Close ∷ tokens) = comments_in tokens
comments_in (End ∷ tokens) = comments_in tokens

-- The items of a movetext, and others behind them.
abbrev pub tokens_then : Movetext → List Token → List Token
tokens_then end more = more
tokens_then (move m s) more = Play m ∷ tokens_then s more
tokens_then (nag n s) more = Nag n ∷ tokens_then s more
tokens_then (comment text s) more = Comment ∷ tokens_then s more
tokens_then (variation inner s) more = Open ∷ tokens_then inner (Close ∷ tokens_then s more)

-- The items of a tree, with the texts of their comments dealt out in order.
abbrev pub dealt : List Token → List (List ℕ) → List Item
dealt [] texts = []
dealt (Play m ∷ tokens) texts = item.move m ∷ dealt tokens texts
dealt (Nag n ∷ tokens) texts = item.nag n ∷ dealt tokens texts
dealt (Comment ∷ tokens) [] = item.comment [] ∷ dealt tokens []
dealt (Comment ∷ tokens) (text ∷ texts) = item.comment text ∷ dealt tokens texts
dealt (Open ∷ tokens) texts = item.opens ∷ dealt tokens texts
dealt (Close ∷ tokens) texts = item.closes ∷ dealt tokens texts
dealt (End ∷ tokens) texts = dealt tokens texts
