-- The items of a text are those that a reader gives one behind the other.
use Rattle.std.proofs.Common.{◌≡◌, ℕ, List, [], ◌∷◌, Option, Some, None, sym, ap, subst}
use Rattle.pgn_read.specs.declared.item.Item.{Item}
use Rattle.pgn_read.specs.Text.{At}
use Rattle.pgn_read.specs.Items.{Next, next, next_item, AreItems, PgnReads}
use Rattle.pgn_read.specs.Readers.{fresh_reader, told, Follows, ItemsAhead, AreRead}

pub same_next : (a b : Next) → ◌≡◌ {A = Option Next} (Some a) (Some b) → a ≡ b
same_next a b is = cc

pub more_ahead : (old new : Option At) (item : Item) (items : List Item) → Follows old (Some item) new → ItemsAhead new items → ItemsAhead old (item ∷ items)
more_ahead None new item items is ahead = tt
more_ahead (Some a) None item items is ahead = absurd (cc)
more_ahead (Some a) (Some b) item items is ahead =
    let same = same_next (next_item a) (next (Some item) b) is in
    (ap (λ (n : Next). n.item) same, subst (λ (n : At). AreItems n items) (sym (ap (λ (n : Next). n.at) same)) ahead)

pub none_ahead : (old new : Option At) → Follows old None new → ItemsAhead old []
none_ahead None new is = tt
none_ahead (Some a) None is = absurd (cc)
none_ahead (Some a) (Some b) is = ap (λ (n : Next). n.item) (same_next (next_item a) (next None b) is)

read_ahead : (old : Option At) (items : List Item) → AreRead old items → ItemsAhead old items
read_ahead old [] read = none_ahead old read.0 read.1
read_ahead old (item ∷ items) read = more_ahead old read.0 item items read.1.0 (read_ahead read.0 items read.1.1)

pub all_read : (text : List ℕ) (items : List Item) → AreRead (told fresh_reader (Some text)) items → PgnReads text items
all_read text items read = read_ahead (told fresh_reader (Some text)) items read
