-- What a record says in words has one reading, and it is the one that the code makes.
use Rattle.std.proofs.Common.{◌≡◌, ℕ, List, Ok, Err, length, refl, sym, ap, ◌∙◌, subst, inl, inr}
use Rattle.game_tree.specs.Game.{GameTree}
use Rattle.game_tree.specs.Movetext.{Movetext, items_of, meaning}
use Rattle.game_tree.specs.Building.{opening, built}
use Rattle.game_tree.proofs.MovetextLemmas.{built-items_of}
use Rattle.game_tree.specs.declared.head.Tag.{Tag}
use Rattle.move_codec.specs.Numbers.{Numbered}
use Rattle.game_tree.specs.TagName.{free_of}
use Rattle.game_codec.specs.TagReading.{BeginsTags}
use Rattle.game_codec.specs.Start.{BeginsStart, BreaksStart}
use Rattle.game_codec.specs.Texts.{AreTexts, BreaksTexts, texts_of}
use Rattle.game_codec.specs.Record.{IsSpelled}
use Rattle.game_codec.specs.Fault.{BreaksInTags, BreaksInStart, BreaksInMoves, BreaksInTexts, Breaks, IsBroken}
use Rattle.game_codec.specs.RecordAnswer.{place_of, game_of}
use Rattle.game_codec.specs.declared.fault.RecordFault.{RecordFault}
use Rattle.game_codec.specs.Scanning.{Scans, Stop, nest_of, comments_in, dealt}
use Rattle.game_codec.specs.Flat.{IsFlat, IsRead, IsFlatInMoves, IsFlatInTexts, FlatBreaks}
use Rattle.game_codec.specs.Token.{Token}
use Rattle.game_codec.specs.declared.fault.RecordWhat.{RecordWhat}
use Rattle.game_codec.proofs.SameFault.{SameFault}
use Rattle.game_codec.proofs.TagLaws.{BeginsTags-one, BeginsTags-unbroken, BreaksTags-one}
use Rattle.game_codec.proofs.StartLaws.{BeginsStart-one, BeginsStart-unbroken, BreaksStart-one}
use Rattle.game_codec.proofs.TextLaws.{AreTexts-one, AreTexts-unbroken, BreaksTexts-one}
use Rattle.game_codec.proofs.ScanLaws.{Scans-one}
use Rattle.game_codec.proofs.MovetextLaws.{movetext-scans, scans-movetext, breaks-scans}

-- What the code reads is in the record, and what is in the record is read so

pub read-record : (bytes : List ℕ) (tags : List Tag) (game : GameTree) → IsRead bytes tags game → IsSpelled bytes tags game
read-record bytes tags game read =
    let movetext = scans-movetext read.start read.tokens read.flat.behind_start read.flat.behind_moves read.flat.then_items read.texts in
    let texts : texts_of movetext.0 ≡ read.texts = movetext.1.1.1.1 read.flat.count in
    let meant = read.meant movetext.0 movetext.1.1.0 in record {
      all_tags = read.all_tags;
      start = read.start;
      movetext = movetext.0;
      behind_tags = read.flat.behind_tags;
      behind_start = read.flat.behind_start;
      behind_moves = read.flat.behind_moves;
      tags_first = read.flat.tags_first;
      then_start = read.flat.then_start;
      then_moves = movetext.1.0;
      then_texts = subst (AreTexts read.flat.behind_moves) (sym texts) read.flat.then_texts;
      tags_are = read.tags_are;
      game_is = λ i. record { start = read.start_is i; lead = meant.0 i; line = meant.1 i };
    }

-- A record's parts, with the items that its movetext's are.
record IsFlattened (bytes : List ℕ) (all_tags : List Tag) (start : Numbered) (s : Movetext) : Type 0 where
  pub tokens : List Token
  pub flat : IsFlat bytes all_tags start tokens (texts_of s)
  pub items : dealt tokens (texts_of s) ≡ items_of s

flattened : (bytes : List ℕ) (tags : List Tag) (game : GameTree) (r : IsSpelled bytes tags game) → IsFlattened bytes r.all_tags r.start r.movetext
flattened bytes tags game r =
    let scanned = movetext-scans r.start r.movetext r.behind_start r.behind_moves r.then_moves in record {
      tokens = scanned.0;
      flat = record {
        behind_tags = r.behind_tags;
        behind_start = r.behind_start;
        behind_moves = r.behind_moves;
        tags_first = r.tags_first;
        then_start = r.then_start;
        then_items = scanned.1.0;
        then_texts = r.then_texts;
        count = sym scanned.1.1.1;
      };
      items = scanned.1.1.0;
    }

flat_break : (bytes rest : List ℕ) (what : RecordWhat) → Breaks bytes rest what → FlatBreaks bytes rest what
flat_break bytes rest what broken =
    elim broken [
      | inl tags ↦ inl tags
      | inr later ↦ elim later [
        | inl start ↦ inr (inl start)
        | inr last ↦ elim last [ inl moves ↦ inr (inr (inl (in_moves moves))) | inr texts ↦ inr (inr (inr (in_texts texts))) ]
      ]
    ]
  where
    in_moves : BreaksInMoves bytes rest what → IsFlatInMoves bytes rest what
    in_moves b = let scanned = breaks-scans b.start b.upto b.behind_start rest what b.breaks in record {
      tags = b.tags;
      start = b.start;
      tokens = scanned.0;
      behind_tags = b.behind_tags;
      behind_start = b.behind_start;
      tags_first = b.tags_first;
      then_start = b.then_start;
      breaks = scanned.1;
    }

    in_texts : BreaksInTexts bytes rest what → IsFlatInTexts bytes rest what
    in_texts b = let scanned = movetext-scans b.start b.movetext b.behind_start b.behind_moves b.then_moves in record {
      tags = b.tags;
      start = b.start;
      tokens = scanned.0;
      behind_tags = b.behind_tags;
      behind_start = b.behind_start;
      behind_moves = b.behind_moves;
      tags_first = b.tags_first;
      then_start = b.then_start;
      then_items = scanned.1.0;
      breaks = subst (λ (due : ℕ). BreaksTexts due b.behind_moves rest what) (sym scanned.1.1.1) b.breaks;
    }

-- One reading alone

-- The same beginning: the same tags, and the same bytes behind them.
at_start : (bytes : List ℕ) (a b : List Tag) (r s : List ℕ) (start : Numbered) (rest : List ℕ) → BeginsTags bytes a r → BeginsTags bytes b s → BeginsStart s start rest → BeginsStart r start rest
at_start bytes a b r s start rest f g h = subst (λ (l : List ℕ). BeginsStart l start rest) (sym (BeginsTags-one bytes a b r s f g).1) h

-- The same start, and the same bytes behind it.
at_moves : (bytes : List ℕ) (a b : Numbered) (r s : List ℕ) (tokens : List Token) (stop : Stop) → BeginsStart bytes a r → BeginsStart bytes b s → Scans (nest_of b) s tokens stop → Scans (nest_of a) r tokens stop
at_moves bytes a b r s tokens stop f g h =
    let same = BeginsStart-one bytes a b r s f g in
    subst (λ (n : Numbered). Scans (nest_of n) r tokens stop) (sym same.0) (subst (λ (l : List ℕ). Scans (nest_of b) l tokens stop) (sym same.1) h)

record IsSameFlat (a b : List Tag) (start start' : Numbered) (tokens tokens' : List Token) (texts texts' : List (List ℕ)) : Type 0 where
  pub tags : a ≡ b
  pub start_same : start ≡ start'
  pub tokens_same : tokens ≡ tokens'
  pub texts_same : texts ≡ texts'

flat-one : (bytes : List ℕ) (a b : List Tag) (start start' : Numbered) (tokens tokens' : List Token) (texts texts' : List (List ℕ)) → IsFlat bytes a start tokens texts → IsFlat bytes b start' tokens' texts' → IsSameFlat a b start start' tokens tokens' texts texts'
flat-one bytes a b start start' tokens tokens' texts texts' f g =
    let begins = at_start bytes a b f.behind_tags g.behind_tags start' g.behind_start f.tags_first g.tags_first g.then_start in
    let scans = at_moves f.behind_tags start start' f.behind_start g.behind_start tokens' (Ok g.behind_moves) f.then_start begins g.then_items in
    let same = Scans-one (nest_of start) f.behind_start tokens tokens' (Ok f.behind_moves) (Ok g.behind_moves) f.then_items scans in record {
      tags = (BeginsTags-one bytes a b f.behind_tags g.behind_tags f.tags_first g.tags_first).0;
      start_same = (BeginsStart-one f.behind_tags start start' f.behind_start g.behind_start f.then_start begins).0;
      tokens_same = same.0;
      texts_same = AreTexts-one f.behind_moves texts texts' f.then_texts (subst (λ (l : List ℕ). AreTexts l texts') (sym same.1) g.then_texts);
    }

pub read-only : (bytes : List ℕ) (tags tags' : List Tag) (game game' : GameTree) → IsRead bytes tags game → IsSpelled bytes tags' game' → (tags ≡ tags') × (game ≡ game')
read-only bytes tags tags' game game' read r =
    let other = flattened bytes tags' game' r in
    let same = flat-one bytes read.all_tags r.all_tags read.start r.start read.tokens other.tokens read.texts (texts_of r.movetext) read.flat other.flat in
    let items : items_of r.movetext ≡ dealt read.tokens read.texts = sym other.items ∙ sym (λ i. dealt (same.tokens_same i) (same.texts_same i)) in
    let meant = read.meant r.movetext items in
    let start : game.start ≡ r.start.position = read.start_is ∙ ap (λ (n : Numbered). n.position) same.start_same in
    let game_is : game ≡ game_of r.start.position (meaning r.movetext) = λ i. record { start = start i; lead = meant.0 i; line = meant.1 i } in
    (read.tags_are ∙ ap free_of same.tags ∙ sym r.tags_are, game_is ∙ sym r.game_is)

-- A record has no fault, and bytes without a record one

module _ (bytes : List ℕ) (a : List Tag) (start : Numbered) (tokens : List Token) (texts : List (List ℕ)) (f : IsFlat bytes a start tokens texts)
    (rest : List ℕ) (what : RecordWhat) where
  unbroken_start : BreaksInStart bytes rest what → ⊥
  unbroken_start b =
      let same = BeginsTags-one bytes a b.tags f.behind_tags b.behind_tags f.tags_first b.tags_first in
      BeginsStart-unbroken f.behind_tags start f.behind_start rest what f.then_start
      (subst (λ (l : List ℕ). BreaksStart l rest what) (sym same.1) b.breaks)

  unbroken_moves : IsFlatInMoves bytes rest what → ⊥
  unbroken_moves b =
      let begins = at_start bytes a b.tags f.behind_tags b.behind_tags b.start b.behind_start f.tags_first b.tags_first b.then_start in
      let scans = at_moves f.behind_tags start b.start f.behind_start b.behind_start b.tokens (Err (rest, what)) f.then_start begins b.breaks in
      (Scans-one (nest_of start) f.behind_start tokens b.tokens (Ok f.behind_moves) (Err (rest, what)) f.then_items scans).1

  unbroken_texts : IsFlatInTexts bytes rest what → ⊥
  unbroken_texts b =
      let begins = at_start bytes a b.tags f.behind_tags b.behind_tags b.start b.behind_start f.tags_first b.tags_first b.then_start in
      let scans = at_moves f.behind_tags start b.start f.behind_start b.behind_start b.tokens (Ok b.behind_moves) f.then_start begins b.then_items in
      let same = Scans-one (nest_of start) f.behind_start tokens b.tokens (Ok f.behind_moves) (Ok b.behind_moves) f.then_items scans in
      AreTexts-unbroken f.behind_moves texts (comments_in tokens) rest what f.count f.then_texts
      (subst (λ (l : List ℕ). BreaksTexts (comments_in tokens) l rest what) (sym same.1)
      (subst (λ (ts : List Token). BreaksTexts (comments_in ts) b.behind_moves rest what) (sym same.0) b.breaks))

  unbroken : FlatBreaks bytes rest what → ⊥
  unbroken broken =
      elim broken [
        | inl tags ↦ BeginsTags-unbroken bytes a tags.tags f.behind_tags rest what f.tags_first tags.breaks
        | inr later ↦ elim later [
          | inl start ↦ unbroken_start start
          | inr last ↦ elim last [ inl moves ↦ unbroken_moves moves | inr texts ↦ unbroken_texts texts ]
        ]
      ]

pub read-unbroken : (bytes : List ℕ) (tags : List Tag) (game : GameTree) (rest : List ℕ) (what : RecordWhat) → IsRead bytes tags game → Breaks bytes rest what → ⊥
read-unbroken bytes tags game rest what read broken =
    unbroken bytes read.all_tags read.start read.tokens read.texts read.flat rest what (flat_break bytes rest what broken)

pub break-only : (bytes : List ℕ) (tags : List Tag) (game : GameTree) (rest : List ℕ) (what : RecordWhat) → FlatBreaks bytes rest what → IsSpelled bytes tags game → ⊥
break-only bytes tags game rest what broken r =
    let other = flattened bytes tags game r in
    unbroken bytes r.all_tags r.start other.tokens (texts_of r.movetext) other.flat rest what broken

-- One first fault alone

same_fault : (rest rest' : List ℕ) (what what' : RecordWhat) → rest ≡ rest' → what ≡ what' → SameFault rest what rest' what'
same_fault rest rest' what what' r w = record { same = w; place = λ len i. place_of len (r i) (w i) }

module _ (bytes rest rest' : List ℕ) (what what' : RecordWhat) where
  tags_tags : BreaksInTags bytes rest what → BreaksInTags bytes rest' what' → SameFault rest what rest' what'
  tags_tags a b =
      let same = BreaksTags-one bytes a.tags b.tags rest rest' what what' a.breaks b.breaks in
      same_fault rest rest' what what' same.0 same.1

  start_start : BreaksInStart bytes rest what → BreaksInStart bytes rest' what' → SameFault rest what rest' what'
  start_start a b =
      let same = BeginsTags-one bytes a.tags b.tags a.behind_tags b.behind_tags a.tags_first b.tags_first in
      BreaksStart-one a.behind_tags rest rest' what what' a.breaks (subst (λ (l : List ℕ). BreaksStart l rest' what') (sym same.1) b.breaks)

  -- The start is there, and has no fault.
  start_whole : (a : BreaksInStart bytes rest what) (tags : List Tag) (behind_tags : List ℕ) (start : Numbered) (behind_start : List ℕ)
      → BeginsTags bytes tags behind_tags → BeginsStart behind_tags start behind_start → ⊥
  start_whole a tags behind_tags start behind_start first then =
      BeginsStart-unbroken a.behind_tags start behind_start rest what
      (at_start bytes a.tags tags a.behind_tags behind_tags start behind_start a.tags_first first then) a.breaks

  moves_moves : IsFlatInMoves bytes rest what → IsFlatInMoves bytes rest' what' → SameFault rest what rest' what'
  moves_moves a b =
      let begins = at_start bytes a.tags b.tags a.behind_tags b.behind_tags b.start b.behind_start a.tags_first b.tags_first b.then_start in
      let scans = at_moves a.behind_tags a.start b.start a.behind_start b.behind_start b.tokens (Err (rest', what')) a.then_start begins b.breaks in
      let same = Scans-one (nest_of a.start) a.behind_start a.tokens b.tokens (Err (rest, what)) (Err (rest', what')) a.breaks scans in
      same_fault rest rest' what what' same.1.0 same.1.1

  moves_texts : IsFlatInMoves bytes rest what → IsFlatInTexts bytes rest' what' → ⊥
  moves_texts a b =
      let begins = at_start bytes a.tags b.tags a.behind_tags b.behind_tags b.start b.behind_start a.tags_first b.tags_first b.then_start in
      let scans = at_moves a.behind_tags a.start b.start a.behind_start b.behind_start b.tokens (Ok b.behind_moves) a.then_start begins b.then_items in
      (Scans-one (nest_of a.start) a.behind_start a.tokens b.tokens (Err (rest, what)) (Ok b.behind_moves) a.breaks scans).1

  texts_texts : IsFlatInTexts bytes rest what → IsFlatInTexts bytes rest' what' → SameFault rest what rest' what'
  texts_texts a b =
      let begins = at_start bytes a.tags b.tags a.behind_tags b.behind_tags b.start b.behind_start a.tags_first b.tags_first b.then_start in
      let scans = at_moves a.behind_tags a.start b.start a.behind_start b.behind_start b.tokens (Ok b.behind_moves) a.then_start begins b.then_items in
      let same = Scans-one (nest_of a.start) a.behind_start a.tokens b.tokens (Ok a.behind_moves) (Ok b.behind_moves) a.then_items scans in
      BreaksTexts-one (comments_in a.tokens) a.behind_moves rest rest' what what' a.breaks
      (subst (λ (l : List ℕ). BreaksTexts (comments_in a.tokens) l rest' what') (sym same.1)
      (subst (λ (ts : List Token). BreaksTexts (comments_in ts) b.behind_moves rest' what') (sym same.0) b.breaks))

-- Of two faults one stands in an earlier part, or both in the same.
module _ (bytes rest rest' : List ℕ) (what what' : RecordWhat) where
  from_texts : IsFlatInTexts bytes rest what → FlatBreaks bytes rest' what' → SameFault rest what rest' what'
  from_texts a broken =
      elim broken [
        | inl tags ↦ absurd (BeginsTags-unbroken bytes a.tags tags.tags a.behind_tags rest' what' a.tags_first tags.breaks)
        | inr later ↦ elim later [
          | inl start ↦ absurd (start_whole bytes rest' rest what' what start a.tags a.behind_tags a.start a.behind_start a.tags_first a.then_start)
          | inr last ↦ elim last [
            | inl moves ↦ absurd (moves_texts bytes rest' rest what' what moves a)
            | inr texts ↦ texts_texts bytes rest rest' what what' a texts
          ]
        ]
      ]

  from_moves : IsFlatInMoves bytes rest what → FlatBreaks bytes rest' what' → SameFault rest what rest' what'
  from_moves a broken =
      elim broken [
        | inl tags ↦ absurd (BeginsTags-unbroken bytes a.tags tags.tags a.behind_tags rest' what' a.tags_first tags.breaks)
        | inr later ↦ elim later [
          | inl start ↦ absurd (start_whole bytes rest' rest what' what start a.tags a.behind_tags a.start a.behind_start a.tags_first a.then_start)
          | inr last ↦ elim last [
            | inl moves ↦ moves_moves bytes rest rest' what what' a moves
            | inr texts ↦ absurd (moves_texts bytes rest rest' what what' a texts)
          ]
        ]
      ]

  from_start : BreaksInStart bytes rest what → FlatBreaks bytes rest' what' → SameFault rest what rest' what'
  from_start a broken =
      elim broken [
        | inl tags ↦ absurd (BeginsTags-unbroken bytes a.tags tags.tags a.behind_tags rest' what' a.tags_first tags.breaks)
        | inr later ↦ elim later [
          | inl start ↦ start_start bytes rest rest' what what' a start
          | inr last ↦ elim last [
            | inl moves ↦ absurd (start_whole bytes rest rest' what what' a moves.tags moves.behind_tags moves.start moves.behind_start moves.tags_first moves.then_start)
            | inr texts ↦ absurd (start_whole bytes rest rest' what what' a texts.tags texts.behind_tags texts.start texts.behind_start texts.tags_first texts.then_start)
          ]
        ]
      ]

  from_tags : BreaksInTags bytes rest what → FlatBreaks bytes rest' what' → SameFault rest what rest' what'
  from_tags a broken =
      elim broken [
        | inl tags ↦ tags_tags bytes rest rest' what what' a tags
        | inr later ↦ elim later [
          | inl start ↦ absurd (BeginsTags-unbroken bytes start.tags a.tags start.behind_tags rest what start.tags_first a.breaks)
          | inr last ↦ elim last [
            | inl moves ↦ absurd (BeginsTags-unbroken bytes moves.tags a.tags moves.behind_tags rest what moves.tags_first a.breaks)
            | inr texts ↦ absurd (BeginsTags-unbroken bytes texts.tags a.tags texts.behind_tags rest what texts.tags_first a.breaks)
          ]
        ]
      ]

  pub break-one : FlatBreaks bytes rest what → Breaks bytes rest' what' → SameFault rest what rest' what'
  break-one a b =
      let other = flat_break bytes rest' what' b in
      elim a [
        | inl tags ↦ from_tags tags other
        | inr later ↦ elim later [
          | inl start ↦ from_start start other
          | inr last ↦ elim last [ inl moves ↦ from_moves moves other | inr texts ↦ from_texts texts other ]
        ]
      ]

-- Bytes that are a record have no fault.
pub spelled-unbroken : (bytes : List ℕ) (tags : List Tag) (game : GameTree) (fault : RecordFault) → IsSpelled bytes tags game → IsBroken bytes fault → ⊥
spelled-unbroken bytes tags game fault r broken =
    break-only bytes tags game broken.rest fault.what (flat_break bytes broken.rest fault.what broken.breaks) r

-- Bytes are a record of one game and one list of tags

-- Movetexts of the same items mean the same.
same_meaning : (s t : Movetext) → items_of s ≡ items_of t → ((meaning s).comment ≡ (meaning t).comment) × ((meaning s).line ≡ (meaning t).line)
same_meaning s t same =
    let one = built-items_of s (built (items_of s) opening) refl in
    let other = built-items_of t (built (items_of s) opening) (ap (λ items. built items opening) same) in
    (sym one.lead ∙ other.lead, sym one.line ∙ other.line)

record-read : (bytes : List ℕ) (tags : List Tag) (game : GameTree) → IsSpelled bytes tags game → IsRead bytes tags game
record-read bytes tags game r =
    let flat = flattened bytes tags game r in record {
      all_tags = r.all_tags;
      start = r.start;
      tokens = flat.tokens;
      texts = texts_of r.movetext;
      flat = flat.flat;
      tags_are = r.tags_are;
      start_is = ap (λ (g : GameTree). g.start) r.game_is;
      meant = λ s items.
          let same = same_meaning r.movetext s (sym flat.items ∙ sym items) in
          (ap (λ (g : GameTree). g.lead) r.game_is ∙ same.0, ap (λ (g : GameTree). g.line) r.game_is ∙ same.1);
    }

pub spelled-one : (bytes : List ℕ) (tags others : List Tag) (game other : GameTree) → IsSpelled bytes tags game → IsSpelled bytes others other → (tags ≡ others) × (game ≡ other)
spelled-one bytes tags others game other r = read-only bytes tags others game other (record-read bytes tags game r)

-- And have one first fault.
pub broken-one : (bytes : List ℕ) (fault other : RecordFault) → IsBroken bytes fault → IsBroken bytes other → fault ≡ other
broken-one bytes fault other f g =
    let same = break-one bytes f.rest g.rest fault.what other.what (flat_break bytes f.rest fault.what f.breaks) g.breaks in
    let at : fault.place ≡ other.place = f.place ∙ same.place (length bytes) ∙ sym g.place in
    λ i. record { place = at i; what = same.same i }
