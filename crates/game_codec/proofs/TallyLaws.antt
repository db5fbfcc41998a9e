-- What was met in a line, item by item.
use Rattle.std.proofs.Common.{◌≡◌, ℕ, ◌+◌, ◌-◌, ◌<◌, ◌≤◌, List, [], ◌∷◌, ◌++◌, length, drop, refl, sym, ap, ◌∙◌, length-drop, arith}
use Rattle.cell_core.specs.declared.step.Move.{Move}
use Rattle.game_tree.specs.Movetext.{Movetext, end}
use Rattle.game_codec.specs.Breach.{Tells}
use Rattle.game_codec.specs.Following.{HasFollowed}
use Rattle.game_codec.specs.Moves.{SpellsMoves, Upto, BreaksMoves}
use Rattle.game_codec.specs.Nests.{IsPast, token_of}
use Rattle.game_codec.specs.Place.{Place, Takes, FaultAt, variation_of}
use Rattle.game_codec.specs.Scanning.{tokens_then}
use Rattle.game_codec.specs.Tallying.{HasTallied, added, size_of, tallied}
use Rattle.game_codec.specs.Token.{Token, Play, Nag, Comment, Open, Close, End}
use Rattle.game_codec.specs.declared.breach.Breach.{Breach}
use Rattle.game_codec.specs.declared.fault.RecordWhat.{RecordWhat}
use Rattle.game_codec.specs.declared.tally.Tally.{Tally}
use Rattle.game_codec.specs.declared.token.Token.{Token as Read}
use Rattle.game_codec.specs.declared.token.Token.TheVariants as read
use Rattle.game_codec.proofs.LineLaws.{HasFollowed-breaks, HasFollowed-none, LineSpelled}
use Rattle.game_codec.proofs.LineLaws as line

pub tallied-append : (t : Tally) (ts more : List Token) → tallied t (ts ++ more) ≡ tallied (tallied t ts) more
tallied-append t [] more = refl
tallied-append t (token ∷ ts) more = tallied-append (added t token) ts more

size-added : (t : Tally) (token : Token) → size_of (added t token) ≤ size_of t + 1
size-added t (Play m) = omega arith
size-added t (Nag n) = omega arith
size-added t Comment = omega arith
size-added t Open = omega arith
size-added t Close = omega arith
size-added t End = omega arith

pub HasTallied-none : (start : Place) (bytes : List ℕ) (t : Tally) → HasTallied start bytes start bytes t t
HasTallied-none start bytes t = record { tokens = []; followed = HasFollowed-none start bytes; tally_is = refl; few = omega arith }

pub HasTallied-breaks : (start : Place) (bytes : List ℕ) (now : Place) (rest : List ℕ) (before tally : Tally) (what : RecordWhat)
    → HasTallied start bytes now rest before tally → FaultAt now rest what → (v : Upto) × BreaksMoves start v bytes rest what
HasTallied-breaks start bytes now rest before tally what has fault = HasFollowed-breaks start bytes now rest has.tokens what has.followed fault

-- A line that was read to its end.
abbrev pub LineTallied : Place → List ℕ → ℕ → Tally → Tally → Type 0
LineTallied p bytes used before tally = (s : Movetext) × (SpellsMoves p s bytes (drop used bytes) × (tally ≡ tallied before (tokens_then s [])))

-- By the item that was read.
module _ (start : Place) (bytes : List ℕ) (now : Place) (rest : List ℕ) (before tally : Tally) (has : HasTallied start bytes now rest before tally)
    (used : ℕ) (fits : used ≤ length rest) (some : 0 < used) (t : Read) (takes : Takes now rest (token_of t) (drop used rest))
    (after : Place) (past : IsPast now (token_of t) after (drop used rest)) (later : List ℕ) (later_is : later ≡ drop used rest)
    (next : Tally) (next_is : next ≡ added tally (token_of t)) where
  left : length later + used ≡ length rest
  left = omega (arith, ap (λ (l : List ℕ). length l) later_is, length-drop used rest, fits)

  pub grown : size_of next ≤ size_of tally + 1
  grown = omega (arith, ap size_of next_is, size-added tally (token_of t))

  counted : (u : Read) → t ≡ u → next ≡ added (tallied before has.tokens) (token_of u)
  counted u is = next_is ∙ ap (λ (v : Read). added tally (token_of v)) is ∙ ap (λ (x : Tally). added x (token_of u)) has.tally_is

  one_more : (u : Read) → t ≡ u → HasFollowed start bytes after later (has.tokens ++ token_of u ∷ []) → HasTallied start bytes after later before next
  one_more u is followed = record {
    tokens = has.tokens ++ token_of u ∷ [];
    followed = followed;
    tally_is = counted u is ∙ sym (tallied-append before has.tokens (token_of u ∷ []));
    few = omega (arith, has.few, grown, left, some);
  }

  pub by_move : (m : Move) → t ≡ read.Play m → HasTallied start bytes after later before next
  by_move m is = one_more (read.Play m) is (line.by_move start bytes now rest has.tokens has.followed used fits t takes after past later later_is m is)

  pub by_nag : (n : ℕ) → t ≡ read.Nag n → HasTallied start bytes after later before next
  by_nag n is = one_more (read.Nag n) is (line.by_nag start bytes now rest has.tokens has.followed used fits t takes after past later later_is n is)

  pub by_comment : t ≡ read.Comment → HasTallied start bytes after later before next
  by_comment is = one_more read.Comment is (line.by_comment start bytes now rest has.tokens has.followed used fits t takes after past later later_is is)

  pub by_variation : t ≡ read.Open → (p : Place) → p ≡ variation_of after → (more : ℕ) → more ≤ length later → (final : Tally)
      → size_of final ≤ size_of next + more → (last : List ℕ) → last ≡ drop more later → LineTallied p later more next final
      → HasTallied start bytes after last before final
  by_variation is p p_is more fits' final few last last_is told =
      let s = told.0 in
      let items = tokens_then s [] ++ Close ∷ [] in
      let size : length last + more ≡ length later = omega (arith, ap (λ (l : List ℕ). length l) last_is, length-drop more later, fits') in
      record {
        tokens = has.tokens ++ Open ∷ items;
        followed = line.by_variation start bytes now rest has.tokens has.followed used fits t takes after past later later_is is p p_is more fits' last last_is s told.1.0;
        tally_is =
            told.1.1
            ∙ ap (λ (x : Tally). tallied x (tokens_then s [])) (counted read.Open is)
            ∙ sym (tallied-append (added (tallied before has.tokens) Open) (tokens_then s []) (Close ∷ []))
            ∙ sym (tallied-append before has.tokens (Open ∷ items));
        few = omega (arith, has.few, grown, left, some, few, size);
      }

  pub by_fault : t ≡ read.Open → (p : Place) → p ≡ variation_of after → (breach : Breach)
      → Tells (λ from what. (u : Upto) × BreaksMoves p u later from what) breach
      → Tells (λ from what. (u : Upto) × BreaksMoves start u bytes from what) breach
  by_fault is p p_is breach tells = (
    tells.0,
    tells.1,
    line.by_fault start bytes now rest has.tokens has.followed used fits t takes after past later later_is is p p_is tells.2.0 tells.0 breach.what tells.2.1,
  )

  closed : (u : Read) → t ≡ u → added tally (token_of u) ≡ tally → LineSpelled start bytes (length bytes - length later) has.tokens
      → LineTallied start bytes (length bytes - length later) before next
  closed u is none spelled = (
    spelled.0,
    (
      spelled.1.0,
      next_is ∙ ap (λ (v : Read). added tally (token_of v)) is ∙ none ∙ has.tally_is ∙ ap (tallied before) (sym spelled.1.1),
    ),
  )

  pub by_close : t ≡ read.Close → LineTallied start bytes (length bytes - length later) before next
  by_close is = closed read.Close is refl (line.by_close start bytes now rest has.tokens has.followed used fits t takes after past later later_is is)

  pub by_end : t ≡ read.End → LineTallied start bytes (length bytes - length later) before next
  by_end is = closed read.End is refl (line.by_end start bytes now rest has.tokens has.followed used fits t takes after past later later_is is)
