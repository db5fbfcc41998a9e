-- What was met in a line is what the tree of its movetext has.
use Rattle.std.proofs.Common.{◌≡◌, ℕ, suc, ◌+◌, ◌≤◌, ◌||◌, Bool, true, false, IsTrue, List, [], ◌∷◌, ◌++◌, None, length, refl, sym, ap, ap₂, ◌∙◌, append-nil, append_assoc, length-append, arith}
use Rattle.std.specs.Option.{option_len}
use Rattle.cell_core.specs.declared.step.Move.{Move}
use Rattle.game_tree.specs.Movetext.{Movetext, end, move, nag, comment, variation, as_comment, joined, meaning}
use Rattle.game_tree.specs.Promotions.{branches_any, is_promotion, is_underpromotion, line_any}
use Rattle.game_tree.specs.Tree.{Branches, none}
use Rattle.game_tree.proofs.CountLemmas.{comments_among, nags_among, variations_among, comments_in as comments_of_line, nags_in as nags_of_line, variations_in as variations_of_line}
use Rattle.move_codec.specs.Numbers.{Numbered}
use Rattle.game_codec.specs.Checking.{full_among}
use Rattle.game_codec.specs.Moves.{SpellsMoves}
use Rattle.game_codec.specs.Place.{Place, after_comment, after_move, beginning, variation_of}
use Rattle.game_codec.specs.RecordAnswer.{game_of}
use Rattle.game_codec.specs.Scanning.{tokens_then}
use Rattle.game_codec.specs.Tallying.{added, no_tally, tallied}
use Rattle.game_codec.specs.Texts.{texts_of}
use Rattle.game_codec.specs.Token.{Token, Play, Nag, Comment, Open, Close}
use Rattle.game_codec.specs.Totals.{AreTotals}
use Rattle.game_codec.specs.declared.tally.Tally.{Tally}
use Rattle.game_codec.specs.declared.totals.Totals.{Totals}

-- What is met in a movetext
abbrev pub said : Tally → Movetext → Tally
said t end = t
said t (move m s) = said (added t (Play m)) s
said t (nag n s) = said (added t (Nag n)) s
said t (comment text s) = said (added t Comment) s
said t (variation inner s) = said (said (added t Open) inner) s

pub said-is : (t : Tally) (s : Movetext) (more : List Token) → tallied t (tokens_then s more) ≡ tallied (said t s) more
said-is t end more = refl
said-is t (move m s) more = said-is (added t (Play m)) s more
said-is t (nag n s) more = said-is (added t (Nag n)) s more
said-is t (comment text s) more = said-is (added t Comment) s more
said-is t (variation inner s) more = said-is (added t Open) inner (Close ∷ tokens_then s more) ∙ said-is (said (added t Open) inner) s more

abbrev variations_in : Movetext → ℕ
variations_in end = 0
variations_in (move m s) = variations_in s
variations_in (nag n s) = variations_in s
variations_in (comment text s) = variations_in s
variations_in (variation inner s) = 1 + variations_in inner + variations_in s

abbrev nags_in : Movetext → ℕ
nags_in end = 0
nags_in (move m s) = nags_in s
nags_in (nag n s) = 1 + nags_in s
nags_in (comment text s) = nags_in s
nags_in (variation inner s) = nags_in inner + nags_in s

abbrev any_in : (Move → Bool) → Movetext → Bool
any_in test end = false
any_in test (move m s) = test m || any_in test s
any_in test (nag n s) = any_in test s
any_in test (comment text s) = any_in test s
any_in test (variation inner s) = any_in test inner || any_in test s

said-variations : (t : Tally) (s : Movetext) → (said t s).variations ≡ t.variations + variations_in s
said-variations t end = omega arith
said-variations t (move m s) = said-variations (added t (Play m)) s
said-variations t (nag n s) = said-variations (added t (Nag n)) s
said-variations t (comment text s) = said-variations (added t Comment) s
said-variations t (variation inner s) = omega (arith, said-variations (said (added t Open) inner) s, said-variations (added t Open) inner)

pub said-comments : (t : Tally) (s : Movetext) → (said t s).comments ≡ t.comments + length (texts_of s)
said-comments t end = omega arith
said-comments t (move m s) = said-comments (added t (Play m)) s
said-comments t (nag n s) = said-comments (added t (Nag n)) s
said-comments t (comment text s) = omega (arith, said-comments (added t Comment) s)
said-comments t (variation inner s) =
    omega (arith, said-comments (said (added t Open) inner) s, said-comments (added t Open) inner, length-append (texts_of inner) (texts_of s))

said-nags : (t : Tally) (s : Movetext) → (said t s).nags ≡ t.nags + nags_in s
said-nags t end = omega arith
said-nags t (move m s) = said-nags (added t (Play m)) s
said-nags t (nag n s) = omega (arith, said-nags (added t (Nag n)) s)
said-nags t (comment text s) = said-nags (added t Comment) s
said-nags t (variation inner s) = omega (arith, said-nags (said (added t Open) inner) s, said-nags (added t Open) inner)

or-none : (a : Bool) → a ≡ (a || false)
or-none true = refl
or-none false = refl

or-assoc : (a b c : Bool) → (a || b || c) ≡ (a || (b || c))
or-assoc true b c = refl
or-assoc false b c = refl

said-promo : (t : Tally) (s : Movetext) → (said t s).promo ≡ (t.promo || any_in is_promotion s)
said-promo t end = or-none t.promo
said-promo t (move m s) = said-promo (added t (Play m)) s ∙ or-assoc t.promo (is_promotion m) (any_in is_promotion s)
said-promo t (nag n s) = said-promo (added t (Nag n)) s
said-promo t (comment text s) = said-promo (added t Comment) s
said-promo t (variation inner s) =
    said-promo (said (added t Open) inner) s
    ∙ ap (λ (b : Bool). b || any_in is_promotion s) (said-promo (added t Open) inner)
    ∙ or-assoc t.promo (any_in is_promotion inner) (any_in is_promotion s)

said-under : (t : Tally) (s : Movetext) → (said t s).under ≡ (t.under || any_in is_underpromotion s)
said-under t end = or-none t.under
said-under t (move m s) = said-under (added t (Play m)) s ∙ or-assoc t.under (is_underpromotion m) (any_in is_underpromotion s)
said-under t (nag n s) = said-under (added t (Nag n)) s
said-under t (comment text s) = said-under (added t Comment) s
said-under t (variation inner s) =
    said-under (said (added t Open) inner) s
    ∙ ap (λ (b : Bool). b || any_in is_underpromotion s) (said-under (added t Open) inner)
    ∙ or-assoc t.under (any_in is_underpromotion inner) (any_in is_underpromotion s)

-- What the tree has

pub full-append : (a b : List (List ℕ)) → full_among (a ++ b) ≡ full_among a + full_among b
full-append [] b = omega arith
full-append ([] ∷ a) b = full-append a b
full-append ((c ∷ cs) ∷ a) b = omega (arith, full-append a b)

-- What is said of the move before a place and what follows it have what is met there. Nothing hangs on a line that has no move, and
-- there is one comment at most.
record Agrees (p : Place) (s : Movetext) : Type 0 where
  variations : variations_among (meaning s).variations + variations_of_line (meaning s).line ≡ variations_in s
  nags : length (meaning s).nags + nags_among (meaning s).variations + nags_of_line (meaning s).line ≡ nags_in s
  comments : option_len (meaning s).comment + comments_among (meaning s).variations + comments_of_line (meaning s).line ≡ full_among (texts_of s)
  any : (test : Move → Bool) → (branches_any test (meaning s).variations || line_any test (meaning s).line) ≡ any_in test s
  bare : p.has_move ≡ false → ((meaning s).variations ≡ none) × ((meaning s).nags ≡ [])
  alone : IsTrue p.has_comment → (meaning s).comment ≡ None

no : false ≡ true → ⊥
no e = absurd cc

both : (b : Bool) → b ≡ false → IsTrue b → ⊥
both b off on = no (sym off ∙ on)

one-more : (text : List ℕ) (texts : List (List ℕ)) → option_len (as_comment text) + full_among texts ≡ full_among (text ∷ texts)
one-more [] texts = omega arith
one-more (c ∷ cs) texts = omega arith

joined-alone : (text : List ℕ) → joined (as_comment text) None ≡ as_comment text
joined-alone [] = refl
joined-alone (c ∷ cs) = refl

Spells-agrees : (p : Place) (s : Movetext) (bytes rest : List ℕ) → SpellsMoves p s bytes rest → Agrees p s
Spells-agrees p end bytes rest spells = record {
  variations = refl;
  nags = refl;
  comments = refl;
  any = λ test. refl;
  bare = λ off. (refl, refl);
  alone = λ on. refl;
}
Spells-agrees p (move m s) bytes rest spells =
    let on = Spells-agrees (after_move p m) s spells.0 rest spells.2 in
    record {
      variations = omega (arith, on.variations);
      nags = omega (arith, on.nags);
      comments = omega (arith, on.comments);
      any = λ test. ap (λ (b : Bool). test m || b) (on.any test);
      bare = λ off. (refl, refl);
      alone = λ has. refl;
    }
Spells-agrees p (nag n s) bytes rest spells =
    let on = Spells-agrees p s spells.0 rest spells.2 in
    record {
      variations = on.variations;
      nags = omega (arith, on.nags);
      comments = on.comments;
      any = on.any;
      bare = λ off. absurd (both p.has_move off spells.1.0);
      alone = on.alone;
    }
Spells-agrees p (comment text s) bytes rest spells =
    let on = Spells-agrees (after_comment p) s spells.0 rest spells.2 in
    let here : joined (as_comment text) (meaning s).comment ≡ as_comment text =
    ap (joined (as_comment text)) (on.alone refl) ∙ joined-alone text in
    let behind : option_len (meaning s).comment ≡ 0 = ap option_len (on.alone refl) in
    record {
      variations = on.variations;
      nags = on.nags;
      comments = omega (arith, ap option_len here, behind, on.comments, one-more text (texts_of s));
      any = on.any;
      bare = on.bare;
      alone = λ has. absurd (both p.has_comment spells.1.0 has);
    }
Spells-agrees p (variation inner s) bytes rest spells =
    let within = Spells-agrees (variation_of p) inner spells.0 spells.2.0 spells.2.1 in
    let on = Spells-agrees p s spells.2.0 rest spells.2.2 in
    let bare = within.bare refl in
    record {
      variations = omega (arith, on.variations, within.variations, ap variations_among bare.0);
      nags = omega (arith, on.nags, within.nags, ap nags_among bare.0, ap (λ (ns : List ℕ). length ns) bare.1);
      comments = omega (arith, on.comments, within.comments, ap comments_among bare.0, full-append (texts_of inner) (texts_of s));
      any = λ test.
          or-assoc (line_any test (meaning inner).line) (branches_any test (meaning s).variations) (line_any test (meaning s).line)
          ∙ ap₂ (λ (a b : Bool). a || b)
          (ap (λ (v : Branches). branches_any test v || line_any test (meaning inner).line) (sym bare.0) ∙ within.any test) (on.any test);
      bare = λ off. absurd (both p.has_move off spells.1.0);
      alone = on.alone;
    }

-- The totals of a game by what was met in its main line and its variations.
pub totals : (start : Numbered) (s : Movetext) (bytes rest : List ℕ) (t : Tally) (totals : Totals) → SpellsMoves (beginning 0 start) s bytes rest
    → t ≡ said no_tally s → totals.variations ≡ t.variations → totals.comments ≡ full_among (texts_of s) → totals.nags ≡ t.nags
    → totals.promo ≡ t.promo → totals.under ≡ t.under → AreTotals (game_of start.position (meaning s)) totals
totals start s bytes rest t all spells is variations comments nags promo under =
    let on = Spells-agrees (beginning 0 start) s bytes rest spells in
    let bare = on.bare refl in
    let met = λ (test : Move → Bool). ap (λ (v : Branches). branches_any test v || line_any test (meaning s).line) (sym bare.0) ∙ on.any test in
    record {
      variations = omega (arith, variations, ap (λ (x : Tally). x.variations) is, said-variations no_tally s, on.variations, ap variations_among bare.0);
      comments = omega (arith, comments, on.comments, ap comments_among bare.0);
      nags = omega (arith, nags, ap (λ (x : Tally). x.nags) is, said-nags no_tally s, on.nags, ap nags_among bare.0, ap (λ (ns : List ℕ). length ns) bare.1);
      promo = promo ∙ ap (λ (x : Tally). x.promo) is ∙ said-promo no_tally s ∙ sym (met is_promotion);
      under = under ∙ ap (λ (x : Tally). x.under) is ∙ said-under no_tally s ∙ sym (met is_underpromotion);
    }

-- A movetext with other texts

-- The same movetext with the first of these texts, and the texts that are left.
pub record Dealt (s : Movetext) (texts : List (List ℕ)) : Type 0 where
  pub movetext : Movetext
  pub behind : List (List ℕ)
  pub texts_are : texts ≡ texts_of movetext ++ behind
  pub count : length (texts_of movetext) ≡ length (texts_of s)
  pub spells : (p : Place) (bytes rest : List ℕ) → SpellsMoves p s bytes rest → SpellsMoves p movetext bytes rest
  pub same : (t : Tally) → said t movetext ≡ said t s

deal : (s : Movetext) (texts : List (List ℕ)) → length (texts_of s) ≤ length texts → Dealt s texts
deal end texts fits = record {
  movetext = end;
  behind = texts;
  texts_are = refl;
  count = refl;
  spells = λ p bytes rest spells. spells;
  same = λ t. refl;
}
deal (move m s) texts fits =
    let on = deal s texts fits in
    record {
      movetext = move m on.movetext;
      behind = on.behind;
      texts_are = on.texts_are;
      count = on.count;
      spells = λ p bytes rest spells. (spells.0, spells.1, on.spells (after_move p m) spells.0 rest spells.2);
      same = λ t. on.same (added t (Play m));
    }
deal (nag n s) texts fits =
    let on = deal s texts fits in
    record {
      movetext = nag n on.movetext;
      behind = on.behind;
      texts_are = on.texts_are;
      count = on.count;
      spells = λ p bytes rest spells. (spells.0, spells.1, on.spells p spells.0 rest spells.2);
      same = λ t. on.same (added t (Nag n));
    }
deal (comment text s) [] fits = absurd (omega (arith, fits))
deal (comment text s) (first ∷ texts) fits =
    let on = deal s texts (omega (arith, fits)) in
    record {
      movetext = comment first on.movetext;
      behind = on.behind;
      texts_are = ap (λ (ts : List (List ℕ)). first ∷ ts) on.texts_are;
      count = ap suc on.count;
      spells = λ p bytes rest spells. (spells.0, spells.1, on.spells (after_comment p) spells.0 rest spells.2);
      same = λ t. on.same (added t Comment);
    }
deal (variation inner s) texts fits =
    let sum = length-append (texts_of inner) (texts_of s) in
    let within = deal inner texts (omega (arith, fits, sum)) in
    let left = ap (λ (ts : List (List ℕ)). length ts) within.texts_are in
    let on = deal s within.behind (omega (arith, fits, sum, left, within.count, length-append (texts_of within.movetext) within.behind)) in
    record {
      movetext = variation within.movetext on.movetext;
      behind = on.behind;
      texts_are =
          within.texts_are
          ∙ ap (λ (ts : List (List ℕ)). texts_of within.movetext ++ ts) on.texts_are
          ∙ sym (append_assoc (texts_of within.movetext) (texts_of on.movetext) on.behind);
      count = omega (arith, sum, length-append (texts_of within.movetext) (texts_of on.movetext), within.count, on.count);
      spells = λ p bytes rest spells. (
        spells.0,
        spells.1,
        (spells.2.0, within.spells (variation_of p) spells.0 spells.2.0 spells.2.1, on.spells p spells.2.0 rest spells.2.2),
      );
      same = λ t. ap (λ (x : Tally). said x on.movetext) (within.same (added t Open)) ∙ on.same (said (added t Open) inner);
    }

pub none_left : (a b : List (List ℕ)) → length (a ++ b) ≡ length a → b ≡ []
none_left a [] e = refl
none_left a (x ∷ b) e = absurd (omega (arith, e, length-append a (x ∷ b)))

pub dealt_all : (s : Movetext) (texts : List (List ℕ)) → length texts ≡ length (texts_of s) → (d : Dealt s texts) × (texts_of d.movetext ≡ texts)
dealt_all s texts e =
    let d = deal s texts (omega (arith, e)) in
    let left : d.behind ≡ [] = none_left (texts_of d.movetext) d.behind
    (sym (ap (λ (ts : List (List ℕ)). length ts) d.texts_are) ∙ e ∙ sym d.count) in
    (d, sym (d.texts_are ∙ ap (λ (ts : List (List ℕ)). texts_of d.movetext ++ ts) left ∙ append-nil (texts_of d.movetext)))
