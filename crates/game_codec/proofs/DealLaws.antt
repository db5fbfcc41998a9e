-- A tree is built with the items of a line and the texts of its comments at once.
use Rattle.std.proofs.Common.{option_map, ◌≡◌, ◌≤◌, ◌+◌, ◌-◌, ℕ, List, [], ◌∷◌, ◌++◌, Option, Some, None, length, drop, refl, sym, ap, ◌∙◌, subst, append_assoc, append-nil, length-append, length-drop, IsTrue, arith}
use Rattle.std.specs.Prelude.{IsSome}
use Rattle.std.proofs.lemmas.List.{drop_at}
use Rattle.std.proofs.lemmas.List.Elements.{All-append, All-nil, All-push}
use Rattle.cell_core.specs.Text.{IsZeroFree}
use Rattle.chess_laws.specs.declared.setup.Setup.{Setup}
use Rattle.game_tree.specs.Building.{Building, Gives, Open as Line, added, built, closed as shut, opening, variation_of as variation_read, with_comment_on, more_nags, with_variation, more_variations}
use Rattle.game_tree.specs.Item.{Item}
use Rattle.game_tree.specs.Item as item
use Rattle.game_tree.specs.Movetext.{Movetext, as_comment, items_of, meaning}
use Rattle.game_tree.specs.Tree.{Played, Variation}
use Rattle.move_codec.specs.Numbers.{Numbered}
use Rattle.game_codec.specs.Adding.{Adds}
use Rattle.game_codec.specs.Dealing.{Deals, IsTreeOf}
use Rattle.game_codec.specs.Fitting.{MayAdd}
use Rattle.game_codec.specs.Following.{HasFollowed}
use Rattle.game_codec.specs.Leading.{Leads, LeadsOn}
use Rattle.game_codec.specs.Moves.{SpellsMoves}
use Rattle.game_codec.specs.Nests.{IsPast, token_of}
use Rattle.game_codec.specs.Place.{Place, Takes, after_comment, after_move, beginning, variation_of}
use Rattle.game_codec.specs.Scanning.{comments_in, dealt, tokens_then}
use Rattle.game_codec.specs.Texts.{ended}
use Rattle.game_codec.specs.Token.{Token, Play, Nag, Comment, Open, Close, End}
use Rattle.game_codec.specs.declared.token.Token.{Token as Read}
use Rattle.game_codec.specs.declared.token.Token.TheVariants as read
use Rattle.game_codec.proofs.LeadLaws.{kept-here, leads-comment, leads-move, leads-nag, leads-variation}
use Rattle.game_codec.proofs.LineLaws.{HasFollowed-none, LineSpelled, by_close, by_comment, by_end, by_move, by_nag, by_variation}
use Rattle.game_codec.proofs.MovetextLaws.{spelled-scans}

-- ---- items and texts one behind the other.

pub ended-append : (texts more : List (List ℕ)) (rest : List ℕ) → ended (texts ++ more) ++ rest ≡ ended texts ++ (ended more ++ rest)
ended-append [] more rest = refl
ended-append (text ∷ texts) more rest =
    append_assoc text (0 ∷ ended (texts ++ more)) rest
    ∙ (ap (λ (l : List ℕ). text ++ 0 ∷ l) (ended-append texts more rest) ∙ sym (append_assoc text (0 ∷ ended texts) (ended more ++ rest)))

pub ended-push : (texts : List (List ℕ)) (text rest : List ℕ) → ended (texts ++ text ∷ []) ++ rest ≡ ended texts ++ (text ++ 0 ∷ rest)
ended-push [] text rest = append_assoc text (0 ∷ []) rest
ended-push (t ∷ texts) text rest =
    append_assoc t (0 ∷ ended (texts ++ text ∷ [])) rest
    ∙ ap (λ (bytes : List ℕ). t ++ 0 ∷ bytes) (ended-push texts text rest)
    ∙ sym (append_assoc t (0 ∷ ended texts) (text ++ 0 ∷ rest))

pub Deals-none : (bytes : List ℕ) (b : Building) → Deals [] bytes bytes b b
Deals-none bytes b = record { texts = []; zero_free = All-nil IsZeroFree; spelled = refl; count = λ more. omega arith; onward = λ more later. refl }

pub Deals-then : (a b : List Token) (bytes between rest : List ℕ) (before middle after : Building) → Deals a bytes between before middle → Deals b between rest middle after → Deals (a ++ b) bytes rest before after
Deals-then a b bytes between rest before middle after f g = record {
  texts = f.texts ++ g.texts;
  zero_free = All-append IsZeroFree f.texts g.texts f.zero_free g.zero_free;
  spelled = f.spelled ∙ (ap (λ (l : List ℕ). ended f.texts ++ l) g.spelled ∙ sym (ended-append f.texts g.texts rest));
  count = λ more.
      let joined : comments_in ((a ++ b) ++ more) ≡ comments_in (a ++ (b ++ more)) = ap comments_in (append_assoc a b more) in
      omega (arith, length-append f.texts g.texts, f.count (b ++ more), g.count more, joined);
  onward = λ more later.
      g.onward more later
      ∙ (f.onward (b ++ more) (g.texts ++ later)
      ∙ (ap (λ (ts : List Token). built (dealt ts (f.texts ++ (g.texts ++ later))) before) (sym (append_assoc a b more))
      ∙ ap (λ (all : List (List ℕ)). built (dealt ((a ++ b) ++ more) all) before) (sym (append_assoc f.texts g.texts later))));
}

-- An item without a text.
plain : (t : Token) (bytes : List ℕ) (used : ℕ) (before after : Building) → ((more : List Token) → comments_in (t ∷ more) ≡ comments_in more)
    → ((more : List Token) (later : List (List ℕ)) → built (dealt more later) after ≡ built (dealt (t ∷ more) later) before) → used ≡ 0 → Deals (t ∷ []) bytes (drop used bytes) before after
plain t bytes used before after none same unused = record {
  texts = [];
  zero_free = All-nil IsZeroFree;
  spelled = ap (λ (n : ℕ). drop n bytes) (sym unused);
  count = λ more. omega (arith, none more);
  onward = same;
}

pub Deals-one : (t : Token) (bytes : List ℕ) (used : ℕ) (before after : Building) → Adds t bytes before used after → Deals (t ∷ []) bytes (drop used bytes) before after
Deals-one (Play m) bytes used before after adds = plain (Play m) bytes used before after (λ more. refl) (λ more later. ap (built (dealt more later)) adds.1) adds.0
Deals-one (Nag n) bytes used before after adds = plain (Nag n) bytes used before after (λ more. refl) (λ more later. ap (built (dealt more later)) adds.1) adds.0
Deals-one Comment bytes used before after adds = record {
  texts = adds.0 ∷ [];
  zero_free = All-push IsZeroFree [] adds.0 (All-nil IsZeroFree) adds.1.0.zero_free;
  spelled = adds.1.0.spelled ∙ sym (append_assoc adds.0 (0 ∷ []) (drop used bytes));
  count = λ more. omega arith;
  onward = λ more later. ap (built (dealt more later)) adds.1.1;
}
Deals-one Open bytes used before after adds = plain Open bytes used before after (λ more. refl) (λ more later. ap (built (dealt more later)) adds.1) adds.0
Deals-one Close bytes used before after adds = plain Close bytes used before after (λ more. refl) (λ more later. ap (built (dealt more later)) adds.1) adds.0
Deals-one End bytes used before after adds = plain End bytes used before after (λ more. refl) (λ more later. ap (built (dealt more later)) adds.1) adds.0

-- The bytes that are left stand behind the texts.
pub Deals-left : (tokens : List Token) (bytes rest : List ℕ) (before after : Building) → Deals tokens bytes rest before after → rest ≡ drop (length bytes - length rest) bytes
Deals-left tokens bytes rest before after deals =
    let size : length bytes ≡ length (ended deals.texts) + length rest = ap (λ (l : List ℕ). length l) deals.spelled ∙ length-append (ended deals.texts) rest in
    let here : length (ended deals.texts) ≡ length bytes - length rest = omega (arith, size) in
    sym (ap (λ (l : List ℕ). drop (length bytes - length rest) l) deals.spelled ∙ drop_at (ended deals.texts) rest (length bytes - length rest) here)

pub Deals-within : (tokens : List Token) (bytes rest : List ℕ) (before after : Building) → Deals tokens bytes rest before after → length rest ≤ length bytes
Deals-within tokens bytes rest before after deals =
    let size : length bytes ≡ length (ended deals.texts) + length rest = ap (λ (l : List ℕ). length l) deals.spelled ∙ length-append (ended deals.texts) rest in
    omega (arith, size)

-- ---- a line as far as it was built.

-- The items and the texts so far were added to a tree, and where the line has a move the tree has one there.
pub record HasBuilt (start : Place) (bytes : List ℕ) (now : Place) (rest texts left : List ℕ) (before b : Building) : Type 0 where
  pub tokens : List Token
  pub followed : HasFollowed start bytes now rest tokens
  pub deals : Deals tokens texts left before b
  pub outer : b.outer ≡ before.outer
  pub moved : IsTrue now.has_move → IsSome b.current.last
  pub leads : LeadsOn start before now b

pub HasBuilt-none : (start : Place) (bytes texts : List ℕ) (b : Building) → (IsTrue start.has_move → IsSome b.current.last) → HasBuilt start bytes start bytes texts texts b b
HasBuilt-none start bytes texts b moved = record {
  tokens = [];
  followed = HasFollowed-none start bytes;
  deals = Deals-none texts b;
  outer = refl;
  moved = moved;
  leads = λ from led. led;
}

some-nag : (n : ℕ) (last : Option Played) → IsSome last → IsSome (option_map (more_nags n) last)
some-nag n None is = is
some-nag n (Some p) is = refl

some-comment : (t lead : Option (List ℕ)) (done : List Played) (last : Option Played) → IsSome last → IsSome (with_comment_on t lead done last).last
some-comment t lead done None is = is
some-comment t lead done (Some p) is = refl

some-variation : (v : Variation) (last : Option Played) → IsSome last → IsSome (option_map (more_variations v) last)
some-variation v None is = is
some-variation v (Some p) is = refl

module _ (start : Place) (bytes : List ℕ) (now : Place) (rest texts left : List ℕ) (before b : Building) (has : HasBuilt start bytes now rest texts left before b)
    (used : ℕ) (fits : used ≤ length rest) (t : Read) (takes : Takes now rest (token_of t) (drop used rest))
    (after : Place) (past : IsPast now (token_of t) after (drop used rest)) (later : List ℕ) (later_is : later ≡ drop used rest) where
  -- An item that stands for itself may be added.
  pub may-add : (t ≡ read.Close → ⊥) → MayAdd (token_of t) b
  may-add no_close = may t takes no_close
    where
      may : (u : Read) → Takes now rest (token_of u) (drop used rest) → (u ≡ read.Close → ⊥) → MayAdd (token_of u) b
      may (read.Play m) u none = tt
      may (read.Nag n) u none = has.moved u.0
      may read.Comment u none = tt
      may read.Open u none = has.moved u.0
      may read.Close u none = absurd (none refl)
      may read.End u none = tt

  one : (token : Token) (spent : ℕ) (next : Building) (behind : List ℕ) → HasFollowed start bytes after later (has.tokens ++ token ∷ []) → Adds token left b spent next → behind ≡ drop spent left
      → next.outer ≡ b.outer → (IsTrue after.has_move → IsSome next.current.last) → ((from : Setup) → Leads from b now.here.position → Leads from next after.here.position)
      → HasBuilt start bytes after later texts behind before next
  one token spent next behind followed adds behind_is round moved led = record {
    tokens = has.tokens ++ token ∷ [];
    followed = followed;
    deals =
        let D : List ℕ → Type 0 = λ l. Deals (token ∷ []) left l b next in
        Deals-then has.tokens (token ∷ []) texts left behind before b next has.deals (subst D (sym behind_is) (Deals-one token left spent b next adds));
    outer = round ∙ has.outer;
    moved = moved;
    leads = λ from first. led from (has.leads from first);
  }

  -- The place stays where it is.
  stays : (next : Building) → after.here ≡ now.here → ((from to : Setup) → Leads from b to → Leads from next to) → (from : Setup) → Leads from b now.here.position
      → Leads from next after.here.position
  stays next same led from first = led from now.here.position first ∙ ap (λ (n : Numbered). n.position) (sym same)

  pub built-one : (spent : ℕ) (next : Building) (behind : List ℕ) → (t ≡ read.Open → ⊥) → (t ≡ read.Close → ⊥) → (t ≡ read.End → ⊥) → Adds (token_of t) left b spent next → behind ≡ drop spent left
      → HasBuilt start bytes after later texts behind before next
  built-one spent next behind no_open no_close no_end adds behind_is = by t refl no_open no_close no_end adds
    where
      by : (u : Read) → t ≡ u → (u ≡ read.Open → ⊥) → (u ≡ read.Close → ⊥) → (u ≡ read.End → ⊥) → Adds (token_of u) left b spent next → HasBuilt start bytes after later texts behind before next
      by (read.Play m) is o c e adds =
          one (Play m) spent next behind (by_move start bytes now rest has.tokens has.followed used fits t takes after past later later_is m is) adds behind_is
          (ap (λ (n : Building). n.outer) adds.1) (λ yes. rw adds.1 refl)
          (λ from first.
          leads-move from b next now.here after.here m adds.1
          (kept-here (after_move now m) after (drop used rest) (subst (λ (v : Read). IsPast now (token_of v) after (drop used rest)) is past)) first)
      by (read.Nag n) is o c e adds =
          let same : after ≡ now = subst (λ (v : Read). IsPast now (token_of v) after (drop used rest)) is past in
          one (Nag n) spent next behind (by_nag start bytes now rest has.tokens has.followed used fits t takes after past later later_is n is) adds behind_is
          (ap (λ (n : Building). n.outer) adds.1)
          (λ yes. rw adds.1 (some-nag n b.current.last (has.moved (subst (λ (p : Place). IsTrue p.has_move) same yes))))
          (stays next (ap (λ (p : Place). p.here) same) (λ from to. leads-nag from to b next n adds.1))
      by read.Comment is o c e adds =
          let behind_comment : after ≡ after_comment now = subst (λ (v : Read). IsPast now (token_of v) after (drop used rest)) is past in
          let same : after.has_move ≡ now.has_move = ap (λ (p : Place). p.has_move) behind_comment in
          one Comment spent next behind (by_comment start bytes now rest has.tokens has.followed used fits t takes after past later later_is is) adds behind_is
          (ap (λ (n : Building). n.outer) adds.1.1)
          (λ yes. rw adds.1.1 (some-comment (as_comment adds.0) b.current.lead b.current.done b.current.last (has.moved (rw (← same) yes))))
          (stays next (ap (λ (p : Place). p.here) behind_comment) (λ from to. leads-comment from to b next adds.0 adds.1.1))
      by read.Open is o c e adds = absurd (o refl)
      by read.Close is o c e adds = absurd (c refl)
      by read.End is o c e adds = absurd (e refl)

  -- A variation with its brackets.
  pub built-variation : t ≡ read.Open → (p : Place) → p ≡ variation_of after → (moves : ℕ) → moves ≤ length later → (last : List ℕ) → last ≡ drop moves later
      → (spent : ℕ) (behind : List ℕ) → behind ≡ drop spent left → (opened inner closed : Building) → opened ≡ added item.opens b
      → (s : Movetext) × (SpellsMoves p s later (drop moves later) × Deals (tokens_then s []) left (drop spent left) opened inner)
      → inner.outer ≡ opened.outer → closed ≡ added item.closes inner → HasBuilt start bytes after last texts behind before closed
  built-variation is p p_is moves fits' last last_is spent behind behind_is opened inner closed opened_is line round closed_is =
      let s : Movetext = line.0 in
      let same : after ≡ now = subst (λ (v : Read). IsPast now (token_of v) after (drop used rest)) is past in
      let lines : inner.outer ≡ b.current ∷ b.outer = round ∙ ap (λ (n : Building). n.outer) opened_is in
      let ends : closed ≡ record { current = with_variation (variation_read inner.current) b.current; outer = b.outer } =
      closed_is ∙ ap (λ (outer : List Line). shut inner.current outer) lines
      in
      let opens : Deals (Open ∷ []) left left b opened = Deals-one Open left 0 b opened (refl, opened_is) in
      let closes : Deals (Close ∷ []) behind behind inner closed = Deals-one Close behind 0 inner closed (refl, closed_is) in
      let D : List ℕ → Type 0 = λ l. Deals (tokens_then s []) left l opened inner in
      record {
        tokens = has.tokens ++ Open ∷ (tokens_then s [] ++ Close ∷ []);
        followed = by_variation start bytes now rest has.tokens has.followed used fits t takes after past later later_is is p p_is moves fits' last last_is s line.1.0;
        deals =
            Deals-then has.tokens (Open ∷ (tokens_then s [] ++ Close ∷ [])) texts left behind before b closed has.deals
            (Deals-then (Open ∷ []) (tokens_then s [] ++ Close ∷ []) left left behind b opened closed opens
            (Deals-then (tokens_then s []) (Close ∷ []) left behind behind opened inner closed (subst D (sym behind_is) line.1.1) closes));
        outer = ap (λ (n : Building). n.outer) ends ∙ has.outer;
        moved = λ yes. rw ends (some-variation (variation_read inner.current) b.current.last (has.moved (subst (λ (q : Place). IsTrue q.has_move) same yes)));
        leads = λ from first.
            stays closed (ap (λ (q : Place). q.here) same) (λ f to. leads-variation f to b closed (variation_read inner.current) ends) from (has.leads from first);
      }

  spelled : LineSpelled start bytes (length bytes - length later) has.tokens
      → (s : Movetext) × (SpellsMoves start s bytes (drop (length bytes - length later) bytes) × Deals (tokens_then s []) texts (drop (length texts - length left) texts) before b)
  spelled line =
      let T : List Token → Type 0 = λ ts. Deals ts texts (drop (length texts - length left) texts) before b in
      let L : List ℕ → Type 0 = λ l. Deals has.tokens texts l before b in
      (line.0, (line.1.0, subst T (sym line.1.1) (subst L (Deals-left has.tokens texts left before b has.deals) has.deals)))

  pub built-close : t ≡ read.Close
      → (s : Movetext) × (SpellsMoves start s bytes (drop (length bytes - length later) bytes) × Deals (tokens_then s []) texts (drop (length texts - length left) texts) before b)
  built-close is = spelled (by_close start bytes now rest has.tokens has.followed used fits t takes after past later later_is is)

  pub built-end : t ≡ read.End
      → (s : Movetext) × (SpellsMoves start s bytes (drop (length bytes - length later) bytes) × Deals (tokens_then s []) texts (drop (length texts - length left) texts) before b)
  built-end is = spelled (by_end start bytes now rest has.tokens has.followed used fits t takes after past later later_is is)

  -- An end leaves the place and the tree as they are.
  pub leads-close : t ≡ read.Close → LeadsOn start before after b
  leads-close is from first =
      let same : after ≡ now = subst (λ (v : Read). IsPast now (token_of v) after (drop used rest)) is past in
      has.leads from first ∙ ap (λ (q : Place). q.here.position) (sym same)

  pub leads-end : t ≡ read.End → LeadsOn start before after b
  leads-end is from first =
      let same : after ≡ now = subst (λ (v : Read). IsPast now (token_of v) after (drop used rest)) is past in
      has.leads from first ∙ ap (λ (q : Place). q.here.position) (sym same)

-- What a line takes, by the numbers that are given.
pub line-is : (start : Place) (bytes texts : List ℕ) (moves spent moves' spent' : ℕ) (before b : Building) → moves' ≡ moves → spent' ≡ spent
    → (s : Movetext) × (SpellsMoves start s bytes (drop moves bytes) × Deals (tokens_then s []) texts (drop spent texts) before b)
    → (s : Movetext) × (SpellsMoves start s bytes (drop moves' bytes) × Deals (tokens_then s []) texts (drop spent' texts) before b)
line-is start bytes texts moves spent moves' spent' before b same alike line = rw (same, alike) line

-- ---- the main line.

-- Parts of one length at the end of a list are one.
pub same-length-drop : (bytes texts : List ℕ) (first second : ℕ) → first ≤ length bytes → second ≤ length bytes → texts ≡ drop first bytes → length bytes - second ≡ length texts → texts ≡ drop second bytes
same-length-drop bytes texts first second within within' is size =
    let long : length texts ≡ length bytes - first = ap (λ (l : List ℕ). length l) is ∙ length-drop first bytes in
    let same : first ≡ second = omega (arith, within, within', size, long) in
    is ∙ ap (λ (n : ℕ). drop n bytes) same

-- The tree that was built of the whole main line, where its texts begin behind it and none are left.
pub tree-of : (begins : Numbered) (p : Place) (bytes texts : List ℕ) (moves spent : ℕ) (before b : Building) (branch : Variation) → p ≡ beginning 0 begins → before ≡ opening
    → (s : Movetext) × (SpellsMoves p s bytes (drop moves bytes) × Deals (tokens_then s []) texts (drop spent texts) before b) → texts ≡ drop moves bytes → drop spent texts ≡ []
    → ((s : Movetext) → b ≡ built (items_of s) opening → Gives branch (meaning s).comment (meaning s).line) → IsTreeOf begins bytes branch
tree-of begins p bytes texts moves spent before b branch p_is empty line behind none meant =
    let s : Movetext = line.0 in
    let E : Building → Type 0 = λ n. Deals (tokens_then s []) texts (drop spent texts) n b in
    let deals = subst E empty line.1.1 in
    let spells : SpellsMoves (beginning 0 begins) s bytes (drop moves bytes) = subst (λ (q : Place). SpellsMoves q s bytes (drop moves bytes)) p_is line.1.0 in
    let whole : b ≡ built (dealt (tokens_then s []) deals.texts) opening =
    deals.onward [] []
    ∙ (ap (λ (ts : List Token). built (dealt ts (deals.texts ++ [])) opening) (append-nil (tokens_then s []))
    ∙ ap (λ (all : List (List ℕ)). built (dealt (tokens_then s []) all) opening) (append-nil deals.texts))
    in
    record {
      tokens = tokens_then s [];
      texts = deals.texts;
      behind = drop moves bytes;
      items = spelled-scans begins s bytes (drop moves bytes) spells;
      then_texts = record {
        spelled = sym behind ∙ (deals.spelled ∙ (ap (λ (l : List ℕ). ended deals.texts ++ l) none ∙ append-nil (ended deals.texts)));
        zero_free = deals.zero_free;
      };
      count =
          let joined : comments_in (tokens_then s [] ++ []) ≡ comments_in (tokens_then s []) = ap comments_in (append-nil (tokens_then s [])) in
          omega (arith, deals.count [], joined);
      meant = λ m items. meant m (whole ∙ ap (λ (all : List Item). built all opening) (sym items));
    }
