-- A line as far as it was read: what follows from there gives the whole.
use Rattle.std.proofs.Common.{◌≡◌, ℕ, ◌+◌, ◌-◌, ◌≤◌, List, [], ◌∷◌, ◌++◌, length, drop, refl, sym, ap, subst, ◌∙◌, append_assoc, append-nil, length-drop, inl, inr, arith}
use Rattle.std.proofs.lemmas.List.{drop-drop}
use Rattle.cell_core.specs.declared.step.Move.{Move}
use Rattle.game_tree.specs.Movetext.{Movetext, end, move, nag, comment, variation}
use Rattle.move_codec.specs.Numbers.{Numbered}
use Rattle.game_codec.specs.Token.{Token, Play, Nag, Comment, Open, Close, End}
use Rattle.game_codec.specs.Place.{Place, Takes, FaultAt, ending, after_move, after_comment, variation_of}
use Rattle.game_codec.specs.Moves.{SpellsMoves, Upto, here, past_move, past_nag, past_comment, past_variation, inside, BreaksMoves}
use Rattle.game_codec.specs.Nests.{with_before, IsCalm, IsKept, IsPast, token_of}
use Rattle.game_codec.specs.Following.{Spelled, HasFollowed}
use Rattle.game_codec.specs.Scanning.{tokens_then}
use Rattle.game_codec.specs.declared.fault.RecordWhat.{RecordWhat}
use Rattle.game_codec.specs.declared.fault.RecordWhat.TheVariants as what
use Rattle.game_codec.specs.declared.token.Token.{Token as Read}
use Rattle.game_codec.specs.declared.token.Token.TheVariants as read
use Rattle.game_codec.proofs.MovetextLaws.{ending-inner, ending-main}

-- Fewer bytes are left.
pub left-drop : (bytes rest : List ℕ) (used : ℕ) → length rest ≤ length bytes → used ≤ length rest → rest ≡ drop (length bytes - length rest) bytes
    → drop used rest ≡ drop (length bytes - length (drop used rest)) bytes
left-drop bytes rest used within fits left =
    let sums : length bytes - length rest + used ≡ length bytes - length (drop used rest) = omega (arith, length-drop used rest) in
    ap (drop used) left ∙ drop-drop used (length bytes - length rest) bytes ∙ ap (λ (n : ℕ). drop n bytes) sums

-- The items of a movetext with others behind them.
tokens-then : (s : Movetext) (more : List Token) → tokens_then s more ≡ tokens_then s [] ++ more
tokens-then end more = refl
tokens-then (move m s) more = ap (λ (ts : List Token). Play m ∷ ts) (tokens-then s more)
tokens-then (nag n s) more = ap (λ (ts : List Token). Nag n ∷ ts) (tokens-then s more)
tokens-then (comment text s) more = ap (λ (ts : List Token). Comment ∷ ts) (tokens-then s more)
tokens-then (variation inner s) more =
    let behind : tokens_then inner (Close ∷ tokens_then s more) ≡ tokens_then inner (Close ∷ tokens_then s []) ++ more =
    tokens-then inner (Close ∷ tokens_then s more)
    ∙ ap (λ (ts : List Token). tokens_then inner [] ++ Close ∷ ts) (tokens-then s more)
    ∙ sym (append_assoc (tokens_then inner []) (Close ∷ tokens_then s []) more)
    ∙ ap (λ (ts : List Token). ts ++ more) (sym (tokens-then inner (Close ∷ tokens_then s []))) in
    ap (λ (ts : List Token). Open ∷ ts) behind

-- The position before the last move counts where a variation begins alone, and no item that hangs on a move begins where
-- the bytes are calm.
takes-calm : (n : Numbered) (p : Place) (bytes : List ℕ) (t : Token) (later : List ℕ) → Takes (with_before n p) bytes t later → Takes p bytes t later
takes-calm n p bytes (Play m) later h = h
takes-calm n p bytes (Nag k) later h = h
takes-calm n p bytes Comment later h = h
takes-calm n p bytes Open later h = h
takes-calm n p bytes Close later h = h
takes-calm n p bytes End later h = h

pub fault-calm : (n : Numbered) (p : Place) (bytes : List ℕ) (w : RecordWhat) → FaultAt (with_before n p) bytes w → FaultAt p bytes w
fault-calm n p bytes what.Short h = h
fault-calm n p [] what.Mark h = h
fault-calm n p (byte ∷ later) what.Mark h = h
fault-calm n p bytes what.TwoComments h = h
fault-calm n p bytes what.Depth h = h
fault-calm n p bytes (what.Move fault) h = h
fault-calm n p bytes what.TagCode h = h
fault-calm n p bytes what.TagName h = h
fault-calm n p bytes what.TagValue h = h
fault-calm n p bytes what.Fen h = h
fault-calm n p bytes what.Extra h = h

pub no_nag : (bytes later : List ℕ) → IsCalm bytes → bytes ≡ 11 ∷ later → ⊥
no_nag bytes later calm is = subst IsCalm is calm (inl refl)

pub no_comment : (bytes later : List ℕ) → IsCalm bytes → bytes ≡ 12 ∷ later → ⊥
no_comment bytes later calm is = subst IsCalm is calm (inr (inl refl))

pub no_variation : (bytes later : List ℕ) → IsCalm bytes → bytes ≡ 13 ∷ later → ⊥
no_variation bytes later calm is = subst IsCalm is calm (inr (inr refl))

spells-calm : (n : Numbered) (p : Place) (s : Movetext) (bytes behind : List ℕ) → IsCalm bytes → SpellsMoves (with_before n p) s bytes behind → SpellsMoves p s bytes behind
spells-calm n p end bytes behind calm h = takes-calm n p bytes (ending p.depth) behind h
spells-calm n p (move m s) bytes behind calm h = h
spells-calm n p (nag k s) bytes behind calm h = absurd (no_nag bytes (k ∷ h.0) calm h.1.1)
spells-calm n p (comment text s) bytes behind calm h = absurd (no_comment bytes h.0 calm h.1.1)
spells-calm n p (variation inner s) bytes behind calm h = absurd (no_variation bytes h.0 calm h.1.2)

breaks-calm : (n : Numbered) (p : Place) (u : Upto) (bytes from : List ℕ) (w : RecordWhat) → IsCalm bytes → BreaksMoves (with_before n p) u bytes from w → BreaksMoves p u bytes from w
breaks-calm n p here bytes from w calm h = (h.0, fault-calm n p bytes w h.1)
breaks-calm n p (past_move m u) bytes from w calm h = h
breaks-calm n p (past_nag k u) bytes from w calm h = absurd (no_nag bytes (k ∷ h.0) calm h.1.1)
breaks-calm n p (past_comment u) bytes from w calm h = absurd (no_comment bytes h.0 calm h.1.1)
breaks-calm n p (past_variation inner u) bytes from w calm h = absurd (no_variation bytes h.0 calm h.1.2)
breaks-calm n p (inside u) bytes from w calm h = absurd (no_variation bytes h.0 calm h.1.2)

pub HasFollowed-none : (start : Place) (bytes : List ℕ) → HasFollowed start bytes start bytes []
HasFollowed-none start bytes = record {
  within = omega arith;
  left = let none : length bytes - length bytes ≡ 0 = omega arith in rw none refl;
  spells = λ more behind h. h;
  breaks = λ u from w h. (u, h);
}

pub HasFollowed-breaks : (start : Place) (bytes : List ℕ) (now : Place) (rest : List ℕ) (tokens : List Token) (w : RecordWhat)
    → HasFollowed start bytes now rest tokens → FaultAt now rest w → (v : Upto) × BreaksMoves start v bytes rest w
HasFollowed-breaks start bytes now rest tokens w has fault = has.breaks here rest w (refl, fault)

-- The code's place serves as well.
pub HasFollowed-kept : (start : Place) (bytes : List ℕ) (now code : Place) (rest : List ℕ) (tokens : List Token) → HasFollowed start bytes now rest tokens
    → IsKept now code rest → HasFollowed start bytes code rest tokens
HasFollowed-kept start bytes now code rest tokens has (inl same) = subst (λ (p : Place). HasFollowed start bytes p rest tokens) (sym same) has
HasFollowed-kept start bytes now code rest tokens has (inr (same, calm)) = record {
  within = has.within;
  left = has.left;
  spells = λ more behind h. has.spells more behind (record {
    movetext = h.movetext;
    spells = spells-calm code.before now h.movetext rest behind calm (subst (λ (p : Place). SpellsMoves p h.movetext rest behind) same h.spells);
    items = h.items;
  });
  breaks = λ u from w h. has.breaks u from w (breaks-calm code.before now u rest from w calm (subst (λ (p : Place). BreaksMoves p u rest from w) same h));
}

module _ (start : Place) (bytes : List ℕ) (now : Place) (rest : List ℕ) (tokens : List Token) (has : HasFollowed start bytes now rest tokens)
    (used : ℕ) (fits : used ≤ length rest) where
  -- One more item of the line.
  followed : (t : Token) (next : Place)
      → ((more : List Token) (behind : List ℕ) → Spelled next (drop used rest) behind more → Spelled now rest behind (t ∷ more))
      → ((u : Upto) (from : List ℕ) (w : RecordWhat) → BreaksMoves next u (drop used rest) from w → (v : Upto) × BreaksMoves now v rest from w)
      → HasFollowed start bytes next (drop used rest) (tokens ++ t ∷ [])
  followed t next spells breaks = record {
    within = omega (arith, has.within, length-drop used rest);
    left = left-drop bytes rest used has.within fits has.left;
    spells = λ more behind h.
        subst (λ (ts : List Token). Spelled start bytes behind ts) (sym (append_assoc tokens (t ∷ []) more)) (has.spells (t ∷ more) behind (spells more behind h));
    breaks = λ u from w h. let on = breaks u from w h in has.breaks on.0 from w on.1;
  }

  played : (m : Move) → Takes now rest (Play m) (drop used rest) → HasFollowed start bytes (after_move now m) (drop used rest) (tokens ++ Play m ∷ [])
  played m takes =
      followed (Play m) (after_move now m)
      (λ more behind h. record { movetext = move m h.movetext; spells = (drop used rest, takes, h.spells); items = ap (λ (ts : List Token). Play m ∷ ts) h.items })
      (λ u from w h. (past_move m u, (drop used rest, takes, h)))

  nagged : (k : ℕ) → Takes now rest (Nag k) (drop used rest) → HasFollowed start bytes now (drop used rest) (tokens ++ Nag k ∷ [])
  nagged k takes =
      followed (Nag k) now
      (λ more behind h. record { movetext = nag k h.movetext; spells = (drop used rest, takes, h.spells); items = ap (λ (ts : List Token). Nag k ∷ ts) h.items })
      (λ u from w h. (past_nag k u, (drop used rest, takes, h)))

  noted : Takes now rest Comment (drop used rest) → HasFollowed start bytes (after_comment now) (drop used rest) (tokens ++ Comment ∷ [])
  noted takes =
      followed Comment (after_comment now)
      (λ more behind h. record { movetext = comment [] h.movetext; spells = (drop used rest, takes, h.spells); items = ap (λ (ts : List Token). Comment ∷ ts) h.items })
      (λ u from w h. (past_comment u, (drop used rest, takes, h)))

  -- A variation inside the line, and its faults.
  varied : (more : ℕ) (s : Movetext) → Takes now rest Open (drop used rest) → more ≤ length (drop used rest)
      → SpellsMoves (variation_of now) s (drop used rest) (drop more (drop used rest))
      → HasFollowed start bytes now (drop more (drop used rest)) (tokens ++ Open ∷ (tokens_then s [] ++ Close ∷ []))
  varied more s takes fits' within = record {
    within = omega (arith, has.within, length-drop used rest, length-drop more (drop used rest));
    left = left-drop bytes (drop used rest) more (omega (arith, has.within, length-drop used rest)) fits' (left-drop bytes rest used has.within fits has.left);
    spells = λ others behind h.
        let items : tokens_then (variation s h.movetext) [] ≡ Open ∷ (tokens_then s [] ++ Close ∷ others) =
        ap (λ (ts : List Token). Open ∷ ts) (tokens-then s (Close ∷ tokens_then h.movetext []) ∙ ap (λ (ts : List Token). tokens_then s [] ++ Close ∷ ts) h.items) in
        let sum : tokens ++ Open ∷ (tokens_then s [] ++ Close ∷ others) ≡ (tokens ++ Open ∷ (tokens_then s [] ++ Close ∷ [])) ++ others =
        ap (λ (ts : List Token). tokens ++ Open ∷ ts) (sym (append_assoc (tokens_then s []) (Close ∷ []) others))
        ∙ sym (append_assoc tokens (Open ∷ (tokens_then s [] ++ Close ∷ [])) others) in
        subst (λ (ts : List Token). Spelled start bytes behind ts) sum
        (has.spells (Open ∷ (tokens_then s [] ++ Close ∷ others)) behind
        (record { movetext = variation s h.movetext; spells = (drop used rest, takes, (drop more (drop used rest), within, h.spells)); items = items }));
    breaks = λ u from w h. has.breaks (past_variation s u) from w (drop used rest, takes, (drop more (drop used rest), within, h));
  }

  in_variation : (u : Upto) (from : List ℕ) (w : RecordWhat) → Takes now rest Open (drop used rest)
      → BreaksMoves (variation_of now) u (drop used rest) from w → (v : Upto) × BreaksMoves start v bytes from w
  in_variation u from w takes breaks = has.breaks (inside u) from w (drop used rest, takes, breaks)

  -- The end of the line.
  ended : Takes now rest (ending now.depth) (drop used rest) → Spelled start bytes (drop used rest) tokens
  ended takes =
      subst (λ (ts : List Token). Spelled start bytes (drop used rest) ts) (append-nil tokens)
      (has.spells [] (drop used rest) (record { movetext = end; spells = takes; items = refl }))

-- What was read of a line, by how many bytes it takes.
abbrev pub LineSpelled : Place → List ℕ → ℕ → List Token → Type 0
LineSpelled p bytes used tokens = (s : Movetext) × (SpellsMoves p s bytes (drop used bytes) × (tokens_then s [] ≡ tokens))

-- The same by the item that was read.
module _ (start : Place) (bytes : List ℕ) (now : Place) (rest : List ℕ) (tokens : List Token) (has : HasFollowed start bytes now rest tokens)
    (used : ℕ) (fits : used ≤ length rest) (t : Read) (takes : Takes now rest (token_of t) (drop used rest))
    (after : Place) (past : IsPast now (token_of t) after (drop used rest)) (later : List ℕ) (later_is : later ≡ drop used rest) where
  taken : (u : Read) → t ≡ u → Takes now rest (token_of u) (drop used rest)
  taken u is = subst (λ (v : Read). Takes now rest (token_of v) (drop used rest)) is takes

  passed : (u : Read) → t ≡ u → IsPast now (token_of u) after (drop used rest)
  passed u is = subst (λ (v : Read). IsPast now (token_of v) after (drop used rest)) is past

  pub by_move : (m : Move) → t ≡ read.Play m → HasFollowed start bytes after later (tokens ++ Play m ∷ [])
  by_move m is =
      rw later_is
      (HasFollowed-kept start bytes (after_move now m) after (drop used rest) (tokens ++ Play m ∷ [])
      (played start bytes now rest tokens has used fits m (taken (read.Play m) is)) (passed (read.Play m) is))

  pub by_nag : (n : ℕ) → t ≡ read.Nag n → HasFollowed start bytes after later (tokens ++ Nag n ∷ [])
  by_nag n is = rw (passed (read.Nag n) is, later_is) (nagged start bytes now rest tokens has used fits n (taken (read.Nag n) is))

  pub by_comment : t ≡ read.Comment → HasFollowed start bytes after later (tokens ++ Comment ∷ [])
  by_comment is = rw (passed read.Comment is, later_is) (noted start bytes now rest tokens has used fits (taken read.Comment is))

  pub by_variation : t ≡ read.Open → (p : Place) → p ≡ variation_of after → (more : ℕ) → more ≤ length later
      → (last : List ℕ) → last ≡ drop more later → (s : Movetext) → SpellsMoves p s later (drop more later)
      → HasFollowed start bytes after last (tokens ++ Open ∷ (tokens_then s [] ++ Close ∷ []))
  by_variation is p p_is more fits' last last_is s line =
      let inner : p ≡ variation_of now = p_is ∙ ap variation_of (passed read.Open is) in
      let spells : SpellsMoves (variation_of now) s (drop used rest) (drop more (drop used rest)) =
      rw (← later_is) (subst (λ (q : Place). SpellsMoves q s later (drop more later)) inner line) in
      let size : length later ≡ length (drop used rest) = ap (λ (l : List ℕ). length l) later_is in
      rw (passed read.Open is, last_is, later_is)
      (varied start bytes now rest tokens has used fits more s (taken read.Open is) (omega (arith, fits', size)) spells)

  pub by_fault : t ≡ read.Open → (p : Place) → p ≡ variation_of after → (u : Upto) (from : List ℕ) (w : RecordWhat)
      → BreaksMoves p u later from w → (v : Upto) × BreaksMoves start v bytes from w
  by_fault is p p_is u from w breaks =
      let inner : p ≡ variation_of now = p_is ∙ ap variation_of (passed read.Open is) in
      let inside : BreaksMoves (variation_of now) u (drop used rest) from w =
      rw (← later_is) (subst (λ (q : Place). BreaksMoves q u later from w) inner breaks) in
      in_variation start bytes now rest tokens has used fits u from w (taken read.Open is) inside

  left_is : later ≡ drop (length bytes - length later) bytes
  left_is = rw later_is (left-drop bytes rest used has.within fits has.left)

  by_ending : Takes now rest (ending now.depth) (drop used rest) → LineSpelled start bytes (length bytes - length later) tokens
  by_ending takes =
      let line = ended start bytes now rest tokens has used fits takes in
      (line.movetext, (subst (λ (l : List ℕ). SpellsMoves start line.movetext bytes l) (sym later_is ∙ left_is) line.spells, line.items))

  pub by_close : t ≡ read.Close → LineSpelled start bytes (length bytes - length later) tokens
  by_close is =
      let closes = taken read.Close is in
      by_ending (subst (λ (t : Token). Takes now rest t (drop used rest)) (sym (ending-inner now.depth closes.0)) closes)

  pub by_end : t ≡ read.End → LineSpelled start bytes (length bytes - length later) tokens
  by_end is =
      let ends = taken read.End is in
      by_ending (subst (λ (t : Token). Takes now rest t (drop used rest)) (sym (ending-main now.depth ends.0)) ends)
