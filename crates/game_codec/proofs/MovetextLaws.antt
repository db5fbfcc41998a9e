-- The items one behind the other are those of a movetext, and a movetext's are read so.
use Rattle.std.proofs.Common.{◌≡◌, ℕ, zero, suc, ◌+◌, ◌<◌, List, [], ◌∷◌, ◌++◌, Ok, Err, length, refl, sym, ap, subst, ◌∙◌, add-one, append_assoc, append-nil, length-append, arith}
use Rattle.game_tree.specs.Item.{Item}
use Rattle.game_tree.specs.Item as item
use Rattle.game_tree.specs.Movetext.{Movetext, end, move, nag, comment, variation, items_of}
use Rattle.move_codec.specs.Numbers.{Numbered}
use Rattle.game_codec.specs.Place.{Place, Takes, ending, beginning, after_move, after_comment, variation_of}
use Rattle.game_codec.specs.Moves.{SpellsMoves, Upto, here, past_move, past_nag, past_comment, past_variation, inside, BreaksMoves}
use Rattle.game_codec.specs.Texts.{texts_of}
use Rattle.game_codec.specs.Scanning.{Nest, nest_of, Stop, Scans, comments_in, dealt, tokens_then}
use Rattle.game_codec.specs.Token.{Token, Play, Nag, Comment, Open, Close, End}
use Rattle.game_codec.specs.declared.fault.RecordWhat.{RecordWhat}

abbrev nest : Place → List Place → Nest
nest p outer = record { current = p; outer = outer }

-- What ends a line inside another.
ending-more : (d : ℕ) → ending (d + 1) ≡ Close
ending-more d = rw add-one refl

pub ending-inner : (d : ℕ) → 0 < d → ending d ≡ Close
ending-inner zero h = absurd (omega (arith, h))
ending-inner (suc d) h = refl

pub ending-main : (d : ℕ) → d ≡ 0 → ending d ≡ End
ending-main d h = ap ending h

-- From a movetext to the items

Scans-then : (p : Place) (outer : List Place) (s : Movetext) (bytes rest : List ℕ) (more : List Token) (halt : Stop) → SpellsMoves p s bytes rest → ((q : Place) (last : List ℕ) → Takes q last (ending p.depth) rest → Scans (nest q outer) last more halt) → Scans (nest p outer) bytes (tokens_then s more) halt
Scans-then p outer end bytes rest more halt spells behind = behind p bytes spells
Scans-then p outer (move m s) bytes rest more halt spells behind =
    (tt, (spells.0, spells.1, Scans-then (after_move p m) outer s spells.0 rest more halt spells.2 behind))
Scans-then p outer (nag n s) bytes rest more halt spells behind =
    (tt, (spells.0, spells.1, Scans-then p outer s spells.0 rest more halt spells.2 behind))
Scans-then p outer (comment text s) bytes rest more halt spells behind =
    (tt, (spells.0, spells.1, Scans-then (after_comment p) outer s spells.0 rest more halt spells.2 behind))
Scans-then p outer (variation inner s) bytes rest more halt spells behind =
    let later = spells.2.0 in
    let closed : (q : Place) (last : List ℕ) → Takes q last (ending (p.depth + 1)) later → Scans (nest q (p ∷ outer)) last (Close ∷ tokens_then s more) halt =
    λ q last takes. (tt, (later, subst (λ (t : Token). Takes q last t later) (ending-more p.depth) takes, Scans-then p outer s later rest more halt spells.2.2 behind))
    in
    (tt, (spells.0, spells.1, Scans-then (variation_of p) (p ∷ outer) inner spells.0 later (Close ∷ tokens_then s more) halt spells.2.1 closed))

dealt-then : (s : Movetext) (more : List Token) (texts : List (List ℕ)) → dealt (tokens_then s more) (texts_of s ++ texts) ≡ items_of s ++ dealt more texts
dealt-then end more texts = refl
dealt-then (move m s) more texts = ap (λ (is : List Item). item.move m ∷ is) (dealt-then s more texts)
dealt-then (nag n s) more texts = ap (λ (is : List Item). item.nag n ∷ is) (dealt-then s more texts)
dealt-then (comment text s) more texts = ap (λ (is : List Item). item.comment text ∷ is) (dealt-then s more texts)
dealt-then (variation inner s) more texts =
    ap (λ (is : List Item). item.opens ∷ is)
    (ap (dealt (tokens_then inner (Close ∷ tokens_then s more))) (append_assoc (texts_of inner) (texts_of s) texts)
    ∙ dealt-then inner (Close ∷ tokens_then s more) (texts_of s ++ texts)
    ∙ ap (λ (is : List Item). items_of inner ++ item.closes ∷ is) (dealt-then s more texts)
    ∙ sym (append_assoc (items_of inner) (item.closes ∷ items_of s) (dealt more texts)))

pub comments-then : (s : Movetext) (more : List Token) → comments_in (tokens_then s more) ≡ length (texts_of s) + comments_in more
comments-then end more = omega arith
comments-then (move m s) more = comments-then s more
comments-then (nag n s) more = comments-then s more
comments-then (comment text s) more = omega (arith, comments-then s more)
comments-then (variation inner s) more =
    omega (arith, comments-then inner (Close ∷ tokens_then s more), comments-then s more, length-append (texts_of inner) (texts_of s))

pub spelled-scans : (start : Numbered) (s : Movetext) (bytes rest : List ℕ) → SpellsMoves (beginning 0 start) s bytes rest → Scans (nest_of start) bytes (tokens_then s []) (Ok rest)
spelled-scans start s bytes rest spells = Scans-then (beginning 0 start) [] s bytes rest [] (Ok rest) spells (λ q last takes. takes)

pub movetext-scans : (start : Numbered) (s : Movetext) (bytes rest : List ℕ) → SpellsMoves (beginning 0 start) s bytes rest → (tokens : List Token) × (Scans (nest_of start) bytes tokens (Ok rest) × ((dealt tokens (texts_of s) ≡ items_of s) × (comments_in tokens ≡ length (texts_of s))))
movetext-scans start s bytes rest spells =
    let items : dealt (tokens_then s []) (texts_of s) ≡ items_of s =
    ap (dealt (tokens_then s [])) (sym (append-nil (texts_of s))) ∙ dealt-then s [] [] ∙ append-nil (items_of s)
    in
    let count : comments_in (tokens_then s []) ≡ length (texts_of s) = omega (arith, comments-then s []) in
    (tokens_then s [], (spelled-scans start s bytes rest spells, (items, count)))

pub breaks-scans : (start : Numbered) (u : Upto) (bytes rest : List ℕ) (w : RecordWhat) → BreaksMoves (beginning 0 start) u bytes rest w → (tokens : List Token) × Scans (nest_of start) bytes tokens (Err (rest, w))
breaks-scans start u bytes rest w breaks = scanned (beginning 0 start) [] u bytes breaks
  where
    scanned : (p : Place) (outer : List Place) (u : Upto) (bytes : List ℕ) → BreaksMoves p u bytes rest w → (tokens : List Token) × Scans (nest p outer) bytes tokens (Err (rest, w))
    scanned p outer here bytes breaks = ([], breaks)
    scanned p outer (past_move m u) bytes breaks =
        let on = scanned (after_move p m) outer u breaks.0 breaks.2 in (Play m ∷ on.0, (tt, (breaks.0, breaks.1, on.1)))
    scanned p outer (past_nag n u) bytes breaks =
        let on = scanned p outer u breaks.0 breaks.2 in (Nag n ∷ on.0, (tt, (breaks.0, breaks.1, on.1)))
    scanned p outer (past_comment u) bytes breaks =
        let on = scanned (after_comment p) outer u breaks.0 breaks.2 in (Comment ∷ on.0, (tt, (breaks.0, breaks.1, on.1)))
    scanned p outer (past_variation inner u) bytes breaks =
        let later = breaks.2.0 in
        let on = scanned p outer u later breaks.2.2 in
        let closed : (q : Place) (last : List ℕ) → Takes q last (ending (p.depth + 1)) later → Scans (nest q (p ∷ outer)) last (Close ∷ on.0) (Err (rest, w)) =
        λ q last takes. (tt, (later, subst (λ (t : Token). Takes q last t later) (ending-more p.depth) takes, on.1))
        in
        (Open ∷ tokens_then inner (Close ∷ on.0), (tt, (breaks.0, breaks.1, Scans-then (variation_of p) (p ∷ outer) inner breaks.0 later (Close ∷ on.0) (Err (rest, w)) breaks.2.1 closed)))
    scanned p outer (inside u) bytes breaks =
        let on = scanned (variation_of p) (p ∷ outer) u breaks.0 breaks.2 in (Open ∷ on.0, (tt, (breaks.0, breaks.1, on.1)))

-- From the items to a movetext

-- The lines that are open lie one inside the other.
abbrev AreStacked : ℕ → List Place → Type 0
AreStacked depth [] = depth ≡ 0
AreStacked depth (q ∷ outer) = (depth ≡ q.depth + 1) × AreStacked q.depth outer

-- From a place on the bytes begin with what is left of the innermost line, and then with what is left of each line round it.
abbrev SpellAll : Place → List Place → Movetext → List Movetext → List ℕ → List ℕ → Type 0
SpellAll p [] s [] bytes rest = SpellsMoves p s bytes rest
SpellAll p [] s (t ∷ ss) bytes rest = ⊥
SpellAll p (q ∷ outer) s [] bytes rest = ⊥
SpellAll p (q ∷ outer) s (t ∷ ss) bytes rest = (middle : List ℕ) × SpellsMoves p s bytes middle × SpellAll q outer t ss middle rest

abbrev items_round : List Movetext → List Item
items_round [] = []
items_round (s ∷ ss) = item.closes ∷ items_of s ++ items_round ss

abbrev texts_round : List Movetext → List (List ℕ)
texts_round [] = []
texts_round (s ∷ ss) = texts_of s ++ texts_round ss

SpellAll-begun : (p p' : Place) (s s' : Movetext) (bytes later : List ℕ) → ((rest : List ℕ) → SpellsMoves p' s' later rest → SpellsMoves p s bytes rest) → (outer : List Place) (ss : List Movetext) (rest : List ℕ) → SpellAll p' outer s' ss later rest → SpellAll p outer s ss bytes rest
SpellAll-begun p p' s s' bytes later begun [] [] rest all = begun rest all
SpellAll-begun p p' s s' bytes later begun [] (t ∷ ss) rest all = absurd all
SpellAll-begun p p' s s' bytes later begun (q ∷ outer) [] rest all = absurd all
SpellAll-begun p p' s s' bytes later begun (q ∷ outer) (t ∷ ss) rest all = (all.0, begun all.0 all.1, all.2)

-- The items that are left are those of such movetexts.
record Regrouped (p : Place) (outer : List Place) (bytes : List ℕ) (tokens : List Token) (texts : List (List ℕ)) (rest : List ℕ) : Type 0 where
  movetext : Movetext
  round : List Movetext
  spelled : SpellAll p outer movetext round bytes rest
  items : items_of movetext ++ items_round round ≡ dealt tokens texts
  count : length (texts_of movetext ++ texts_round round) ≡ comments_in tokens
  dealt_out : length texts ≡ comments_in tokens → texts_of movetext ++ texts_round round ≡ texts

Regrouped-open : (p : Place) (outer : List Place) (bytes later : List ℕ) (tokens : List Token) (texts : List (List ℕ)) (rest : List ℕ) → Takes p bytes Open later → (s : Movetext) (ss : List Movetext) → SpellAll (variation_of p) (p ∷ outer) s ss later rest → items_of s ++ items_round ss ≡ dealt tokens texts → length (texts_of s ++ texts_round ss) ≡ comments_in tokens → (length texts ≡ comments_in tokens → texts_of s ++ texts_round ss ≡ texts) → Regrouped p outer bytes (Open ∷ tokens) texts rest
Regrouped-open p outer bytes later tokens texts rest takes s [] all items count dealt_out = absurd all
Regrouped-open p outer bytes later tokens texts rest takes s (t ∷ ss) all items count dealt_out =
    let joint = append_assoc (texts_of s) (texts_of t) (texts_round ss) in
    record {
      movetext = variation s t;
      round = ss;
      spelled = SpellAll-begun p p (variation s t) t bytes all.0 (λ last spells. (later, takes, (all.0, all.1, spells))) outer ss rest all.2;
      items = ap (λ (is : List Item). item.opens ∷ is) (append_assoc (items_of s) (item.closes ∷ items_of t) (items_round ss) ∙ items);
      count = ap length joint ∙ count;
      dealt_out = λ e. joint ∙ dealt_out e;
    }

Scans-Regrouped : (p : Place) (outer : List Place) (bytes : List ℕ) (tokens : List Token) (texts : List (List ℕ)) (rest : List ℕ) → AreStacked p.depth outer → Scans (nest p outer) bytes tokens (Ok rest) → Regrouped p outer bytes tokens texts rest
Scans-Regrouped p [] bytes [] texts rest stacked scans =
    record {
      movetext = end;
      round = [];
      spelled = subst (λ (t : Token). Takes p bytes t rest) (sym (ending-main p.depth stacked)) scans;
      items = refl;
      count = refl;
      dealt_out = λ e. sym (none_of texts e);
    }
  where
    none_of : (ts : List (List ℕ)) → length ts ≡ 0 → ts ≡ []
    none_of [] e = refl
    none_of (t ∷ ts) e = absurd (omega (arith, e))
Scans-Regrouped p (q ∷ outer) bytes [] texts rest stacked scans = absurd (omega (arith, stacked.0, scans.0))
Scans-Regrouped p outer bytes (Play m ∷ tokens) texts rest stacked scans =
    let on = Scans-Regrouped (after_move p m) outer scans.1.0 tokens texts rest stacked scans.1.2 in
    record {
      movetext = move m on.movetext;
      round = on.round;
      spelled = SpellAll-begun p (after_move p m) (move m on.movetext) on.movetext bytes scans.1.0 (λ last spells. (scans.1.0, scans.1.1, spells)) outer on.round rest on.spelled;
      items = ap (λ (is : List Item). item.move m ∷ is) on.items;
      count = on.count;
      dealt_out = on.dealt_out;
    }
Scans-Regrouped p outer bytes (Nag n ∷ tokens) texts rest stacked scans =
    let on = Scans-Regrouped p outer scans.1.0 tokens texts rest stacked scans.1.2 in
    record {
      movetext = nag n on.movetext;
      round = on.round;
      spelled = SpellAll-begun p p (nag n on.movetext) on.movetext bytes scans.1.0 (λ last spells. (scans.1.0, scans.1.1, spells)) outer on.round rest on.spelled;
      items = ap (λ (is : List Item). item.nag n ∷ is) on.items;
      count = on.count;
      dealt_out = on.dealt_out;
    }
Scans-Regrouped p outer bytes (Comment ∷ tokens) [] rest stacked scans =
    let on = Scans-Regrouped (after_comment p) outer scans.1.0 tokens [] rest stacked scans.1.2 in
    record {
      movetext = comment [] on.movetext;
      round = on.round;
      spelled = SpellAll-begun p (after_comment p) (comment [] on.movetext) on.movetext bytes scans.1.0 (λ last spells. (scans.1.0, scans.1.1, spells)) outer on.round rest on.spelled;
      items = ap (λ (is : List Item). item.comment [] ∷ is) on.items;
      count = ap suc on.count;
      dealt_out = λ e. absurd (omega (arith, e));
    }
Scans-Regrouped p outer bytes (Comment ∷ tokens) (text ∷ texts) rest stacked scans =
    let on = Scans-Regrouped (after_comment p) outer scans.1.0 tokens texts rest stacked scans.1.2 in
    record {
      movetext = comment text on.movetext;
      round = on.round;
      spelled = SpellAll-begun p (after_comment p) (comment text on.movetext) on.movetext bytes scans.1.0 (λ last spells. (scans.1.0, scans.1.1, spells)) outer on.round rest on.spelled;
      items = ap (λ (is : List Item). item.comment text ∷ is) on.items;
      count = ap suc on.count;
      dealt_out = λ e. ap (λ (ts : List (List ℕ)). text ∷ ts) (on.dealt_out (omega (arith, e)));
    }
Scans-Regrouped p outer bytes (Open ∷ tokens) texts rest stacked scans =
    let on = Scans-Regrouped (variation_of p) (p ∷ outer) scans.1.0 tokens texts rest (refl, stacked) scans.1.2 in
    Regrouped-open p outer bytes scans.1.0 tokens texts rest scans.1.1 on.movetext on.round on.spelled on.items on.count on.dealt_out
Scans-Regrouped p [] bytes (Close ∷ tokens) texts rest stacked scans = absurd (omega (arith, stacked, scans.1.1.0))
Scans-Regrouped p (q ∷ outer) bytes (Close ∷ tokens) texts rest stacked scans =
    let on = Scans-Regrouped q outer scans.1.0 tokens texts rest stacked.1 scans.1.2 in
    record {
      movetext = end;
      round = on.movetext ∷ on.round;
      spelled = (scans.1.0, subst (λ (t : Token). Takes p bytes t scans.1.0) (sym (ending-inner p.depth scans.1.1.0)) scans.1.1, on.spelled);
      items = ap (λ (is : List Item). item.closes ∷ is) on.items;
      count = on.count;
      dealt_out = on.dealt_out;
    }
Scans-Regrouped p outer bytes (End ∷ tokens) texts rest stacked scans = absurd scans.0

pub scans-movetext : (start : Numbered) (tokens : List Token) (bytes rest : List ℕ) → Scans (nest_of start) bytes tokens (Ok rest) → (texts : List (List ℕ)) → (s : Movetext) × (SpellsMoves (beginning 0 start) s bytes rest × ((items_of s ≡ dealt tokens texts) × ((length (texts_of s) ≡ comments_in tokens) × (length texts ≡ comments_in tokens → texts_of s ≡ texts))))
scans-movetext start tokens bytes rest scans texts =
    let found = Scans-Regrouped (beginning 0 start) [] bytes tokens texts rest refl scans in
    alone found.movetext found.round found.spelled found.items found.count found.dealt_out
  where
    alone : (s : Movetext) (ss : List Movetext) → SpellAll (beginning 0 start) [] s ss bytes rest → items_of s ++ items_round ss ≡ dealt tokens texts → length (texts_of s ++ texts_round ss) ≡ comments_in tokens → (length texts ≡ comments_in tokens → texts_of s ++ texts_round ss ≡ texts) → (s : Movetext) × (SpellsMoves (beginning 0 start) s bytes rest × ((items_of s ≡ dealt tokens texts) × ((length (texts_of s) ≡ comments_in tokens) × (length texts ≡ comments_in tokens → texts_of s ≡ texts))))
    alone s [] spelled items count dealt_out =
        let all = append-nil (texts_of s) in
        (s, (spelled, (sym (append-nil (items_of s)) ∙ items, (ap length (sym all) ∙ count, λ e. sym all ∙ dealt_out e))))
    alone s (t ∷ ss) spelled items count dealt_out = absurd spelled
