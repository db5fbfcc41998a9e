-- What each item does to the open lines.
use Rattle.std.proofs.Common.{◌≡◌, ℕ, suc, ◌+◌, ◌<◌, ◌≤◌, ◌==◌, List, [], ◌∷◌, ◌++◌, Some, None, Ok, Err, length, drop, refl, sym, ap, subst, ◌∙◌, add-one, inl, inr, length-drop, arith}
use Rattle.std.specs.Prelude.{reverse}
use Rattle.std.proofs.lemmas.List.{reverse-append}
use Rattle.cell_core.specs.declared.step.Move.{Move}
use Rattle.move_codec.specs.Numbers.{Numbered}
use Rattle.game_codec.specs.Blank.{kept_in}
use Rattle.game_codec.specs.Nests.{IsCalm, IsKept, IsPast, token_of, with_before}
use Rattle.game_codec.specs.Open.{AreLeft, AreSound, Follows, HasGone, HasLeft, HasMet, IsKeptIn, IsSound, Opened, all_lines, nest_at, opened, opened_after, opened_out, varied, visit_now, visit_of, visits_in, with_before_in}
use Rattle.game_codec.specs.Place.{Place, FaultAt, Takes, after_move}
use Rattle.game_codec.specs.Scanning.{IsInner, Scans, Stop, nest_after}
use Rattle.game_codec.specs.Token.{Token, Play, Nag, Comment, Open, Close, End}
use Rattle.game_codec.specs.Visits.{Visit}
use Rattle.game_codec.specs.declared.all_walk.Lines.{Lines}
use Rattle.game_codec.specs.declared.all_walk.OpenLine.{OpenLine}
use Rattle.game_codec.specs.declared.breach.Breach.{Breach}
use Rattle.game_codec.specs.declared.reading.Item.TheVariants as item
use Rattle.game_codec.specs.declared.token.Token.{Token as Read}
use Rattle.game_codec.specs.declared.token.Token.TheVariants as read
use Rattle.game_codec.proofs.ItemLaws.{Takes-one}
use Rattle.game_codec.proofs.LineLaws.{fault-calm, no_comment, no_nag, no_variation}

abbrev at : OpenLine → List OpenLine → Opened
at o outer = record { line = o; outer = outer }

-- The position before the last move counts where a variation begins alone, and none begins where the bytes are calm
module _ (n : Numbered) where
  scans-calm : (o : OpenLine) (outer : List OpenLine) (bytes : List ℕ) (ts : List Token) (stop : Stop) → o.place.depth ≡ length outer → IsCalm bytes
      → Scans (nest_at (with_before_in n (at o outer))) bytes ts stop → Scans (nest_at (at o outer)) bytes ts stop
  scans-calm o outer bytes [] (Ok rest) deep calm h = h
  scans-calm o outer bytes [] (Err fault) deep calm h = (h.0, fault-calm n o.place bytes fault.1 h.1)
  scans-calm o outer bytes (Play m ∷ ts) stop deep calm h = h
  scans-calm o outer bytes (Nag k ∷ ts) stop deep calm h = absurd (no_nag bytes (k ∷ h.1.0) calm h.1.1.1)
  scans-calm o outer bytes (Comment ∷ ts) stop deep calm h = absurd (no_comment bytes h.1.0 calm h.1.1.1)
  scans-calm o outer bytes (Open ∷ ts) stop deep calm h = absurd (no_variation bytes h.1.0 calm h.1.1.2)
  scans-calm o [] bytes (Close ∷ ts) stop deep calm h = absurd (omega (arith, deep, h.1.1.0))
  scans-calm o (q ∷ outer) bytes (Close ∷ ts) stop deep calm h = h
  scans-calm o outer bytes (End ∷ ts) stop deep calm h = absurd h.0

  visits-calm : (o : OpenLine) (outer : List OpenLine) (bytes : List ℕ) (ts : List Token) (stop : Stop) → o.place.depth ≡ length outer → IsCalm bytes
      → Scans (nest_at (at o outer)) bytes ts stop → visits_in (with_before_in n (at o outer)) ts ≡ visits_in (at o outer) ts
  visits-calm o outer bytes [] stop deep calm h = refl
  visits-calm o outer bytes (Play m ∷ ts) stop deep calm h = refl
  visits-calm o outer bytes (Nag k ∷ ts) stop deep calm h = absurd (no_nag bytes (k ∷ h.1.0) calm h.1.1.1)
  visits-calm o outer bytes (Comment ∷ ts) stop deep calm h = absurd (no_comment bytes h.1.0 calm h.1.1.1)
  visits-calm o outer bytes (Open ∷ ts) stop deep calm h = absurd (no_variation bytes h.1.0 calm h.1.1.2)
  visits-calm o [] bytes (Close ∷ ts) stop deep calm h = absurd (omega (arith, deep, h.1.1.0))
  visits-calm o (q ∷ outer) bytes (Close ∷ ts) stop deep calm h = refl
  visits-calm o outer bytes (End ∷ ts) stop deep calm h = absurd h.0

kept-back : (a code : Opened) (bytes : List ℕ) → IsKeptIn a code bytes → IsKeptIn code a bytes
kept-back a code bytes (inl same) = inl (sym same)
kept-back a code bytes (inr (same, calm)) = inr (ap (with_before_in a.line.place.before) (sym same), calm)

scans-kept : (a code : Opened) (bytes : List ℕ) (ts : List Token) (stop : Stop) → a.line.place.depth ≡ length a.outer → IsKeptIn a code bytes
    → Scans (nest_at code) bytes ts stop → Scans (nest_at a) bytes ts stop
scans-kept a code bytes ts stop deep (inl same) h = subst (λ (x : Opened). Scans (nest_at x) bytes ts stop) same h
scans-kept a code bytes ts stop deep (inr (same, calm)) h =
    scans-calm code.line.place.before a.line a.outer bytes ts stop deep calm (subst (λ (x : Opened). Scans (nest_at x) bytes ts stop) same h)

visits-kept : (a code : Opened) (bytes : List ℕ) (ts : List Token) (stop : Stop) → a.line.place.depth ≡ length a.outer → IsKeptIn a code bytes → Scans (nest_at a) bytes ts stop
    → visits_in a ts ≡ visits_in code ts
visits-kept a code bytes ts stop deep (inl same) h = ap (λ (x : Opened). visits_in x ts) (sym same)
visits-kept a code bytes ts stop deep (inr (same, calm)) h =
    sym (ap (λ (x : Opened). visits_in x ts) same ∙ visits-calm code.line.place.before a.line a.outer bytes ts stop deep calm h)

sound-kept : (more : ℕ) (a code : Opened) (bytes : List ℕ) → IsKeptIn a code bytes → AreSound more (all_lines a) → AreSound more (all_lines code)
sound-kept more a code bytes (inl same) sound = subst (λ (x : Opened). AreSound more (all_lines x)) (sym same) sound
sound-kept more a code bytes (inr (same, calm)) sound = subst (λ (x : Opened). AreSound more (all_lines x)) (sym same) sound

-- One item of the open lines

sound-less : (x y : ℕ) (lines : List OpenLine) → y ≤ x → AreSound x lines → AreSound y lines
sound-less x y [] less sound = tt
sound-less x y (o ∷ lines) less sound = (sound.0, (omega (arith, sound.1.0, less), sound-less x y lines less sound.1.1))

sound-after : (o : OpenLine) (outer : List OpenLine) (t : Token) (bytes later : List ℕ) (x y : ℕ) → y < x → Takes o.place bytes t later → AreSound x (o ∷ outer)
    → AreSound y (all_lines (opened_after (at o outer) t))
sound-after o outer (Play m) bytes later x y less takes sound = (sound.0, (omega (arith, sound.1.0, less), sound-less x y outer (omega (arith, less)) sound.1.1))
sound-after o outer (Nag n) bytes later x y less takes sound = sound-less x y (o ∷ outer) (omega (arith, less)) sound
sound-after o outer Comment bytes later x y less takes sound = (sound.0, (omega (arith, sound.1.0, less), sound-less x y outer (omega (arith, less)) sound.1.1))
sound-after o outer Open bytes later x y less takes sound =
    (omega (arith, sound.0), (omega (arith, sound.1.0, less), sound-less x y (o ∷ outer) (omega (arith, less)) sound))
sound-after o [] Close bytes later x y less takes sound = absurd (omega (arith, sound.0, takes.0))
sound-after o (q ∷ outer) Close bytes later x y less takes sound = sound-less x y (q ∷ outer) (omega (arith, less)) sound.1.1
sound-after o outer End bytes later x y less takes sound = sound-less x y (o ∷ outer) (omega (arith, less)) sound

nest-after : (o : OpenLine) (outer : List OpenLine) (t : Token) → nest_after (nest_at (at o outer)) t ≡ nest_at (opened_after (at o outer) t)
nest-after o outer (Play m) = refl
nest-after o outer (Nag n) = refl
nest-after o outer Comment = refl
nest-after o outer Open = refl
nest-after o [] Close = refl
nest-after o (q ∷ outer) Close = refl
nest-after o outer End = refl

module _ (a b : Opened) (bytes later : List ℕ) (t : Token) (inner : IsInner t) (takes : Takes a.line.place bytes t later) (kept : IsKeptIn (opened_after a t) b later)
    (less : length later < length bytes) (sound : AreSound (length bytes) (all_lines a)) where
  sound-here : AreSound (length later) (all_lines (opened_after a t))
  sound-here = sound-after a.line a.outer t bytes later (length bytes) (length later) less takes sound

  sound-on : AreSound (length later) (all_lines b)
  sound-on = sound-kept (length later) (opened_after a t) b later kept sound-here

  scans-back : (ts : List Token) (stop : Stop) → Scans (nest_at b) later ts stop → Scans (nest_at a) bytes (t ∷ ts) stop
  scans-back ts stop h =
      let there = scans-kept (opened_after a t) b later ts stop sound-here.0 kept h in
      (inner, (later, takes, subst (λ n. Scans n later ts stop) (sym (nest-after a.line a.outer t)) there))

  left-by : (ts : List Token) (behind : List ℕ) (left : List Visit) → Scans (nest_at a) bytes ts (Ok behind) → left ≡ visits_in a ts
      → (more : List Visit) × ((left ≡ visit_of a t ++ more) × AreLeft b later more)
  left-by [] behind left h is = absurd (subst IsInner (Takes-one a.line.place bytes t End later behind takes h).0 inner)
  left-by (u ∷ us) behind left h is =
      let same = Takes-one a.line.place bytes u t h.1.0 later h.1.1 takes in
      let moved : Scans (nest_after (nest_at a) t) later us (Ok behind) = rw (← same.0, ← same.1) h.1.2 in
      let there : Scans (nest_at (opened_after a t)) later us (Ok behind) = subst (λ n. Scans n later us (Ok behind)) (nest-after a.line a.outer t) moved in
      let here : left ≡ visit_of a t ++ visits_in (opened_after a t) us = is ∙ ap (λ (x : Token). visit_of a x ++ visits_in (opened_after a x) us) same.0 in (
        visits_in b us,
        (
          here ∙ ap (λ (v : List Visit). visit_of a t ++ v) (visits-kept (opened_after a t) b later us (Ok behind) sound-here.0 kept there),
          record {
            tokens = us;
            behind = behind;
            scans = scans-kept b (opened_after a t) later us (Ok behind) sound-on.0 (kept-back (opened_after a t) b later kept) there;
            left_are = refl;
          },
        ),
      )

  left-on : (left : List Visit) → AreLeft a bytes left → (more : List Visit) × ((left ≡ visit_of a t ++ more) × AreLeft b later more)
  left-on left has = left-by has.tokens has.behind left has.scans has.left_are

-- The same as the code goes

module _ (old new : Lines) (sound : IsSound old) (t : Token) (inner : IsInner t) (takes : Takes old.line.place old.ahead.now t new.ahead.now)
    (kept : IsKeptIn (opened_after (opened old) t) (opened new) new.ahead.now) (less : length new.ahead.now < length old.ahead.now) where
  passed : Follows old new
  passed = record {
    within = omega (arith, less);
    sound = sound-on (opened old) (opened new) old.ahead.now new.ahead.now t inner takes kept less sound;
    on = λ ts stop h. (t ∷ ts, scans-back (opened old) (opened new) old.ahead.now new.ahead.now t inner takes kept less sound ts stop h);
  }

  leaving : (left : List Visit) → HasLeft old left → (more : List Visit) × ((left ≡ visit_of (opened old) t ++ more) × HasLeft new more)
  leaving left has = left-on (opened old) (opened new) old.ahead.now new.ahead.now t inner takes kept less sound left has

  mark-met : visit_of (opened old) t ≡ [] → HasMet old (Ok item.Mark) new
  mark-met none = record {
    follows = passed;
    leaves = (
      less,
      λ left has.
          let on = leaving left has in
          let same : left ≡ on.0 = on.1.0 ∙ ap (λ (v : List Visit). v ++ on.0) none in
          subst (HasLeft new) (sym same) on.1.1,
    );
    fault = tt;
  }

  move-met : (m : Move) → visit_of (opened old) t ≡ visit_now new m ∷ [] → HasMet old (Ok (item.Play m)) new
  move-met m visit = record {
    follows = passed;
    leaves = (
      less,
      λ left has. let on = leaving left has in (on.0, (on.1.0 ∙ ap (λ (v : List Visit). v ++ on.0) visit, on.1.1)),
    );
    fault = tt;
  }

-- Behind a move.
visit-now : (old new : Lines) (m : Move) (n : Numbered) → new.line.place ≡ with_before n (after_move old.line.place m) → new.line.ply ≡ suc old.line.ply
    → visit_of (opened old) (Play m) ≡ visit_now new m ∷ []
visit-now old new m n place ply =
    λ i. record { mv = m; position = (sym place i).here.position; ply = sym ply i; main = (sym place i).depth == 0 } ∷ []

kept-move : (old new : Lines) (m : Move) → IsKept (after_move old.line.place m) new.line.place new.ahead.now → new.line.ply ≡ suc old.line.ply → kept_in new.outer.now ≡ kept_in old.outer.now
    → IsKeptIn (opened_after (opened old) (Play m)) (opened new) new.ahead.now × (visit_of (opened old) (Play m) ≡ visit_now new m ∷ [])
kept-move old new m (inl same) ply outer = (
  inl (λ i. record { line = record { place = same i; ply = ply i }; outer = reverse (outer i) }),
  visit-now old new m old.line.place.here same ply,
)
kept-move old new m (inr (same, calm)) ply outer = (
  inr (λ i. record { line = record { place = same i; ply = ply i }; outer = reverse (outer i) }, calm),
  visit-now old new m new.line.place.before same ply,
)

-- By the item that was read.
module _ (old new : Lines) (sound : IsSound old) (used : ℕ) (some : 0 < used) (fits : used ≤ length old.ahead.now) (t : Read)
    (takes : Takes old.line.place old.ahead.now (token_of t) (drop used old.ahead.now)) (code : Place) (past : IsPast old.line.place (token_of t) code (drop used old.ahead.now))
    (ahead : new.ahead.now ≡ drop used old.ahead.now) where
  less : length new.ahead.now < length old.ahead.now
  less = omega (arith, ap (λ (l : List ℕ). length l) ahead, length-drop used old.ahead.now, some, fits)

  taken : (u : Read) → t ≡ u → Takes old.line.place old.ahead.now (token_of u) new.ahead.now
  taken u is = rw (← is, ahead) takes

  gone : (u : Read) → t ≡ u → IsPast old.line.place (token_of u) code new.ahead.now
  gone u is = rw (← is, ahead) past

  pub by_move : (m n : Move) → t ≡ read.Play m → m ≡ n → new.line.place ≡ code → new.line.ply ≡ old.line.ply + 1 → kept_in new.outer.now ≡ kept_in old.outer.now → HasMet old (Ok (item.Play n)) new
  by_move m n is same place ply outer =
      let later : IsKept (after_move old.line.place m) new.line.place new.ahead.now =
      subst (λ (p : Place). IsKept (after_move old.line.place m) p new.ahead.now) (sym place) (gone (read.Play m) is) in
      let here = kept-move old new m later (ply ∙ add-one old.line.ply) outer in
      subst (λ (x : Move). HasMet old (Ok (item.Play x)) new) same (move-met old new sound (Play m) tt (taken (read.Play m) is) here.0 less m here.1)

  still : (u : Read) → t ≡ u → IsInner (token_of u) → visit_of (opened old) (token_of u) ≡ [] → opened new ≡ opened_after (opened old) (token_of u) → HasMet old (Ok item.Mark) new
  still u is inner none same = mark-met old new sound (token_of u) inner (taken u is) (inl same) less none

  pub by_nag : (n : ℕ) → t ≡ read.Nag n → new.line.place ≡ code → new.line.ply ≡ old.line.ply → kept_in new.outer.now ≡ kept_in old.outer.now → HasMet old (Ok item.Mark) new
  by_nag n is place ply outer =
      let there = place ∙ gone (read.Nag n) is in
      still (read.Nag n) is tt refl (λ i. record { line = record { place = there i; ply = ply i }; outer = reverse (outer i) })

  pub by_comment : t ≡ read.Comment → new.line.place ≡ code → new.line.ply ≡ old.line.ply → kept_in new.outer.now ≡ kept_in old.outer.now → HasMet old (Ok item.Mark) new
  by_comment is place ply outer =
      let there = place ∙ gone read.Comment is in
      still read.Comment is tt refl (λ i. record { line = record { place = there i; ply = ply i }; outer = reverse (outer i) })

  pub by_open : t ≡ read.Open → (round : OpenLine) → round.place ≡ code → round.ply ≡ old.line.ply → new.line ≡ varied round → kept_in new.outer.now ≡ kept_in old.outer.now ++ round ∷ []
      → HasMet old (Ok item.Mark) new
  by_open is round place ply line outer =
      let there = place ∙ gone read.Open is in
      let same : round ≡ old.line = λ i. record { place = there i; ply = ply i } in
      let inner = line ∙ ap varied same in
      let around : reverse (kept_in new.outer.now) ≡ old.line ∷ reverse (kept_in old.outer.now) =
      ap (λ (l : List OpenLine). reverse l) outer
      ∙ reverse-append (kept_in old.outer.now) (round ∷ [])
      ∙ ap (λ (o : OpenLine). o ∷ reverse (kept_in old.outer.now)) same in
      still read.Open is tt refl (λ i. record { line = inner i; outer = around i })

  pub by_close : t ≡ read.Close → kept_in old.outer.now ≡ kept_in new.outer.now ++ new.line ∷ [] → HasMet old (Ok item.Mark) new
  by_close is outer =
      let around : reverse (kept_in old.outer.now) ≡ new.line ∷ reverse (kept_in new.outer.now) =
      ap (λ (l : List OpenLine). reverse l) outer ∙ reverse-append (kept_in new.outer.now) (new.line ∷ []) in
      still read.Close is tt refl (sym (ap (λ (l : List OpenLine). opened_out old.line l) around))

module _ (old new : Lines) (sound : IsSound old) where
  -- The end of the game is not passed.
  pub by_end : (later : List ℕ) → Takes old.line.place old.ahead.now End later → new.line.place ≡ old.line.place → new.line.ply ≡ old.line.ply → kept_in new.outer.now ≡ kept_in old.outer.now
      → new.ahead.now ≡ old.ahead.now → HasMet old (Ok item.End) new
  by_end later takes place ply outer ahead =
      let same : opened new ≡ opened old = λ i. record { line = record { place = place i; ply = ply i }; outer = reverse (outer i) } in
      record {
        follows = record {
          within = omega (arith, ap (λ (l : List ℕ). length l) ahead);
          sound = subst (λ (x : Opened). AreSound (length new.ahead.now) (all_lines x)) (sym same)
              (subst (λ (l : List ℕ). AreSound (length l) (all_lines (opened old))) (sym ahead) sound);
          on = λ ts stop h. (
            ts,
            subst (λ (x : Opened). Scans (nest_at x) old.ahead.now ts stop) same (subst (λ (l : List ℕ). Scans (nest_at (opened new)) l ts stop) ahead h),
          );
        };
        leaves = λ left has. (
          ended has.tokens has.behind left has.scans has.left_are,
          subst (λ (x : Opened). AreLeft x new.ahead.now left) (sym same) (subst (λ (l : List ℕ). AreLeft (opened old) l left) (sym ahead) has),
        );
        fault = tt;
      }
    where
      ended : (ts : List Token) (behind : List ℕ) (left : List Visit) → Scans (nest_at (opened old)) old.ahead.now ts (Ok behind) → left ≡ visits_in (opened old) ts → left ≡ []
      ended [] behind left h is = is
      ended (u ∷ us) behind left h is = absurd (subst IsInner (Takes-one old.line.place old.ahead.now u End h.1.0 later h.1.1 takes).0 h.0)

  -- A fault, behind which the place is kept as well.
  pub by_fault : (e : Breach) → e.left ≡ length old.ahead.now → FaultAt old.line.place old.ahead.now e.what → IsKept old.line.place new.line.place old.ahead.now
      → new.line.ply ≡ old.line.ply → kept_in new.outer.now ≡ kept_in old.outer.now → new.ahead.now ≡ old.ahead.now → HasMet old (Err e) new
  by_fault e left fault place ply outer ahead =
      let kept : IsKeptIn (opened old) (opened new) old.ahead.now = kept-place place in
      record {
        follows = record {
          within = omega (arith, ap (λ (l : List ℕ). length l) ahead);
          sound = subst (λ (l : List ℕ). AreSound (length l) (all_lines (opened new))) (sym ahead)
              (sound-kept (length old.ahead.now) (opened old) (opened new) old.ahead.now kept sound);
          on = λ ts stop h. (
            ts,
            scans-kept (opened old) (opened new) old.ahead.now ts stop sound.0 kept (subst (λ (l : List ℕ). Scans (nest_at (opened new)) l ts stop) ahead h),
          );
        };
        leaves = tt;
        fault = (old.ahead.now, sym left, ([], (refl, fault)));
      }
    where
      kept-place : IsKept old.line.place new.line.place old.ahead.now → IsKeptIn (opened old) (opened new) old.ahead.now
      kept-place (inl same) = inl (λ i. record { line = record { place = same i; ply = ply i }; outer = reverse (outer i) })
      kept-place (inr (same, calm)) = inr (λ i. record { line = record { place = same i; ply = ply i }; outer = reverse (outer i) }, calm)

-- From the first of these lines on so much was passed.
pub record HasCome (first now : Lines) : Type 0 where
  pub follows : Follows first now
  pub left : (left : List Visit) → HasLeft first left → HasLeft now left

pub come_none : (first : Lines) → IsSound first → HasCome first first
come_none first sound = record { follows = record { within = omega arith; sound = sound; on = λ ts stop h. (ts, h) }; left = λ left has. has }

follows-then : (first now next : Lines) → Follows first now → Follows now next → Follows first next
follows-then first now next one two = record {
  within = omega (arith, one.within, two.within);
  sound = two.sound;
  on = λ ts stop h. let there = two.on ts stop h in one.on there.0 stop there.1;
}

module _ (first now next : Lines) (come : HasCome first now) where
  pub come_more : HasMet now (Ok item.Mark) next → HasCome first next
  come_more is = record { follows = follows-then first now next come.follows is.follows; left = λ left has. is.leaves.1 left (come.left left has) }

  pub come_end : HasMet now (Ok item.End) next → HasGone first (Ok None) next
  come_end is = record { follows = follows-then first now next come.follows is.follows; leaves = λ left has. is.leaves left (come.left left has); fault = tt }

  pub come_move : (m : Move) → HasMet now (Ok (item.Play m)) next → HasGone first (Ok (Some m)) next
  come_move m is = record {
    follows = follows-then first now next come.follows is.follows;
    leaves = (omega (arith, come.follows.within, is.leaves.0), λ left has. is.leaves.1 left (come.left left has));
    fault = tt;
  }

  pub come_fault : (e : Breach) → HasMet now (Err e) next → HasGone first (Err e) next
  come_fault e is = record {
    follows = follows-then first now next come.follows is.follows;
    leaves = tt;
    fault = let there = come.follows.on is.fault.2.0 (Err (is.fault.0, e.what)) is.fault.2.1 in (is.fault.0, is.fault.1, there);
  }
