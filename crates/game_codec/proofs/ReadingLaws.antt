-- A main line read item by item: what is read of a line and what a game's main line has.
use Rattle.std.proofs.Common.{◌≡◌, ℕ, zero, suc, ◌+◌, ◌-◌, ◌<◌, ◌≤◌, inl, inr, ◌^◌, List, [], ◌∷◌, Some, None, length, drop, refl, sym, ap, subst, ◌∙◌, append-nil, length-drop, arith, Ok}
use Rattle.std.proofs.lemmas.Bool.{cases_eq}
use Rattle.cell_core.specs.declared.step.Move.{Move}
use Rattle.chess_laws.specs.Step.{Step}
use Rattle.chess_laws.proofs.Stepping.{Legal-stepped}
use Rattle.game_tree.specs.Game.{GameTree}
use Rattle.game_tree.specs.Movetext.{Movetext, end, meaning}
use Rattle.game_tree.specs.Replay.{next_at}
use Rattle.game_tree.specs.TagName.{free_of}
use Rattle.game_tree.specs.declared.head.Tag.{Tag}
use Rattle.move_codec.specs.Numbers.{Numbered}
use Rattle.game_codec.specs.Breach.{Tells}
use Rattle.game_codec.specs.Checking.{AreSomeTexts, full_among}
use Rattle.game_codec.specs.Fault.{Breaks}
use Rattle.game_codec.specs.Moves.{SpellsMoves, Upto, here, BreaksMoves}
use Rattle.game_codec.specs.Nests.{IsKept, IsPast, token_of}
use Rattle.move_codec.proofs.Decoding.{to_decodes}
use Rattle.game_codec.specs.Place.{Place, Takes, FaultAt, after_move, beginning, ending, variation_of}
use Rattle.game_codec.specs.Reading.{BreaksLine, Does, Ends, HasRead, IsReading, Passes, Plays, Reads}
use Rattle.game_codec.specs.Record.{IsRecord}
use Rattle.game_codec.specs.RecordAnswer.{game_of}
use Rattle.game_codec.specs.Start.{BeginsStart}
use Rattle.game_codec.specs.TagReading.{BeginsTags}
use Rattle.game_codec.specs.Tallying.{HasTallied, added, no_tally, size_of, tallied}
use Rattle.game_codec.specs.Texts.{AreTexts, BreaksTexts, texts_of}
use Rattle.game_codec.specs.Token.{Token, Play, Nag, Comment, Open, End}
use Rattle.game_codec.specs.Totals.{AreTotals}
use Rattle.game_codec.specs.Walking.{GoesOn, IsBehind, Within}
use Rattle.game_codec.specs.declared.breach.Breach.{Breach}
use Rattle.game_codec.specs.declared.reading.At.{At}
use Rattle.game_codec.specs.declared.reading.Item.TheVariants as item
use Rattle.game_codec.specs.declared.tally.Tally.{Tally}
use Rattle.game_codec.specs.declared.token.Token.{Token as Read}
use Rattle.game_codec.specs.declared.token.Token.TheVariants as read
use Rattle.game_codec.specs.declared.totals.Totals.{Totals}
use Rattle.game_codec.proofs.CheckLaws.{Checked, moves_broken, texts_broken}
use Rattle.game_codec.proofs.LineLaws.{HasFollowed-kept}
use Rattle.game_codec.proofs.MovetextLaws.{ending-main}
use Rattle.game_codec.proofs.RecordAnswerLaws.{from_spelled}
use Rattle.game_codec.proofs.TallyLaws.{HasTallied-breaks, HasTallied-none, LineTallied}
use Rattle.game_codec.proofs.TallyLaws as tally
use Rattle.game_codec.proofs.TotalLaws.{dealt_all, said, said-comments, said-is, totals}
use Rattle.game_codec.proofs.WalkLaws.{front_comment, front_ends, front_nag, front_variation, within_closes, within_nag, within_none, within_opens, within_passes}
use Rattle.game_codec.proofs.WalkSteps.{behind_ends, behind_more, behind_next, move_goes}

-- A variation ends at one place, by its marks alone
within_one : (fuel depth : ℕ) (bytes a b : List ℕ) → length bytes ≤ fuel → Within depth bytes a → Within depth bytes b → a ≡ b
within_one fuel zero bytes a b few first second = sym first ∙ second
within_one fuel (suc depth) [] a b few first second = absurd (within_none (suc depth) a (omega arith) first)
within_one zero (suc depth) (byte ∷ later) a b few first second = absurd (omega (arith, few))
within_one (suc fuel) (suc depth) (byte ∷ later) a b few first second =
    elim (cases_eq byte 11) [
      | inl nag ↦
          let size : length (drop 1 later) ≤ fuel = omega (arith, few, length-drop 1 later) in
          let one = subst (λ (n : ℕ). Within (suc depth) (n ∷ later) a) nag first in
          let two = subst (λ (n : ℕ). Within (suc depth) (n ∷ later) b) nag second in
          within_one fuel (suc depth) (drop 1 later) a b size (within_nag (suc depth) later a (omega arith) one) (within_nag (suc depth) later b (omega arith) two)
      | inr no_nag ↦
          elim (cases_eq byte 13) [
            | inl opens ↦
                within_one fuel (suc depth + 1) later a b (omega (arith, few)) (within_opens byte later a (suc depth) (omega arith) opens first)
                (within_opens byte later b (suc depth) (omega arith) opens second)
            | inr no_open ↦
                elim (cases_eq byte 14) [
                  | inl closes ↦
                      within_one fuel (suc depth - 1) later a b (omega (arith, few)) (within_closes byte later a (suc depth) (omega arith) closes first)
                      (within_closes byte later b (suc depth) (omega arith) closes second)
                  | inr no_close ↦
                      within_one fuel (suc depth) later a b (omega (arith, few)) (within_passes byte later a (suc depth) (omega arith) no_nag no_open no_close first)
                      (within_passes byte later b (suc depth) (omega arith) no_nag no_open no_close second)
                ]
          ]
    ]

pub passed_variation : (p : Place) (s : Movetext) (later behind other : List ℕ) → 0 < p.depth → SpellsMoves p s later behind → Within 1 later other → behind ≡ other
passed_variation p s later behind other deep spells within =
    within_one (length later) 1 later behind other (omega arith)
    (behind, (record { place = p; movetext = s; inner = deep; spells = inl spells }, refl)) within

-- From one place to another

pub Reads-none : (p : At) → Reads p p
Reads-none p = record { main = refl; room = omega arith; shorter = omega arith; on = λ start bytes before h. h }

pub Reads-then : (p q r : At) → Reads p q → Reads q r → Reads p r
Reads-then p q r one two = record {
  main = two.main ∙ one.main;
  room = omega (arith, one.room, two.room);
  shorter = omega (arith, one.shorter, two.shorter);
  on = λ start bytes before h. two.on start bytes before (one.on start bytes before h);
}

pub Passes-none : (p : At) → Passes p p
Passes-none p = record { reads = Reads-none p; same = refl; goes = λ moves g. g }

pub Passes-then : (p q r : At) → Passes p q → Passes q r → Passes p r
Passes-then p q r one two = record {
  reads = Reads-then p q r one.reads two.reads;
  same = two.same ∙ one.same;
  goes = λ moves g.
      subst (λ (n : Numbered). GoesOn n moves r.rest.now) one.same
      (two.goes moves (subst (λ (n : Numbered). GoesOn n moves q.rest.now) (sym one.same) (one.goes moves g)));
}

pub Plays-behind : (p q r : At) (m : Move) → Passes p q → Plays q m r → Plays p m r
Plays-behind p q r m one two = record {
  reads = Reads-then p q r one.reads two.reads;
  less = omega (arith, one.reads.shorter, two.less);
  step = subst (λ (n : Numbered). Step n.position m r.place.now.here.position) one.same two.step;
  goes = λ moves g. two.goes moves (subst (λ (n : Numbered). GoesOn n moves q.rest.now) (sym one.same) (one.goes moves g));
}

pub BreaksLine-behind : (p q : At) (breach : Breach) → Reads p q → BreaksLine q breach → BreaksLine p breach
BreaksLine-behind p q breach reads breaks = λ start bytes before h. breaks start bytes before (reads.on start bytes before h)

-- One item

kept-here : (p code : Place) (bytes : List ℕ) → IsKept p code bytes → (code.here ≡ p.here) × (code.depth ≡ p.depth)
kept-here p code bytes (inl same) = (ap (λ (q : Place). q.here) same, ap (λ (q : Place). q.depth) same)
kept-here p code bytes (inr kept) = (ap (λ (q : Place). q.here) kept.0, ap (λ (q : Place). q.depth) kept.0)

module _ (p q : At) (used : ℕ) (fits : used ≤ length p.rest.now) (some : 0 < used) (t : Read) (takes : Takes p.place.now p.rest.now (token_of t) (drop used p.rest.now))
    (past : IsPast p.place.now (token_of t) q.place.now (drop used p.rest.now)) (later_is : q.rest.now ≡ drop used p.rest.now)
    (tally_is : q.tally ≡ added p.tally (token_of t)) where
  size : length q.rest.now + used ≡ length p.rest.now
  size = omega (arith, ap (λ (l : List ℕ). length l) later_is, length-drop used p.rest.now, fits)

  taken : (u : Read) → t ≡ u → Takes p.place.now p.rest.now (token_of u) (drop used p.rest.now)
  taken u is = subst (λ (v : Read). Takes p.place.now p.rest.now (token_of v) (drop used p.rest.now)) is takes

  passed : (u : Read) → t ≡ u → IsPast p.place.now (token_of u) q.place.now (drop used p.rest.now)
  passed u is = subst (λ (v : Read). IsPast p.place.now (token_of v) q.place.now (drop used p.rest.now)) is past

  reads : q.place.now.depth ≡ p.place.now.depth
      → ((start : Place) (bytes : List ℕ) (before : Tally) → HasTallied start bytes p.place.now p.rest.now before p.tally → HasTallied start bytes q.place.now q.rest.now before q.tally)
      → Reads p q
  reads main on = record {
    main = main;
    room = omega (arith, tally.grown p.place.now p.rest.now p.place.now p.rest.now p.tally p.tally (tally.HasTallied-none p.place.now p.rest.now p.tally) used fits some t takes q.place.now past q.rest.now later_is q.tally tally_is, size, some);
    shorter = omega (arith, size, some);
    on = on;
  }

  pub plays : (m : Move) → t ≡ read.Play m → Plays p m q
  plays m is =
      let takes-move = taken (read.Play m) is in
      let decodes = to_decodes p.place.now.here p.rest.now (Ok (m, takes-move.1.0)) takes-move.1.1 in
      let kept = kept-here (after_move p.place.now m) q.place.now (drop used p.rest.now) (passed (read.Play m) is) in
      record {
        reads = reads kept.1 (λ start bytes before h.
            tally.by_move start bytes p.place.now p.rest.now before p.tally h used fits some t takes q.place.now past q.rest.now later_is q.tally tally_is m is);
        less = omega (arith, size, some);
        step = subst (λ (n : Numbered). Step p.place.now.here.position m n.position) (sym kept.0) (Legal-stepped p.place.now.here.position m decodes.1);
        goes = λ moves g.
            move_goes p.place.now.here q.place.now.here p.rest.now q.rest.now m takes-move.1.0 takes-move.0 decodes kept.0 (later_is ∙ takes-move.1.2) moves g;
      }

  pub plays-as : (m n : Move) → t ≡ read.Play m → m ≡ n → Plays p n q
  plays-as m n is same = subst (λ (x : Move). Plays p x q) same (plays m is)

  pub nags : (n : ℕ) → t ≡ read.Nag n → Does p item.Mark q
  nags n is =
      let bytes : p.rest.now ≡ 11 ∷ n ∷ q.rest.now = (taken (read.Nag n) is).1 ∙ ap (λ (l : List ℕ). 11 ∷ n ∷ l) (sym later_is) in
      let place : q.place.now ≡ p.place.now = passed (read.Nag n) is in (
        record {
          reads = reads (ap (λ (s : Place). s.depth) place) (λ start bytes before h.
              tally.by_nag start bytes p.place.now p.rest.now before p.tally h used fits some t takes q.place.now past q.rest.now later_is q.tally tally_is n is);
          same = ap (λ (s : Place). s.here) place;
          goes = λ moves g. front_nag p.place.now.here moves (n ∷ q.rest.now) (subst (GoesOn p.place.now.here moves) bytes g);
        },
        omega (arith, size, some),
      )

  pub notes : t ≡ read.Comment → Does p item.Mark q
  notes is =
      let bytes : p.rest.now ≡ 12 ∷ q.rest.now = (taken read.Comment is).1 ∙ ap (λ (l : List ℕ). 12 ∷ l) (sym later_is) in
      let place = passed read.Comment is in (
        record {
          reads = reads (ap (λ (s : Place). s.depth) place) (λ start bytes before h.
              tally.by_comment start bytes p.place.now p.rest.now before p.tally h used fits some t takes q.place.now past q.rest.now later_is q.tally tally_is is);
          same = ap (λ (s : Place). s.here) place;
          goes = λ moves g. front_comment p.place.now.here moves 12 q.rest.now (subst (GoesOn p.place.now.here moves) bytes g) refl;
        },
        omega (arith, size, some),
      )

-- The end of the line, which is not passed
pub ends : (p : At) (used : ℕ) → Takes p.place.now p.rest.now End (drop used p.rest.now) → Ends p
ends p used takes =
    let behind : drop 1 p.rest.now ≡ drop used p.rest.now = ap (λ (l : List ℕ). drop 1 l) takes.1 in
    record {
      takes = subst (λ (l : List ℕ). Takes p.place.now p.rest.now End l) (sym behind) takes;
      goes = λ moves g. front_ends p.place.now.here moves 15 (drop used p.rest.now) (subst (GoesOn p.place.now.here moves) takes.1 g) refl;
    }

-- After a fault the code's place serves as well.
pub keeps : (p q : At) → IsKept p.place.now q.place.now p.rest.now → q.rest.now ≡ p.rest.now → q.tally ≡ p.tally → Passes p q
keeps p q kept rest tally =
    let same = kept-here p.place.now q.place.now p.rest.now kept in
    record {
      reads = record {
        main = same.1;
        room = omega (arith, ap size_of tally, ap (λ (l : List ℕ). length l) rest);
        shorter = omega (arith, ap (λ (l : List ℕ). length l) rest);
        on = λ start bytes before h.
            let moved : HasTallied start bytes q.place.now p.rest.now before p.tally = record {
              tokens = h.tokens;
              followed = HasFollowed-kept start bytes p.place.now q.place.now p.rest.now h.tokens h.followed kept;
              tally_is = h.tally_is;
              few = h.few;
            } in
            rw (rest, tally) moved;
      };
      same = same.0;
      goes = λ moves g. rw rest g;
    }

pub faults : (p : At) (breach : Breach) → breach.left ≡ length p.rest.now → FaultAt p.place.now p.rest.now breach.what → BreaksLine p breach
faults p breach left fault = λ start bytes before h.
    (p.rest.now, sym left, HasTallied-breaks start bytes p.place.now p.rest.now before p.tally breach.what h fault)

-- A variation
module _ (p : At) (behind : List ℕ) (takes : Takes p.place.now p.rest.now Open behind) where
  behind_is : behind ≡ drop 1 p.rest.now
  behind_is = sym (ap (λ (l : List ℕ). drop 1 l) takes.2)

  takes-one : Takes p.place.now p.rest.now Open (drop 1 p.rest.now)
  takes-one = subst (λ (l : List ℕ). Takes p.place.now p.rest.now Open l) behind_is takes

  one-fits : 1 ≤ length p.rest.now
  one-fits = omega (arith, ap (λ (l : List ℕ). length l) takes.2)

  shorter : length behind + 1 ≡ length p.rest.now
  shorter = omega (arith, ap (λ (l : List ℕ). length l) takes.2)

  pub varies : (q : At) (inner : Place) (met final : Tally) (more : ℕ) → inner ≡ variation_of p.place.now → met ≡ added p.tally Open → more ≤ length behind
      → size_of final ≤ size_of met + more → LineTallied inner behind more met final → q.place.now ≡ p.place.now → q.rest.now ≡ drop more behind → q.tally ≡ final
      → Does p item.Mark q
  varies q inner met final more inner_is met_is fits few line place rest tally_is =
      let size : length q.rest.now + more ≡ length behind = omega (arith, ap (λ (l : List ℕ). length l) rest, length-drop more behind, fits) in
      let spells : SpellsMoves (variation_of p.place.now) line.0 behind (drop more behind) = subst (λ (s : Place). SpellsMoves s line.0 behind (drop more behind)) inner_is line.1.0 in
      let met-size : size_of met ≡ size_of p.tally + 1 = omega (arith, ap size_of met_is) in (
        record {
          reads = record {
            main = ap (λ (s : Place). s.depth) place;
            room = omega (arith, ap size_of tally_is, few, met-size, size, shorter);
            shorter = omega (arith, size, shorter);
            on = λ start bytes before h.
                let moved : HasTallied start bytes p.place.now q.rest.now before final =
                tally.by_variation start bytes p.place.now p.rest.now before p.tally h 1 one-fits (omega arith) read.Open takes-one p.place.now refl behind behind_is met met_is
                refl inner inner_is more fits final few q.rest.now rest line in
                rw (place, tally_is) moved;
          };
          same = ap (λ (s : Place). s.here) place;
          goes = λ moves g.
              let shown : GoesOn p.place.now.here moves (13 ∷ behind) = subst (GoesOn p.place.now.here moves) takes.2 g in
              subst (GoesOn p.place.now.here moves) (sym rest)
              (front_variation p.place.now.here moves 13 behind shown more refl
              (λ other within. passed_variation (variation_of p.place.now) line.0 behind (drop more behind) other (omega arith) spells within));
        },
        omega (arith, size, shorter),
      )

  pub varies-badly : (inner : Place) (breach : Breach) → inner ≡ variation_of p.place.now
      → Tells (λ from what. (u : Upto) × BreaksMoves inner u behind from what) breach → BreaksLine p breach
  varies-badly inner breach inner_is tells = λ start bytes before h.
      tally.by_fault start bytes p.place.now p.rest.now before p.tally h 1 one-fits (omega arith) read.Open takes-one p.place.now refl behind behind_is (added p.tally Open) refl
      refl inner inner_is breach tells

-- The end of the record

module _ (p q : At) (bytes : List ℕ) (reads : Reads p q) (has : HasRead bytes p) where
  at : HasTallied (beginning 0 has.start) has.behind_start q.place.now q.rest.now no_tally q.tally
  at = reads.on (beginning 0 has.start) has.behind_start no_tally has.tallied

  pub HasRead-more : HasRead bytes q
  HasRead-more = record {
    tags = has.tags;
    start = has.start;
    behind_tags = has.behind_tags;
    behind_start = has.behind_start;
    tags_first = has.tags_first;
    then_start = has.then_start;
    tallied = at;
    main = reads.main ∙ has.main;
    room = omega (arith, reads.room, has.room);
  }

  -- The main line with its variations, whatever the texts are.
  record Whole : Type 0 where
    movetext : Movetext
    spells : SpellsMoves (beginning 0 has.start) movetext has.behind_start (drop 1 q.rest.now)
    told : q.tally ≡ said no_tally movetext

  whole : Ends q → Whole
  whole ends =
      let last : Takes q.place.now q.rest.now (ending q.place.now.depth) (drop 1 q.rest.now) =
      subst (λ (t : Token). Takes q.place.now q.rest.now t (drop 1 q.rest.now)) (sym (ending-main q.place.now.depth (reads.main ∙ has.main))) ends.takes in
      let spelled = at.followed.spells [] (drop 1 q.rest.now) (record { movetext = end; spells = last; items = refl }) in
      record {
        movetext = spelled.movetext;
        spells = spelled.spells;
        told = at.tally_is ∙ ap (tallied no_tally) (sym (append-nil at.tokens) ∙ sym spelled.items) ∙ said-is no_tally spelled.movetext [];
      }

  checked : (w : Whole) → Checked (beginning 0 has.start) has.behind_start (drop 1 q.rest.now) q.tally.comments
  checked w = record {
    movetext = w.movetext;
    spells = w.spells;
    count = omega (arith, ap (λ (t : Tally). t.comments) w.told, said-comments no_tally w.movetext);
  }

  pub finishes : Ends q → (t : Totals) → AreSomeTexts q.tally.comments (drop 1 q.rest.now) t.comments → t.variations ≡ q.tally.variations → t.nags ≡ q.tally.nags
      → t.promo ≡ q.tally.promo → t.under ≡ q.tally.under → (tags : List Tag) × ((game : GameTree) × (IsRecord bytes tags game × AreTotals game t))
  unfolding whole checked
  finishes done t texts variations nagged promo under =
      let w = whole done in
      let found = dealt_all w.movetext texts.0 (texts.1.1.0 ∙ sym (checked w).count) in
      let movetext = found.0.movetext in
      let spells = found.0.spells (beginning 0 has.start) has.behind_start (drop 1 q.rest.now) w.spells in
      let full : t.comments ≡ full_among (texts_of movetext) = texts.1.1.1 ∙ ap full_among (sym found.1) in (
        free_of has.tags,
        (
          game_of has.start.position (meaning movetext),
          (
            from_spelled bytes (free_of has.tags) (game_of has.start.position (meaning movetext)) (record {
              all_tags = has.tags;
              start = has.start;
              movetext = movetext;
              behind_tags = has.behind_tags;
              behind_start = has.behind_start;
              behind_moves = drop 1 q.rest.now;
              tags_first = has.tags_first;
              then_start = has.then_start;
              then_moves = spells;
              then_texts = subst (AreTexts (drop 1 q.rest.now)) (sym found.1) texts.1.0;
              tags_are = refl;
              game_is = refl;
            }),
            totals has.start movetext has.behind_start (drop 1 q.rest.now) q.tally t spells (w.told ∙ sym (found.0.same no_tally)) variations full nagged promo under,
          ),
        ),
      )

  pub texts-broken : Ends q → (breach : Breach) → Tells (BreaksTexts q.tally.comments (drop 1 q.rest.now)) breach → Tells (Breaks bytes) breach
  texts-broken ends breach tells =
      texts_broken bytes has.behind_tags has.behind_start (drop 1 q.rest.now) has.tags has.start has.tags_first has.then_start q.tally.comments breach (checked (whole ends)) tells

pub line-broken : (p : At) (bytes : List ℕ) (breach : Breach) → HasRead bytes p → BreaksLine p breach → Tells (Breaks bytes) breach
line-broken p bytes breach has breaks =
    moves_broken bytes has.behind_tags has.behind_start [] has.tags has.start has.tags_first has.then_start breach
    (breaks (beginning 0 has.start) has.behind_start no_tally has.tallied)

-- The game's main line

pub passes-behind : (game : GameTree) (ply : ℕ) (p q : At) → Passes p q → IsBehind game p.place.now.here ply p.rest.now → IsBehind game q.place.now.here ply q.rest.now
passes-behind game ply p q passes is =
    let on : IsBehind game p.place.now.here ply q.rest.now = record { within = is.within; position = is.position; line = passes.goes _ is.line } in
    subst (λ (n : Numbered). IsBehind game n ply q.rest.now) (sym passes.same) on

pub begun-reading : (bytes : List ℕ) (p : At) (start : Numbered) (used : ℕ) → length bytes < 2 ^ 32
    → ((tags : List Tag) × ((behind : List ℕ) × (BeginsTags bytes tags behind × BeginsStart behind start (drop used bytes))))
    → p.place.now ≡ beginning 0 start → p.rest.now ≡ drop used bytes → p.tally ≡ no_tally
    → ((tags : List Tag) (game : GameTree) → IsRecord bytes tags game → IsBehind game start 0 (drop used bytes)) → IsReading bytes p 0
begun-reading bytes p start used few starts place rest tally follows =
    let size : length p.rest.now ≤ length bytes = omega (arith, ap (λ (l : List ℕ). length l) rest, length-drop used bytes) in
    let none : size_of p.tally ≡ 0 = ap size_of tally in
    record {
      few = few;
      left = omega (arith, size);
      read = record {
        tags = starts.0;
        start = start;
        behind_tags = starts.1.0;
        behind_start = p.rest.now;
        tags_first = starts.1.1.0;
        then_start = subst (BeginsStart starts.1.0 start) (sym rest) starts.1.1.1;
        tallied = rw (place, tally) (HasTallied-none (beginning 0 start) p.rest.now no_tally);
        main = ap (λ (s : Place). s.depth) place;
        room = omega (arith, none, size);
      };
      follows = λ tags game r. rw (place, rest) (follows tags game r);
    }

module _ (bytes : List ℕ) (p q : At) (ply : ℕ) (is : IsReading bytes p ply) where
  pub passed-reading : Passes p q → IsReading bytes q ply
  passed-reading passes = record {
    few = is.few;
    left = omega (arith, is.left, passes.reads.shorter);
    read = HasRead-more p q bytes passes.reads is.read;
    follows = λ tags game r. passes-behind game ply p q passes (is.follows tags game r);
  }

  pub played-reading : (m : Move) → Plays p m q → IsReading bytes q (ply + 1)
  played-reading m plays = record {
    few = is.few;
    left = omega (arith, is.left, plays.less);
    read = HasRead-more p q bytes plays.reads is.read;
    follows = λ tags game r. behind_more game p.place.now.here ply p.rest.now (is.follows tags game r) q.place.now.here q.rest.now m plays.step plays.goes;
  }

  pub next-played : (m : Move) → Plays p m q → (tags : List Tag) (game : GameTree) → IsRecord bytes tags game → next_at game ply ≡ Some m
  next-played m plays tags game r = behind_next game p.place.now.here ply p.rest.now (is.follows tags game r) q.place.now.here q.rest.now m plays.step plays.goes

  pub none-next : Passes p q → Ends q → (tags : List Tag) (game : GameTree) → IsRecord bytes tags game → next_at game ply ≡ None
  none-next passes ends tags game r =
      behind_ends game q.place.now.here ply q.rest.now (passes-behind game ply p q passes (is.follows tags game r)) ends.goes

  pub reading-broken : (breach : Breach) → BreaksLine p breach → Tells (Breaks bytes) breach
  reading-broken breach breaks = line-broken p bytes breach is.read breaks
