-- What was read of a game stays legal.
use Rattle.std.proofs.Common.{option_map, ◌≡◌, ◌≤◌, ◌<◌, ◌+◌, ◌&&◌, ◌||◌, ℕ, Bool, true, false, cond, nat_le, nat_lt, codes, List, [], ◌∷◌, ◌++◌, length, filter, Option, Some, None, Result, Ok, Err, refl, sym, ap, subst, arith}
use Rattle.std.specs.List.{AllByRecursion}
use Rattle.std.proofs.lemmas.Bool.{and_parts, leb-false}
use Rattle.cell_core.specs.declared.step.Move.{Move}
use Rattle.chess_laws.specs.declared.setup.Setup.{Setup}
use Rattle.chess_laws.specs.Step.{Legal, stepped}
use Rattle.chess_laws.proofs.Deciding.{legal-Decides}
use Rattle.chess_laws.proofs.Stepping.{Legal-stepped}
use Rattle.chess_text.specs.declared.fault.FenFault.{FenFault}
use Rattle.chess_text.specs.declared.fault.SanFault.{SanFault}
use Rattle.chess_text.specs.declared.shape.Shape.{Shape}
use Rattle.chess_text.specs.SanReading.{shape_named}
use Rattle.game_tree.specs.declared.head.Head.{Head}
use Rattle.game_tree.specs.Game.{GameTree}
use Rattle.game_tree.specs.Head.{IsBounded}
use Rattle.game_tree.specs.Settle.{IsSettled}
use Rattle.game_tree.specs.Item as item
use Rattle.game_tree.specs.Tree.{Branches, none, more, Played, Variation, line_of, depth_of, depth_within}
use Rattle.game_tree.specs.Movetext.{as_comment, joined}
use Rattle.game_tree.specs.Building.{Open, closed, and_last, added, bare, with_move, more_nags, with_nag, with_comment_on, with_comment, with_branch, more_variations, with_variation, variation_of, more_comment}
use Rattle.game_tree.specs.Legal.{IsComment, IsLegalLine, AreLegalBranches, deepest, IsLegalGame}
use Rattle.game_tree.specs.TagList.{is_named}
use Rattle.game_tree.specs.TagName.{is_among, roster_names}
use Rattle.pgn_read.specs.declared.item.GameWhat.TheVariants as what
use Rattle.pgn_read.specs.declared.step.End.{End}
use Rattle.pgn_read.specs.declared.step.End.TheVariants as end
use Rattle.pgn_read.specs.declared.step.Step.{Step as Does}
use Rattle.pgn_read.specs.declared.step.Step.TheVariants as does
use Rattle.pgn_read.specs.Turns.{Turn}
use Rattle.chess_text.specs.SanAnswer.{only_of, candidates, fits_now, shape_answer, san_answer}
use Rattle.chess_text.specs.FenAnswer.{fen_answer}
use Rattle.pgn_read.specs.Token.{Token}
use Rattle.pgn_read.specs.Token as token
use Rattle.pgn_read.specs.Reading.{Reading, Effect, has_tag, goes_on, ends_behind, ends_before, is_faulty, unread, turn_at, is_inside, has_move, with_tag, starting, tag_effect, moving, played, opened, closed_to, effect, game_of, by_answer}
use Rattle.pgn_read.specs.Said.{said_step, EndsWell, StepsWell}
use Rattle.pgn_read.specs.Fit.{IsFitGame}
use Rattle.pgn_read.specs.Legality.{IsPlayed, Leads, ComesTo, IsLine, AreLines, IsLegal, EndsLegally, StepsLegally}

-- ---- the answer to a move's text

filtered_if : (test : Move → Bool) (c : Bool) (m : Move) (ms : List Move) → test m ≡ c → AllByRecursion (λ n. test n ≡ true) ms
    → AllByRecursion (λ n. test n ≡ true) (cond c (m ∷ ms) ms)
filtered_if test true m ms is rest = (is, rest)
filtered_if test false m ms is rest = rest

filtered : (test : Move → Bool) (ms : List Move) → AllByRecursion (λ n. test n ≡ true) (filter test ms)
filtered test [] = tt
filtered test (m ∷ ms) = filtered_if test (test m) m (filter test ms) refl (filtered test ms)

only_one : (P : Move → Type 0) (ms : List Move) (m : Move) → AllByRecursion P ms → only_of ms ≡ Ok m → P m
only_one P [] m all is = absurd (cc)
only_one P (n ∷ []) m all is = let same : n ≡ m = cc in subst P same all.0
only_one P (n ∷ k ∷ ms) m all is = absurd (cc)

shape_legal : (p : Setup) (shape : Option Shape) (m : Move) → shape_answer p shape ≡ Ok m → Legal p m
shape_legal p None m is = absurd (cc)
shape_legal p (Some shape) m is =
    let fits = only_one (λ n. fits_now p shape n ≡ true) (filter (fits_now p shape) (candidates p shape)) m (filtered (fits_now p shape) (candidates p shape)) is in
    (legal-Decides p m).0 (and_parts _ _ fits).1

san_legal : (p : Setup) (text : List ℕ) (m : Move) → san_answer p text ≡ Ok m → Legal p m
unfolding san_answer
san_legal p text m is = shape_legal p (shape_named text) m is

-- ---- moves one behind the other

leads_more : (level : ℕ) (p q : Setup) (ps : List Played) (x : Played) → Leads level p ps q → IsPlayed level q x → Leads level p (ps ++ x ∷ []) (stepped q x.mv)
leads_more level p q [] x is one = (subst (λ (s : Setup). IsPlayed level s x) is one, ap (λ (s : Setup). stepped s x.mv) is)
leads_more level p q (y ∷ ps) x is one = (is.0, leads_more level (stepped p y.mv) q ps x is.1 one)

all_lead : (level : ℕ) (p : Setup) (done : List Played) (last : Option Played) (turn : Turn) → ComesTo level p done last turn
    → Leads level p (and_last done last) turn.now_at
all_lead level p done None turn is = is
all_lead level p done (Some x) turn is =
    subst (Leads level p (done ++ x ∷ [])) (sym is.1.1) (leads_more level p turn.before done x is.0 is.1.0)

leads_legal : (level : ℕ) (p q : Setup) (ps : List Played) → Leads level p ps q → IsLegalLine p (line_of ps)
leads_legal level p q [] is = tt
leads_legal level p q (x ∷ ps) is = (is.0.step, (is.0.comment, (is.0.variations, leads_legal level (stepped p x.mv) q ps is.1)))

leads_depth : (level : ℕ) (p q : Setup) (ps : List Played) → level ≤ deepest → Leads level p ps q → level + depth_of (line_of ps) ≤ deepest
leads_depth level p q [] within is = omega (arith, within)
leads_depth level p q (x ∷ ps) within is = omega (arith, is.0.depth, leads_depth level (stepped p x.mv) q ps within is.1)

-- ---- one line

played_line : (level : ℕ) (p : Setup) (line : Open) (turn : Turn) (m : Move) → Legal turn.now_at m → IsLine level p line turn
    → IsLine level p (with_move (bare m) line) (record { before = turn.now_at; now_at = stepped turn.now_at m })
played_line level p line turn m legal is = record {
  lead = is.lead;
  level_within = is.level_within;
  moves = (
    all_lead level p line.done line.last turn is.moves,
    (record { step = Legal-stepped turn.now_at m legal; comment = tt; variations = tt; depth = omega (arith, is.level_within) }, refl),
  );
}

joined_comment : (before : Option (List ℕ)) (text : List ℕ) → IsComment before → IsComment (joined before (as_comment text))
joined_comment None [] is = tt
joined_comment None (c ∷ text) is = λ e. omega (arith, ap length e)
joined_comment (Some others) [] is = is
joined_comment (Some []) (c ∷ text) is = λ e. omega (arith, ap length e)
joined_comment (Some (b ∷ others)) (c ∷ text) is = λ e. omega (arith, ap length e)

commented_played : (level : ℕ) (p : Setup) (x : Played) (text : List ℕ) → IsPlayed level p x → IsPlayed level p (more_comment (as_comment text) x)
commented_played level p x text is =
    record { step = is.step; comment = joined_comment x.comment text is.comment; variations = is.variations; depth = is.depth }

commented_on : (level : ℕ) (p : Setup) (text : List ℕ) (lead : Option (List ℕ)) (done : List Played) (last : Option Played) (turn : Turn) → IsComment lead
    → level ≤ deepest → ComesTo level p done last turn → IsLine level p (with_comment_on (as_comment text) lead done last) turn
commented_on level p text lead done None turn is within moves = record { lead = joined_comment lead text is; level_within = within; moves = moves }
commented_on level p text lead done (Some x) turn is within moves =
    record { lead = is; level_within = within; moves = (moves.0, (commented_played level turn.before x text moves.1.0, moves.1.1)) }

commented_line : (level : ℕ) (p : Setup) (line : Open) (turn : Turn) (text : List ℕ) → IsLine level p line turn → IsLine level p (with_comment text line) turn
commented_line level p line turn text is = commented_on level p text line.lead line.done line.last turn is.lead is.level_within is.moves

noted : (level : ℕ) (p : Setup) (n : ℕ) (done : List Played) (last : Option Played) (turn : Turn) → ComesTo level p done last turn
    → ComesTo level p done (option_map (more_nags n) last) turn
noted level p n done None turn is = is
noted level p n done (Some x) turn is =
    (is.0, (record { step = is.1.0.step; comment = is.1.0.comment; variations = is.1.0.variations; depth = is.1.0.depth }, is.1.1))

noted_line : (level : ℕ) (p : Setup) (line : Open) (turn : Turn) (n : ℕ) → IsLine level p line turn → IsLine level p (with_nag n line) turn
noted_line level p line turn n is = record { lead = is.lead; level_within = is.level_within; moves = noted level p n line.done line.last turn is.moves }

-- ---- a variation

more_legal : (p : Setup) (others : Branches) (v : Variation) → AreLegalBranches p others → IsComment v.lead → IsLegalLine p v.line → AreLegalBranches p (with_branch others v)
more_legal p none v are lead line = (lead, (line, tt))
more_legal p (more first moves others) v are lead line = (are.0, (are.1.0, more_legal p others v are.1.1 lead line))

more_depth : (level : ℕ) (others : Branches) (v : Variation) → level + depth_within others ≤ deepest → level + 1 + depth_of v.line ≤ deepest
    → level + depth_within (with_branch others v) ≤ deepest
more_depth level none v within one = omega (arith, one)
more_depth level (more first moves others) v within one = omega (arith, within, more_depth level others v (omega (arith, within)) one)

-- A variation that is legal from a position, inside so many others.
record IsVariation (level : ℕ) (p : Setup) (v : Variation) : Type 0 where
  lead : IsComment v.lead
  line : IsLegalLine p v.line
  depth : level + 1 + depth_of v.line ≤ deepest

variation_legal : (level inner : ℕ) (p : Setup) (line : Open) (turn : Turn) → inner ≡ level + 1 → IsLine inner p line turn → IsVariation level p (variation_of line)
variation_legal level inner p line turn one is =
    let all = all_lead inner p line.done line.last turn is.moves in
    record {
      lead = is.lead;
      line = leads_legal inner p turn.now_at (and_last line.done line.last) all;
      depth = omega (arith, one, leads_depth inner p turn.now_at (and_last line.done line.last) is.level_within all);
    }

varied : (level : ℕ) (p : Setup) (v : Variation) (done : List Played) (last : Option Played) (turn : Turn) → IsVariation level turn.before v
    → ComesTo level p done last turn → ComesTo level p done (option_map (more_variations v) last) turn
varied level p v done None turn one is = is
varied level p v done (Some x) turn one is = (
  is.0,
  (
    record {
      step = is.1.0.step;
      comment = is.1.0.comment;
      variations = more_legal turn.before x.variations v is.1.0.variations one.lead one.line;
      depth = more_depth level x.variations v is.1.0.depth one.depth;
    },
    is.1.1,
  ),
)

varied_line : (level : ℕ) (p : Setup) (line : Open) (turn : Turn) (v : Variation) → IsVariation level turn.before v → IsLine level p line turn
    → IsLine level p (with_variation v line) turn
varied_line level p line turn v one is =
    record { lead = is.lead; level_within = is.level_within; moves = varied level p v line.done line.last turn one is.moves }

-- ---- all open lines

-- The innermost line in another's place.
lines_with : (start : Setup) (line other : Open) (turn at : Turn) (outer : List Open) (places : List Turn)
    → ((p : Setup) → IsLine (length places) p line turn → IsLine (length places) p other at) → AreLines start line turn outer places
    → AreLines start other at outer places
lines_with start line other turn at [] [] so are = so start are
lines_with start line other turn at [] (place ∷ places) so are = are
lines_with start line other turn at (round ∷ outer) [] so are = are
lines_with start line other turn at (round ∷ outer) (place ∷ places) so are = (so place.before are.0, are.1)

moving_so : {A : Type 0} → true ≡ false → A
moving_so is = absurd (cc)

played_legal : (m : Move) (r : Reading) → Legal r.turn.now_at m → IsLegal r → IsLegal (played m r)
played_legal m r legal is = record {
  lines =
      lines_with r.start r.moves.current (with_move (bare m) r.moves.current) r.turn (record { before = r.turn.now_at; now_at = stepped r.turn.now_at m }) r.moves.outer r.outer
      (λ p one. played_line (length r.outer) p r.moves.current r.turn m legal one) is.lines;
  no_moves = λ e. moving_so e;
}

none_with : (text : Option (List ℕ)) (lead : Option (List ℕ)) (done : List Played) (last : Option Played) → done ≡ [] → last ≡ None
    → ((with_comment_on text lead done last).done ≡ []) × ((with_comment_on text lead done last).last ≡ None)
none_with text lead done None first second = (first, refl)
none_with text lead done (Some x) first second = absurd (cc)

commented_legal : (text : List ℕ) (r : Reading) → IsLegal r → IsLegal (record r { moves = added (item.comment text) r.moves })
commented_legal text r is = record {
  lines =
      lines_with r.start r.moves.current (with_comment text r.moves.current) r.turn r.turn r.moves.outer r.outer
      (λ p one. commented_line (length r.outer) p r.moves.current r.turn text one) is.lines;
  no_moves = λ e.
      let before = is.no_moves e in
      let both = none_with (as_comment text) r.moves.current.lead r.moves.current.done r.moves.current.last before.done before.last in
      record { done = both.0; last = both.1; outer = before.outer };
}

-- ---- tokens

-- Where reading goes on, what was read is legal.
abbrev Keeps : Effect → Type 0
Keeps (goes_on r) = IsLegal r
Keeps (ends_behind outcome) = Unit {0}
Keeps ends_before = Unit {0}
Keeps (is_faulty fault) = Unit {0}

keeps_if : (c : Bool) (x y : Effect) → Keeps x → Keeps y → Keeps (cond c x y)
keeps_if true x y p q = p
keeps_if false x y p q = q

nagged_legal : (n : ℕ) (r : Reading) → IsLegal r → IsLegal (record (moving r) { moves = added (item.nag n) r.moves })
nagged_legal n r is = record {
  lines =
      lines_with r.start r.moves.current (with_nag n r.moves.current) r.turn r.turn r.moves.outer r.outer
      (λ p one. noted_line (length r.outer) p r.moves.current r.turn n one) is.lines;
  no_moves = λ e. moving_so e;
}

nag_keeps : (n : ℕ) (r : Reading) → IsLegal r → Keeps (cond (has_move r) (goes_on (record (moving r) { moves = added (item.nag n) r.moves })) (is_faulty what.Token))
nag_keeps n r is = keeps_if (has_move r) _ _ (nagged_legal n r is) tt

opened_legal : (r : Reading) → length r.outer < deepest → IsLegal r → IsLegal (opened r)
opened_legal r within is = record {
  lines = (record { lead = tt; level_within = omega (arith, within); moves = refl }, is.lines);
  no_moves = λ e. moving_so e;
}

opens_from : (r : Reading) (deep : Bool) → nat_le deepest (length r.outer) ≡ deep → IsLegal r
    → Keeps (cond deep (is_faulty what.Depth) (cond (has_move r) (goes_on (opened r)) (is_faulty what.Token)))
opens_from r true below is = tt
opens_from r false below is = keeps_if (has_move r) _ _ (opened_legal r (leb-false deepest (length r.outer) below) is) tt

closed_lines : (start : Setup) (line : Open) (turn : Turn) (outer : List Open) (place : Turn) (places : List Turn) → AreLines start line turn outer (place ∷ places)
    → AreLines start (closed line outer).current place (closed line outer).outer places
closed_lines start line turn [] place places are = absurd are
closed_lines start line turn (round ∷ outer) place places are =
    lines_with start round (with_variation (variation_of line) round) place place outer places
    (λ p one.
    varied_line (length places) p round place (variation_of line)
    (variation_legal (length places) (length (place ∷ places)) place.before line turn (omega arith) are.0) one)
    are.1

closes_keeps : (r : Reading) (places : List Turn) → r.outer ≡ places → IsLegal r → Keeps (closed_to r places)
closes_keeps r [] same is = tt
closes_keeps r (place ∷ places) same is =
    let lines = subst (λ (ts : List Turn). AreLines r.start r.moves.current r.turn r.moves.outer ts) same is.lines in
    record { lines = closed_lines r.start r.moves.current r.turn r.moves.outer place places lines; no_moves = λ f. moving_so f }

moving_legal : (r : Reading) → IsLegal r → IsLegal (moving r)
moving_legal r is = record { lines = is.lines; no_moves = λ e. moving_so e }

move_keeps : (r : Reading) (answer : Result Move SanFault) → ((m : Move) → answer ≡ Ok m → Legal r.turn.now_at m) → IsLegal r → Keeps (by_answer (λ m. played m r) what.San answer)
move_keeps r (Err fault) legal is = tt
move_keeps r (Ok m) legal is = played_legal m r (legal m refl) is

-- ---- tags

none_come : (level : ℕ) (p : Setup) (done : List Played) (last : Option Played) → done ≡ [] → last ≡ None → ComesTo level p done last (turn_at p)
none_come level p [] None first second = refl
none_come level p [] (Some x) first second = absurd (cc)
none_come level p (x ∷ done) last first second = absurd (cc)

begun_lines : (q p : Setup) (line : Open) (turn : Turn) (outer : List Open) (places : List Turn) → AreLines q line turn outer places → line.done ≡ [] → line.last ≡ None
    → outer ≡ [] → AreLines p line (turn_at p) outer places
begun_lines q p line turn [] [] are done last rounds =
    record { lead = are.lead; level_within = are.level_within; moves = none_come 0 p line.done line.last done last }
begun_lines q p line turn [] (place ∷ places) are done last rounds = are
begun_lines q p line turn (round ∷ outer) places are done last rounds = absurd (cc)

begun_legal : (p : Setup) (r : Reading) → r.in_moves ≡ false → IsLegal r → IsLegal (record r { start = p; turn = turn_at p })
begun_legal p r before is =
    let still = is.no_moves before in
    record {
      lines = begun_lines r.start p r.moves.current r.turn r.moves.outer r.outer is.lines still.done still.last still.outer;
      no_moves = is.no_moves;
    }

starting_if : (p : Setup) (r : Reading) (given : Bool) → r.in_moves ≡ false → IsLegal r → IsLegal (cond given r (record r { start = p; turn = turn_at p }))
starting_if p r true before is = is
starting_if p r false before is = begun_legal p r before is

tagged_legal : (name value : List ℕ) (r : Reading) → IsLegal r → IsLegal (with_tag name value r)
tagged_legal name value r is = record { lines = is.lines; no_moves = is.no_moves }

fen_keeps : (value : List ℕ) (r : Reading) (answer : Result Setup FenFault) → r.in_moves ≡ false → IsLegal r → Keeps (by_answer (λ p. with_tag (codes "FEN") value (starting p r)) what.Fen answer)
fen_keeps value r (Err fault) before is = tt
fen_keeps value r (Ok p) before is = tagged_legal (codes "FEN") value (starting p r) (starting_if p r (has_tag (codes "FEN") r.tags) before is)

tag_keeps : (name value : List ℕ) (r : Reading) → r.in_moves ≡ false → IsLegal r → Keeps (tag_effect name value r)
tag_keeps name value r before is =
    keeps_if (is_among roster_names name && has_tag name r.tags) _ _ tt
    (keeps_if (nat_lt 240 (length name) || nat_lt 255 (length value)) _ _ tt
    (keeps_if (is_named (codes "FEN") (record { name = name; value = value })) _ _ (fen_keeps value r (fen_answer value) before is) (tagged_legal name value r is)))

at_tag_keeps : (r : Reading) (in_moves : Bool) (e : Effect) → r.in_moves ≡ in_moves → (r.in_moves ≡ false → Keeps e) → Keeps (cond in_moves ends_before e)
at_tag_keeps r true e same keeps = tt
at_tag_keeps r false e same keeps = keeps same

-- ---- every token

keeps : (t : Token) (r : Reading) → IsLegal r → Keeps (effect t r)
unfolding effect
keeps (token.tag name value) r is =
    keeps_if (is_inside r) _ _ tt (at_tag_keeps r r.in_moves (tag_effect name value r) refl (λ before. tag_keeps name value r before is))
keeps token.bad_tag r is = keeps_if (is_inside r) _ _ tt (keeps_if r.in_moves _ _ tt tt)
keeps (token.comment text) r is = commented_legal text r is
keeps token.open_comment r is = tt
keeps (token.nag n) r is = nag_keeps n r is
keeps token.opens r is = opens_from r (nat_le deepest (length r.outer)) refl is
keeps token.closes r is = closes_keeps r r.outer refl is
keeps (token.ending outcome) r is = keeps_if (is_inside r) _ _ (moving_legal r is) tt
keeps token.number r is = moving_legal r is
keeps (token.move text) r is = move_keeps r (san_answer r.turn.now_at text) (san_legal r.turn.now_at text) is
keeps token.bad r is = tt
keeps token.the_end r is = keeps_if (is_inside r) _ _ tt tt

-- ---- steps

ends_legally : (e : End) (r s : Reading) → IsLegal r → EndsWell e r s → EndsLegally e s
ends_legally (end.Behind outcome) r s is well = subst IsLegal (sym well.0) is
ends_legally end.Before r s is well = subst IsLegal (sym well.0) is
ends_legally (end.Faulty fault) r s is well = tt

-- A token leaves what was read legal.
pub steps_legally : (t : Token) (step : Does) (r s : Reading) → IsLegal r → said_step step s ≡ effect t r → StepsWell step r s → StepsLegally step s
steps_legally t does.GoesOn r s is goes well = subst Keeps (sym goes) (keeps t r is)
steps_legally t (does.Ends e) r s is goes well = ends_legally e r s is well

-- ---- games

pub unread_legal : IsLegal unread
unread_legal = record {
  lines = record { lead = tt; level_within = omega arith; moves = refl };
  no_moves = λ e. record { done = refl; last = refl; outer = refl };
}

whole_line : (start : Setup) (line : Open) (turn : Turn) (outer : List Open) (places : List Turn) → places ≡ [] → AreLines start line turn outer places → IsLine 0 start line turn
whole_line start line turn [] [] outside are = are
whole_line start line turn (round ∷ outer) [] outside are = absurd are
whole_line start line turn outer (place ∷ places) outside are = absurd (cc)

game_legal : (r : Reading) → IsLegal r → r.outer ≡ [] → IsLegalGame (game_of r)
game_legal r is outside =
    let one = whole_line r.start r.moves.current r.turn r.moves.outer r.outer outside is.lines in
    let all = all_lead 0 r.start r.moves.current.done r.moves.current.last r.turn one.moves in
    let depth = leads_depth 0 r.start r.turn.now_at (and_last r.moves.current.done r.moves.current.last) one.level_within all in
    record {
      lead = one.lead;
      line = leads_legal 0 r.start r.turn.now_at (and_last r.moves.current.done r.moves.current.last) all;
      depth = omega (arith, depth);
    }

-- The game that was read, where no variation is open.
pub fit_game : (r : Reading) (head : Head) (game : GameTree) → IsLegal r → r.outer ≡ [] → game ≡ game_of r → IsBounded head → IsSettled head → IsFitGame head game
fit_game r head game is outside same bounded settled =
    record { legal = subst IsLegalGame (sym same) (game_legal r is outside); bounded = bounded; settled = settled }
