-- What the code writes part by part is the written form.
use Rattle.std.proofs.Common.{◌≡◌, ℕ, ◌+◌, ◌<◌, ◌≤◌, List, [], ◌∷◌, ◌++◌, Option, Some, None, length, get_or, take, drop, arith, refl, sym, ap, subst, ◌∙◌, append_assoc, append-nil, true, false}
use Rattle.std.specs.Prelude.{fold}
use Rattle.std.proofs.lemmas.List.{drop_all, drop_more, take_all}
use Rattle.std.proofs.Math.ListN.{drop_of_length-le}
use Rattle.cell_core.specs.declared.step.Move.{Move}
use Rattle.chess_laws.specs.declared.setup.Setup.{Setup}
use Rattle.chess_laws.specs.Position.{start_setup, is_start}
use Rattle.chess_laws.specs.Step.{Step, stepped}
use Rattle.game_tree.specs.Movetext.{Movetext, end}
use Rattle.game_tree.specs.Legal.{IsLegalLine, AreLegalBranches}
use Rattle.game_tree.specs.Tree.{Line, ends, goes, Branches, none, more, Played, Variation, line_of, branches_of, moves_of}
use Rattle.game_tree.specs.Written.{movetext_of_game, nags_before, comment_before, movetext_of, variations_before}
use Rattle.chess_laws.proofs.Stepping.{Step-stepped}
use Rattle.move_codec.specs.Numbers.{Numbered, numbers_after, text_numbers, standard_numbers}
use Rattle.move_codec.specs.Packed.{encoding}
use Rattle.game_tree.specs.Game.{GameTree}
use Rattle.game_tree.specs.Replay.{main_moves, plies_of, position_at}
use Rattle.game_tree.specs.declared.head.Tag.{Tag}
use Rattle.chess_text.specs.Written.{fen_text}
use Rattle.game_codec.specs.Place.{numbered_after}
use Rattle.game_codec.specs.Texts.{texts_of, ended}
use Rattle.game_codec.specs.Written.{body_text, moves_text, numbered_start, promotion_flags, start_text, tags_text, written_record}
use Rattle.game_codec.specs.Writing.{comment_text, mark_text, nags_text, node_text, node_texts, variations_text, variations_texts, AddsStart}

-- Moves and marks

-- A line begins with a move, which stands on what was reached alone.
moves_text-before : (a b here : Numbered) (l : Line) → moves_text a here (movetext_of l) ≡ moves_text b here (movetext_of l)
moves_text-before a b here ends = refl
moves_text-before a b here (goes m ns comment variations l) = refl

moves-nags : (before here : Numbered) (ns : List ℕ) (s : Movetext) → moves_text before here (nags_before ns s) ≡ nags_text ns ++ moves_text before here s
moves-nags before here [] s = refl
moves-nags before here (n ∷ ns) s = ap (λ (bytes : List ℕ). 11 ∷ n ∷ bytes) (moves-nags before here ns s)

moves-comment : (before here : Numbered) (comment : Option (List ℕ)) (s : Movetext) → moves_text before here (comment_before comment s) ≡ mark_text comment ++ moves_text before here s
moves-comment before here None s = refl
moves-comment before here (Some text) s = refl

moves-variations : (before here : Numbered) (v : Branches) (s : Movetext) → moves_text before here (variations_before v s) ≡ variations_text before v ++ moves_text before here s
moves-variations before here none s = refl
moves-variations before here (more lead line others) s =
    let inner : List ℕ = moves_text before before (comment_before lead (movetext_of line)) in
    ap (λ (bytes : List ℕ). 13 ∷ inner ++ 14 ∷ bytes) (moves-variations before here others s)
    ∙ ap (λ (bytes : List ℕ). 13 ∷ bytes) (sym (append_assoc inner (14 ∷ variations_text before others) (moves_text before here s)))

-- A move and the rest of its line.
moves-node : (n : Numbered) (node : Played) (rest : List Played)
    → moves_text n n (movetext_of (line_of (node ∷ rest)))
    ≡ node_text n node ++ moves_text (numbered_after n node.mv) (numbered_after n node.mv) (movetext_of (line_of rest))
moves-node n node rest =
    let next : Numbered = numbered_after n node.mv in
    let later : List ℕ = moves_text next next (movetext_of (line_of rest)) in
    let first : List ℕ = encoding n node.mv in
    let nags : List ℕ = nags_text node.nags in
    let comment : List ℕ = mark_text node.comment in
    let variations : List ℕ = variations_text n node.variations in
    let inner : Movetext = variations_before node.variations (movetext_of (line_of rest)) in
    ap (λ (bytes : List ℕ). first ++ bytes) (moves-nags n next node.nags (comment_before node.comment inner))
    ∙ ap (λ (bytes : List ℕ). first ++ (nags ++ bytes)) (moves-comment n next node.comment inner)
    ∙ ap (λ (bytes : List ℕ). first ++ (nags ++ (comment ++ bytes))) (moves-variations n next node.variations (movetext_of (line_of rest)))
    ∙ ap (λ (bytes : List ℕ). first ++ (nags ++ (comment ++ (variations ++ bytes)))) (moves_text-before n next next (line_of rest))
    ∙ simp append_assoc refl

-- A move with its variations, which are written behind all else of it.
pub varied-node : (n : Numbered) (node : Played) (old own new : List ℕ)
    → own ≡ old ++ (encoding n node.mv ++ (nags_text node.nags ++ mark_text node.comment)) → new ≡ own ++ variations_text n node.variations
    → new ≡ old ++ node_text n node
varied-node n node old own new is wrote = wrote ∙ ap (λ (bytes : List ℕ). bytes ++ variations_text n node.variations) is ∙ simp append_assoc refl

pub varied-texts : (node : Played) (old own new : List ℕ) → own ≡ old ++ comment_text node.comment → new ≡ own ++ variations_texts node.variations
    → new ≡ old ++ node_texts node
varied-texts node old own new is wrote =
    wrote ∙ ap (λ (bytes : List ℕ). bytes ++ variations_texts node.variations) is ∙ append_assoc old (comment_text node.comment) (variations_texts node.variations)

-- A move without its variations, part by part.
pub own-node : (n : Numbered) (node : Played) (mv : Move) (nags bytes : List ℕ) (comment : Option (List ℕ)) (variations : Branches)
    (old packed nagged new : List ℕ) → record { mv = mv; nags = nags; comment = comment; variations = variations } ≡ node
    → bytes ≡ encoding n mv → packed ≡ old ++ bytes → nagged ≡ packed ++ nags_text nags → new ≡ nagged ++ mark_text comment
    → new ≡ old ++ (encoding n node.mv ++ (nags_text node.nags ++ mark_text node.comment))
own-node n node mv nags bytes comment variations old packed nagged new view is put_bytes put_nags put_mark =
    put_mark
    ∙ ap (λ (out : List ℕ). out ++ mark_text comment) (put_nags ∙ ap (λ (out : List ℕ). out ++ nags_text nags) (put_bytes ∙ ap (λ (out : List ℕ). old ++ out) is))
    ∙ simp append_assoc refl
    ∙ ap (λ (p : Played). old ++ (encoding n p.mv ++ (nags_text p.nags ++ mark_text p.comment))) view

-- A move without a variation.
pub plain-node : (n : Numbered) (node : Played) (old new : List ℕ) → node.variations ≡ none
    → new ≡ old ++ (encoding n node.mv ++ (nags_text node.nags ++ mark_text node.comment)) → new ≡ old ++ node_text n node
plain-node n node old new plain is = varied-node n node old new new is (sym (append-nil new) ∙ ap (λ (v : Branches). new ++ variations_text n v) (sym plain))

pub plain-texts : (node : Played) (old new : List ℕ) → node.variations ≡ none → new ≡ old ++ comment_text node.comment → new ≡ old ++ node_texts node
plain-texts node old new plain is = varied-texts node old new new is (sym (append-nil new) ∙ ap (λ (v : Branches). new ++ variations_texts v) (sym plain))

-- Texts

ended-append : (first second : List (List ℕ)) → ended (first ++ second) ≡ ended first ++ ended second
ended-append [] second = refl
ended-append (text ∷ first) second =
    ap (λ (bytes : List ℕ). text ++ 0 ∷ bytes) (ended-append first second) ∙ sym (append_assoc text (0 ∷ ended first) (ended second))

texts-nags : (ns : List ℕ) (s : Movetext) → ended (texts_of (nags_before ns s)) ≡ ended (texts_of s)
texts-nags [] s = refl
texts-nags (n ∷ ns) s = texts-nags ns s

texts-comment : (comment : Option (List ℕ)) (s : Movetext) → ended (texts_of (comment_before comment s)) ≡ comment_text comment ++ ended (texts_of s)
texts-comment None s = refl
texts-comment (Some text) s = sym (append_assoc text (0 ∷ []) (ended (texts_of s)))

texts-variations : (v : Branches) (s : Movetext) → ended (texts_of (variations_before v s)) ≡ variations_texts v ++ ended (texts_of s)
texts-variations none s = refl
texts-variations (more lead line others) s =
    let inner : List (List ℕ) = texts_of (comment_before lead (movetext_of line)) in
    ended-append inner (texts_of (variations_before others s))
    ∙ ap (λ (bytes : List ℕ). ended inner ++ bytes) (texts-variations others s)
    ∙ sym (append_assoc (ended inner) (variations_texts others) (ended (texts_of s)))
    ∙ ap (λ (bytes : List ℕ). bytes ++ ended (texts_of s)) (sym (ended-append inner (texts_of (variations_before others end))))

texts-node : (node : Played) (rest : List Played)
    → ended (texts_of (movetext_of (line_of (node ∷ rest)))) ≡ node_texts node ++ ended (texts_of (movetext_of (line_of rest)))
texts-node node rest =
    let later : List ℕ = ended (texts_of (movetext_of (line_of rest))) in
    let inner : Movetext = variations_before node.variations (movetext_of (line_of rest)) in
    texts-nags node.nags (comment_before node.comment inner)
    ∙ texts-comment node.comment inner
    ∙ ap (λ (bytes : List ℕ). comment_text node.comment ++ bytes) (texts-variations node.variations (movetext_of (line_of rest)))
    ∙ sym (append_assoc (comment_text node.comment) (variations_texts node.variations) later)

-- A loop's step: what is left gives the same as all

pub left_more : {A : Type 0} (xs : List A) (i : ℕ) (x : A) → i < length xs → x ≡ get_or xs i x → drop i xs ≡ x ∷ drop (i + 1) xs
left_more {A} xs i x under item = drop_more xs i x under ∙ ap (λ (y : A). y ∷ drop (i + 1) xs) (sym item)

-- One more part was written.
pub one_more : (left part later now next all : List ℕ) → left ≡ part ++ later → next ≡ now ++ part → now ++ left ≡ all → next ++ later ≡ all
one_more left part later now next all is wrote before =
    ap (λ (bytes : List ℕ). bytes ++ later) wrote ∙ append_assoc now part later ∙ ap (λ (bytes : List ℕ). now ++ bytes) (sym is) ∙ before

-- The position that a move has reached, with its numbers.
pub numbered-played : (n : Numbered) (m : Move) (q : Numbered) → Step n.position m q.position → q.numbers ≡ numbers_after n.position m n.numbers → q ≡ numbered_after n m
numbered-played n m q step numbers = λ i. record { position = Step-stepped n.position m q.position step i; numbers = numbers i }

pub moves-more : (n q : Numbered) (line : List Played) (i : ℕ) (node : Played) (now next all : List ℕ)
    → drop i line ≡ node ∷ drop (i + 1) line → q ≡ numbered_after n node.mv → next ≡ now ++ node_text n node
    → now ++ moves_text n n (movetext_of (line_of (drop i line))) ≡ all
    → next ++ moves_text q q (movetext_of (line_of (drop (i + 1) line))) ≡ all
moves-more n q line i node now next all left played wrote before =
    let rest : List Played = drop (i + 1) line in
    ap (λ (r : Numbered). next ++ moves_text r r (movetext_of (line_of rest))) played
    ∙ one_more (moves_text n n (movetext_of (line_of (drop i line)))) (node_text n node)
    (moves_text (numbered_after n node.mv) (numbered_after n node.mv) (movetext_of (line_of rest))) now next all
    (ap (λ (ps : List Played). moves_text n n (movetext_of (line_of ps))) left ∙ moves-node n node rest) wrote before

pub texts-more : (line : List Played) (i : ℕ) (node : Played) (now next all : List ℕ)
    → drop i line ≡ node ∷ drop (i + 1) line → next ≡ now ++ node_texts node
    → now ++ ended (texts_of (movetext_of (line_of (drop i line)))) ≡ all
    → next ++ ended (texts_of (movetext_of (line_of (drop (i + 1) line)))) ≡ all
texts-more line i node now next all left wrote before =
    let rest : List Played = drop (i + 1) line in
    one_more (ended (texts_of (movetext_of (line_of (drop i line))))) (node_texts node)
    (ended (texts_of (movetext_of (line_of rest)))) now next all
    (ap (λ (ps : List Played). ended (texts_of (movetext_of (line_of ps)))) left ∙ texts-node node rest) wrote before

pub legal-more : (n q : Numbered) (line : List Played) (i : ℕ) (node : Played) → drop i line ≡ node ∷ drop (i + 1) line
    → q ≡ numbered_after n node.mv → IsLegalLine n.position (line_of (drop i line)) → IsLegalLine q.position (line_of (drop (i + 1) line))
legal-more n q line i node left played legal =
    let all : IsLegalLine n.position (line_of (node ∷ drop (i + 1) line)) = subst (λ (ps : List Played). IsLegalLine n.position (line_of ps)) left legal in
    subst (λ (r : Numbered). IsLegalLine r.position (line_of (drop (i + 1) line))) (sym played) all.1.1.1

-- Where a line ends.
pub end-more : (n q : Numbered) (line : List Played) (i : ℕ) (node : Played) (last : Setup) → drop i line ≡ node ∷ drop (i + 1) line
    → q ≡ numbered_after n node.mv → fold stepped n.position (moves_of (line_of (drop i line))) ≡ last
    → fold stepped q.position (moves_of (line_of (drop (i + 1) line))) ≡ last
end-more n q line i node last left played before =
    ap (λ (r : Numbered). fold stepped r.position (moves_of (line_of (drop (i + 1) line)))) played
    ∙ ap (λ (ps : List Played). fold stepped n.position (moves_of (line_of ps))) (sym left)
    ∙ before

pub end-all : (n : Numbered) (line : List Played) (i : ℕ) (last : Setup) → length line ≤ i → fold stepped n.position (moves_of (line_of (drop i line))) ≡ last
    → n.position ≡ last
end-all n line i last over before = ap (λ (ps : List Played). fold stepped n.position (moves_of (line_of ps))) (sym (drop_all i line over)) ∙ before

pub game-ends : (game : GameTree) (line : Line) (start last : Setup) → game.line ≡ line → start ≡ game.start → last ≡ fold stepped start (moves_of line)
    → last ≡ position_at game (plies_of game)
game-ends game line start last same at leads =
    leads
    ∙ ap (λ (p : Setup). fold stepped p (moves_of line)) at
    ∙ ap (λ (l : Line). fold stepped game.start (moves_of l)) (sym same)
    ∙ ap (λ (moves : List Move). fold stepped game.start moves) (sym (take_all (plies_of game) (main_moves game) (omega arith)))

-- Behind a line's own comment.
pub texts-lead : (lead : Option (List ℕ)) (line : List Played) (i : ℕ) (old now last : List ℕ) → length line ≤ i → now ≡ old ++ comment_text lead
    → last ++ ended (texts_of (movetext_of (line_of (drop i line)))) ≡ now ++ ended (texts_of (movetext_of (line_of line)))
    → last ≡ old ++ ended (texts_of (comment_before lead (movetext_of (line_of line))))
texts-lead lead line i old now last whole wrote before =
    let all : List ℕ = ended (texts_of (movetext_of (line_of line))) in
    sym (append-nil last)
    ∙ ap (λ (ps : List Played). last ++ ended (texts_of (movetext_of (line_of ps)))) (sym (drop_of_length-le line whole))
    ∙ before
    ∙ ap (λ (bytes : List ℕ). bytes ++ all) wrote
    ∙ append_assoc old (comment_text lead) all
    ∙ ap (λ (bytes : List ℕ). old ++ bytes) (sym (texts-comment lead (movetext_of (line_of line))))

-- A variation between its two marks, and the variations behind it.
pub variations-more : (n : Numbered) (vs : List Variation) (i : ℕ) (v : Variation) (now opened inner next all : List ℕ)
    → drop i vs ≡ v ∷ drop (i + 1) vs → opened ≡ now ++ 13 ∷ [] → inner ≡ opened ++ moves_text n n (comment_before v.lead (movetext_of v.line))
    → next ≡ inner ++ 14 ∷ []
    → now ++ variations_text n (branches_of (drop i vs)) ≡ all
    → next ++ variations_text n (branches_of (drop (i + 1) vs)) ≡ all
variations-more n vs i v now opened inner next all left open_mark wrote close_mark before =
    let text : List ℕ = moves_text n n (comment_before v.lead (movetext_of v.line)) in
    let later : List ℕ = variations_text n (branches_of (drop (i + 1) vs)) in
    let part : List ℕ = 13 ∷ text ++ 14 ∷ [] in
    let grown : next ≡ now ++ part =
    close_mark ∙ ap (λ (bytes : List ℕ). bytes ++ 14 ∷ []) (wrote ∙ ap (λ (bytes : List ℕ). bytes ++ text) open_mark ∙ append_assoc now (13 ∷ []) text)
    ∙ append_assoc now (13 ∷ text) (14 ∷ []) in
    one_more (variations_text n (branches_of (drop i vs))) part later now next all
    (ap (λ (ps : List Variation). variations_text n (branches_of ps)) left ∙ ap (λ (bytes : List ℕ). 13 ∷ bytes) (sym (append_assoc text (14 ∷ []) later)))
    grown before

pub variations_texts-more : (vs : List Variation) (i : ℕ) (v : Variation) (now next all : List ℕ)
    → drop i vs ≡ v ∷ drop (i + 1) vs → next ≡ now ++ ended (texts_of (comment_before v.lead (movetext_of v.line)))
    → now ++ variations_texts (branches_of (drop i vs)) ≡ all
    → next ++ variations_texts (branches_of (drop (i + 1) vs)) ≡ all
variations_texts-more vs i v now next all left wrote before =
    let inner : List (List ℕ) = texts_of (comment_before v.lead (movetext_of v.line)) in
    one_more (variations_texts (branches_of (drop i vs))) (ended inner) (variations_texts (branches_of (drop (i + 1) vs))) now next all
    (
    ap (λ (ps : List Variation). variations_texts (branches_of ps)) left
    ∙ ended-append inner (texts_of (variations_before (branches_of (drop (i + 1) vs)) end))
    )
    wrote before

pub branches_legal-more : (p : Setup) (vs : List Variation) (i : ℕ) (v : Variation) → drop i vs ≡ v ∷ drop (i + 1) vs
    → AreLegalBranches p (branches_of (drop i vs)) → AreLegalBranches p (branches_of (drop (i + 1) vs))
branches_legal-more p vs i v left legal =
    let all : AreLegalBranches p (branches_of (v ∷ drop (i + 1) vs)) = subst (λ (ps : List Variation). AreLegalBranches p (branches_of ps)) left legal in
    all.1.1

-- The whole record

-- A start's own bytes, and what was written behind them.
behind_tags : (tagged start started moved marked all moves texts tags : List ℕ) → tagged ≡ tags ++ 0 ∷ [] → started ≡ tagged ++ start
    → moved ≡ started ++ moves → marked ≡ moved ++ 15 ∷ [] → all ≡ marked ++ texts → all ≡ tags ++ 0 ∷ (start ++ (moves ++ 15 ∷ texts))
behind_tags tagged start started moved marked all moves texts tags tags_are put_start put_moves put_end put_texts =
    put_texts
    ∙ ap (λ (bytes : List ℕ). bytes ++ texts)
    (put_end ∙ ap (λ (bytes : List ℕ). bytes ++ 15 ∷ [])
    (put_moves ∙ ap (λ (bytes : List ℕ). bytes ++ moves)
    (put_start ∙ ap (λ (bytes : List ℕ). bytes ++ start) tags_are)))
    ∙ simp append_assoc refl

same_body : (n m : Numbered) (s : Movetext) (moves texts : List ℕ) → n ≡ m → moves ≡ moves_text n n s → texts ≡ ended (texts_of s)
    → moves ++ 15 ∷ texts ≡ body_text m s
same_body n m s moves texts same moves_are texts_are =
    λ i. (moves_are ∙ ap (λ (k : Numbered). moves_text k k s) same) i ++ 15 ∷ texts_are i

pub record-writes : (tags : List Tag) (g : GameTree) (n : Numbered) (tagged started moved marked all moves texts : List ℕ)
    → tagged ≡ tags_text tags ++ 0 ∷ [] → AddsStart g.start (promotion_flags g) tagged started n
    → moves ≡ moves_text n n (movetext_of_game g) → texts ≡ ended (texts_of (movetext_of_game g))
    → moved ≡ started ++ moves → marked ≡ moved ++ 15 ∷ [] → all ≡ marked ++ texts → all ≡ written_record tags g
record-writes tags g n tagged started moved marked all moves texts tags_are start moves_are texts_are put_moves put_end put_texts =
    let begun : List ℕ = start_text (is_start g.start) g.start (promotion_flags g) in
    behind_tags tagged begun started moved marked all moves texts (tags_text tags) tags_are start.bytes put_moves put_end put_texts
    ∙ ap (λ (body : List ℕ). tags_text tags ++ 0 ∷ (begun ++ body))
    (same_body n (numbered_start (is_start g.start) g.start) (movetext_of_game g) moves texts start.start_is moves_are texts_are)

-- What the code has: the fields of a game.
pub game-writes : (tags : List Tag) (g : GameTree) (start : Setup) (lead : Option (List ℕ)) (items line : List Played)
    → record { start = start; lead = lead; line = line_of items } ≡ g → line ≡ items
    → (n : Numbered) (flags : ℕ) (tagged started moved marked all moves texts : List ℕ)
    → flags ≡ promotion_flags g → tagged ≡ tags_text tags ++ 0 ∷ [] → AddsStart start flags tagged started n
    → moves ≡ moves_text n n (comment_before lead (movetext_of (line_of line))) → texts ≡ ended (texts_of (comment_before lead (movetext_of (line_of line))))
    → moved ≡ started ++ moves → marked ≡ moved ++ 15 ∷ [] → all ≡ marked ++ texts → all ≡ written_record tags g
game-writes tags g start lead items line view line_is n flags tagged started moved marked all moves texts flags_are tags_are adds moves_are texts_are put_moves put_end put_texts =
    let made : GameTree = record { start = start; lead = lead; line = line_of items } in
    record-writes tags made n tagged started moved marked all moves texts tags_are
    (subst (λ (k : ℕ). AddsStart start k tagged started n) (flags_are ∙ sym (ap promotion_flags view)) adds)
    (moves_are ∙ ap (λ (ps : List Played). moves_text n n (comment_before lead (movetext_of (line_of ps)))) line_is)
    (texts_are ∙ ap (λ (ps : List Played). ended (texts_of (comment_before lead (movetext_of (line_of ps))))) line_is)
    put_moves put_end put_texts
    ∙ ap (written_record tags) view

-- The initial position, and an own start part by part.
pub standard-adds : (start : Setup) (flags : ℕ) (old new : List ℕ) (n : Numbered) → is_start start ≡ true → new ≡ old ++ flags ∷ []
    → n.position ≡ start_setup → n.numbers ≡ standard_numbers → AddsStart start flags old new n
standard-adds start flags old new n initial put_flags position numbers = record {
  bytes = rw initial put_flags;
  start_is = rw initial (λ i. record { position = position i; numbers = numbers i });
}

pub own-adds : (start : Setup) (flags : ℕ) (old opened filled new fen : List ℕ) (n : Numbered) → is_start start ≡ false
    → opened ≡ old ++ (1 + flags) ∷ [] → fen ≡ fen_text start → filled ≡ opened ++ fen → new ≡ filled ++ 0 ∷ []
    → n.position ≡ start → n.numbers ≡ text_numbers start.board → AddsStart start flags old new n
own-adds start flags old opened filled new fen n own put_flags fen_is put_fen put_zero position numbers = record {
  bytes =
      rw own
      (put_zero
      ∙ ap (λ (bytes : List ℕ). bytes ++ 0 ∷ []) (put_fen ∙ (λ i. put_flags i ++ fen_is i))
      ∙ ap (λ (bytes : List ℕ). bytes ++ 0 ∷ []) (append_assoc old ((1 + flags) ∷ []) (fen_text start))
      ∙ append_assoc old ((1 + flags) ∷ fen_text start) (0 ∷ []));
  start_is = rw own (λ i. record { position = position i; numbers = numbers i });
}
