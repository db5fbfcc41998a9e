-- What the code writes part by part are the tokens of the game.
use Rattle.std.proofs.Common.{◌≡◌, ℕ, ◌+◌, ◌≤◌, ◌<◌, List, [], ◌∷◌, ◌++◌, Option, Some, None, Bool, true, false, length, get_or, drop, refl, sym, ap, subst, ◌∙◌, append_assoc, length-append, arith}
use Rattle.std.specs.Prelude.{◌||◌, ◌==◌, not, if◌then◌else◌, is_some, codes}
use Rattle.std.specs.Fmt.{decimal}
use Rattle.std.proofs.lemmas.List.{drop_more}
use Rattle.std.proofs.lemmas.Bool.Decides.{nat_tests}
use Rattle.cell_core.specs.declared.man.Colour.{Colour}
use Rattle.cell_core.specs.declared.man.Colour.TheVariants.{White, Black}
use Rattle.cell_core.specs.declared.step.Move.{Move}
use Rattle.cell_core.specs.Man.{other}
use Rattle.chess_laws.specs.declared.setup.Setup.{Setup}
use Rattle.chess_laws.specs.Step.{stepped}
use Rattle.chess_text.specs.SanText.{san_text}
use Rattle.game_tree.specs.Movetext.{Movetext}
use Rattle.game_tree.specs.Legal.{IsLegalLine, AreLegalBranches}
use Rattle.game_tree.specs.Tree.{Line, ends, goes, Branches, none, more, Played, Variation, line_of, branches_of}
use Rattle.game_tree.specs.Written.{nags_before, comment_before, movetext_of, variations_before}
use Rattle.pgn_write.specs.Token.{Token, number, token_text}
use Rattle.pgn_write.specs.Token as token
use Rattle.pgn_write.specs.Layout.{holds_next}
use Rattle.pgn_write.specs.Tokens.{Turn, tokens_from, turn_behind, number_due, number_behind}
use Rattle.pgn_write.specs.Writing.{Writing, lead_in, flushed, ready, grown, put, put_all, is_closing, size, IsLow, turn, move_tokens, nag_tokens, comment_tokens, branch_tokens, own_tokens, node_tokens, has_variations, is_resumed}

-- Tokens one behind the other.
pub put_all-append : (first second : List Token) (w : Writing) → put_all (first ++ second) w ≡ put_all second (put_all first w)
put_all-append [] second w = refl
put_all-append (t ∷ first) second w = put_all-append first second (put t w)

-- Sizes only grow.

choice-size : (b : Bool) (w : Writing) → size w ≤ size (if b then w else flushed w)
choice-size true w = omega arith
choice-size false w =
    let written = length-append w.written (lead_in w.column w.unit ++ w.unit) in
    let unit = length-append (lead_in w.column w.unit) w.unit in
    omega (arith, written, unit)

ready-size : (closing : Bool) (w : Writing) → size w ≤ size (ready closing w)
ready-size closing w = choice-size (w.holds || closing) w

grown-size : (bytes : List ℕ) (holding : Bool) (w : Writing) → size (grown bytes holding w) ≡ size w + length bytes
grown-size bytes holding w = let unit = length-append w.unit bytes in omega (arith, unit)

put-size : (t : Token) (w : Writing) → size w + length (token_text t) ≤ size (put t w)
put-size t w =
    let before = ready-size (is_closing t) w in
    let behind = grown-size (token_text t) (holds_next t) (ready (is_closing t) w) in
    omega (arith, before, behind)

pub put_all-size : (ts : List Token) (w : Writing) → size w ≤ size (put_all ts w)
put_all-size [] w = omega arith
put_all-size (t ∷ ts) w =
    let first = put-size t w in
    let others = put_all-size ts (put t w) in
    omega (arith, first, others)

pub low-more : (side : Colour) (n before behind : ℕ) → before ≤ behind → IsLow side n before → IsLow side n behind
low-more White n before behind grew low = omega (arith, grew, low)
low-more Black n before behind grew low = omega (arith, grew, low)

-- Behind more tokens a number is as low as before.
pub low-put_all : (side : Colour) (n : ℕ) (ts : List Token) (w later : Writing) → later ≡ put_all ts w → IsLow side n (size w) → IsLow side n (size later)
low-put_all side n ts w later is low =
    subst (λ (x : Writing). IsLow side n (size x)) (sym is) (low-more side n (size w) (size (put_all ts w)) (put_all-size ts w) low)

pub low-bound : (side : Colour) (n bytes : ℕ) → IsLow side n bytes → n ≤ bytes
low-bound White n bytes low = low
low-bound Black n bytes low = omega (arith, low)

number-size : (n : ℕ) (w : Writing) → size w + 1 ≤ size (put (number n White) w)
number-size n w =
    let grew = put-size (number n White) w in
    let text = length-append (decimal n) (codes ". ") in
    omega (arith, grew, text)

low-side : (side : Colour) (n : ℕ) (r : Bool) (san : List ℕ) (rest : List Token) (w : Writing) → IsLow side n (size w)
    → IsLow (other side) (number_behind side n) (size (put_all ((number_due side n r ++ token.move san ∷ []) ++ rest) w))
low-side White n r san rest w low =
    let first = number-size n w in
    let others = put_all-size (token.move san ∷ rest) (put (number n White) w) in
    omega (arith, first, others, low)
low-side Black n r san rest w low =
    let grew = put_all-size ((number_due Black n r ++ token.move san ∷ []) ++ rest) w in
    omega (arith, grew, low)

stepped-side : (p : Setup) (m : Move) → (stepped p m).side ≡ other p.side
unfolding stepped
stepped-side p m = refl

-- The next number is low behind a move.
pub low-next : (p q : Setup) (n n' : ℕ) (resumed : Bool) (played : Played) (w later : Writing) → q ≡ stepped p played.mv → n' ≡ number_behind p.side n
    → later ≡ put_all (node_tokens (turn p n) resumed played) w → IsLow p.side n (size w) → IsLow q.side n' (size later)
low-next p q n n' resumed played w later stepping counted is low =
    let rest : List Token = nag_tokens played.nags ++ (comment_tokens played.comment ++ branch_tokens (turn p n) played.variations) in
    let behind = low-side p.side n resumed (san_text p played.mv) rest w low in
    let side : q.side ≡ other p.side = ap (λ (x : Setup). x.side) stepping ∙ stepped-side p played.mv in
    subst (λ (c : Colour). IsLow c n' (size later)) (sym side)
    (subst (λ (k : ℕ). IsLow (other p.side) k (size later)) (sym counted)
    (subst (λ (x : Writing). IsLow (other p.side) (number_behind p.side n) (size x)) (sym is) behind))

-- The tokens of a movetext, part by part.

tokens-nags : (before here : Turn) (r : Bool) (ns : List ℕ) (s : Movetext) → tokens_from before here r (nags_before ns s) ≡ nag_tokens ns ++ tokens_from before here r s
tokens-nags before here r [] s = refl
tokens-nags before here r (n ∷ ns) s = ap (λ (ts : List Token). token.nag n ∷ ts) (tokens-nags before here r ns s)

pub tokens-comment : (before here : Turn) (r : Bool) (comment : Option (List ℕ)) (s : Movetext)
    → tokens_from before here r (comment_before comment s) ≡ comment_tokens comment ++ tokens_from before here (is_some comment || r) s
tokens-comment before here r None s = refl
tokens-comment before here r (Some text) s = refl

or-true : (v : Branches) → (has_variations v || true) ≡ true
or-true none = refl
or-true (more lead line others) = refl

tokens-variations : (before here : Turn) (r : Bool) (v : Branches) (s : Movetext)
    → tokens_from before here r (variations_before v s) ≡ branch_tokens before v ++ tokens_from before here (has_variations v || r) s
tokens-variations before here r none s = refl
tokens-variations before here r (more lead line others) s =
    let inner : List Token = tokens_from before before true (comment_before lead (movetext_of line)) in
    ap (λ (ts : List Token). token.opens ∷ inner ++ token.closes ∷ ts)
    (tokens-variations before here true others s ∙ ap (λ (b : Bool). branch_tokens before others ++ tokens_from before here b s) (or-true others))
    ∙ ap (λ (ts : List Token). token.opens ∷ ts) (sym (append_assoc inner (token.closes ∷ branch_tokens before others) (tokens_from before here true s)))

-- A line begins with a move, which stands on what was reached alone.
tokens-before : (a b here : Turn) (r : Bool) (l : Line) → tokens_from a here r (movetext_of l) ≡ tokens_from b here r (movetext_of l)
tokens-before a b here r ends = refl
tokens-before a b here r (goes m ns comment variations l) = refl

resumed-is : (comment variations : Bool) → (variations || (comment || false)) ≡ (comment || variations)
resumed-is true true = refl
resumed-is true false = refl
resumed-is false true = refl
resumed-is false false = refl

-- A move and the rest of its line.
tokens-node : (t : Turn) (r : Bool) (node : Played) (rest : List Played)
    → tokens_from t t r (movetext_of (line_of (node ∷ rest)))
    ≡ node_tokens t r node ++ tokens_from (turn_behind t node.mv) (turn_behind t node.mv) (is_resumed node) (movetext_of (line_of rest))
tokens-node t r node rest =
    let next : Turn = turn_behind t node.mv in
    let first : List Token = move_tokens t r node.mv in
    let nags : List Token = nag_tokens node.nags in
    let comment : List Token = comment_tokens node.comment in
    let variations : List Token = branch_tokens t node.variations in
    let last : Movetext = movetext_of (line_of rest) in
    let inner : Movetext = variations_before node.variations last in
    let mid : Movetext = nags_before node.nags (comment_before node.comment inner) in
    sym (append_assoc (number_due t.position.side t.number r) (token.move (san_text t.position node.mv) ∷ []) (tokens_from t next false mid))
    ∙ ap (λ (ts : List Token). first ++ ts) (tokens-nags t next false node.nags (comment_before node.comment inner))
    ∙ ap (λ (ts : List Token). first ++ (nags ++ ts)) (tokens-comment t next false node.comment inner)
    ∙ ap (λ (ts : List Token). first ++ (nags ++ (comment ++ ts))) (tokens-variations t next (is_some node.comment || false) node.variations last)
    ∙ ap (λ (b : Bool). first ++ (nags ++ (comment ++ (variations ++ tokens_from t next b last)))) (resumed-is (is_some node.comment) (has_variations node.variations))
    ∙ ap (λ (ts : List Token). first ++ (nags ++ (comment ++ (variations ++ ts)))) (tokens-before t next next (is_resumed node) (line_of rest))
    ∙ simp append_assoc refl

-- A loop's step: what is left gives the same as all

pub left_more : {A : Type 0} (xs : List A) (i : ℕ) (x : A) → i < length xs → x ≡ get_or xs i x → drop i xs ≡ x ∷ drop (i + 1) xs
left_more {A} xs i x under item = drop_more xs i x under ∙ ap (λ (y : A). y ∷ drop (i + 1) xs) (sym item)

-- One more move of a line was written.
pub line-more : (p q : Setup) (n n' : ℕ) (r : Bool) (line : List Played) (i : ℕ) (node : Played) (now next all : Writing)
    → drop i line ≡ node ∷ drop (i + 1) line → q ≡ stepped p node.mv → n' ≡ number_behind p.side n → next ≡ put_all (node_tokens (turn p n) r node) now
    → put_all (tokens_from (turn p n) (turn p n) r (movetext_of (line_of (drop i line)))) now ≡ all
    → put_all (tokens_from (turn q n') (turn q n') (is_resumed node) (movetext_of (line_of (drop (i + 1) line)))) next ≡ all
line-more p q n n' r line i node now next all left played counted wrote before =
    let rest : Movetext = movetext_of (line_of (drop (i + 1) line)) in
    let later : List Token = tokens_from (turn_behind (turn p n) node.mv) (turn_behind (turn p n) node.mv) (is_resumed node) rest in
    (λ k. put_all (tokens_from (turn (played k) (counted k)) (turn (played k) (counted k)) (is_resumed node) rest) (wrote k))
    ∙ sym (put_all-append (node_tokens (turn p n) r node) later now)
    ∙ ap (λ (ts : List Token). put_all ts now) (sym (tokens-node (turn p n) r node (drop (i + 1) line)))
    ∙ ap (λ (ps : List Played). put_all (tokens_from (turn p n) (turn p n) r (movetext_of (line_of ps))) now) (sym left)
    ∙ before

-- A move with its NAGs and its comment was written.
pub own-put : (t : Turn) (r : Bool) (node : Played) (w first second third : Writing)
    → first ≡ put_all (move_tokens t r node.mv) w → second ≡ put_all (nag_tokens node.nags) first → third ≡ put_all (comment_tokens node.comment) second
    → third ≡ put_all (own_tokens t r node) w
own-put t r node w first second third moved noted said =
    let nags : List Token = nag_tokens node.nags in
    let comment : List Token = comment_tokens node.comment in
    said
    ∙ ap (λ (x : Writing). put_all comment x) noted
    ∙ ap (λ (x : Writing). put_all comment (put_all nags x)) moved
    ∙ sym (
    put_all-append (move_tokens t r node.mv) (nags ++ comment) w
    ∙ put_all-append nags comment (put_all (move_tokens t r node.mv) w))

-- A move with all that stands behind it was written.
pub node-put : (t : Turn) (r : Bool) (node : Played) (w own last : Writing)
    → own ≡ put_all (own_tokens t r node) w → last ≡ put_all (branch_tokens t node.variations) own → last ≡ put_all (node_tokens t r node) w
node-put t r node w own last wrote varied =
    let first : List Token = move_tokens t r node.mv in
    let nags : List Token = nag_tokens node.nags in
    let comment : List Token = comment_tokens node.comment in
    let variations : List Token = branch_tokens t node.variations in
    varied
    ∙ ap (λ (x : Writing). put_all variations x) wrote
    ∙ sym (put_all-append (own_tokens t r node) variations w)
    ∙ ap (λ (ts : List Token). put_all ts w)
    (append_assoc first (nags ++ comment) variations ∙ ap (λ (ts : List Token). first ++ ts) (append_assoc nags comment variations))

-- Where there is no variation, nothing is written of one.
pub no-branches : (t : Turn) (b : Branches) (w : Writing) → has_variations b ≡ false → w ≡ put_all (branch_tokens t b) w
no-branches t none w without = refl
no-branches t (more lead line others) w without = absurd (cc)

pub legal-more : (p q : Setup) (line : List Played) (i : ℕ) (node : Played) → drop i line ≡ node ∷ drop (i + 1) line
    → q ≡ stepped p node.mv → IsLegalLine p (line_of (drop i line)) → IsLegalLine q (line_of (drop (i + 1) line))
legal-more p q line i node left played legal =
    let all : IsLegalLine p (line_of (node ∷ drop (i + 1) line)) = subst (λ (ps : List Played). IsLegalLine p (line_of ps)) left legal in
    subst (λ (r : Setup). IsLegalLine r (line_of (drop (i + 1) line))) (sym played) all.1.1.1

-- One more variation was written.

abbrev pub one_branch : Turn → Variation → List Token
one_branch t v = token.opens ∷ tokens_from t t true (comment_before v.lead (movetext_of v.line)) ++ token.closes ∷ []

pub branch-put : (t : Turn) (v : Variation) (now opened inner next : Writing)
    → opened ≡ put token.opens now → inner ≡ put_all (tokens_from t t true (comment_before v.lead (movetext_of v.line))) opened → next ≡ put token.closes inner
    → next ≡ put_all (one_branch t v) now
branch-put t v now opened inner next begins goes-on stops =
    let middle : List Token = tokens_from t t true (comment_before v.lead (movetext_of v.line)) in
    stops
    ∙ ap (λ (x : Writing). put token.closes x) goes-on
    ∙ ap (λ (x : Writing). put token.closes (put_all middle x)) begins
    ∙ sym (put_all-append middle (token.closes ∷ []) (put token.opens now))

pub branches-more : (t : Turn) (vs : List Variation) (i : ℕ) (v : Variation) (now next all : Writing)
    → drop i vs ≡ v ∷ drop (i + 1) vs → next ≡ put_all (one_branch t v) now
    → put_all (branch_tokens t (branches_of (drop i vs))) now ≡ all
    → put_all (branch_tokens t (branches_of (drop (i + 1) vs))) next ≡ all
branches-more t vs i v now next all left wrote before =
    let rest : List Token = branch_tokens t (branches_of (drop (i + 1) vs)) in
    let middle : List Token = tokens_from t t true (comment_before v.lead (movetext_of v.line)) in
    ap (λ (x : Writing). put_all rest x) wrote
    ∙ sym (put_all-append (one_branch t v) rest now)
    ∙ ap (λ (ts : List Token). put_all ts (put token.opens now)) (append_assoc middle (token.closes ∷ []) rest)
    ∙ ap (λ (ws : List Variation). put_all (branch_tokens t (branches_of ws)) now) (sym left)
    ∙ before

pub branches_legal-more : (p : Setup) (vs : List Variation) (i : ℕ) (v : Variation) → drop i vs ≡ v ∷ drop (i + 1) vs
    → AreLegalBranches p (branches_of (drop i vs)) → AreLegalBranches p (branches_of (drop (i + 1) vs))
branches_legal-more p vs i v left legal =
    let all : AreLegalBranches p (branches_of (v ∷ drop (i + 1) vs)) = subst (λ (ws : List Variation). AreLegalBranches p (branches_of ws)) left legal in
    all.1.1

-- Whether a move has variations.
pub has-length : (vs : List Variation) → not (length vs == 0) ≡ has_variations (branches_of vs)
has-length [] = refl
has-length (v ∷ vs) = grind (arith, nat_tests)

pub ruleset variations_there = (has-length)
