-- Where the moves of a line lead after each item that is added to it.
use Rattle.std.proofs.Common.{option_map, ◌≡◌, List, [], ◌∷◌, ◌++◌, Option, Some, None, refl, sym, ap, ◌∙◌, inl, inr}
use Rattle.std.proofs.lemmas.Grind.{fold-append}
use Rattle.std.specs.Prelude.{ℕ, fold}
use Rattle.cell_core.specs.declared.step.Move.{Move}
use Rattle.chess_laws.specs.declared.setup.Setup.{Setup}
use Rattle.chess_laws.specs.Step.{stepped}
use Rattle.game_tree.specs.Building.{Building, added, and_last, bare, more_comment, more_nags, more_variations, opening, read_line, with_comment_on, with_variation}
use Rattle.game_tree.specs.Item as item
use Rattle.game_tree.specs.Movetext.{as_comment}
use Rattle.game_tree.specs.Tree.{Line, Played, Variation, line_of, moves_of}
use Rattle.move_codec.specs.Numbers.{Numbered}
use Rattle.game_codec.specs.Leading.{Leads, LeadsOn}
use Rattle.game_codec.specs.Nests.{IsKept}
use Rattle.game_codec.specs.Place.{Place, after_move, beginning, numbered_after}

moves-append : (xs ys : List Played) → moves_of (line_of (xs ++ ys)) ≡ moves_of (line_of xs) ++ moves_of (line_of ys)
moves-append [] ys = refl
moves-append (x ∷ xs) ys = ap (λ (ms : List Move). x.mv ∷ ms) (moves-append xs ys)

-- What hangs on the last move leaves the moves as they are.
moves-hung : (f : Played → Played) (done : List Played) (last : Option Played) → ((p : Played) → (f p).mv ≡ p.mv)
    → moves_of (line_of (and_last done (option_map f last))) ≡ moves_of (line_of (and_last done last))
moves-hung f done None same = refl
moves-hung f done (Some p) same =
    moves-append done (f p ∷ []) ∙ ap (λ (m : Move). moves_of (line_of done) ++ m ∷ []) (same p) ∙ sym (moves-append done (p ∷ []))

moves-comment : (t lead : Option (List ℕ)) (done : List Played) (last : Option Played)
    → moves_of (read_line (with_comment_on t lead done last)) ≡ moves_of (line_of (and_last done last))
moves-comment t lead done None = refl
moves-comment t lead done (Some p) = moves-hung (more_comment t) done (Some p) (λ q. refl)

pub leads-move : (from : Setup) (b next : Building) (here after : Numbered) (m : Move) → next ≡ added (item.move m) b → after ≡ numbered_after here m
    → Leads from b here.position → Leads from next after.position
leads-move from b next here after m is at leads =
    let before : List Played = and_last b.current.done b.current.last in
    ap (λ (n : Building). fold stepped from (moves_of (read_line n.current))) is
    ∙ ap (λ (ms : List Move). fold stepped from ms) (moves-append before (bare m ∷ []))
    ∙ fold-append stepped from (moves_of (line_of before)) (m ∷ [])
    ∙ ap (λ (p : Setup). stepped p m) leads
    ∙ ap (λ (n : Numbered). n.position) (sym at)

pub leads-nag : (from to : Setup) (b next : Building) (n : ℕ) → next ≡ added (item.nag n) b → Leads from b to → Leads from next to
leads-nag from to b next n is leads =
    ap (λ (s : Building). fold stepped from (moves_of (read_line s.current))) is
    ∙ ap (λ (ms : List Move). fold stepped from ms) (moves-hung (more_nags n) b.current.done b.current.last (λ q. refl))
    ∙ leads

pub leads-comment : (from to : Setup) (b next : Building) (t : List ℕ) → next ≡ added (item.comment t) b → Leads from b to → Leads from next to
leads-comment from to b next t is leads =
    ap (λ (s : Building). fold stepped from (moves_of (read_line s.current))) is
    ∙ ap (λ (ms : List Move). fold stepped from ms) (moves-comment (as_comment t) b.current.lead b.current.done b.current.last)
    ∙ leads

pub leads-variation : (from to : Setup) (b next : Building) (v : Variation) → next ≡ record { current = with_variation v b.current; outer = b.outer }
    → Leads from b to → Leads from next to
leads-variation from to b next v is leads =
    ap (λ (s : Building). fold stepped from (moves_of (read_line s.current))) is
    ∙ ap (λ (ms : List Move). fold stepped from ms) (moves-hung (more_variations v) b.current.done b.current.last (λ q. refl))
    ∙ leads

-- The code's place behind a move has the position behind it.
pub kept-here : (p code : Place) (bytes : List ℕ) → IsKept p code bytes → code.here ≡ p.here
kept-here p code bytes kept =
    elim kept [
      | inl same ↦ ap (λ (q : Place). q.here) same
      | inr calm ↦ ap (λ (q : Place). q.here) calm.0
    ]

-- The whole main line leads from the start to its end.
pub leads-all : (start : Numbered) (p end : Place) (before b : Building) (line : Line) → p ≡ beginning 0 start → before ≡ opening → LeadsOn p before end b
    → line ≡ read_line b.current → end.here.position ≡ fold stepped start.position (moves_of line)
leads-all start p end before b line begins empty leads same =
    let first : Leads start.position before p.here.position =
    ap (λ (n : Building). fold stepped start.position (moves_of (read_line n.current))) empty ∙ ap (λ (q : Place). q.here.position) (sym begins)
    in
    sym (leads start.position first) ∙ ap (λ (l : Line). fold stepped start.position (moves_of l)) (sym same)
