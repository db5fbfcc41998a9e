-- The movetext of a legal game can be read, and is read as that of the game with brackets for the braces of its comments.
use Rattle.std.proofs.Common.{◌≡◌, ◌≢◌, ◌≤◌, ◌<◌, ◌+◌, ◌==◌, ℕ, suc, Bool, true, false, cond, List, [], ◌∷◌, map, Option, Some, None, option_map, refl, ap, ◌∙◌, arith}
use Rattle.std.specs.List.{AllByRecursion}
use Rattle.std.proofs.lemmas.Bool.{ne_eqb}
use Rattle.std.proofs.lemmas.List.Elements.{recursion_from_All}
use Rattle.chess_laws.specs.declared.setup.Setup.{Setup}
use Rattle.chess_laws.specs.Position.{Sound}
use Rattle.chess_laws.specs.Step.{Legal, stepped}
use Rattle.game_tree.specs.Building.{opening, read_line, built}
use Rattle.game_tree.specs.Comments.{line_with_comments, branches_with_comments, with_comments, KeepsTexts}
use Rattle.game_tree.specs.Game.{GameTree}
use Rattle.game_tree.specs.Kept.{IsCommentText, IsLine, AreBranches, IsGame}
use Rattle.game_tree.specs.Legal.{IsLegalLine, AreLegalBranches, IsLegalGame}
use Rattle.game_tree.specs.Movetext.{Movetext, move, nag, variation, items_of, Said}
use Rattle.game_tree.specs.Tree.{Line, ends, goes, Branches, none, more, depth_of, depth_within}
use Rattle.game_tree.specs.Written.{nags_before, comment_before, movetext_of, variations_before, movetext_of_game}
use Rattle.game_tree.proofs.CommentLemmas.{IsLegalGame-comments}
use Rattle.game_tree.proofs.MovetextLemmas.{Reads, built-items_of}
use Rattle.game_tree.proofs.WrittenLemmas.{meaning-written, HasComments-legal}
use Rattle.pgn_write.specs.Token.{without_brace}
use Rattle.pgn_read.specs.Bytes.{has_zero}
use Rattle.pgn_read.specs.Reading.{Reading, game_of}
use Rattle.pgn_laws.proofs.SanLaws.{stepped_sound}
use Rattle.pgn_laws.proofs.MovetextLaws.{bracketed, IsReadable}

-- ---- a legal game can be read

no_zero : (byte : ℕ) (c : Bool) → byte ≢ 0 → (cond c 41 byte == 0) ≡ false
no_zero byte true some = refl
no_zero byte false some = ne_eqb byte 0 some

zero_free_in : (text : List ℕ) → AllByRecursion (λ byte. byte ≢ 0) text → has_zero (map without_brace text) ≡ false
zero_free_in [] free = refl
zero_free_in (byte ∷ text) free = rw (no_zero byte (byte == 125) free.0) (zero_free_in text free.1)

comment_able : (level : ℕ) (before here : Setup) (moved : Bool) (c : Option (List ℕ)) (s : Movetext) → IsCommentText c
    → IsReadable level before here moved s → IsReadable level before here moved (comment_before c s)
comment_able level before here moved None s free able = able
comment_able level before here moved (Some text) s free able = (zero_free_in text (recursion_from_All (λ byte. byte ≢ 0) text free), able)

nags_able : (level : ℕ) (before here : Setup) (moved : Bool) (ns : List ℕ) (s : Movetext) → moved ≡ true → AllByRecursion (λ n. n < 256) ns
    → IsReadable level before here moved s → IsReadable level before here moved (nags_before ns s)
nags_able level before here moved [] s is small able = able
nags_able level before here moved (n ∷ ns) s is small able = ((is, small.0), nags_able level before here moved ns s is small.1 able)

mutual
  line_able : (level : ℕ) (before p : Setup) (moved : Bool) (l : Line) → Sound p → IsLegalLine p l → IsLine l → level + depth_of l ≤ 200
      → IsReadable level before p moved (movetext_of l)
  line_able level before p moved ends sound legal kept deep = tt
  line_able level before p moved (goes m n c v l) sound legal kept deep =
      let ok : Legal p m = (stepped p m, legal.0) in
      let q : Setup = stepped p m in
      let rest : Movetext = movetext_of l in (
        (sound, ok),
        nags_able level p q true n (comment_before c (variations_before v rest)) refl (recursion_from_All (λ nag. nag < 256) n kept.0)
            (comment_able level p q true c (variations_before v rest) kept.1.0
            (branches_able level p q v rest sound legal.1.1.0 kept.1.1.0 (omega (arith, deep))
            (line_able level p q true l (stepped_sound p m sound ok) legal.1.1.1 kept.1.1.1 (omega (arith, deep))))),
      )

  branches_able : (level : ℕ) (before here : Setup) (v : Branches) (s : Movetext) → Sound before → AreLegalBranches before v → AreBranches v
      → level + depth_within v ≤ 200 → IsReadable level before here true s → IsReadable level before here true (variations_before v s)
  branches_able level before here none s sound legal kept deep able = able
  branches_able level before here (more lead line others) s sound legal kept deep able =
      let under : level < 200 = omega (arith, deep) in
      let inside : suc level + depth_of line ≤ 200 = omega (arith, deep) in (
        (refl, under),
        (
          comment_able (suc level) before before false lead (movetext_of line) kept.0
              (line_able (suc level) before before false line sound legal.1.0 kept.1.0 inside),
          branches_able level before here others s sound legal.1.1 kept.1.1 (omega (arith, deep)) able,
        ),
      )

pub game_able : (g : GameTree) → IsLegalGame g → IsGame g → IsReadable 0 g.start g.start false (movetext_of_game g)
game_able g legal kept =
    comment_able 0 g.start g.start false g.lead (movetext_of g.line) kept.lead
    (line_able 0 g.start g.start false g.line kept.start legal.line kept.line (omega (arith, legal.depth)))

-- ---- it is read as the game with brackets

bracketed_nags : (ns : List ℕ) (s : Movetext) → bracketed (nags_before ns s) ≡ nags_before ns (bracketed s)
bracketed_nags [] s = refl
bracketed_nags (n ∷ ns) s = ap (nag n) (bracketed_nags ns s)

bracketed_comment : (c : Option (List ℕ)) (s : Movetext) → bracketed (comment_before c s) ≡ comment_before (option_map (map without_brace) c) (bracketed s)
bracketed_comment None s = refl
bracketed_comment (Some text) s = refl

mutual
  bracketed_line : (l : Line) → bracketed (movetext_of l) ≡ movetext_of (line_with_comments (map without_brace) l)
  bracketed_line ends = refl
  bracketed_line (goes m n c v l) =
      let rest : Movetext = movetext_of l in
      ap (move m) (bracketed_nags n (comment_before c (variations_before v rest))
      ∙ ap (nags_before n) (bracketed_comment c (variations_before v rest)
      ∙ ap (comment_before (option_map (map without_brace) c)) (bracketed_branches v rest
      ∙ ap (variations_before (branches_with_comments (map without_brace) v)) (bracketed_line l))))

  bracketed_branches : (v : Branches) (s : Movetext)
      → bracketed (variations_before v s) ≡ variations_before (branches_with_comments (map without_brace) v) (bracketed s)
  bracketed_branches none s = refl
  bracketed_branches (more lead line others) s =
      let inner = bracketed_comment lead (movetext_of line) ∙ ap (comment_before (option_map (map without_brace) lead)) (bracketed_line line) in
      let rest = bracketed_branches others s in
      λ i. variation (inner i) (rest i)

bracketed_game : (g : GameTree) → bracketed (movetext_of_game g) ≡ movetext_of_game (with_comments (map without_brace) g)
bracketed_game g = bracketed_comment g.lead (movetext_of g.line) ∙ ap (comment_before (option_map (map without_brace) g.lead)) (bracketed_line g.line)

keeps_texts : KeepsTexts (map without_brace)
keeps_texts [] some = absurd (some refl)
keeps_texts (byte ∷ text) some = λ none. absurd (cc)

pub game_read : (g : GameTree) (r : Reading) → IsLegalGame g → r.start ≡ g.start → r.moves ≡ built (items_of (bracketed (movetext_of_game g))) opening
    → game_of r ≡ with_comments (map without_brace) g
game_read g r legal start moves =
    let read : GameTree = with_comments (map without_brace) g in
    let is : IsLegalGame read = IsLegalGame-comments (map without_brace) keeps_texts g legal in
    let said = meaning-written read.lead read.line is.lead (HasComments-legal read.start read.line is.line) in
    let reads : Reads (movetext_of_game read) r.moves =
    built-items_of (movetext_of_game read) r.moves (moves ∙ ap (λ s. built (items_of s) opening) (bracketed_game g)) in
    let lead : r.moves.current.lead ≡ read.lead = reads.lead ∙ ap (λ (t : Said). t.comment) said in
    let line : read_line r.moves.current ≡ read.line = reads.line ∙ ap (λ (t : Said). t.line) said in
    λ i. record { start = start i; lead = lead i; line = line i }
