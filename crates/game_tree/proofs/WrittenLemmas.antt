-- A tree is what its items mean in the order in which they are written.
use Rattle.std.proofs.Common.{◌≡◌, ℕ, List, [], ◌∷◌, Option, Some, None, refl, ap, ◌∙◌}
use Rattle.chess_laws.specs.declared.setup.Setup.{Setup}
use Rattle.chess_laws.specs.Step.{stepped}
use Rattle.game_tree.specs.Tree.{Line, ends, goes, Branches, none, more}
use Rattle.game_tree.specs.Movetext.{Movetext, as_comment, joined, Said, meaning}
use Rattle.game_tree.specs.Legal.{IsComment, IsLegalLine, AreLegalBranches}
use Rattle.game_tree.specs.Written.{nags_before, comment_before, movetext_of, variations_before, HasComments, HaveComments}

-- What is said before a line.
abbrev said : List ℕ → Option (List ℕ) → Branches → Line → Said
said n c v l = record { nags = n; comment = c; variations = v; line = l }

as_comment-some : (text : List ℕ) → IsComment (Some text) → as_comment text ≡ Some text
as_comment-some [] some = absurd (some refl)
as_comment-some (c ∷ cs) some = refl

meaning-comment : (c : Option (List ℕ)) → IsComment c → (s : Movetext) (v : Branches) (l : Line) → meaning s ≡ said [] None v l → meaning (comment_before c s) ≡ said [] c v l
meaning-comment None is s v l e = e
meaning-comment (Some text) is s v l e =
    ap (λ (r : Said). said r.nags (joined (as_comment text) r.comment) r.variations r.line) e
    ∙ ap (λ (t : Option (List ℕ)). said [] (joined t None) v l) (as_comment-some text is)

meaning-nags : (n : List ℕ) (c : Option (List ℕ)) (s : Movetext) (v : Branches) (l : Line) → meaning s ≡ said [] c v l → meaning (nags_before n s) ≡ said n c v l
meaning-nags [] c s v l e = e
meaning-nags (n ∷ ns) c s v l e = ap (λ (r : Said). said (n ∷ r.nags) r.comment r.variations r.line) (meaning-nags ns c s v l e)

mutual
  pub meaning-movetext_of : (l : Line) → HasComments l → meaning (movetext_of l) ≡ said [] None none l
  meaning-movetext_of ends is = refl
  meaning-movetext_of (goes m n c v l) is =
      ap (λ (r : Said). said [] None none (goes m r.nags r.comment r.variations r.line))
      (meaning-nags n c (comment_before c (variations_before v (movetext_of l))) v l
      (meaning-comment c is.0 (variations_before v (movetext_of l)) v l
      (meaning-variations v is.1.0 (movetext_of l) l (meaning-movetext_of l is.1.1))))

  pub meaning-variations : (v : Branches) → HaveComments v → (s : Movetext) (l : Line) → meaning s ≡ said [] None none l → meaning (variations_before v s) ≡ said [] None v l
  meaning-variations none is s l e = e
  meaning-variations (more lead line others) is s l e =
      let inner = meaning-comment lead is.0 (movetext_of line) none line (meaning-movetext_of line is.1.0) in
      let rest = meaning-variations others is.1.1 s l e in
      λ i. said (rest i).nags (rest i).comment (more (inner i).comment (inner i).line (rest i).variations) (rest i).line

-- The whole game: its comment, and its line.
pub meaning-written : (lead : Option (List ℕ)) (l : Line) → IsComment lead → HasComments l → meaning (comment_before lead (movetext_of l)) ≡ said [] lead none l
meaning-written lead l some is = meaning-comment lead some (movetext_of l) none l (meaning-movetext_of l is)

-- A legal line has no empty comment.
mutual
  pub HasComments-legal : (p : Setup) (l : Line) → IsLegalLine p l → HasComments l
  HasComments-legal p ends is = tt
  HasComments-legal p (goes m n c v l) is = (is.1.0, (HaveComments-legal p v is.1.1.0, HasComments-legal (stepped p m) l is.1.1.1))

  pub HaveComments-legal : (p : Setup) (v : Branches) → AreLegalBranches p v → HaveComments v
  HaveComments-legal p none is = tt
  HaveComments-legal p (more lead line others) is = (is.0, (HasComments-legal p line is.1.0, HaveComments-legal p others is.1.1))
