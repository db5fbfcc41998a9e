-- What a builder makes of the items of a movetext is what the movetext means.
use Rattle.std.proofs.Common.{◌≡◌, ℕ, List, [], ◌∷◌, ◌++◌, Option, Some, None, refl, sym, ap, subst, ◌∙◌, append_assoc, append-nil}
use Rattle.game_tree.specs.Tree.{Line, ends, goes, Branches, none, more, Played, Variation, line_of}
use Rattle.game_tree.specs.Item.{Item}
use Rattle.game_tree.specs.Item as item
use Rattle.game_tree.specs.Movetext.{Movetext, end, move, nag, comment, variation, items_of, as_comment, joined, Said, meaning}
use Rattle.game_tree.specs.Building.{Open, Building, fresh, opening, and_last, read_line, bare, with_move, with_nag, with_comment, with_branch, with_variation, variation_of, built}

-- Lines and variations one behind the other.
abbrev line_then : Line → Line → Line
line_then ends l = l
line_then (goes m n c v k) l = goes m n c v (line_then k l)

line_then-assoc : (a b c : Line) → line_then (line_then a b) c ≡ line_then a (line_then b c)
line_then-assoc ends b c = refl
line_then-assoc (goes m n t v a) b c = ap (goes m n t v) (line_then-assoc a b c)

line_of-push : (ps : List Played) (p : Played) → line_of (ps ++ p ∷ []) ≡ line_then (line_of ps) (goes p.mv p.nags p.comment p.variations ends)
line_of-push [] p = refl
line_of-push (q ∷ ps) p = ap (goes q.mv q.nags q.comment q.variations) (line_of-push ps p)

abbrev branches_then : Branches → Branches → Branches
branches_then none bs = bs
branches_then (more lead line others) bs = more lead line (branches_then others bs)

branches_then-none : (bs : Branches) → branches_then bs none ≡ bs
branches_then-none none = refl
branches_then-none (more lead line others) = ap (more lead line) (branches_then-none others)

branches_then-push : (bs : Branches) (v : Variation) (cs : Branches) → branches_then (with_branch bs v) cs ≡ branches_then bs (more v.lead v.line cs)
branches_then-push none v cs = refl
branches_then-push (more lead line others) v cs = ap (more lead line) (branches_then-push others v cs)

joined-none : (t : Option (List ℕ)) → joined t None ≡ t
joined-none None = refl
joined-none (Some t) = refl

joined-assoc : (a b c : Option (List ℕ)) → joined (joined a b) c ≡ joined a (joined b c)
joined-assoc None b c = refl
joined-assoc (Some a) None c = refl
joined-assoc (Some a) (Some b) None = refl
joined-assoc (Some a) (Some b) (Some c) = ap Some (append_assoc a (32 ∷ b) (32 ∷ c))

-- An open line with what is said of its last move.
abbrev marked_on : Said → Option (List ℕ) → List Played → Option Played → Open
marked_on r lead done None = record { lead = joined lead r.comment; done = done; last = None }
marked_on r lead done (Some p) =
    record {
      lead = lead;
      done = done;
      last = Some (record { mv = p.mv; nags = p.nags ++ r.nags; comment = joined p.comment r.comment; variations = branches_then p.variations r.variations });
    }

abbrev marked : Said → Open → Open
marked r o = marked_on r o.lead o.done o.last

-- An open line with the moves of a line behind it.
abbrev with_moves : Line → Open → Open
with_moves ends o = o
with_moves (goes m n c v l) o = with_moves l (with_move (record { mv = m; nags = n; comment = c; variations = v }) o)

abbrev extended : Said → Open → Open
extended r o = with_moves r.line (marked r o)

marked-end : (lead : Option (List ℕ)) (done : List Played) (last : Option Played) → marked_on (meaning end) lead done last ≡ record { lead = lead; done = done; last = last }
marked-end lead done None = ap (λ (t : Option (List ℕ)). record { lead = t; done = done; last = None }) (joined-none lead)
marked-end lead done (Some p) =
    λ i. record {
      lead = lead;
      done = done;
      last = Some (record { mv = p.mv; nags = append-nil p.nags i; comment = joined-none p.comment i; variations = branches_then-none p.variations i });
    }

marked-nag : (n : ℕ) (r : Said) (lead : Option (List ℕ)) (done : List Played) (last : Option Played) → marked r (with_nag n (record { lead = lead; done = done; last = last })) ≡ marked_on (record { nags = n ∷ r.nags; comment = r.comment; variations = r.variations; line = r.line }) lead done last
marked-nag n r lead done None = refl
marked-nag n r lead done (Some p) =
    λ i. record {
      lead = lead;
      done = done;
      last = Some (record { mv = p.mv; nags = append_assoc p.nags (n ∷ []) r.nags i; comment = joined p.comment r.comment; variations = branches_then p.variations r.variations });
    }

marked-comment : (t : List ℕ) (r : Said) (lead : Option (List ℕ)) (done : List Played) (last : Option Played) → marked r (with_comment t (record { lead = lead; done = done; last = last })) ≡ marked_on (record { nags = r.nags; comment = joined (as_comment t) r.comment; variations = r.variations; line = r.line }) lead done last
marked-comment t r lead done None = λ i. record { lead = joined-assoc lead (as_comment t) r.comment i; done = done; last = None }
marked-comment t r lead done (Some p) =
    λ i. record {
      lead = lead;
      done = done;
      last = Some (record { mv = p.mv; nags = p.nags ++ r.nags; comment = joined-assoc p.comment (as_comment t) r.comment i; variations = branches_then p.variations r.variations });
    }

marked-variation : (v : Variation) (r : Said) (lead : Option (List ℕ)) (done : List Played) (last : Option Played) → marked r (with_variation v (record { lead = lead; done = done; last = last })) ≡ marked_on (record { nags = r.nags; comment = r.comment; variations = more v.lead v.line r.variations; line = r.line }) lead done last
marked-variation v r lead done None = refl
marked-variation v r lead done (Some p) =
    λ i. record {
      lead = lead;
      done = done;
      last = Some (record { mv = p.mv; nags = p.nags ++ r.nags; comment = joined p.comment r.comment; variations = branches_then-push p.variations v r.variations i });
    }

lead-with_moves : (l : Line) (o : Open) → (with_moves l o).lead ≡ o.lead
lead-with_moves ends o = refl
lead-with_moves (goes m n c v l) o = lead-with_moves l (with_move (record { mv = m; nags = n; comment = c; variations = v }) o)

read_line-with_moves : (l : Line) (o : Open) → read_line (with_moves l o) ≡ line_then (read_line o) l
read_line-with_moves ends o = sym (line_then-ends (read_line o))
  where
    line_then-ends : (l : Line) → line_then l ends ≡ l
    line_then-ends ends = refl
    line_then-ends (goes m n c v l) = ap (goes m n c v) (line_then-ends l)
read_line-with_moves (goes m n c v l) o =
    read_line-with_moves l (with_move (record { mv = m; nags = n; comment = c; variations = v }) o)
    ∙ ap (λ k. line_then k l) (line_of-push (and_last o.done o.last) (record { mv = m; nags = n; comment = c; variations = v }))
    ∙ line_then-assoc (read_line o) (goes m n c v ends) l

-- The items of a movetext, read after others and before the rest.
built-movetext : (s : Movetext) (rest : List Item) (o : Open) (outer : List Open) → built (items_of s ++ rest) (record { current = o; outer = outer }) ≡ built rest (record { current = extended (meaning s) o; outer = outer })
built-movetext end rest o outer = ap (λ (c : Open). built rest (record { current = c; outer = outer })) (sym (marked-end o.lead o.done o.last))
built-movetext (move m s) rest o outer =
    built-movetext s rest (with_move (bare m) o) outer
    ∙ ap (λ (c : Open). built rest (record { current = with_moves (goes m (meaning s).nags (meaning s).comment (meaning s).variations (meaning s).line) c; outer = outer })) (sym (marked-end o.lead o.done o.last))
built-movetext (nag n s) rest o outer =
    built-movetext s rest (with_nag n o) outer
    ∙ ap (λ (c : Open). built rest (record { current = with_moves (meaning s).line c; outer = outer })) (marked-nag n (meaning s) o.lead o.done o.last)
built-movetext (comment t s) rest o outer =
    built-movetext s rest (with_comment t o) outer
    ∙ ap (λ (c : Open). built rest (record { current = with_moves (meaning s).line c; outer = outer })) (marked-comment t (meaning s) o.lead o.done o.last)
built-movetext (variation inner s) rest o outer =
    ap (λ (is : List Item). built is (record { current = fresh; outer = o ∷ outer })) (append_assoc (items_of inner) (item.closes ∷ items_of s) rest)
    ∙ built-movetext inner (item.closes ∷ items_of s ++ rest) fresh (o ∷ outer)
    ∙ built-movetext s rest (with_variation (variation_of (extended (meaning inner) fresh)) o) outer
    ∙ ap (λ (c : Open). built rest (record { current = with_moves (meaning s).line c; outer = outer })) (marked-variation (variation_of (extended (meaning inner) fresh)) (meaning s) o.lead o.done o.last)
    ∙ ap (λ (v : Variation). built rest (record { current = with_moves (meaning s).line (marked_on (record { nags = (meaning s).nags; comment = (meaning s).comment; variations = more v.lead v.line (meaning s).variations; line = (meaning s).line }) o.lead o.done o.last); outer = outer })) (variation-fresh (meaning inner))
  where
    variation-fresh : (r : Said) → variation_of (extended r fresh) ≡ record { lead = r.comment; line = r.line }
    variation-fresh r = λ i. record { lead = lead-with_moves r.line (marked r fresh) i; line = read_line-with_moves r.line (marked r fresh) i }

-- What was read from the items of a movetext alone.
pub record Reads (s : Movetext) (b : Building) : Type 0 where
  pub whole : b.outer ≡ []
  pub lead : b.current.lead ≡ (meaning s).comment
  pub line : read_line b.current ≡ (meaning s).line

built-Reads : (s : Movetext) → Reads s (built (items_of s) opening)
built-Reads s =
    let all = ap (λ (is : List Item). built is opening) (sym (append-nil (items_of s))) ∙ built-movetext s [] fresh [] in
    let said : Reads s (record { current = extended (meaning s) fresh; outer = [] }) = record {
      whole = refl;
      lead = lead-with_moves (meaning s).line (marked (meaning s) fresh);
      line = read_line-with_moves (meaning s).line (marked (meaning s) fresh);
    } in
    subst (Reads s) (sym all) said

pub built-items_of : (s : Movetext) (b : Building) → b ≡ built (items_of s) opening → Reads s b
built-items_of s b e = subst (Reads s) (sym e) (built-Reads s)
