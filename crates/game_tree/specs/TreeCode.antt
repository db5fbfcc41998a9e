-- How the values of trees are told apart, and how large they are: what the types of trees need to be seen as such values.
use Rattle.std.specs.Prelude.{◌≡◌, ℕ, ◌+◌, ◌≤◌, List, [], ◌∷◌, Option, refl}
use Rattle.std.specs.Coded.{Coded, code_by, coded×, coded_ℕ, coded_list, coded_option}
use Rattle.std.proofs.Common.{ap, arith}
use base.Stored.{Gv, gnil, gnum, gcons}
use denote.Param.Weighed.{most}
use Rattle.cell_core.specs.contracts.step.Move as move
use Rattle.cell_core.specs.declared.step.Move.{Move}
use Rattle.game_tree.specs.Tree.{Line, ends, goes, Branches, none, more, Played, Variation, line_of, branches_of}

abbrev coded_comment : Coded (Option (List ℕ))
coded_comment = coded_option (coded_list coded_ℕ)

abbrev coded_nags : Coded (List ℕ)
coded_nags = coded_list coded_ℕ

abbrev head : Gv → Gv
head gnil = gnil
head (gnum n) = gnil
head (gcons a b) = a

abbrev tail : Gv → Gv
tail gnil = gnil
tail (gnum n) = gnil
tail (gcons a b) = b

abbrev mutual
  line_code : Line → Gv
  line_code ends = gnil
  line_code (goes mv nags comment variations line) =
      gcons (move.the_row.coded.code mv) (gcons (coded_nags.code nags) (gcons (coded_comment.code comment) (gcons (branches_code variations) (line_code line))))

  branches_code : Branches → Gv
  branches_code none = gnil
  branches_code (more lead line others) = gcons (coded_comment.code lead) (gcons (line_code line) (branches_code others))

mutual
  pub line_inj : (x y : Line) → line_code x ≡ line_code y → x ≡ y
  line_inj ends ends p = refl
  line_inj ends (goes m n c v l) p = cc
  line_inj (goes m n c v l) ends p = cc
  line_inj (goes m n c v l) (goes m' n' c' v' l') p =
      λ i. goes
      (move.the_row.coded.inj m m' (ap head p) i)
      (coded_nags.inj n n' (ap (λ g. head (tail g)) p) i)
      (coded_comment.inj c c' (ap (λ g. head (tail (tail g))) p) i)
      (branches_inj v v' (ap (λ g. head (tail (tail (tail g)))) p) i)
      (line_inj l l' (ap (λ g. tail (tail (tail (tail g)))) p) i)

  pub branches_inj : (x y : Branches) → branches_code x ≡ branches_code y → x ≡ y
  branches_inj none none p = refl
  branches_inj none (more c l v) p = cc
  branches_inj (more c l v) none p = cc
  branches_inj (more c l v) (more c' l' v') p =
      λ i. more
      (coded_comment.inj c c' (ap head p) i)
      (line_inj l l' (ap (λ g. head (tail g)) p) i)
      (branches_inj v v' (ap (λ g. tail (tail g)) p) i)

abbrev pub coded_line : Coded Line
coded_line = record { code = line_code; inj = line_inj }

abbrev pub coded_branches : Coded Branches
coded_branches = record { code = branches_code; inj = branches_inj }

abbrev pub coded_played : Coded Played
coded_played =
    code_by (Move × (List ℕ × (Option (List ℕ) × Branches))) (coded× move.the_row.coded (coded× coded_nags (coded× coded_comment coded_branches)))
    (λ p. (p.mv, (p.nags, (p.comment, p.variations))))
    (λ t. record { mv = t.0; nags = t.1.0; comment = t.1.1.0; variations = t.1.1.1 })
    (λ _. refl)

abbrev pub coded_variation : Coded Variation
coded_variation =
    code_by (Option (List ℕ) × Line) (coded× coded_comment coded_line) (λ v. (v.lead, v.line)) (λ t. record { lead = t.0; line = t.1 }) (λ _. refl)

-- Sizes by which a part of a tree is smaller than the whole.
abbrev mutual
  pub line_size : Line → ℕ
  line_size ends = 0
  line_size (goes mv nags comment variations line) = branches_size variations + 1 + line_size line

  pub branches_size : Branches → ℕ
  branches_size none = 0
  branches_size (more lead line others) = line_size line + 1 + branches_size others

abbrev pub played_size : Played → ℕ
played_size p = branches_size p.variations

abbrev pub variation_size : Variation → ℕ
variation_size v = line_size v.line

pub most-played : (ps : List Played) → most (λ p. played_size p + 1) ps ≤ line_size (line_of ps)
most-played [] = omega arith
most-played (p ∷ ps) = omega (arith, most-played ps)

pub most-variation : (vs : List Variation) → most (λ v. variation_size v + 1) vs ≤ branches_size (branches_of vs)
most-variation [] = omega arith
most-variation (v ∷ vs) = omega (arith, most-variation vs)
