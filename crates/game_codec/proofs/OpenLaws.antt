-- The moves among the items of a movetext are those that it means.
use Rattle.std.proofs.Common.{◌≡◌, ℕ, suc, ◌+◌, ◌-◌, ◌==◌, Bool, false, List, ◌∷◌, ◌++◌, refl, sym, ap, ◌∙◌, append_assoc, arith}
use Rattle.std.proofs.lemmas.Bool.Decides.{nat_tests}
use Rattle.chess_laws.specs.Step.{stepped}
use Rattle.game_tree.specs.Movetext.{Movetext, Said, end, move, nag, comment, variation, meaning}
use Rattle.game_tree.specs.Tree.{Branches, none}
use Rattle.game_codec.specs.Place.{Place, after_move, after_comment, variation_of}
use Rattle.game_codec.specs.Moves.{SpellsMoves}
use Rattle.game_codec.specs.Open.{visits_in}
use Rattle.game_codec.specs.Scanning.{tokens_then}
use Rattle.game_codec.specs.Token.{Token, Close}
use Rattle.game_codec.specs.Visits.{Visit, branch_visits, line_visits, visit_from}
use Rattle.game_codec.specs.declared.all_walk.OpenLine.{OpenLine}

-- No variation stands before the first move of a line.
pub no_hanging : (p : Place) (s : Movetext) (bytes behind : List ℕ) → p.has_move ≡ false → SpellsMoves p s bytes behind → (meaning s).variations ≡ none
no_hanging p end bytes behind has spells = refl
no_hanging p (move m s) bytes behind has spells = refl
no_hanging p (nag n s) bytes behind has spells = absurd (cc)
no_hanging p (comment text s) bytes behind has spells = no_hanging (after_comment p) s spells.0 behind has spells.2
no_hanging p (variation inner s) bytes behind has spells = absurd (cc)

-- What a movetext leaves of a line at a place: the moves of the variations of the last move, and those of the line.
abbrev pub left_of : Place → ℕ → Said → List Visit
left_of p ply said = branch_visits p.before.position (ply - 1) said.variations ++ line_visits (p.depth == 0) p.here.position ply said.line

-- A variation has no move before its first.
left_inside : (p : Place) (ply : ℕ) (s : Movetext) (bytes behind : List ℕ) → SpellsMoves (variation_of p) s bytes behind
    → left_of (variation_of p) ply (meaning s) ≡ line_visits false p.before.position ply (meaning s).line
left_inside p ply s bytes behind spells =
    let inside : (p.depth + 1 == 0) ≡ false = grind (arith, nat_tests) in
    ap (λ (vs : Branches). branch_visits p.before.position (ply - 1) vs ++ line_visits (p.depth + 1 == 0) p.before.position ply (meaning s).line)
    (no_hanging (variation_of p) s bytes behind refl spells)
    ∙ ap (λ (main : Bool). line_visits main p.before.position ply (meaning s).line) inside

-- The items of a movetext, and others behind the end of its line.
pub visits-then : (p : Place) (ply : ℕ) (outer : List OpenLine) (s : Movetext) (bytes behind : List ℕ) (more : List Token) (last : List Visit) → SpellsMoves p s bytes behind
    → ((o : OpenLine) → visits_in (record { line = o; outer = outer }) more ≡ last)
    → visits_in (record { line = record { place = p; ply = ply }; outer = outer }) (tokens_then s more) ≡ left_of p ply (meaning s) ++ last
visits-then p ply outer end bytes behind more last spells on = on (record { place = p; ply = ply })
visits-then p ply outer (move m s) bytes behind more last spells on =
    let visit = visit_from (p.depth == 0) p.here.position ply m in
    let line = line_visits (p.depth == 0) (stepped p.here.position m) (suc ply) (meaning s).line in
    let same : suc ply - 1 ≡ ply = omega arith in
    ap (λ (v : List Visit). visit ∷ v)
    (visits-then (after_move p m) (suc ply) outer s spells.0 behind more last spells.2 on
    ∙ ap (λ (n : ℕ). (branch_visits p.here.position n (meaning s).variations ++ line) ++ last) same)
visits-then p ply outer (nag n s) bytes behind more last spells on = visits-then p ply outer s spells.0 behind more last spells.2 on
visits-then p ply outer (comment text s) bytes behind more last spells on = visits-then (after_comment p) ply outer s spells.0 behind more last spells.2 on
visits-then p ply outer (variation inner s) bytes behind more last spells on =
    let o : OpenLine = record { place = p; ply = ply } in
    let first = line_visits false p.before.position (ply - 1) (meaning inner).line in
    let others = branch_visits p.before.position (ply - 1) (meaning s).variations in
    let line = line_visits (p.depth == 0) p.here.position ply (meaning s).line in
    let rest = visits_in (record { line = o; outer = outer }) (tokens_then s more) in
    visits-then (variation_of p) (ply - 1) (o ∷ outer) inner spells.0 spells.2.0 (Close ∷ tokens_then s more) rest spells.2.1 (λ e. refl)
    ∙ ap (λ (v : List Visit). v ++ rest) (left_inside p (ply - 1) inner spells.0 spells.2.0 spells.2.1)
    ∙ ap (λ (v : List Visit). first ++ v) (visits-then p ply outer s spells.2.0 behind more last spells.2.2 on)
    ∙ sym (append_assoc first (others ++ line) last)
    ∙ ap (λ (v : List Visit). v ++ last) (sym (append_assoc first others line))
