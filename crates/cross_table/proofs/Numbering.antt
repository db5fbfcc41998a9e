-- The games of an event by the places of their names say the same as the games by names.
use Rattle.std.proofs.Common.{◌≡◌, ◌≤◌, ◌<◌, ℕ, Bool, true, false, cond, List, [], ◌∷◌, ◌++◌, length, map, filter, get_or, refl, sym, ap, subst, ◌∙◌, arith, if◌then◌else◌}
use Rattle.std.specs.List.{AllByRecursion, IsDistinct, fold}
use Rattle.std.specs.Str.{bytes_eq}
use Rattle.std.proofs.lemmas.List.{append-nil, append_assoc, map-append}
use Rattle.std.proofs.lemmas.List.Sums.{fold_push}
use Rattle.game_tree.specs.declared.head.Head.{Head}
use Rattle.cross_table.specs.declared.played.Played.{Played}
use Rattle.cross_table.specs.Crosstable.{Pairing, is_of, event_games, names_of, with_name}
use Rattle.cross_table.specs.Keeping.{Entered, entered, entrants, no_entrants, pairing_of, place_of, with_head}
use Rattle.cross_table.proofs.NameLaws.{name_added}

-- A game by names, and that its places are some.
abbrev pub named : List (List ℕ) → Played → Pairing
named names game = record { white = get_or names game.white []; black = get_or names game.black []; result = game.result }

abbrev pub IsWithin : ℕ → Played → Type 0
IsWithin n game = (game.white < n) × (game.black < n)

pub record IsNumbered (e : Entered) (games : List Pairing) : Type 0 where
  pub names : e.names ≡ names_of games
  pub distinct : IsDistinct bytes_eq e.names
  pub within : AllByRecursion (IsWithin (length e.names)) e.games
  pub same : games ≡ map (named e.names) e.games

wider_push : (m n : ℕ) (games : List Played) (game : Played) → m ≤ n → AllByRecursion (IsWithin m) games → IsWithin n game
    → AllByRecursion (IsWithin n) (games ++ game ∷ [])
wider_push m n [] game le all last = (last, tt)
wider_push m n (g ∷ games) game le all last =
    ((omega (arith, le, all.0.0), omega (arith, le, all.0.1)), wider_push m n games game le all.1 last)

named_kept : (names after : List (List ℕ)) (games : List Played) → ((i : ℕ) → i < length names → get_or after i [] ≡ get_or names i [])
    → AllByRecursion (IsWithin (length names)) games → map (named names) games ≡ map (named after) games
named_kept names after [] kept all = refl
named_kept names after (game ∷ games) kept all =
    λ j. record {
      white = sym (kept game.white all.0.0) j;
      black = sym (kept game.black all.0.1) j;
      result = game.result;
    } ∷ named_kept names after games kept all.1 j

one_more : (e : Entered) (games : List Pairing) (game : Pairing) → IsNumbered e games → IsNumbered (entered game e) (games ++ game ∷ [])
unfolding entered names_of
one_more e games game is =
    let a = name_added e.names game.white is.distinct in
    let b = name_added (with_name e.names game.white) game.black a.distinct in
    let after : List (List ℕ) = with_name (with_name e.names game.white) game.black in
    let last : Played = record { white = place_of e.names game.white; black = place_of (with_name e.names game.white) game.black; result = game.result } in
    let white : game.white ≡ get_or after last.white [] = sym (b.kept last.white a.place.within ∙ a.place.there) in
    let black : game.black ≡ get_or after last.black [] = sym b.place.there in
    let kept : map (named e.names) e.games ≡ map (named after) e.games
    = named_kept e.names after e.games (λ i below. b.kept i (omega (arith, below, a.grows)) ∙ a.kept i below) is.within in
    record {
      names = ap (λ (names : List (List ℕ)). with_name (with_name names game.white) game.black) is.names
          ∙ sym (fold_push (λ (names : List (List ℕ)) (g : Pairing). with_name (with_name names g.white) g.black) [] games game);
      distinct = b.distinct;
      within = wider_push (length e.names) (length after) e.games last (omega (arith, a.grows, b.grows)) is.within
          (omega (arith, a.place.within, b.grows), b.place.within);
      same = (λ j. (is.same ∙ kept) j ++ record { white = white j; black = black j; result = game.result } ∷ [])
          ∙ sym (map-append (named after) e.games (last ∷ []));
    }

none : IsNumbered no_entrants []
unfolding names_of IsDistinct
none = record { names = refl; distinct = tt; within = tt; same = refl }

all_numbered : (event : List ℕ) (heads : List Head) (e : Entered) (games : List Pairing) → IsNumbered e games
    → IsNumbered (fold (with_head event) e heads) (games ++ map pairing_of (filter (is_of event) heads))
unfolding with_head
all_numbered event [] e games is = subst (IsNumbered e) (sym (append-nil games)) is
all_numbered event (head ∷ heads) e games is = by (is_of event head) (all_numbered event heads)
  where
    by : (b : Bool) → ((e : Entered) (games : List Pairing) → IsNumbered e games
        → IsNumbered (fold (with_head event) e heads) (games ++ map pairing_of (filter (is_of event) heads)))
        → IsNumbered (fold (with_head event) (if b then entered (pairing_of head) e else e) heads)
        (games ++ map pairing_of (cond b (head ∷ filter (is_of event) heads) (filter (is_of event) heads)))
    by true rest =
        subst (IsNumbered (fold (with_head event) (entered (pairing_of head) e) heads))
        (append_assoc games (pairing_of head ∷ []) (map pairing_of (filter (is_of event) heads)))
        (rest (entered (pairing_of head) e) (games ++ pairing_of head ∷ []) (one_more e games (pairing_of head) is))
    by false rest = rest e games is

pub numbered : (event : List ℕ) (heads : List Head) → IsNumbered (entrants event heads) (event_games event heads)
unfolding entrants event_games
numbered event heads = all_numbered event heads no_entrants [] none
