-- The parts of a game's text.
use Rattle.std.proofs.Common.{◌≡◌, List, ℕ, [], ◌∷◌, ◌++◌, ap, ◌∙◌, append_assoc, flat_map}
use Rattle.game_tree.specs.declared.head.Head.{Head}
use Rattle.game_tree.specs.Game.{GameTree}
use Rattle.pgn_write.specs.TagPairs.{tags_of, tag_text}
use Rattle.pgn_write.specs.Tokens.{tokens_of}
use Rattle.pgn_write.specs.Layout.{layout}
unfoldable use Rattle.pgn_write.specs.Pgn.{pgn_of}

-- The text as it is put together.
pub pgn-parts : (head : Head) (game : GameTree) (none tags line text all : List ℕ)
    → none ≡ [] → tags ≡ none ++ flat_map tag_text (tags_of head game) → line ≡ tags ++ 10 ∷ [] → text ≡ line ++ layout (tokens_of game head.result)
    → all ≡ text ++ 10 ∷ 10 ∷ [] → all ≡ pgn_of head game
unfolding pgn_of
pgn-parts head game none tags line text all begins tagged parted moved ended =
    let pairs : List ℕ = flat_map tag_text (tags_of head game) in
    let movetext : List ℕ = layout (tokens_of game head.result) in
    ended
    ∙ ap (λ (x : List ℕ). x ++ 10 ∷ 10 ∷ []) (moved ∙ ap (λ (x : List ℕ). x ++ movetext) (parted ∙ ap (λ (x : List ℕ). x ++ 10 ∷ []) (tagged ∙ ap (λ (x : List ℕ). x ++ pairs) begins)))
    ∙ append_assoc (pairs ++ 10 ∷ []) movetext (10 ∷ 10 ∷ [])
    ∙ append_assoc pairs (10 ∷ []) (movetext ++ 10 ∷ 10 ∷ [])
