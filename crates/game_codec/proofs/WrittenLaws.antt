-- The written form is a record of the game and the tags.
use Rattle.std.proofs.Common.{◌≡◌, ℕ, zero, suc, ◌+◌, ◌%◌, ◌<◌, ◌≤◌, max, Bool, true, false, IsTrue, List, [], ◌∷◌, ◌++◌, Option, Some, None, Ok, length, refl, sym, ap, subst, append_assoc, add-one, arith}
use Rattle.std.specs.Prelude.{All, if◌then◌else◌}
use Rattle.std.proofs.Math.Seq.{drop-append_seam}
use Rattle.std.proofs.lemmas.List.Elements.{All-append, All-cons, All-nil}
use Rattle.cell_core.specs.declared.step.Move.{Move}
use Rattle.chess_laws.specs.declared.setup.Setup.{Setup}
use Rattle.chess_laws.specs.Position.{Sound, start_setup, is_start}
use Rattle.chess_laws.proofs.Initial.{is_start-Decides}
use Rattle.chess_text.specs.Written.{fen_text}
use Rattle.std.specs.Bool.{Decides}
use Rattle.chess_laws.specs.Step.{Step, Legal, stepped}
use Rattle.chess_laws.proofs.MovedKings.{Sound-after}
use Rattle.cell_core.specs.Text.{IsZeroFree}
use Rattle.game_tree.specs.Game.{GameTree}
use Rattle.game_tree.specs.Head.{IsTag}
use Rattle.game_tree.specs.declared.head.Tag.{Tag}
use Rattle.game_tree.proofs.WrittenLemmas.{meaning-written, HasComments-legal}
use Rattle.game_tree.specs.Movetext.{Movetext}
use Rattle.game_tree.specs.Legal.{IsLegalLine, AreLegalBranches, IsLegalGame}
use Rattle.game_tree.specs.Tree.{Line, ends, goes, Branches, none, more, depth_of, depth_within}
use Rattle.game_tree.specs.Kept.{IsCommentText, IsLine, AreBranches, IsGame}
use Rattle.game_tree.specs.Promotions.{has_promotion, has_underpromotion}
use Rattle.game_tree.specs.Written.{movetext_of_game, nags_before, comment_before, movetext_of, variations_before}
use Rattle.move_codec.specs.Numbers.{Numbered, AreNumbers}
use Rattle.move_codec.specs.Packed.{encoding}
use Rattle.move_codec.proofs.RoundTrip.{encoding-apart, round_trip}
use Rattle.move_codec.proofs.Steps.{AreNumbers-step}
use Rattle.move_codec.proofs.Decoding.{from_decodes}
use Rattle.game_codec.specs.Place.{Place, Takes, ending, numbered_after, beginning, after_move, after_comment, variation_of}
use Rattle.game_codec.specs.Token.{Play}
use Rattle.game_codec.specs.Moves.{SpellsMoves}
use Rattle.game_codec.specs.Written.{body_text, moves_text, numbered_start, promotion_flags, start_text, tags_text, written_record}
use Rattle.game_codec.specs.Record.{IsRecord}
use Rattle.game_codec.specs.RecordAnswer.{game_of}
use Rattle.game_codec.specs.Start.{BeginsStart, own_start}
use Rattle.game_codec.specs.TagReading.{BeginsTags}
use Rattle.game_codec.specs.Texts.{ended, texts_of}
use Rattle.game_codec.proofs.RecordAnswerLaws.{from_spelled}
use Rattle.game_codec.proofs.TagLaws.{tags_text-begins, free_of-IsTag}
use Rattle.game_codec.proofs.StartLaws.{standard-begins, own-begins}
use Rattle.move_codec.proofs.Text.{AreNumbers-standard, AreNumbers-text}

-- What the moves of a line spell

-- A position that keeps the rules, and numbers that are its men's.
record Stands (n : Numbered) : Type 0 where
  sound : Sound n.position
  numbers : AreNumbers n.position.board n.numbers

Stands-after : (n : Numbered) (m : Move) → Stands n → Step n.position m (stepped n.position m) → Stands (numbered_after n m)
unfolding stepped
Stands-after n m stands step = record {
  sound = Sound-after n.position m stands.sound (stepped n.position m, step);
  numbers = AreNumbers-step n.position m (stepped n.position m) n.numbers stands.sound step stands.numbers;
}

-- The byte that ends a line at this depth.
abbrev end_byte : ℕ → ℕ
end_byte zero = 15
end_byte (suc depth) = 14

takes-ending : (p : Place) (depth : ℕ) → p.depth ≡ depth → (rest : List ℕ) → Takes p (end_byte depth ∷ rest) (ending depth) rest
takes-ending p zero is rest = (is, refl)
takes-ending p (suc depth) is rest = (omega arith, refl)

takes-play : (p : Place) (m : Move) (later : List ℕ) → Stands p.here → Legal p.here.position m → Takes p (encoding p.here m ++ later) (Play m) later
takes-play p m later stands legal =
    let due = encoding-apart p.here m stands.sound stands.numbers legal in (
      (due.0, due.1.0 ++ later, ap (λ (bytes : List ℕ). bytes ++ later) due.1.1.0, due.1.1.1),
      (
        length (encoding p.here m),
        from_decodes p.here (encoding p.here m ++ later) (Ok (m, length (encoding p.here m)))
            (round_trip p.here m stands.sound.squares stands.numbers legal later),
        sym (drop-append_seam (encoding p.here m) later),
      ),
    )

spells-nags : (p : Place) (ns : List ℕ) (s : Movetext) (later rest : List ℕ) → IsTrue p.has_move
    → SpellsMoves p s (moves_text p.before p.here s ++ later) rest
    → SpellsMoves p (nags_before ns s) (moves_text p.before p.here (nags_before ns s) ++ later) rest
spells-nags p [] s later rest has spells = spells
spells-nags p (n ∷ ns) s later rest has spells =
    (moves_text p.before p.here (nags_before ns s) ++ later, (has, refl), spells-nags p ns s later rest has spells)

spells-comment : (p : Place) (comment : Option (List ℕ)) (s : Movetext) (later rest : List ℕ) → p.has_comment ≡ false
    → SpellsMoves p s (moves_text p.before p.here s ++ later) rest
    → SpellsMoves (after_comment p) s (moves_text p.before p.here s ++ later) rest
    → SpellsMoves p (comment_before comment s) (moves_text p.before p.here (comment_before comment s) ++ later) rest
spells-comment p None s later rest has without with_it = without
spells-comment p (Some text) s later rest has without with_it = (moves_text p.before p.here s ++ later, (has, refl), with_it)

deeper : (depth inner others : ℕ) → depth + max (inner + 1) others ≤ 200 → (depth < 200) × ((depth + 1 + inner ≤ 200) × (depth + others ≤ 200))
deeper depth inner others within = (omega arith, (omega arith, omega arith))

mutual
  spells-line : (l : Line) (p : Place) (rest : List ℕ) → Stands p.here → IsLegalLine p.here.position l → p.depth + depth_of l ≤ 200
      → SpellsMoves p (movetext_of l) (moves_text p.before p.here (movetext_of l) ++ end_byte p.depth ∷ rest) rest
  spells-line ends p rest stands legal within = takes-ending p p.depth refl rest
  spells-line (goes m ns comment variations l) p rest stands legal within =
      let q : Place = after_move p m in
      let next : Stands q.here = Stands-after p.here m stands legal.0 in
      let here : p.depth + depth_within variations ≤ 200 = omega arith in
      let there : p.depth + depth_of l ≤ 200 = omega arith in
      let tail : List ℕ = end_byte p.depth ∷ rest in
      let behind : Movetext = variations_before variations (movetext_of l) in
      let items : Movetext = nags_before ns (comment_before comment behind) in
      let bare = spells-variations variations q (movetext_of l) tail rest refl stands legal.1.1.0 here (spells-line l q rest next legal.1.1.1 there) in
      let noted = spells-variations variations (after_comment q) (movetext_of l) tail rest refl stands legal.1.1.0 here (spells-line l (after_comment q) rest next legal.1.1.1 there) in (
        moves_text q.before q.here items ++ tail,
        rw (append_assoc (encoding p.here m) (moves_text q.before q.here items) tail)
            (takes-play p m (moves_text q.before q.here items ++ tail) stands (stepped p.here.position m, legal.0)),
        spells-nags q ns (comment_before comment behind) tail rest refl (spells-comment q comment behind tail rest refl bare noted),
      )

  spells-variations : (v : Branches) (p : Place) (s : Movetext) (later rest : List ℕ) → IsTrue p.has_move → Stands p.before
      → AreLegalBranches p.before.position v → p.depth + depth_within v ≤ 200
      → SpellsMoves p s (moves_text p.before p.here s ++ later) rest
      → SpellsMoves p (variations_before v s) (moves_text p.before p.here (variations_before v s) ++ later) rest
  spells-variations none p s later rest has stands legal within spells = spells
  spells-variations (more lead line others) p s later rest has stands legal within spells =
      let room = deeper p.depth (depth_of line) (depth_within others) within in
      let inner : Movetext = comment_before lead (movetext_of line) in
      let behind : List ℕ = moves_text p.before p.here (variations_before others s) ++ later in
      let q : Place = variation_of p in
      let bare = spells-line line q behind stands legal.1.0 room.1.0 in
      let noted = spells-line line (after_comment q) behind stands legal.1.0 room.1.0 in
      let spelled : SpellsMoves q inner (moves_text p.before p.before inner ++ end_byte q.depth ∷ behind) behind =
      spells-comment q lead (movetext_of line) (end_byte q.depth ∷ behind) behind refl bare noted in (
        moves_text p.before p.before inner ++ 14 ∷ behind,
        (
          has,
          room.0,
          ap (λ (bytes : List ℕ). 13 ∷ bytes)
              (append_assoc (moves_text p.before p.before inner) (14 ∷ moves_text p.before p.here (variations_before others s)) later),
        ),
        (
          behind,
          subst (λ (byte : ℕ). SpellsMoves q inner (moves_text p.before p.before inner ++ byte ∷ behind) behind) (ap end_byte (add-one p.depth)) spelled,
          spells-variations others p s later rest has stands legal.1.1 room.1.1 spells,
        ),
      )

-- A whole line behind its own comment.
spells-all : (n : Numbered) (lead : Option (List ℕ)) (l : Line) (rest : List ℕ) → Stands n → IsLegalLine n.position l → depth_of l ≤ 200
    → SpellsMoves (beginning 0 n) (comment_before lead (movetext_of l)) (moves_text n n (comment_before lead (movetext_of l)) ++ 15 ∷ rest) rest
spells-all n lead l rest stands legal within =
    spells-comment (beginning 0 n) lead (movetext_of l) (15 ∷ rest) rest refl
    (spells-line l (beginning 0 n) rest stands legal (omega arith))
    (spells-line l (after_comment (beginning 0 n)) rest stands legal (omega arith))

-- What the texts of a game are

texts-nags : (ns : List ℕ) (s : Movetext) → texts_of (nags_before ns s) ≡ texts_of s
texts-nags [] s = refl
texts-nags (n ∷ ns) s = texts-nags ns s

texts-comment : (comment : Option (List ℕ)) (s : Movetext) → IsCommentText comment → All IsZeroFree (texts_of s)
    → All IsZeroFree (texts_of (comment_before comment s))
texts-comment None s is later = later
texts-comment (Some text) s is later = All-cons IsZeroFree text (texts_of s) is later

mutual
  texts-line : (l : Line) → IsLine l → All IsZeroFree (texts_of (movetext_of l))
  texts-line ends are = All-nil IsZeroFree
  texts-line (goes m ns comment variations l) are =
      rw (texts-nags ns (comment_before comment (variations_before variations (movetext_of l))))
      (texts-comment comment (variations_before variations (movetext_of l)) are.1.0
      (texts-variations variations (movetext_of l) are.1.1.0 (texts-line l are.1.1.1)))

  texts-variations : (v : Branches) (s : Movetext) → AreBranches v → All IsZeroFree (texts_of s) → All IsZeroFree (texts_of (variations_before v s))
  texts-variations none s are later = later
  texts-variations (more lead line others) s are later =
      All-append IsZeroFree (texts_of (comment_before lead (movetext_of line))) (texts_of (variations_before others s))
      (texts-comment lead (movetext_of line) are.0 (texts-line line are.1.0))
      (texts-variations others s are.1.1 later)

texts-game : (g : GameTree) → IsGame g → All IsZeroFree (texts_of (movetext_of_game g))
texts-game g are = texts-comment g.lead (movetext_of g.line) are.lead (texts-line g.line are.line)

-- What a written record says

clear_flag : (any under : Bool) → ((if any then 2 else 0) + (if under then 4 else 0)) % 2 ≡ 0
clear_flag true true = refl
clear_flag true false = refl
clear_flag false true = refl
clear_flag false false = refl

set_flag : (any under : Bool) → (1 + ((if any then 2 else 0) + (if under then 4 else 0))) % 2 ≡ 1
set_flag true true = refl
set_flag true false = refl
set_flag false true = refl
set_flag false false = refl

-- The whole record, by its start.
record-of : (bytes : List ℕ) (tags : List Tag) (g : GameTree) (behind : List ℕ) (n : Numbered) → Stands n → n.position ≡ g.start
    → IsLegalGame g → IsGame g → All IsTag tags → bytes ≡ tags_text tags ++ 0 ∷ behind
    → BeginsStart behind n (body_text n (movetext_of_game g)) → IsRecord bytes tags g
record-of bytes tags g behind n stands same legal has are is begins = from_spelled bytes tags g (record {
  all_tags = tags;
  start = n;
  movetext = movetext_of_game g;
  behind_tags = behind;
  behind_start = body_text n (movetext_of_game g);
  behind_moves = ended (texts_of (movetext_of_game g));
  tags_first = subst (λ (b : List ℕ). BeginsTags b tags behind) (sym is) (tags_text-begins tags behind are);
  then_start = begins;
  then_moves = spells-all n g.lead g.line (ended (texts_of (movetext_of_game g))) stands (subst (λ (p : Setup). IsLegalLine p g.line) (sym same) legal.line) legal.depth;
  then_texts = record { spelled = refl; zero_free = texts-game g has };
  tags_are = sym (free_of-IsTag tags are);
  game_is =
      let said = meaning-written g.lead g.line legal.lead (HasComments-legal g.start g.line legal.line) in
      sym (λ i. game_of (same i) (said i));
})

stands-start : (initial : Bool) (p : Setup) → Decides initial (p ≡ start_setup) → Sound p → Stands (numbered_start initial p)
stands-start true p is sound = record { sound = subst Sound (is.0 refl) sound; numbers = AreNumbers-standard }
stands-start false p is sound = record { sound = sound; numbers = AreNumbers-text p.board sound.squares sound.kings sound.few }

start-position : (initial : Bool) (p : Setup) → Decides initial (p ≡ start_setup) → (numbered_start initial p).position ≡ p
start-position true p is = sym (is.0 refl)
start-position false p is = refl

begins-start : (initial : Bool) (p : Setup) (any under : Bool) (rest : List ℕ) → Sound p
    → BeginsStart (start_text initial p ((if any then 2 else 0) + (if under then 4 else 0)) ++ rest) (numbered_start initial p) rest
begins-start true p any under rest sound = standard-begins ((if any then 2 else 0) + (if under then 4 else 0)) rest (clear_flag any under)
begins-start false p any under rest sound =
    let flags : ℕ = 1 + ((if any then 2 else 0) + (if under then 4 else 0)) in
    subst (λ (bytes : List ℕ). BeginsStart (flags ∷ bytes) (own_start p) rest) (sym (append_assoc (fen_text p) (0 ∷ []) rest))
    (own-begins flags p rest (set_flag any under) sound)

pub written-read : (tags : List Tag) (g : GameTree) → IsGame g → IsLegalGame g → All IsTag tags → IsRecord (written_record tags g) tags g
written-read tags g has legal are =
    let initial = is_start g.start in
    let decides = is_start-Decides g.start in
    let n = numbered_start initial g.start in
    record-of (written_record tags g) tags g (start_text initial g.start (promotion_flags g) ++ body_text n (movetext_of_game g)) n
    (stands-start initial g.start decides has.start) (start-position initial g.start decides) legal has are refl
    (begins-start initial g.start (has_promotion g) (has_underpromotion g) (body_text n (movetext_of_game g)) has.start)
