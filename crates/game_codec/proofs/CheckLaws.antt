-- A line, and the texts behind the moves, as far as they were looked at: what is left gives the whole.
use Rattle.std.proofs.Common.{◌≡◌, ◌≢◌, ℕ, ◌+◌, ◌<◌, ◌≤◌, List, [], ◌∷◌, ◌++◌, length, drop, min, refl, sym, ap, subst, ◌∙◌, append-nil, length-append, inl, inr, arith}
use Rattle.std.specs.Prelude.{All}
use Rattle.std.proofs.lemmas.List.Elements.{All-nil, All-push}
use Rattle.cell_core.specs.Text.{IsZeroFree}
use Rattle.game_tree.specs.Movetext.{Movetext, meaning}
use Rattle.game_tree.specs.TagName.{free_of}
use Rattle.game_tree.specs.declared.head.Tag.{Tag}
use Rattle.move_codec.specs.Numbers.{Numbered}
use Rattle.game_codec.specs.Breach.{Tells}
use Rattle.game_codec.specs.Checking.{AreSomeTexts, full_among}
use Rattle.game_codec.specs.Fault.{Breaks}
use Rattle.game_codec.specs.Moves.{SpellsMoves, Upto, BreaksMoves}
use Rattle.game_codec.specs.Place.{Place, beginning}
use Rattle.game_codec.specs.Record.{IsSomeRecord}
use Rattle.game_codec.specs.RecordAnswer.{game_of}
use Rattle.game_codec.specs.Scanning.{tokens_then}
use Rattle.game_codec.specs.Start.{BeginsStart, BreaksStart}
use Rattle.game_codec.specs.TagReading.{BreaksTags, BeginsTags}
use Rattle.game_codec.specs.Tallying.{no_tally, tallied}
use Rattle.game_codec.specs.Texts.{AreTexts, BreaksTexts, ended, texts_of}
use Rattle.game_codec.specs.declared.breach.Breach.{Breach}
use Rattle.game_codec.specs.declared.fault.RecordWhat.TheVariants.{Short, Extra}
use Rattle.game_codec.specs.declared.tally.Tally.{Tally}
use Rattle.game_codec.proofs.RecordAnswerLaws.{from_spelled}
use Rattle.game_codec.proofs.DealLaws.{ended-push}
use Rattle.game_codec.proofs.TallyLaws.{LineTallied}
use Rattle.game_codec.proofs.TotalLaws.{dealt_all, full-append, said, said-comments, said-is}

-- A movetext with so many comments that the bytes spell, and these bytes follow.
pub record Checked (p : Place) (bytes behind : List ℕ) (comments : ℕ) : Type 0 where
  pub movetext : Movetext
  pub spells : SpellsMoves p movetext bytes behind
  pub count : length (texts_of movetext) ≡ comments

pub line_is : (p : Place) (start : Numbered) (bytes behind : List ℕ) (used : ℕ) (before tally : Tally) → p ≡ beginning 0 start → behind ≡ drop used bytes
    → before ≡ no_tally → LineTallied p bytes used before tally → Checked (beginning 0 start) bytes behind tally.comments
line_is p start bytes behind used before tally p_is behind_is none line =
    let told : tally ≡ said no_tally line.0 = line.1.1 ∙ ap (λ (t : Tally). tallied t (tokens_then line.0 [])) none ∙ said-is no_tally line.0 [] in
    record {
      movetext = line.0;
      spells = rw (← p_is, behind_is) line.1.0;
      count = omega (arith, ap (λ (t : Tally). t.comments) told, said-comments no_tally line.0);
    }

-- The whole record, and its faults by their parts.

module _ (bytes behind_tags behind_start behind_moves : List ℕ) (all : List Tag) (start : Numbered) (tags_first : BeginsTags bytes all behind_tags)
    (then_start : BeginsStart behind_tags start behind_start) where
  pub some_record : (n full : ℕ) → Checked (beginning 0 start) behind_start behind_moves n → AreSomeTexts n behind_moves full → IsSomeRecord bytes
  some_record n full line texts =
      let found = dealt_all line.movetext texts.0 (texts.1.1.0 ∙ sym line.count) in
      let movetext = found.0.movetext in
      let game = game_of start.position (meaning movetext) in (
        free_of all,
        (
          game,
          from_spelled bytes (free_of all) game (record {
            all_tags = all;
            start = start;
            movetext = movetext;
            behind_tags = behind_tags;
            behind_start = behind_start;
            behind_moves = behind_moves;
            tags_first = tags_first;
            then_start = then_start;
            then_moves = found.0.spells (beginning 0 start) behind_start behind_moves line.spells;
            then_texts = subst (AreTexts behind_moves) (sym found.1) texts.1.0;
            tags_are = refl;
            game_is = refl;
          }),
        ),
      )

  pub moves_broken : (breach : Breach) → Tells (λ rest what. (u : Upto) × BreaksMoves (beginning 0 start) u behind_start rest what) breach
      → Tells (Breaks bytes) breach
  moves_broken breach tells = (
    tells.0,
    tells.1,
    inr (inr (inl (record {
      tags = all;
      start = start;
      upto = tells.2.0;
      behind_tags = behind_tags;
      behind_start = behind_start;
      tags_first = tags_first;
      then_start = then_start;
      breaks = tells.2.1;
    }))),
  )

  pub texts_broken : (n : ℕ) (breach : Breach) → Checked (beginning 0 start) behind_start behind_moves n
      → Tells (BreaksTexts n behind_moves) breach → Tells (Breaks bytes) breach
  texts_broken n breach line tells = (
    tells.0,
    tells.1,
    inr (inr (inr (record {
      tags = all;
      start = start;
      movetext = line.movetext;
      behind_tags = behind_tags;
      behind_start = behind_start;
      behind_moves = behind_moves;
      tags_first = tags_first;
      then_start = then_start;
      then_moves = line.spells;
      breaks = subst (λ (due : ℕ). BreaksTexts due behind_moves tells.0 breach.what) (sym line.count) tells.2;
    }))),
  )

pub tags_broken : (bytes : List ℕ) (breach : Breach) → Tells (λ rest what. (all : List Tag) × BreaksTags bytes all rest what) breach → Tells (Breaks bytes) breach
tags_broken bytes breach tells = (tells.0, tells.1, inl (record { tags = tells.2.0; breaks = tells.2.1 }))

pub start_broken : (bytes behind_tags : List ℕ) (all : List Tag) (breach : Breach) → BeginsTags bytes all behind_tags
    → Tells (BreaksStart behind_tags) breach → Tells (Breaks bytes) breach
start_broken bytes behind_tags all breach first tells =
    (tells.0, tells.1, inr (inl (record { tags = all; behind_tags = behind_tags; tags_first = first; breaks = tells.2 })))

-- So many texts were looked at, and so many of them are not empty.
pub record HasSeen (bytes rest : List ℕ) (read full : ℕ) : Type 0 where
  pub texts : List (List ℕ)
  pub zero_free : All IsZeroFree texts
  pub spelled : bytes ≡ ended texts ++ rest
  pub count : length texts ≡ read
  pub full_is : full ≡ full_among texts
  pub few : full ≤ read

pub HasSeen-none : (bytes : List ℕ) → HasSeen bytes bytes 0 0
HasSeen-none bytes =
    record { texts = []; zero_free = All-nil IsZeroFree; spelled = refl; count = refl; full_is = refl; few = omega arith }

abbrev pub full_of : List ℕ → ℕ
full_of text = full_among (text ∷ [])

pub full_of-is : (text : List ℕ) (n : ℕ) → length text ≡ n → full_of text ≡ min n 1
full_of-is [] n is = omega (arith, is)
full_of-is (c ∷ cs) n is = omega (arith, is)

full_of-one : (text : List ℕ) → full_of text ≤ 1
full_of-one [] = omega arith
full_of-one (c ∷ cs) = omega arith

pub HasSeen-more : (bytes rest later text : List ℕ) (read full next : ℕ) → HasSeen bytes rest read full → IsZeroFree text → rest ≡ text ++ 0 ∷ later
    → next ≡ full + full_of text → HasSeen bytes later (read + 1) next
HasSeen-more bytes rest later text read full next has free is next_is = record {
  texts = has.texts ++ text ∷ [];
  zero_free = All-push IsZeroFree has.texts text has.zero_free free;
  spelled = has.spelled ∙ ap (λ (bs : List ℕ). ended has.texts ++ bs) is ∙ sym (ended-push has.texts text later);
  count = omega (arith, has.count, length-append has.texts (text ∷ []));
  full_is = omega (arith, next_is, has.full_is, full-append has.texts (text ∷ []));
  few = omega (arith, next_is, has.few, full_of-one text);
}

pub HasSeen-all : (bytes rest : List ℕ) (read full due : ℕ) → HasSeen bytes rest read full → read ≡ due → rest ≡ [] → AreSomeTexts due bytes full
HasSeen-all bytes rest read full due has all none = (
  has.texts,
  (
    record { spelled = has.spelled ∙ ap (λ (bs : List ℕ). ended has.texts ++ bs) none ∙ append-nil (ended has.texts); zero_free = has.zero_free },
    (has.count ∙ all, has.full_is),
  ),
)

pub HasSeen-short : (bytes rest : List ℕ) (read full due : ℕ) → HasSeen bytes rest read full → read < due → IsZeroFree rest → BreaksTexts due bytes rest Short
HasSeen-short bytes rest read full due has under free =
    record { texts = has.texts; zero_free = has.zero_free; spelled = has.spelled; fault = (omega (arith, has.count, under), free) }

pub HasSeen-extra : (bytes rest : List ℕ) (read full due : ℕ) → HasSeen bytes rest read full → read ≡ due → rest ≢ [] → BreaksTexts due bytes rest Extra
HasSeen-extra bytes rest read full due has all some =
    record { texts = has.texts; zero_free = has.zero_free; spelled = has.spelled; fault = (has.count ∙ all, some) }
