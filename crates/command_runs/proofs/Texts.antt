-- Laws of a text that a sink takes with its tags, some of it at once and the rest from a page.
use Rattle.std.proofs.Common.{◌≡◌, ◌≤◌, ◌+◌, ◌⊎◌, inl, inr, ℕ, Bool, true, List, [], ◌++◌, length, take, drop, Option, None, Some, refl, sym, ap, ◌∙◌, subst, arith, append_assoc, append-nil}
use Rattle.std.proofs.Math.Seq.{drop-append_seam, drop-length}
use Rattle.base_files.specs.Counters.{Rose, raised}
use Rattle.base_files.specs.Told.{adds, Grew}
use Rattle.base_files.proofs.Telling.{adds-nil, adds-append, Grew-adds, Grew-trans}
use Rattle.command_runs.specs.Rendered.{Opening, Rendered, no_text, said, told_behind, untagged_text}
use Rattle.command_runs.specs.Tagged.{line_begins, tagged, tagged_lines, untagged}
use Rattle.command_runs.specs.Waiting.{Waiting, none_waits}
use Rattle.command_runs.proofs.Lines.{begins_append, begins_none, tagged_append, tagged_none, untagged_lines}

-- ---- where a sink tells what it has taken

behind_grew : (first told told' : Option (List ℕ)) → told ≡ adds first (told_behind first told) → Grew told told' → told' ≡ adds first (told_behind first told')
behind_grew None None None kept grew = refl
behind_grew None None (Some told') kept grew = absurd grew
behind_grew None (Some told) told' kept grew = cc
behind_grew (Some first) None told' kept grew = cc
behind_grew (Some first) (Some told) None kept grew = absurd grew
behind_grew (Some first) (Some told) (Some told') kept grew =
    let was : told ≡ first ++ drop (length first) told = cc in
    let all : told' ≡ first ++ (drop (length first) told ++ grew.0) = grew.1 ∙ ap (λ (l : List ℕ). l ++ grew.0) was ∙ append_assoc first (drop (length first) told) grew.0 in
    let rest : drop (length first) told' ≡ drop (length first) told ++ grew.0 = ap (drop (length first)) all ∙ drop-append_seam first (drop (length first) told ++ grew.0) in
    ap (λ (l : List ℕ). Some l) (all ∙ ap (λ (l : List ℕ). first ++ l) (sym rest))

-- The text is what the sink and the page have of it.
text_is : (tag : List ℕ) (first told : Option (List ℕ)) (waits text : List ℕ) → told ≡ adds first (told_behind first told)
    → adds told waits ≡ adds first (tagged tag text) → untagged_text tag first told waits ≡ adds (no_text first) text
text_is tag None None waits text kept all = refl
text_is tag None (Some told) waits text kept all = cc
text_is tag (Some first) None waits text kept all = cc
text_is tag (Some first) (Some told) waits text kept all =
    let was : told ≡ first ++ drop (length first) told = cc in
    let same : told ++ waits ≡ first ++ tagged tag text = cc in
    let joined : first ++ (drop (length first) told ++ waits) ≡ first ++ tagged tag text =
    sym (append_assoc first (drop (length first) told) waits) ∙ ap (λ (l : List ℕ). l ++ waits) (sym was) ∙ same in
    let rest : drop (length first) told ++ waits ≡ tagged tag text =
    sym (drop-append_seam first (drop (length first) told ++ waits)) ∙ ap (drop (length first)) joined ∙ drop-append_seam first (tagged tag text) in
    ap (λ (l : List ℕ). Some l) (ap (untagged (length tag) (length tag)) rest ∙ untagged_lines true tag text)

-- ---- a text goes on

-- A text so far, with its tags.
record Said (tag : List ℕ) (first told : Option (List ℕ)) (waits : List ℕ) (begins : Bool) : Type 0 where
  kept : told ≡ adds first (told_behind first told)
  text : (text : List ℕ) → untagged_text tag first told waits ≡ Some text → adds told waits ≡ adds first (tagged tag text)
  line : (text : List ℕ) → untagged_text tag first told waits ≡ Some text → begins ≡ line_begins true text

-- The same text and this piece of it.
record SaidMore (tag : List ℕ) (first told told' : Option (List ℕ)) (waits waits' : List ℕ) (begins' : Bool) (piece : List ℕ) : Type 0 where
  said : Said tag first told' waits' begins'
  more : untagged_text tag first told' waits' ≡ adds (untagged_text tag first told waits) piece

more_by : (tag first : List ℕ) (told' : Option (List ℕ)) (waits' : List ℕ) (begins begins' : Bool) (so_far piece : List ℕ)
    → told' ≡ adds (Some first) (told_behind (Some first) told') → adds told' waits' ≡ adds (Some first) (tagged tag so_far ++ tagged_lines begins tag piece)
    → begins ≡ line_begins true so_far → begins' ≡ line_begins begins piece
    → Said tag (Some first) told' waits' begins' × (untagged_text tag (Some first) told' waits' ≡ Some (so_far ++ piece))
more_by tag first told' waits' begins begins' so_far piece kept all line line' =
    let both : tagged tag so_far ++ tagged_lines begins tag piece ≡ tagged tag (so_far ++ piece) =
    ap (λ (b : Bool). tagged tag so_far ++ tagged_lines b tag piece) line ∙ sym (tagged_append true tag so_far piece) in
    let whole : adds told' waits' ≡ adds (Some first) (tagged tag (so_far ++ piece)) = all ∙ ap (adds (Some first)) both in
    let is : untagged_text tag (Some first) told' waits' ≡ Some (so_far ++ piece) = text_is tag (Some first) told' waits' (so_far ++ piece) kept whole in
    let begun : begins' ≡ line_begins true (so_far ++ piece) = line' ∙ ap (λ (b : Bool). line_begins b piece) line ∙ sym (begins_append true so_far piece) in (
      record {
        kept = kept;
        text = λ text there. let e : so_far ++ piece ≡ text = cc in whole ∙ ap (λ (l : List ℕ). adds (Some first) (tagged tag l)) e;
        line = λ text there. let e : so_far ++ piece ≡ text = cc in begun ∙ ap (line_begins true) e;
      },
      is,
    )

said_more : (tag : List ℕ) (first told told' : Option (List ℕ)) (waits waits' : List ℕ) (begins begins' : Bool) (piece : List ℕ) → Said tag first told waits begins → Grew told told'
    → adds told' waits' ≡ adds told (waits ++ tagged_lines begins tag piece) → begins' ≡ line_begins begins piece
    → SaidMore tag first told told' waits waits' begins' piece
said_more tag None None None waits waits' begins begins' piece so_far grew all line =
    record { said = record { kept = refl; text = λ text there. cc; line = λ text there. cc }; more = refl }
said_more tag None None (Some told') waits waits' begins begins' piece so_far grew all line = absurd grew
said_more tag None (Some told) told' waits waits' begins begins' piece so_far grew all line = let e = so_far.kept in cc
said_more tag (Some first) None told' waits waits' begins begins' piece so_far grew all line = let e = so_far.kept in cc
said_more tag (Some first) (Some told) told' waits waits' begins begins' piece so_far grew all line =
    let text : List ℕ = untagged (length tag) (length tag) (drop (length first) told ++ waits) in
    let whole : adds told' waits' ≡ adds (Some first) (tagged tag text ++ tagged_lines begins tag piece) =
    all
    ∙ adds-append (Some told) waits (tagged_lines begins tag piece)
    ∙ ap (λ (t : Option (List ℕ)). adds t (tagged_lines begins tag piece)) (so_far.text text refl)
    ∙ sym (adds-append (Some first) (tagged tag text) (tagged_lines begins tag piece)) in
    let m = more_by tag first told' waits' begins begins' text piece (behind_grew (Some first) (Some told) told' so_far.kept grew) whole (so_far.line text refl) line in
    record { said = m.0; more = m.1 }

-- ---- the same of a page

said_of : (o : Opening) (told : Option (List ℕ)) (faults : ℕ) (page : Waiting) → Rendered o told faults page → Said o.tag o.told told page.bytes page.begins
said_of o told faults page r = record { kept = r.kept; text = r.text; line = r.line }

-- A piece went behind the text so far.
pub rendered_more : (o : Opening) (told told' : Option (List ℕ)) (faults faults' : ℕ) (page page' : Waiting) (piece : List ℕ) → Grew told told' → faults ≤ faults'
    → adds told' page'.bytes ≡ adds told (page.bytes ++ tagged_lines page.begins o.tag piece) → page'.begins ≡ line_begins page.begins piece → page'.faults ≡ page.faults
    → Rendered o told faults page → Rendered o told' faults' page'
rendered_more o told told' faults faults' page page' piece grew rose all line same r =
    let m = (said_more o.tag o.told told told' page.bytes page'.bytes page.begins page'.begins piece (said_of o told faults page r) grew all line).said in
    record {
      kept = m.kept;
      text = m.text;
      line = m.line;
      counts = omega (arith, r.counts, rose);
      failed = λ some. omega (arith, r.failed (omega (arith, some, same)), rose);
    }

pub said_then : (o : Opening) (told told' : Option (List ℕ)) (faults : ℕ) (page page' : Waiting) (piece : List ℕ) → Grew told told'
    → adds told' page'.bytes ≡ adds told (page.bytes ++ tagged_lines page.begins o.tag piece) → page'.begins ≡ line_begins page.begins piece
    → Rendered o told faults page → said o told' page' ≡ adds (said o told page) piece
said_then o told told' faults page page' piece grew all line r =
    (said_more o.tag o.told told told' page.bytes page'.bytes page.begins page'.begins piece (said_of o told faults page r) grew all line).more

nothing_more : (begins : Bool) (tag waits : List ℕ) → waits ≡ waits ++ tagged_lines begins tag []
nothing_more begins tag waits = sym (append-nil waits) ∙ ap (λ (l : List ℕ). waits ++ l) (sym (tagged_none begins tag))

-- A count that rose, or stands at its last value, has one more.
pub by_one : (a b : ℕ) → Rose a b → raised a 1 ≤ b
by_one a b rose = elim rose [ inl p ↦ omega (arith, p) | inr p ↦ omega (arith, p) ]

-- Nothing went behind it, and a write may have failed.
pub rendered_still : (o : Opening) (told told' : Option (List ℕ)) (faults faults' : ℕ) (page page' : Waiting) → Grew told told' → faults ≤ faults'
    → adds told' page'.bytes ≡ adds told page.bytes → page'.begins ≡ page.begins → (page'.faults ≡ page.faults) ⊎ (raised faults 1 ≤ faults')
    → Rendered o told faults page → Rendered o told' faults' page'
rendered_still o told told' faults faults' page page' grew rose all line same r =
    let m = (said_more o.tag o.told told told' page.bytes page'.bytes page.begins page'.begins [] (said_of o told faults page r) grew (all ∙ ap (adds told) (nothing_more page.begins o.tag page.bytes)) (line ∙ sym (begins_none page.begins))).said in
    record {
      kept = m.kept;
      text = m.text;
      line = m.line;
      counts = omega (arith, r.counts, rose);
      failed = λ some. elim same [ inl is ↦ omega (arith, r.failed (omega (arith, some, is)), rose) | inr more ↦ omega (arith, more, r.counts) ];
    }

pub said_still : (o : Opening) (told told' : Option (List ℕ)) (faults : ℕ) (page page' : Waiting) → Grew told told'
    → adds told' page'.bytes ≡ adds told page.bytes → page'.begins ≡ page.begins → Rendered o told faults page → said o told' page' ≡ said o told page
said_still o told told' faults page page' grew all line r =
    said_then o told told' faults page page' [] grew (all ∙ ap (adds told) (nothing_more page.begins o.tag page.bytes)) (line ∙ sym (begins_none page.begins)) r ∙ adds-nil (said o told page)

-- ---- the beginning

no_text_yet : (tag : List ℕ) (told : Option (List ℕ)) → untagged_text tag told told [] ≡ no_text told
no_text_yet tag None = refl
no_text_yet tag (Some told) = text_is tag (Some told) (Some told) [] [] (ap (λ (l : List ℕ). Some l) (sym (append-nil told) ∙ ap (λ (l : List ℕ). told ++ l) (sym (drop-length told)))) (ap (λ (l : List ℕ). Some (told ++ l)) (sym (tagged_none true tag)))

pub said_first : (o : Opening) (told : Option (List ℕ)) → o.told ≡ told → said o told none_waits ≡ no_text told
said_first o told is = rw is (no_text_yet o.tag told)

first_by : (told : Option (List ℕ)) → told ≡ adds told (told_behind told told)
first_by None = refl
first_by (Some told) = ap (λ (l : List ℕ). Some l) (sym (append-nil told) ∙ ap (λ (l : List ℕ). told ++ l) (sym (drop-length told)))

first_text : (told : Option (List ℕ)) (text : List ℕ) → no_text told ≡ Some text → text ≡ []
first_text None text is = cc
first_text (Some told) text is = cc

pub rendered_first : (o : Opening) (told : Option (List ℕ)) (faults : ℕ) (page : Waiting) → o.told ≡ told → o.faults ≡ faults → page ≡ none_waits → Rendered o told faults page
rendered_first o told faults page is same none =
    let none_said : (text : List ℕ) → said o told none_waits ≡ Some text → text ≡ [] = λ text there. first_text told text (sym (said_first o told is) ∙ there) in
    let first : Rendered o told faults none_waits = record {
      kept = rw is (first_by told);
      text = λ text there. ap (λ (t : Option (List ℕ)). adds t []) (sym is) ∙ ap (adds o.told) (sym (tagged_none true o.tag) ∙ ap (tagged o.tag) (sym (none_said text there)));
      line = λ text there. sym (begins_none true) ∙ ap (line_begins true) (sym (none_said text there));
      counts = omega (arith, same);
      failed = λ some. absurd (omega (arith, some));
    } in
    subst (λ (p : Waiting). Rendered o told faults p) (sym none) first

-- The text that a page and a sink have at its beginning.
pub said_begun : (o : Opening) (told : Option (List ℕ)) (page : Waiting) → told ≡ o.told → page ≡ none_waits → said o told page ≡ no_text o.told
said_begun o told page is none =
    ap (said o told) none ∙ ap (λ (t : Option (List ℕ)). said o t none_waits) is ∙ said_first o o.told refl
