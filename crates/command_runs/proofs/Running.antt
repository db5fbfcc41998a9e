-- Laws of runs: a run so far and one more command, the end of a run, and a run that stopped.
use Rattle.std.proofs.Common.{◌≡◌, ℕ, List, [], ◌∷◌, ◌++◌, Option, refl, sym, ap, ◌∙◌, subst, append_assoc, append-nil}
use Rattle.base_files.specs.Told.{adds}
use Rattle.base_files.proofs.Telling.{adds-nil}
use Rattle.command_runs.specs.Plain.{Plain, after_all, run}
use Rattle.command_runs.specs.Endings.{Done, Halted, Cut}
use Rattle.command_runs.specs.Runs.{Stopped}
use Rattle.command_runs.proofs.Joining.{halted_after, halted_more, halted_unsure, written_after}

-- From one state, the commands that were left and what was told, some of the commands led to another.
pub record Did {S C : Type 0} (m : Plain S C) (s : S) (cs : List C) (told : Option (List ℕ)) (s' : S) (cs' : List C) (told' : Option (List ℕ)) : Type 0 where
  pub done : List C
  pub all : cs ≡ done ++ cs'
  pub state : s' ≡ after_all m s done
  pub written : told' ≡ adds told (run m s done)

-- One list of commands after the other.
pub after_all-append : {S C : Type 0} (m : Plain S C) (s : S) (xs ys : List C) → after_all m s (xs ++ ys) ≡ after_all m (after_all m s xs) ys
after_all-append m s [] ys = refl
after_all-append m s (x ∷ xs) ys = after_all-append m (m.after s x) xs ys

pub run-append : {S C : Type 0} (m : Plain S C) (s : S) (xs ys : List C) → run m s (xs ++ ys) ≡ run m s xs ++ run m (after_all m s xs) ys
run-append m s [] ys = refl
run-append m s (x ∷ xs) ys =
    ap (λ (l : List ℕ). m.text s x ++ l) (run-append m (m.after s x) xs ys)
    ∙ sym (append_assoc (m.text s x) (run m (m.after s x) xs) (run m (after_all m (m.after s x) xs) ys))

-- No command yet.
pub did_none : {S C : Type 0} (m : Plain S C) (s : S) (cs : List C) (told : Option (List ℕ)) → Did m s cs told s cs told
did_none m s cs told = record { done = []; all = refl; state = refl; written = sym (adds-nil told) }

-- The commands of two runs, one after the other.
pub did_trans : {S C : Type 0} (m : Plain S C) (s s' s'' : S) (cs cs' cs'' : List C) (t t' t'' : Option (List ℕ))
    → Did m s cs t s' cs' t' → Did m s' cs' t' s'' cs'' t'' → Did m s cs t s'' cs'' t''
did_trans m s s' s'' cs cs' cs'' t t' t'' p q = record {
  done = p.done ++ q.done;
  all = p.all ∙ ap (λ (l : List _). p.done ++ l) q.all ∙ sym (append_assoc p.done q.done cs'');
  state = q.state ∙ ap (λ z. after_all m z q.done) p.state ∙ sym (after_all-append m s p.done q.done);
  written =
      written_after (run m s p.done) (run m s' q.done) t t' t'' p.written q.written
      ∙ ap (λ z. adds t (run m s p.done ++ run m z q.done)) p.state
      ∙ ap (adds t) (sym (run-append m s p.done q.done));
}

-- One command.
pub did_one : {S C : Type 0} (m : Plain S C) (Stands : S → Type 0) (s : S) (c : C) (cs : List C) (t t' : Option (List ℕ))
    → Done Stands (m.after s c) (m.text s c) t t' → Did m s (c ∷ cs) t (m.after s c) cs t'
did_one m Stands s c cs t t' d = record {
  done = c ∷ [];
  all = refl;
  state = refl;
  written = d.written ∙ ap (adds t) (sym (append-nil (m.text s c)));
}

-- A run so far and one more command.
pub did_more : {S C : Type 0} (m : Plain S C) (Stands : S → Type 0) (s s' : S) (cs : List C) (c : C) (cs' : List C) (t t' t'' : Option (List ℕ))
    → Did m s cs t s' (c ∷ cs') t' → Done Stands (m.after s' c) (m.text s' c) t' t'' → Did m s cs t (m.after s' c) cs' t''
did_more m Stands s s' cs c cs' t t' t'' p d = did_trans m s s' (m.after s' c) cs (c ∷ cs') cs' t t' t'' p (did_one m Stands s' c cs' t' t'' d)

-- The end of a run.
pub did_all : {S C : Type 0} (m : Plain S C) (Stands : S → Type 0) (s s' : S) (cs : List C) (t t' : Option (List ℕ))
    → Did m s cs t s' [] t' → Stands s' → Done Stands (after_all m s cs) (run m s cs) t t'
did_all m Stands s s' cs t t' p stands =
    let e : cs ≡ p.done = p.all ∙ append-nil p.done in
    record {
      stands = subst Stands (p.state ∙ ap (after_all m s) (sym e)) stands;
      written = p.written ∙ ap (λ l. adds t (run m s l)) (sym e);
    }

-- A run that goes on from another, and stops.
pub did_stops : {S C : Type 0} (m : Plain S C) (Broken : S → C → Option (List ℕ) → Type 0) (s s' : S) (cs cs' : List C) (t t' t'' : Option (List ℕ))
    → Did m s cs t s' cs' t' → Stopped m Broken s' cs' t' t'' → Stopped m Broken s cs t t''
did_stops {S} m Broken s s' cs cs' t t' t'' p q =
    let state : after_all m s' q.done ≡ after_all m s (p.done ++ q.done) =
    ap (λ z. after_all m z q.done) p.state ∙ sym (after_all-append m s p.done q.done) in
    let text : run m s p.done ++ run m s' q.done ≡ run m s (p.done ++ q.done) =
    ap (λ z. run m s p.done ++ run m z q.done) p.state ∙ sym (run-append m s p.done q.done) in
    let wrote : Halted (run m s p.done ++ run m s' q.done) (run m s p.done ++ (run m s' q.done ++ m.text (after_all m s' q.done) q.next)) t t'' =
    halted_after (run m s p.done) (run m s' q.done) (run m s' q.done ++ m.text (after_all m s' q.done) q.next) t t' t'' p.written q.wrote in
    let most : run m s p.done ++ (run m s' q.done ++ m.text (after_all m s' q.done) q.next)
    ≡ run m s (p.done ++ q.done) ++ m.text (after_all m s (p.done ++ q.done)) q.next =
    sym (append_assoc (run m s p.done) (run m s' q.done) (m.text (after_all m s' q.done) q.next))
    ∙ ap (λ l. l ++ m.text (after_all m s' q.done) q.next) text
    ∙ ap (λ z. run m s (p.done ++ q.done) ++ m.text z q.next) state in
    record {
      done = p.done ++ q.done;
      next = q.next;
      left = q.left;
      all = p.all ∙ ap (λ l. p.done ++ l) q.all ∙ sym (append_assoc p.done q.done (q.next ∷ q.left));
      wrote =
          let P : List ℕ → Type 0 = λ l. Halted l (run m s (p.done ++ q.done) ++ m.text (after_all m s (p.done ++ q.done)) q.next) t t'' in
          let Q : List ℕ → Type 0 = λ l. Halted (run m s p.done ++ run m s' q.done) l t t'' in
          subst P text (subst Q most wrote);
      broken =
          let told : adds t' (run m s' q.done) ≡ adds t (run m s (p.done ++ q.done)) =
          written_after (run m s p.done) (run m s' q.done) t t' (adds t' (run m s' q.done)) p.written refl ∙ ap (adds t) text in
          let B : S → Type 0 = λ z. Broken z q.next (adds t (run m s (p.done ++ q.done))) in
          subst B state (subst (Broken (after_all m s' q.done) q.next) told q.broken);
    }

-- A command that was broken off stops the run that it begins.
pub cut_stops : {S C : Type 0} (m : Plain S C) (Broken : S → C → Option (List ℕ) → Type 0) (s : S) (c : C) (cs : List C) (t t' : Option (List ℕ))
    → Cut (Broken s c t) (m.text s c) t t' → Stopped m Broken s (c ∷ cs) t t'
cut_stops m Broken s c cs t t' cut = record { done = []; next = c; left = cs; all = refl; wrote = cut.wrote; broken = subst (Broken s c) (sym (adds-nil t)) cut.broken }

-- A run so far and a command that was broken off.
pub stops : {S C : Type 0} (m : Plain S C) (Broken : S → C → Option (List ℕ) → Type 0) (s s' : S) (cs : List C) (c : C) (cs' : List C) (t t' t'' : Option (List ℕ))
    → Did m s cs t s' (c ∷ cs') t' → Cut (Broken s' c t') (m.text s' c) t' t'' → Stopped m Broken s cs t t''
stops m Broken s s' cs c cs' t t' t'' p cut = did_stops m Broken s s' cs (c ∷ cs') t t' t'' p (cut_stops m Broken s' c cs' t' t'' cut)

-- What a run that stopped has written is a front part of the whole text.
pub stopped_begins : {S C : Type 0} (m : Plain S C) (Broken : S → C → Option (List ℕ) → Type 0) (s : S) (cs : List C) (t t' : Option (List ℕ))
    → Stopped m Broken s cs t t' → Halted [] (run m s cs) t t'
stopped_begins m Broken s cs t t' q =
    let more : run m s (q.done ++ q.next ∷ q.left)
    ≡ (run m s q.done ++ m.text (after_all m s q.done) q.next) ++ run m (m.after (after_all m s q.done) q.next) q.left =
    run-append m s q.done (q.next ∷ q.left)
    ∙ sym (append_assoc (run m s q.done) (m.text (after_all m s q.done) q.next) (run m (m.after (after_all m s q.done) q.next) q.left)) in
    let P : List ℕ → Type 0 = λ l. Halted [] l t t' in
    subst P (sym more ∙ ap (run m s) (sym q.all))
    (halted_more [] (run m s q.done ++ m.text (after_all m s q.done) q.next) (run m (m.after (after_all m s q.done) q.next) q.left) t t'
    (halted_unsure (run m s q.done) (run m s q.done ++ m.text (after_all m s q.done) q.next) t t' q.wrote))

-- A run of items that stopped broke off the command whose text begins with the texts of its items.
pub cut_at : {S C : Type 0} (m : Plain S C) (Broken : S → C → Option (List ℕ) → Type 0) (s : S) (cs : List C) (behind : List ℕ) (t t' : Option (List ℕ))
    → Stopped m Broken s cs t t' → Halted [] (run m s cs ++ behind) t t'
cut_at m Broken s cs behind t t' q = halted_more [] (run m s cs) behind t t' (stopped_begins m Broken s cs t t' q)
