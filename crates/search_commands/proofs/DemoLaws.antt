-- Laws of games that are made of draws and added one by one, and of showing them.
use Rattle.std.proofs.Common.{Bool, false, ◌+◌, ℕ, List, Option, ◌≡◌, ap, ◌∙◌, None, sym, true, [], ◌++◌, Some, subst, Ok, refl, suc, arith, zero, ◌-◌, ◌<◌, Result, Err, ◌≤◌, OnOk}
use Rattle.std.specs.List.{flat_map, sum_by}
use Rattle.std.specs.Prelude.{IfErr, codes, cond, length, replicate, if◌then◌else◌, is_some, option_map, unwrap_or}
use Rattle.base_files.specs.Seen.{Seen}
use Rattle.base_files.specs.Told.{adds}
use Rattle.base_files.specs.declared.faults.Stop.TheVariants as stop
use Rattle.cell_core.specs.Board.{Men}
use Rattle.cell_core.specs.declared.man.Colour.{Colour}
use Rattle.cell_core.specs.declared.man.Colour.TheVariants.{White}
use Rattle.chess_laws.specs.Position.{start_men}
use Rattle.command_runs.proofs.Joining.{done_after, halted_after, halted_unsure, halted_more, halted_none}
use Rattle.command_runs.specs.Endings.{Serves, Cut, Halted, Done}
use Rattle.demo_games.specs.Demo.{Made, demo_game}
use Rattle.game_filter.specs.Filter.{count_in}
use Rattle.game_filter.specs.declared.op.Op.TheVariants.{And, Ignore}
use Rattle.game_tree.specs.Replay.{plies_of}
use Rattle.sig_index.specs.declared.pos_query.PosQuery.{PosQuery}
use Rattle.tree_rows.specs.Rows.{rows_of}
use Rattle.tree_rows.specs.TreeText.{averages_text, counts_text, in_order, row_line, tree_text}
use Rattle.tree_rows.specs.declared.row.Row.{Row}
use Rattle.search_commands.specs.Demo.{adding, one_more, with_made, Adding, at_start, shown_after, shown_text, demo_line, demo_text, demo_after, demo_work, shown_price, demo_price}
use Rattle.search_commands.specs.Demoing.{IsAdding, IsRefused, Wrote}
use Rattle.search_commands.specs.Searching.{search_position_text, search_position_after, search_position_work}
use Rattle.search_commands.specs.Trees.{tree_said, tree_work}
use Rattle.shell_state.proofs.CarryLaws.{carry_before}
use Rattle.shell_state.proofs.Causing.{broken_by_fault, fault_of_device}
use Rattle.shell_state.proofs.PriceLaws.{asked_told}
use Rattle.shell_state.proofs.Served.{line_serves}
use Rattle.shell_state.proofs.Unfinishing.{has_byte, some_behind, unfinished_behind, unfinished_by, unfinished_more, unfinished_none}
use Rattle.shell_state.specs.Carrying.{StillCarry}
use Rattle.shell_state.specs.Lines.{count_line}
use Rattle.shell_state.specs.Ends.{IsDevice, IsFault, IsOutput}
use Rattle.shell_state.specs.Refusing.{not_added, refusal_line, refusal_words}
use Rattle.shell_state.specs.Stands.{Stands, Holding, Broken, Asks, Unfinished}
use Rattle.shell_state.specs.State.{State, with_game}
use Rattle.shell_state.specs.Work.{price, works, Work}
use Rattle.shell_state.specs.declared.halt.Halt.{Halt}
use Rattle.shell_state.specs.declared.halt.Halt.TheVariants as halt
use Rattle.shell_state.specs.declared.refusing.Refusal.{Refusal}
use Rattle.shell_state.specs.Meeting.{position_len, tree_hits}

-- What a made game comes to, by what stands in its way.
abbrev pub unless_refusal : Option Refusal → Adding → Made → Adding
unless_refusal why a made =
    if is_some why then record a { refused = why }
    else record { state = with_game a.state made.head made.game; number = made.left; plies = a.plies + plies_of made.game; refused = None }

abbrev pub unless_ended : Option Refusal → Adding → Made → Adding
unless_ended why a made = if is_some why then a else with_made a made

-- ---- what `demo` does, by whether a game was refused

abbrev pub unless_shown : Option Refusal → State → State
unless_shown refused s = cond (is_some refused) s (shown_after s)

abbrev pub unless_said : Option Refusal → ℕ → ℕ → State → List ℕ
unless_said refused games plies s = unwrap_or (option_map refusal_line refused) (demo_line games plies ++ shown_text s)

abbrev unless_priced : Option Refusal → State → ℕ
unless_priced refused s = cond (is_some refused) 0 (shown_price s)

-- ---- one after the other

pub adding_first : (holding : Holding) (seen : Seen) (s : State) (seed number : ℕ) → number ≡ seed → Stands holding seen s → IsAdding holding seen number 0 (adding s seed 0)
adding_first holding seen s seed number is st = record { stands = st; number = sym is; plies = refl; good = refl }

pub adding_on : (holding : Holding) (seen : Seen) (number sum : ℕ) (s : State) (seed i : ℕ) → IsAdding holding seen number sum (one_more (adding s seed i) i) → IsAdding holding seen number sum (adding s seed (i + 1))
adding_on holding seen number sum s seed i h = let next : suc i ≡ i + 1 = omega arith in subst (λ (n : ℕ). IsAdding holding seen number sum (adding s seed n)) next h

pub refused_on : (holding : Holding) (seen : Seen) (why : Refusal) (s : State) (seed i : ℕ) → IsRefused holding seen why (one_more (adding s seed i) i) → IsRefused holding seen why (adding s seed (i + 1))
refused_on holding seen why s seed i h = let next : suc i ≡ i + 1 = omega arith in subst (λ (n : ℕ). IsRefused holding seen why (adding s seed n)) next h

one-more : (a : Adding) (i number : ℕ) (made : Made) (r : Option Refusal) → a.refused ≡ None → a.number ≡ number → demo_game number i ≡ made
    → not_added a.state.shared made.head made.game ≡ r → one_more a i ≡ unless_refusal r a made
one-more a i number made r good at is refused =
    ap (λ (o : Option Refusal). unless_ended o a (demo_game a.number i)) good
    ∙ ap (λ (n : ℕ). unless_ended None a (demo_game n i)) at
    ∙ ap (λ (m : Made). unless_ended None a m) is
    ∙ ap (λ (o : Option Refusal). unless_refusal o a made) refused

pub adding_more : (holding holding' : Holding) (seen seen' : Seen) (number sum : ℕ) (a : Adding) (i : ℕ) (made : Made) (more : ℕ) → IsAdding holding seen number sum a → demo_game number i ≡ made
    → Stands holding' seen' (with_game a.state made.head made.game) → not_added a.state.shared made.head made.game ≡ None → more ≡ plies_of made.game
    → IsAdding holding' seen' made.left (sum + more) (one_more a i)
adding_more holding holding' seen seen' number sum a i made more so_far is st refused plies =
    let both : a.plies + plies_of made.game ≡ sum + more = omega (arith, so_far.plies, plies) in
    let next : IsAdding holding' seen' made.left (sum + more) (unless_refusal None a made) = record { stands = st; number = refl; plies = both; good = refl } in
    subst (IsAdding holding' seen' made.left (sum + more)) (sym (one-more a i number made None so_far.good so_far.number is refused)) next

-- Behind a game that is refused no more is added.
refused-stays : (s : State) (seed i more : ℕ) (why : Refusal) → (adding s seed i).refused ≡ Some why → adding s seed (more + i) ≡ adding s seed i
refused-stays s seed i zero why is = let none : zero + i ≡ i = omega arith in ap (adding s seed) none
refused-stays s seed i (suc more) why is =
    let next : suc more + i ≡ suc (more + i) = omega arith in
    let rest = refused-stays s seed i more why is in
    ap (adding s seed) next ∙ ap (λ (a : Adding). one_more a (more + i)) rest
    ∙ ap (λ (o : Option Refusal). unless_ended o (adding s seed i) (demo_game (adding s seed i).number (more + i))) is

pub refused_here : (holding : Holding) (seen : Seen) (number sum : ℕ) (a : Adding) (i : ℕ) (made : Made) (holding' : Holding) (seen' : Seen) (why : Refusal) → IsAdding holding seen number sum a
    → demo_game number i ≡ made → Stands holding' seen' a.state → not_added a.state.shared made.head made.game ≡ Some why → IsRefused holding' seen' why (one_more a i)
refused_here holding seen number sum a i made holding' seen' why so_far is st refused =
    let here : IsRefused holding' seen' why (unless_refusal (Some why) a made) = record { stands = st; refused = refl } in
    subst (IsRefused holding' seen' why) (sym (one-more a i number made (Some why) so_far.good so_far.number is refused)) here

pub adding_ends : (holding : Holding) (seen : Seen) (s : State) (seed i games : ℕ) (why : Refusal) → i < games → IsRefused holding seen why (adding s seed (i + 1)) → IsRefused holding seen why (adding s seed games)
adding_ends holding seen s seed i games why less here =
    let all : (games - (i + 1)) + (i + 1) ≡ games = omega arith in
    subst (IsRefused holding seen why) (sym (refused-stays s seed (i + 1) (games - (i + 1)) why here.refused) ∙ ap (adding s seed) all) here

-- ---- what the files carry

unless-carried : (r : Option Refusal) (a : Adding) (made : Made) → (unless_refusal r a made).state.shared.carried ≡ a.state.shared.carried
unless-carried (Some why) a made = refl
unless-carried None a made = refl

ended-carried : (r : Option Refusal) (a : Adding) (made : Made) → (unless_ended r a made).state.shared.carried ≡ a.state.shared.carried
ended-carried (Some why) a made = refl
ended-carried None a made = unless-carried (not_added a.state.shared made.head made.game) a made

pub adding_carried : (s : State) (seed games : ℕ) → (adding s seed games).state.shared.carried ≡ s.shared.carried
adding_carried s seed zero = refl
adding_carried s seed (suc games) =
    ended-carried (adding s seed games).refused (adding s seed games) (demo_game (adding s seed games).number games) ∙ adding_carried s seed games

pub carry_adding : (seen : Seen) (s : State) (seed i : ℕ) → StillCarry seen (adding s seed i).state None → StillCarry seen s None
carry_adding seen s seed i h = carry_before seen s (adding s seed i).state None (adding_carried s seed i) h

-- ---- what is shown

fault_of : (s : State) (work : Work) (e : Halt) (text : List ℕ) (t t' : Option (List ℕ)) → work.body ≡ false → Broken s work e text t t' → IsFault e
fault_of s work (halt.Device stop.Files) text t t' none broken = tt
fault_of s work (halt.Device stop.Write) text t t' none broken = tt
fault_of s work (halt.Device stop.Memory) text t t' none broken = tt
fault_of s work (halt.Device stop.Read) text t t' none broken = absurd (cc)
fault_of s work (halt.Changed game kept found) text t t' none broken = absurd broken

-- Of a text with a byte not all was written if the files failed.
part_of : (s : State) (work : Work) (e : Halt) (text : List ℕ) (t t' : Option (List ℕ)) → (text ≡ [] → ⊥) → Broken s work e text t t' → e ≡ halt.Device stop.Files → Unfinished true text t t'
part_of s work e text t t' some broken is =
    let P : Halt → Type 0 = λ h. Broken s work h text t t' in
    let here : Broken s work (halt.Device stop.Files) text t t' = subst P is broken in
    unfinished_by work.early text t t' some here.1

-- The texts that it is made of have one.
count_has_byte : (count games : ℕ) → count_line count games ≡ [] → ⊥
count_has_byte count games none = absurd cc

tree_has_byte : (men : Men) (side : Colour) (rows : List Row) → tree_text men side rows ≡ [] → ⊥
unfolding tree_text
tree_has_byte men side rows =
    let taken : (Row → ℕ) → ℕ = λ field. sum_by field rows in
    some_behind (flat_map (row_line men side) (in_order rows)) _
    (some_behind (codes "total" ++ replicate (8 - length (codes "total")) 32) _ (some_behind (counts_text taken) _ (has_byte (averages_text taken) 10 [])))

said_has_byte : (s : State) → tree_said s start_men White ≡ [] → ⊥
said_has_byte s = tree_has_byte start_men White (rows_of (tree_hits at_start s.seat.filter s.shared.base.games))

shown_has_byte : (s : State) → shown_text s ≡ [] → ⊥
shown_has_byte s = some_behind (search_position_text s Ignore at_start) _ (said_has_byte (shown_after s))

demo_has_byte : (refused : Option Refusal) (games plies : ℕ) (s : State) → unless_said refused games plies s ≡ [] → ⊥
demo_has_byte (Some why) games plies s = has_byte (codes "error: " ++ refusal_words why) 10 []
demo_has_byte None games plies s = some_behind (demo_line games plies) _ (shown_has_byte s)

fault_by : (e : Halt) → IsOutput e → IsFault e
fault_by (halt.Device stop.Write) output = tt
fault_by (halt.Device stop.Memory) output = tt
fault_by (halt.Device stop.Read) output = absurd output
fault_by (halt.Device stop.Files) output = absurd output
fault_by (halt.Changed game kept found) output = absurd output

-- A text behind another that was written.
wrote_behind : (holding : Holding) (seen : Seen) (s : State) (front text : List ℕ) (t t' t'' : Option (List ℕ)) (r : Result (Unit {0}) Halt) → t' ≡ adds t front
    → Wrote holding seen s text t' t'' r → Wrote holding seen s (front ++ text) t t'' r
wrote_behind holding seen s front text t t' t'' (Ok x) written wrote = done_after (Stands holding seen) s front text t t' t'' written wrote
wrote_behind holding seen s front text t t' t'' (Err e) written wrote =
    (halted_unsure (front ++ []) (front ++ text) t t'' (halted_after front [] text t t' t'' written wrote.0), wrote.1, λ is. unfinished_behind front text t t' t'' written (wrote.2 is))

-- What a line of the plain machine wrote.
wrote_by : (holding : Holding) (seen : Seen) (s : State) (work : Work) (t t' : Option (List ℕ)) (r : Result (Unit {0}) Halt) → work.body ≡ false → (work.text s ≡ [] → ⊥) → Serves works (Stands holding seen) Broken s work t t' r
    → Wrote holding seen (work.after s) (work.text s) t t' r
wrote_by holding seen s work t t' (Ok x) none some served = served
wrote_by holding seen s work t t' (Err e) none some served =
    (served.wrote, fault_of s work e (work.text s) t t' none served.broken, part_of s work e (work.text s) t t' some served.broken)

-- The search was broken off.
pub search_shows : (holding : Holding) (seen : Seen) (s : State) (query : PosQuery) (e : Halt) (t t' : Option (List ℕ)) → query ≡ at_start
    → Cut (Broken s (search_position_work Ignore query) e (search_position_text s Ignore query) t t') (search_position_text s Ignore query) t t' → Wrote holding seen (shown_after s) (shown_text s) t t' (Err e)
search_shows holding seen s query e t t' is cut =
    let P : PosQuery → Type 0 = λ q. Halted [] (search_position_text s Ignore q) t t' in
    let Q : PosQuery → Type 0 = λ q. Unfinished true (search_position_text s Ignore q) t t' in
    let text : List ℕ = search_position_text s Ignore query in
    let plies : List (Option ℕ) = (search_position_after s Ignore query).seat.filter in
    let tree : List ℕ = tree_said (shown_after s) start_men White in
    let part = part_of s (search_position_work Ignore query) e text t t' (count_has_byte (count_in plies) (length plies)) cut.broken in (
      halted_more [] (search_position_text s Ignore at_start) tree t t' (subst P is cut.wrote),
      fault_of s (search_position_work Ignore query) e text t t' refl cut.broken,
      λ files. unfinished_more (search_position_text s Ignore at_start) tree t t' (subst Q is (part files)),
    )

-- It was done.
pub search_done : (holding : Holding) (seen : Seen) (s : State) (query : PosQuery) (t t' : Option (List ℕ)) → query ≡ at_start
    → Done (Stands holding seen) (search_position_after s Ignore query) (search_position_text s Ignore query) t t'
    → Done (Stands holding seen) (shown_after s) (search_position_text s Ignore at_start) t t'
search_done holding seen s query t t' is done =
    let P : PosQuery → Type 0 = λ q. Done (Stands holding seen) (search_position_after s Ignore q) (search_position_text s Ignore q) t t' in
    subst P is done

pub tree_shows : (holding holding' : Holding) (seen seen' : Seen) (s : State) (query : PosQuery) (t t' t'' : Option (List ℕ)) (r : Result (Unit {0}) Halt) → query ≡ at_start
    → Done (Stands holding seen) (shown_after s) (search_position_text s Ignore at_start) t t'
    → Serves works (Stands holding' seen') Broken (shown_after s) (tree_work query.board White) t' t'' r → Wrote holding' seen' (shown_after s) (shown_text s) t t'' r
tree_shows holding holding' seen seen' s query t t' t'' r is first later =
    let P : PosQuery → Type 0 = λ q. Serves works (Stands holding' seen') Broken (shown_after s) (tree_work q.board White) t' t'' r in
    wrote_behind holding' seen' (shown_after s) (search_position_text s Ignore at_start) (tree_said (shown_after s) start_men White) t t' t'' r first.written
    (wrote_by holding' seen' (shown_after s) (tree_work start_men White) t' t'' r refl (said_has_byte (shown_after s)) (subst P is later))

-- What both ask.
search-asks : (holding : Holding) (seen : Seen) (s : State) (query : PosQuery) (a a' : ℕ) → query ≡ at_start → Stands holding seen s → Asks holding (search_position_work Ignore query) a a'
    → a' ≤ a + price s (search_position_work Ignore at_start)
search-asks holding seen s query a a' is st asked =
    let P : PosQuery → Type 0 = λ q. Asks holding (search_position_work Ignore q) a a' in
    asked_told (position_len Ignore at_start) holding seen s a a' st (subst P is asked)

pub search_asks : (holding : Holding) (seen : Seen) (s : State) (query : PosQuery) (a a' : ℕ) → query ≡ at_start → Stands holding seen s → Asks holding (search_position_work Ignore query) a a'
    → a' ≤ a + shown_price s
search_asks holding seen s query a a' is st asked = omega (arith, search-asks holding seen s query a a' is st asked)

pub tree_asks : (holding holding' : Holding) (seen seen' : Seen) (s : State) (query : PosQuery) (a a' a'' : ℕ) → query ≡ at_start → Stands holding seen s → Stands holding' seen' (shown_after s)
    → Asks holding (search_position_work Ignore query) a a' → Asks holding' (tree_work query.board White) a' a'' → a'' ≤ a + shown_price s
tree_asks holding holding' seen seen' s query a a' a'' is st st' first later =
    let P : PosQuery → Type 0 = λ q. Asks holding' (tree_work q.board White) a' a'' in
    let told : a'' ≤ a' + price (shown_after s) (tree_work start_men White) = asked_told (position_len And at_start) holding' seen' (shown_after s) a' a'' st' (subst P is later) in
    omega (arith, search-asks holding seen s query a a' is st first, told)

-- The line before it was written, or was not.
pub line_shows : (holding : Holding) (seen : Seen) (s : State) (front line : List ℕ) (t t' t'' : Option (List ℕ)) (r : Result (Unit {0}) Halt) → line ≡ front → t' ≡ adds t line
    → Wrote holding seen (shown_after s) (shown_text s) t' t'' r → Wrote holding seen (shown_after s) (front ++ shown_text s) t t'' r
line_shows holding seen s front line t t' t'' r is written wrote =
    wrote_behind holding seen (shown_after s) front (shown_text s) t t' t'' r (written ∙ ap (adds t) is) wrote

pub line_cuts : (holding : Holding) (seen : Seen) (s : State) (front line : List ℕ) (e : Halt) (t t' : Option (List ℕ)) → line ≡ front → Halted [] line t t' → IsOutput e
    → Wrote holding seen (shown_after s) (front ++ shown_text s) t t' (Err e)
line_cuts holding seen s front line e t t' is halted output =
    let P : List ℕ → Type 0 = λ l. Halted [] l t t' in
    (halted_more [] front (shown_text s) t t' (subst P is halted), fault_by e output, λ files. absurd (subst IsOutput files output))

pub memory_shows : (holding : Holding) (seen : Seen) (s : State) (text : List ℕ) (t : Option (List ℕ)) → Wrote holding seen s text t t (Err (halt.Device stop.Memory))
memory_shows holding seen s text t = (halted_none text t, tt, λ files. cc)

-- ---- the command

-- All games are added: what it says, and the state behind it.
said-all : (s : State) (seed games sum : ℕ) → (adding s seed games).refused ≡ None → (adding s seed games).plies ≡ sum
    → demo_text s seed games ≡ demo_line games sum ++ shown_text (adding s seed games).state
said-all s seed games sum good plies =
    ap (λ (o : Option Refusal). unless_said o games (adding s seed games).plies (adding s seed games).state) good
    ∙ ap (λ (n : ℕ). demo_line games n ++ shown_text (adding s seed games).state) plies

after-all : (s : State) (seed games : ℕ) → (adding s seed games).refused ≡ None → demo_after s seed games ≡ shown_after (adding s seed games).state
after-all s seed games good = ap (λ (o : Option Refusal). unless_shown o (adding s seed games).state) good

serves-by : (holding : Holding) (seen : Seen) (s after : State) (work : Work) (text : List ℕ) (t t' : Option (List ℕ)) (r : Result (Unit {0}) Halt) → work.files ≡ true → work.early ≡ true
    → work.after s ≡ after → work.text s ≡ text → Wrote holding seen after text t t' r → Serves works (Stands holding seen) Broken s work t t' r
serves-by holding seen s after work text t t' (Ok x) asks early state said wrote =
    record { stands = subst (Stands holding seen) (sym state) wrote.stands; written = wrote.written ∙ ap (adds t) (sym said) }
serves-by holding seen s after work text t t' (Err e) asks early state said wrote =
    let P : List ℕ → Type 0 = λ l. Halted [] l t t' in
    let Q : List ℕ → Type 0 = λ l. Unfinished true l t t' in
    let R : Bool → Type 0 = λ b. Unfinished b (work.text s) t t' in
    record {
      wrote = subst P (sym said) wrote.0;
      broken = broken_by_fault s work e (work.text s) t t' asks (λ files. subst R (sym early) (subst Q (sym said) (wrote.2 files))) wrote.1;
    }

-- They are shown.
pub demo_serves : (holding : Holding) (seen : Seen) (s : State) (seed games sum : ℕ) (t t' : Option (List ℕ)) (r : Result (Unit {0}) Halt) → (adding s seed games).refused ≡ None
    → (adding s seed games).plies ≡ sum
    → Wrote holding seen (shown_after (adding s seed games).state) (demo_line games sum ++ shown_text (adding s seed games).state) t t' r
    → Serves works (Stands holding seen) Broken s (demo_work seed games) t t' r
demo_serves holding seen s seed games sum t t' r good plies wrote =
    serves-by holding seen s (shown_after (adding s seed games).state) (demo_work seed games) (demo_line games sum ++ shown_text (adding s seed games).state) t t' r refl refl
    (after-all s seed games good) (said-all s seed games sum good plies) wrote

-- The adding was broken off, before anything was written.
pub demo_cuts : (e : Halt) (s : State) (seed games : ℕ) (t : Option (List ℕ)) → IsDevice e → Cut (Broken s (demo_work seed games) e (demo_text s seed games) t t) (demo_text s seed games) t t
demo_cuts e s seed games t device =
    let added : Adding = adding s seed games in
    record {
      wrote = halted_none (demo_text s seed games) t;
      broken = broken_by_fault s (demo_work seed games) e (demo_text s seed games) t t refl
          (λ files. unfinished_none (demo_text s seed games) t (demo_has_byte added.refused games added.plies added.state)) (fault_of_device e device);
    }

pub demo_asks : (s : State) (seed games a a' : ℕ) → (adding s seed games).refused ≡ None → a' ≤ a + shown_price (adding s seed games).state → a' ≤ a + demo_price s seed games
demo_asks s seed games a a' good asked =
    let same : demo_price s seed games ≡ shown_price (adding s seed games).state = ap (λ (o : Option Refusal). unless_priced o (adding s seed games).state) good in
    omega (arith, asked, same)

-- A game was refused, and its error line written or broken off.
pub refusal_serves : (holding : Holding) (seen : Seen) (s : State) (seed games : ℕ) (why : Refusal) (t t' : Option (List ℕ)) (r : Result (Unit {0}) Halt)
    → IsRefused holding seen why (adding s seed games) → OnOk r (t' ≡ adds t (refusal_line why)) → Halted [] (refusal_line why) t t' → IfErr r IsOutput
    → Serves works (Stands holding seen) Broken s (demo_work seed games) t t' r
refusal_serves holding seen s seed games why t t' r is written halted output =
    let text : refusal_line why ≡ demo_text s seed games = ap (λ (o : Option Refusal). unless_said o games (adding s seed games).plies (adding s seed games).state) (sym is.refused) in
    let state : (adding s seed games).state ≡ demo_after s seed games = ap (λ (o : Option Refusal). unless_shown o (adding s seed games).state) (sym is.refused) in
    line_serves r holding (demo_work seed games) (refusal_line why) seen s t t' (subst (Stands holding seen) state is.stands) text written halted output
