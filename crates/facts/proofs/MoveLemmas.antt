-- Facts whose truths are right after boards changed and rows were refreshed.
use Rattle.std.proofs.Common.{Option, None, ◌+◌, ◌≡◌, ℕ, ◌≤◌, Bool, true, false, not, ◌||◌, nat_eq, List, [], ◌∷◌, refl, sym, ap, subst, ◌∙◌, inl, inr, eq-eqb, eqb-true}
use Rattle.std.specs.Prelude.{is_some}
use Rattle.std.specs.List.{AllByRecursion, list_any}
use Rattle.std.proofs.lemmas.Bool.{false_from_ne_true, or_cases, or_left, or_right, true≢false}
use Rattle.name_index.specs.declared.table.NameId.{NameId}
use Rattle.name_index.specs.Table.{IsNameTable, Names, kept_at}
use Rattle.fact_boards.specs.level_board.Board.{AreAnswers, ProbesAreMarks, Board, FitsBoard, is_probe_marked, KeepsLevels, probe_times}
use Rattle.cpe_rows.specs.Rows.{no_rows, Rows}
use Rattle.cpe_rows.specs.Verdict.{fact_truth}
use Rattle.cpe_rows.specs.declared.statement.Mode.{Mode}
use Rattle.cpe_rows.specs.declared.statement.Mode.TheVariants.{Plain, Follow}
use Rattle.name_index.specs.declared.products.Side.TheVariants as side
use Rattle.fact_laws.specs.Shown.{name_at}
use Rattle.fact_laws.specs.Asked.{asked, is_referred}
use Rattle.fact_boards.specs.Kept.{AreSound, Boards, looks_by, ShowsRows}
use Rattle.fact_boards.specs.Lists.{fact_looks}
use Rattle.fact_boards.proofs.Looks.{looks_are}
use Rattle.fact_boards.proofs.AskedOn.{facts_on}
use Rattle.fact_rows.specs.Facts.{AreLinkedFacts, truth_differs, ends_of_fact, ends_or_none, Fact, fact_at, facts_with_end, FactTable, truth_or_unknown, users_or_none, has_end_of_fact, is_fact, is_under_one, leads_by, leads_of, truth_of_fact}
use Rattle.fact_rows.specs.Calls.{Refreshed, SameFacts}
use Rattle.fact_rows.specs.ticket_list.Tickets.{is_empty}
use Rattle.fact_rows.specs.Truths.{truth_at_ends}
use Rattle.fact_rows.proofs.TruthLemmas.{truths_stay}
use Rattle.facts.specs.Looks.{item_looks}
use Rattle.facts.specs.Facts.{AreChanges, AreUsed, FactsBut, FactsNow, found_from, is_touched, is_used, LeadsTo}
use Rattle.facts.specs.Users.{users_in}
use Rattle.facts.proofs.LevelLemmas.{shown}
use Rattle.facts.proofs.UserLemmas.{used_fact, users_refer}

-- ---- marked names

-- what isn't one of the marks isn't marked
pub not_marked : (board : Board) (p : ℕ) → ProbesAreMarks board → has_end_of_fact board.marks p ≡ false → is_probe_marked board p ≡ false
not_marked board p whole free = false_from_ne_true (is_probe_marked board p) (λ on. true≢false (sym (whole p on) ∙ free))

-- a fact of a marked name is a fact of one of the marks
marked_under : (t : FactTable) (q : ℕ) (marks : List NameId) (p : ℕ) → has_end_of_fact marks p ≡ true → has_end_of_fact (facts_with_end t p) q ≡ true → is_under_one t marks q ≡ true
marked_under t q [] p h is = absurd (true≢false (sym h))
marked_under t q (x ∷ marks) p h is = elim (or_cases (nat_eq x.0 p) (has_end_of_fact marks p) h) [
  | inl e ↦ or_left (has_end_of_fact (facts_with_end t x.0) q) (is_under_one t marks q) (subst (λ (n : ℕ). has_end_of_fact (facts_with_end t n) q ≡ true) (sym (eqb-true x.0 p e)) is)
  | inr later ↦ or_right (has_end_of_fact (facts_with_end t x.0) q) (is_under_one t marks q) (marked_under t q marks p later is)
]

none_marked : (t : FactTable) (q : ℕ) (board : Board) (numbers : List NameId) → ProbesAreMarks board → ((e : ℕ) → has_end_of_fact numbers e ≡ true → has_end_of_fact (facts_with_end t e) q ≡ true) → is_under_one t board.marks q ≡ false
    → list_any (λ (x : NameId). is_probe_marked board x.0) numbers ≡ false
none_marked t q board [] whole under free = refl
none_marked t q board (x ∷ numbers) whole under free =
    let first : is_probe_marked board x.0 ≡ false = false_from_ne_true (is_probe_marked board x.0)
    (λ on. true≢false (sym (marked_under t q board.marks x.0 (whole x.0 on) (under x.0 (or_left (nat_eq x.0 x.0) (has_end_of_fact numbers x.0) (eq-eqb x.0 x.0 refl)))) ∙ free)) in
    let rest = none_marked t q board numbers whole (λ e h. under e (or_right (nat_eq x.0 e) (has_end_of_fact numbers e) h)) free in
    ap (λ (b : Bool). b || list_any (λ (y : NameId). is_probe_marked board y.0) numbers) first ∙ rest

-- a fact of none of the marks leads to none of them
pub untouched : (mode : Mode) (t : FactTable) (board : Board) (q : ℕ) → ProbesAreMarks board → AreLinkedFacts t → found_from mode t board.marks q ≡ false → is_touched mode board t q ≡ false
untouched Plain t board q whole linked free = ap {B = Bool} (λ (b : Bool). b || false) (not_marked board q whole free)
untouched Follow t board q whole linked free = none_marked t q board (ends_of_fact t q) whole (linked q) free

-- ---- facts of one mode

module _ (names : Names) (are : IsNameTable names) (mode : Mode) (board : Board) (answers : AreAnswers board) (rows : Rows) (tickets : List ℕ) (t : FactTable) (passes : ℕ → Bool) (s : FactsBut names board t rows tickets mode passes) where
  pub referred : (q : ℕ) → is_used t q ≡ true → is_referred mode rows.statements (kept_at names q).name ≡ true
  referred q used =
      users_refer mode (kept_at names q).name tickets rows.statements (subst (λ (us : List ℕ). not (is_empty us) ≡ true) (s.users q (s.live q (used_fact t q used))) used)

  -- the names to which a fact in use leads are asked
  pub on : (q : ℕ) → is_used t q ≡ true → AllByRecursion (λ (x : NameId). 1 ≤ probe_times board x.0) (leads_of mode t q)
  on q used = facts_on names board rows mode (kept_at names q).name (leads_of mode t q) are s.shows (referred q used) (s.leads_there q used).live (s.leads_there q used).names

  -- so their levels give its truth
  pub right : (q : ℕ) → is_used t q ≡ true → truth_at_ends board (leads_of mode t q) ≡ fact_truth rows mode (kept_at names q).name
  right q used = shown names board rows mode answers s.fits s.shows (kept_at names q).name (leads_of mode t q) (on q used) (s.leads_there q used).names

-- the same facts with the same ends are linked to them
pub linked_still : (old new : FactTable) → ((q : ℕ) → ends_of_fact new q ≡ ends_of_fact old q) → ((e : ℕ) → facts_with_end new e ≡ facts_with_end old e) → AreLinkedFacts old → AreLinkedFacts new
linked_still old new ends facts linked q e h = ap (λ (fs : List NameId). has_end_of_fact fs q) (facts e) ∙ linked q e (sym (ap (λ (es : List NameId). has_end_of_fact es e) (ends q)) ∙ h)

-- facts that were refreshed are right, and so are those that were right before
module _ (names : Names) (are : IsNameTable names) (mode : Mode) (board : Board) (answers : AreAnswers board) (rows : Rows) (tickets : List ℕ) (old new : FactTable) (which passes next : ℕ → Bool)
    (r : Refreshed old new which mode board) (s : FactsBut names board old rows tickets mode passes)
    (covers : (q : ℕ) → is_used old q ≡ true → next q ≡ false → which q ≡ false → passes q ≡ false) where
  was_used : (q : ℕ) → is_used new q ≡ true → is_used old q ≡ true
  was_used q used = sym (ap (λ (us : List ℕ). not (is_empty us)) (r.same.users q)) ∙ used

  same_leads : (q : ℕ) → leads_of mode new q ≡ leads_of mode old q
  same_leads q = ap (leads_by mode q) (r.same.ends q)

  right_now : (q : ℕ) → is_used new q ≡ true → next q ≡ false → truth_of_fact new q ≡ fact_truth rows mode (kept_at names q).name
  right_now q used free = by (which q) refl
    where
      by : (b : Bool) → which q ≡ b → truth_of_fact new q ≡ fact_truth rows mode (kept_at names q).name
      by true e = r.here q e (used_fact new q used) ∙ ap (truth_at_ends board) (same_leads q) ∙ right names are mode board answers rows tickets old passes s q (was_used q used)
      by false e = r.others q e ∙ s.truths q (was_used q used) (covers q (was_used q used) free e)

  pub refreshed : FactsBut names board new rows tickets mode next
  refreshed = record {
    shows = s.shows;
    fits = s.fits;
    live = λ q h. s.live q (sym (r.same.there q) ∙ h);
    users = λ q live. r.same.users q ∙ s.users q live;
    leads_there = λ q used. subst (LeadsTo names rows.entries mode q) (sym (same_leads q)) (s.leads_there q (was_used q used));
    linked = linked_still old new r.same.ends r.same.facts s.linked;
    truths = right_now;
  }

-- a fact that was in use and led to the same names, none of which is marked now, with the truth that it has
pub record IsStill (mode : Mode) (old new : FactTable) (board : Board) (q : ℕ) : Type 0 where
  pub used : is_used old q ≡ true
  pub leads : leads_of mode new q ≡ leads_of mode old q
  pub truth : truth_of_fact new q ≡ truth_of_fact old q
  pub free : is_touched mode board new q ≡ false

-- such facts are right after the board changed
module _ (names : Names) (are : IsNameTable names) (mode : Mode) (before board : Board) (answers_before : AreAnswers before) (answers : AreAnswers board) (levels : KeepsLevels before board)
    (rows next : Rows) (tickets more : List ℕ) (old new : FactTable) (passes all : ℕ → Bool)
    (s : FactsBut names before old rows tickets mode (λ q. false)) (n : FactsBut names board new next more mode all)
    (still : (q : ℕ) → is_used new q ≡ true → passes q ≡ false → IsStill mode old new board q) where
  right_still : (q : ℕ) → is_used new q ≡ true → passes q ≡ false → truth_of_fact new q ≡ fact_truth next mode (kept_at names q).name
  right_still q used apart =
      let k = still q used apart in
      let was_on = on names are mode before answers_before rows tickets old (λ p. false) s q k.used in
      k.truth
      ∙ s.truths q k.used refl
      ∙ sym (right names are mode before answers_before rows tickets old (λ p. false) s q k.used)
      ∙ ap (truth_at_ends before) (sym k.leads)
      ∙ sym (truths_stay before board (leads_of mode new q) levels (subst (AllByRecursion (λ (x : NameId). 1 ≤ probe_times before x.0)) (sym k.leads) was_on) (on names are mode board answers next more new all n q used) k.free)
      ∙ right names are mode board answers next more new all n q used

  pub moved : FactsBut names board new next more mode passes
  moved = record { shows = n.shows; fits = n.fits; live = n.live; users = n.users; leads_there = n.leads_there; linked = n.linked; truths = right_still }

-- The facts also fit other rows with the same entries and statements, if a board shows those rows. Nothing is said of
-- the truths of the facts.
pub same_rows : (names : Names) (mode : Mode) (before board : Board) (rows next : Rows) (tickets : List ℕ) (t : FactTable) (passes : ℕ → Bool) → FactsBut names before t rows tickets mode passes
    → next.entries ≡ rows.entries → next.statements ≡ rows.statements → ShowsRows names board next mode → FitsBoard board names → FactsBut names board t next tickets mode (λ q. true)
same_rows names mode before board rows next tickets t passes s entries statements shows fits = record {
  shows = shows;
  fits = fits;
  live = s.live;
  users = λ q live. s.users q live ∙ ap (users_in mode (kept_at names q).name tickets) (sym statements);
  leads_there = λ q used. subst (λ es. LeadsTo names es mode q (leads_of mode t q)) (sym entries) (s.leads_there q used);
  linked = s.linked;
  truths = λ q used free. absurd (true≢false free);
}

-- the same facts over a board of the same rows
pub settled_facts : (names : Names) (mode : Mode) (before board : Board) (rows : Rows) (tickets : List ℕ) (t : FactTable) (passes : ℕ → Bool) → FactsBut names before t rows tickets mode passes
    → ShowsRows names board rows mode → FitsBoard board names → FactsBut names board t rows tickets mode passes
settled_facts names mode before board rows tickets t passes s shows fits = record { shows = shows; fits = fits; live = s.live; users = s.users; leads_there = s.leads_there; linked = s.linked; truths = s.truths }

-- ---- the first facts, and changes that are forgotten

pub no_used : (t : FactTable) (q : ℕ) → fact_at t q ≡ None → is_used t q ≡ true → ⊥
no_used t q none used = true≢false (sym (used_fact t q used) ∙ ap is_some none)

pub no_facts : (names : Names) (mode : Mode) (board : Board) (t : FactTable) → ((q : ℕ) → fact_at t q ≡ None) → AreLinkedFacts t → ShowsRows names board no_rows mode → FitsBoard board names → FactsBut names board t no_rows [] mode (λ q. false)
no_facts names mode board t none linked shows fits = record {
  shows = shows;
  fits = fits;
  live = λ q h. absurd (true≢false (sym h ∙ ap is_some (none q)));
  users = λ q live. ap users_or_none (none q);
  leads_there = λ q used. absurd (no_used t q (none q) used);
  linked = linked;
  truths = λ q used free. absurd (no_used t q (none q) used);
}

-- the same facts, of which none is a changed one
module _ (t cleared : FactTable) (stay : (q : ℕ) → fact_at cleared q ≡ fact_at t q) (links : (e : ℕ) → facts_with_end cleared e ≡ facts_with_end t e) where
  cleared_used : (q : ℕ) → is_used cleared q ≡ true → is_used t q ≡ true
  cleared_used q used = sym (ap (λ (o : Option Fact). not (is_empty (users_or_none o))) (stay q)) ∙ used

  pub cleared_facts : (names : Names) (mode : Mode) (board : Board) (rows : Rows) (tickets : List ℕ) (passes : ℕ → Bool) → FactsBut names board t rows tickets mode passes → FactsBut names board cleared rows tickets mode passes
  cleared_facts names mode board rows tickets passes s = record {
    shows = s.shows;
    fits = s.fits;
    live = λ q h. s.live q (sym (ap is_some (stay q)) ∙ h);
    users = λ q live. ap users_or_none (stay q) ∙ s.users q live;
    leads_there = λ q used. subst (LeadsTo names rows.entries mode q) (sym (ap (λ (o : Option Fact). leads_by mode q (ends_or_none o)) (stay q))) (s.leads_there q (cleared_used q used));
    linked = linked_still t cleared (λ q. ap ends_or_none (stay q)) links s.linked;
    truths = λ q used free. ap truth_or_unknown (stay q) ∙ s.truths q (cleared_used q used) free;
  }

  -- the facts whose truth is replaced then are all changed ones
  pub all_changed : (new : FactTable) → cleared.changed ≡ [] → ((q : ℕ) → has_end_of_fact new.changed q ≡ (has_end_of_fact cleared.changed q || truth_differs (truth_of_fact cleared q) (truth_of_fact new q))) → AreChanges t new
  all_changed new none changed q =
      changed q ∙ ap (λ (cs : List NameId). has_end_of_fact cs q || truth_differs (truth_of_fact cleared q) (truth_of_fact new q)) none ∙ ap (λ (o : Option Fact). truth_differs (truth_or_unknown o) (truth_of_fact new q)) (stay q)

  -- and each fact is still in use
  pub still_in_use : (new : FactTable) → SameFacts cleared new → ((q : ℕ) → is_fact t q ≡ true → is_used t q ≡ true) → (q : ℕ) → is_fact new q ≡ true → is_used new q ≡ true
  still_in_use new same in_use q is =
      ap (λ (us : List ℕ). not (is_empty us)) (same.users q ∙ ap users_or_none (stay q)) ∙ in_use q (sym (ap is_some (stay q)) ∙ (sym (same.there q) ∙ is))

  -- the board changed to that of rows with the same entries and statements
  pub over_items : (names : Names) → IsNameTable names → (mode : Mode) (before board : Board) → AreAnswers before → AreAnswers board → KeepsLevels before board → (rows next : Rows) (tickets : List ℕ) → FactsBut names before t rows tickets mode (λ q. false)
      → next.entries ≡ rows.entries → next.statements ≡ rows.statements → ShowsRows names board next mode → FitsBoard board names → FactsBut names board cleared next tickets mode (is_touched mode board cleared)
  over_items names are mode before board answers_before answers levels rows next tickets s entries statements shows fits =
      let was = cleared_facts names mode before rows tickets (λ q. false) s in
      moved names are mode before board answers_before answers levels rows next tickets tickets cleared cleared (is_touched mode board cleared) (λ q. true) was
      (same_rows names mode before board rows next tickets cleared (λ q. false) was entries statements shows fits) (λ q used free. record { used = used; leads = refl; truth = refl; free = free })

-- both modes
pub both_in_use : (old new : FactsNow) → (((q : ℕ) → is_fact old.plain q ≡ true → is_used old.plain q ≡ true) → (q : ℕ) → is_fact new.plain q ≡ true → is_used new.plain q ≡ true)
    → (((q : ℕ) → is_fact old.follow q ≡ true → is_used old.follow q ≡ true) → (q : ℕ) → is_fact new.follow q ≡ true → is_used new.follow q ≡ true) → AreUsed old → AreUsed new
both_in_use old new plain follow used Plain = plain (used Plain)
both_in_use old new plain follow used Follow = follow (used Follow)

-- the looks of an item that is added or removed, by names
pub item_looked : (names : Names) (boards : Boards) (rows : Rows) (item : NameId) (led : List NameId) → IsNameTable names → AreSound boards → ShowsRows names boards.plain rows Plain → ShowsRows names boards.follow rows Follow → LeadsTo names rows.entries Follow item.0 led
    → fact_looks names side.Target boards.plain.probe_ids (item ∷ []) + fact_looks names side.Target boards.follow.probe_ids led ≡ item_looks rows (name_at names item)
item_looked names boards rows item led are sound plain_shows follow_shows ends_are =
    let plain = looks_are names (probe_times boards.plain) (asked rows Plain) boards.plain.probe_ids side.Target (item ∷ []) are (sound.on Plain).probes plain_shows.asked in
    let follow = looks_are names (probe_times boards.follow) (asked rows Follow) boards.follow.probe_ids side.Target led are (sound.on Follow).probes follow_shows.asked ∙ ap (looks_by side.Target (asked rows Follow)) ends_are.names in
    λ i. plain i + follow i
