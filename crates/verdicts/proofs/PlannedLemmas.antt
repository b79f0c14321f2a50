-- Facts in use, by their numbers and by their names, and those that a planned change of a deprecation leads elsewhere.
use Rattle.std.proofs.Common.{◌≡◌, ◌⊎◌, ◌≤◌, ℕ, Bool, true, false, not, cond, ◌||◌, List, [], ◌∷◌, ◌++◌, filter, length, map, Option, Some, refl, sym, ap, subst, ◌∙◌, inl, inr, arith, eq-eqb}
use Rattle.std.specs.Prelude.{nat_eq}
use Rattle.std.specs.List.{AllByRecursion, flat_map, list_any, sum_by}
use Rattle.std.proofs.lemmas.Bool.{both_ways, cases_Bool, ne_eqb, or_left, or_right}
use Rattle.std.proofs.lemmas.List.{map-append}
use Rattle.cpe_rows.specs.cpe_name.Eleven.{Values}
use Rattle.cpe_rows.specs.cpe_name.Equal.{same_name}
use Rattle.name_index.specs.Elements.{SameElements}
use Rattle.name_index.proofs.Sums.{if_passes, sum_filter}
use Rattle.name_index.specs.declared.table.NameId.{NameId}
use Rattle.name_index.specs.Table.{IsNameTable, IsLive, Names, kept_at}
use Rattle.cpe_rows.specs.Chains.{ends, leads_to}
use Rattle.cpe_rows.specs.Lawful.{are_different}
use Rattle.cpe_rows.specs.Names.{is_same}
use Rattle.cpe_rows.specs.Rows.{is_named, Rows}
use Rattle.cpe_rows.specs.declared.entry.Entry.{Entry}
use Rattle.cpe_rows.specs.declared.statement.Mode.{Mode}
use Rattle.cpe_rows.specs.declared.statement.Mode.TheVariants.{Follow}
use Rattle.cpe_rows.specs.declared.statement.Statement.{Statement}
use Rattle.cpe_rows.proofs.Added.{no_chain}
use Rattle.cpe_dictionary.specs.Plans.{ends_by}
use Rattle.cpe_dictionary.specs.declared.plans.Plan.{Plan}
use Rattle.facts.specs.fact_laws.Shown.{name_at, names_at, one_if_some, times_in_list, times_named}
use Rattle.facts.proofs.fact_laws.Shown.{live_is, number_first, same_names, times_agree}
use Rattle.facts.specs.fact_laws.Asked.{statement_facts, is_referred, refers_to, source_names}
use Rattle.facts.proofs.fact_laws.Counted.{counted, first_removed, some_present}
use Rattle.facts.proofs.fact_laws.Names.{sum_flat}
use Rattle.facts.proofs.fact_laws.Sources.{led_by_those_there}
use Rattle.fact_boards.specs.Kept.{AreFactNames}
use Rattle.facts.specs.fact_rows.Facts.{ends_of_fact, Fact, fact_at, FactTable, users_or_none}
use Rattle.facts.specs.ticket_list.Tickets.{is_empty}
use Rattle.facts.specs.Facts.{FactsNow, HasFacts, is_used}
use Rattle.facts.specs.Leads.{is_led, IsLed}
use Rattle.facts.specs.Users.{users_in}
use Rattle.facts.specs.declared.lead.Led.{Led}
use Rattle.facts.proofs.UserLemmas.{used_fact}
use Rattle.verdicts.specs.Leads.{IsLinkedAhead}
use Rattle.verdicts.proofs.NumberLemmas.{all_both, all_passing, names_passing}

-- ---- facts in use

-- a name has users exactly if a statement refers to it
users_referred : (mode : Mode) (n : Values) (tickets : List ℕ) (statements : List Statement) → length tickets ≡ length statements → not (is_empty (users_in mode n tickets statements)) ≡ is_referred mode statements n
users_referred mode n [] [] e = refl
users_referred mode n [] (s ∷ statements) e = absurd (omega (arith, e))
users_referred mode n (t ∷ tickets) [] e = absurd (omega (arith, e))
users_referred mode n (t ∷ tickets) (s ∷ statements) e = by (refers_to mode n s) (users_referred mode n tickets statements (omega (arith, e)))
  where
    by : (b : Bool) → not (is_empty (users_in mode n tickets statements)) ≡ is_referred mode statements n
        → not (is_empty (cond b (t ∷ users_in mode n tickets statements) (users_in mode n tickets statements))) ≡ (b || is_referred mode statements n)
    by true later = refl
    by false later = later

pub in_facts : (mode : Mode) (statements : List Statement) (n : Values) → list_any (is_same n) (statement_facts mode statements) ≡ is_referred mode statements n
in_facts mode statements n = by (list_any (is_same n) (statement_facts mode statements)) (is_referred mode statements n) (sym (some_present n (statement_facts mode statements)) ∙ ap one_if_some (counted mode statements n))
  where
    by : (a b : Bool) → cond a 1 0 ≡ one_if_some (cond b 1 0) → a ≡ b
    by true true e = refl
    by true false e = absurd (omega (arith, e))
    by false true e = absurd (omega (arith, e))
    by false false e = refl

module _ (names : Names) (f : FactsNow) (rows : Rows) (tickets : List ℕ) (s : HasFacts names f rows tickets) where
  pub used_live : (q : ℕ) → is_used f.follow q ≡ true → IsLive names q
  used_live q used = s.follow.live q (used_fact f.follow q used)

  pub used_referred : (q : ℕ) → IsLive names q → is_used f.follow q ≡ is_referred Follow rows.statements (kept_at names q).name
  used_referred q live = ap (λ (us : List ℕ). not (is_empty us)) (s.follow.users q live) ∙ users_referred Follow (kept_at names q).name tickets rows.statements s.numbered.each

  -- the numbers in use have the names of the facts in mode follow
  pub used_names : (ids : List NameId) → AreFactNames names ids → names_at names (filter (λ (x : NameId). is_used f.follow x.0) ids) ≡ filter (λ m. list_any (is_same m) (statement_facts Follow rows.statements)) (names_at names ids)
  used_names ids live =
      names_passing names (λ (x : NameId). is_used f.follow x.0) (λ m. list_any (is_same m) (statement_facts Follow rows.statements))
      (λ x live. used_referred x.0 live ∙ sym (in_facts Follow rows.statements (name_at names x))) ids live

  -- the ends of facts in use are those of their names
  pub ends_named : (facts : List NameId) → AllByRecursion (λ (x : NameId). is_used f.follow x.0 ≡ true) facts
      → (names_at names (flat_map (λ (x : NameId). ends_of_fact f.follow x.0) facts) ≡ flat_map (ends rows.entries) (names_at names facts)) × AreFactNames names (flat_map (λ (x : NameId). ends_of_fact f.follow x.0) facts)
  ends_named [] used = (refl, tt)
  ends_named (x ∷ facts) used =
      let l = s.follow.leads_there x.0 used.0 in
      let later = ends_named facts used.1 in (
        map-append (name_at names) (ends_of_fact f.follow x.0) (flat_map (λ (y : NameId). ends_of_fact f.follow y.0) facts) ∙ (λ i. l.names i ++ later.0 i),
        all_both (λ (y : NameId). IsLive names y.0) (ends_of_fact f.follow x.0) (flat_map (λ (y : NameId). ends_of_fact f.follow y.0) facts) l.live later.1,
      )

-- ---- what leads to an entry

flat_same : (g : Values → List Values) (xs ys : List Values) → SameElements xs ys → SameElements (flat_map g xs) (flat_map g ys)
flat_same g xs ys same f = sum_flat f g xs ∙ same (λ x. sum_by f (g x)) ∙ sym (sum_flat f g ys)

pub sources_led : (entries : List Entry) (n : Values) (list : List Values) → are_different (λ (e : Entry). is_named e.name) entries ≡ true → ((x : Values) → times_named x list ≤ 1)
    → SameElements (filter (λ m. list_any (is_same m) list) (source_names entries n)) (filter (λ x. leads_to entries x n) list)
sources_led entries n list differ few f = sym (led_by_those_there no_chain entries n list differ few f)

-- the numbers of sources that are in a list have, with all to which each leads, the names to which those of the list lead that lead to the entry
pub ends_of_sources : (names : Names) (entries : List Entry) (n : Values) (g by : Values → List Values) (list : List Values) (sources found all : List NameId) → are_different (λ (e : Entry). is_named e.name) entries ≡ true → ((x : Values) → times_named x list ≤ 1)
    → names_at names sources ≡ source_names entries n → names_at names found ≡ filter (λ m. list_any (is_same m) list) (names_at names sources) → names_at names all ≡ flat_map by (names_at names found) → ((m : Values) → by m ≡ g m)
    → SameElements (names_at names all) (flat_map g (filter (λ x. leads_to entries x n) list))
ends_of_sources names entries n g by list sources found all differ few are is each same f =
    ap (sum_by f) (each ∙ (λ i. flat_map (λ m. same m i) (names_at names found)) ∙ ap (flat_map g) (is ∙ ap (filter (λ m. list_any (is_same m) list)) are))
    ∙ flat_same g (filter (λ m. list_any (is_same m) list) (source_names entries n)) (filter (λ x. leads_to entries x n) list) (sources_led entries n list differ few) f

-- ---- planned facts

pub planned_names : (names : Names) (entries : List Entry) (plan : Plan) (t : FactTable) (all : List Led) → AllByRecursion (IsLinkedAhead names entries plan t) all
    → names_at names (flat_map (λ (x : Led). x.ends.items) all) ≡ flat_map (ends_by entries (Some plan)) (names_at names (map (λ (x : Led). x.fact) all))
planned_names names entries plan t [] p = refl
planned_names names entries plan t (x ∷ all) p = map-append (name_at names) x.ends.items (flat_map (λ (y : Led). y.ends.items) all) ∙ (λ i. p.0.names i ++ planned_names names entries plan t all p.1 i)

pub planned_live : (names : Names) (entries : List Entry) (plan : Plan) (t : FactTable) (all : List Led) → AllByRecursion (IsLinkedAhead names entries plan t) all → AreFactNames names (flat_map (λ (x : Led). x.ends.items) all)
planned_live names entries plan t [] p = tt
planned_live names entries plan t (x ∷ all) p = all_both (λ (y : NameId). IsLive names y.0) x.ends.items (flat_map (λ (y : Led). y.ends.items) all) p.0.live (planned_live names entries plan t all p.1)

all_led : (P : NameId → Type 0) (all : List Led) → AllByRecursion P (map (λ (x : Led). x.fact) all) → AllByRecursion (λ (x : Led). P x.fact) all
all_led P [] h = tt
all_led P (x ∷ all) h = (h.0, all_led P all h.1)

pub used_same : (old new : FactTable) → ((q : ℕ) → fact_at new q ≡ fact_at old q) → (q : ℕ) → is_used new q ≡ is_used old q
used_same old new stay q = ap (λ (o : Option Fact). not (is_empty (users_or_none o))) (stay q)

-- if the planned facts are the sources in use, and are linked to their ends after the plan, then `IsLed` is true of each
-- by the entries that the plan leaves
pub planned_led : (names : Names) (entries left : List Entry) (plan : Plan) (old new : FactTable) (sources : List NameId) (all : List Led) → AllByRecursion (IsLinkedAhead names entries plan new) all
    → map (λ (x : Led). x.fact) all ≡ filter (λ (x : NameId). is_used old x.0) sources → ((q : ℕ) → fact_at new q ≡ fact_at old q) → ((m : Values) → ends_by entries (Some plan) m ≡ ends left m) → AllByRecursion (IsLed names new left) all
planned_led names entries left plan old new sources all planned is stay lead =
    go all planned (all_led (λ (x : NameId). is_used old x.0 ≡ true) all (subst (AllByRecursion (λ (x : NameId). is_used old x.0 ≡ true)) (sym is) (all_passing (λ (x : NameId). is_used old x.0) sources)))
  where
    go : (some : List Led) → AllByRecursion (IsLinkedAhead names entries plan new) some → AllByRecursion (λ (x : Led). is_used old x.fact.0 ≡ true) some → AllByRecursion (IsLed names new left) some
    go [] p used = tt
    go (x ∷ some) p used = (
      record {
        used = used_same old new stay x.fact.0 ∙ used.0;
        leads_there = record { live = p.0.live; names = p.0.names ∙ lead (kept_at names x.fact.0).name };
        under = p.0.under;
      },
      go some p.1 used.1,
    )

led_has : (id : ℕ) (all : List Led) → 1 ≤ times_in_list id (map (λ (x : Led). x.fact) all) → is_led all id ≡ true
led_has id [] h = absurd (omega (arith, h))
led_has id (x ∷ all) h = by (cases_Bool (nat_eq x.fact.0 id)) (led_has id all)
  where
    by : (nat_eq x.fact.0 id ≡ true) ⊎ (nat_eq x.fact.0 id ≡ false) → (1 ≤ times_in_list id (map (λ (y : Led). y.fact) all) → is_led all id ≡ true) → is_led (x ∷ all) id ≡ true
    by (inl t) later = or_left (nat_eq x.fact.0 id) (is_led all id) t
    by (inr f) later =
        or_right (nat_eq x.fact.0 id) (is_led all id)
        (later (omega (arith, h, number_first id x.fact (map (λ (y : Led). y.fact) all), ap {B = ℕ} (λ (b : Bool). cond b 1 0) (ne_eqb id x.fact.0 (λ e. both_ways (nat_eq x.fact.0 id) f (eq-eqb x.fact.0 id (sym e)))))))

-- each fact in use that leads to the entry is among them
pub whole_led : (names : Names) → IsNameTable names → (f : FactsNow) (rows : Rows) (tickets : List ℕ) → HasFacts names f rows tickets → (entries : List Entry) (n : Values) (all : List Led)
    → AreFactNames names (map (λ (x : Led). x.fact) all) → SameElements (names_at names (map (λ (x : Led). x.fact) all)) (filter (λ x. leads_to entries x n) (statement_facts Follow rows.statements))
    → (id : ℕ) → is_used f.follow id ≡ true → leads_to entries (kept_at names id).name n ≡ true → is_led all id ≡ true
whole_led names are f rows tickets s entries n all live same id used leads =
    let m = (kept_at names id).name in
    let alive = used_live names f rows tickets s id used in
    let leading : Values → Bool = λ x. leads_to entries x n in
    let once : Values → ℕ = λ y. cond (same_name m y) 1 0 in
    let referred : is_referred Follow rows.statements m ≡ true = sym (used_referred names f rows tickets s id alive) ∙ used in
    let there : 1 ≤ times_named m (statement_facts Follow rows.statements) = omega (arith, counted Follow rows.statements m, ap {B = ℕ} (λ (b : Bool). cond b 1 0) referred) in
    let itself : if_passes leading once m ≡ 1 = ap {B = ℕ} (λ (b : Bool). cond b (once m) 0) leads ∙ ap {B = ℕ} (λ (b : Bool). cond b 1 0) (same_names m m refl) in
    led_has id all (omega (
      arith,
      times_agree names are id (kept_at names id) (live_is names id alive) (map (λ (x : Led). x.fact) all) live,
      same once,
      sum_filter once leading (statement_facts Follow rows.statements),
      first_removed (if_passes leading once) m (statement_facts Follow rows.statements) there,
      itself,
    ))
