-- No item and no followed fact leads to an active entry that is on no board.
use Rattle.std.proofs.Common.{◌≡◌, ◌≤◌, ℕ, zero, suc, ◌+◌, Bool, true, false, not, cond, ◌||◌, List, [], ◌∷◌, filter, length, Option, Some, None, refl, sym, ap, ◌∙◌, inl, inr, arith}
use Rattle.std.specs.Prelude.{find, is_none, nat_lt, option_and_then, position, slice_get}
use Rattle.std.specs.List.{AllByRecursion, flat_map, list_any}
use Rattle.std.proofs.lemmas.Bool.{and_parts, lt-ltb, not-true, or_cases, or_left, or_right, true≢false}
use Rattle.std.proofs.lemmas.Option.{none-some}
use Rattle.cpe_rows.specs.cpe_name.Eleven.{Values}
use Rattle.name_index.specs.Table.{IsLive, Names, kept_at}
use Rattle.facts.specs.level_board.Board.{probe_times, target_times}
use Rattle.cpe_rows.specs.Chains.{chain, ends, is_active, leads_to}
use Rattle.cpe_rows.specs.Lawful.{are_different}
use Rattle.cpe_rows.specs.Names.{is_same}
use Rattle.cpe_rows.specs.Rows.{is_named, Rows}
use Rattle.cpe_rows.specs.declared.entry.Entry.{Entry}
use Rattle.cpe_rows.specs.declared.statement.Mode.TheVariants.{Follow}
use Rattle.cpe_rows.proofs.Added.{no_chain}
use Rattle.cpe_rows.proofs.NameTests.{same_is}
use Rattle.cpe_dictionary.proofs.PlanLemmas.{entry_found}
use Rattle.facts.specs.fact_laws.Shown.{one_if_some, Shows, times_named}
use Rattle.facts.proofs.fact_laws.Shown.{live_is, named_both}
use Rattle.facts.specs.fact_laws.Asked.{asked, entry_names, statement_facts, target_names}
use Rattle.facts.proofs.fact_laws.Counted.{some_present}
use Rattle.fact_boards.specs.Kept.{Boards, ShowsRows}
use Rattle.verdicts.specs.Leads.{IsUnled}

-- ---- the entries of a name

-- each entry of the name is active
abbrev pub AreActive : Values → List Entry → Type 0
AreActive n es = AllByRecursion (λ e. is_named n e ≡ true → is_active e ≡ true) es

pub none_active : (n : Values) (es : List Entry) → list_any (is_named n) es ≡ false → AreActive n es
none_active n [] none = tt
none_active n (e ∷ es) none = by (is_named n e) refl none (none_active n es)
  where
    by : (b : Bool) → is_named n e ≡ b → (b || list_any (is_named n) es) ≡ false → (list_any (is_named n) es ≡ false → AreActive n es) → AreActive n (e ∷ es)
    by true is h later = absurd (true≢false h)
    by false is h later = ((λ t. absurd (true≢false (sym t ∙ is))), later h)

absent : (n : Values) (es : List Entry) → find (is_named n) es ≡ None → list_any (is_named n) es ≡ false
absent n [] h = refl
absent n (e ∷ es) h = by (is_named n e) h (absent n es)
  where
    by : (b : Bool) → cond b (Some e) (find (is_named n) es) ≡ None → (find (is_named n) es ≡ None → list_any (is_named n) es ≡ false) → (b || list_any (is_named n) es) ≡ false
    by true h later = absurd (none-some e (sym h))
    by false h later = later h

-- names differ, so if the first one is active, all are
pub all_active : (n : Values) (es : List Entry) (e : Entry) → are_different (λ (x : Entry). is_named x.name) es ≡ true → find (is_named n) es ≡ Some e → is_active e ≡ true → AreActive n es
all_active n [] e differ found active = tt
all_active n (x ∷ es) e differ found active = by (is_named n x) refl found (λ at. all_active n es e parts.1 at active)
  where
    parts : (not (list_any (is_named x.name) es) ≡ true) × (are_different (λ (a : Entry). is_named a.name) es ≡ true)
    parts = and_parts (not (list_any (is_named x.name) es)) (are_different (λ (a : Entry). is_named a.name) es) differ

    by : (b : Bool) → is_named n x ≡ b → cond b (Some x) (find (is_named n) es) ≡ Some e → (find (is_named n) es ≡ Some e → AreActive n es) → AreActive n (x ∷ es)
    by true is at later =
        let own : x ≡ e = cc in
        let none : list_any (is_named n) es ≡ false = ap (λ (m : Values). list_any (is_named m) es) ((same_is n x.name).0 is) ∙ not-true (list_any (is_named x.name) es) parts.0 in
        ((λ t. ap is_active own ∙ active), none_active n es none)
    by false is at later = ((λ t. absurd (true≢false (sym t ∙ is))), later at)

-- the first one is active if it has no deprecation
pub active_at : (n : Values) (es : List Entry) (k : ℕ) → are_different (λ (x : Entry). is_named x.name) es ≡ true → position (is_named n) es ≡ Some k
    → option_and_then (λ (e : Entry). e.deprecation) (slice_get es k) ≡ None → AreActive n es
active_at n es k differ at none = by (find (is_named n) es) refl (ap (option_and_then (λ (e : Entry). e.deprecation)) (entry_found es n k at) ∙ none)
  where
    by : (o : Option Entry) → find (is_named n) es ≡ o → option_and_then (λ (e : Entry). e.deprecation) (find (is_named n) es) ≡ None → AreActive n es
    by None is h = none_active n es (absent n es is)
    by (Some e) is h = all_active n es e differ is (ap is_none (sym (ap (option_and_then (λ (x : Entry). x.deprecation)) is) ∙ h))

-- ---- what leads to an active entry has it as an end

among_ends : (n : Values) (p : Entry → Bool) (es : List Entry) → AreActive n es → list_any (is_named n) (filter p es) ≡ true → list_any (is_same n) (entry_names (filter is_active (filter p es))) ≡ true
among_ends n p [] active led = led
among_ends n p (e ∷ es) active led = by (p e) led (among_ends n p es active.1)
  where
    Led : Type 0
    Led = list_any (is_named n) (filter p es) ≡ true → list_any (is_same n) (entry_names (filter is_active (filter p es))) ≡ true

    kept : (a b : Bool) → is_active e ≡ a → is_named n e ≡ b → (b || list_any (is_named n) (filter p es)) ≡ true → Led
        → list_any (is_same n) (entry_names (cond a (e ∷ filter is_active (filter p es)) (filter is_active (filter p es)))) ≡ true
    kept true true act is h later = or_left (is_same n e.name) (list_any (is_same n) (entry_names (filter is_active (filter p es)))) is
    kept true false act is h later = or_right (is_same n e.name) (list_any (is_same n) (entry_names (filter is_active (filter p es)))) (later h)
    kept false true act is h later = absurd (true≢false (sym (active.0 is) ∙ act))
    kept false false act is h later = later h

    by : (b : Bool) → list_any (is_named n) (cond b (e ∷ filter p es) (filter p es)) ≡ true → Led → list_any (is_same n) (entry_names (filter is_active (cond b (e ∷ filter p es) (filter p es)))) ≡ true
    by true h later = kept (is_active e) (is_named n e) refl refl h later
    by false h later = later h

pub own_end : (es : List Entry) (n x : Values) → AreActive n es → leads_to es x n ≡ true → list_any (is_same n) (ends es x) ≡ true
own_end es n x active led = by (list_any (is_named x) es) refl
  where
    by : (b : Bool) → list_any (is_named x) es ≡ b → list_any (is_same n) (cond b (entry_names (filter is_active (chain es x))) (x ∷ [])) ≡ true
    by true e = among_ends n _ es active led
    by false e = absurd (true≢false (sym led ∙ ap (list_any (is_named n)) (no_chain es x e)))

above_none : (k : ℕ) → one_if_some k ≡ 1 → 1 ≤ k
above_none zero e = absurd (omega (arith, e))
above_none (suc k) e = omega arith

-- so nothing leads there if it is no end
unled : (es : List Entry) (n : Values) → AreActive n es → (list : List Values) → times_named n (flat_map (ends es) list) ≡ 0 → filter (λ x. leads_to es x n) list ≡ []
unled es n active [] none = refl
unled es n active (x ∷ list) none = by (leads_to es x n) refl (unled es n active list)
  where
    both : times_named n (ends es x) + times_named n (flat_map (ends es) list) ≡ 0
    both = sym (named_both n (ends es x) (flat_map (ends es) list)) ∙ none

    counts : list_any (is_same n) (ends es x) ≡ true → 1 ≤ times_named n (ends es x)
    counts h = above_none (times_named n (ends es x)) (some_present n (ends es x) ∙ ap {B = ℕ} (λ (b : Bool). cond b 1 0) h)

    by : (b : Bool) → leads_to es x n ≡ b → (times_named n (flat_map (ends es) list) ≡ 0 → filter (λ y. leads_to es y n) list ≡ [])
        → cond b (x ∷ filter (λ y. leads_to es y n) list) (filter (λ y. leads_to es y n) list) ≡ []
    by true led later = absurd (omega (arith, both, counts (own_end es n x active led)))
    by false led later = later (omega (arith, both))

-- ---- numbers

not_above : (k : ℕ) → nat_lt 0 k ≡ false → k ≡ 0
not_above zero h = refl
not_above (suc k) h = absurd (true≢false (sym (lt-ltb 0 (suc k) (omega arith)) ∙ h))

neither : (a b : Bool) → (a || b) ≡ false → (a ≡ false) × (b ≡ false)
neither true b h = absurd (true≢false h)
neither false b h = (refl, h)

-- a list does not have the name of a number that is on no board
nowhere_named : (names : Names) (times : ℕ → ℕ) (list : List Values) (id : ℕ) → Shows names times list → IsLive names id → nat_lt 0 (times id) ≡ false → times_named (kept_at names id).name list ≡ 0
nowhere_named names times list id shows live none = sym (shows.counts id (kept_at names id) (live_is names id live)) ∙ not_above (times id) none

pub off_boards : (names : Names) (boards : Boards) (rows : Rows) (id : ℕ) → IsLive names id → ShowsRows names boards.follow rows Follow → AreActive (kept_at names id).name rows.entries
    → (nat_lt 0 (probe_times boards.follow id) || nat_lt 0 (target_times boards.follow id)) ≡ false → IsUnled rows (kept_at names id).name
off_boards names boards rows id live shows active off =
    let parts = neither (nat_lt 0 (probe_times boards.follow id)) (nat_lt 0 (target_times boards.follow id)) off in
    record {
      items = unled rows.entries (kept_at names id).name active rows.items (nowhere_named names (target_times boards.follow) (target_names rows Follow) id shows.there live parts.1);
      facts = unled rows.entries (kept_at names id).name active (statement_facts Follow rows.statements) (nowhere_named names (probe_times boards.follow) (asked rows Follow) id shows.asked live parts.0);
    }

-- if no name of a list leads to an entry, none of its names does
pub leads_not : (es : List Entry) (m n : Values) (list : List Values) → list_any (is_same m) list ≡ true → filter (λ x. leads_to es x n) list ≡ [] → leads_to es m n ≡ true → ⊥
leads_not es m n [] target_names none led = true≢false (sym target_names)
leads_not es m n (x ∷ list) target_names none led = by (leads_to es x n) refl none (λ target_names none. leads_not es m n list target_names none led)
  where
    by : (b : Bool) → leads_to es x n ≡ b → cond b (x ∷ filter (λ y. leads_to es y n) list) (filter (λ y. leads_to es y n) list) ≡ [] → (list_any (is_same m) list ≡ true → filter (λ y. leads_to es y n) list ≡ [] → ⊥) → ⊥
    by true is h later = omega (arith, ap length h)
    by false is h later = elim (or_cases (is_same m x) (list_any (is_same m) list) target_names) [
      | inl here ↦ true≢false (sym led ∙ ap (λ (y : Values). leads_to es y n) ((same_is m x).0 here) ∙ is)
      | inr among ↦ later among h
    ]
