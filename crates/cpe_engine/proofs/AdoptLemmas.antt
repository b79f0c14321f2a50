-- Rows whose entries get their deprecations at once: their weight, that they are lawful, and that an engine's parts belong to them.
use Rattle.std.proofs.Common.{◌≡◌, ◌≤◌, ◌<◌, ◌+◌, ℕ, true, false, nat_lt, List, [], ◌∷◌, ◌++◌, length, map, refl, sym, ap, subst, ◌∙◌, inl, inr, arith, Option, None}
use Rattle.std.specs.Prelude.{All}
use Rattle.std.specs.List.{AllByRecursion, flat_map, list_all, list_any}
use Rattle.std.proofs.Math.Nat.{min-eq_left}
use Rattle.std.proofs.lemmas.Bool.{and_parts, le-ltb, or_cases, true≢false}
use Rattle.std.proofs.lemmas.List.Elements.{All-cons, All-head, All-nil, All-tail}
use Rattle.cpe_rows.specs.cpe_name.Eleven.{Values}
use Rattle.cpe_rows.specs.cpe_name.Names.{IsName}
use Rattle.cpe_rows.specs.Chains.{successors_of}
use Rattle.cpe_rows.specs.FactNames.{fact_names}
use Rattle.cpe_rows.specs.Formed.{IsFormedEntry}
use Rattle.cpe_rows.specs.Lawful.{has_successors, IsDictionary, IsLawful}
use Rattle.cpe_rows.specs.Limits.{exceeds, limited, most}
use Rattle.cpe_rows.specs.Names.{is_same}
use Rattle.cpe_rows.specs.Rows.{is_named, Rows}
use Rattle.cpe_rows.specs.Weight.{check_weight, entry_weight, name_weight, statement_weight, total_weight, weight}
use Rattle.cpe_rows.specs.declared.entry.Deprecation.{Deprecation}
use Rattle.cpe_rows.specs.declared.entry.Entry.{Entry}
use Rattle.cpe_rows.specs.declared.fault.Which.{Which}
use Rattle.cpe_rows.specs.declared.fault.Which.TheVariants as limit
use Rattle.cpe_rows.specs.declared.limits.TheConstants.{MOST_WEIGHT}
use Rattle.cpe_rows.specs.declared.statement.Statement.{Statement}
use Rattle.cpe_rows.proofs.Limited.{each_within}
use Rattle.cpe_rows.proofs.Lists.{no_element}
use Rattle.cpe_rows.proofs.NameTests.{same_is}
use Rattle.row_weight.specs.Capped.{capped}
use Rattle.engine_edits.specs.fact_laws.Asked.{names_of_rows}
use Rattle.verdicts.specs.cpe_dictionary.Given.{each_deprecated}
use Rattle.verdicts.specs.cpe_dictionary.Kept.{rows_of_entries}
use Rattle.verdicts.proofs.cpe_dictionary.GivenLemmas.{any_given, length_given, names_given}
use Rattle.name_index.specs.Table.{Names}
use Rattle.engine_edits.specs.fact_laws.Shown.{holds_in, Shows}
use Rattle.verdicts.specs.name_registry.Registered.{Registered}
use Rattle.verdicts.specs.Verdicts.{HasVerdicts, VerdictsNow}
use Rattle.cpe_engine.specs.Adopting.{given_weight, IsBare, with_deprecations}
use Rattle.engine_edits.specs.Parts.{AreLawfulParts, AreOf, rows_in}
use Rattle.engine_edits.specs.declared.parts.EngineParts.{EngineParts}
use Rattle.engine_edits.proofs.PartsLemmas.{by_lists, stay_kept, weight_within}

-- ---- weight

abbrev pub AreActive : List Entry → Type 0
AreActive es = AllByRecursion (λ (e : Entry). e.deprecation ≡ None) es

-- the weight of an entry with a deprecation, and without one
beside_none : (e : Entry) (d : Option Deprecation)
    → entry_weight (record e { deprecation = d }) ≡ entry_weight (record e { deprecation = None }) + given_weight d
beside_none e d = omega arith

-- the weight of an active entry that gets a deprecation
one_given : (e : Entry) (d : Option Deprecation) → e.deprecation ≡ None
    → entry_weight (record e { deprecation = d }) ≡ entry_weight e + given_weight d
one_given e d active = beside_none e d ∙ ap (λ (o : Option Deprecation). entry_weight (record e { deprecation = o }) + given_weight d) (sym active)

all_given_weigh : (es : List Entry) (ds : List (Option Deprecation)) → length ds ≡ length es → AreActive es
    → total_weight (map entry_weight (each_deprecated es ds)) ≡ total_weight (map entry_weight es) + total_weight (map given_weight ds)
all_given_weigh [] [] even active = refl
all_given_weigh [] (d ∷ ds) even active = absurd (omega (arith, even))
all_given_weigh (e ∷ es) [] even active = absurd (omega (arith, even))
all_given_weigh (e ∷ es) (d ∷ ds) even active =
    sums (entry_weight (record e { deprecation = d })) (entry_weight e) (given_weight d) (total_weight (map entry_weight (each_deprecated es ds))) (total_weight (map entry_weight es)) (total_weight (map given_weight ds))
    (one_given e d active.0) (all_given_weigh es ds (omega (arith, even)) active.1)
  where
    sums : (new old one news olds ones : ℕ) → new ≡ old + one → news ≡ olds + ones → new + news ≡ (old + olds) + (one + ones)
    sums new old one news olds ones h k = omega arith

pub weighs_given : (rows : Rows) (ds : List (Option Deprecation)) → length ds ≡ length rows.entries → AreActive rows.entries
    → weight (with_deprecations rows ds) ≡ weight rows + total_weight (map given_weight ds)
weighs_given rows ds even active =
    sums (total_weight (map entry_weight (each_deprecated rows.entries ds))) (total_weight (map entry_weight rows.entries)) (total_weight (map given_weight ds)) (total_weight (map name_weight rows.items)) (total_weight (map statement_weight rows.statements)) (total_weight (map check_weight rows.checks))
    (all_given_weigh rows.entries ds even active)
  where
    sums : (new old ones items statements checks : ℕ) → new ≡ old + ones
        → new + items + statements + checks ≡ old + items + statements + checks + ones
    sums new old ones items statements checks h = omega arith

-- the weight that was counted is the weight of the rows, if it isn't too large
pub counted_given : (rows : Rows) (ds : List (Option Deprecation)) (before n : ℕ) → length ds ≡ length rows.entries → AreActive rows.entries
    → before ≡ weight rows → n ≡ capped (before + total_weight (map given_weight ds))
    → n ≡ capped (weight (with_deprecations rows ds))
counted_given rows ds before n even active was counted =
    counted ∙ ap (λ (k : ℕ). capped (k + total_weight (map given_weight ds))) was ∙ ap capped (sym (weighs_given rows ds even active))

pub exact_given : (next : Rows) (n : ℕ) → n ≡ capped (weight next) → n ≤ MOST_WEIGHT → n ≡ weight next
exact_given next n counted below = let within : weight next ≤ most limit.Weight = omega (arith, counted, below) in counted ∙ min-eq_left (omega (arith, within))

pub too_much : (next : Rows) (n : ℕ) → n ≡ capped (weight next) → MOST_WEIGHT < n → IsLawful next → ⊥
too_much next n counted above lawful =
    let within = weight_within next lawful.within in
    omega (arith, counted, above, within)

-- ---- lawful rows

formed_name : (es : List Entry) → All IsFormedEntry es → (n : Values) → list_any (is_named n) es ≡ true → IsName n
formed_name [] h n found = absurd (true≢false (sym found))
formed_name (e ∷ es) h n found = elim (or_cases (is_named n e) (list_any (is_named n) es) found) [
  | inl here ↦ subst IsName (sym ((same_is n e.name).0 here)) (All-head IsFormedEntry e es h).name
  | inr later ↦ formed_name es (All-tail IsFormedEntry e es h) n later
]

module _ (es : List Entry) (formed : (n : Values) → list_any (is_named n) es ≡ true → IsName n) where
  formed_names : (ns : List Values) → list_all (λ n. list_any (is_named n) es) ns ≡ true → All IsName ns
  formed_names [] h = All-nil IsName
  formed_names (n ∷ ns) h =
      let parts = and_parts (list_any (is_named n) es) (list_all (λ m. list_any (is_named m) es) ns) h in
      All-cons IsName n ns (formed n parts.0) (formed_names ns parts.1)

  all_formed : (xs : List Entry) (ds : List (Option Deprecation)) → All IsFormedEntry xs
      → list_all (has_successors es) (each_deprecated xs ds) ≡ true → All IsFormedEntry (each_deprecated xs ds)
  all_formed [] ds h known = h
  all_formed (x ∷ xs) [] h known = h
  all_formed (x ∷ xs) (d ∷ ds) h known =
      let y : Entry = record x { deprecation = d } in
      let here = All-head IsFormedEntry x xs h in
      let parts = and_parts (has_successors es y) (list_all (has_successors es) (each_deprecated xs ds)) known in
      All-cons IsFormedEntry y (each_deprecated xs ds) (record { name = here.name; successors = formed_names (successors_of y) parts.0; notes = here.notes }) (all_formed xs ds (All-tail IsFormedEntry x xs h) parts.1)

formed_given : (es : List Entry) (ds : List (Option Deprecation)) → All IsFormedEntry es → IsDictionary (each_deprecated es ds)
    → All IsFormedEntry (each_deprecated es ds)
formed_given es ds h d = all_formed (each_deprecated es ds) (λ n found. formed_name es h n (sym (any_given (is_same n) es ds) ∙ found)) es ds h d.successors

module _ (rows : Rows) (ds : List (Option Deprecation)) (old : IsLawful rows) (light : weight (with_deprecations rows ds) ≤ most limit.Weight) where
  each_limit : (which : Which) → exceeds (with_deprecations rows ds) which ≡ false
  each_limit limit.Entries = ap (nat_lt (most limit.Entries)) (length_given rows.entries ds) ∙ each_within rows old.within limit.Entries
  each_limit limit.Items = each_within rows old.within limit.Items
  each_limit limit.Statements = each_within rows old.within limit.Statements
  each_limit limit.Facts = each_within rows old.within limit.Facts
  each_limit limit.Checks = each_within rows old.within limit.Checks
  each_limit limit.Weight = le-ltb (most limit.Weight) (weight (with_deprecations rows ds)) light

  pub lawful_given : IsDictionary (each_deprecated rows.entries ds) → IsLawful (with_deprecations rows ds)
  lawful_given d = record {
    formed = record { entries = formed_given rows.entries ds old.formed.entries d; items = old.formed.items; statements = old.formed.statements };
    dictionary = d;
    item_names = old.item_names;
    items_differ = old.items_differ;
    lawful_statements = old.lawful_statements;
    ids_differ = old.ids_differ;
    keys_differ = old.keys_differ;
    within = no_element (exceeds (with_deprecations rows ds)) limited (λ which m. each_limit which);
  }

-- ---- registry and verdicts

names_stay : (rows : Rows) (ds : List (Option Deprecation)) → names_of_rows (with_deprecations rows ds) ≡ names_of_rows rows
names_stay rows ds = ap (λ (ns : List Values). ns ++ rows.items ++ flat_map (λ (s : Statement). fact_names s.test) rows.statements) (names_given rows.entries ds)

-- rows with nothing but entries
module _ (rows : Rows) (bare : IsBare rows) where
  only : rows ≡ rows_of_entries rows.entries
  only = λ k. record { entries = rows.entries; items = bare.items k; statements = bare.statements k; checks = bare.checks k }

  only_given : (ds : List (Option Deprecation)) → with_deprecations rows ds ≡ rows_of_entries (each_deprecated rows.entries ds)
  only_given ds = λ k. record { entries = each_deprecated rows.entries ds; items = bare.items k; statements = bare.statements k; checks = bare.checks k }

  pub are_given : (old new : Registered) (v : VerdictsNow) (ds : List (Option Deprecation))
      → ((names : Names) (w : VerdictsNow) (was now : List Entry) → HasVerdicts names w (rows_of_entries was) → HasVerdicts names w (rows_of_entries now))
      → new.table ≡ old.table → new.entries ≡ each_deprecated rows.entries ds → new.items ≡ rows.items → AreOf old v rows [] → AreOf new v (with_deprecations rows ds) []
  are_given old new v ds stay table entries items are =
      by_lists old new v (with_deprecations rows ds) [] table entries items
      (subst (λ (ns : List Values). Shows old.table (holds_in old.table) ns) (sym (names_stay rows ds)) are.held)
      (subst (HasVerdicts old.table v) (sym (only_given ds)) (stay old.table v rows.entries (each_deprecated rows.entries ds) (subst (HasVerdicts old.table v) only are.verdicts)))

-- ---- an engine's parts

module _ (p : EngineParts) (kept : AreLawfulParts p) (bare : IsBare (rows_in p)) (ds : List (Option Deprecation)) (even : length ds ≡ length (rows_in p).entries) (n : ℕ) (counted : n ≡ capped (p.weight + total_weight (map given_weight ds))) where
  abbrev next : Rows
  next = with_deprecations (rows_in p) ds

  by_weight : n ≡ capped (weight next)
  by_weight = counted_given (rows_in p) ds p.weight n even bare.active kept.weight counted

  pub too_heavy : MOST_WEIGHT < n → IsLawful next → ⊥
  too_heavy above lawful = too_much next n by_weight above lawful

  module _ (new : Registered) (stay : (names : Names) (w : VerdictsNow) (was now : List Entry) → HasVerdicts names w (rows_of_entries was) → HasVerdicts names w (rows_of_entries now))
      (table : new.table ≡ p.registry.table) (entries : new.entries ≡ each_deprecated p.registry.entries ds) (items : new.items ≡ p.registry.items) where
    pub adopted : AreOf new p.verdicts next []
    adopted = are_given (rows_in p) bare p.registry new p.verdicts ds stay table entries items kept.are

    pub kept_adopted : (made : EngineParts) → made.registry ≡ new → made.verdicts ≡ p.verdicts → made.weight ≡ n → n ≤ MOST_WEIGHT
        → IsDictionary new.entries → AreLawfulParts made
    kept_adopted made registry verdicts weighed below d =
        let exact = exact_given next n by_weight below in
        stay_kept made next n (lawful_given (rows_in p) ds kept.lawful (omega (arith, exact, below)) (subst IsDictionary entries d)) weighed exact
        (subst (λ (r : Registered). AreOf r made.verdicts next []) (sym registry) (subst (λ (v : VerdictsNow). AreOf new v next []) (sym verdicts) adopted))
