-- Lemmas: a name that leads to an entry is the name of an entry.
use Rattle.std.proofs.Common.{◌≡◌, ◌⊎◌, ◌≤◌, ℕ, zero, suc, ◌+◌, Bool, true, false, not, cond, ◌||◌, List, [], ◌∷◌, ◌++◌, refl, sym, ap, ◌∙◌, inl, inr, arith}
use Rattle.std.specs.Prelude.{filter, replicate}
use Rattle.std.specs.List.{sum_by, list_any, flat_map}
use Rattle.std.proofs.lemmas.Bool.{and_parts, not-true, cases_Bool, both_ways, or_cases, or_left, or_right}
use Rattle.std.proofs.lemmas.List.Sums.{sum_by-cons}
use Rattle.cpe_rows.specs.cpe_name.Eleven.{Values}
use Rattle.name_index.specs.Elements.{SameElements}
use Rattle.name_index.proofs.Sums.{one_at_most, sum_agree, sum_both, sum_none}
use Rattle.cpe_rows.specs.Chains.{chain, ends, is_active, leads_to}
use Rattle.cpe_rows.specs.Lawful.{are_different}
use Rattle.cpe_rows.specs.Names.{is_same}
use Rattle.cpe_rows.specs.Rows.{is_named}
use Rattle.cpe_rows.specs.declared.entry.Entry.{Entry}
use Rattle.cpe_rows.proofs.NameTests.{same_is, not_same}
use Rattle.cpe_rows.specs.cpe_name.Equal.{same_name, same_name-Decides}
use Rattle.fact_laws.specs.Shown.{one_if_some, times_named}
use Rattle.fact_laws.proofs.Different.{none_named, one_some}
use Rattle.fact_laws.proofs.Shown.{named_first}
use Rattle.fact_laws.proofs.Counted.{same_test, some_present}
use Rattle.fact_laws.specs.Asked.{entry_names, source_names}
use Rattle.fact_laws.proofs.Names.{sum_flat}

turn : (a b : Values) → is_same a b ≡ is_same b a
turn a b = elim (cases_Bool (is_same a b)) [
  | inl t ↦ t ∙ sym ((same_is b a).1 (sym ((same_is a b).0 t)))
  | inr f ↦ f ∙ sym (not_same a b f)
]

module _ (all : List Entry) (x n : Values) (c : ℕ) where
  abbrev leading : Entry → Bool
  leading e = leads_to all e.name n

  abbrev here : Values → ℕ
  here s = cond (is_same s x) c 0

  none_here : (es : List Entry) → list_any (is_named x) es ≡ false → sum_by here (entry_names (filter leading es)) ≡ 0
  none_here [] h = refl
  none_here (e ∷ es) h = by (leading e) (is_same x e.name) refl (none_here es)
    where
      by : (l s : Bool) → is_same x e.name ≡ s → (list_any (is_named x) es ≡ false → sum_by here (entry_names (filter leading es)) ≡ 0) → sum_by here (entry_names (cond l (e ∷ filter leading es) (filter leading es))) ≡ 0
      by l true is later = absurd (both_ways (is_same x e.name || list_any (is_named x) es) h (ap (λ (b : Bool). b || list_any (is_named x) es) is))
      by true false is later =
          omega (arith, sum_by-cons here e.name (entry_names (filter leading es)), ap {B = ℕ} (λ (b : Bool). cond b c 0) (turn e.name x ∙ is), later (sym (ap (λ (b : Bool). b || list_any (is_named x) es) is) ∙ h))
      by false false is later = later (sym (ap (λ (b : Bool). b || list_any (is_named x) es) is) ∙ h)

  once : (es : List Entry) → are_different (λ (e : Entry). is_named e.name) es ≡ true → sum_by here (entry_names (filter leading es)) ≡ cond (list_any (is_named x) es) (cond (leads_to all x n) c 0) 0
  once [] d = refl
  once (e ∷ es) d =
      by (is_same x e.name) refl (leading e) refl (once es)
    where
      parts : (not (list_any (is_named e.name) es) ≡ true) × (are_different (λ (a : Entry). is_named a.name) es ≡ true)
      parts = and_parts (not (list_any (is_named e.name) es)) (are_different (λ (a : Entry). is_named a.name) es) d

      alone : list_any (is_named e.name) es ≡ false
      alone = not-true (list_any (is_named e.name) es) parts.0

      by : (s : Bool) → is_same x e.name ≡ s → (l : Bool) → leading e ≡ l → (are_different (λ (a : Entry). is_named a.name) es ≡ true → sum_by here (entry_names (filter leading es)) ≡ cond (list_any (is_named x) es) (cond (leads_to all x n) c 0) 0)
          → sum_by here (entry_names (cond l (e ∷ filter leading es) (filter leading es))) ≡ cond (s || list_any (is_named x) es) (cond (leads_to all x n) c 0) 0
      by false is true led later = omega (arith, sum_by-cons here e.name (entry_names (filter leading es)), ap {B = ℕ} (λ (b : Bool). cond b c 0) (turn e.name x ∙ is), later parts.1)
      by false is false led later = later parts.1
      by true is l led later =
          let same : x ≡ e.name = (same_is x e.name).0 is in
          let rest : sum_by here (entry_names (filter leading es)) ≡ 0 = none_here es (ap (λ (m : Values). list_any (is_named m) es) same ∙ alone) in
          let leads : leads_to all x n ≡ l = ap (λ (m : Values). leads_to all m n) same ∙ led in
          found l leads rest
        where
          found : (l : Bool) → leads_to all x n ≡ l → sum_by here (entry_names (filter leading es)) ≡ 0 → sum_by here (entry_names (cond l (e ∷ filter leading es) (filter leading es))) ≡ cond (leads_to all x n) c 0
          found true leads rest = omega (arith, sum_by-cons here e.name (entry_names (filter leading es)), ap {B = ℕ} (λ (b : Bool). cond b c 0) (turn e.name x ∙ is), rest, ap {B = ℕ} (λ (b : Bool). cond b c 0) leads)
          found false leads rest = rest ∙ sym (ap {B = ℕ} (λ (b : Bool). cond b c 0) leads)

-- a name that leads to an entry is the name of an entry
leading_is_named : (all : List Entry) (x n : Values) (c : ℕ) → ((es : List Entry) (m : Values) → list_any (is_named m) es ≡ false → chain es m ≡ []) → cond (list_any (is_named x) all) (cond (leads_to all x n) c 0) 0 ≡ cond (leads_to all x n) c 0
leading_is_named all x n c absent = by (list_any (is_named x) all) refl
  where
    by : (b : Bool) → list_any (is_named x) all ≡ b → cond b (cond (leads_to all x n) c 0) 0 ≡ cond (leads_to all x n) c 0
    by true e = refl
    by false e = sym (ap {B = ℕ} (λ (b : Bool). cond b c 0) (ap (list_any (is_named n)) (absent all x e)))

led_by_sources : ((es : List Entry) (m : Values) → list_any (is_named m) es ≡ false → chain es m ≡ []) → (all : List Entry) (n : Values) (list : List Values) → are_different (λ (e : Entry). is_named e.name) all ≡ true
    → SameElements (filter (λ x. leads_to all x n) list) (flat_map (λ s. filter (is_same s) list) (source_names all n))
led_by_sources absent all n list d f = go list ∙ sym (sum_flat f (λ s. filter (is_same s) list) (source_names all n))
  where
    of : List Values → Values → ℕ
    of list s = sum_by f (filter (is_same s) list)

    step : (s x : Values) (xs : List Values) → sum_by f (filter (is_same s) (x ∷ xs)) ≡ cond (is_same s x) (f x) 0 + sum_by f (filter (is_same s) xs)
    step s x xs = by (is_same s x)
      where
        by : (b : Bool) → sum_by f (cond b (x ∷ filter (is_same s) xs) (filter (is_same s) xs)) ≡ cond b (f x) 0 + sum_by f (filter (is_same s) xs)
        by true = sum_by-cons f x (filter (is_same s) xs)
        by false = omega arith

    first : (b : Bool) (x : Values) (xs : List Values) → sum_by f (cond b (x ∷ filter (λ y. leads_to all y n) xs) (filter (λ y. leads_to all y n) xs)) ≡ cond b (f x) 0 + sum_by f (filter (λ y. leads_to all y n) xs)
    first true x xs = sum_by-cons f x (filter (λ y. leads_to all y n) xs)
    first false x xs = omega arith

    go : (xs : List Values) → sum_by f (filter (λ y. leads_to all y n) xs) ≡ sum_by (λ s. sum_by f (filter (is_same s) xs)) (source_names all n)
    go [] = sym (sum_none (source_names all n))
    go (x ∷ xs) =
        omega (
          arith,
          first (leads_to all x n) x xs,
          go xs,
          sum_agree (λ s. sum_by f (filter (is_same s) (x ∷ xs))) (λ s. cond (is_same s x) (f x) 0 + sum_by f (filter (is_same s) xs)) (λ s. step s x xs) (source_names all n),
          sum_both (λ s. cond (is_same s x) (f x) 0) (λ s. sum_by f (filter (is_same s) xs)) (source_names all n),
          once all x n (f x) all d,
          leading_is_named all x n (f x) absent,
        )

-- the elements of a list that equal a name are copies of this name
copies : (s : Values) (list : List Values) → filter (is_same s) list ≡ replicate (times_named s list) s
copies s [] = refl
copies s (x ∷ xs) = by (is_same s x) refl (copies s xs)
  where
    by : (b : Bool) → is_same s x ≡ b → filter (is_same s) xs ≡ replicate (times_named s xs) s → cond b (x ∷ filter (is_same s) xs) (filter (is_same s) xs) ≡ replicate (times_named s (x ∷ xs)) s
    by true e later =
        let one : times_named s (x ∷ xs) ≡ suc (times_named s xs) = omega (arith, named_first s x xs, ap {B = ℕ} (λ (b : Bool). cond b 1 0) (sym (same_test s x) ∙ e)) in
        ap (λ (y : Values). y ∷ filter (is_same s) xs) (sym ((same_is s x).0 e)) ∙ ap (λ (ys : List Values). s ∷ ys) later ∙ sym (ap (λ (k : ℕ). replicate k s) one)
    by false e later =
        let none : times_named s (x ∷ xs) ≡ times_named s xs = omega (arith, named_first s x xs, ap {B = ℕ} (λ (b : Bool). cond b 1 0) (sym (same_test s x) ∙ e)) in
        later ∙ sym (ap (λ (k : ℕ). replicate k s) none)

pub led_by_copies : ((es : List Entry) (m : Values) → list_any (is_named m) es ≡ false → chain es m ≡ []) → (all : List Entry) (n : Values) (list : List Values) → are_different (λ (e : Entry). is_named e.name) all ≡ true
    → SameElements (filter (λ x. leads_to all x n) list) (flat_map (λ s. replicate (times_named s list) s) (source_names all n))
led_by_copies absent all n list d f = led_by_sources absent all n list d f ∙ (λ i. sum_by f (flat_map (λ s. copies s list i) (source_names all n)))

-- a name is in a list at most once, if each name of the list differs from those after it
pub apart_once : (x : Values) (list : List Values) → are_different is_same list ≡ true → times_named x list ≤ 1
apart_once x [] d = omega arith
apart_once x (y ∷ list) d = by (same_name x y) refl (apart_once x list)
  where
    parts : (not (list_any (is_same y) list) ≡ true) × (are_different is_same list ≡ true)
    parts = and_parts (not (list_any (is_same y) list)) (are_different is_same list) d

    none : times_named y list ≡ 0
    none = none_named y list (ap (λ (p : Values → Bool). list_any p list) (λ i m. sym (same_test y m) i) ∙ not-true (list_any (is_same y) list) parts.0)

    by : (b : Bool) → same_name x y ≡ b → (are_different is_same list ≡ true → times_named x list ≤ 1) → times_named x (y ∷ list) ≤ 1
    by true e later = omega (arith, named_first x y list, one_at_most (same_name x y), ap (λ (m : Values). times_named m list) ((same_name-Decides x y).0 e), none)
    by false e later = omega (arith, named_first x y list, ap {B = ℕ} (λ (b : Bool). cond b 1 0) e, later parts.1)

-- so the sources in the list are those that lead to the entry, each once
pub led_by_those_there : ((es : List Entry) (m : Values) → list_any (is_named m) es ≡ false → chain es m ≡ []) → (all : List Entry) (n : Values) (list : List Values) → are_different (λ (e : Entry). is_named e.name) all ≡ true
    → ((x : Values) → times_named x list ≤ 1) → SameElements (filter (λ x. leads_to all x n) list) (filter (λ s. list_any (is_same s) list) (source_names all n))
led_by_those_there absent all n list d few f = led_by_copies absent all n list d f ∙ go (source_names all n)
  where
    exact : (t : ℕ) → t ≤ 1 → one_if_some t ≡ t
    exact zero h = refl
    exact (suc t) h = omega (arith, h, one_some (suc t) (omega arith))

    times : (s : Values) → times_named s list ≡ cond (list_any (is_same s) list) 1 0
    times s = sym (exact (times_named s list) (few s)) ∙ some_present s list

    go : (sources : List Values) → sum_by f (flat_map (λ s. replicate (times_named s list) s) sources) ≡ sum_by f (filter (λ s. list_any (is_same s) list) sources)
    go [] = refl
    go (s ∷ sources) =
        ap (λ (k : ℕ). sum_by f (replicate k s ++ flat_map (λ t. replicate (times_named t list) t) sources)) (times s)
        ∙ by (list_any (is_same s) list) (go sources)
      where
        by : (b : Bool) → sum_by f (flat_map (λ t. replicate (times_named t list) t) sources) ≡ sum_by f (filter (λ t. list_any (is_same t) list) sources)
            → sum_by f (replicate (cond b 1 0) s ++ flat_map (λ t. replicate (times_named t list) t) sources) ≡ sum_by f (cond b (s ∷ filter (λ t. list_any (is_same t) list) sources) (filter (λ t. list_any (is_same t) list) sources))
        by true later = omega (arith, later, sum_by-cons f s (flat_map (λ t. replicate (times_named t list) t) sources), sum_by-cons f s (filter (λ t. list_any (is_same t) list) sources))
        by false later = later

-- ---- from an end back to the names that lead to it

pub in_kept : (p : Entry → Bool) (e : Values) (es : List Entry) → list_any (is_same e) (entry_names (filter p es)) ≡ true → list_any (is_named e) es ≡ true
in_kept p e [] h = h
in_kept p e (a ∷ es) h = by (p a) h (in_kept p e es)
  where
    by : (b : Bool) → list_any (is_same e) (entry_names (cond b (a ∷ filter p es) (filter p es))) ≡ true → (list_any (is_same e) (entry_names (filter p es)) ≡ true → list_any (is_named e) es ≡ true) → (is_same e a.name || list_any (is_named e) es) ≡ true
    by true at later = elim (or_cases (is_same e a.name) (list_any (is_same e) (entry_names (filter p es))) at) [
      | inl here ↦ or_left (is_same e a.name) (list_any (is_named e) es) here
      | inr there_ ↦ or_right (is_same e a.name) (list_any (is_named e) es) (later there_)
    ]
    by false at later = or_right (is_same e a.name) (list_any (is_named e) es) (later at)

pub ends_lead : (all : List Entry) (f e : Values) → list_any (is_same e) (ends all f) ≡ true → (f ≡ e) ⊎ (leads_to all f e ≡ true)
ends_lead all f e h = by (list_any (is_named f) all) h
  where
    by : (b : Bool) → list_any (is_same e) (cond b (entry_names (filter is_active (chain all f))) (f ∷ [])) ≡ true → (f ≡ e) ⊎ (leads_to all f e ≡ true)
    by true at = inr (in_kept is_active e (chain all f) at)
    by false at = elim (or_cases (is_same e f) false at) [ inl t ↦ inl (sym ((same_is e f).0 t)) | inr g ↦ absurd cc ]
