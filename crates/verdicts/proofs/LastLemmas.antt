-- Facts of a statement that no other statement uses: their numbers, each once, and their names.
use Rattle.std.proofs.Common.{◌≡◌, ◌≤◌, ℕ, zero, suc, Bool, true, false, not, cond, ◌&&◌, ◌||◌, nat_eq, List, [], ◌∷◌, ◌++◌, length, refl, sym, ap, ◌∙◌, arith, eq-eqb, eqb-true}
use Rattle.std.specs.Prelude.{filter}
use Rattle.std.specs.List.{AllByRecursion, flat_map, list_any, sum_by}
use Rattle.std.proofs.lemmas.Bool.{or_left, or_right, true≢false}
use Rattle.std.proofs.lemmas.List.{map-append}
use Rattle.cpe_rows.specs.cpe_name.Eleven.{Values}
use Rattle.cpe_rows.specs.cpe_name.Equal.{same_name, same_name-Decides}
use Rattle.fact_boards.specs.Prelude.{SameElements}
use Rattle.name_index.specs.declared.table.NameId.{NameId}
use Rattle.name_index.specs.Table.{IsNameTable, Names}
use Rattle.cpe_rows.specs.FactNames.{fact_names}
use Rattle.cpe_rows.specs.declared.entry.Entry.{Entry}
use Rattle.cpe_rows.specs.declared.statement.Mode.{Mode}
use Rattle.cpe_rows.specs.declared.statement.Mode.TheVariants.{Plain, Follow}
use Rattle.cpe_rows.specs.declared.statement.Statement.{Statement}
use Rattle.facts.specs.fact_laws.Asked.{names_of_facts, fresh_facts, is_referred, leads, refers_to, same_mode}
use Rattle.facts.specs.fact_laws.Shown.{different, name_at, names_at, one_if_some, times_in_list}
use Rattle.facts.proofs.fact_laws.Different.{once_different, one_some}
use Rattle.facts.proofs.fact_laws.Names.{sum_flat}
use Rattle.facts.proofs.fact_laws.Shown.{number_first}
use Rattle.fact_boards.specs.Kept.{AreFactNames}
use Rattle.facts.specs.fact_rows.Facts.{FactTable, has_end_of_fact, leads_of}
use Rattle.facts.specs.ticket_list.Tickets.{is_empty}
use Rattle.facts.specs.Facts.{LeadsTo}
use Rattle.facts.specs.Users.{users_in}
use Rattle.verdicts.proofs.NumberLemmas.{live_filtered}

-- ---- numbers that are there, and how often

abbrev pub bit : Bool → ℕ
bit b = cond b 1 0

turned_eq : (a b : ℕ) → nat_eq a b ≡ nat_eq b a
turned_eq a b = by (nat_eq a b) refl (nat_eq b a) refl
  where
    by : (p : Bool) → nat_eq a b ≡ p → (q : Bool) → nat_eq b a ≡ q → nat_eq a b ≡ nat_eq b a
    by true e true f = e ∙ sym f
    by false e false f = e ∙ sym f
    by true e false f = e ∙ sym (eq-eqb b a (sym (eqb-true a b e)))
    by false e true f = eq-eqb a b (sym (eqb-true b a f)) ∙ sym f

pub ends_counted : (q : ℕ) (xs : List NameId) → one_if_some (times_in_list q xs) ≡ bit (has_end_of_fact xs q)
ends_counted q [] = refl
ends_counted q (x ∷ xs) = by (nat_eq x.0 q) refl (ends_counted q xs)
  where
    by : (b : Bool) → nat_eq x.0 q ≡ b → one_if_some (times_in_list q xs) ≡ bit (has_end_of_fact xs q) → one_if_some (times_in_list q (x ∷ xs)) ≡ bit (b || has_end_of_fact xs q)
    by true e later = one_some (times_in_list q (x ∷ xs)) (omega (arith, number_first q x xs, ap bit (turned_eq q x.0 ∙ e)))
    by false e later = ap one_if_some (omega (arith, number_first q x xs, ap bit (turned_eq q x.0 ∙ e))) ∙ later

same_bit : (a b : Bool) → bit a ≡ bit b → a ≡ b
same_bit true true e = refl
same_bit true false e = absurd (omega (arith, e))
same_bit false true e = absurd (omega (arith, e))
same_bit false false e = refl

pub one_at_most : (n : ℕ) → one_if_some n ≤ 1
one_at_most zero = omega arith
one_at_most (suc n) = omega (arith, one_some (suc n) (omega arith))

once_or_none : (n : ℕ) → n ≤ 1 → n ≡ one_if_some n
once_or_none zero h = refl
once_or_none (suc n) h = omega (arith, h, one_some (suc n) (omega arith))

-- numbers that are there once for each of some numbers are the same numbers
pub same_ends : (once all : List NameId) (q : ℕ) → times_in_list q once ≡ one_if_some (times_in_list q all) → has_end_of_fact once q ≡ has_end_of_fact all q
same_ends once all q e =
    same_bit (has_end_of_fact once q) (has_end_of_fact all q)
    (sym (ends_counted q once) ∙ sym (once_or_none (times_in_list q once) (omega (arith, e, one_at_most (times_in_list q all)))) ∙ e ∙ ends_counted q all)

pub filtered_ends : (t : ℕ → Bool) (ids : List NameId) (q : ℕ) → has_end_of_fact (filter (λ (x : NameId). t x.0) ids) q ≡ (has_end_of_fact ids q && t q)
filtered_ends t [] q = refl
filtered_ends t (x ∷ ids) q = by (t x.0) refl (nat_eq x.0 q) refl (filtered_ends t ids q)
  where
    rest : Bool
    rest = has_end_of_fact (filter (λ (y : NameId). t y.0) ids) q

    or_self : (a : Bool) → a ≡ true → (a || rest) ≡ true
    or_self a e = or_left a rest e

    by : (a : Bool) → t x.0 ≡ a → (b : Bool) → nat_eq x.0 q ≡ b → rest ≡ (has_end_of_fact ids q && t q)
        → has_end_of_fact (cond a (x ∷ filter (λ (y : NameId). t y.0) ids) (filter (λ (y : NameId). t y.0) ids)) q ≡ ((b || has_end_of_fact ids q) && t q)
    by true e true f later = or_self (nat_eq x.0 q) f ∙ sym (sym (ap t (eqb-true x.0 q f)) ∙ e)
    by true e false f later = ap (λ (c : Bool). c || rest) f ∙ later
    by false e true f later = later ∙ ap (λ (c : Bool). has_end_of_fact ids q && c) is ∙ none (has_end_of_fact ids q) ∙ sym is
      where
        is : t q ≡ false
        is = sym (ap t (eqb-true x.0 q f)) ∙ e

        none : (c : Bool) → (c && false) ≡ false
        none true = refl
        none false = refl
    by false e false f later = later

module _ (t : ℕ → Bool) (ids last : List NameId) (alone : (q : ℕ) → has_end_of_fact last q ≡ (has_end_of_fact ids q && t q)) (once : (q : ℕ) → times_in_list q last ≤ 1) where
  pub once_each : (q : ℕ) → times_in_list q last ≡ one_if_some (times_in_list q (filter (λ (x : NameId). t x.0) ids))
  once_each q =
      once_or_none (times_in_list q last) (once q)
      ∙ ends_counted q last
      ∙ ap bit (alone q ∙ sym (filtered_ends t ids q))
      ∙ sym (ends_counted q (filter (λ (x : NameId). t x.0) ids))

-- what holds of each number that is there
pub all_ends : (P : ℕ → Type 0) (ids : List NameId) → ((q : ℕ) → has_end_of_fact ids q ≡ true → P q) → AllByRecursion (λ (x : NameId). P x.0) ids
all_ends P [] h = tt
all_ends P (x ∷ ids) h = (
  h x.0 (or_left (nat_eq x.0 x.0) (has_end_of_fact ids x.0) (eq-eqb x.0 x.0 refl)),
  all_ends P ids (λ q is. h q (or_right (nat_eq x.0 q) (has_end_of_fact ids q) is)),
)

-- ---- the facts of a statement to which no other refers

-- the different ones of those that pass are those of the different ones that pass
different_filtered : (p : Values → Bool) (list : List Values) → different (filter p list) ≡ filter p (different list)
different_filtered p [] = refl
different_filtered p (n ∷ list) = by (p n) refl (list_any (same_name n) list) refl (different_filtered p list)
  where
    kept : p n ≡ true → (more : List Values) → list_any (same_name n) (filter p more) ≡ list_any (same_name n) more
    kept e [] = refl
    kept e (m ∷ more) = one (p m) refl (same_name n m) refl (kept e more)
      where
        one : (a : Bool) → p m ≡ a → (b : Bool) → same_name n m ≡ b → list_any (same_name n) (filter p more) ≡ list_any (same_name n) more
            → list_any (same_name n) (cond a (m ∷ filter p more) (filter p more)) ≡ (b || list_any (same_name n) more)
        one true f b g later = λ i. g i || later i
        one false f true g later = absurd (true≢false (sym e ∙ ap p ((same_name-Decides n m).0 g) ∙ f))
        one false f false g later = later

    by : (a : Bool) → p n ≡ a → (b : Bool) → list_any (same_name n) list ≡ b → different (filter p list) ≡ filter p (different list)
        → different (cond a (n ∷ filter p list) (filter p list)) ≡ filter p (cond b (different list) (n ∷ different list))
    by true e true f later = ap (λ (c : Bool). cond c (different (filter p list)) (n ∷ different (filter p list))) (kept e list ∙ f) ∙ later
    by true e false f later =
        ap (λ (c : Bool). cond c (different (filter p list)) (n ∷ different (filter p list))) (kept e list ∙ f)
        ∙ ap (λ (ns : List Values). n ∷ ns) later
        ∙ sym (ap (λ (c : Bool). cond c (n ∷ filter p (different list)) (filter p (different list))) e)
    by false e true f later = later
    by false e false f later = later ∙ sym (ap (λ (c : Bool). cond c (n ∷ filter p (different list)) (filter p (different list))) e)

-- numbers that pass have the names that pass
names_filtered : (names : Names) (t : NameId → Bool) (p : Values → Bool) (ids : List NameId) → AllByRecursion (λ (x : NameId). t x ≡ p (name_at names x)) ids → names_at names (filter t ids) ≡ filter p (names_at names ids)
names_filtered names t p [] all = refl
names_filtered names t p (x ∷ ids) all = ap (λ (a : Bool). names_at names (cond a (x ∷ filter t ids) (filter t ids))) all.0 ∙ by (p (name_at names x)) (names_filtered names t p ids all.1)
  where
    by : (b : Bool) → names_at names (filter t ids) ≡ filter p (names_at names ids)
        → names_at names (cond b (x ∷ filter t ids) (filter t ids)) ≡ cond b (name_at names x ∷ filter p (names_at names ids)) (filter p (names_at names ids))
    by true later = ap (λ (ns : List Values). name_at names x ∷ ns) later
    by false later = later

own_facts : (mode : Mode) (s : Statement) → s.mode ≡ mode → names_of_facts mode s ≡ different (fact_names s.test)
own_facts mode s e = ap (λ (m : Mode). cond (same_mode mode m) (different (fact_names s.test)) []) e ∙ by mode
  where
    by : (m : Mode) → cond (same_mode m m) (different (fact_names s.test)) [] ≡ different (fact_names s.test)
    by Plain = refl
    by Follow = refl

-- numbers that are there once for each of those that pass have the names to which no other statement refers
pub fresh_named : (names : Names) → IsNameTable names → (mode : Mode) (others : List Statement) (s : Statement) (t : NameId → Bool) (ids once : List NameId)
    → s.mode ≡ mode → AreFactNames names ids → AreFactNames names once → names_at names ids ≡ fact_names s.test
    → AllByRecursion (λ (x : NameId). t x ≡ not (is_referred mode others (name_at names x))) ids
    → ((q : ℕ) → times_in_list q once ≡ one_if_some (times_in_list q (filter t ids)))
    → SameElements (names_at names once) (fresh_facts mode others s)
fresh_named names are mode others s t ids once own live live_once named passes each f =
    let p : Values → Bool = λ fact. not (is_referred mode others fact) in
    once_different names (filter t ids) once are (live_filtered names t ids live) live_once each f
    ∙ ap (λ (ns : List Values). sum_by f (different ns)) (names_filtered names t p ids passes ∙ ap (filter p) named)
    ∙ ap (sum_by f) (different_filtered p (fact_names s.test) ∙ ap (filter p) (sym (own_facts mode s own)))

-- a name has no user exactly if no statement refers to it
pub users_empty : (mode : Mode) (n : Values) (tickets : List ℕ) (statements : List Statement) → length tickets ≡ length statements → is_empty (users_in mode n tickets statements) ≡ not (is_referred mode statements n)
users_empty mode n [] [] e = refl
users_empty mode n [] (s ∷ statements) e = absurd (omega (arith, e))
users_empty mode n (t ∷ tickets) [] e = absurd (omega (arith, e))
users_empty mode n (t ∷ tickets) (s ∷ statements) e = by (refers_to mode n s) (users_empty mode n tickets statements (omega (arith, e)))
  where
    by : (b : Bool) → is_empty (users_in mode n tickets statements) ≡ not (is_referred mode statements n) → is_empty (cond b (t ∷ users_in mode n tickets statements) (users_in mode n tickets statements)) ≡ not (b || is_referred mode statements n)
    by true later = refl
    by false later = later

-- ---- the names to which facts lead

live_both : (names : Names) (xs ys : List NameId) → AreFactNames names xs → AreFactNames names ys → AreFactNames names (xs ++ ys)
live_both names [] ys a b = b
live_both names (x ∷ xs) ys a b = (a.0, live_both names xs ys a.1 b)

pub leads_named : (names : Names) (entries : List Entry) (mode : Mode) (t : FactTable) (facts : List NameId) → AllByRecursion (λ (x : NameId). LeadsTo names entries mode x.0 (leads_of mode t x.0)) facts
    → AreFactNames names (flat_map (λ (x : NameId). leads_of mode t x.0) facts) × (names_at names (flat_map (λ (x : NameId). leads_of mode t x.0) facts) ≡ flat_map (leads entries mode) (names_at names facts))
leads_named names entries mode t [] all = (tt, refl)
leads_named names entries mode t (x ∷ facts) all =
    let later = leads_named names entries mode t facts all.1 in
    let rest = flat_map (λ (y : NameId). leads_of mode t y.0) facts in (
      live_both names (leads_of mode t x.0) rest all.0.live later.0,
      map-append (name_at names) (leads_of mode t x.0) rest ∙ (λ i. all.0.names i ++ later.1 i),
    )

pub flat_same : (g : Values → List Values) (xs ys : List Values) → SameElements xs ys → SameElements (flat_map g xs) (flat_map g ys)
flat_same g xs ys same f = sum_flat f g xs ∙ same (λ x. sum_by f (g x)) ∙ sym (sum_flat f g ys)
