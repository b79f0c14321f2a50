-- Advisories in groups, by the products of their names.
use Rattle.std.proofs.Common.{◌≡◌, ℕ, List, [], ◌∷◌, ◌++◌, map, filter, find, Bool, true, false, not, cond, ◌&&◌, ◌||◌, IsTrue, refl, ap, sym, subst, ◌∙◌}
use Rattle.std.specs.Prelude.{None, Some}
use Rattle.std.specs.Option.{option_map_or}
use Rattle.std.specs.Map.{lookup}
use Rattle.std.specs.Str.{bytes_eq}
use Rattle.std.proofs.lemmas.Bool.{and_parts, and_from}
use Rattle.cpe_rows.specs.cpe_values.declared.value.Edge.{Edge}
use Rattle.cpe_rows.specs.cpe_values.declared.value.Edge.TheVariants as edge
use Rattle.cpe_rows.specs.cpe_values.declared.value.Value.{Value}
use Rattle.cpe_rows.specs.cpe_values.declared.value.Value.TheVariants as value
use Rattle.cpe_rows.specs.cpe_values.Equal.{same_value-Decides}
use Rattle.cpe_rows.specs.cpe_values.Lower.{lower_value}
use Rattle.cpe_rows.specs.cpe_values.Parts.{Parts, parts, has_special, is_nothing}
use Rattle.cpe_rows.specs.cpe_values.Same.{same_value}
use Rattle.cpe_rows.specs.cpe_name.Eleven.{Values}
use Rattle.cpe_rows.specs.cpe_name.Lower.{IsLower}
use Rattle.cpe_relation.specs.Matching.{lower}
use Rattle.cpe_relation.specs.MatchTests.{begins_with, same_lower}
use Rattle.cpe_relation.specs.NameRelation.{covers}
use Rattle.cpe_relation.specs.Near.{near, near_plain, text_ends_with}
use Rattle.cpe_relation.proofs.Splits.{same_lower-Decides}
use Rattle.cpe_rows.specs.After.{without_first}
use Rattle.advise_ranges.specs.Affected.{affects, is_in_range}
use Rattle.advise_ranges.specs.Answers.{ids_affecting}
use Rattle.advise_ranges.specs.Found.{is_beside}
use Rattle.advise_ranges.specs.Groups.{Grouped, group, group_of, ids_in_group, is_in_group, is_plain}
use Rattle.advise_ranges.specs.Kept.{advisory_from, advisories_in, AreLower}
use Rattle.advise_ranges.specs.Rows.{has_advisory_id}
use Rattle.advise_ranges.specs.declared.advisory.Advisory.{Advisory}
use Rattle.advise_ranges.proofs.KeptLemmas.{Pairs, ids-cons, one_affecting}

-- ---- groups after an advisory is added or removed

abbrev ids : List Advisory → List (List ℕ)
ids ads = map (λ (a : Advisory). a.id) ads

module _ (v : Value) where
  module _ (id : List ℕ) where
    abbrev left : List (List ℕ) → List (List ℕ)
    left = without_first (bytes_eq id)

    at_first : (p : Bool) (x : Advisory) (f : List Advisory) → bytes_eq id x.id ≡ true → ids f ≡ cond p (left (ids (cond p (x ∷ f) f))) (ids (cond p (x ∷ f) f))
    at_first true x f e = sym (ap (λ q. cond q (ids f) (x.id ∷ left (ids f))) e)
    at_first false x f e = refl

    further : (p b : Bool) (x : Advisory) (f w : List Advisory) → bytes_eq id x.id ≡ false → ids w ≡ cond b (left (ids f)) (ids f)
        → ids (cond p (x ∷ w) w) ≡ cond b (left (ids (cond p (x ∷ f) f))) (ids (cond p (x ∷ f) f))
    further true true x f w e h = ap (λ (r : List (List ℕ)). x.id ∷ r) h ∙ sym (ap (λ q. cond q (ids f) (x.id ∷ left (ids f))) e)
    further true false x f w e h = ap (λ (r : List (List ℕ)). x.id ∷ r) h
    further false true x f w e h = h
    further false false x f w e h = h

    pub group-without : (ads : List Advisory) (a : Advisory) → find (has_advisory_id id) ads ≡ Some a
        → ids_in_group v (without_first (has_advisory_id id) ads) ≡ cond (is_in_group v a) (left (ids_in_group v ads)) (ids_in_group v ads)
    group-without [] a h = let wrong : ⊥ = cc in absurd wrong
    group-without (x ∷ xs) a h = go (bytes_eq id x.id) refl h (group-without xs a)
      where
        go : (q : Bool) → bytes_eq id x.id ≡ q → cond q (Some x) (find (has_advisory_id id) xs) ≡ Some a
            → (find (has_advisory_id id) xs ≡ Some a → ids_in_group v (without_first (has_advisory_id id) xs) ≡ cond (is_in_group v a) (left (ids_in_group v xs)) (ids_in_group v xs))
            → ids_in_group v (cond q xs (x ∷ without_first (has_advisory_id id) xs)) ≡ cond (is_in_group v a) (left (ids_in_group v (x ∷ xs))) (ids_in_group v (x ∷ xs))
        go true e found later =
            let same : x ≡ a = cc in
            subst (λ (y : Advisory). ids_in_group v xs ≡ cond (is_in_group v y) (left (ids_in_group v (x ∷ xs))) (ids_in_group v (x ∷ xs))) same
            (at_first (is_in_group v x) x (filter (is_in_group v) xs) e)
        go false e found later =
            further (is_in_group v x) (is_in_group v a) x (filter (is_in_group v) xs) (filter (is_in_group v) (without_first (has_advisory_id id) xs)) e (later found)

-- ---- groups after an empty group is dropped

pub emptied : (p v : Value) (gs : Grouped) → group gs p ≡ [] → option_map_or (λ ids. ids) (cond (same_value p v) None (lookup (same_value v) gs)) [] ≡ group gs v
emptied p v gs h = go (same_value p v) refl
  where
    go : (b : Bool) → same_value p v ≡ b → option_map_or (λ ids. ids) (cond b None (lookup (same_value v) gs)) [] ≡ group gs v
    go true e = sym h ∙ ap (group gs) ((same_value-Decides p v).0 e)
    go false e = refl

-- ---- plain products that are near are the same

nothing : (e : Edge) → is_nothing e ≡ true → e ≡ edge.None
nothing edge.None h = refl
nothing edge.Star h = let wrong : ⊥ = cc in absurd wrong
nothing (edge.Marks n) h = let wrong : ⊥ = cc in absurd wrong

no_special : (p q : Bool) → (not p || not q) ≡ false → (p ≡ true) × (q ≡ true)
no_special true true h = (refl, refl)
no_special true false h = let wrong : ⊥ = cc in absurd wrong
no_special false true h = let wrong : ⊥ = cc in absurd wrong
no_special false false h = let wrong : ⊥ = cc in absurd wrong

double_not : (b : Bool) → not b ≡ true → b ≡ false
double_not true h = sym h
double_not false h = refl

abbrev body_of : Value → List ℕ
body_of value.Any = []
body_of value.Na = []
body_of (value.Text t) = t.body

module _ (s t : Parts) (lower_s : lower_value (value.Text s) ≡ value.Text s) (lower_t : lower_value (value.Text t) ≡ value.Text t) (plain_s : has_special s ≡ false) (plain_t : has_special t ≡ false) where
  bodies : near_plain s t.body ≡ true → s.body ≡ t.body
  bodies h =
      let edges = no_special (is_nothing s.lead) (is_nothing s.trail) plain_s in
      let by_lead : near_plain s t.body ≡ cond (is_nothing s.trail) (same_lower s.body t.body) (begins_with t.body s.body) =
      ap (λ q. cond q (cond (is_nothing s.trail) (same_lower s.body t.body) (begins_with t.body s.body)) (cond (is_nothing s.trail) (text_ends_with t.body s.body) true)) edges.0 in
      let by_trail : cond (is_nothing s.trail) (same_lower s.body t.body) (begins_with t.body s.body) ≡ same_lower s.body t.body =
      ap (λ q. cond q (same_lower s.body t.body) (begins_with t.body s.body)) edges.1 in
      let alike : lower s.body ≡ lower t.body = (same_lower-Decides s.body t.body).0 (sym by_trail ∙ sym by_lead ∙ h) in
      sym (ap body_of lower_s) ∙ alike ∙ ap body_of lower_t

  same_text : near_plain s t.body ≡ true → value.Text s ≡ value.Text t
  same_text h =
      let a = no_special (is_nothing s.lead) (is_nothing s.trail) plain_s in
      let b = no_special (is_nothing t.lead) (is_nothing t.trail) plain_t in
      let lead : s.lead ≡ t.lead = nothing s.lead a.0 ∙ sym (nothing t.lead b.0) in
      let trail : s.trail ≡ t.trail = nothing s.trail a.1 ∙ sym (nothing t.trail b.1) in
      λ i. value.Text (parts (lead i) (bodies h i) (trail i))

-- if a product is near another, both are plain and the same, or the first isn't plain
same_group : (p q : Value) → same_value (group_of p) value.Any ≡ false → lower_value p ≡ p → lower_value q ≡ q → near p q ≡ true → (is_plain q && same_value (group_of p) q) ≡ true
same_group value.Any q other lp lq h = let wrong : ⊥ = cc in absurd wrong
same_group value.Na q other lp lq h = let wrong : ⊥ = cc in absurd wrong
same_group (value.Text s) value.Any other lp lq h = let wrong : ⊥ = cc in absurd wrong
same_group (value.Text s) value.Na other lp lq h = let wrong : ⊥ = cc in absurd wrong
same_group (value.Text s) (value.Text t) other lp lq h = go (has_special s) refl other
  where
    go : (b : Bool) → has_special s ≡ b → same_value (cond (not b) (value.Text s) value.Any) value.Any ≡ false → (not (has_special t) && same_value (cond (not (has_special s)) (value.Text s) value.Any) (value.Text t)) ≡ true
    go true e wrong = let no : ⊥ = cc in absurd no
    go false e right =
        let near_by = and_parts (not (has_special t)) (near_plain s t.body) h in
        and_from (not (has_special t)) (same_value (cond (not (has_special s)) (value.Text s) value.Any) (value.Text t)) near_by.0
        (ap (λ b. same_value (cond (not b) (value.Text s) value.Any) (value.Text t)) e
        ∙ (same_value-Decides (value.Text s) (value.Text t)).1 (same_text s t lp lq e (double_not (has_special t) near_by.0) near_by.1))

-- ---- an advisory that affects a name is of its product, or has no plain product

module _ (near_law : (a b : Values) → IsTrue (covers a b) → IsTrue (near a.product b.product)) (n : Values) (lower_n : IsLower n) where
  elsewhere : (a : Advisory) → IsLower a.name → is_beside n.product a ≡ false → affects a n ≡ false
  elsewhere a lower_a out = go (affects a n) refl
    where
      beside : (b : Bool) → is_in_group value.Any a ≡ b → near a.name.product n.product ≡ true → is_beside n.product a ≡ true
      beside true e h = ap (λ (q : Bool). q || (is_plain n.product && is_in_group n.product a)) e
      beside false e h =
          ap (λ (q : Bool). q || (is_plain n.product && is_in_group n.product a)) e
          ∙ same_group a.name.product n.product e (ap (λ (w : Values). w.product) lower_a) (ap (λ (w : Values). w.product) lower_n) h

      go : (b : Bool) → affects a n ≡ b → b ≡ false
      go false e = refl
      go true e =
          let covered = (and_parts (covers a.name n) (is_in_range a.start a.end n.version) e).0 in
          sym (beside (is_in_group value.Any a) refl (near_law a.name n covered)) ∙ out

  -- so the other advisories need not be tested
  pub beside_suffice : (es : Pairs) → AreLower es → ids_affecting n (advisories_in (filter (λ e. is_beside n.product (advisory_from e)) es)) ≡ ids_affecting n (advisories_in es)
  beside_suffice [] all = refl
  beside_suffice (e ∷ es) all = go (is_beside n.product (advisory_from e)) refl (beside_suffice es all.1)
    where
      left : Pairs
      left = filter (λ x. is_beside n.product (advisory_from x)) es

      go : (b : Bool) → is_beside n.product (advisory_from e) ≡ b → ids_affecting n (advisories_in left) ≡ ids_affecting n (advisories_in es)
          → ids_affecting n (advisories_in (cond b (e ∷ left) left)) ≡ ids_affecting n (advisory_from e ∷ advisories_in es)
      go true i h =
          ids-cons n (advisory_from e) (advisories_in left)
          ∙ ap (λ (r : List (List ℕ)). ids_affecting n (advisory_from e ∷ []) ++ r) h
          ∙ sym (ids-cons n (advisory_from e) (advisories_in es))
      go false i h =
          h
          ∙ sym (ids-cons n (advisory_from e) (advisories_in es)
          ∙ ap (λ (r : List (List ℕ)). r ++ ids_affecting n (advisories_in es)) (one_affecting n (advisory_from e) false (elsewhere (advisory_from e) all.0 i)))
