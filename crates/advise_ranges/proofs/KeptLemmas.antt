-- Advisories that are found by their ids, and those that affect a name.
use Rattle.std.proofs.Common.{◌≡◌, ℕ, List, [], ◌∷◌, ◌++◌, map, filter, find, Bool, true, false, cond, ◌||◌, is_some, refl, ap, sym, subst, ◌∙◌}
use Rattle.std.specs.Prelude.{Option, Some, None, option_map, IfSome}
use Rattle.std.specs.List.{list_any}
use Rattle.std.specs.Map.{lookup, remove_entry}
use Rattle.std.specs.Str.{bytes_eq}
use Rattle.std.proofs.lemmas.Slice.Eq.{bytes_eq-Decides}
use Rattle.cpe_rows.specs.cpe_name.Eleven.{Values}
use Rattle.cpe_rows.specs.cpe_name.Lower.{IsLower}
use Rattle.cpe_rows.specs.After.{without_first}
use Rattle.advise_ranges.specs.Affected.{affects}
use Rattle.advise_ranges.specs.Answers.{ids_affecting}
use Rattle.advise_ranges.specs.Kept.{advisory_from, advisories_in, AreLower}
use Rattle.advise_ranges.specs.Rows.{has_advisory_id}
use Rattle.advise_ranges.specs.declared.advisory.Advisory.{Advisory}
use Rattle.advise_ranges.specs.declared.advised.Terms.{Terms}

abbrev pub Pairs : Type 0
Pairs = List (List ℕ × Terms)

abbrev pub with_id : List ℕ → Terms → Advisory
with_id id t = advisory_from (id, t)

-- ---- advisories by their ids

-- if an id passes, the pair is the pair of this id
one_found : (id key : List ℕ) (t : Terms) (b : Bool) → bytes_eq id key ≡ b → (rest : Option Advisory) (more : Option Terms) → rest ≡ option_map (with_id id) more
    → cond b (Some (advisory_from (key, t))) rest ≡ option_map (with_id id) (cond b (Some t) more)
one_found id key t true e rest more h = ap (λ (k : List ℕ). Some (advisory_from (k, t))) (sym ((bytes_eq-Decides id key).0 e))
one_found id key t false e rest more h = h

pub found_by_id : (id : List ℕ) (es : Pairs) → find (has_advisory_id id) (advisories_in es) ≡ option_map (with_id id) (lookup (bytes_eq id) es)
found_by_id id [] = refl
found_by_id id (e ∷ es) = one_found id e.0 e.1 (bytes_eq id e.0) refl (find (has_advisory_id id) (advisories_in es)) (lookup (bytes_eq id) es) (found_by_id id es)

-- what is found may be behind a reference
pub behind_reference : {R : Type 0} (now : R → Terms) (id : List ℕ) (o : Option R) → option_map (λ t. advisory_from (id, now t)) o ≡ option_map (with_id id) (option_map now o)
behind_reference now id None = refl
behind_reference now id (Some t) = refl

one_there : (b : Bool) (t : Terms) (rest : Bool) (more : Option Terms) → is_some more ≡ rest → is_some (cond b (Some t) more) ≡ (b || rest)
one_there true t rest more h = refl
one_there false t rest more h = h

pub there_by_id : (id : List ℕ) (es : Pairs) → is_some (lookup (bytes_eq id) es) ≡ list_any (has_advisory_id id) (advisories_in es)
there_by_id id [] = refl
there_by_id id (e ∷ es) = one_there (bytes_eq id e.0) e.1 (list_any (has_advisory_id id) (advisories_in es)) (lookup (bytes_eq id) es) (there_by_id id es)

none_from : (o : Option Terms) → is_some o ≡ false → o ≡ None
none_from None h = refl
none_from (Some t) h = let wrong : ⊥ = cc in absurd wrong

pub absent_by_id : (id : List ℕ) (es : Pairs) → list_any (has_advisory_id id) (advisories_in es) ≡ false → lookup (bytes_eq id) es ≡ None
absent_by_id id es h = none_from (lookup (bytes_eq id) es) (there_by_id id es ∙ h)

one_left : (b : Bool) (e : List ℕ × Terms) (es more : Pairs) (rest : List Advisory) → advisories_in more ≡ rest
    → advisories_in (cond b es (e ∷ more)) ≡ cond b (advisories_in es) (advisory_from e ∷ rest)
one_left true e es more rest h = refl
one_left false e es more rest h = ap (λ ads. advisory_from e ∷ ads) h

pub removed_by_id : (id : List ℕ) (es : Pairs) → advisories_in (remove_entry (bytes_eq id) es) ≡ without_first (has_advisory_id id) (advisories_in es)
removed_by_id id [] = refl
removed_by_id id (e ∷ es) = one_left (bytes_eq id e.0) e es (remove_entry (bytes_eq id) es) (without_first (has_advisory_id id) (advisories_in es)) (removed_by_id id es)

-- ---- names in lower case

pub still_lower : (test : List ℕ → Bool) (es : Pairs) → AreLower es → AreLower (remove_entry test es)
still_lower test [] h = h
still_lower test (e ∷ es) h = go (test e.0) (still_lower test es h.1) where
  go : (b : Bool) → AreLower (remove_entry test es) → AreLower (cond b es (e ∷ remove_entry test es))
  go true rest = h.1
  go false rest = (h.0, rest)

pub last_lower : (es : Pairs) (e : List ℕ × Terms) → AreLower es → IsLower e.1.name → AreLower (es ++ e ∷ [])
last_lower [] e h one = (one, h)
last_lower (x ∷ es) e h one = (h.0, last_lower es e h.1 one)

found_lower : (test : List ℕ → Bool) (es : Pairs) (t : Terms) → AreLower es → lookup test es ≡ Some t → IsLower t.name
found_lower test [] t h e = let wrong : ⊥ = cc in absurd wrong
found_lower test (x ∷ es) t h e = go (test x.0) e (found_lower test es t h.1) where
  go : (b : Bool) → cond b (Some x.1) (lookup test es) ≡ Some t → (lookup test es ≡ Some t → IsLower t.name) → IsLower t.name
  go true same rest = let is : x.1 ≡ t = cc in let P : Terms → Type 0 = λ u. IsLower u.name in subst P is h.0
  go false same rest = rest same

pub reference_lower : {R : Type 0} (now : R → Terms) (o : Option R) (test : List ℕ → Bool) (es : Pairs) → AreLower es → option_map now o ≡ lookup test es → IfSome o (λ t. IsLower (now t).name)
reference_lower now None test es h e = tt
reference_lower now (Some t) test es h e = found_lower test es (now t) h (sym e)

-- ---- advisories that affect a name

module _ (n : Values) where
  kept_one : (b : Bool) (a : Advisory) (rest : List Advisory) → map (λ (x : Advisory). x.id) (cond b (a ∷ rest) rest)
      ≡ map (λ (x : Advisory). x.id) (cond b (a ∷ []) []) ++ map (λ (x : Advisory). x.id) rest
  kept_one true a rest = refl
  kept_one false a rest = refl

  pub ids-cons : (a : Advisory) (ads : List Advisory) → ids_affecting n (a ∷ ads) ≡ ids_affecting n (a ∷ []) ++ ids_affecting n ads
  ids-cons a ads = kept_one (affects a n) a (filter (λ x. affects x n) ads)

  pub one_affecting : (a : Advisory) (b : Bool) → affects a n ≡ b → ids_affecting n (a ∷ []) ≡ cond b (a.id ∷ []) []
  one_affecting a b e = ap (λ (q : Bool). map (λ (x : Advisory). x.id) (cond q (a ∷ []) [])) e ∙ go b
    where
      go : (q : Bool) → map (λ (x : Advisory). x.id) (cond q (a ∷ []) []) ≡ cond q (a.id ∷ []) []
      go true = refl
      go false = refl
