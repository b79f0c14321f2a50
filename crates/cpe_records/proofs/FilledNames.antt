-- Lemmas about a name whose attributes get their values one after another, up to the first attribute without a value.
use Rattle.std.proofs.Common.{◌≡◌, ℕ, ◌+◌, ◌<◌, ◌≤◌, Bool, true, false, List, [], ◌∷◌, drop, if◌then◌else◌, refl, sym, ap, subst, ◌∙◌, arith}
use Rattle.std.specs.Prelude.{Option, Some, None, get_or, is_none, unwrap_or, find}
use Rattle.std.proofs.lemmas.List.{at_drop_more}
use Rattle.serde_json.specs.Data.{Data}
use Rattle.cpe_rows.specs.cpe_values.declared.value.Value.{Value}
use Rattle.cpe_rows.specs.cpe_values.declared.value.Value.TheVariants as value
use Rattle.cpe_rows.specs.cpe_name.declared.attribute.Attribute.{Attribute}
use Rattle.cpe_rows.specs.cpe_name.declared.attribute.Attribute.TheVariants.{Part, Vendor, Product, Version, Update, Edition, Language, SwEdition, TargetSw, TargetHw, Other}
use Rattle.cpe_rows.specs.cpe_name.declared.name.NameFault.{NameFault}
use Rattle.cpe_rows.specs.cpe_name.declared.name.NameFault.TheVariants.{BadPart, BadLanguage}
use Rattle.cpe_rows.specs.cpe_name.Eleven.{Values}
use Rattle.cpe_rows.specs.cpe_name.Names.{attributes, IsName, IsFault}
use Rattle.cpe_rows.specs.cpe_name.Eleven.{put}
use Rattle.cpe_rows.specs.cpe_name.Names.{any_values}
use Rattle.cpe_rows.specs.cpe_name.Shapes.{is_part, is_language}
use Rattle.cpe_rows.proofs.cpe_name.WholeTexts.{no_fault}
use Rattle.cpe_records.specs.NameObjects.{has_attribute_shape, member_value_at, first_without, values_at, HasValueOf, IsFilled}

-- ---- a value that an attribute may have

-- lemma: if a name has a value at an attribute, the attribute may have that value
pub shape_there : (a : Attribute) (old : Values) (v : Value) → IsName (put old a v) → has_attribute_shape a v ≡ true
shape_there Part old v h = h.0.1
shape_there Language old v h = h.1.1.1.1.1.1.0.1
shape_there Vendor old v h = refl
shape_there Product old v h = refl
shape_there Version old v h = refl
shape_there Update old v h = refl
shape_there Edition old v h = refl
shape_there SwEdition old v h = refl
shape_there TargetSw old v h = refl
shape_there TargetHw old v h = refl
shape_there Other old v h = refl

-- lemma: a fault of a name depends only on its part and its language
stays : (f : NameFault) (old new : Values) → new.part ≡ old.part → new.language ≡ old.language → IsFault f new → IsFault f old
stays BadPart old new p l h = sym (ap is_part p) ∙ h
stays BadLanguage old new p l h = (sym (ap is_part p) ∙ h.0, sym (ap is_language l) ∙ h.1)

no_other : {A : Type 0} (f : NameFault) (old new : Values) → IsName old → new.part ≡ old.part → new.language ≡ old.language → IsFault f new → A
no_other f old new name p l h = absurd (no_fault f old name (stays f old new p l h))

-- lemma: if the name would have a fault with the value, the attribute may not have that value
pub shape_not_there : (f : NameFault) (a : Attribute) (old : Values) (v : Value) → IsName old → IsFault f (put old a v) → has_attribute_shape a v ≡ false
shape_not_there BadPart Part old v name h = h
shape_not_there BadLanguage Part old v name h = absurd (no_fault BadLanguage old name (name.0.1, h.1))
shape_not_there BadPart Language old v name h = absurd (no_fault BadPart old name h)
shape_not_there BadLanguage Language old v name h = h.1
shape_not_there f Vendor old v name h = no_other f old (put old Vendor v) name refl refl h
shape_not_there f Product old v name h = no_other f old (put old Product v) name refl refl h
shape_not_there f Version old v name h = no_other f old (put old Version v) name refl refl h
shape_not_there f Update old v name h = no_other f old (put old Update v) name refl refl h
shape_not_there f Edition old v name h = no_other f old (put old Edition v) name refl refl h
shape_not_there f SwEdition old v name h = no_other f old (put old SwEdition v) name refl refl h
shape_not_there f TargetSw old v name h = no_other f old (put old TargetSw v) name refl refl h
shape_not_there f TargetHw old v name h = no_other f old (put old TargetHw v) name refl refl h
shape_not_there f Other old v name h = no_other f old (put old Other v) name refl refl h

-- ---- one attribute after another

module _ (d : Data) where
  abbrev without : Attribute → Bool
  without a = is_none (member_value_at d a)

  -- the name with the values of these attributes; an attribute without a value gets ANY
  abbrev filled : List Attribute → Values → Values
  filled [] w = w
  filled (a ∷ rest) w = filled rest (put w a (unwrap_or (member_value_at d a) value.Any))

  -- the loop's invariant before the attribute at place i
  pub record Before (i : ℕ) (w : Values) : Type 0 where
    pub first : first_without d ≡ find without (drop i attributes)
    pub values : filled (drop i attributes) w ≡ values_at d

  pub nothing_given : (w : Values) → w ≡ any_values → Before 0 w
  nothing_given w any = record { first = refl; values = ap (filled attributes) any }

  found_on : (a : Attribute) (rest : List Attribute) (o : Option Value) (v : Value) → o ≡ Some v → (if is_none o then Some a else find without rest) ≡ find without rest
  found_on a rest o v is = ap (λ (p : Option Value). if is_none p then Some a else find without rest) is

  -- lemma: one more attribute gets its value
  pub one_given : (i : ℕ) (a x : Attribute) (old new : Values) → i < 11 → x ≡ get_or attributes i a → Before i old → HasValueOf d x old new → Before (i + 1) new
  one_given i a x old new lt here before given =
      let at = get_or attributes i a in
      let present : member_value_at d at ≡ Some given.value = ap (member_value_at d) (sym here) ∙ given.present in
      let is : new ≡ put old at given.value = given.is ∙ ap (λ (b : Attribute). put old b given.value) here in
      record {
        first = before.first ∙ at_drop_more (find without) attributes i a lt ∙ found_on at (drop (i + 1) attributes) (member_value_at d at) given.value present;
        values =
            ap (filled (drop (i + 1) attributes)) (is ∙ ap (λ (o : Option Value). put old at (unwrap_or o value.Any)) (sym present))
            ∙ sym (at_drop_more (λ (rest : List Attribute). filled rest old) attributes i a lt) ∙ before.values;
      }

  ends : (a : Attribute) (rest : List Attribute) (o : Option Value) → o ≡ None → (if is_none o then Some a else find without rest) ≡ Some a
  ends a rest o is = ap (λ (p : Option Value). if is_none p then Some a else find without rest) is

  -- lemma: an attribute has no value
  pub none_given : (i : ℕ) (a x : Attribute) (old : Values) → i < 11 → x ≡ get_or attributes i a → Before i old → member_value_at d x ≡ None → first_without d ≡ Some x
  none_given i a x old lt here before lacks =
      let at = get_or attributes i a in
      before.first ∙ at_drop_more (find without) attributes i a lt ∙ ends at (drop (i + 1) attributes) (member_value_at d at) (ap (member_value_at d) (sym here) ∙ lacks) ∙ ap (λ (b : Attribute). Some b) (sym here)

  -- lemma: all attributes have got their values
  pub all_given : (i : ℕ) (w : Values) → 11 ≤ i → i ≤ 11 → Before i w → IsFilled d None w
  all_given i w over within before =
      let is : i ≡ 11 = omega (arith, over, within) in
      let last : Before 11 w = subst (λ (n : ℕ). Before n w) is before in
      (last.first, last.values)
