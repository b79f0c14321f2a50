-- Lemmas: a name that is written as an object is read as that name.
use Rattle.std.proofs.Common.{◌≡◌, ℕ, List, [], ◌∷◌, true, if◌then◌else◌, Option, Some, None, map, refl, ap, ◌∙◌}
use Rattle.std.specs.Prelude.{Ok, Err, All, find, is_none, is_some, unwrap_or, option_and_then}
use Rattle.std.specs.List.{list_all, AllByRecursion}
use Rattle.std.proofs.lemmas.Bool.{and_parts, and_from}
use Rattle.std.proofs.lemmas.List.Elements.{All-head, All-tail}
use Rattle.serde_json.specs.Data.{Data}
use Rattle.cpe_rows.specs.cpe_values.declared.value.Value.{Value}
use Rattle.cpe_rows.specs.cpe_values.declared.value.Value.TheVariants as value
use Rattle.cpe_rows.specs.cpe_values.Values.{IsValue}
use Rattle.cpe_rows.specs.cpe_name.Eleven.{Values}
use Rattle.cpe_rows.specs.cpe_name.declared.attribute.Attribute.{Attribute}
use Rattle.cpe_rows.specs.cpe_name.declared.attribute.Attribute.TheVariants.{Part, Vendor, Product, Version, Update, Edition, Language, SwEdition, TargetSw, TargetHw, Other}
use Rattle.cpe_rows.specs.cpe_name.Names.{attributes, value_of, named, IsName}
use Rattle.cpe_rows.specs.Names.{is_lower}
use Rattle.cpe_rows.proofs.NameTests.{is_lower_is}
use Rattle.cpe_fs.specs.Grammar.{fs_component}
use Rattle.cpe_fs.specs.Component.{HasComponent, read_component}
use Rattle.cpe_records.specs.Forms.{list_of_items, or_default, required_member}
use Rattle.cpe_records.specs.Gives.{◌>>=◌, all_from}
use Rattle.cpe_records.specs.NameObjects.{component_in, has_attribute_shape, shaped, member_value_at, first_without, values_at}
use Rattle.cpe_records.specs.Names.{lowered, of_object, object_name, name_of_data, is_written, at_spot, named_in, all_written}
use Rattle.cpe_records.specs.declared.format.Format.TheVariants.{Two}
use Rattle.cpe_records.specs.declared.member.Member.{Member}
use Rattle.cpe_records.specs.declared.member.Member.TheVariants as member
use Rattle.cpe_records.specs.declared.member.NameSpot.{NameSpot}
use Rattle.cpe_records.specs.declared.member.RecordFault.TheVariants as fault
use Rattle.record_writer.specs.Written.{items_by}
use Rattle.record_writer.specs.NameObject.{name_object}
use Rattle.record_writer.proofs.ReadBack.{data_of, data_items}
use Rattle.record_writer.proofs.NameObjects.{part, part_is}
use Rattle.record_writer.proofs.ProvenanceForms.{all_read}

-- lemma: each attribute of a well-formed name may have its value
shape_is : (w : Values) → IsName w → (a : Attribute) → has_attribute_shape a (value_of w a) ≡ true
shape_is w h Part = h.0.1
shape_is w h Language = h.1.1.1.1.1.1.0.1
shape_is w h Vendor = refl
shape_is w h Product = refl
shape_is w h Version = refl
shape_is w h Update = refl
shape_is w h Edition = refl
shape_is w h SwEdition = refl
shape_is w h TargetSw = refl
shape_is w h TargetHw = refl
shape_is w h Other = refl

is_value : (w : Values) → IsName w → (a : Attribute) → IsValue (value_of w a)
is_value w h Part = h.0.0
is_value w h Vendor = h.1.0
is_value w h Product = h.1.1.0
is_value w h Version = h.1.1.1.0
is_value w h Update = h.1.1.1.1.0
is_value w h Edition = h.1.1.1.1.1.0
is_value w h Language = h.1.1.1.1.1.1.0.0
is_value w h SwEdition = h.1.1.1.1.1.1.1.0
is_value w h TargetSw = h.1.1.1.1.1.1.1.1.0
is_value w h TargetHw = h.1.1.1.1.1.1.1.1.1.0
is_value w h Other = h.1.1.1.1.1.1.1.1.1.1.0

-- the reader of components reads each component as its value
abbrev pub ReadsComponents : Type 0
ReadsComponents = (v : Value) (s : List ℕ) → HasComponent v s → read_component s ≡ Some v

component_read : ReadsComponents → (v : Value) → IsValue v → or_default value.Any component_in (part v) ≡ Some v
component_read reads value.Any h = refl
component_read reads value.Na h = reads value.Na (fs_component value.Na) (h, refl)
component_read reads (value.Text t) h = reads (value.Text t) (fs_component (value.Text t)) (h, refl)

value_read : ReadsComponents → (w : Values) → IsName w → (a : Attribute) → member_value_at (data_of (name_object w)) a ≡ Some (value_of w a)
value_read reads w h a =
    ap (λ o. option_and_then (shaped a) (or_default value.Any component_in o)) (part_is w a)
    ∙ (ap (option_and_then (shaped a)) (component_read reads (value_of w a) (is_value w h a)) ∙ ap (λ b. if b then Some (value_of w a) else None) (shape_is w h a))

lowered_is : (w : Values) → is_lower w ≡ true → lowered w ≡ w
unfolding lowered
lowered_is w h = (is_lower_is w).0 h

module _ (reads : ReadsComponents) (w : Values) (name : IsName w) (lower : is_lower w ≡ true) where
  abbrev object : Data
  object = data_of (name_object w)

  values : member_value_at object ≡ (λ a. Some (value_of w a))
  values = λ i a. value_read reads w name a i

  none_without : first_without object ≡ None
  none_without = ap (λ (f : Attribute → Option Value). find (λ a. is_none (f a)) attributes) values

  all_values : values_at object ≡ w
  all_values = ap (λ (f : Attribute → Option Value). named (map (λ a. unwrap_or (f a) value.Any) attributes)) values

  object_read : object_name object ≡ Ok w
  unfolding object_name
  object_read = (λ i. of_object (none_without i) (all_values i)) ∙ ap Ok (lowered_is w lower)

  pub name_read : name_of_data Two object ≡ Some (Ok w)
  unfolding name_object
  name_read = ap (λ r. Some r) object_read

  pub named_read : (m : Member) (s : NameSpot) → named_in Two m s object ≡ Ok w
  named_read m s = ap (λ o. required_member m o >>= at_spot s) name_read

  written : is_written Two object ≡ true
  unfolding is_written
  written = ap is_some name_read

-- ---- names one after another

module _ (reads : ReadsComponents) where
  are_written : (ws : List Values) → All IsName ws → list_all is_lower ws ≡ true → list_all (is_written Two) (list_of_items (data_items (items_by name_object ws))) ≡ true
  are_written [] h k = refl
  are_written (w ∷ ws) h k =
      let p = and_parts (is_lower w) (list_all is_lower ws) k in
      and_from _ _ (written reads w (All-head IsName w ws h) p.0) (are_written ws (All-tail IsName w ws h) p.1)

  each_read : (f : ℕ → NameSpot) (m : Member) (ws : List Values) → All IsName ws → list_all is_lower ws ≡ true → AllByRecursion (λ w. (k : ℕ) → named_in Two m (f k) (data_of (name_object w)) ≡ Ok w) ws
  each_read f m [] h k = tt
  each_read f m (w ∷ ws) h k =
      let p = and_parts (is_lower w) (list_all is_lower ws) k in
      (λ n. named_read reads w (All-head IsName w ws h) p.0 m (f n), each_read f m ws (All-tail IsName w ws h) p.1)

  pub names_read : (f : ℕ → NameSpot) (m : Member) (ws : List Values) → All IsName ws → list_all is_lower ws ≡ true
      → (all_written Two (list_of_items (data_items (items_by name_object ws))) >>= all_from (λ k. named_in Two m (f k)) 1) ≡ Ok ws
  names_read f m ws h k =
      let ds = list_of_items (data_items (items_by name_object ws)) in
      ap (λ b. (if b then Ok ds else Err (fault.Member member.Successors)) >>= all_from (λ k. named_in Two m (f k)) 1) (are_written ws h k)
      ∙ all_read (λ k. named_in Two m (f k)) name_object ws (each_read f m ws h k) 1
