-- Lemmas about the members of a name's object.
use Rattle.std.proofs.Common.{◌≡◌, ℕ, suc, List, [], ◌∷◌, Bool, true, false, if◌then◌else◌, Option, Some, None, bytes_eq, refl, ap, sym, ◌∙◌, subst, true≢false}
use Rattle.std.proofs.lemmas.Slice.Eq.{bytes_eq-Decides}
use Rattle.json.specs.Json as json
use Rattle.serde_json.specs.Data.{Data, string, Members, no_members, put}
use Rattle.serde_json.specs.Find.{get, get_member}
use Rattle.serde_json.proofs.Views.{get_member-put, get_member-put_other}
use Rattle.cpe_rows.specs.cpe_values.declared.value.Value.{Value}
use Rattle.cpe_rows.specs.cpe_name.Eleven.{Values}
use Rattle.cpe_rows.specs.cpe_name.declared.attribute.Attribute.{Attribute}
use Rattle.cpe_rows.specs.cpe_name.declared.attribute.Attribute.TheVariants.{Part, Vendor, Product, Version, Update, Edition, Language, SwEdition, TargetSw, TargetHw, Other}
use Rattle.cpe_rows.specs.cpe_name.Names.{value_of}
use Rattle.cpe_rows.specs.cpe_name.Text.{attribute_name}
use Rattle.cpe_records.specs.cpe_uri.Canon.{is_any_component}
use Rattle.cpe_fs.specs.Grammar.{fs_component}
use Rattle.record_writer.specs.NameObject.{sorted_attributes, with_values, name_object}
use Rattle.record_writer.proofs.ReadBack.{data_of, data_members, fits, fit_members}

fits_one : (n : ℕ) (b : Bool) (k s : List ℕ) (rest : json.Members) → fit_members n rest ≡ true → fit_members n (if b then rest else json.member k (json.string s) rest) ≡ true
fits_one n true k s rest h = h
fits_one n false k s rest h = h

fit_values : (n : ℕ) (w : Values) (which : List Attribute) → fit_members n (with_values w which) ≡ true
fit_values n w [] = refl
fit_values n w (a ∷ more) = fits_one n (is_any_component (value_of w a)) (attribute_name a) (fs_component (value_of w a)) (with_values w more) (fit_values n w more)

-- lemma: the object of a name has no numbers, and no array or object inside
pub fits-name_object : (n : ℕ) (w : Values) → fits (suc n) (name_object w) ≡ true
unfolding name_object
fits-name_object n w = fit_values n w sorted_attributes

-- the component of a value, unless the value is ANY
abbrev pub part : Value → Option Data
part v = if is_any_component v then None else Some (string (fs_component v))

-- the data at a key after the members of these attributes were added; `before` is the data at the key before that
abbrev part_among : List ℕ → Values → List Attribute → Option Data → Option Data
part_among k w [] before = before
part_among k w (a ∷ more) before = part_among k w more (if bytes_eq k (attribute_name a) then (if is_any_component (value_of w a) then before else Some (string (fs_component (value_of w a)))) else before)

put_one : (same any : Bool) (k l s : List ℕ) (found : Members) → bytes_eq k l ≡ same
    → get_member k (if any then found else put l (string s) found) ≡ (if same then (if any then get_member k found else Some (string s)) else get_member k found)
put_one true true k l s found is = refl
put_one false true k l s found is = refl
put_one true false k l s found is = subst (λ q. get_member k (put q (string s) found) ≡ Some (string s)) ((bytes_eq-Decides k l).0 is) (get_member-put k (string s) found)
put_one false false k l s found is = get_member-put_other k l (string s) found (λ same. true≢false (sym ((bytes_eq-Decides k l).1 same) ∙ is))

members_one : (any : Bool) (l s : List ℕ) (rest : json.Members) (found : Members)
    → data_members (if any then rest else json.member l (json.string s) rest) found ≡ data_members rest (if any then found else put l (string s) found)
members_one true l s rest found = refl
members_one false l s rest found = refl

members_among : (k : List ℕ) (w : Values) (which : List Attribute) (found : Members) → get_member k (data_members (with_values w which) found) ≡ part_among k w which (get_member k found)
members_among k w [] found = refl
members_among k w (a ∷ more) found =
    let any = is_any_component (value_of w a) in
    let l = attribute_name a in
    let s = fs_component (value_of w a) in
    ap (get_member k) (members_one any l s (with_values w more) found)
    ∙ members_among k w more (if any then found else put l (string s) found)
    ∙ ap (part_among k w more) (put_one (bytes_eq k l) any k l s found refl)

-- lemma: at an attribute's key, the object has the component of its value; if the value is ANY, the key is absent
pub part_is : (w : Values) (a : Attribute) → get (attribute_name a) (data_of (name_object w)) ≡ part (value_of w a)
unfolding name_object
part_is w Part = members_among (attribute_name Part) w sorted_attributes no_members
part_is w Vendor = members_among (attribute_name Vendor) w sorted_attributes no_members
part_is w Product = members_among (attribute_name Product) w sorted_attributes no_members
part_is w Version = members_among (attribute_name Version) w sorted_attributes no_members
part_is w Update = members_among (attribute_name Update) w sorted_attributes no_members
part_is w Edition = members_among (attribute_name Edition) w sorted_attributes no_members
part_is w Language = members_among (attribute_name Language) w sorted_attributes no_members
part_is w SwEdition = members_among (attribute_name SwEdition) w sorted_attributes no_members
part_is w TargetSw = members_among (attribute_name TargetSw) w sorted_attributes no_members
part_is w TargetHw = members_among (attribute_name TargetHw) w sorted_attributes no_members
part_is w Other = members_among (attribute_name Other) w sorted_attributes no_members
