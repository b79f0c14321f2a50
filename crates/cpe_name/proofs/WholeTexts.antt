-- Lemmas: the whole text of a name is read exactly.
use Rattle.std.proofs.Common.{◌≡◌, ℕ, ◌+◌, ◌-◌, ◌≤◌, Bool, true, false, cond, List, [], ◌∷◌, ◌++◌, length, take, map, Option, Some, None, IfSome, refl, sym, ap, subst, ◌∙◌, inl, inr, append_assoc, arith, length-append}
use Rattle.std.specs.Prelude.{codes}
use Rattle.std.specs.List.{flat_map, AllByRecursion, IsDistinct}
use Rattle.std.proofs.lemmas.List.{append-nil, take_at}
use Rattle.std.proofs.lemmas.Bool.{cases_Bool, eqb-true, or_cases, or_left, or_right, both_ways}
use Rattle.cpe_values.specs.declared.value.Value.{Value}
use Rattle.cpe_values.specs.declared.value.Value.TheVariants as value
use Rattle.cpe_values.specs.declared.spelling.Style.TheVariants as style
use Rattle.cpe_values.specs.Values.{IsValue}
use Rattle.cpe_values.specs.Spelling.{spelling}
use Rattle.cpe_values.specs.Unspelling.{parts_at}
use Rattle.cpe_values.proofs.Unspelled.{parts_are}
use Rattle.name_grammar.specs.Scanners.{literal}
use Rattle.cpe_name.specs.Eleven.{Values, Written}
use Rattle.cpe_name.specs.declared.name.NameFault.{NameFault}
use Rattle.cpe_name.specs.declared.name.NameFault.TheVariants.{BadPart, BadLanguage}
use Rattle.cpe_name.specs.declared.attribute.Attribute.{Attribute}
use Rattle.cpe_name.specs.declared.attribute.Attribute.TheVariants.{Part, Vendor, Product, Version, Update, Edition, Language, SwEdition, TargetSw, TargetHw, Other}
use Rattle.cpe_name.specs.Names.{named, attributes, value_of, Suits, IsName, IsFault}
use Rattle.cpe_name.specs.Text.{attribute_name, value_text, output_text}
use Rattle.cpe_name.specs.WfnText.{same_attribute, is_listed, tag_names, later_text, list_text, WfnText, IsWfnText}
use Rattle.cpe_name.specs.Spans.{texts, or_any, AreWritten}
use Rattle.cpe_name.specs.Unwriting.{IsAnyText, inner, value_from}
use Rattle.cpe_name.specs.Scanning.{FindsView, after_at, slot, none_given, is_some_text, list_at, is_text_end, list_or_end, all_at}
use Rattle.cpe_name.proofs.Items.{found, some_is, none≢some, went_on, chosen, after_reads, IsSlot, good_of}
use Rattle.cpe_name.proofs.Lists.{same_is, by, slot_by, alike_by, given_length, value_some, list_by, later_by, AreNew, AreSlots, list_reads, AreTexts, Fits, list_again, few_items, all_listed}

-- ---- a name from the texts of its values

values_by : (Attribute → Value) → Values
values_by f = named (map f attributes)

value_by : (f : Attribute → Value) (a : Attribute) → value_of (values_by f) a ≡ f a
unfolding values_by
value_by f Part = refl
value_by f _ = refl

-- a name made from a value for each attribute has these values
pub value_named : (f : Attribute → Value) (a : Attribute) → value_of (named (map f attributes)) a ≡ f a
unfolding values_by
value_named f a = value_by f a

-- a value that suits the attribute and has this text; an empty text means ANY
record Has (a : Attribute) (u : List ℕ) : Type 0 where
  value : Value
  suits : Suits a value
  is : or_any u ≡ value_text value

pub any_suits : (a : Attribute) → Suits a value.Any
any_suits Part = (tt, refl)
any_suits Language = (tt, refl)
any_suits Vendor = tt
any_suits Product = tt
any_suits Version = tt
any_suits Update = tt
any_suits Edition = tt
any_suits SwEdition = tt
any_suits TargetSw = tt
any_suits TargetHw = tt
any_suits Other = tt

some_same : (u : List ℕ) → is_some_text u ≡ true → or_any u ≡ u
some_same [] h = absurd cc
some_same (c ∷ u) h = refl

slot_has : (a : Attribute) (u : List ℕ) → IsSlot a u → Has a u
slot_has a u s = record { value = s.value; suits = s.suits; is = some_same u (ap is_some_text s.is ∙ value_some s.value) ∙ s.is }

member : (P : Attribute → Type 0) (a : Attribute) (bs : List Attribute) → AllByRecursion P bs → is_listed a bs ≡ true → P a
member P a [] all h = absurd cc
member P a (b ∷ bs) all h =
    elim (or_cases (same_attribute a b) (is_listed a bs) h) [
      | inl same ↦ subst P (sym (same_is a b same)) all.0
      | inr more ↦ member P a bs all.1 more
    ]

-- each attribute has a value that suits it, whether it was given or not
has_any : (m : List (List ℕ)) (which : List Attribute) → AreSlots m which → ((b : Attribute) → is_listed b which ≡ false → slot m b ≡ []) → (a : Attribute) → Has a (slot m a)
has_any m which slots kept a =
    elim (cases_Bool (is_listed a which)) [
      | inl h ↦ slot_has a (slot m a) (member (λ b. IsSlot b (slot m b)) a which slots h)
      | inr h ↦ record { value = value.Any; suits = any_suits a; is = ap or_any (kept a h) }
    ]

-- ---- the value of a text

inner_is : (x : List ℕ) → inner (34 ∷ (x ++ 34 ∷ [])) ≡ x
inner_is x =
    let long : length (34 ∷ (x ++ 34 ∷ [])) - 1 - 1 ≡ length x = omega (arith, length-append x (34 ∷ [])) in
    ap (λ (n : ℕ). take n (x ++ 34 ∷ [])) long ∙ take_at x (34 ∷ []) (length x) refl

-- the value of a value's text is this value
value_back : (v : Value) → IsValue v → value_from (value_text v) ≡ v
value_back value.Any good = refl
value_back value.Na good = refl
value_back (value.Text t) good = ap (λ (u : List ℕ). value.Text (parts_at u)) (inner_is (spelling style.Wfn t)) ∙ ap value.Text (parts_are style.Wfn t (spelling style.Wfn t) good refl)

from_any : (u : List ℕ) → value_from u ≡ value_from (or_any u)
from_any [] = refl
from_any (c ∷ u) = refl

-- the value of a text, which may be empty for ANY, is found
pub value_found : (v : Value) (u : List ℕ) → IsValue v → or_any u ≡ value_text v → value_from u ≡ v
value_found v u good is = from_any u ∙ ap value_from is ∙ value_back v good

-- a function of texts agrees with a function of values on the text of a value, if both agree on each text and on ANY
pub made_of_value : (from : List ℕ → List ℕ) (made : Value → List ℕ) → from [] ≡ made value.Any → ((w : Value) → from (value_text w) ≡ made w) → (u : List ℕ) (v : Value) → IsValue v → or_any u ≡ value_text v → from u ≡ made v
made_of_value from made none each [] v good is = none ∙ ap made (value_found v [] good is)
made_of_value from made none each (c ∷ u) v good is = ap from is ∙ each v

by_same : (f g : Attribute → List ℕ) (rest : List (Attribute × ℕ)) → AllByRecursion (λ b. f b ≡ g b) (tag_names rest) → flat_map (later_by f) rest ≡ flat_map (later_by g) rest
by_same f g [] h = refl
by_same f g (i ∷ rest) h = rw (h.0, by_same f g rest h.1) refl

list_same : (f g : Attribute → List ℕ) (items : List (Attribute × ℕ)) → AllByRecursion (λ b. f b ≡ g b) (tag_names items) → list_by f items ≡ list_by g items
list_same f g [] h = refl
list_same f g (i ∷ rest) h = rw (h.0, by_same f g rest h.1) refl

-- ---- a text that is read is a text of a name

pub record Read (s : List ℕ) (m : List (List ℕ)) : Type 0 where
  pub name : Values
  pub has : WfnText name s
  pub are : map or_any (by (slot m)) ≡ map (λ a. value_text (value_of name a)) attributes
  pub within : given_length m + 6 ≤ length s

module _ (m : List (List ℕ)) (has : (a : Attribute) → Has a (slot m a)) where
  name_of : Values
  name_of = values_by (λ a. (has a).value)

  text_of : (a : Attribute) → or_any (slot m a) ≡ value_text (value_of name_of a)
  unfolding name_of
  text_of a = (has a).is ∙ ap value_text (sym (value_by (λ b. (has b).value) a))

  is_name : IsName name_of
  unfolding name_of values_by
  is_name = ((has Part).suits, ((has Vendor).suits, ((has Product).suits, ((has Version).suits, ((has Update).suits, ((has Edition).suits, ((has Language).suits, ((has SwEdition).suits, ((has TargetSw).suits, ((has TargetHw).suits, ((has Other).suits, tt)))))))))))

  all_texts : map or_any (by (slot m)) ≡ map (λ a. value_text (value_of name_of a)) attributes
  all_texts = alike_by (λ a. or_any (slot m a)) (λ a. value_text (value_of name_of a)) text_of

  given_texts : (which : List Attribute) → AreSlots m which → AllByRecursion (λ b. slot m b ≡ value_text (value_of name_of b)) which
  given_texts [] h = tt
  given_texts (b ∷ bs) h = (sym (some_same (slot m b) (ap is_some_text h.0.is ∙ value_some h.0.value)) ∙ text_of b, given_texts bs h.1)

  absent_any : (a : Attribute) → slot m a ≡ [] → value_of name_of a ≡ value.Any
  unfolding name_of
  absent_any a none = value_by (λ b. (has b).value) a ∙ sym (value_found (has a).value (slot m a) (good_of a (has a).value (has a).suits) (has a).is) ∙ ap value_from none

end_is : (r : List ℕ) → is_text_end r ≡ true → r ≡ 93 ∷ []
end_is [] h = absurd cc
end_is (c ∷ []) h = ap (λ (z : ℕ). z ∷ []) (eqb-true c 93 h)
end_is (c ∷ d ∷ r) h = absurd cc

none_slot : (a : Attribute) → slot none_given a ≡ []
none_slot a = slot_by (λ _. []) a

read_items : (s r : List ℕ) (m : List (List ℕ)) (items : List (Attribute × ℕ)) → IsDistinct same_attribute (tag_names items) → AreSlots m (tag_names items) → ((b : Attribute) → is_listed b (tag_names items) ≡ false → slot m b ≡ [])
    → s ≡ codes "wfn:[" ++ r → r ≡ list_by (slot m) items ++ 93 ∷ [] → given_length m + 1 ≤ length r → Read s m
read_items s r m items once slots kept is text long =
    let has = has_any m (tag_names items) slots kept in record {
      name = name_of m has;
      has = record {
        name = is_name m has;
        items = items;
        once = once;
        absent = λ a none. absent_any m has a (kept a none);
        text = is ∙ ap (λ (u : List ℕ). codes "wfn:[" ++ u) (text ∙ ap (λ (u : List ℕ). u ++ 93 ∷ []) (list_same (slot m) (λ b. value_text (value_of (name_of m has) b)) items (given_texts m has (tag_names items) slots)));
      };
      are = all_texts m has;
      within = omega (arith, long, ap length is, length-append (codes "wfn:[") r);
    }

read_behind : (s r : List ℕ) (m : List (List ℕ)) → s ≡ codes "wfn:[" ++ r → list_or_end r ≡ Some m → Read s m
unfolding IsDistinct
read_behind s r m is e =
    elim (chosen (is_text_end r) (found none_given) (list_at 11 none_given r) (found m) e) [
      | inl h ↦ subst (Read s) (some_is none_given m h.1) (read_items s r none_given [] tt tt (λ b none. none_slot b) is (end_is r h.0) (omega (arith, ap length (end_is r h.0))))
      | inr h ↦
          let so = list_reads 11 none_given m r h.1 in
          read_items s r m ((so.first, 0) ∷ so.rest) so.once so.slots (λ b none. so.kept b none ∙ none_slot b) is so.text (omega (arith, so.long))
    ]

pub all_reads : (s : List ℕ) (m : List (List ℕ)) → all_at s ≡ Some m → Read s m
unfolding all_at
all_reads s m e =
    let a = went_on (after_at (codes "wfn:[") s) list_or_end m e in
    read_behind s a.0 m (after_reads (codes "wfn:[") s a.0 a.1) a.2

-- ---- a text of a name is read

-- the texts of the values of the given attributes, and an empty text for each other attribute
given : Values → List Attribute → Attribute → List ℕ
given w which b = cond (is_listed b which) (value_text (value_of w b)) []

given_are : (w : Values) (all which : List Attribute) → ((b : Attribute) → is_listed b which ≡ true → is_listed b all ≡ true) → AreTexts w (by (given w all)) which
unfolding given
given_are w all [] h = tt
given_are w all (b ∷ bs) h =
    let here : is_listed b all ≡ true = h b (or_left _ _ (same b)) in
    (slot_by (given w all) b ∙ rw here refl, given_are w all bs (λ d k. h d (or_right _ _ k))) where
      same : (a : Attribute) → same_attribute a a ≡ true
      same Part = refl
      same Vendor = refl
      same Product = refl
      same Version = refl
      same Update = refl
      same Edition = refl
      same Language = refl
      same SwEdition = refl
      same TargetSw = refl
      same TargetHw = refl
      same Other = refl

given_fits : (w : Values) (which : List Attribute) → Fits which none_given (by (given w which))
unfolding given
given_fits w which b h = none_slot b ∙ sym (slot_by (given w which) b ∙ rw h refl)

none_new : (which : List Attribute) → AreNew none_given which
none_new [] = tt
none_new (b ∷ bs) = (ap is_some_text (none_slot b), none_new bs)

-- the texts that are read are those of the name's values
pub record Again (w : Values) (s : List ℕ) : Type 0 where
  pub given : List (List ℕ)
  pub at : all_at s ≡ Some given
  pub whole : by (slot given) ≡ given
  pub are : (a : Attribute) → or_any (slot given a) ≡ value_text (value_of w a)

again_text : (w : Values) (s : List ℕ) (t : WfnText w s) (a : Attribute) → or_any (slot (by (given w (tag_names t.items))) a) ≡ value_text (value_of w a)
unfolding given
again_text w s t a =
    elim (cases_Bool (is_listed a (tag_names t.items))) [
      | inl h ↦
          let is : slot (by (given w (tag_names t.items))) a ≡ value_text (value_of w a) = slot_by (given w (tag_names t.items)) a ∙ rw h refl in
          ap or_any is ∙ some_same (value_text (value_of w a)) (value_some (value_of w a))
      | inr h ↦
          let is : slot (by (given w (tag_names t.items))) a ≡ [] = slot_by (given w (tag_names t.items)) a ∙ rw h refl in
          ap or_any is ∙ ap value_text (sym (t.absent a h))
    ]

not_end : (a : Attribute) (s : List ℕ) → is_text_end (attribute_name a ++ s) ≡ false
not_end Part s = refl
not_end Vendor s = refl
not_end Product s = refl
not_end Version s = refl
not_end Update s = refl
not_end Edition s = refl
not_end Language s = refl
not_end SwEdition s = refl
not_end TargetSw s = refl
not_end TargetHw s = refl
not_end Other s = refl

tail_is : (p q r t : List ℕ) → ((p ++ q) ++ r) ++ t ≡ p ++ ((q ++ r) ++ t)
tail_is p q r t = simp append_assoc

list_found : (w : Values) (items : List (Attribute × ℕ)) → IsName w → IsDistinct same_attribute (tag_names items) → list_or_end (list_text w items ++ 93 ∷ []) ≡ Some (by (given w (tag_names items)))
unfolding given IsDistinct
list_found w [] name once = refl
list_found w (i ∷ rest) name once =
    let is = tail_is (attribute_name i.0) (61 ∷ value_text (value_of w i.0)) (flat_map (later_text w) rest) (93 ∷ []) in
    let other : is_text_end (list_text w (i ∷ rest) ++ 93 ∷ []) ≡ false = ap is_text_end is ∙ not_end i.0 (((61 ∷ value_text (value_of w i.0)) ++ flat_map (later_text w) rest) ++ 93 ∷ []) in
    let which = tag_names (i ∷ rest) in
    ap (λ (b : Bool). cond b (found none_given) (list_at 11 none_given (list_text w (i ∷ rest) ++ 93 ∷ []))) other
    ∙ list_again rest 11 none_given (by (given w which)) w i.0 (few_items i rest once) name refl (given_are w which which (λ b h. h)) (none_new which) once (given_fits w which)

pub all_again : (w : Values) (s : List ℕ) → WfnText w s → Again w s
unfolding all_at after_at literal
all_again w s t = record {
  given = by (given w (tag_names t.items));
  at = ap all_at t.text ∙ list_found w t.items t.name t.once;
  whole = refl;
  are = again_text w s t;
}

-- ---- names

-- each value of a name is lawful
pub good_value : (w : Values) (a : Attribute) → IsName w → IsValue (value_of w a)
good_value w Part n = n.0.0
good_value w Vendor n = n.1.0
good_value w Product n = n.1.1.0
good_value w Version n = n.1.1.1.0
good_value w Update n = n.1.1.1.1.0
good_value w Edition n = n.1.1.1.1.1.0
good_value w Language n = n.1.1.1.1.1.1.0.0
good_value w SwEdition n = n.1.1.1.1.1.1.1.0
good_value w TargetSw n = n.1.1.1.1.1.1.1.1.0
good_value w TargetHw n = n.1.1.1.1.1.1.1.1.1.0
good_value w Other n = n.1.1.1.1.1.1.1.1.1.1.0

named_alike : (f g : Attribute → Value) → ((a : Attribute) → f a ≡ g a) → named (map f attributes) ≡ named (map g attributes)
named_alike f g h = rw (h Part, h Vendor, h Product, h Version, h Update, h Edition, h Language, h SwEdition, h TargetSw, h TargetHw, h Other) refl

-- the values of the texts of a name are the values of the name
pub name_back : (w : Values) (m : List (List ℕ)) → IsName w → ((a : Attribute) → or_any (slot m a) ≡ value_text (value_of w a)) → named (map value_from (by (slot m))) ≡ w
name_back w m name are = named_alike (λ a. value_from (slot m a)) (value_of w) (λ a. value_found (value_of w a) (slot m a) (good_value w a name) (are a))

-- each text is that of the attribute's value, if all texts are those of the values
pub each_text : (w : Values) (m : List (List ℕ)) → map or_any (by (slot m)) ≡ map (λ a. value_text (value_of w a)) attributes → (a : Attribute) → or_any (slot m a) ≡ value_text (value_of w a)
each_text w m are a = sym (slot_by (λ b. or_any (slot m b)) a) ∙ ap (λ (l : List (List ℕ)). slot l a) are ∙ slot_by (λ b. value_text (value_of w b)) a

-- two names with the same text are equal
pub one_name : (v w : Values) (s : List ℕ) → WfnText v s → WfnText w s → v ≡ w
one_name v w s a b =
    let x = all_again v s a in
    let y = all_again w s b in
    let same : x.given ≡ y.given = some_is x.given y.given (sym x.at ∙ y.at) in
    sym (name_back v x.given a.name x.are) ∙ ap (λ (m : List (List ℕ)). named (map value_from (by (slot m)))) same ∙ name_back w y.given b.name y.are

-- ---- what the code finds

pub found_is : (r : Option Written) (s : List ℕ) → FindsView texts r (all_at s) → IfSome r (AreWritten s)
found_is (Some t) s e = let so = all_reads s (texts t) e in record { name = so.name; has = so.has; are = so.are; within = so.within }
found_is None s e = tt

pub refused_is : (r : Option Written) (s : List ℕ) → FindsView texts r (all_at s) → r ≡ None → IsWfnText s → ⊥
refused_is (Some t) s e none is = absurd (none≢some t (sym none))
refused_is None s e none is = let so = all_again is.0 s is.1 in none≢some so.given (sym e ∙ so.at)

-- each text is that of a value, or empty
pub texts_are : (s : List ℕ) (t : Written) → AreWritten s t → AllByRecursion IsAnyText (texts t)
texts_are s t are =
    let each = each_text are.name (texts t) are.are in
    let good = λ (a : Attribute). good_value are.name a are.has.name in
    (record { value = are.name.part; good = good Part; is = each Part }, (record { value = are.name.vendor; good = good Vendor; is = each Vendor }, (record { value = are.name.product; good = good Product; is = each Product }, (record { value = are.name.version; good = good Version; is = each Version }, (record { value = are.name.update; good = good Update; is = each Update }, (record { value = are.name.edition; good = good Edition; is = each Edition }, (record { value = are.name.language; good = good Language; is = each Language }, (record { value = are.name.sw_edition; good = good SwEdition; is = each SwEdition }, (record { value = are.name.target_sw; good = good TargetSw; is = each TargetSw }, (record { value = are.name.target_hw; good = good TargetHw; is = each TargetHw }, (record { value = are.name.other; good = good Other; is = each Other }, tt)))))))))))

-- the values of the texts are the values of the name
pub values_are : (s : List ℕ) (t : Written) (are : AreWritten s t) → named (map value_from (texts t)) ≡ are.name
values_are s t are = name_back are.name (texts t) are.has.name (each_text are.name (texts t) are.are)

-- a name has no fault
pub no_fault : (f : NameFault) (w : Values) → IsName w → IsFault f w → ⊥
no_fault BadPart w good h = both_ways _ h good.0.1
no_fault BadLanguage w good h = both_ways _ h.1 good.1.1.1.1.1.1.0.1

-- ---- the output text

pub output_is : (w : Values) → IsName w → WfnText w (output_text w)
unfolding IsDistinct
output_is w name = record {
  name = name;
  items = map (λ a. (a, 0)) attributes;
  once = ((refl, (refl, (refl, (refl, (refl, (refl, (refl, (refl, (refl, (refl, tt)))))))))), ((refl, (refl, (refl, (refl, (refl, (refl, (refl, (refl, (refl, tt))))))))), ((refl, (refl, (refl, (refl, (refl, (refl, (refl, (refl, tt)))))))), ((refl, (refl, (refl, (refl, (refl, (refl, (refl, tt))))))), ((refl, (refl, (refl, (refl, (refl, (refl, tt)))))), ((refl, (refl, (refl, (refl, (refl, tt))))), ((refl, (refl, (refl, (refl, tt)))), ((refl, (refl, (refl, tt))), ((refl, (refl, tt)), ((refl, tt), (tt, tt)))))))))));
  absent = λ a none. absurd (both_ways _ none (all_listed a));
  text = rw (append-nil (value_text w.other)) refl;
}
