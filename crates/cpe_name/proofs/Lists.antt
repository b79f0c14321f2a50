-- Lemmas: a list of attributes is read exactly.
use Rattle.std.proofs.Common.{◌≡◌, ℕ, zero, suc, ◌+◌, ◌<◌, ◌≤◌, Bool, true, false, cond, eqb, List, [], ◌∷◌, ◌++◌, length, map, get_or, Option, Some, None, refl, sym, ap, subst, ◌∙◌, inl, inr, append_assoc, arith, replicate, length-append}
use Rattle.std.specs.Cmp.{IsEquivalence}
use Rattle.std.specs.List.{flat_map, AllByRecursion, IsDistinct}
use Rattle.std.proofs.lemmas.List.{append-nil}
use Rattle.std.proofs.lemmas.Map.Made.{length-le_from_is_member}
use Rattle.std.proofs.lemmas.Bool.{cases_Bool, eqb-true, eq-eqb, or_parts, or_from, both_ways}
use Rattle.cpe_values.specs.declared.value.Value.{Value}
use Rattle.cpe_values.specs.declared.value.Value.TheVariants as value
use Rattle.cpe_name.specs.Eleven.{Values}
use Rattle.cpe_name.specs.declared.attribute.Attribute.{Attribute}
use Rattle.cpe_name.specs.declared.attribute.Attribute.TheVariants.{Part, Vendor, Product, Version, Update, Edition, Language, SwEdition, TargetSw, TargetHw, Other}
use Rattle.cpe_name.specs.Names.{attributes, value_of, Suits, IsName}
use Rattle.cpe_name.specs.Text.{attribute_name, value_text, attribute_text}
use Rattle.cpe_name.specs.WfnText.{attribute_rank, same_attribute, is_listed, tag_names, later_text, list_text}
use Rattle.cpe_name.specs.Spans.{total_length}
use Rattle.cpe_name.specs.Scanning.{◌>>?◌, item_at, next_at, slot, put_text, is_some_text, step_at, go_on, list_at}
use Rattle.cpe_name.proofs.Items.{found, some_is, none≢some, went_on, chosen, IsSlot, item_text, item_reads, item_again, NextRead, next_reads, next_again, next_end}

-- ---- attributes

same_refl : (a : Attribute) → same_attribute a a ≡ true
same_refl a = eq-eqb (attribute_rank a) (attribute_rank a) refl

same_symm : (a b : Attribute) → same_attribute a b ≡ same_attribute b a
same_symm a b = both_ways_of (same_attribute a b) (same_attribute b a) (λ h. eq-eqb _ _ (sym (eqb-true _ _ h))) (λ h. eq-eqb _ _ (sym (eqb-true _ _ h))) where
  both_ways_of : (x y : Bool) → (x ≡ true → y ≡ true) → (y ≡ true → x ≡ true) → x ≡ y
  both_ways_of true y f g = sym (f refl)
  both_ways_of false true f g = g refl
  both_ways_of false false f g = refl

same_equivalence : IsEquivalence same_attribute
same_equivalence = record { refl = same_refl; symm = same_symm; congr = λ x y z h. ap (λ (n : ℕ). eqb n (attribute_rank z)) (eqb-true (attribute_rank x) (attribute_rank y) h) }

of_rank : ℕ → Attribute
of_rank n = get_or attributes n Other

of_rank_is : (a : Attribute) → of_rank (attribute_rank a) ≡ a
unfolding of_rank
of_rank_is Part = refl
of_rank_is Vendor = refl
of_rank_is Product = refl
of_rank_is Version = refl
of_rank_is Update = refl
of_rank_is Edition = refl
of_rank_is Language = refl
of_rank_is SwEdition = refl
of_rank_is TargetSw = refl
of_rank_is TargetHw = refl
of_rank_is Other = refl

-- attributes with the same number are the same
pub same_is : (a b : Attribute) → same_attribute a b ≡ true → a ≡ b
same_is a b h = sym (of_rank_is a) ∙ ap of_rank (eqb-true (attribute_rank a) (attribute_rank b) h) ∙ of_rank_is b

-- ---- texts by attribute

abbrev pub by : (Attribute → List ℕ) → List (List ℕ)
by f = map f attributes

pub slot_by : (f : Attribute → List ℕ) (a : Attribute) → slot (by f) a ≡ f a
slot_by f Part = refl
slot_by f Vendor = refl
slot_by f Product = refl
slot_by f Version = refl
slot_by f Update = refl
slot_by f Edition = refl
slot_by f Language = refl
slot_by f SwEdition = refl
slot_by f TargetSw = refl
slot_by f TargetHw = refl
slot_by f Other = refl

pub alike_by : (f g : Attribute → List ℕ) → ((a : Attribute) → f a ≡ g a) → by f ≡ by g
alike_by f g h = rw (h Part, h Vendor, h Product, h Version, h Update, h Edition, h Language, h SwEdition, h TargetSw, h TargetHw, h Other) refl

put_same : (l : List (List ℕ)) (a : Attribute) (u : List ℕ) → slot (put_text l a u) a ≡ u
put_same l a u = slot_by (λ c. cond (same_attribute a c) u (slot l c)) a ∙ rw (same_refl a) refl

put_other : (l : List (List ℕ)) (a b : Attribute) (u : List ℕ) → same_attribute a b ≡ false → slot (put_text l a u) b ≡ slot l b
put_other l a b u h = slot_by (λ c. cond (same_attribute a c) u (slot l c)) b ∙ rw h refl

-- the total length of the texts of the values
abbrev pub given_length : List (List ℕ) → ℕ
given_length l = total_length (by (slot l))

none_long : (u : List ℕ) → is_some_text u ≡ false → length u ≡ 0
none_long [] h = refl
none_long (c ∷ u) h = absurd cc

put_length : (l : List (List ℕ)) (a : Attribute) (u : List ℕ) → length (slot l a) ≡ 0 → given_length (put_text l a u) ≡ given_length l + length u
put_length l Part u h = omega (arith, h)
put_length l Vendor u h = omega (arith, h)
put_length l Product u h = omega (arith, h)
put_length l Version u h = omega (arith, h)
put_length l Update u h = omega (arith, h)
put_length l Edition u h = omega (arith, h)
put_length l Language u h = omega (arith, h)
put_length l SwEdition u h = omega (arith, h)
put_length l TargetSw u h = omega (arith, h)
put_length l TargetHw u h = omega (arith, h)
put_length l Other u h = omega (arith, h)

-- the text of a value is not empty
pub value_some : (v : Value) → is_some_text (value_text v) ≡ true
value_some value.Any = refl
value_some value.Na = refl
value_some (value.Text t) = refl

slot_some : (a : Attribute) (u : List ℕ) → IsSlot a u → is_some_text u ≡ true
slot_some a u s = ap is_some_text s.is ∙ value_some s.value

-- ---- lists of attributes

abbrev pub later_by : (Attribute → List ℕ) → Attribute × ℕ → List ℕ
later_by f i = 44 ∷ (replicate i.1 32 ++ item_text i.0 (f i.0))

abbrev pub list_by : (Attribute → List ℕ) → List (Attribute × ℕ) → List ℕ
list_by f [] = []
list_by f (i ∷ rest) = item_text i.0 (f i.0) ++ flat_map (later_by f) rest

abbrev pub AreNew : List (List ℕ) → List Attribute → Type 0
AreNew l bs = AllByRecursion (λ b. is_some_text (slot l b) ≡ false) bs

abbrev pub AreOthers : Attribute → List Attribute → Type 0
AreOthers a bs = AllByRecursion (λ b. same_attribute a b ≡ false) bs

none_listed : (a : Attribute) (bs : List Attribute) → AreOthers a bs → is_listed a bs ≡ false
none_listed a [] h = refl
none_listed a (b ∷ bs) h = or_from _ _ h.0 (none_listed a bs h.1)

record Split (l : List (List ℕ)) (a : Attribute) (bs : List Attribute) : Type 0 where
  old : AreNew l bs
  new : AreOthers a bs

split_one : (l : List (List ℕ)) (a b : Attribute) (u : List ℕ) → is_some_text u ≡ true → is_some_text (slot (put_text l a u) b) ≡ false → (is_some_text (slot l b) ≡ false) × (same_attribute a b ≡ false)
split_one l a b u some h =
    elim (cases_Bool (same_attribute a b)) [
      | inl same ↦
          let here : slot (put_text l a u) b ≡ u = ap (λ (d : Attribute). slot (put_text l a u) d) (sym (same_is a b same)) ∙ put_same l a u in
          absurd (both_ways (is_some_text u) (ap is_some_text (sym here) ∙ h) some)
      | inr other ↦ (ap is_some_text (sym (put_other l a b u other)) ∙ h, other)
    ]

split : (l : List (List ℕ)) (a : Attribute) (u : List ℕ) (bs : List Attribute) → is_some_text u ≡ true → AreNew (put_text l a u) bs → Split l a bs
split l a u [] some h = record { old = tt; new = tt }
split l a u (b ∷ bs) some h =
    let so = split l a u bs some h.1 in
    let here = split_one l a b u some h.0 in
    record { old = (here.0, so.old); new = (here.1, so.new) }

joined : (l : List (List ℕ)) (a : Attribute) (u : List ℕ) (bs : List Attribute) → AreNew l bs → AreOthers a bs → AreNew (put_text l a u) bs
joined l a u [] old new = tt
joined l a u (b ∷ bs) old new = (ap is_some_text (put_other l a b u new.0) ∙ old.0, joined l a u bs old.1 new.1)

-- ---- a list that is read is a list of a name's text

abbrev pub AreSlots : List (List ℕ) → List Attribute → Type 0
AreSlots m bs = AllByRecursion (λ b. IsSlot b (slot m b)) bs

pub record ListRead (l m : List (List ℕ)) (s : List ℕ) : Type 0 where
  pub first : Attribute
  pub rest : List (Attribute × ℕ)
  pub fresh : AreNew l (first ∷ tag_names rest)
  pub once : IsDistinct same_attribute (first ∷ tag_names rest)
  pub slots : AreSlots m (first ∷ tag_names rest)
  pub kept : (b : Attribute) → is_listed b (first ∷ tag_names rest) ≡ false → slot m b ≡ slot l b
  pub text : s ≡ list_by (slot m) ((first, 0) ∷ rest) ++ 93 ∷ []
  pub long : given_length m + 1 ≤ given_length l + length s

item_is : (m : List (List ℕ)) (a : Attribute) (u : List ℕ) → slot m a ≡ u → item_text a u ≡ item_text a (slot m a)
item_is m a u e = ap (item_text a) (sym e)

item_long : (a : Attribute) (u r s : List ℕ) → s ≡ item_text a u ++ r → length u + length r ≤ length s
item_long a u r s e = omega (arith, ap length e, length-append (item_text a u) r, length-append (attribute_name a) (61 ∷ u))

read_last : (l : List (List ℕ)) (a : Attribute) (u s : List ℕ) → IsSlot a u → is_some_text (slot l a) ≡ false → s ≡ item_text a u ++ 93 ∷ [] → ListRead l (put_text l a u) s
unfolding IsDistinct
read_last l a u s good new text = record {
  first = a;
  rest = [];
  fresh = (new, tt);
  once = (tt, tt);
  slots = (subst (IsSlot a) (sym (put_same l a u)) good, tt);
  kept = λ b h. put_other l a b u (same_symm a b ∙ (or_parts (same_attribute b a) false h).0);
  text = text ∙ ap (λ (w : List ℕ). w ++ 93 ∷ []) (item_is (put_text l a u) a u (put_same l a u) ∙ sym (append-nil (item_text a (slot (put_text l a u) a))));
  long = let more = put_length l a u (none_long (slot l a) new) in let size = item_long a u (93 ∷ []) s text in omega (arith, more, size);
}

regroup : (p q r u : List ℕ) → p ++ 44 ∷ (q ++ ((r ++ u) ++ 93 ∷ [])) ≡ (p ++ ((44 ∷ (q ++ r)) ++ u)) ++ 93 ∷ []
regroup p q r u = simp append_assoc

read_more : (l m : List (List ℕ)) (a : Attribute) (u : List ℕ) (k : ℕ) (s t : List ℕ) → IsSlot a u → is_some_text (slot l a) ≡ false → s ≡ item_text a u ++ 44 ∷ (replicate k 32 ++ t)
    → ListRead (put_text l a u) m t → ListRead l m s
unfolding IsDistinct
read_more l m a u k s t good new text more =
    let so = split l a u (more.first ∷ tag_names more.rest) (slot_some a u good) more.fresh in
    let has : slot m a ≡ u = more.kept a (none_listed a (more.first ∷ tag_names more.rest) so.new) ∙ put_same l a u in
    record {
      first = a;
      rest = (more.first, k) ∷ more.rest;
      fresh = (new, so.old);
      once = (so.new, more.once);
      slots = (subst (IsSlot a) (sym has) good, more.slots);
      kept = λ b h.
          let both = or_parts (same_attribute b a) (is_listed b (more.first ∷ tag_names more.rest)) h in
          more.kept b both.1 ∙ put_other l a b u (same_symm a b ∙ both.0);
      text =
          text ∙ ap (λ (w : List ℕ). w ++ 44 ∷ (replicate k 32 ++ t)) (item_is m a u has)
          ∙ ap (λ (w : List ℕ). item_text a (slot m a) ++ 44 ∷ (replicate k 32 ++ w)) more.text
          ∙ regroup (item_text a (slot m a)) (replicate k 32) (item_text more.first (slot m more.first)) (flat_map (later_by (slot m)) more.rest);
      long =
          let step = put_length l a u (none_long (slot l a) new) in
          let size = item_long a u (44 ∷ (replicate k 32 ++ t)) s text in
          omega (arith, step, size, more.long, length-append (replicate k 32) t);
    }

list_step : (n : ℕ) (l m : List (List ℕ)) (a : Attribute) (u s r : List ℕ) (next : Option (List ℕ)) → IsSlot a u → NextRead r next → go_on next (put_text l a u) (list_at n (put_text l a u)) ≡ Some m
    → is_some_text (slot l a) ≡ false → s ≡ item_text a u ++ r → ((t : List ℕ) → list_at n (put_text l a u) t ≡ Some m → ListRead (put_text l a u) m t) → ListRead l m s
list_step n l m a u s r None good is e new text more = subst (λ (x : List (List ℕ)). ListRead l x s) (some_is (put_text l a u) m e) (read_last l a u s good new (text ∙ ap (λ (w : List ℕ). item_text a u ++ w) is))
list_step n l m a u s r (Some t) good is e new text more = read_more l m a u is.0 s t good new (text ∙ ap (λ (w : List ℕ). item_text a u ++ w) is.1) (more t e)

abbrev Step : Type 0
Step = List (List ℕ) × Option (List ℕ)

pub list_reads : (n : ℕ) (l m : List (List ℕ)) (s : List ℕ) → list_at n l s ≡ Some m → ListRead l m s
unfolding list_at step_at
list_reads zero l m s e = absurd (none≢some m e)
list_reads (suc n) l m s e =
    let x = went_on (step_at l s) (λ x. go_on x.1 x.0 (list_at n x.0)) m e in
    let a = went_on (item_at s) (λ i. cond (is_some_text (slot l i.0.0)) None (next_at i.1 >>? λ next. found {A = Step} (put_text l i.0.0 i.0.1, next))) x.0 x.1 in
    let item = item_reads s a.0 a.1 in
    elim (chosen (is_some_text (slot l a.0.0.0)) None (next_at a.0.1 >>? λ next. found {A = Step} (put_text l a.0.0.0 a.0.0.1, next)) (Some x.0) a.2) [
      | inl h ↦ absurd (none≢some x.0 h.1)
      | inr h ↦
          let b = went_on (next_at a.0.1) (λ next. found {A = Step} (put_text l a.0.0.0 a.0.0.1, next)) x.0 h.1 in
          let is : (put_text l a.0.0.0 a.0.0.1, b.0) ≡ x.0 = some_is (put_text l a.0.0.0 a.0.0.1, b.0) x.0 b.2 in
          let go : go_on b.0 (put_text l a.0.0.0 a.0.0.1) (list_at n (put_text l a.0.0.0 a.0.0.1)) ≡ Some m = ap (λ (y : Step). go_on y.1 y.0 (list_at n y.0)) is ∙ x.2 in
          list_step n l m a.0.0.0 a.0.0.1 s a.0.1 b.0 item.slot (next_reads a.0.1 b.0 b.1) go h.0 item.text (list_reads n (put_text l a.0.0.0 a.0.0.1) m)
    ]

-- ---- a list of a name's text is read

abbrev pub Fits : List Attribute → List (List ℕ) → List (List ℕ) → Type 0
Fits which l m = (b : Attribute) → is_listed b which ≡ false → slot l b ≡ slot m b

put_fits : (l m : List (List ℕ)) (a : Attribute) (bs : List Attribute) → Fits (a ∷ bs) l m → Fits bs (put_text l a (slot m a)) m
put_fits l m a bs fits b h =
    elim (cases_Bool (same_attribute a b)) [
      | inl is ↦ subst (λ (d : Attribute). slot (put_text l a (slot m a)) d ≡ slot m d) (same_is a b is) (put_same l a (slot m a))
      | inr other ↦ put_other l a b (slot m a) other ∙ fits b (or_from _ _ (same_symm b a ∙ other) h)
    ]

suits_value : (w : Values) (a : Attribute) → IsName w → Suits a (value_of w a)
suits_value w Part n = n.0
suits_value w Vendor n = n.1.0
suits_value w Product n = n.1.1.0
suits_value w Version n = n.1.1.1.0
suits_value w Update n = n.1.1.1.1.0
suits_value w Edition n = n.1.1.1.1.1.0
suits_value w Language n = n.1.1.1.1.1.1.0
suits_value w SwEdition n = n.1.1.1.1.1.1.1.0
suits_value w TargetSw n = n.1.1.1.1.1.1.1.1.0
suits_value w TargetHw n = n.1.1.1.1.1.1.1.1.1.0
suits_value w Other n = n.1.1.1.1.1.1.1.1.1.1.0

tail_is : (p q r t : List ℕ) → ((p ++ q) ++ r) ++ t ≡ p ++ ((q ++ r) ++ t)
tail_is p q r t = simp append_assoc

next_is : (w : Values) (b : Attribute) (k : ℕ) (more : List (Attribute × ℕ)) → next_at (44 ∷ (replicate k 32 ++ (list_text w ((b, 0) ∷ more) ++ 93 ∷ []))) ≡ Some (Some (list_text w ((b, 0) ∷ more) ++ 93 ∷ []))
next_is w b k more =
    let is = tail_is (attribute_name b) (61 ∷ value_text (value_of w b)) (flat_map (later_text w) more) (93 ∷ []) in
    subst (λ (u : List ℕ). next_at (44 ∷ (replicate k 32 ++ u)) ≡ Some (Some u)) (sym is) (next_again k b (((61 ∷ value_text (value_of w b)) ++ flat_map (later_text w) more) ++ 93 ∷ []))

-- the texts are those of the values of the name
abbrev pub AreTexts : Values → List (List ℕ) → List Attribute → Type 0
AreTexts w m bs = AllByRecursion (λ b. slot m b ≡ value_text (value_of w b)) bs

pub list_again : (rest : List (Attribute × ℕ)) (n : ℕ) (l m : List (List ℕ)) (w : Values) (a : Attribute) → length rest < n → IsName w → by (slot m) ≡ m → AreTexts w m (a ∷ tag_names rest)
    → AreNew l (a ∷ tag_names rest) → IsDistinct same_attribute (a ∷ tag_names rest) → Fits (a ∷ tag_names rest) l m → list_at n l (list_text w ((a, 0) ∷ rest) ++ 93 ∷ []) ≡ Some m
unfolding list_at step_at IsDistinct
list_again [] zero l m w a lt name whole texts fresh once fits = absurd (omega (arith, lt))
list_again (i ∷ rest) zero l m w a lt name whole texts fresh once fits = absurd (omega (arith, lt))
list_again [] (suc n) l m w a lt name whole texts fresh once fits =
    ap (λ (u : List ℕ). list_at (suc n) l (u ++ 93 ∷ [])) (append-nil (attribute_text w a))
    ∙ rw (item_again a (value_of w a) (93 ∷ []) (suits_value w a name), fresh.0, next_end, sym texts.0)
    (ap (λ (x : List (List ℕ)). found x) (alike_by (λ c. cond (same_attribute a c) (slot m a) (slot l c)) (slot m) (λ b. sym (slot_by (λ c. cond (same_attribute a c) (slot m a) (slot l c)) b) ∙ put_fits l m a [] fits b refl) ∙ whole))
list_again (i ∷ rest) (suc n) l m w a lt name whole texts fresh once fits =
    let grouped = sym (regroup (attribute_text w a) (replicate i.1 32) (attribute_text w i.0) (flat_map (later_text w) rest)) in
    let item = item_again a (value_of w a) (44 ∷ (replicate i.1 32 ++ (list_text w ((i.0, 0) ∷ rest) ++ 93 ∷ []))) (suits_value w a name) in
    ap (list_at (suc n) l) grouped
    ∙ rw (item, fresh.0, next_is w i.0 i.1 rest, sym texts.0)
    (list_again rest n (put_text l a (slot m a)) m w i.0 (omega (arith, lt)) name whole texts.1 (joined l a (slot m a) (i.0 ∷ tag_names rest) fresh.1 once.0) once.1 (put_fits l m a (i.0 ∷ tag_names rest) fits))

-- ---- at most eleven attributes

-- each attribute is one of the eleven
pub all_listed : (a : Attribute) → is_listed a attributes ≡ true
all_listed Part = refl
all_listed Vendor = refl
all_listed Product = refl
all_listed Version = refl
all_listed Update = refl
all_listed Edition = refl
all_listed Language = refl
all_listed SwEdition = refl
all_listed TargetSw = refl
all_listed TargetHw = refl
all_listed Other = refl

few : (which : List Attribute) → IsDistinct same_attribute which → length which ≤ 11
few which once = length-le_from_is_member same_equivalence which attributes once (λ q m. all_listed q)

length-names : (items : List (Attribute × ℕ)) → length (tag_names items) ≡ length items
length-names [] = refl
length-names (i ∷ items) = ap suc (length-names items)

-- a list of distinct attributes has at most eleven
pub few_items : (i : Attribute × ℕ) (rest : List (Attribute × ℕ)) → IsDistinct same_attribute (i.0 ∷ tag_names rest) → length rest < 11
few_items i rest once = let le = few (i.0 ∷ tag_names rest) once in omega (arith, le, length-names rest)
