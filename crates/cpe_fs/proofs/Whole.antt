-- Lemmas: the scanner of whole texts reads the formatted strings, and stops at the place of any other text.
use Rattle.std.proofs.Common.{◌≡◌, ℕ, ◌≤◌, eqb, true, false, List, [], ◌∷◌, ◌++◌, length, drop, map, Result, Ok, Err, refl, sym, ap, ◌∙◌, append_assoc, arith, length-append}
use Rattle.std.specs.Prelude.{codes}
use Rattle.std.specs.List.{flat_map}
use Rattle.std.proofs.lemmas.List.{append-nil, nil_from_length}
use Rattle.std.proofs.lemmas.Bool.{eqb-true}
use Rattle.cpe_values.specs.declared.value.Value.{Value}
use Rattle.cpe_values.specs.declared.value.Value.TheVariants as value
use Rattle.cpe_name.specs.Eleven.{Values, Written}
use Rattle.cpe_name.specs.declared.attribute.Attribute.{Attribute}
use Rattle.cpe_name.specs.declared.attribute.Attribute.TheVariants.{Part, Vendor, Product, Version, Update, Edition, Language, SwEdition, TargetSw, TargetHw, Other}
use Rattle.cpe_name.specs.Names.{attributes, value_of, Suits, IsName, named}
use Rattle.name_grammar.specs.Place.{StopsAt}
use Rattle.name_grammar.specs.Scanners.{◌>>=◌, scan_both, scan_ending, scan_one, literal}
use Rattle.name_grammar.proofs.Scans.{Scans, wider, Empty, nothing_scans, ending_scans, OneOf, one_scans, Joined, both_scans, Only, literal_scans, literal_taken}
use Rattle.name_grammar.proofs.Places.{no_ending, nothing_left, stops_at}
use Rattle.cpe_fs.specs.Grammar.{fs_component, fs_text, Fs, IsFs}
use Rattle.cpe_fs.specs.Scanning.{is_fs_colon, part_end, language_end, text_end, fs_component_end, field_end, fs_fields_end, whole_end}
use Rattle.cpe_fs.specs.Spans.{IsFsSpan, AreFsComponents, behind_field, quoted_between, component_at, components_at}
use Rattle.cpe_name.proofs.Items.{between_is}
use Rattle.cpe_name.proofs.WholeTexts.{any_suits}
use Rattle.cpe_name.specs.Spans.{texts, total_length}
use Rattle.cpe_fs.proofs.Texts.{Ends, text_scans, text_taken}
use Rattle.cpe_fs.proofs.Languages.{IsPart, part_scans, part_taken, IsLanguage, language_scans, language_taken}

-- ---- components by attribute

-- the component of a value that suits the attribute
record IsComponent (a : Attribute) (u : List ℕ) : Type 0 where
  value : Value
  suits : Suits a value
  is : u ≡ fs_component value

component_scans : (a : Attribute) → Scans (IsComponent a) (fs_component_end a)
component_scans Part = wider IsPart (IsComponent Part) part_end (λ u h. record { value = h.value; suits = h.suits; is = h.is }) part_scans
component_scans Language = wider IsLanguage (IsComponent Language) language_end (λ u h. record { value = h.value; suits = h.suits; is = h.is }) language_scans
component_scans Vendor = wider IsFsSpan (IsComponent Vendor) text_end (λ u h. record { value = h.value; suits = h.good; is = sym h.spells }) text_scans
component_scans Product = wider IsFsSpan (IsComponent Product) text_end (λ u h. record { value = h.value; suits = h.good; is = sym h.spells }) text_scans
component_scans Version = wider IsFsSpan (IsComponent Version) text_end (λ u h. record { value = h.value; suits = h.good; is = sym h.spells }) text_scans
component_scans Update = wider IsFsSpan (IsComponent Update) text_end (λ u h. record { value = h.value; suits = h.good; is = sym h.spells }) text_scans
component_scans Edition = wider IsFsSpan (IsComponent Edition) text_end (λ u h. record { value = h.value; suits = h.good; is = sym h.spells }) text_scans
component_scans SwEdition = wider IsFsSpan (IsComponent SwEdition) text_end (λ u h. record { value = h.value; suits = h.good; is = sym h.spells }) text_scans
component_scans TargetSw = wider IsFsSpan (IsComponent TargetSw) text_end (λ u h. record { value = h.value; suits = h.good; is = sym h.spells }) text_scans
component_scans TargetHw = wider IsFsSpan (IsComponent TargetHw) text_end (λ u h. record { value = h.value; suits = h.good; is = sym h.spells }) text_scans
component_scans Other = wider IsFsSpan (IsComponent Other) text_end (λ u h. record { value = h.value; suits = h.good; is = sym h.spells }) text_scans

component_taken : (a : Attribute) (v : Value) (r : List ℕ) → Suits a v → Ends r → fs_component_end a (fs_component v ++ r) ≡ Ok r
component_taken Part v r h e = part_taken v r h.1
component_taken Language v r h e = language_taken v r h.1 e
component_taken Vendor v r h e = text_taken v r h e
component_taken Product v r h e = text_taken v r h e
component_taken Version v r h e = text_taken v r h e
component_taken Update v r h e = text_taken v r h e
component_taken Edition v r h e = text_taken v r h e
component_taken SwEdition v r h e = text_taken v r h e
component_taken TargetSw v r h e = text_taken v r h e
component_taken TargetHw v r h e = text_taken v r h e
component_taken Other v r h e = text_taken v r h e

-- ---- fields

abbrev field : Value → List ℕ
field v = 58 ∷ fs_component v

abbrev fields_text : List Value → List ℕ
fields_text vs = flat_map field vs

-- each value suits its attribute
abbrev pub AllSuit : List Attribute → List Value → Type 0
AllSuit [] [] = Unit {0}
AllSuit [] (v ∷ vs) = ⊥
AllSuit (a ∷ rest) [] = ⊥
AllSuit (a ∷ rest) (v ∷ vs) = Suits a v × AllSuit rest vs

record AreFields (which : List Attribute) (u : List ℕ) : Type 0 where
  values : List Value
  suit : AllSuit which values
  is : u ≡ fields_text values

more_fields : (a : Attribute) (rest : List Attribute) (u : List ℕ) → Joined (Joined (OneOf is_fs_colon) (IsComponent a)) (AreFields rest) u → AreFields (a ∷ rest) u
more_fields a rest u j =
    let colon : j.first.prefix ≡ 58 ∷ [] = j.first.first.is ∙ ap (λ (d : ℕ). d ∷ []) (eqb-true j.first.first.byte 58 j.first.first.passed) in
    let start_taken : j.prefix ≡ field j.first.second.value = j.first.is ∙ ap (λ (w : List ℕ). w ++ j.first.back) colon ∙ ap (λ (w : List ℕ). 58 ∷ w) j.first.second.is in
    record {
      values = j.first.second.value ∷ j.second.values;
      suit = (j.first.second.suits, j.second.suit);
      is = j.is ∙ ap (λ (w : List ℕ). w ++ j.back) start_taken ∙ ap (λ (w : List ℕ). field j.first.second.value ++ w) j.second.is;
    }

any_fields : (which : List Attribute) → AreFields which (fields_text (map (λ a. value.Any) which))
any_fields [] = record { values = []; suit = tt; is = refl }
any_fields (a ∷ rest) = let more = any_fields rest in record { values = value.Any ∷ more.values; suit = (any_suits a, more.suit); is = ap (λ (w : List ℕ). 58 ∷ 42 ∷ w) more.is }

field_scans : (a : Attribute) → Scans (Joined (OneOf is_fs_colon) (IsComponent a)) (field_end (fs_component_end a))
unfolding field_end
field_scans a =
    both_scans (OneOf is_fs_colon) (IsComponent a) (scan_one is_fs_colon) (fs_component_end a) (one_scans is_fs_colon 58 refl) (component_scans a) (42 ∷ [])
    (record { value = value.Any; suits = any_suits a; is = refl })

fields_scans : (which : List Attribute) → Scans (AreFields which) (fs_fields_end which)
fields_scans [] = wider Empty (AreFields []) (fs_fields_end []) (λ u is. record { values = []; suit = tt; is = is }) nothing_scans
fields_scans (a ∷ rest) =
    wider (Joined (Joined (OneOf is_fs_colon) (IsComponent a)) (AreFields rest)) (AreFields (a ∷ rest)) (fs_fields_end (a ∷ rest)) (more_fields a rest)
    (both_scans (Joined (OneOf is_fs_colon) (IsComponent a)) (AreFields rest) (field_end (fs_component_end a)) (fs_fields_end rest) (field_scans a) (fields_scans rest) (fields_text (map (λ a. value.Any) rest)) (any_fields rest))

field_taken : (a : Attribute) (v : Value) (r : List ℕ) → Suits a v → Ends r → field_end (fs_component_end a) (field v ++ r) ≡ Ok r
unfolding field_end
field_taken a v r suit h = component_taken a v r suit h

fields_end_next : (vs : List Value) (r : List ℕ) → Ends r → Ends (fields_text vs ++ r)
fields_end_next [] r h = h
fields_end_next (v ∷ vs) r h = refl

fields_taken : (which : List Attribute) (vs : List Value) (r : List ℕ) → AllSuit which vs → Ends r → fs_fields_end which (fields_text vs ++ r) ≡ Ok r
fields_taken [] [] r suit h = refl
fields_taken [] (v ∷ vs) r suit h = absurd suit
fields_taken (a ∷ rest) [] r suit h = absurd suit
fields_taken (a ∷ rest) (v ∷ vs) r suit h =
    ap (fs_fields_end (a ∷ rest)) (append_assoc (field v) (fields_text vs) r)
    ∙ ap (λ (x : Result (List ℕ) ℕ). x >>= fs_fields_end rest) (field_taken a v (fields_text vs ++ r) suit.0 (fields_end_next vs r h))
    ∙ fields_taken rest vs r suit.1 h

-- ---- the components in fields

behind_taken : (a : Attribute) (s r : List ℕ) → field_end (fs_component_end a) s ≡ Ok r → behind_field (fs_component_end a) s ≡ r
unfolding behind_field
behind_taken a s r e = rw e refl

component_there : (a : Attribute) (v : Value) (r : List ℕ) → Suits a v → Ends r → component_at (fs_component_end a) (field v ++ r) ≡ fs_component v
unfolding component_at
component_there a v r suit h = ap (quoted_between (field v ++ r)) (behind_taken a (field v ++ r) r (field_taken a v r suit h)) ∙ between_is (fs_component v) r

-- the components in the fields of these values are the components of the values
pub components_there : (which : List Attribute) (vs : List Value) (r : List ℕ) → AllSuit which vs → Ends r → components_at which (fields_text vs ++ r) ≡ map fs_component vs
components_there [] [] r suit h = refl
components_there [] (v ∷ vs) r suit h = absurd suit
components_there (a ∷ rest) [] r suit h = absurd suit
components_there (a ∷ rest) (v ∷ vs) r suit h =
    let next = fields_end_next vs r h in
    ap (components_at (a ∷ rest)) (append_assoc (field v) (fields_text vs) r)
    ∙ ap (λ (u : List ℕ). u ∷ components_at rest (behind_field (fs_component_end a) (field v ++ (fields_text vs ++ r)))) (component_there a v (fields_text vs ++ r) suit.0 next)
    ∙ ap (λ (s : List ℕ). fs_component v ∷ components_at rest s) (behind_taken a (field v ++ (fields_text vs ++ r)) (fields_text vs ++ r) (field_taken a v (fields_text vs ++ r) suit.0 next))
    ∙ ap (λ (us : List (List ℕ)). fs_component v ∷ us) (components_there rest vs r suit.1 h)

-- ---- names

abbrev prefix : List ℕ
prefix = codes "cpe:2.3"

-- the values of a name, in the order of the attributes
abbrev pub values_of : Values → List Value
values_of w = map (value_of w) attributes

record IsNamed (vs : List Value) : Type 0 where
  name : IsName (named vs)
  values : values_of (named vs) ≡ vs

is_named : (vs : List Value) → AllSuit attributes vs → IsNamed vs
is_named (a ∷ b ∷ c ∷ d ∷ e ∷ f ∷ g ∷ h ∷ i ∷ j ∷ k ∷ []) s = record { name = s; values = refl }
is_named [] s = absurd s
is_named (a ∷ []) s = absurd s.1
is_named (a ∷ b ∷ []) s = absurd s.1.1
is_named (a ∷ b ∷ c ∷ []) s = absurd s.1.1.1
is_named (a ∷ b ∷ c ∷ d ∷ []) s = absurd s.1.1.1.1
is_named (a ∷ b ∷ c ∷ d ∷ e ∷ []) s = absurd s.1.1.1.1.1
is_named (a ∷ b ∷ c ∷ d ∷ e ∷ f ∷ []) s = absurd s.1.1.1.1.1.1
is_named (a ∷ b ∷ c ∷ d ∷ e ∷ f ∷ g ∷ []) s = absurd s.1.1.1.1.1.1.1
is_named (a ∷ b ∷ c ∷ d ∷ e ∷ f ∷ g ∷ h ∷ []) s = absurd s.1.1.1.1.1.1.1.1
is_named (a ∷ b ∷ c ∷ d ∷ e ∷ f ∷ g ∷ h ∷ i ∷ []) s = absurd s.1.1.1.1.1.1.1.1.1
is_named (a ∷ b ∷ c ∷ d ∷ e ∷ f ∷ g ∷ h ∷ i ∷ j ∷ []) s = absurd s.1.1.1.1.1.1.1.1.1.1
is_named (a ∷ b ∷ c ∷ d ∷ e ∷ f ∷ g ∷ h ∷ i ∷ j ∷ k ∷ l ∷ vs) s = absurd s.1.1.1.1.1.1.1.1.1.1.1

-- the values of a name make this name
pub named_values : (w : Values) → named (values_of w) ≡ w
named_values w = refl

-- the values of a name suit their attributes
pub suit_values : (w : Values) → IsName w → AllSuit attributes (values_of w)
suit_values w h = h

-- a formatted string is the prefix and the fields of the name's values
fs_is : (w : Values) → fs_text w ≡ prefix ++ fields_text (values_of w)
fs_is w = sym (rw (append-nil (fs_component w.other)) refl)

whole_fs : (vs : List Value) (s : List ℕ) → AllSuit attributes vs → s ≡ prefix ++ fields_text vs → Fs (named vs) s
whole_fs vs s suit is =
    let so = is_named vs suit in
    (so.name, is ∙ ap (λ (us : List Value). prefix ++ fields_text us) (sym so.values) ∙ sym (fs_is (named vs)))

-- ---- the whole text

an_fs : (u : List ℕ) → Joined (Only prefix) (Joined (AreFields attributes) Empty) u → IsFs u
an_fs u j =
    let back : j.back ≡ fields_text j.second.first.values = j.second.is ∙ ap (λ (w : List ℕ). w ++ j.second.back) j.second.first.is ∙ ap (λ (w : List ℕ). fields_text j.second.first.values ++ w) j.second.second ∙ append-nil (fields_text j.second.first.values) in
    (named j.second.first.values, whole_fs j.second.first.values u j.second.first.suit (j.is ∙ ap (λ (w : List ℕ). w ++ j.back) j.first ∙ ap (λ (w : List ℕ). prefix ++ w) back))

-- the scanner of whole texts reads only formatted strings
pub whole_scans : Scans IsFs whole_end
unfolding whole_end
whole_scans =
    let any = any_fields attributes in
    wider (Joined (Only prefix) (Joined (AreFields attributes) Empty)) IsFs whole_end an_fs
    (both_scans (Only prefix) (Joined (AreFields attributes) Empty) (literal prefix) (scan_both (fs_fields_end attributes) scan_ending) (literal_scans prefix)
    (both_scans (AreFields attributes) Empty (fs_fields_end attributes) scan_ending (fields_scans attributes) ending_scans [] refl)
    (fields_text (map (λ a. value.Any) attributes))
    (record { prefix = fields_text (map (λ a. value.Any) attributes); back = []; is = sym (append-nil (fields_text (map (λ a. value.Any) attributes))); first = any; second = refl }))

-- the scanner of whole texts leaves nothing
pub whole_ends : (s rest : List ℕ) → whole_end s ≡ Ok rest → rest ≡ []
unfolding whole_end
whole_ends s rest e = nothing_left (literal prefix s) (fs_fields_end attributes) rest e

-- the scanner of whole texts reads each formatted string to its end
pub whole_taken : (s : List ℕ) → IsFs s → whole_end s ≡ Ok []
unfolding whole_end
whole_taken s h =
    let w = h.0 in
    let vs = values_of w in
    let is : s ≡ prefix ++ fields_text vs = h.1.1 ∙ fs_is w in
    ap (λ (u : List ℕ). literal prefix u >>= scan_both (fs_fields_end attributes) scan_ending) is
    ∙ ap (λ (x : Result (List ℕ) ℕ). x >>= scan_both (fs_fields_end attributes) scan_ending) (literal_taken prefix (fields_text vs))
    ∙ ap (scan_both (fs_fields_end attributes) scan_ending) (sym (append-nil (fields_text vs)))
    ∙ ap (λ (x : Result (List ℕ) ℕ). x >>= scan_ending) (fields_taken attributes vs [] (suit_values w h.1.0) tt)

-- the scanner of whole texts stops at the place of the text
leaves : (s : List ℕ) (left : ℕ) → whole_end s ≡ Err left → StopsAt IsFs s left
leaves s left e = stops_at IsFs whole_end whole_scans whole_taken s left e

-- ---- what `scan_fs` finds

fields_length : (vs : List Value) → total_length (map fs_component vs) ≤ length (fields_text vs)
fields_length [] = omega arith
fields_length (v ∷ vs) = omega (arith, fields_length vs, length-append (fs_component v) (fields_text vs))

map_values : (w : Values) → map fs_component (values_of w) ≡ map (λ a. fs_component (value_of w a)) attributes
map_values w = refl

-- `scan_fs` finds the components of a name that has the text
pub found : (s fields rest : List ℕ) (c : Written) → literal prefix s ≡ Ok fields → fs_fields_end attributes fields ≡ Ok rest → eqb (length rest) 0 ≡ true → texts c ≡ components_at attributes fields → AreFsComponents s c
found s fields rest c start taken over are =
    let empty : rest ≡ [] = nil_from_length rest (eqb-true (length rest) 0 over) in
    let start_taken = (literal_scans prefix).takes s fields start in
    let back = (fields_scans attributes).takes fields rest taken in
    let vs = back.lawful.values in
    let text : fields ≡ fields_text vs = back.cut ∙ ap (λ (w : List ℕ). w ++ rest) back.lawful.is ∙ ap (λ (w : List ℕ). fields_text vs ++ w) empty ∙ append-nil (fields_text vs) in
    let whole : s ≡ prefix ++ fields_text vs = start_taken.cut ∙ ap (λ (w : List ℕ). w ++ fields) start_taken.lawful ∙ ap (λ (w : List ℕ). prefix ++ w) text in
    let there : texts c ≡ map fs_component vs = are ∙ ap (components_at attributes) (text ∙ sym (append-nil (fields_text vs))) ∙ components_there attributes vs [] back.lawful.suit tt in
    record {
      name = named vs;
      fs = whole_fs vs s back.lawful.suit whole;
      are = there ∙ ap (λ (us : List Value). map fs_component us) (sym (is_named vs back.lawful.suit).values) ∙ map_values (named vs);
      within = omega (arith, ap total_length there, fields_length vs, ap length whole, length-append prefix (fields_text vs));
    }

-- the components in a formatted string are those of its name
pub components_of : (w : Values) (s : List ℕ) → Fs w s → components_at attributes (drop 7 s) ≡ map (λ a. fs_component (value_of w a)) attributes
components_of w s fs =
    ap (λ (u : List ℕ). components_at attributes (drop 7 u)) (fs.1 ∙ fs_is w)
    ∙ ap (components_at attributes) (sym (append-nil (fields_text (values_of w))))
    ∙ components_there attributes (values_of w) [] (suit_values w fs.0) tt
    ∙ map_values w

-- ---- where `scan_fs` stops

-- `scan_fs` stops in the prefix
pub start_leaves : (s : List ℕ) (left : ℕ) → literal prefix s ≡ Err left → StopsAt IsFs s left
unfolding whole_end
start_leaves s left e = leaves s left (rw e refl)

-- `scan_fs` stops in the fields
pub fields_leave : (s fields : List ℕ) (left : ℕ) → literal prefix s ≡ Ok fields → fs_fields_end attributes fields ≡ Err left → StopsAt IsFs s left
unfolding whole_end
fields_leave s fields left start e = leaves s left (rw start (ap (λ (x : Result (List ℕ) ℕ). x >>= scan_ending) e))

-- `scan_fs` stops after the last field
pub end_leaves : (s fields rest : List ℕ) → literal prefix s ≡ Ok fields → fs_fields_end attributes fields ≡ Ok rest → eqb (length rest) 0 ≡ false → StopsAt IsFs s (length rest)
unfolding whole_end
end_leaves s fields rest start taken more = leaves s (length rest) (rw start (ap (λ (x : Result (List ℕ) ℕ). x >>= scan_ending) taken ∙ no_ending rest more))
