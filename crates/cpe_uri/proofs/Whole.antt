-- Lemmas: the scanner of whole texts reads the URIs, and stops at the place of any other text.
use Rattle.std.proofs.Common.{◌≡◌, ℕ, suc, ◌≤◌, Bool, true, false, not, eqb, List, [], ◌∷◌, ◌++◌, length, map, get_or, Result, Ok, Err, refl, sym, ap, subst, ◌∙◌, inl, inr, arith}
use Rattle.std.specs.Prelude.{codes}
use Rattle.std.specs.Char.{to_ascii_lowercase}
use Rattle.std.specs.List.{flat_map, join_with_byte, list_all}
use Rattle.std.proofs.lemmas.List.{append-nil}
use Rattle.std.proofs.lemmas.Bool.{eqb-true, eq-eqb}
use Rattle.name_grammar.specs.Place.{StopsAt}
use Rattle.name_grammar.specs.Scanners.{Scanner, ◌>>=◌, scan_both, choose, nothing, scan_ending, scan_one}
use Rattle.name_grammar.proofs.Places.{nothing_left, stops_at}
use Rattle.name_grammar.proofs.Scans.{Scans, wider, renamed, Empty, nothing_scans, ending_scans, OneOf, one_scans, Joined, both_scans, Either, choose_scans}
use Rattle.cpe_values.specs.declared.value.Value.{Value}
use Rattle.cpe_values.specs.declared.value.Value.TheVariants as value
use Rattle.cpe_name.specs.Eleven.{Values}
use Rattle.cpe_name.specs.declared.attribute.Attribute.{Attribute}
use Rattle.cpe_name.specs.declared.attribute.Attribute.TheVariants.{Part, Vendor, Product, Version, Update, Edition, Language, SwEdition, TargetSw, TargetHw, Other}
use Rattle.cpe_name.specs.Names.{IsName}
use Rattle.cpe_name.specs.Lower.{IsLower}
use Rattle.cpe_uri.specs.Spelling.{IsSpellingOf}
use Rattle.cpe_uri.specs.Grammar.{is_uri_colon, IsEditionSpelling, Uri, IsUri}
use Rattle.cpe_uri.specs.Spans.{IsUriComponent, IsTextComponent, IsEdition}
use Rattle.cpe_uri.specs.Languages.{part_end}
use Rattle.cpe_uri.specs.Scanning.{uri_component_end, later, later_end, components_end, prefix_end, all_end, whole_end}
use Rattle.cpe_uri.proofs.Ends.{Ends}
use Rattle.cpe_uri.proofs.Texts.{text_taken, text_scans}
use Rattle.cpe_uri.proofs.Languages.{part_scans, part_taken, language_scans, language_taken}
use Rattle.cpe_uri.specs.Canon.{extended}
use Rattle.cpe_uri.proofs.Editions.{AreGood, edition_scans, edition_taken, empty_text, empty_edition, ends_in}

-- ---- the component of an attribute

abbrev pub IsSlot : Attribute → List ℕ → Type 0
IsSlot Part = IsUriComponent Part
IsSlot Vendor = IsTextComponent false
IsSlot Product = IsTextComponent false
IsSlot Version = IsTextComponent false
IsSlot Update = IsTextComponent false
IsSlot Edition = IsEdition
IsSlot Language = IsUriComponent Language
IsSlot SwEdition = IsTextComponent true
IsSlot TargetSw = IsTextComponent true
IsSlot TargetHw = IsTextComponent true
IsSlot Other = IsTextComponent true

slot_scans : (a : Attribute) → Scans (IsSlot a) (uri_component_end a)
slot_scans Part = part_scans
slot_scans Vendor = text_scans false
slot_scans Product = text_scans false
slot_scans Version = text_scans false
slot_scans Update = text_scans false
slot_scans Edition = edition_scans
slot_scans Language = language_scans
slot_scans SwEdition = text_scans true
slot_scans TargetSw = text_scans true
slot_scans TargetHw = text_scans true
slot_scans Other = text_scans true

empty_slot : (a : Attribute) → IsSlot a []
empty_slot Part = record { value = value.Any; suits = (tt, refl); lower = refl; present = refl }
empty_slot Vendor = empty_text false [] refl
empty_slot Product = empty_text false [] refl
empty_slot Version = empty_text false [] refl
empty_slot Update = empty_text false [] refl
empty_slot Edition = empty_edition
empty_slot Language = record { value = value.Any; suits = (tt, refl); lower = refl; present = refl }
empty_slot SwEdition = empty_text true [] refl
empty_slot TargetSw = empty_text true [] refl
empty_slot TargetHw = empty_text true [] refl
empty_slot Other = empty_text true [] refl

-- ---- components one after the other: a component is there only if those before it are there

-- the text has the components `cs`, each after a colon; components of the last attributes may be missing
abbrev pub Tail : List Attribute → List (List ℕ) → List ℕ → Type 0
Tail which [] s = s ≡ []
Tail [] (c ∷ cs) s = ⊥
Tail (a ∷ rest) (c ∷ cs) s = (more : List ℕ) × (s ≡ 58 ∷ c ++ more) × IsSlot a c × Tail rest cs more

abbrev IsTail : List Attribute → List ℕ → Type 0
IsTail which s = (cs : List (List ℕ)) × Tail which cs s

-- a scanner of these components that ends at the first missing colon
abbrev rest_end : List Attribute → Scanner
rest_end [] s = Ok s
rest_end (a ∷ rest) s = choose is_uri_colon (scan_both (scan_one is_uri_colon) (scan_both (uri_component_end a) (rest_end rest))) nothing s

more_tail : (a : Attribute) (rest : List Attribute) (s : List ℕ) → Joined (OneOf is_uri_colon) (Joined (IsSlot a) (IsTail rest)) s → IsTail (a ∷ rest) s
more_tail a rest s j =
    let text : s ≡ 58 ∷ j.second.prefix ++ j.second.back = j.is ∙ ap (λ (v : List ℕ). v ++ j.back) (j.first.is ∙ ap (λ (d : ℕ). d ∷ []) (eqb-true j.first.byte 58 j.first.passed)) ∙ ap (λ (v : List ℕ). 58 ∷ v) j.second.is in
    (j.second.prefix ∷ j.second.second.0, (j.second.back, text, j.second.first, j.second.second.1))

rest_scans : (which : List Attribute) → Scans (IsTail which) (rest_end which)
rest_scans [] = wider Empty (IsTail []) (rest_end []) (λ s is. ([], is)) nothing_scans
rest_scans (a ∷ rest) =
    wider (Either (Joined (OneOf is_uri_colon) (Joined (IsSlot a) (IsTail rest))) Empty) (IsTail (a ∷ rest)) (rest_end (a ∷ rest)) (λ s h. elim h [ inl j ↦ more_tail a rest s j | inr is ↦ ([], is) ])
    (choose_scans is_uri_colon (Joined (OneOf is_uri_colon) (Joined (IsSlot a) (IsTail rest))) Empty (scan_both (scan_one is_uri_colon) (scan_both (uri_component_end a) (rest_end rest))) nothing
    (both_scans (OneOf is_uri_colon) (Joined (IsSlot a) (IsTail rest)) (scan_one is_uri_colon) (scan_both (uri_component_end a) (rest_end rest)) (one_scans is_uri_colon 58 refl)
    (both_scans (IsSlot a) (IsTail rest) (uri_component_end a) (rest_end rest) (slot_scans a) (rest_scans rest) [] ([], refl))
    [] (record { prefix = []; back = []; is = refl; first = empty_slot a; second = ([], refl) })) nothing_scans)

-- The text doesn't begin with a colon. `components_end` tests for a colon before each component, with the same result
-- as `rest_end`.
abbrev NoColon : List ℕ → Type 0
NoColon [] = Unit {0}
NoColon (c ∷ s) = is_uri_colon c ≡ false

nothing_more : (which : List Attribute) (s : List ℕ) → NoColon s → rest_end which s ≡ Ok s
nothing_more [] s h = refl
nothing_more (a ∷ rest) [] h = refl
nothing_more (a ∷ rest) (c ∷ s) h = rw h refl

once : (a : Attribute) (rest : List Attribute) (s : List ℕ) → (later_end (uri_component_end a) s >>= rest_end rest) ≡ rest_end (a ∷ rest) s
unfolding later_end
once a rest [] = nothing_more rest [] tt
once a rest (c ∷ s) = go (is_uri_colon c) refl where
  go : (b : Bool) → is_uri_colon c ≡ b → (later_end (uri_component_end a) (c ∷ s) >>= rest_end rest) ≡ rest_end (a ∷ rest) (c ∷ s)
  go true h = rw h refl
  go false h = rw h (nothing_more rest (c ∷ s) h)

at_once : (which : List Attribute) (s : List ℕ) → components_end which s ≡ rest_end which s
at_once [] s = refl
at_once (a ∷ rest) s = go (later_end (uri_component_end a) s) (λ r. at_once rest r) ∙ once a rest s where
  go : (x : Result (List ℕ) ℕ) → ((r : List ℕ) → components_end rest r ≡ rest_end rest r) → (x >>= components_end rest) ≡ (x >>= rest_end rest)
  go (Ok r) same = same r
  go (Err left) same = refl

-- ---- the components that are there

-- the first component, or an empty one if there is none
abbrev pub first_of : List (List ℕ) → List ℕ
first_of [] = []
first_of (c ∷ cs) = c

abbrev pub behind_first : List (List ℕ) → List (List ℕ)
behind_first [] = []
behind_first (c ∷ cs) = cs

pub at_first : (cs : List (List ℕ)) → get_or cs 0 [] ≡ first_of cs
at_first [] = refl
at_first (c ∷ cs) = refl

pub at_behind : (cs : List (List ℕ)) (n : ℕ) → get_or cs (suc n) [] ≡ get_or (behind_first cs) n []
at_behind [] n = refl
at_behind (c ∷ cs) n = refl

-- the components suit these attributes; a missing component counts as empty
abbrev AllSlots : List Attribute → List (List ℕ) → Type 0
AllSlots [] cs = Unit {0}
AllSlots (a ∷ rest) cs = IsSlot a (first_of cs) × AllSlots rest (behind_first cs)

empty_slots : (which : List Attribute) → AllSlots which []
empty_slots [] = tt
empty_slots (a ∷ rest) = (empty_slot a, empty_slots rest)

tail_slots : (which : List Attribute) (cs : List (List ℕ)) (s : List ℕ) → Tail which cs s → AllSlots which cs
tail_slots which [] s t = empty_slots which
tail_slots [] (c ∷ cs) s t = absurd t
tail_slots (a ∷ rest) (c ∷ cs) s t = (t.2, tail_slots rest cs t.0 t.3)

pub tail_few : (which : List Attribute) (cs : List (List ℕ)) (s : List ℕ) → Tail which cs s → length cs ≤ length which
tail_few which [] s t = omega arith
tail_few [] (c ∷ cs) s t = absurd t
tail_few (a ∷ rest) (c ∷ cs) s t = omega (arith, tail_few rest cs t.0 t.3)

abbrev pub tail_of : List (List ℕ) → List ℕ
tail_of cs = flat_map (λ c. 58 ∷ c) cs

pub tail_text : (which : List Attribute) (cs : List (List ℕ)) (s : List ℕ) → Tail which cs s → s ≡ tail_of cs
tail_text which [] s t = t
tail_text [] (c ∷ cs) s t = absurd t
tail_text (a ∷ rest) (c ∷ cs) s t = t.1 ∙ ap (λ (v : List ℕ). 58 ∷ c ++ v) (tail_text rest cs t.0 t.3)

pub components_joined : (u : List ℕ) (cs : List (List ℕ)) → join_with_byte 58 (u ∷ cs) ≡ u ++ tail_of cs
components_joined u [] = sym (append-nil u)
components_joined u (c ∷ cs) = ap (λ (v : List ℕ). u ++ 58 ∷ v) (components_joined c cs)

-- ---- names

-- the components from which the name of a URI is made
pub record Made (part : List ℕ) (cs : List (List ℕ)) : Type 0 where
  pub p : IsUriComponent Part part
  pub v : IsTextComponent false (get_or cs 0 [])
  pub d : IsTextComponent false (get_or cs 1 [])
  pub n : IsTextComponent false (get_or cs 2 [])
  pub u : IsTextComponent false (get_or cs 3 [])
  pub e : IsEdition (get_or cs 4 [])
  pub l : IsUriComponent Language (get_or cs 5 [])

abbrev pub name_made : (part : List ℕ) (cs : List (List ℕ)) → Made part cs → Values
name_made part cs m = record {
  part = m.p.value;
  vendor = m.v.value;
  product = m.d.value;
  version = m.n.value;
  update = m.u.value;
  edition = m.e.of.edition;
  language = m.l.value;
  sw_edition = m.e.of.sw_edition;
  target_sw = m.e.of.target_sw;
  target_hw = m.e.of.target_hw;
  other = m.e.of.other;
}

values_by : Value → Value → Value → Value → Value → Value → Value → Value → Value → Value → Value → Values
values_by a b c d e f g h i j k = record { part = a; vendor = b; product = c; version = d; update = e; edition = f; language = g; sw_edition = h; target_sw = i; target_hw = j; other = k }

values_alike : (a b c d e f g h i j k a2 b2 c2 d2 e2 f2 g2 h2 i2 j2 k2 : Value) → a ≡ a2 → b ≡ b2 → c ≡ c2 → d ≡ d2 → e ≡ e2 → f ≡ f2 → g ≡ g2 → h ≡ h2 → i ≡ i2 → j ≡ j2 → k ≡ k2
    → values_by a b c d e f g h i j k ≡ values_by a2 b2 c2 d2 e2 f2 g2 h2 i2 j2 k2
values_alike a b c d e f g h i j k a2 b2 c2 d2 e2 f2 g2 h2 i2 j2 k2 ea eb ec ed ee ef eg eh ei ej ek = rw (ea, eb, ec, ed, ee, ef, eg, eh, ei, ej, ek) refl

made_lower : (part : List ℕ) (cs : List (List ℕ)) (m : Made part cs) → IsLower (name_made part cs m)
unfolding values_by
made_lower part cs m =
    values_alike _ _ _ _ _ _ _ _ _ _ _ m.p.value m.v.value m.d.value m.n.value m.u.value m.e.of.edition m.l.value m.e.of.sw_edition m.e.of.target_sw m.e.of.target_hw m.e.of.other
    m.p.lower m.v.lower m.d.lower m.n.lower m.u.lower (ap (λ (w : Values). w.edition) m.e.lower) m.l.lower (ap (λ (w : Values). w.sw_edition) m.e.lower) (ap (λ (w : Values). w.target_sw) m.e.lower) (ap (λ (w : Values). w.target_hw) m.e.lower) (ap (λ (w : Values). w.other) m.e.lower)

made_edition : (part : List ℕ) (cs : List (List ℕ)) (m : Made part cs) → IsEditionSpelling (name_made part cs m) (get_or cs 4 [])
made_edition part cs m = elim m.e.present [
  | inl a ↦ inl (record { bare = a.bare; edition = a.edition; others = a.others })
  | inr f ↦ inr f
]

-- the name that is made from these components has this URI
pub made_uri : (s prefix part : List ℕ) (cs : List (List ℕ)) (m : Made part cs) → map to_ascii_lowercase prefix ≡ codes "cpe:/" → length cs ≤ 6 → s ≡ prefix ++ (part ++ tail_of cs) → Uri (name_made part cs m) s
made_uri s prefix part cs m begins few text = record {
  name = (m.p.suits, (m.v.good, (m.d.good, (m.n.good, (m.u.good, (m.e.name.1.1.1.1.1.0, (m.l.suits, (m.e.name.1.1.1.1.1.1.1.0, (m.e.name.1.1.1.1.1.1.1.1.0, (m.e.name.1.1.1.1.1.1.1.1.1.0, (m.e.name.1.1.1.1.1.1.1.1.1.1.0, tt)))))))))));
  lower = made_lower part cs m;
  prefix = prefix;
  components = part ∷ cs;
  text = text ∙ ap (λ (v : List ℕ). prefix ++ v) (sym (components_joined part cs));
  begins = begins;
  some = omega arith;
  few = omega (arith, few);
  part = m.p.present;
  vendor = m.v.present;
  product = m.d.present;
  version = m.n.present;
  update = m.u.present;
  edition = made_edition part cs m;
  language = m.l.present;
}

-- an equal component spells the same value
abbrev moved_text : (packed : Bool) (u v : List ℕ) → u ≡ v → IsTextComponent packed u → IsTextComponent packed v
moved_text packed u v e t = record { value = t.value; good = t.good; lower = t.lower; present = subst (IsSpellingOf t.value) e t.present; none = λ p. subst (λ (x : List ℕ). list_all (λ c. not (eqb c 126)) x ≡ true) e (t.none p) }

abbrev moved_component : (a : Attribute) (u v : List ℕ) → u ≡ v → IsUriComponent a u → IsUriComponent a v
moved_component a u v e t = record { value = t.value; suits = t.suits; lower = t.lower; present = subst (IsSpellingOf t.value) e t.present }

abbrev moved_edition : (u v : List ℕ) → u ≡ v → IsEdition u → IsEdition v
moved_edition u v is x = record { of = x.of; name = x.name; lower = x.lower; present = subst (IsEditionSpelling x.of) is x.present }

pub second : (cs : List (List ℕ)) → get_or cs 1 [] ≡ first_of (behind_first cs)
second cs = at_behind cs 0 ∙ at_first (behind_first cs)

pub third : (cs : List (List ℕ)) → get_or cs 2 [] ≡ first_of (behind_first (behind_first cs))
third cs = at_behind cs 1 ∙ second (behind_first cs)

pub fourth : (cs : List (List ℕ)) → get_or cs 3 [] ≡ first_of (behind_first (behind_first (behind_first cs)))
fourth cs = at_behind cs 2 ∙ third (behind_first cs)

pub fifth : (cs : List (List ℕ)) → get_or cs 4 [] ≡ first_of (behind_first (behind_first (behind_first (behind_first cs))))
fifth cs = at_behind cs 3 ∙ fourth (behind_first cs)

pub sixth : (cs : List (List ℕ)) → get_or cs 5 [] ≡ first_of (behind_first (behind_first (behind_first (behind_first (behind_first cs)))))
sixth cs = at_behind cs 4 ∙ fifth (behind_first cs)

tail_made : (part : List ℕ) (cs : List (List ℕ)) (s : List ℕ) → IsUriComponent Part part → Tail later cs s → Made part cs
tail_made part cs s p t =
    let all = tail_slots later cs s t in
    record {
      p = p;
      v = moved_text false _ _ (sym (at_first cs)) all.0;
      d = moved_text false _ _ (sym (second cs)) all.1.0;
      n = moved_text false _ _ (sym (third cs)) all.1.1.0;
      u = moved_text false _ _ (sym (fourth cs)) all.1.1.1.0;
      e = moved_edition _ _ (sym (fifth cs)) all.1.1.1.1.0;
      l = moved_component Language _ _ (sym (sixth cs)) all.1.1.1.1.1.0;
    }

-- ---- the prefix of a URI

abbrev IsPrefix : List ℕ → List ℕ → Type 0
IsPrefix cs u = map to_ascii_lowercase u ≡ cs

abbrev is_lower_of : ℕ → ℕ → Bool
is_lower_of c d = eqb (to_ascii_lowercase d) c

more_prefix : (c : ℕ) (cs u : List ℕ) → Joined (OneOf (is_lower_of c)) (IsPrefix cs) u → IsPrefix (c ∷ cs) u
more_prefix c cs u j =
    ap (map to_ascii_lowercase) (j.is ∙ ap (λ (v : List ℕ). v ++ j.back) j.first.is)
    ∙ ap (λ (d : ℕ). d ∷ map to_ascii_lowercase j.back) (eqb-true (to_ascii_lowercase j.first.byte) c j.first.passed)
    ∙ ap (λ (v : List ℕ). c ∷ v) j.second

-- letters of the prefix are read in either case, if the expected bytes have no capital letters
pub prefix_scans : (cs : List ℕ) → map to_ascii_lowercase cs ≡ cs → Scans (IsPrefix cs) (prefix_end cs)
prefix_scans [] low = wider Empty (IsPrefix []) (prefix_end []) (λ u is. ap (map to_ascii_lowercase) is) nothing_scans
prefix_scans (c ∷ cs) low =
    let first : to_ascii_lowercase c ≡ c = cc in
    let rest : map to_ascii_lowercase cs ≡ cs = cc in
    wider (Joined (OneOf (is_lower_of c)) (IsPrefix cs)) (IsPrefix (c ∷ cs)) (prefix_end (c ∷ cs)) (more_prefix c cs)
    (both_scans (OneOf (is_lower_of c)) (IsPrefix cs) (scan_one (is_lower_of c)) (prefix_end cs) (one_scans (is_lower_of c) c (eq-eqb (to_ascii_lowercase c) c first)) (prefix_scans cs rest) cs rest)

pub prefix_taken : (cs u r : List ℕ) → map to_ascii_lowercase u ≡ cs → prefix_end cs (u ++ r) ≡ Ok r
prefix_taken [] [] r is = refl
prefix_taken [] (d ∷ u) r is = absurd cc
prefix_taken (c ∷ cs) [] r is = absurd cc
prefix_taken (c ∷ cs) (d ∷ u) r is =
    let first : to_ascii_lowercase d ≡ c = cc in
    let rest : map to_ascii_lowercase u ≡ cs = cc in
    let same : is_lower_of c d ≡ true = eq-eqb (to_ascii_lowercase d) c first in
    rw same (prefix_taken cs u r rest)

-- ---- the whole URI

abbrev All : List ℕ → Type 0
All = Joined (IsUriComponent Part) (IsTail later)

all_scans : Scans All all_end
unfolding all_end
all_scans =
    renamed All (scan_both part_end (rest_end later)) (λ s. part_end s >>= components_end later) (λ s. go (part_end s))
    (both_scans (IsUriComponent Part) (IsTail later) part_end (rest_end later) part_scans (rest_scans later) [] ([], refl)) where
      go : (x : Result (List ℕ) ℕ) → (x >>= components_end later) ≡ (x >>= rest_end later)
      go (Ok r) = at_once later r
      go (Err left) = refl

a_uri : (u : List ℕ) → Joined (IsPrefix (codes "cpe:/")) (Joined All Empty) u → IsUri u
a_uri u j =
    let all = j.second.first in
    let cs = all.second.0 in
    let t = all.second.1 in
    let m = tail_made all.prefix cs all.back all.first t in
    let back : j.back ≡ all.prefix ++ tail_of cs = j.second.is ∙ ap (λ (v : List ℕ). j.second.prefix ++ v) j.second.second ∙ append-nil j.second.prefix ∙ all.is ∙ ap (λ (v : List ℕ). all.prefix ++ v) (tail_text later cs all.back t) in
    (name_made all.prefix cs m, made_uri u j.prefix all.prefix cs m j.first (tail_few later cs all.back t) (j.is ∙ ap (λ (v : List ℕ). j.prefix ++ v) back))

-- the scanner of whole texts reads only URIs
pub whole_scans : Scans IsUri whole_end
unfolding whole_end
whole_scans =
    wider (Joined (IsPrefix (codes "cpe:/")) (Joined All Empty)) IsUri whole_end a_uri
    (both_scans (IsPrefix (codes "cpe:/")) (Joined All Empty) (prefix_end (codes "cpe:/")) (scan_both all_end scan_ending) (prefix_scans (codes "cpe:/") refl)
    (both_scans All Empty all_end scan_ending all_scans ending_scans [] refl)
    [] (record { prefix = []; back = []; is = refl; first = record { prefix = []; back = []; is = refl; first = empty_slot Part; second = ([], refl) }; second = refl }))

-- the scanner of whole texts leaves nothing
pub whole_ends : (s rest : List ℕ) → whole_end s ≡ Ok rest → rest ≡ []
unfolding whole_end
whole_ends s rest e = nothing_left (prefix_end (codes "cpe:/") s) all_end rest e

-- ---- each URI is read

-- the component spells the name's value of the attribute
abbrev pub IsSpelledAs : Values → Attribute → List ℕ → Type 0
IsSpelledAs w Part c = IsSpellingOf w.part c
IsSpelledAs w Vendor c = IsSpellingOf w.vendor c
IsSpelledAs w Product c = IsSpellingOf w.product c
IsSpelledAs w Version c = IsSpellingOf w.version c
IsSpelledAs w Update c = IsSpellingOf w.update c
IsSpelledAs w Edition c = IsEditionSpelling w c
IsSpelledAs w Language c = IsSpellingOf w.language c
IsSpelledAs w SwEdition c = ⊥
IsSpelledAs w TargetSw c = ⊥
IsSpelledAs w TargetHw c = ⊥
IsSpelledAs w Other c = ⊥

pub good_five : (w : Values) → IsName w → AreGood w (Edition ∷ extended)
good_five w good = (good.1.1.1.1.1.0, (good.1.1.1.1.1.1.1.0, (good.1.1.1.1.1.1.1.1.0, (good.1.1.1.1.1.1.1.1.1.0, (good.1.1.1.1.1.1.1.1.1.1.0, tt)))))

pub slot_taken : (w : Values) (a : Attribute) (c r : List ℕ) → IsName w → IsSpelledAs w a c → Ends r → uri_component_end a (c ++ r) ≡ Ok r
slot_taken w Part c r good present ends = part_taken w.part c r good.0 present ends
slot_taken w Vendor c r good present ends = text_taken false w.vendor c r good.1.0 present (λ e. absurd cc) (ends_in false r ends)
slot_taken w Product c r good present ends = text_taken false w.product c r good.1.1.0 present (λ e. absurd cc) (ends_in false r ends)
slot_taken w Version c r good present ends = text_taken false w.version c r good.1.1.1.0 present (λ e. absurd cc) (ends_in false r ends)
slot_taken w Update c r good present ends = text_taken false w.update c r good.1.1.1.1.0 present (λ e. absurd cc) (ends_in false r ends)
slot_taken w Edition c r good present ends = edition_taken w c r (good_five w good) present ends
slot_taken w Language c r good present ends = language_taken w.language c r good.1.1.1.1.1.1.0 present ends
slot_taken w SwEdition c r good present ends = absurd present
slot_taken w TargetSw c r good present ends = absurd present
slot_taken w TargetHw c r good present ends = absurd present
slot_taken w Other c r good present ends = absurd present

abbrev pub AllSpelled : Values → List Attribute → List (List ℕ) → Type 0
AllSpelled w [] cs = Unit {0}
AllSpelled w (a ∷ rest) cs = IsSpelledAs w a (first_of cs) × AllSpelled w rest (behind_first cs)

pub tail_ends : (cs : List (List ℕ)) → Ends (tail_of cs)
tail_ends [] = tt
tail_ends (c ∷ cs) = refl

rest_taken : (w : Values) (which : List Attribute) (cs : List (List ℕ)) → IsName w → AllSpelled w which cs → length cs ≤ length which → rest_end which (tail_of cs) ≡ Ok []
rest_taken w [] [] good are_present few = refl
rest_taken w [] (c ∷ cs) good are_present few = absurd (omega (arith, few))
rest_taken w (a ∷ rest) [] good are_present few = refl
rest_taken w (a ∷ rest) (c ∷ cs) good are_present few =
    ap (λ (x : Result (List ℕ) ℕ). x >>= rest_end rest) (slot_taken w a c (tail_of cs) good are_present.0 (tail_ends cs)) ∙ rest_taken w rest cs good are_present.1 (omega (arith, few))

pub uri_spelled : (w : Values) (s part : List ℕ) (cs : List (List ℕ)) (uri : Uri w s) → uri.components ≡ part ∷ cs → AllSpelled w later cs
uri_spelled w s part cs uri is =
    (subst (IsSpellingOf w.vendor) (ap (λ (us : List (List ℕ)). get_or us 1 []) is ∙ at_first cs) uri.vendor, (subst (IsSpellingOf w.product) (ap (λ (us : List (List ℕ)). get_or us 2 []) is ∙ second cs) uri.product, (subst (IsSpellingOf w.version) (ap (λ (us : List (List ℕ)). get_or us 3 []) is ∙ third cs) uri.version, (subst (IsSpellingOf w.update) (ap (λ (us : List (List ℕ)). get_or us 4 []) is ∙ fourth cs) uri.update, (subst (IsEditionSpelling w) (ap (λ (us : List (List ℕ)). get_or us 5 []) is ∙ fifth cs) uri.edition, (subst (IsSpellingOf w.language) (ap (λ (us : List (List ℕ)). get_or us 6 []) is ∙ sixth cs) uri.language, tt))))))

-- the scanner of whole texts reads each URI to its end
pub whole_taken : (s : List ℕ) → IsUri s → whole_end s ≡ Ok []
unfolding whole_end all_end
whole_taken s h = go h.1.components refl where
  go : (components : List (List ℕ)) → h.1.components ≡ components → whole_end s ≡ Ok []
  go [] is = absurd (omega (arith, h.1.some, ap length is))
  go (part ∷ cs) is =
      let w = h.0 in
      let uri = h.1 in
      let text : s ≡ uri.prefix ++ (part ++ tail_of cs) = uri.text ∙ ap (λ (us : List (List ℕ)). uri.prefix ++ join_with_byte 58 us) is ∙ ap (λ (v : List ℕ). uri.prefix ++ v) (components_joined part cs) in
      let present : IsSpellingOf w.part part = subst (IsSpellingOf w.part) (ap (λ (us : List (List ℕ)). get_or us 0 []) is) uri.part in
      let few : length cs ≤ 6 = omega (arith, uri.few, ap length is) in
      ap (λ (v : List ℕ). prefix_end (codes "cpe:/") v >>= scan_both (λ u. part_end u >>= components_end later) scan_ending) text
      ∙ ap (λ (x : Result (List ℕ) ℕ). x >>= scan_both (λ u. part_end u >>= components_end later) scan_ending) (prefix_taken (codes "cpe:/") uri.prefix (part ++ tail_of cs) uri.begins)
      ∙ ap (λ (x : Result (List ℕ) ℕ). (x >>= components_end later) >>= scan_ending) (part_taken w.part part (tail_of cs) uri.name.0 present (tail_ends cs))
      ∙ ap (λ (x : Result (List ℕ) ℕ). x >>= scan_ending) (at_once later (tail_of cs) ∙ rest_taken w later cs uri.name (uri_spelled w s part cs uri is) few)

-- the scanner of whole texts stops at the place of the text
pub leaves : (s : List ℕ) (left : ℕ) → whole_end s ≡ Err left → StopsAt IsUri s left
leaves s left e = stops_at IsUri whole_end whole_scans whole_taken s left e
