-- Lemmas: the facts that are unchanged if a deprecation is changed.
use Rattle.std.proofs.Common.{◌≡◌, ◌||◌, ◌⊎◌, List, [], ◌∷◌, ◌++◌, Bool, true, false, cond, Option, Some, None, refl, ap, sym, ◌∙◌, subst, inl, inr}
use Rattle.std.specs.Prelude.{filter}
use Rattle.std.specs.List.{list_any, flat_map}
use Rattle.std.proofs.lemmas.Bool.{or_parts, true≢false}
use Rattle.std.proofs.lemmas.List.Folds.{list_any-append}
use Rattle.std.proofs.lemmas.Option.{same_Some}
use Rattle.cpe_name.specs.Eleven.{Values}
use Rattle.cpe_relation.specs.NameRelation.{covers}
use Rattle.cpe_relation.specs.Maybe.{maybe}
use Rattle.cpe_rows.specs.Rows.{Rows}
use Rattle.cpe_rows.specs.Reach.{Among}
use Rattle.cpe_rows.specs.Chains.{leads_to, ends}
use Rattle.cpe_rows.specs.After.{after, changed, deprecated}
use Rattle.cpe_rows.specs.Verdict.{truth, fact_truth, is_followed}
use Rattle.cpe_rows.specs.declared.entry.Entry.{Entry}
use Rattle.cpe_rows.specs.declared.entry.NoteKind.TheVariants as note
use Rattle.cpe_rows.specs.declared.edit.Edit.{Edit}
use Rattle.cpe_rows.specs.declared.edit.Edit.TheVariants as edit
use Rattle.cpe_rows.specs.declared.statement.Mode.{Mode}
use Rattle.cpe_rows.specs.declared.statement.Mode.TheVariants.{Plain, Follow}
use Rattle.cpe_rows.proofs.Lists.{no_element, not_element, same_any}
use Rattle.cpe_rows.specs.Touching.{deprecation_changed, reaches, touches_deprecation}
use Rattle.cpe_rows.proofs.ChainChanges.{same_ends}
use Rattle.cpe_rows.proofs.Reaching.{none_reached}

-- If nothing passes in the lists of the kept elements, then nothing passes in the list of any kept element x.
module _ (p : Values → Bool) (of : Values → List Values) (keep : Values → Bool) where
  in_none : (xs : List Values) → list_any p (flat_map of (filter keep xs)) ≡ false → (x : Values) → Among xs x → keep x ≡ true
      → list_any p (of x) ≡ false
  in_none [] h x m t = absurd m
  in_none (y ∷ ys) h x m t = go (keep y) refl h m (in_none ys) where
    go : (b : Bool) → keep y ≡ b → list_any p (flat_map of (cond b (y ∷ filter keep ys) (filter keep ys))) ≡ false → (y ≡ x) ⊎ Among ys x
        → (list_any p (flat_map of (filter keep ys)) ≡ false → (z : Values) → Among ys z → keep z ≡ true → list_any p (of z) ≡ false)
        → list_any p (of x) ≡ false
    go true e none (inl k) later =
        ap (λ z. list_any p (of z)) (sym k)
        ∙ (or_parts (list_any p (of y)) (list_any p (flat_map of (filter keep ys))) (sym (list_any-append p (of y) (flat_map of (filter keep ys))) ∙ none)).0
    go true e none (inr k) later =
        later (or_parts (list_any p (of y)) (list_any p (flat_map of (filter keep ys))) (sym (list_any-append p (of y) (flat_map of (filter keep ys))) ∙ none)).1 x k t
    go false e none (inl k) later = absurd (true≢false (sym t ∙ (ap keep (sym k) ∙ e)))
    go false e none (inr k) later = later none x k t

-- Only names that lead to n have other ends after the change.
module _ (es left : List Entry) (items : List Values) (n : Values) (same : (x : Values) → leads_to es x n ≡ false → ends left x ≡ ends es x) where
  abbrev both_ends : Values → List Values
  both_ends x = ends es x ++ ends left x

  abbrev leads : Values → Bool
  leads x = leads_to es x n

  abbrev touched : List Values
  touched = flat_map both_ends (filter leads items)

  module _ (relates : Values → Values → Bool) (f : Values) (apart : leads_to es f n ≡ false) (unmet : list_any (λ g. list_any (relates g) touched) (ends es f) ≡ false) where
    abbrev related_in : List Values → Values → Bool
    related_in xs g = list_any (relates g) xs

    both_apart : (x : Values) → Among items x → leads_to es x n ≡ true → (g : Values) → Among (ends es f) g
        → (list_any (relates g) (ends es x) ≡ false) × (list_any (relates g) (ends left x) ≡ false)
    both_apart x m t g k =
        let none = in_none (relates g) both_ends leads items (not_element (related_in touched) (ends es f) unmet g k) x m t in
        or_parts (list_any (relates g) (ends es x)) (list_any (relates g) (ends left x)) (sym (list_any-append (relates g) (ends es x) (ends left x)) ∙ none)

    same_followed : (x : Values) → Among items x → is_followed relates left f x ≡ is_followed relates es f x
    same_followed x m = go (leads_to es x n) refl where
      go : (b : Bool) → leads_to es x n ≡ b → is_followed relates left f x ≡ is_followed relates es f x
      go true t =
          ap (list_any (related_in (ends left x))) (same f apart)
          ∙ (no_element (related_in (ends left x)) (ends es f) (λ g k. (both_apart x m t g k).1)
          ∙ sym (no_element (related_in (ends es x)) (ends es f) (λ g k. (both_apart x m t g k).0)))
      go false t = λ i. list_any (related_in (same x t i)) (same f apart i)

    all_followed : list_any (is_followed relates left f) items ≡ list_any (is_followed relates es f) items
    all_followed = same_any (is_followed relates left f) (is_followed relates es f) items same_followed

  pub followed : (f : Values) → (leads_to es f n || list_any (λ g. list_any (reaches g) touched) (ends es f)) ≡ false
      → truth (list_any (is_followed covers left f) items) (list_any (is_followed maybe left f) items)
      ≡ truth (list_any (is_followed covers es f) items) (list_any (is_followed maybe es f) items)
  followed f h =
      let parts = or_parts (leads_to es f n) (list_any (λ g. list_any (reaches g) touched) (ends es f)) h in
      let none = none_reached (ends es f) touched parts.1 in
      λ i. truth (all_followed covers f parts.0 none.0 i) (all_followed maybe f parts.0 none.1 i)

-- The entries are replaced by others. The ends of names that don't lead to n are unchanged.
pub record KeepsOtherEnds (rows : Rows) (n : Values) (next : Rows) : Type 0 where
  pub entries : List Entry
  pub left : next ≡ record rows { entries = entries }
  pub same : (x : Values) → leads_to rows.entries x n ≡ false → ends entries x ≡ ends rows.entries x

module _ (rows : Rows) (m n : Values) (e : m ≡ n) where
  leaves_changed : (f : Entry → Entry) → ((a : Entry) → (f a).name ≡ a.name) → KeepsOtherEnds rows n (record rows { entries = changed f m rows.entries })
  leaves_changed f keeps = record {
    entries = changed f m rows.entries;
    left = refl;
    same = λ x h. same_ends f m keeps rows.entries x (ap (leads_to rows.entries x) e ∙ h);
  }

abbrev none : Option Values
none = None

no_name : {n : Values} {P : Type 0} → none ≡ Some n → P
no_name h = let wrong : ⊥ = cc in absurd wrong

pub leaves : (rows : Rows) (e : Edit) (n : Values) → deprecation_changed e ≡ Some n → KeepsOtherEnds rows n (after rows e)
leaves rows (edit.Deprecate m d date comment) n h = leaves_changed rows m n (same_Some m n h) (deprecated (Some d) note.Deprecation date comment) (λ a. refl)
leaves rows (edit.Amend m d date comment) n h = leaves_changed rows m n (same_Some m n h) (deprecated (Some d) note.DeprecationModification date comment) (λ a. refl)
leaves rows (edit.Restore m date comment) n h = leaves_changed rows m n (same_Some m n h) (deprecated None note.DeprecationModification date comment) (λ a. refl)
leaves rows (edit.Entry e) n h = no_name h
leaves rows (edit.Item m) n h = no_name h
leaves rows (edit.DropItem m) n h = no_name h
leaves rows (edit.PutStatement s) n h = no_name h
leaves rows (edit.DropStatement id) n h = no_name h
leaves rows (edit.SetCheck k t) n h = no_name h
leaves rows (edit.DropCheck k) n h = no_name h

pub same_ends_after : (rows : Rows) (e : Edit) (n x : Values) → deprecation_changed e ≡ Some n → leads_to rows.entries x n ≡ false
    → ends (after rows e).entries x ≡ ends rows.entries x
same_ends_after rows e n x h apart = let w = leaves rows e n h in ap (λ (r : Rows). ends r.entries x) w.left ∙ w.same x apart

facts_at : (rows : Rows) (n f : Values) (mode : Mode) (entries : List Entry) → ((x : Values) → leads_to rows.entries x n ≡ false → ends entries x ≡ ends rows.entries x)
    → touches_deprecation rows (record rows { entries = entries }) n mode f ≡ false → fact_truth (record rows { entries = entries }) mode f ≡ fact_truth rows mode f
facts_at rows n f Plain entries same h = refl
facts_at rows n f Follow entries same h = followed rows.entries entries rows.items n same f h

pub same_facts : (rows : Rows) (e : Edit) (n f : Values) (mode : Mode) → deprecation_changed e ≡ Some n
    → touches_deprecation rows (after rows e) n mode f ≡ false → fact_truth (after rows e) mode f ≡ fact_truth rows mode f
same_facts rows e n f mode h = let w = leaves rows e n h in
    subst (λ (next : Rows). touches_deprecation rows next n mode f ≡ false → fact_truth next mode f ≡ fact_truth rows mode f) (sym w.left)
    (facts_at rows n f mode w.entries w.same)
