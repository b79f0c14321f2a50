-- Lemmas: the nodes of entries after a change of one entry, and after the addition of an entry.
use Rattle.std.proofs.Common.{◌≡◌, ◌⊎◌, inl, inr, ℕ, zero, suc, ◌+◌, Bool, true, false, cond, is_none, List, [], ◌∷◌, ◌++◌, map, refl, sym, ap, ◌∙◌, Option, Some, None, slice_get, slice_set}
use Rattle.std.specs.List.{list_all, list_any, cons_option, position, position_from}
use Rattle.std.specs.Option.{option_map_or}
use Rattle.std.proofs.lemmas.Option.{same_Some, none-some}
use Rattle.std.proofs.lemmas.Bool.{and_parts, or_cases}
use Rattle.std.proofs.lemmas.List.{map-append}
use Rattle.std.proofs.lemmas.Iterator.Adapters.{position_from-zero}
use Rattle.cpe_rows.specs.cpe_name.Eleven.{Values}
use Rattle.cpe_rows.specs.Names.{is_same}
use Rattle.cpe_rows.specs.Chains.{is_active, successors_of}
use Rattle.cpe_rows.specs.Lawful.{has_successors}
use Rattle.cpe_rows.specs.Rows.{is_named}
use Rattle.cpe_rows.specs.declared.entry.Entry.{Entry}
use Rattle.cpe_rows.specs.declared.entry.Deprecation.{Deprecation}
use Rattle.deprecation_graph.specs.Graph.{Node, node_of}
use Rattle.cpe_dictionary.specs.Numbers.{numbers_of, node_of_entry, nodes_of_entries, ChangesByNumber, AdditionsByNumber}

-- ---- an entry that replaces another

place_set : (p : Entry → Bool) (i : ℕ) (es : List Entry) (k : ℕ) (x e : Entry) → slice_get es k ≡ Some e → p x ≡ p e → position_from p i (slice_set es k x) ≡ position_from p i es
place_set p i [] k x e at h = absurd (none-some e at)
place_set p i (z ∷ zs) zero x e at h = ap (λ (b : Bool). cond b (Some i) (position_from p (i + 1) zs)) (h ∙ ap p (sym (same_Some z e at)))
place_set p i (z ∷ zs) (suc k) x e at h = ap (λ (o : Option ℕ). cond (p z) (Some i) o) (place_set p (i + 1) zs k x e at h)

map_set : (f : Entry → Node) (es : List Entry) (k : ℕ) (x : Entry) → map f (slice_set es k x) ≡ slice_set (map f es) k (f x)
map_set f [] k x = refl
map_set f (z ∷ zs) zero x = refl
map_set f (z ∷ zs) (suc k) x = ap (λ (ns : List Node). f z ∷ ns) (map_set f zs k x)

module _ (entries : List Entry) (k : ℕ) (e x : Entry) (at : slice_get entries k ≡ Some e) (same : x.name ≡ e.name) where
  numbers_set : (ns : List Values) → numbers_of (slice_set entries k x) ns ≡ numbers_of entries ns
  numbers_set [] = refl
  numbers_set (n ∷ ns) =
      let place : position (is_named n) (slice_set entries k x) ≡ position (is_named n) entries =
      position_from-zero (is_named n) (slice_set entries k x) ∙ place_set (is_named n) 0 entries k x e at (ap (is_same n) same) ∙ sym (position_from-zero (is_named n) entries) in
      ap (λ (o : Option ℕ). cons_option o (numbers_of (slice_set entries k x) ns)) place ∙ ap (cons_option (position (is_named n) entries)) (numbers_set ns)

  alike : (y : Entry) → node_of_entry (slice_set entries k x) y ≡ node_of_entry entries y
  alike y = λ i. record { active = is_active y; next = numbers_set (successors_of y) i }

  nodes_set : nodes_of_entries (slice_set entries k x) ≡ slice_set (nodes_of_entries entries) k (node_of_entry entries x)
  nodes_set = (λ i. map (λ y. alike y i) (slice_set entries k x)) ∙ map_set (node_of_entry entries) entries k x

pub changes_law : ChangesByNumber
changes_law entries k e x at same = nodes_set entries k e x at same

-- ---- an entry is added

place_push : (p : Entry → Bool) (i : ℕ) (es : List Entry) (x : Entry) → list_any p es ≡ true → position_from p i (es ++ x ∷ []) ≡ position_from p i es
place_push p i [] x h = absurd cc
place_push p i (z ∷ zs) x h = go (p z) refl (place_push p (i + 1) zs x) (or_cases (p z) (list_any p zs) h)
  where
    go : (b : Bool) → p z ≡ b → (list_any p zs ≡ true → position_from p (i + 1) (zs ++ x ∷ []) ≡ position_from p (i + 1) zs) → (p z ≡ true) ⊎ (list_any p zs ≡ true) → cond b (Some i) (position_from p (i + 1) (zs ++ x ∷ [])) ≡ cond b (Some i) (position_from p (i + 1) zs)
    go true f rest r = refl
    go false f rest (inl t) = let wrong : false ≡ true = sym f ∙ t in absurd (let w : ⊥ = cc in w)
    go false f rest (inr later) = rest later

module _ (entries : List Entry) (e : Entry) where
  numbers_push : (ns : List Values) → list_all (λ s. list_any (is_named s) entries) ns ≡ true → numbers_of (entries ++ e ∷ []) ns ≡ numbers_of entries ns
  numbers_push [] h = refl
  numbers_push (n ∷ ns) h =
      let parts = and_parts (list_any (is_named n) entries) (list_all (λ s. list_any (is_named s) entries) ns) h in
      let place : position (is_named n) (entries ++ e ∷ []) ≡ position (is_named n) entries =
      position_from-zero (is_named n) (entries ++ e ∷ []) ∙ place_push (is_named n) 0 entries e parts.0 ∙ sym (position_from-zero (is_named n) entries) in
      ap (λ (o : Option ℕ). cons_option o (numbers_of (entries ++ e ∷ []) ns)) place ∙ ap (cons_option (position (is_named n) entries)) (numbers_push ns parts.1)

  nodes_push : (es : List Entry) → list_all (has_successors entries) es ≡ true → map (node_of_entry (entries ++ e ∷ [])) es ≡ map (node_of_entry entries) es
  nodes_push [] h = refl
  nodes_push (y ∷ ys) h =
      let parts = and_parts (has_successors entries y) (list_all (has_successors entries) ys) h in
      let node : node_of_entry (entries ++ e ∷ []) y ≡ node_of_entry entries y = (λ i. record { active = is_active y; next = numbers_push (successors_of y) parts.0 i }) in
      ap (λ (n : Node). n ∷ map (node_of_entry (entries ++ e ∷ [])) ys) node ∙ ap (λ (ns : List Node). node_of_entry entries y ∷ ns) (nodes_push ys parts.1)

  bare : is_active e ≡ true → node_of_entry (entries ++ e ∷ []) e ≡ node_of None
  bare h = go e.deprecation h
    where
      go : (o : Option Deprecation) → is_none o ≡ true → record { active = is_none o; next = numbers_of (entries ++ e ∷ []) (option_map_or (λ (d : Deprecation). d.successors) o []) } ≡ node_of None
      go None t = refl
      go (Some d) t = absurd cc

pub additions_law : AdditionsByNumber
additions_law entries e kept active =
    map-append (node_of_entry (entries ++ e ∷ [])) entries (e ∷ [])
    ∙ ap (λ (ns : List Node). ns ++ node_of_entry (entries ++ e ∷ []) e ∷ []) (nodes_push entries e entries kept)
    ∙ ap (λ (n : Node). nodes_of_entries entries ++ n ∷ []) (bare entries e active)
