-- Lemmas about paths of entries with different names: to which entries they lead.
use Rattle.std.proofs.Common.{◌≡◌, ◌⊎◌, List, [], ◌∷◌, Bool, true, false, not, cond, refl, ap, sym, ◌∙◌, subst, inl, inr}
use Rattle.std.specs.Prelude.{filter}
use Rattle.std.specs.List.{list_any}
use Rattle.std.proofs.lemmas.Bool.{or_left, or_right, or_cases, and_parts, not-true, true≢false}
use Rattle.cpe_name.specs.Eleven.{Values}
use Rattle.cpe_rows.specs.Names.{is_same}
use Rattle.cpe_rows.specs.Rows.{is_named}
use Rattle.cpe_rows.specs.Reach.{is_reached, Among, Leads}
use Rattle.cpe_rows.specs.Chains.{successors_of, is_successor, leads_to}
use Rattle.cpe_rows.specs.Lawful.{are_different}
use Rattle.cpe_rows.specs.declared.entry.Entry.{Entry}
use Rattle.cpe_rows.proofs.Lists.{not_element}
use Rattle.cpe_rows.proofs.NameTests.{same_is}
use Rattle.cpe_rows.proofs.Reaches.{decided}
use Rattle.cpe_rows.proofs.ChangedEntries.{AreNamed}

module _ {A : Type 0} (p : A → Bool) where
  -- Some element passes the test.
  abbrev pub Passes : List A → Type 0
  Passes xs = (a : A) × Among xs a × (p a ≡ true)

  pub some_element : (xs : List A) → list_any p xs ≡ true → Passes xs
  some_element [] h = let wrong : ⊥ = cc in absurd wrong
  some_element (x ∷ xs) h = go (some_element xs) (or_cases (p x) (list_any p xs) h) where
    go : (list_any p xs ≡ true → Passes xs) → (p x ≡ true) ⊎ (list_any p xs ≡ true) → Passes (x ∷ xs)
    go later (inl t) = (x, inl refl, t)
    go later (inr t) = let rest = later t in (rest.0, inr rest.1, rest.2)

  pub element_passes : (xs : List A) (a : A) → Among xs a → p a ≡ true → list_any p xs ≡ true
  element_passes [] a m h = absurd m
  element_passes (x ∷ xs) a (inl k) h = or_left (p x) (list_any p xs) (ap p k ∙ h)
  element_passes (x ∷ xs) a (inr k) h = or_right (p x) (list_any p xs) (element_passes xs a k h)

  -- Exactly the elements that pass are kept.
  pub was_kept : (xs : List A) (a : A) → Among (filter p xs) a → Among xs a × (p a ≡ true)
  was_kept [] a m = absurd m
  was_kept (x ∷ xs) a m = go (p x) refl m (was_kept xs a) where
    go : (b : Bool) → p x ≡ b → Among (cond b (x ∷ filter p xs) (filter p xs)) a → (Among (filter p xs) a → Among xs a × (p a ≡ true))
        → Among (x ∷ xs) a × (p a ≡ true)
    go true t (inl k) later = (inl k, ap p (sym k) ∙ t)
    go true t (inr k) later = let rest = later k in (inr rest.0, rest.1)
    go false t k later = let rest = later k in (inr rest.0, rest.1)

  pub is_kept : (xs : List A) (a : A) → Among xs a → p a ≡ true → Among (filter p xs) a
  is_kept [] a m h = absurd m
  is_kept (x ∷ xs) a (inl k) h = subst (λ b. Among (cond b (x ∷ filter p xs) (filter p xs)) a) (sym (ap p k ∙ h)) (inl k)
  is_kept (x ∷ xs) a (inr k) h = go (p x) (is_kept xs a k h) where
    go : (b : Bool) → Among (filter p xs) a → Among (cond b (x ∷ filter p xs) (filter p xs)) a
    go true m = inr m
    go false m = m

-- Two entries of the same name are the same entry.
pub same_entry : (es : List Entry) → AreNamed es → (a b : Entry) → Among es a → Among es b → a.name ≡ b.name → a ≡ b
same_entry [] h a b k m e = absurd k
same_entry (x ∷ xs) h a b k m e =
    let parts = and_parts (not (list_any (is_named x.name) xs)) (are_different (λ e. is_named e.name) xs) h in
    go k m (not_element (is_named x.name) xs (not-true (list_any (is_named x.name) xs) parts.0)) (same_entry xs parts.1 a b) where
      go : (x ≡ a) ⊎ Among xs a → (x ≡ b) ⊎ Among xs b → ((c : Entry) → Among xs c → is_named x.name c ≡ false)
          → (Among xs a → Among xs b → a.name ≡ b.name → a ≡ b) → a ≡ b
      go (inl k) (inl m) new later = sym k ∙ m
      go (inl k) (inr m) new later = absurd (true≢false (sym ((same_is x.name b.name).1 (ap (λ (c : Entry). c.name) k ∙ e)) ∙ new b m))
      go (inr k) (inl m) new later = absurd (true≢false (sym ((same_is x.name a.name).1 (ap (λ (c : Entry). c.name) m ∙ sym e)) ∙ new a k))
      go (inr k) (inr m) new later = later k m e

-- An entry whose name is among the successors of another entry is a successor of that entry.
pub to_successor : (a b : Entry) (s : Values) → Among (successors_of a) s → s ≡ b.name → is_successor a b ≡ true
to_successor a b s m e = element_passes (is_same b.name) (successors_of a) s m ((same_is b.name s).1 (sym e))

module _ (es : List Entry) where
  -- There is a path by which the first name leads to an entry of the second name.
  abbrev pub HasPath : Values → Values → Type 0
  HasPath s y = (b : Entry) × Among es b × (y ≡ b.name) × (before : List Entry) × Leads is_successor es (is_named s) before b

  pub has_path : (s y : Values) → leads_to es s y ≡ true → HasPath s y
  has_path s y h =
      let one = some_element (is_named y) (filter (is_reached is_successor es (is_named s)) es) h in
      let kept = was_kept (is_reached is_successor es (is_named s)) es one.0 one.1 in
      let path = (decided is_successor es (is_named s) one.0 kept.0).0 kept.1 in
      (one.0, kept.0, (same_is y one.0.name).0 one.2, path.0, path.1)

  pub path_leads : (s : Values) (b : Entry) (before : List Entry) → Among es b → Leads is_successor es (is_named s) before b
      → leads_to es s b.name ≡ true
  path_leads s b before m l =
      element_passes (is_named b.name) (filter (is_reached is_successor es (is_named s)) es) b
      (is_kept (is_reached is_successor es (is_named s)) es b m ((decided is_successor es (is_named s) b m).1 before l))
      ((same_is b.name b.name).1 refl)

  module _ (named : AreNamed es) where
    -- A path can be extended by one edge.
    pub leads_on : (s : Values) (a b : Entry) → Among es a → Among es b → is_successor a b ≡ true → leads_to es s a.name ≡ true
        → leads_to es s b.name ≡ true
    leads_on s a b k m edge h =
        let path = has_path s a.name h in
        let before = subst (Leads is_successor es (is_named s) path.3) (same_entry es named path.0 a path.1 k (sym path.2)) path.4 in
        path_leads s b (a ∷ path.3) m (k, edge, before)

    -- Two paths can be joined, if the second begins at a successor of the first one's last entry.
    leads_along : (s t : Values) (a : Entry) → Among es a → Among (successors_of a) t → leads_to es s a.name ≡ true
        → (before : List Entry) (b : Entry) → Among es b → Leads is_successor es (is_named t) before b → leads_to es s b.name ≡ true
    leads_along s t a k edge h [] b m l =
        leads_on s a b k m (to_successor a b t edge ((same_is t b.name).0 l)) h
    leads_along s t a k edge h (c ∷ before) b m l = leads_on s c b l.0 m l.1 (leads_along s t a k edge h before c l.0 l.2)

    pub leads_further : (s t y : Values) (a : Entry) → Among es a → Among (successors_of a) t → leads_to es s a.name ≡ true
        → leads_to es t y ≡ true → leads_to es s y ≡ true
    leads_further s t y a k edge h g = let path = has_path t y g in
        ap (leads_to es s) path.2 ∙ leads_along s t a k edge h path.3 path.0 path.1 path.4
