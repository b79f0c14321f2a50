-- Lemmas: an entry gets new successors. If none of them led to the entry, no cycle arises.
use Rattle.std.proofs.Common.{◌≡◌, ◌⊎◌, List, [], ◌∷◌, true, false, refl, ap, sym, ◌∙◌, subst, inl, inr}
use Rattle.std.specs.List.{list_any}
use Rattle.std.proofs.lemmas.Bool.{false_from_ne_true, true≢false}
use Rattle.cpe_name.specs.Eleven.{Values}
use Rattle.cpe_rows.specs.Names.{is_same}
use Rattle.cpe_rows.specs.Rows.{is_named}
use Rattle.cpe_rows.specs.Reach.{Among, Leads}
use Rattle.cpe_rows.specs.Chains.{successors_of, is_successor, leads_to}
use Rattle.cpe_rows.specs.After.{changed}
use Rattle.cpe_rows.specs.Lawful.{is_cyclic}
use Rattle.cpe_rows.specs.declared.entry.Entry.{Entry}
use Rattle.cpe_rows.proofs.Lists.{no_element, not_element}
use Rattle.cpe_rows.proofs.NameTests.{same_is}
use Rattle.cpe_rows.proofs.ChangedEntries.{AreNamed, Was, was}
use Rattle.cpe_rows.proofs.Paths.{some_element, element_passes, has_path, path_leads, leads_on, leads_further}

module _ (es : List Entry) (named : AreNamed es) (acyclic : list_any (is_cyclic es) es ≡ false)
    (f : Entry → Entry) (n : Values) (keeps : (e : Entry) → (f e).name ≡ e.name)
    (ts : List Values) (to : (e : Entry) → successors_of (f e) ≡ ts) (apart : list_any (λ t. leads_to es t n) ts ≡ false) where
  abbrev left : List Entry
  left = changed f n es

  -- the entry of the same name before the change
  abbrev Former : Entry → Type 0
  Former b = (a : Entry) × Among es a × (a.name ≡ b.name)

  former : (b : Entry) → Was f n es b → Former b
  former b (inl w) = (w.0, w.1, sym (keeps w.0) ∙ ap (λ (e : Entry). e.name) w.3)
  former b (inr w) = (b, w.0, refl)

  -- The changed entry has the name n.
  its_name : (a b : Entry) → is_named n a ≡ true → f a ≡ b → n ≡ b.name
  its_name a b t e = (same_is n a.name).0 t ∙ (sym (keeps a) ∙ ap (λ (e : Entry). e.name) e)

  old : (b : Entry) → Among left b → Was f n es b
  old = was f n es named

  -- A new path is an old path, or it has two old paths: from s to the changed entry, and from one of the new successors
  -- to b.
  abbrev Splits : Values → Entry → Type 0
  Splits s b = (leads_to es s b.name ≡ true) ⊎ ((leads_to es s n ≡ true) × (t : Values) × Among ts t × (leads_to es t b.name ≡ true))

  -- A name leads to its own entry.
  leads_here : (s : Values) (b : Entry) → is_named s b ≡ true → Former b → leads_to es s b.name ≡ true
  leads_here s b h o = ap (leads_to es s) (sym o.2) ∙ path_leads es s o.0 [] o.1 (ap (is_same s) o.2 ∙ h)

  to_changed : (s : Values) (a : Entry) → n ≡ a.name → Splits s a → leads_to es s n ≡ true
  to_changed s a e (inl h) = ap (leads_to es s) e ∙ h
  to_changed s a e (inr h) = h.0

  -- A path is extended by an edge that was there before the change.
  along : (s : Values) (a b : Entry) → Among es a → is_successor a b ≡ true → Former b → leads_to es s a.name ≡ true
      → leads_to es s b.name ≡ true
  along s a b k edge o h =
      ap (leads_to es s) (sym o.2) ∙ leads_on es named s a o.0 k o.1 (ap (λ m. list_any (is_same m) (successors_of a)) o.2 ∙ edge) h

  one_more : (s : Values) (a b : Entry) → Was f n es a → Former b → is_successor a b ≡ true → Splits s a → Splits s b
  one_more s a b (inr w) o edge (inl h) = inl (along s a b w.0 edge o h)
  one_more s a b (inr w) o edge (inr h) = inr (h.0, h.1, h.2, along h.1 a b w.0 edge o h.3)
  one_more s a b (inl w) o edge h =
      let among = ap (list_any (is_same b.name)) (sym (to w.0)) ∙ (ap (λ (e : Entry). is_successor e b) w.3 ∙ edge) in
      let t = some_element (is_same b.name) ts among in
      let e : t.0 ≡ b.name = sym ((same_is b.name t.0).0 t.2) in
      inr (to_changed s a (its_name w.0 a w.2 w.3) h, t.0, t.1, leads_here t.0 b ((same_is t.0 b.name).1 e) o)

  splits : (s : Values) (before : List Entry) (b : Entry) → Among left b → Leads is_successor left (is_named s) before b → Splits s b
  splits s [] b m l = inl (leads_here s b l (former b (old b m)))
  splits s (a ∷ before) b m l = one_more s a b (old a l.0) (former b (old b m)) l.1 (splits s before a l.0 l.2)

  no_way_back : (t : Values) → Among ts t → leads_to es t n ≡ true → ⊥
  no_way_back t m h = true≢false (sym h ∙ not_element (λ t. leads_to es t n) ts apart t m)

  -- An entry is not reached from its own successors, because each form of a path back is impossible.
  closes : (b : Entry) (s : Values) → Among (successors_of b) s → Was f n es b → Splits s b → ⊥
  closes b s m (inl w) h =
      let among = subst (λ (ss : List Values). Among ss s) (ap successors_of (sym w.3) ∙ to w.0) m in
      no_way_back s among (to_changed s b (its_name w.0 b w.2 w.3) h)
  closes b s m (inr w) (inl h) =
      true≢false (sym (element_passes (λ s. leads_to es s b.name) (successors_of b) s m h) ∙ not_element (is_cyclic es) es acyclic b w.0)
  closes b s m (inr w) (inr h) = no_way_back h.1 h.2 (leads_further es named h.1 s n b w.0 m h.3 h.0)

  pub no_new_cycle : list_any (is_cyclic left) left ≡ false
  no_new_cycle = no_element (is_cyclic left) left (λ b m. false_from_ne_true (is_cyclic left b) (λ h.
      let one = some_element (λ s. leads_to left s b.name) (successors_of b) h in
      let path = has_path left one.0 b.name one.2 in
      closes b one.0 one.1 (old b m) (at_name b one.0 path.0 path.2 (splits one.0 path.3 path.0 path.1 path.4)))) where
        at_name : (b : Entry) (s : Values) (a : Entry) → b.name ≡ a.name → Splits s a → Splits s b
        at_name b s a e (inl h) = inl (ap (leads_to es s) e ∙ h)
        at_name b s a e (inr h) = inr (h.0, h.1, h.2, ap (leads_to es h.1) e ∙ h.3)
