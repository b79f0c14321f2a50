-- Lemmas: the last name of a trace is an end of its first name.
use Rattle.std.proofs.Common.{◌≡◌, inl, inr, List, [], ◌∷◌, true, Some, None, map, filter, if◌then◌else◌, ap, sym, ◌∙◌, subst}
use Rattle.std.specs.List.{list_any, last_or}
use Rattle.cpe_rows.specs.cpe_name.Eleven.{Values}
use Rattle.cpe_rows.specs.Reach.{Among, Leads, is_reached}
use Rattle.cpe_rows.specs.Rows.{Rows, is_named}
use Rattle.cpe_rows.specs.Chains.{is_successor, is_active, chain, ends}
use Rattle.cpe_rows.specs.declared.entry.Entry.{Entry}
use Rattle.cpe_rows.specs.declared.statement.Mode.{Mode}
use Rattle.cpe_rows.specs.declared.statement.Mode.TheVariants.{Plain, Follow}
use Rattle.cpe_rows.proofs.NameTests.{same_is}
use Rattle.cpe_rows.proofs.Paths.{element_passes, is_kept, to_successor}
use Rattle.cpe_rows.proofs.Reaches.{decided}
use Rattle.certificate_check.specs.Leading.{followed}
use Rattle.certificate_check.specs.Traces.{IsActive, Precedes, IsPath, EndsWith, IsTrace}
use Rattle.certificate_check.proofs.Elements.{same_some}

-- ---- lists

pub mapped : {A B : Type 0} (f : A → B) (xs : List A) (x : A) → Among xs x → Among (map f xs) (f x)
mapped f [] x m = absurd m
mapped f (y ∷ xs) x (inl e) = inl (ap f e)
mapped f (y ∷ xs) x (inr m) = inr (mapped f xs x m)

-- ---- paths

module _ (es : List Entry) (n : Values) where
  abbrev active_ends : List Values
  active_ends = map (λ e. e.name) (filter is_active (chain es n))

  -- each entry of this name is at the end of a path from the start
  abbrev Arrives : Values → Type 0
  Arrives m = (e : Entry) → Among es e → e.name ≡ m → (before : List Entry) × Leads is_successor es (is_named n) before e

  arrives_first : Arrives n
  arrives_first e a is = ([], (same_is n e.name).1 (sym is))

  arrives_next : (m k : Values) → Arrives m → Precedes es m k → Arrives k
  arrives_next m k h p = λ e a is.
      let so_far = h p.0 p.1 p.2 in
      (p.0 ∷ so_far.0, (p.1, to_successor p.0 e k p.3 (sym is), so_far.1))

  at_end : (m : Values) → Arrives m → IsActive es m → Among active_ends m
  at_end m h p =
      let path = h p.0 p.1 p.2 in
      let reached : is_reached is_successor es (is_named n) p.0 ≡ true = (decided is_successor es (is_named n) p.0 p.1).1 path.0 path.1 in
      let in_chain : Among (chain es n) p.0 = is_kept (is_reached is_successor es (is_named n)) es p.0 p.1 reached in
      subst (Among active_ends) p.2 (mapped (λ e. e.name) (filter is_active (chain es n)) p.0 (is_kept is_active (chain es n) p.0 in_chain p.3))

  walk : (names : List Values) (m f : Values) → Arrives m → IsPath es (m ∷ names) → last_or (Some m) names ≡ Some f → Among active_ends f
  walk [] m f h p l = subst (Among active_ends) (same_some m f l) (at_end m h p)
  walk (k ∷ names) m f h p l = walk names k f (arrives_next m k h p.0) p.1 l

  pub named : (names : List Values) → IsPath es (n ∷ names) → list_any (is_named n) es ≡ true
  named [] p = element_passes (is_named n) es p.0 p.1 ((same_is n p.0.name).1 (sym p.2))
  named (k ∷ names) p = element_passes (is_named n) es p.0.0 p.0.1 ((same_is n p.0.0.name).1 (sym p.0.2))

  path_ends : (names : List Values) (f : Values) → IsPath es (n ∷ names) → last_or (Some n) names ≡ Some f → Among (ends es n) f
  path_ends names f p l = subst (λ c. Among (if c then active_ends else (n ∷ [])) f) (sym (named names p)) (walk names n f arrives_first p l)

alone : (n f : Values) (names : List Values) → names ≡ n ∷ [] → EndsWith f names → Among (n ∷ []) f
alone n f names t l = inl (same_some n f (ap (last_or None) (sym t) ∙ l))

pub trace-ends : (rows : Rows) (mode : Mode) (n f : Values) (names : List Values) → IsTrace rows mode n names → EndsWith f names
    → Among (ends (followed rows mode) n) f
trace-ends rows Plain n f names t l = alone n f names t l
trace-ends rows Follow n f [] (inl t) l = absurd t.0
trace-ends rows Follow n f (m ∷ names) (inl t) l =
    let at : IsPath rows.entries (n ∷ names) × (last_or (Some n) names ≡ Some f)
    = subst (λ x. IsPath rows.entries (x ∷ names) × (last_or (Some x) names ≡ Some f)) t.0 (t.1, l) in
    path_ends rows.entries n names f at.0 at.1
trace-ends rows Follow n f names (inr t) l =
    subst (λ c. Among (if c then active_ends rows.entries n else (n ∷ [])) f) (sym t.1) (alone n f names t.0 l)
