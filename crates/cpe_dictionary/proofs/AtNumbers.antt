-- Lemmas: the names of the active entries of a list.
use Rattle.std.proofs.Common.{◌≡◌, Bool, true, false, cond, not, List, [], ◌∷◌, ◌++◌, map, filter, refl, sym, ap}
use Rattle.std.specs.Prelude.{Option, Some, None, is_none, is_some}
use Rattle.cpe_rows.specs.cpe_name.Eleven.{Values}
use Rattle.cpe_rows.specs.Chains.{is_active}
use Rattle.cpe_rows.specs.declared.entry.Entry.{Entry}
use Rattle.cpe_rows.specs.declared.entry.Deprecation.{Deprecation}

abbrev pub active_names : List Entry → List Values
active_names es = map (λ (e : Entry). e.name) (filter is_active es)

abbrev pub active_name : Entry → List Values
active_name e = active_names (e ∷ [])

prefix : (b : Bool) (e : Entry) (es : List Entry) → map (λ (x : Entry). x.name) (cond b (e ∷ filter is_active es) (filter is_active es)) ≡ map (λ (x : Entry). x.name) (cond b (e ∷ []) []) ++ active_names es
prefix true e es = refl
prefix false e es = refl

pub active_names-cons : (e : Entry) (es : List Entry) → active_names (e ∷ es) ≡ active_name e ++ active_names es
active_names-cons e es = prefix (is_active e) e es

pub active_where : (o : Option Deprecation) (b : Bool) → is_some o ≡ not b → is_none o ≡ b
active_where None true h = refl
active_where None false h = sym h
active_where (Some d) true h = sym h
active_where (Some d) false h = refl

pub of_active : (e : Entry) → is_active e ≡ true → active_name e ≡ e.name ∷ []
of_active e h = ap (λ (b : Bool). map (λ (x : Entry). x.name) (cond b (e ∷ []) [])) h

pub of_inactive : (e : Entry) → is_active e ≡ false → active_name e ≡ []
of_inactive e h = ap (λ (b : Bool). map (λ (x : Entry). x.name) (cond b (e ∷ []) [])) h
