-- Lemmas: the causes to refuse a plan of a deprecation.
use Rattle.std.proofs.Common.{◌≡◌, ℕ, zero, suc, ◌+◌, Bool, true, false, cond, not, List, [], ◌∷◌, ◌++◌, refl, sym, ap, ◌∙◌, arith, zero-add, position, slice_get, find}
use Rattle.std.specs.Prelude.{Option, Some, None, is_some, option_map}
use Rattle.std.specs.List.{position_from}
use Rattle.std.specs.Option.{option_map_or}
use Rattle.std.proofs.lemmas.Option.{same_Some, none-some}
use Rattle.std.proofs.lemmas.Iterator.Adapters.{position_from-zero}
use Rattle.cpe_rows.specs.cpe_name.Eleven.{Values}
use Rattle.cpe_rows.specs.Causes.{IsCause}
use Rattle.cpe_rows.specs.Rows.{is_named, is_entry}
use Rattle.cpe_rows.specs.Chains.{is_active}
use Rattle.cpe_rows.specs.Faults.{when, is_deprecated}
use Rattle.cpe_rows.specs.Step.{first_some}
use Rattle.cpe_rows.specs.declared.entry.Entry.{Entry}
use Rattle.cpe_rows.specs.declared.fault.EditFault.{EditFault}
use Rattle.cpe_rows.specs.declared.fault.EditFault.TheVariants as fault
use Rattle.cpe_dictionary.specs.Causes.{state_causes}
use Rattle.cpe_dictionary.specs.Kept.{rows_of_entries}
use Rattle.cpe_rows.proofs.CauseLemmas.{first_behind, first_before, cause_moves}
use Rattle.cpe_dictionary.proofs.DictionaryLemmas.{no_entry}
use Rattle.cpe_rows.proofs.Lists.{has_place}
use Rattle.cpe_dictionary.proofs.SeenLemmas.{position_past}

-- ---- one list of causes after another

pub behind_none : (xs ys : List (Option EditFault)) → first_some xs ≡ None → first_some ys ≡ None → first_some (xs ++ ys) ≡ None
behind_none xs ys h k = first_behind xs ys h ∙ k

pub cause_before : (f : EditFault) (xs ys : List (Option EditFault)) → IsCause f (first_some xs) → IsCause f (first_some (xs ++ ys))
cause_before f xs ys h = cause_moves f (first_some xs) (first_some (xs ++ ys)) (first_before f xs ys) h

pub cause_behind : (f : EditFault) (xs ys : List (Option EditFault)) → first_some xs ≡ None → IsCause f (first_some ys) → IsCause f (first_some (xs ++ ys))
cause_behind f xs ys none h = cause_moves f (first_some ys) (first_some (xs ++ ys)) (λ e. first_behind xs ys none ∙ e) h

-- ---- the entry that an edit names

found_from : (p : Entry → Bool) (i : ℕ) (es : List Entry) (k : ℕ) → position_from p i es ≡ Some (i + k) → find p es ≡ slice_get es k
found_from p i [] k h = absurd (none-some (i + k) h)
found_from p i (e ∷ es) k h = go (p e) k h (λ j at. found_from p (i + 1) es j at)
  where
    go : (b : Bool) (j : ℕ) → cond b (Some i) (position_from p (i + 1) es) ≡ Some (i + j) → ((m : ℕ) → position_from p (i + 1) es ≡ Some (i + 1 + m) → find p es ≡ slice_get es m) → cond b (Some e) (find p es) ≡ slice_get (e ∷ es) j
    go true zero at rest = refl
    go true (suc j) at rest = let same = same_Some i (i + suc j) at in absurd (omega arith)
    go false zero at rest = let past = position_past p (i + 1) es (i + 0) at in absurd (omega arith)
    go false (suc j) at rest = let same : i + suc j ≡ i + 1 + j = omega arith in rest j (at ∙ ap Some same)

pub entry_found : (es : List Entry) (n : Values) (k : ℕ) → position (is_named n) es ≡ Some k → find (is_named n) es ≡ slice_get es k
entry_found es n k place = found_from (is_named n) 0 es k (sym (position_from-zero (is_named n) es) ∙ place ∙ ap Some (sym (zero-add k)))

-- whether the entry of a number is deprecated
pub state_known : (es : List Entry) (n : Values) (k : ℕ) (active : Bool) → position (is_named n) es ≡ Some k → option_map is_active (slice_get es k) ≡ Some active → is_deprecated (rows_of_entries es) n ≡ not active
state_known es n k active place state = ap (λ (o : Option Entry). option_map_or (λ (e : Entry). not (is_active e)) o false) (entry_found es n k place) ∙ go (slice_get es k) state
  where
    go : (o : Option Entry) → option_map is_active o ≡ Some active → option_map_or (λ (e : Entry). not (is_active e)) o false ≡ not active
    go None h = absurd (none-some active h)
    go (Some e) h = ap not (same_Some (is_active e) active h)

entry_known : (es : List Entry) (n : Values) (k : ℕ) → position (is_named n) es ≡ Some k → is_entry (rows_of_entries es) n ≡ true
entry_known es n k place = sym (has_place (is_named n) es) ∙ ap is_some place

pub unknown_first : (es : List Entry) (n : Values) (wanted : Bool) → position (is_named n) es ≡ None → first_some (state_causes es n wanted) ≡ Some fault.Unknown
unknown_first es n wanted h = ap (λ (b : Bool). first_some (when (not b) fault.Unknown ∷ state wanted ∷ [])) (no_entry es n h)
  where
    state : Bool → Option EditFault
    state b = cond b (when (is_deprecated (rows_of_entries es) n) fault.AlreadyDeprecated) (when (not (is_deprecated (rows_of_entries es) n)) fault.NotDeprecated)

-- the first fault of the state of an entry that exists
pub state_first : (es : List Entry) (n : Values) (k : ℕ) (wanted : Bool) → position (is_named n) es ≡ Some k
    → first_some (state_causes es n wanted) ≡ first_some (cond wanted (when (is_deprecated (rows_of_entries es) n) fault.AlreadyDeprecated) (when (not (is_deprecated (rows_of_entries es) n)) fault.NotDeprecated) ∷ [])
state_first es n k wanted place = ap (λ (b : Bool). first_some (when (not b) fault.Unknown ∷ cond wanted (when (is_deprecated (rows_of_entries es) n) fault.AlreadyDeprecated) (when (not (is_deprecated (rows_of_entries es) n)) fault.NotDeprecated) ∷ [])) (entry_known es n k place)

-- the first fault of the state of an entry, if it is known whether the entry is active
pub state_is : (es : List Entry) (n : Values) (k : ℕ) (wanted active : Bool) → position (is_named n) es ≡ Some k → option_map is_active (slice_get es k) ≡ Some active
    → first_some (state_causes es n wanted) ≡ cond wanted (when (not active) fault.AlreadyDeprecated) (when active fault.NotDeprecated)
state_is es n k wanted active place state =
    state_first es n k wanted place
    ∙ ap (λ (b : Bool). first_some (cond wanted (when b fault.AlreadyDeprecated) (when (not b) fault.NotDeprecated) ∷ [])) (state_known es n k active place state)
    ∙ only wanted active
  where
    only : (w a : Bool) → first_some (cond w (when (not a) fault.AlreadyDeprecated) (when (not (not a)) fault.NotDeprecated) ∷ []) ≡ cond w (when (not a) fault.AlreadyDeprecated) (when a fault.NotDeprecated)
    only true true = refl
    only true false = refl
    only false true = refl
    only false false = refl
