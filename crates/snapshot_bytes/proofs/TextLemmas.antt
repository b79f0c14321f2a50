-- Lemmas: the keys of a test's check references.
use Rattle.std.proofs.Common.{◌≡◌, ◌<◌, ◌+◌, ℕ, Bool, List, [], ◌∷◌, ◌++◌, length, take, get_or, ap, subst, sym, ◌∙◌}
use Rattle.std.proofs.lemmas.List.{append-nil, take_more}
use Rattle.std.proofs.lemmas.List.Concat.{flat_map-append}
use Rattle.std.proofs.lemmas.List.Folds.{flat_map-map}
use Rattle.std.specs.List.{AllByRecursion, flat_map}
use Rattle.cpe_rows.specs.cpe_name.Eleven.{Values}
use Rattle.cpe_rows.specs.declared.test.CheckKey.{CheckKey}
use Rattle.cpe_rows.specs.declared.test.Operator.{Operator}
use Rattle.cpe_rows.specs.declared.test.Test.{Test, Logic, Fact, Check}
use Rattle.cpe_rows.specs.declared.test.Test.TheFolds.{fold-roll-Test}
use Rattle.cpe_rows.specs.declared.test.Test.TheOpen.{Test-F}
use Rattle.cpe_rows.specs.declared.test.Test.TheVariants.{rolls-Logic, rolls-Fact, rolls-Check}
use Rattle.snapshot_bytes.specs.States.{IsTextKey, keys_of, stored_keys_step}

pub all_appended : {A : Type 0} (P : A → Type 0) (xs ys : List A) → AllByRecursion P xs → AllByRecursion P ys → AllByRecursion P (xs ++ ys)
all_appended P [] ys all more = more
all_appended P (x ∷ xs) ys all more = (all.0, all_appended P xs ys all.1 more)

pub keys_next : (of : List Test) (i : ℕ) (d : Test) → i < length of → AllByRecursion IsTextKey (flat_map keys_of (take i of)) → AllByRecursion IsTextKey (keys_of (get_or of i d))
    → AllByRecursion IsTextKey (flat_map keys_of (take (i + 1) of))
keys_next of i d below all one =
    let prefix = flat_map keys_of (take i of) in
    let next = get_or of i d in
    subst (AllByRecursion IsTextKey)
    (sym (ap (flat_map keys_of) (take_more of i d below) ∙ flat_map-append keys_of (take i of) (next ∷ []) ∙ ap (λ (ks : List CheckKey). prefix ++ ks) (append-nil (keys_of next))))
    (all_appended IsTextKey prefix (keys_of next) all one)

pub keys_fact : (n : Values) → keys_of (Fact n) ≡ []
keys_fact n = ap keys_of (sym (rolls-Fact n)) ∙ fold-roll-Test (List CheckKey) stored_keys_step (Test-F.Fact n)

pub keys_check : (k : CheckKey) → keys_of (Check k) ≡ k ∷ []
keys_check k = ap keys_of (sym (rolls-Check k)) ∙ fold-roll-Test (List CheckKey) stored_keys_step (Test-F.Check k)

pub keys_logic : (operator : Operator) (negate : Bool) (of : List Test) → keys_of (Logic operator negate of) ≡ flat_map keys_of of
keys_logic operator negate of =
    ap keys_of (sym (rolls-Logic operator negate of))
    ∙ (fold-roll-Test (List CheckKey) stored_keys_step (Test-F.Logic operator negate of) ∙ flat_map-map (λ (keys : List CheckKey). keys) keys_of of)
