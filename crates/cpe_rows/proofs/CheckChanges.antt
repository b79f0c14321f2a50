-- Lemmas: the checks that are unchanged if a result is set or removed.
use Rattle.std.proofs.Common.{◌≡◌, ℕ, ◌&&◌, List, [], ◌∷◌, Bool, true, false, cond, Option, Some, None, refl, ap, sym, ◌∙◌}
use Rattle.std.specs.Prelude.{find}
use Rattle.std.specs.Option.{option_map_or}
use Rattle.std.specs.Bool.{one_answer}
use Rattle.std.specs.Str.{bytes_eq}
use Rattle.std.proofs.lemmas.Bool.{and_parts}
use Rattle.std.proofs.lemmas.Slice.Eq.{bytes_eq-Decides}
use Rattle.cpe_name.specs.Eleven.{Values}
use Rattle.cpe_rows.specs.Rows.{Rows, same_key, has_key}
use Rattle.cpe_rows.specs.After.{after, without_first, with_check}
use Rattle.cpe_rows.specs.Verdict.{fact_truth}
use Rattle.cpe_rows.specs.declared.truth.Truth.{Truth}
use Rattle.cpe_rows.specs.declared.truth.Truth.TheVariants.{Unknown}
use Rattle.cpe_rows.specs.declared.edit.Edit.TheVariants as edit
use Rattle.cpe_rows.specs.declared.statement.Mode.{Mode}
use Rattle.cpe_rows.specs.declared.statement.Mode.TheVariants.{Plain, Follow}
use Rattle.cpe_rows.specs.declared.test.CheckKey.{CheckKey}

bytes_turned : (a b : List ℕ) → bytes_eq a b ≡ bytes_eq b a
bytes_turned a b = let d = bytes_eq-Decides a b in one_answer (bytes_eq a b) (bytes_eq b a) (λ t. sym (d.0 t), λ e. d.1 (sym e)) (bytes_eq-Decides b a)

pub turned : (a b : CheckKey) → same_key a b ≡ same_key b a
turned a b = λ i. bytes_turned a.system b.system i && (bytes_turned a.href b.href i && bytes_turned a.id b.id i)

-- If two keys are the same, comparing a third key with either has the same result.
alike_known : (key a b : CheckKey) → same_key a b ≡ true → same_key key a ≡ same_key key b
alike_known key a b t =
    let one = and_parts (bytes_eq a.system b.system) (bytes_eq a.href b.href && bytes_eq a.id b.id) t in
    let two = and_parts (bytes_eq a.href b.href) (bytes_eq a.id b.id) one.1 in
    λ i. bytes_eq key.system ((bytes_eq-Decides a.system b.system).0 one.0 i)
    && (bytes_eq key.href ((bytes_eq-Decides a.href b.href).0 two.0 i) && bytes_eq key.id ((bytes_eq-Decides a.id b.id).0 two.1 i))

abbrev Results : Type 0
Results = List (CheckKey × Truth)

abbrev found : Option (CheckKey × Truth) → Truth
found o = option_map_or (λ c. c.1) o Unknown

module _ (k key : CheckKey) (h : same_key k key ≡ false) where
  other : (c : CheckKey × Truth) → has_key k c ≡ true → same_key key c.0 ≡ false
  other c t = sym (alike_known key k c.0 t) ∙ (turned key k ∙ h)

  passed_over : (c : CheckKey × Truth) (rest : Option (CheckKey × Truth)) → same_key key c.0 ≡ false
      → found (cond (same_key key c.0) (Some c) rest) ≡ found rest
  passed_over c rest e = ap (λ b. found (cond b (Some c) rest)) e

  behind : (c : CheckKey × Truth) (r s : Option (CheckKey × Truth)) → found r ≡ found s
      → found (cond (has_key key c) (Some c) r) ≡ found (cond (has_key key c) (Some c) s)
  behind c r s e = go (has_key key c) where
    go : (b : Bool) → found (cond b (Some c) r) ≡ found (cond b (Some c) s)
    go true = refl
    go false = e

  kept_in : (t : Truth) (cs : Results) → found (find (has_key key) (with_check k t cs)) ≡ found (find (has_key key) cs)
  kept_in t [] = passed_over (k, t) None (turned key k ∙ h)
  kept_in t (c ∷ cs) = go (has_key k c) refl (kept_in t cs) where
    go : (b : Bool) → has_key k c ≡ b → found (find (has_key key) (with_check k t cs)) ≡ found (find (has_key key) cs)
        → found (find (has_key key) (cond b ((c.0, t) ∷ cs) (c ∷ with_check k t cs))) ≡ found (find (has_key key) (c ∷ cs))
    go true e later = passed_over (c.0, t) (find (has_key key) cs) (other c e) ∙ sym (passed_over c (find (has_key key) cs) (other c e))
    go false e later = behind c (find (has_key key) (with_check k t cs)) (find (has_key key) cs) later

  dropped_in : (cs : Results) → found (find (has_key key) (without_first (has_key k) cs)) ≡ found (find (has_key key) cs)
  dropped_in [] = refl
  dropped_in (c ∷ cs) = go (has_key k c) refl (dropped_in cs) where
    go : (b : Bool) → has_key k c ≡ b → found (find (has_key key) (without_first (has_key k) cs)) ≡ found (find (has_key key) cs)
        → found (find (has_key key) (cond b cs (c ∷ without_first (has_key k) cs))) ≡ found (find (has_key key) (c ∷ cs))
    go true e later = sym (passed_over c (find (has_key key) cs) (other c e))
    go false e later = behind c (find (has_key key) (without_first (has_key k) cs)) (find (has_key key) cs) later

  pub kept : (rows : Rows) (t : Truth) → found (find (has_key key) (with_check k t rows.checks)) ≡ found (find (has_key key) rows.checks)
  kept rows t = kept_in t rows.checks

  pub dropped : (rows : Rows) → found (find (has_key key) (without_first (has_key k) rows.checks)) ≡ found (find (has_key key) rows.checks)
  dropped rows = dropped_in rows.checks

pub fact_boards : (rows : Rows) (k : CheckKey) (t : Truth) (mode : Mode) (fact : Values)
    → fact_truth (after rows (edit.SetCheck k t)) mode fact ≡ fact_truth rows mode fact
fact_boards rows k t Plain fact = refl
fact_boards rows k t Follow fact = refl

pub dropped_facts : (rows : Rows) (k : CheckKey) (mode : Mode) (fact : Values)
    → fact_truth (after rows (edit.DropCheck k)) mode fact ≡ fact_truth rows mode fact
dropped_facts rows k Plain fact = refl
dropped_facts rows k Follow fact = refl
