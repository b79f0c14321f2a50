-- Lemmas: `bound_by` is the text to which the only name with a given text is bound.
use Rattle.std.proofs.Common.{◌≡◌, ℕ, List, ◌++◌, map, Option, Some, None, refl, sym, ap, ◌∙◌}
use Rattle.std.specs.Option.{option_map}
use Rattle.cpe_name.specs.Eleven.{Values, Written}
use Rattle.cpe_name.specs.Names.{named}
use Rattle.cpe_name.specs.WfnText.{WfnText, IsWfnText}
use Rattle.cpe_name.specs.Scanning.{all_at}
use Rattle.cpe_name.specs.Spans.{AreWritten}
use Rattle.cpe_name.specs.Unwriting.{value_from}
use Rattle.cpe_name.specs.Binding.{BindsBy, WritesBy, bound_by}
use Rattle.cpe_name.proofs.WholeTexts.{all_reads, all_again, name_back, one_name}

abbrev text_said : List ℕ → Option (List ℕ)
text_said t = Some t

abbrev nothing_said : Option (List ℕ)
nothing_said = None

text_is : (s t : List ℕ) → text_said s ≡ text_said t → s ≡ t
text_is s t e = cc

not_both : (s : List ℕ) → text_said s ≡ nothing_said → ⊥
not_both s e = cc

-- `bound_by` is the text to which the text's name is bound
pub says_text : (bind : Values → List ℕ) (name : Values) (s : List ℕ) → WfnText name s → bound_by bind s ≡ Some (bind name)
unfolding bound_by
says_text bind name s has =
    let x = all_again name s has in
    let back : named (map value_from x.given) ≡ name = ap (λ (m : List (List ℕ)). named (map value_from m)) (sym x.whole) ∙ name_back name x.given has.name x.are in
    rw x.at (ap (λ (w : Values). text_said (bind w)) back)

no_text : (bind : Values → List ℕ) (s : List ℕ) → all_at s ≡ None → bound_by bind s ≡ None
unfolding bound_by
no_text bind s e = rw e refl

-- a text of `bound_by` is bound to a name that has the text `s`
pub says_name : (bind : Values → List ℕ) (s text : List ℕ) → bound_by bind s ≡ Some text → BindsBy bind s text
says_name bind s text is = go (all_at s) refl where
  go : (r : Option (List (List ℕ))) → all_at s ≡ r → BindsBy bind s text
  go (Some m) e = let so = all_reads s m e in record { name = so.name; has = so.has; is = text_is text (bind so.name) (sym is ∙ says_text bind so.name s so.has) }
  go None e = absurd (not_both text (sym is ∙ no_text bind s e))

-- if `bound_by` is nothing, no name has the text
pub says_nothing : (bind : Values → List ℕ) (s : List ℕ) → bound_by bind s ≡ None → IsWfnText s → ⊥
says_nothing bind s none is = not_both (bind is.0) (sym (says_text bind is.0 s is.1) ∙ none)

-- if no name has the text, `bound_by` is nothing
pub nothing_is_said : (bind : Values → List ℕ) (s : List ℕ) → (IsWfnText s → ⊥) → bound_by bind s ≡ None
nothing_is_said bind s never = go (bound_by bind s) refl where
  go : (r : Option (List ℕ)) → bound_by bind s ≡ r → bound_by bind s ≡ None
  go (Some text) e = let so = says_name bind s text e in absurd (never (so.name, so.has))
  go None e = e

-- ---- appended to earlier bytes

-- the code appended the text to which the name of `s` is bound
module _ (bind : Values → List ℕ) (s old new put : List ℕ) (t : Written) (are : AreWritten s t) (written : new ≡ old ++ put) (is : put ≡ bind are.name) where
  whole : new ≡ old ++ bind are.name
  whole = written ∙ ap (λ (u : List ℕ). old ++ u) is

  pub found_written : WritesBy bind s old new
  found_written = record { name = are.name; has = are.has; written = whole }

  pub only_written : (name : Values) → WfnText name s → new ≡ old ++ bind name
  only_written name has = whole ∙ ap (λ (w : Values). old ++ bind w) (one_name are.name name s are.has has)

  pub said_written : text_said new ≡ option_map (λ said. old ++ said) (bound_by bind s)
  said_written = ap text_said whole ∙ ap (option_map (λ said. old ++ said)) (sym (says_text bind are.name s are.has))

-- nothing is appended if no name has the text
pub nothing_written : (bind : Values → List ℕ) (s old : List ℕ) → (IsWfnText s → ⊥) → nothing_said ≡ option_map (λ said. old ++ said) (bound_by bind s)
nothing_written bind s old never = ap (option_map (λ said. old ++ said)) (sym (nothing_is_said bind s never))
