-- Lemmas: the clauses of `WritesOutput` and `WritesBound` hold, whether a text is written or not.
use Rattle.std.proofs.Common.{◌≡◌, ℕ, ◌≤◌, List, ◌++◌, length, take, Option, None, Some, Result, Ok, Err, refl, sym, ap, ◌∙◌}
use Rattle.std.specs.Option.{option_map}
use Rattle.name_grammar.proofs.Results.{left_over}
use Rattle.cpe_name.specs.Eleven.{Values, Written}
use Rattle.cpe_name.specs.Text.{output_text}
use Rattle.cpe_name.specs.WfnText.{IsWfnText}
use Rattle.cpe_name.specs.Spans.{AreWritten}
use Rattle.cpe_name.specs.Binding.{bound_by}
use Rattle.cpe_name.proofs.Bindings.{found_written, only_written, said_written, nothing_written}
use Rattle.cpe_name.proofs.Unbinding.{Unbinds, behind, one_name, never, says_text, place_said}
use Rattle.cpe_fs.specs.Writing.{WritesBound, WritesOutput}

-- ---- from a binding to the text of a name

module _ {Has : Values → List ℕ → Type 0} {Leaves : List ℕ → ℕ → Type 0} {read : List ℕ → Result Values ℕ} {says : List ℕ → Result (List ℕ) ℕ} (binding : Unbinds Has Leaves read says) where
  -- `WritesOutput` holds if the output text of a name that has the text is written
  pub written_output : (s : List ℕ) (at most : ℕ) (old new : List ℕ) (end : ℕ) (name : Values) → Has name s → take end new ≡ take at old ++ output_text name → end ≤ most → length new ≡ length old
      → WritesOutput Has Leaves says s at most old new (Ok end)
  written_output s at most old new end name has written within long = record {
    found = record { name = name; has = has; written = written };
    only = λ other its. written ∙ ap (λ (w : Values). take at old ++ output_text w) (one_name binding name other s has its);
    refused = tt;
    said = ap left_over written ∙ ap (behind (take at old)) (sym (says_text binding name s has));
    within = within;
    length = long;
    unchanged = tt;
  }

  -- `WritesOutput` holds if no name has the text, and the result is the text's place
  pub refused_output : (s : List ℕ) (at most : ℕ) (old : List ℕ) (place : ℕ) → Leaves s place → WritesOutput Has Leaves says s at most old old (Err place)
  refused_output s at most old place leaves = record {
    found = tt;
    only = λ name has. never binding name s place leaves has;
    refused = leaves;
    said = ap (behind (take at old)) (sym (place_said binding s place leaves));
    within = tt;
    length = refl;
    unchanged = refl;
  }

-- ---- from the text of a name to a binding

module _ (bind : Values → List ℕ) (says : List ℕ → Option (List ℕ)) (s : List ℕ) (at most : ℕ) (old : List ℕ) (same : says s ≡ bound_by bind s) where
  as_said : option_map (λ said. take at old ++ said) (bound_by bind s) ≡ option_map (λ said. take at old ++ said) (says s)
  as_said = ap (option_map (λ said. take at old ++ said)) (sym same)

  -- `WritesBound` holds if what `bind` returns for a name that has the text is written
  pub written_bound : (new put : List ℕ) (end : ℕ) (t : Written) (are : AreWritten s t) → take end new ≡ take at old ++ put → put ≡ bind are.name → end ≤ most → length new ≡ length old
      → WritesBound bind says s at most old new (Some end)
  written_bound new put end t are written is within long = record {
    found = found_written bind s (take at old) (take end new) put t are written is;
    only = only_written bind s (take at old) (take end new) put t are written is;
    none = λ e. absurd cc;
    said = said_written bind s (take at old) (take end new) put t are written is ∙ as_said;
    within = within;
    length = long;
    unchanged = λ e. absurd cc;
  }

  -- `WritesBound` holds if no name has the text, and nothing is written
  pub nothing_bound : (IsWfnText s → ⊥) → WritesBound bind says s at most old old None
  nothing_bound never = record {
    found = tt;
    only = λ name has. never (name, has);
    none = λ e. never;
    said = nothing_written bind s (take at old) never ∙ as_said;
    within = tt;
    length = refl;
    unchanged = λ e. refl;
  }
