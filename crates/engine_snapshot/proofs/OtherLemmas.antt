-- The rows after the entries, read kind by kind.
use Rattle.std.proofs.Common.{◌≡◌, ℕ, List, [], Option, Some, map, sym, ap, subst, ◌∙◌}
use Rattle.cpe_rows.specs.Lawful.{IsLawful}
use Rattle.cpe_rows.specs.Rows.{Rows}
use Rattle.snapshot_bytes.specs.Reading.{many, name_at, result_at, statement_at}
use Rattle.snapshot_bytes.specs.States.{pair_of_result}
use Rattle.snapshot_bytes.specs.declared.load.Head.{Head}
use Rattle.snapshot_bytes.proofs.Readers.{some_is}
use Rattle.engine_snapshot.specs.Begun.{with_items, with_statements}
use Rattle.engine_snapshot.specs.Read.{ArePut, Others, with_others, with_results}
use Rattle.engine_snapshot.proofs.Taken.{lawful_before_checks, lawful_before_statements}

module _ {A : Type 0} (put : Rows → List A → Rows) (read : Option (List A × List ℕ)) (left : List ℕ) (old new : Rows) (are : ArePut put read left old new) (xs : List A) (other : List ℕ)
    (found : read ≡ Some (xs, other)) where
  abbrev Found : Type 0
  Found = List A × List ℕ

  abbrev one : Found
  one = (are.rows, left)

  abbrev two : Found
  two = (xs, other)

  same : one ≡ two
  same = some_is one two (sym are.are_read ∙ found)

  pub left_again : left ≡ other
  left_again = ap (λ (q : Found). q.1) same

  pub put_again : new ≡ put old xs
  put_again = are.are_put ∙ ap (λ (q : Found). put old q.0) same

module _ (head : Head) (bytes : List ℕ) (old : Rows) (others : Others head bytes) (lawful : IsLawful (with_others old others)) where
  pub lawful_statements : IsLawful (with_statements (with_items old others.items) others.statements)
  lawful_statements = lawful_before_checks (with_statements (with_items old others.items) others.statements) (map pair_of_result others.results) lawful

  pub lawful_items : IsLawful (with_items old others.items)
  lawful_items = lawful_before_statements (with_items old others.items) others.statements lawful_statements

  module _ (after_items : List ℕ) (with_them : Rows) (items : ArePut with_items (many name_at head.items bytes) after_items old with_them) where
    pub statements_there : many statement_at head.statements after_items ≡ Some (others.statements, others.after_statements)
    statements_there = ap (many statement_at head.statements) (left_again with_items _ after_items old with_them items others.items others.after_items others.items_are) ∙ others.statements_are

    pub statements_fit : IsLawful (with_statements with_them others.statements)
    statements_fit =
        subst (λ (r : Rows). IsLawful (with_statements r others.statements))
        (sym (put_again with_items _ after_items old with_them items others.items others.after_items others.items_are)) lawful_statements

    module _ (after_statements : List ℕ) (with_both : Rows)
        (statements : ArePut with_statements (many statement_at head.statements after_items) after_statements with_them with_both) where
      pub results_there : many result_at head.results after_statements ≡ Some (others.results, [])
      results_there =
          ap (many result_at head.results) (left_again with_statements _ after_statements with_them with_both statements others.statements others.after_statements statements_there)
          ∙ others.results_are

      pub results_fit : IsLawful (with_results with_both others.results)
      results_fit =
          subst (λ (r : Rows). IsLawful (with_results r others.results))
          (sym (put_again with_statements _ after_statements with_them with_both statements others.statements others.after_statements statements_there
          ∙ ap (λ (r : Rows). with_statements r others.statements) (put_again with_items _ after_items old with_them items others.items others.after_items others.items_are)))
          lawful

      pub nothing_left : (after_results : List ℕ) (with_all : Rows) → ArePut with_results (many result_at head.results after_statements) after_results with_both with_all → after_results ≡ []
      nothing_left after_results with_all results = left_again with_results _ after_results with_both with_all results others.results [] results_there
