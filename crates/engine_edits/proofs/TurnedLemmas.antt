-- What a change of a deprecation leaves, and which verdicts it changes, for each kind of change.
use Rattle.std.proofs.Common.{◌≡◌, ◌∙◌, ℕ, List, Option, Some, refl, sym, ap}
use Rattle.cpe_rows.specs.cpe_name.Eleven.{Values}
use Rattle.cpe_rows.specs.After.{after, changed}
use Rattle.cpe_rows.specs.Changes.{changes, others}
use Rattle.cpe_rows.specs.Rows.{Rows}
use Rattle.cpe_rows.specs.declared.entry.Deprecation.{Deprecation}
use Rattle.cpe_rows.specs.declared.entry.Note.{Note}
use Rattle.cpe_rows.specs.Touching.{deprecation_changed}
use Rattle.cpe_dictionary.specs.Kept.{rewritten, with_entries, written}
use Rattle.verdicts.specs.facts.Looks.{lead_looks}
use Rattle.engine_edits.specs.Looks.{made_looks}
use Rattle.engine_edits.specs.Numbered.{given, note_of, turned_entry}
use Rattle.engine_edits.specs.declared.numbered.Turn.{Turn}
use Rattle.engine_edits.specs.declared.numbered.Turn.TheVariants.{Give, Replace, TakeAway}

module _ (rows : Rows) (n : Values) (date comment : List ℕ) where
  pub after_turned : (t : Turn) → after rows (turned_entry n t date comment) ≡ with_entries rows (changed (rewritten (given t) (Some (note_of t date comment))) n rows.entries)
  after_turned (Give d) = refl
  after_turned (Replace d) = refl
  after_turned TakeAway = refl

  -- the entries after the edit are the entries that are written for it
  pub written_turned : (t : Turn) (k : ℕ) (d : Option Deprecation) (note : Note) → d ≡ given t → note ≡ note_of t date comment
      → written (rewritten (given t) (Some (note_of t date comment))) k rows.entries ≡ changed (rewritten (given t) (Some (note_of t date comment))) n rows.entries
      → written (rewritten d (Some note)) k rows.entries ≡ (after rows (turned_entry n t date comment)).entries
  written_turned t k d note gives notes writes =
      (λ i. written (rewritten (gives i) (Some (notes i))) k rows.entries)
      ∙ writes
      ∙ sym (ap (λ (r : Rows). r.entries) (after_turned t))

  pub changed_turned : (t : Turn) → deprecation_changed (turned_entry n t date comment) ≡ Some n
  changed_turned (Give d) = refl
  changed_turned (Replace d) = refl
  changed_turned TakeAway = refl

  -- no statement is added or removed
  pub changes_turned : (t : Turn) → changes rows (turned_entry n t date comment) ≡ others rows (after rows (turned_entry n t date comment)) rows.statements
  changes_turned (Give d) = refl
  changes_turned (Replace d) = refl
  changes_turned TakeAway = refl

  pub looks_turned : (t : Turn) → made_looks rows (turned_entry n t date comment) ≡ lead_looks rows (after rows (turned_entry n t date comment)) n
  looks_turned (Give d) = refl
  looks_turned (Replace d) = refl
  looks_turned TakeAway = refl
