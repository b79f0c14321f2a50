-- The new names of an edit, and the causes for which a change of a deprecation is refused, for each kind of change.
use Rattle.std.proofs.Common.{◌≡◌, ℕ, Bool, List, Option, Some, refl, sym, ap, ◌∙◌}
use Rattle.name_index.specs.Table.{Names}
use Rattle.verdicts.specs.name_registry.Registered.{AreRegistryNames}
use Rattle.cpe_rows.specs.cpe_name.Eleven.{Values}
use Rattle.cpe_rows.specs.Causes.{causes}
use Rattle.cpe_rows.specs.Rows.{Rows}
use Rattle.cpe_rows.specs.Step.{first_some}
use Rattle.cpe_rows.specs.declared.entry.Deprecation.{Deprecation}
use Rattle.cpe_rows.specs.declared.entry.Entry.{Entry}
use Rattle.cpe_dictionary.specs.Causes.{change_causes}
use Rattle.engine_edits.specs.Numbered.{coming, given, is_first, IsFound, note_of, turned_entry}
use Rattle.engine_edits.specs.declared.numbered.NumberedEdit.{NumberedEdit}
use Rattle.engine_edits.specs.declared.numbered.NumberedEdit.TheVariants as numbered
use Rattle.engine_edits.specs.declared.numbered.Turn.{Turn}
use Rattle.engine_edits.specs.declared.numbered.Turn.TheVariants.{Give, Replace, TakeAway}

-- the numbers of the new names of an edit are live
pub coming_live : (table : Names) (e : NumberedEdit) → IsFound table e → AreRegistryNames table (coming e)
coming_live table (numbered.Entry i title provenance) found = (found, tt)
coming_live table (numbered.Item i) found = (found, tt)
coming_live table (numbered.DropItem i) found = tt
coming_live table (numbered.Change c) found = tt
coming_live table (numbered.PutStatement s ids) found = found.live
coming_live table (numbered.DropStatement i) found = tt
coming_live table (numbered.SetCheck k t) found = tt
coming_live table (numbered.DropCheck k) found = tt

module _ (rows : Rows) (n : Values) (date comment : List ℕ) where
  pub causes_turned : (t : Turn) → causes rows (turned_entry n t date comment) ≡ change_causes rows.entries n (is_first t) (given t) (Some (note_of t date comment))
  causes_turned (Give d) = refl
  causes_turned (Replace d) = refl
  causes_turned TakeAway = refl

  -- the first cause of a change, by the values of the dictionary and of the change
  pub first_cause : (t : Turn) {es : List Entry} {name : Values} {first : Bool} {d : Option Deprecation} → es ≡ rows.entries → name ≡ n → first ≡ is_first t → d ≡ given t
      → first_some (change_causes es name first d (Some (note_of t date comment))) ≡ first_some (causes rows (turned_entry n t date comment))
  first_cause t entries named is_it gives =
      (λ i. first_some (change_causes (entries i) (named i) (is_it i) (gives i) (Some (note_of t date comment)))) ∙ ap first_some (sym (causes_turned t))
