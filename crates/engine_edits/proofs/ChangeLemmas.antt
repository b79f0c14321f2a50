-- The entries that a change of a deprecation leaves, by its name, are the entries that it leaves by its plan.
use Rattle.std.proofs.Common.{◌≡◌, List, sym, ◌∙◌}
use Rattle.std.specs.Prelude.{Option}
use Rattle.cpe_rows.specs.cpe_name.Eleven.{Values}
use Rattle.cpe_dictionary.specs.Faults.{WritesByNumber}
use Rattle.cpe_dictionary.specs.Kept.{rewritten}
use Rattle.cpe_dictionary.specs.Plans.{AreLeftBy, IsPlan}
use Rattle.cpe_dictionary.specs.declared.plans.Plan.{Plan}
use Rattle.cpe_dictionary.proofs.DictionaryLemmas.{written_changed}
use Rattle.cpe_rows.specs.After.{changed}
use Rattle.cpe_rows.specs.declared.entry.Deprecation.{Deprecation}
use Rattle.cpe_rows.specs.declared.entry.Entry.{Entry}
use Rattle.cpe_rows.specs.declared.entry.Note.{Note}

pub by_plan : (es : List Entry) → WritesByNumber → (n : Values) (d : Option Deprecation) (now : Option Note) (p : Plan) (left : List Entry) → IsPlan es n d p → left ≡ changed (rewritten d now) n es
    → AreLeftBy es p left
by_plan es writes n d now p left plan is =
    record { deprecation = d; note = now; next = plan.next; written = is ∙ sym (written_changed es n p.number d now writes plan.place) }
