use Rattle.std.proofs.Common.{◌≡◌, ◌∙◌, ◌+◌, Bool, true, false, not, List, [], ◌∷◌, length, sym, ap, refl}
use Rattle.std.specs.Prelude.{is_some, nat_lt}
use Rattle.std.specs.List.{list_any}
use Rattle.cpe_rows.specs.cpe_name.Eleven.{Values}
use Rattle.cpe_rows.specs.Causes.{entry_causes}
use Rattle.cpe_rows.specs.Faults.{when}
use Rattle.cpe_rows.specs.Limits.{most}
use Rattle.cpe_rows.specs.Names.{has_wildcards, is_identifier}
use Rattle.cpe_rows.specs.Rows.{is_named}
use Rattle.cpe_rows.specs.Step.{first_some}
use Rattle.cpe_rows.specs.declared.entry.Entry.{Entry}
use Rattle.cpe_rows.specs.declared.fault.EditFault.TheVariants as fault
use Rattle.cpe_rows.specs.declared.fault.Which.TheVariants as limit
use Rattle.cpe_dictionary.proofs.EntryLemmas.{there_by_name}
use Rattle.cpe_dictionary.proofs.dictionary.Dictionary.entry_fault.Goals as goal

-- the causes to refuse an entry of this name, in order
causes_are : (es : List Entry) (e : Entry) (n : Values) (a b c d : Bool) → e.name ≡ n → not (is_identifier n) ≡ a → has_wildcards n ≡ b → list_any (is_named n) es ≡ c → nat_lt (most limit.Entries) (length es + 1) ≡ d
    → first_some (when a fault.NotIdentifier ∷ when b fault.Wildcards ∷ when c fault.Exists ∷ when d (fault.Full limit.Entries) ∷ []) ≡ first_some (entry_causes es e)
causes_are es e n a b c d same isnt wild there full =
    sym
    (
    ap
    (λ (m : Values). first_some (when (not (is_identifier m)) fault.NotIdentifier ∷ when (has_wildcards m) fault.Wildcards ∷ when (list_any (is_named m) es) fault.Exists ∷ when (nat_lt (most limit.Entries) (length es + 1)) (fault.Full limit.Entries) ∷ []))
    same
    ∙ (λ i. first_some (when (isnt i) fault.NotIdentifier ∷ when (wild i) fault.Wildcards ∷ when (there i) fault.Exists ∷ when (full i) (fault.Full limit.Entries) ∷ []))
    )

pub returns-then-is_some : goal.returns-then-is_some
returns-then-is_some c e same =
    let es = c.args.self.now in
    let n = c.args.name.now in
    causes_are es e n false false true _ same (ap not (sym c.if-not-is_identifier.ensures)) (sym c.if-has_wildcards.ensures) (sym (there_by_name n es) ∙ ap is_some (sym c.requires) ∙ sym c.if-is_some.ensures) refl

pub returns-then-is_full : goal.returns-then-is_full
returns-then-is_full c e same =
    let es = c.args.self.now in
    let n = c.args.name.now in
    causes_are es e n false false false true same (ap not (sym c.if-not-is_identifier.ensures)) (sym c.if-has_wildcards.ensures) (sym (there_by_name n es) ∙ ap is_some (sym c.requires) ∙ sym c.if-is_some.ensures) (sym c.is_full.ensures ∙ c.if-is_full.true)

pub returns : goal.returns
returns c e same =
    let es = c.args.self.now in
    let n = c.args.name.now in
    causes_are es e n false false false false same (ap not (sym c.if-not-is_identifier.ensures)) (sym c.if-has_wildcards.ensures) (sym (there_by_name n es) ∙ ap is_some (sym c.requires) ∙ sym c.if-is_some.ensures) (sym c.is_full.ensures ∙ c.if-is_full.false)
