-- Lemmas: if the rows and the edit are formed, the rows after the edit are formed.
use Rattle.std.proofs.Common.{ℕ, List, [], ◌∷◌, Bool, true, false, cond, Option, Some, None}
use Rattle.std.specs.Prelude.{All, IsTrue}
use Rattle.std.proofs.lemmas.List.Elements.{All-cons, All-head, All-tail, All-push, All-nil}
use Rattle.cpe_name.specs.Eleven.{Values}
use Rattle.cpe_name.specs.Names.{IsName}
use Rattle.cpe_rows.specs.Names.{is_same}
use Rattle.cpe_rows.specs.Rows.{Rows, no_rows, is_named, has_id}
use Rattle.cpe_rows.specs.After.{after, changed, deprecated, without_first}
use Rattle.cpe_rows.specs.Chains.{successors_of}
use Rattle.cpe_rows.specs.Date.{is_date}
use Rattle.cpe_rows.specs.Formed.{AreFormed, IsDated, IsFormed, IsFormedEntry, IsFormedStatement}
use Rattle.cpe_rows.specs.declared.entry.Entry.{Entry}
use Rattle.cpe_rows.specs.declared.entry.Deprecation.{Deprecation}
use Rattle.cpe_rows.specs.declared.entry.NoteKind.{NoteKind}
use Rattle.cpe_rows.specs.declared.entry.NoteKind.TheVariants as note
use Rattle.cpe_rows.specs.declared.edit.Edit.{Edit}
use Rattle.cpe_rows.specs.declared.edit.Edit.TheVariants as edit

module _ {A : Type 0} (P : A → Type 0) (p : A → Bool) where
  all_without : (xs : List A) → All P xs → All P (without_first p xs)
  all_without [] h = h
  all_without (x ∷ xs) h = go (p x) (All-head P x xs h) (All-tail P x xs h) (all_without xs (All-tail P x xs h)) where
    go : (b : Bool) → P x → All P xs → All P (without_first p xs) → All P (cond b xs (x ∷ without_first p xs))
    go true one all later = all
    go false one all later = All-cons P x (without_first p xs) one later

module _ (P : Entry → Type 0) (f : Entry → Entry) (n : Values) (keeps : (e : Entry) → P e → P (f e)) where
  all_changed : (es : List Entry) → All P es → All P (changed f n es)
  all_changed [] h = h
  all_changed (e ∷ es) h = go (is_named n e) (All-head P e es h) (All-tail P e es h) (all_changed es (All-tail P e es h)) where
    go : (b : Bool) → P e → All P es → All P (changed f n es) → All P (cond b (f e ∷ es) (e ∷ changed f n es))
    go true one all later = All-cons P (f e) es (keeps e one) all
    go false one all later = All-cons P e (changed f n es) one later

-- An entry stays formed if its deprecation is replaced and a note is added.
deprecated_formed : (d : Option Deprecation) (kind : NoteKind) (date comment : List ℕ) (e : Entry)
    → All IsName (successors_of (deprecated d kind date comment e)) → IsTrue (is_date date) → IsFormedEntry e → IsFormedEntry (deprecated d kind date comment e)
deprecated_formed d kind date comment e names dated h = record {
  name = h.name;
  successors = names;
  notes = All-push IsDated e.provenance.notes (record { kind = kind; date = date; comment = comment }) h.notes dated;
}

pub stay_formed : (rows : Rows) (e : Edit) → AreFormed rows → IsFormed e → AreFormed (after rows e)
stay_formed rows (edit.Entry e) h new = record { entries = All-push IsFormedEntry rows.entries e h.entries new; items = h.items; statements = h.statements }
stay_formed rows (edit.Item n) h new = record { entries = h.entries; items = All-push IsName rows.items n h.items new; statements = h.statements }
stay_formed rows (edit.DropItem n) h new = record { entries = h.entries; items = all_without IsName (is_same n) rows.items h.items; statements = h.statements }
stay_formed rows (edit.Deprecate n d date comment) h new = record {
  entries = all_changed IsFormedEntry (deprecated (Some d) note.Deprecation date comment) n (λ e one. deprecated_formed (Some d) note.Deprecation date comment e new.1 new.2 one) rows.entries h.entries;
  items = h.items;
  statements = h.statements;
}
stay_formed rows (edit.Amend n d date comment) h new = record {
  entries = all_changed IsFormedEntry (deprecated (Some d) note.DeprecationModification date comment) n (λ e one. deprecated_formed (Some d) note.DeprecationModification date comment e new.1 new.2 one) rows.entries h.entries;
  items = h.items;
  statements = h.statements;
}
stay_formed rows (edit.Restore n date comment) h new = record {
  entries = all_changed IsFormedEntry (deprecated None note.DeprecationModification date comment) n (λ e one. deprecated_formed None note.DeprecationModification date comment e (All-nil IsName) new.1 one) rows.entries h.entries;
  items = h.items;
  statements = h.statements;
}
stay_formed rows (edit.PutStatement s) h new = record { entries = h.entries; items = h.items; statements = All-push IsFormedStatement rows.statements s h.statements new }
stay_formed rows (edit.DropStatement id) h new = record { entries = h.entries; items = h.items; statements = all_without IsFormedStatement (has_id id) rows.statements h.statements }
stay_formed rows (edit.SetCheck k t) h new = record { entries = h.entries; items = h.items; statements = h.statements }
stay_formed rows (edit.DropCheck k) h new = record { entries = h.entries; items = h.items; statements = h.statements }

pub formed_at_start : AreFormed no_rows
formed_at_start = record { entries = All-nil IsFormedEntry; items = All-nil IsName; statements = All-nil IsFormedStatement }
