-- What follows for the lists of rows if an edit is made.
use Rattle.std.proofs.Common.{find, if◌then◌else◌, ◌||◌, map, ◌≡◌, ◌≤◌, ◌∙◌, ℕ, ap, sym, subst, Bool, true, false, List, [], ◌∷◌, ◌++◌, length, arith, refl, Some}
use Rattle.std.proofs.lemmas.List.{length-map}
use Rattle.std.specs.List.{list_any}
use Rattle.std.specs.Prelude.{None, not, Result, Ok, Err, OnErr}
use Rattle.cpe_rows.specs.After.{after, without_first}
use Rattle.cpe_rows.specs.Chains.{ends}
use Rattle.cpe_rows.specs.Names.{is_same}
use Rattle.cpe_rows.specs.declared.entry.Entry.{Entry}
use Rattle.cpe_rows.specs.declared.edit.Edit.TheVariants as edit
use Rattle.cpe_rows.specs.Changes.{differing, others}
use Rattle.cpe_rows.specs.Faults.{when}
use Rattle.cpe_rows.specs.Rows.{Rows}
use Rattle.cpe_rows.specs.Step.{first_some}
use Rattle.cpe_rows.specs.declared.fault.EditFault.TheVariants as fault
use Rattle.cpe_rows.specs.Verdict.{verdict}
use Rattle.cpe_rows.specs.declared.reply.Changed.{Changed}
use Rattle.cpe_rows.specs.cpe_name.Eleven.{Values}
use Rattle.name_index.specs.Table.{kept_at, Names}
use Rattle.name_index.specs.declared.table.NameId.{NameId}
use Rattle.fact_laws.specs.Shown.{holds_in, name_at, names_at, Shows}
use Rattle.fact_laws.specs.Asked.{names_of_rows}
use Rattle.verdicts.specs.name_registry.Registered.{AreRegistryNames, Registered}
use Rattle.verdicts.specs.facts.Facts.{LeadsTo}
use Rattle.cpe_rows.specs.declared.statement.Mode.TheVariants.{Follow}
use Rattle.verdicts.specs.Verdicts.{HasVerdicts, known_in, VerdictsNow}
use Rattle.engine_edits.specs.Parts.{AreOf}
use Rattle.engine_edits.proofs.PartsLemmas.{by_lists}

pub at_err : {A B P : Type 0} (r : Result A B) → P → OnErr r P
at_err (Ok x) p = tt
at_err (Err e) p = p

-- registry and verdicts belong to other rows, if entries, items and names are the same and the verdicts are theirs
pub by_moved : (r : Registered) (v w : VerdictsNow) (rows next : Rows) (others : List Values) → next.entries ≡ rows.entries → next.items ≡ rows.items → names_of_rows next ≡ names_of_rows rows
    → HasVerdicts r.table w next → AreOf r v rows others → AreOf r w next others
by_moved r v w rows next others entries items names present a = record {
  entries = a.entries ∙ sym entries;
  items = a.items ∙ sym items;
  held = subst (λ (ns : List Values). Shows r.table (holds_in r.table) (others ++ ns)) (sym names) a.held;
  verdicts = present;
}

-- the changes are the differences from the known verdicts, if the statements are the same
pub reported : (rows next : Rows) (v : VerdictsNow) (cs : List Changed) → cs ≡ differing 0 (known_in v) (map (verdict next) next.statements) → known_in v ≡ map (verdict rows) rows.statements
    → next.statements ≡ rows.statements → cs ≡ others rows next rows.statements
reported rows next v cs is known same = is ∙ (λ k. differing 0 (known k) (map (verdict next) (same k)))

pub few_ends : (table : Names) (ids : List NameId) (ns : List Values) → names_at table ids ≡ ns → length ns ≤ 256 → length ids ≤ 256
few_ends table ids ns e few = omega (arith, ap length e, length-map ids (name_at table), few)

pub found_some : {A : Type 0} (p : A → Bool) (xs : List A) → list_any p xs ≡ true → (x : A) × (find p xs ≡ Some x)
found_some {A = A} p [] h = let wrong : ⊥ = cc in absurd wrong
found_some {A = A} p (x ∷ xs) h = by (p x) refl (found_some p xs)
  where
    by : (b : Bool) → p x ≡ b → (list_any p xs ≡ true → (y : A) × (find p xs ≡ Some y)) → (y : A) × (find p (x ∷ xs) ≡ Some y)
    by true e more = (x, ap (λ (c : Bool). if c then Some x else find p xs) e)
    by false e more = let y = more (sym (ap (λ (c : Bool). c || list_any p xs) e) ∙ h) in (y.0, ap (λ (c : Bool). if c then Some x else find p xs) e ∙ y.1)

-- the ends of a name, by a reference to the table and by copied numbers
pub are_ends : (table lent : Names) (es : List Entry) (id : ℕ) (ids numbers : List NameId) → lent ≡ table → numbers ≡ ids → AreRegistryNames table ids → names_at table ids ≡ ends es (kept_at table id).name
    → LeadsTo lent es Follow id numbers
are_ends table lent es id ids numbers at same live names = subst (λ (t : Names). LeadsTo t es Follow id numbers) (sym at) (subst (LeadsTo table es Follow id) (sym same) (record { live = live; names = names }))

-- an item is removed, and its name is still held
pub item_dropped : (old new : Registered) (w : VerdictsNow) (rows : Rows) (id : NameId) (t : Names) → new.table ≡ old.table → new.entries ≡ rows.entries → new.items ≡ without_first (is_same (name_at old.table id)) rows.items
    → Shows old.table (holds_in old.table) (name_at old.table id ∷ names_of_rows (after rows (edit.DropItem (name_at old.table id)))) → t ≡ old.table → HasVerdicts t w (after rows (edit.DropItem (name_at t id)))
    → AreOf new w (after rows (edit.DropItem (name_at old.table id))) (name_at new.table id ∷ [])
item_dropped old new w rows id t table entries items held at present =
    let n = name_at old.table id in
    let next = after rows (edit.DropItem n) in
    subst (λ (x : Names). AreOf new w next (name_at x id ∷ [])) (sym table)
    (by_lists old new w next (n ∷ []) table entries items held (subst (λ (x : Names). HasVerdicts x w (after rows (edit.DropItem (name_at x id)))) at present))

-- a row that is to be removed is there, if the removal isn't refused
pub is_there : (found : Bool) → first_some (when (not found) fault.Unknown ∷ []) ≡ None → found ≡ true
is_there true none = refl
is_there false none = let wrong : ⊥ = cc in absurd wrong
