-- Lemmas: after a change of the table, entries and items keep their names, and no released number is one of theirs.
use Rattle.std.proofs.Common.{◌≡◌, ◌≢◌, ℕ, zero, suc, ◌≤◌, List, [], ◌∷◌, ◌++◌, Option, Some, None, slice_get, Bool, ◌||◌, refl, sym, ap, subst, ◌∙◌, inl, inr}
use Rattle.std.specs.Prelude.{IsSome, IfOk, Result, Ok, Err, OnOk, OnErr}
use Rattle.std.specs.List.{list_any}
use Rattle.std.proofs.lemmas.Option.{none-some, same_Some}
use Rattle.std.proofs.lemmas.List.{length-map}
use Rattle.cpe_rows.specs.cpe_name.Eleven.{Values}
use Rattle.name_index.specs.declared.table.NameId.{NameId}
use Rattle.name_index.specs.Index.{name_id}
use Rattle.name_index.specs.Table.{IsNameTable, find_kept, HasName, HoldsName, IsLive, Kept, kept_at, kept_or, Names, Releases}
use Rattle.name_index.proofs.Fitting.{held_live, held_name}
use Rattle.names_in_order.specs.InOrder.{AreInOrder, AreListedNames as AreLiveAt, IsSafe, names_numbered}
use Rattle.names_in_order.specs.Laws.{OrdersStay}
use Rattle.names_in_order.specs.Room.{NumberList}
use Rattle.names_in_order.proofs.OrderLemmas.{kept_live}
use Rattle.names_in_order.proofs.StayLemmas.{hold_stays, names_stay, names_without, release_stays}
use Rattle.fact_laws.specs.Shown.{holds_in, Shows, times_named}
use Rattle.cpe_rows.specs.Names.{is_same}
use Rattle.cpe_rows.specs.Rows.{is_named}
use Rattle.cpe_rows.specs.declared.entry.Entry.{Entry}
use Rattle.cpe_dictionary.specs.Kept.{entries_in, entries_of, FitsTable, IsDictionaryGraph, names_of_entries, Stored}
use Rattle.cpe_dictionary.proofs.EntryLemmas.{names_are}
use Rattle.name_registry.specs.Moved.{NameHeld}
use Rattle.name_registry.specs.Registered.{AreFitting, AreHeld, Registered, registered}
use Rattle.name_registry.proofs.HeldLemmas.{second_present, third_present}

-- ---- names that stay

pub same_entries : (old new : Names) (s : Stored) → names_numbered new s.names.numbers ≡ names_numbered old s.names.numbers → entries_in new s ≡ entries_in old s
same_entries old new s same = ap (λ (ns : List Values). entries_of ns s.details) same

pub fits_still : (old new : Names) (s : Stored) → AreInOrder new s.names.held s.names.numbers → names_numbered new s.names.numbers ≡ names_numbered old s.names.numbers → FitsTable old s → FitsTable new s
fits_still old new s order same fits = record {
  order = order;
  even = fits.even;
  kept = subst (λ (es : List Entry). IsDictionaryGraph es s.nodes) (sym (same_entries old new s same)) fits.kept;
}

-- entries have the names of their numbers
pub names_stored : (table : Names) (s : Stored) → FitsTable table s → names_of_entries (entries_in table s) ≡ names_numbered table s.names.numbers
names_stored table s fits = names_are (names_numbered table s.names.numbers) s.details (length-map s.names.numbers (λ (x : NameId). (kept_at table x.0).name) ∙ fits.even)

-- ---- a number that is released

pub own_name : (table : Names) (id : ℕ) → IsLive table id → HasName table id (kept_at table id).name
own_name table id live = by (find_kept table id) refl live
  where
    by : (o : Option Kept) → find_kept table id ≡ o → IsSome o → (k : Kept) × (find_kept table id ≡ Some k) × (k.name ≡ (kept_at table id).name)
    by None e h = let wrong : ⊥ = cc in absurd wrong
    by (Some k) e h = (k, e, sym (ap (λ (p : Option Kept). (kept_or p).name) e))

name_present : (table : Names) (numbers : List NameId) (k : ℕ) (x : NameId) → slice_get numbers k ≡ Some x → slice_get (names_numbered table numbers) k ≡ Some (kept_at table x.0).name
name_present table [] k x e = absurd (none-some x e)
name_present table (y ∷ ys) zero x e = ap {B = Option Values} (λ (z : NameId). Some (kept_at table z.0).name) (same_Some y x e)
name_present table (y ∷ ys) (suc k) x e = name_present table ys k x e

-- if all names of these numbers are still held, the released number isn't one of them, or it is still live
is_safe : (old new : Names) (id : ℕ) (numbers : List NameId) (list : List Values) → IsNameTable old → IsLive old id → Releases old new id
    → ((n : Values) (k : ℕ) → slice_get (names_numbered old numbers) k ≡ Some n → 1 ≤ times_named n list) → Shows new (holds_in new) list → IsSafe new numbers id
is_safe old new id numbers list names live r among shows = by (find_kept new id) refl
  where
    none : find_kept new id ≡ None → (k : ℕ) → slice_get numbers k ≢ Some (name_id id)
    none gone k at =
        let n = (kept_at old id).name in
        let has = own_name old id live in
        let there = shows.known n (among n k (name_present old numbers k (name_id id) at)) in
        let other : there.0 ≢ id = λ is. none-some there.1.0 (sym gone ∙ ap (find_kept new) (sym is) ∙ there.1.1) in
        other (names.different there.0 id there.1.0 has.0 (sym (r.others there.0 other) ∙ there.1.1) has.1 (there.1.2 ∙ ap (λ (o : Option Kept). (kept_or o).name) has.1))

    by : (o : Option Kept) → find_kept new id ≡ o → IsSafe new numbers id
    by None e = inr (none e)
    by (Some k) e = inl (subst IsSome (sym e) refl)

module _ (old new : Names) (s : Stored) (items : List NameId) (id : ℕ) (others : List Values) (names : IsNameTable old) (live : IsLive old id) (gone : Releases old new id) (fit : AreFitting old s items)
    (shows : Shows new (holds_in new) (others ++ (names_of_entries (entries_in old s) ++ names_numbered old items))) where
  pub safe_entries : IsSafe new s.names.numbers id
  safe_entries =
      is_safe old new id s.names.numbers (others ++ (names_of_entries (entries_in old s) ++ names_numbered old items)) names live gone
      (λ n k at. second_present n others (names_of_entries (entries_in old s)) (names_numbered old items) k (ap (λ (ns : List Values). slice_get ns k) (names_stored old s fit.entries) ∙ at)) shows

  pub safe_items : IsSafe new items id
  safe_items = is_safe old new id items (others ++ (names_of_entries (entries_in old s) ++ names_numbered old items)) names live gone (λ n k at. third_present n others (names_of_entries (entries_in old s)) (names_numbered old items) k at) shows

-- ---- numbers that are still live

-- each live number keeps its name and its product
abbrev StayAll : Names → Names → Type 0
StayAll old new = (x : ℕ) (k : Kept) → find_kept old x ≡ Some k → (l : Kept) × (find_kept new x ≡ Some l) × (l.name ≡ k.name) × (l.product ≡ k.product)

live_still : (old new : Names) (numbers : List NameId) → StayAll old new → AreLiveAt old numbers → AreLiveAt new numbers
live_still old new numbers stay live k x at = let o = kept_live old x.0 (live k x at) in subst IsSome (sym (stay x.0 o.0 o.1).1) refl

-- after a release, the other live numbers are still live, with their names
pub live_released : (old new : Names) (id : ℕ) (numbers : List NameId) → Releases old new id → IsSafe new numbers id → AreLiveAt old numbers → AreLiveAt new numbers
live_released old new id numbers r safe live = elim safe [
  | inl there ↦ live_still old new numbers (release_stays old new id r there) live
  | inr none ↦ λ k x at. subst IsSome (sym (r.others x.0 (λ is. none k (at ∙ ap {B = Option NameId} (λ (n : ℕ). Some (name_id n)) is)))) (live k x at)
]

pub names_released : (old new : Names) (id : ℕ) (numbers : List NameId) → Releases old new id → IsSafe new numbers id → AreLiveAt old numbers → names_numbered new numbers ≡ names_numbered old numbers
names_released old new id numbers r safe live = elim safe [ inl there ↦ names_stay old new numbers (release_stays old new id r there) live | inr none ↦ names_without old new id numbers r none ]

-- ---- results

pub on_ok : {A B P Q : Type 0} (r : Result A B) → (P → Q) → OnOk r P → OnOk r Q
on_ok (Ok x) f h = f h
on_ok (Err e) f h = tt

pub on_err : {A B P Q : Type 0} (r : Result A B) → (P → Q) → OnErr r P → OnErr r Q
on_err (Ok x) f h = tt
on_err (Err e) f h = f h

pub if_ok : {A B : Type 0} {P Q : A → Type 0} (r : Result A B) → ((x : A) → P x → Q x) → IfOk r P → IfOk r Q
if_ok (Ok x) f h = f x h
if_ok (Err e) f h = tt

pub ok_if : {A B P : Type 0} (Q : A → Type 0) (r : Result A B) → ((x : A) → Q x → P) → IfOk r Q → OnOk r P
ok_if Q (Ok x) f h = f x h
ok_if Q (Err e) f h = tt

pub either_if : {A B P E : Type 0} (Q : A → Type 0) (r : Result A B) → ((x : A) → Q x → P) → (E → P) → IfOk r Q → OnErr r E → P
either_if Q (Ok x) f g ok err = f x ok
either_if Q (Err e) f g ok err = g err

pub either : {A B P Q E : Type 0} (r : Result A B) → (Q → P) → (E → P) → OnOk r Q → OnErr r E → P
either (Ok x) f g ok err = f ok
either (Err e) f g ok err = g err

-- ---- parts that are unchanged if the table changes

pub record Stays (old new : Names) (s : Stored) (numbers : List NameId) : Type 0 where
  pub fitting : AreFitting new s numbers
  pub entries : entries_in new s ≡ entries_in old s
  pub items : names_numbered new numbers ≡ names_numbered old numbers

pub stays_by : (old new : Names) (s : Stored) (items : List NameId) → AreFitting old s items → AreInOrder new s.names.held s.names.numbers → names_numbered new s.names.numbers ≡ names_numbered old s.names.numbers
    → AreLiveAt new items → names_numbered new items ≡ names_numbered old items → Stays old new s items
stays_by old new s items fit order names live item_names = record {
  fitting = record { entries = fits_still old new s order names fit.entries; items = live };
  entries = same_entries old new s names;
  items = item_names;
}

pub stays_same : (old new : Names) (s : Stored) (items : List NameId) → AreFitting old s items → new ≡ old → Stays old new s items
stays_same old new s items fit same = subst (λ (t : Names). Stays old t s items) (sym same) (record { fitting = fit; entries = refl; items = refl })

-- a hold changes only the table
pub stays_held : {E : Type 0} (old new : Names) (s : Stored) (items : List NameId) (name : Values) (result : Result NameId E) → AreFitting old s items → OrdersStay → IfOk result (λ id. HoldsName old new id.0 name)
    → OnErr result (new ≡ old) → Stays old new s items
stays_held old new s items name result fit orders held same = either_if (λ (id : NameId). HoldsName old new id.0 name) result
    (λ id h. stays_by old new s items fit (orders.held old new id.0 name s.names.held s.names.numbers h fit.entries.order) (orders.held_names old new id.0 name s.names.held s.names.numbers h fit.entries.order)
    (live_still old new items (hold_stays old new id.0 name h) fit.items) (names_stay old new items (hold_stays old new id.0 name h) fit.items))
    (λ e. stays_same old new s items fit e) held same

-- the held names are the same list, if names are unchanged
pub shows_still : (old new : Names) (s : Stored) (items : List NameId) (prefix : List Values) → Stays old new s items → Shows new (holds_in new) (prefix ++ (names_of_entries (entries_in old s) ++ names_numbered old items))
    → Shows new (holds_in new) (prefix ++ (names_of_entries (entries_in new s) ++ names_numbered new items))
shows_still old new s items prefix stays shows =
    let list : prefix ++ (names_of_entries (entries_in new s) ++ names_numbered new items) ≡ prefix ++ (names_of_entries (entries_in old s) ++ names_numbered old items) = λ k. prefix ++ (names_of_entries (stays.entries k) ++ stays.items k) in
    subst (Shows new (holds_in new)) (sym list) shows

-- the result of a hold
pub name_held : {E : Type 0} {x : Registered} (old new : Names) (s : Stored) (items : NumberList) (name : Values) (result : Result NameId E) → registered old s items ≡ x → Stays old new s items.numbers
    → IfOk result (λ id. HoldsName old new id.0 name) → OnErr result (new ≡ old) → ((id : ℕ) (list : List Values) → HoldsName old new id name → Shows old (holds_in old) list → Shows new (holds_in new) (name ∷ list))
    → NameHeld x (registered new s items) name result
name_held old new s items name result view stay held same more = record {
  live = if_ok result (λ id h. held_live old new id.0 name h) held;
  named = if_ok result (λ id h. held_name old new id.0 name h) held;
  held = subst (λ (y : Registered). IfOk result (λ (id : NameId). HoldsName y.table new id.0 name)) view held;
  entries = stay.entries ∙ ap (λ (y : Registered). y.entries) view;
  items = stay.items ∙ ap (λ (y : Registered). y.items) view;
  others = λ others was. let shows = subst (λ (y : Registered). AreHeld y others) (sym view) was in
      ok_if (λ (id : NameId). HoldsName old new id.0 name) result (λ id h. shows_still old new s items.numbers (name ∷ others) stay (more id.0 (others ++ (names_of_entries (entries_in old s) ++ names_numbered old items.numbers)) h shows)) held;
  err = on_err result (λ e. ap (λ (t : Names). registered t s items) e ∙ view) same;
}

-- if the entries keep their names, the held names are unchanged
pub others_same : {x : Registered} (table : Names) (s next : Stored) (items : NumberList) → registered table s items ≡ x → names_of_entries (entries_in table next) ≡ names_of_entries (entries_in table s) → (others : List Values) → AreHeld x others → AreHeld (registered table next items) others
others_same table s next items view same others was =
    subst (λ (ns : List Values). Shows table (holds_in table) (others ++ (ns ++ names_numbered table items.numbers))) (sym same) (subst (λ (y : Registered). AreHeld y others) (sym view) was)

-- ---- entries by their names

pub any_named : (n : Values) (es : List Entry) → list_any (is_named n) es ≡ list_any (is_same n) (names_of_entries es)
any_named n [] = refl
any_named n (e ∷ es) = ap (λ (b : Bool). is_named n e || b) (any_named n es)
