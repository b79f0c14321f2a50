use Rattle.std.proofs.Common.{◌∷◌, [], rules, inl, inr, ap}
use Rattle.std.proofs.lemmas.List.{map-append}
use Rattle.std.specs.Prelude.{Option}
use Rattle.name_index.specs.declared.table.NameId.{NameId}
use Rattle.name_index.specs.Table.{Kept, kept_at, kept_or}
use Rattle.names_in_order.proofs.StayLemmas.{hold_stays, release_stays, keeps_stay, order_stays, names_stay, same_names, order_without, names_without, undone}
use Rattle.names_in_order.proofs.law.orders_stay.Goals as goal

pub returns : goal.returns
returns c = record {
  empty = search rules;
  held = λ old new id name held numbers h a. order_stays old new held numbers (hold_stays old new id name h) a;
  held_names = λ old new id name held numbers h a. names_stay old new numbers (hold_stays old new id name h) a.live;
  released = λ old new id held numbers r safe a. elim safe [
    | inl live ↦ order_stays old new held numbers (release_stays old new id r live) a
    | inr none ↦ order_without old new id numbers r none held (c.fitting_laws.ensures.released old new id held r) a
  ];
  released_names = λ old new id held numbers r safe a. elim safe [
    | inl live ↦ names_stay old new numbers (release_stays old new id r live) a.live
    | inr none ↦ names_without old new id numbers r none
  ];
  kept = λ old new held numbers same a. order_stays old new held numbers (keeps_stay old new same) a;
  kept_names = λ old new numbers same. same_names old new numbers (λ k x at. ap (λ (o : Option Kept). (kept_or o).name) (same x.0));
  undone = λ old mid new id name are h r. undone old mid new id name are.held h r;
  more = λ table numbers id. map-append (λ (x : NameId). (kept_at table x.0).name) numbers (id ∷ []);
}
