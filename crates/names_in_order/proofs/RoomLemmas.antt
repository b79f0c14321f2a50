-- Lemmas: the room that is reserved for one number more.
use Rattle.std.proofs.Common.{◌≡◌, ◌≤◌, ◌<◌, ◌^◌, ℕ, List, [], ◌∷◌, ◌++◌, Option, slice_get, sym, subst, ap, ◌∙◌, arith}
use Rattle.std.specs.Prelude.{Some}
use Rattle.name_index.specs.declared.table.NameId.{NameId}
use Rattle.name_index.specs.Table.{Kept, Names, IsLive, find_kept, kept_at, kept_or}
use Rattle.names_in_order.specs.InOrder.{AreInOrder, HavePlaceOfNumber, Roll}
use Rattle.names_in_order.specs.Marked.{AreMarkedPlaces}
use Rattle.names_in_order.specs.Room.{KeepsPlaces, SameRoll, spare_places}
use Rattle.names_in_order.proofs.OrderLemmas.{kept_live, old_place}

-- ---- the kept places

-- The kept places are unchanged if a place is kept for one number more.
pub longer : (old places : List ℕ) (place : ℕ) → KeepsPlaces old places → KeepsPlaces old (places ++ place ∷ [])
longer old places place kept k p at = old_place places place p k (kept k p at)

pub still_placed : (ns ms : List NameId) (ps qs : List ℕ) → ms ≡ ns → KeepsPlaces ps qs → HavePlaceOfNumber ns ps → HavePlaceOfNumber ms qs
still_placed ns ms ps qs same kept placed k id at = kept id.0 k (placed k id (sym (ap (λ (xs : List NameId). slice_get xs k) same) ∙ at))

pub still_marked : (ss ts : List (Option NameId)) (ps qs : List ℕ) (len : ℕ) → ts ≡ ss → KeepsPlaces ps qs → AreMarkedPlaces ss ps len → AreMarkedPlaces ts qs len
still_marked ss ts ps qs len same kept marked = subst (λ (us : List (Option NameId)). AreMarkedPlaces us qs len) (sym same) (record {
  placed = λ k id at. kept id.0 k (marked.placed k id at);
  counted = marked.counted;
  few = marked.few;
  dense = marked.dense;
})

-- ---- how many places are free

pub spare_one : (capacity count : ℕ) → count < capacity → count < 2 ^ 32 → 1 ≤ spare_places capacity count
spare_one capacity count room few = omega (arith, room, few)

pub spare_room : (capacity count : ℕ) → 1 ≤ spare_places capacity count → count < capacity
spare_room capacity count spare = omega (arith, spare)

pub spare_few : (capacity count : ℕ) → 1 ≤ spare_places capacity count → count < 2 ^ 32
spare_few capacity count spare = omega (arith, spare)

-- ---- the product of a live number

pub live_product : (table : Names) (id wide : ℕ) → IsLive table id → ((i : ℕ) (k : Kept) → find_kept table i ≡ Some k → k.product < wide) → (kept_at table id).product < wide
live_product table id wide live below =
    let l = kept_live table id live in
    subst (λ (o : Option Kept). (kept_or o).product < wide) (sym l.1) (below id l.0 l.1)

-- ---- the numbers are unchanged

pub same_order : (table : Names) (old new : Roll) → SameRoll old new → AreInOrder table old.held old.numbers → AreInOrder table new.held new.numbers
same_order table old new same order =
    subst (λ (held : List (ℕ × ℕ)). AreInOrder table held new.numbers) (sym same.held) (subst (λ (ns : List NameId). AreInOrder table old.held ns) (sym same.numbers) order)
