-- Lemmas: texts that are read from a value are UTF-8, if the strings of the value are UTF-8.
use Rattle.std.proofs.Common.{ℕ, List, [], Some, IfSome}
use Rattle.std.specs.Prelude.{IfOk, option_map}
use Rattle.std.specs.List.{AllByRecursion}
use Rattle.std.specs.Ordering.{nat_cmp, match_ordering}
use Rattle.std.specs.declared.cmp.Ordering.{Ordering}
use Rattle.std.specs.declared.cmp.Ordering.TheVariants.{Less, Equal, Greater}
use Rattle.std.specs.Cmp.Lexicographic.{slice_cmp}
use Rattle.std.proofs.lemmas.Str.{is_utf8-from_IsUtf8, IsUtf8-nil}
use Rattle.serde_json.specs.Data.{Data, null, boolean, number, string, array, object, Items, no_items, item, Members, no_members, member}
use Rattle.serde_json.specs.Find.{get_member, get, as_str, as_array}
use Rattle.cpe_records.specs.JsonTexts.{HasTexts, HaveTexts, MembersHaveTexts}
use Rattle.cpe_records.specs.Forms.{or_default, text_in, text_at, text_or_empty, list_of_items, list_or_empty}
use Rattle.cpe_records.specs.Keys.{key_of}
use Rattle.cpe_records.specs.declared.member.Member.{Member}
use Rattle.snapshot_bytes.specs.States.{IsString}
use Rattle.cpe_records.proofs.ReadLemmas.{required_if, some_if, map_if, default_if}

members_have : (k : List ℕ) (ms : Members) → MembersHaveTexts ms → IfSome (get_member k ms) HasTexts
members_have k no_members h = tt
members_have k (member l e ms) h = by (members_have k ms h.1) (slice_cmp nat_cmp k l) where
  by : IfSome (get_member k ms) HasTexts → (o : Ordering) → IfSome (match_ordering o (get_member k ms) (Some e) (get_member k ms)) HasTexts
  by more Less = more
  by more Equal = h.0
  by more Greater = more

pub get_has : (k : List ℕ) (d : Data) → HasTexts d → IfSome (get k d) HasTexts
get_has k null h = tt
get_has k (boolean b) h = tt
get_has k (number n) h = tt
get_has k (string s) h = tt
get_has k (array ds) h = tt
get_has k (object ms) h = members_have k ms h

pub str_is : (d : Data) → HasTexts d → IfSome (as_str d) IsString
str_is null h = tt
str_is (boolean b) h = tt
str_is (number n) h = tt
str_is (string s) h = is_utf8-from_IsUtf8 s h
str_is (array ds) h = tt
str_is (object ms) h = tt

array_has : (d : Data) → HasTexts d → IfSome (as_array d) HaveTexts
array_has null h = tt
array_has (boolean b) h = tt
array_has (number n) h = tt
array_has (string s) h = tt
array_has (array ds) h = h
array_has (object ms) h = tt

listed : (ds : Items) → HaveTexts ds → AllByRecursion HasTexts (list_of_items ds)
listed no_items h = tt
listed (item d ds) h = (h.0, listed ds h.1)

pub text_in_is : (key : List ℕ) (d : Data) → HasTexts d → IfSome (text_in key d) IsString
text_in_is key d h = some_if HasTexts IsString (get key d) as_str (get_has key d h) str_is

pub empty_is : IsString []
empty_is = is_utf8-from_IsUtf8 [] IsUtf8-nil

pub text_at_is : (m : Member) (d : Data) → HasTexts d → IfOk (text_at m d) IsString
text_at_is m d h = required_if IsString m (text_in (key_of m) d) (text_in_is (key_of m) d h)

pub text_or_empty_is : (m : Member) (key : List ℕ) (d : Data) → HasTexts d → IfOk (text_or_empty m key d) IsString
text_or_empty_is m key d h = required_if IsString m (or_default [] as_str (get key d)) (default_if IsString HasTexts [] as_str (get key d) empty_is str_is (get_has key d h))

pub list_or_empty_has : (m : Member) (key : List ℕ) (d : Data) → HasTexts d → IfOk (list_or_empty m key d) (AllByRecursion HasTexts)
list_or_empty_has m key d h =
    required_if (AllByRecursion HasTexts) m (or_default [] (λ e. option_map list_of_items (as_array e)) (get key d))
    (default_if (AllByRecursion HasTexts) HasTexts [] (λ e. option_map list_of_items (as_array e)) (get key d) tt
    (λ e has. map_if HaveTexts (AllByRecursion HasTexts) (as_array e) list_of_items (array_has e has) listed) (get_has key d h))
