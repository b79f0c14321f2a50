-- The forms of members that are not names.
use Rattle.std.specs.Prelude.{ℕ, List, [], ◌∷◌, codes, Bool, false, Option, Some, None, Result, ok_or, option_and_then, option_map, if◌then◌else◌}
use Rattle.serde_json.specs.Data.{Data, Items, no_items, item}
use Rattle.serde_json.specs.Find.{get, as_str, as_bool, as_array}
use Rattle.cpe_rows.specs.Date.{is_date}
use Rattle.cpe_records.specs.Keys.{key_of}
use Rattle.cpe_records.specs.declared.member.Member.{Member}
use Rattle.cpe_records.specs.declared.member.RecordFault.{RecordFault}
use Rattle.cpe_records.specs.declared.member.RecordFault.TheVariants as fault

-- the value of a member, or the member's fault if there is no value
abbrev pub required_member : {A : Type 0} → Member → Option A → Result A RecordFault
required_member m form = ok_or form (fault.Member m)

-- the value of a member; if the member is absent, the default
abbrev pub or_default : {A : Type 0} → A → (Data → Option A) → Option Data → Option A
or_default default form None = Some default
or_default default form (Some d) = form d

-- a text, if it passes the test
abbrev pub tested : (List ℕ → Bool) → List ℕ → Option (List ℕ)
tested passes s = if passes s then Some s else None

-- the value at a member, if the record has the member
abbrev pub member_at : Member → Data → Option Data
member_at m d = get (key_of m) d

-- the text at this key
abbrev pub text_in : List ℕ → Data → Option (List ℕ)
text_in key d = option_and_then as_str (get key d)

-- the Boolean at this key, or `false` if the key is absent
abbrev pub flag_in : List ℕ → Data → Option Bool
flag_in key d = or_default false as_bool (get key d)

-- the text at this member
abbrev pub text_at : Member → Data → Result (List ℕ) RecordFault
text_at m d = required_member m (text_in (key_of m) d)

-- the meaning of the text at this member, if the text is one of the words
abbrev pub word_at : {A : Type 0} → (List ℕ → Option A) → Member → Data → Result A RecordFault
word_at word m d = required_member m (option_and_then word (text_in (key_of m) d))

-- the text at this key, or the empty text if the key is absent
abbrev pub text_or_empty : Member → List ℕ → Data → Result (List ℕ) RecordFault
text_or_empty m key d = required_member m (or_default [] as_str (get key d))

-- the Boolean at this key, or `false` if the key is absent; the member's fault if the value is no Boolean
abbrev pub flag_or_false : Member → List ℕ → Data → Result Bool RecordFault
flag_or_false m key d = required_member m (flag_in key d)

-- the text at the key `date`, if it has the form of a date
abbrev pub date_at : Member → Data → Result (List ℕ) RecordFault
date_at m d = required_member m (option_and_then (tested is_date) (text_in (codes "date") d))

abbrev pub list_of_items : Items → List Data
list_of_items no_items = []
list_of_items (item d ds) = d ∷ list_of_items ds

-- the items of the array at this key, or none if the key is absent
abbrev pub list_or_empty : Member → List ℕ → Data → Result (List Data) RecordFault
list_or_empty m key d = required_member m (or_default [] (λ e. option_map list_of_items (as_array e)) (get key d))
