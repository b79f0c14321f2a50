-- Values of JSON (RFC 8259) whose strings are UTF-8.
use Rattle.std.specs.Prelude.{ℕ, List, IfSome, IsUtf8}
use Rattle.json.specs.Json as json
use Rattle.json.specs.Print.{print}
use Rattle.json.specs.Tree.{json_tokens}
use Rattle.serde_json.specs.Data.{Data, null, boolean, number, string, array, object, Items, no_items, item, Members, no_members, member}
use Rattle.serde_json.specs.Read.{read}

-- each string of a value is UTF-8, at any depth
abbrev mutual
  pub HasTexts : Data → Type 0
  HasTexts null = Unit {0}
  HasTexts (boolean b) = Unit {0}
  HasTexts (number n) = Unit {0}
  HasTexts (string s) = IsUtf8 s
  HasTexts (array ds) = HaveTexts ds
  HasTexts (object ms) = MembersHaveTexts ms

  pub HaveTexts : Items → Type 0
  HaveTexts no_items = Unit {0}
  HaveTexts (item d ds) = HasTexts d × HaveTexts ds

  pub MembersHaveTexts : Members → Type 0
  MembersHaveTexts no_members = Unit {0}
  MembersHaveTexts (member k d ms) = HasTexts d × MembersHaveTexts ms

-- each string is UTF-8 in a value that is read from UTF-8
abbrev pub ValuesAreTexts : Type 0
ValuesAreTexts = (text : List ℕ) → IsUtf8 text → IfSome (read text) HasTexts

-- each string, key and number of the JSON to be written is UTF-8, at any depth
abbrev mutual
  pub WritesTexts : json.Json → Type 0
  WritesTexts json.null = Unit {0}
  WritesTexts (json.boolean b) = Unit {0}
  WritesTexts (json.number s) = IsUtf8 s
  WritesTexts (json.string s) = IsUtf8 s
  WritesTexts (json.array js) = ItemsWriteTexts js
  WritesTexts (json.object ms) = MembersWriteTexts ms

  pub ItemsWriteTexts : json.Items → Type 0
  ItemsWriteTexts json.no_items = Unit {0}
  ItemsWriteTexts (json.item j js) = WritesTexts j × ItemsWriteTexts js

  pub MembersWriteTexts : json.Members → Type 0
  MembersWriteTexts json.no_members = Unit {0}
  MembersWriteTexts (json.member k j ms) = IsUtf8 k × WritesTexts j × MembersWriteTexts ms

-- the printed form of JSON is UTF-8, if its strings, keys and numbers are
abbrev pub PrintsAreTexts : Type 0
PrintsAreTexts = (j : json.Json) → WritesTexts j → IsUtf8 (print (json_tokens j))
