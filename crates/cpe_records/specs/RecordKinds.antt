-- The kind of a record, by its member `do`.
use Rattle.std.specs.Prelude.{ℕ, List, [], ◌∷◌, codes, Option}
use Rattle.cpe_records.specs.Words.{spelled_word}
use Rattle.cpe_records.specs.declared.record_kind.RecordKind.{RecordKind}
use Rattle.cpe_records.specs.declared.record_kind.RecordKind.TheVariants.{Entry, Deprecate, Amend, Restore, Item, DropItem, Statement, DropStatement, Check, DropCheck, Lookup, Search, Items, Chain, Show, Verdict}

abbrev pub record_word : RecordKind → List ℕ
record_word Entry = codes "entry"
record_word Deprecate = codes "deprecate"
record_word Amend = codes "amend"
record_word Restore = codes "restore"
record_word Item = codes "item"
record_word DropItem = codes "drop-item"
record_word Statement = codes "statement"
record_word DropStatement = codes "drop-statement"
record_word Check = codes "check"
record_word DropCheck = codes "drop-check"
record_word Lookup = codes "lookup"
record_word Search = codes "search"
record_word Items = codes "items"
record_word Chain = codes "chain"
record_word Show = codes "show"
record_word Verdict = codes "verdict"

abbrev pub record_kinds : List RecordKind
record_kinds =
    Entry ∷ Deprecate ∷ Amend ∷ Restore ∷ Item ∷ DropItem ∷ Statement ∷ DropStatement ∷ Check ∷ DropCheck ∷ Lookup ∷ Search ∷ Items ∷ Chain ∷ Show ∷ Verdict ∷ []

abbrev pub record_kind_of : List ℕ → Option RecordKind
record_kind_of = spelled_word record_word record_kinds
