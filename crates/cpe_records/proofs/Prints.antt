-- Lemmas: the printed form of JSON is UTF-8, if its strings are UTF-8.
use Rattle.std.proofs.Common.{Bool, false, List, [], ◌∷◌, ◌++◌, IsUtf8, refl}
use Rattle.std.specs.List.{AllByRecursion}
use Rattle.std.proofs.lemmas.Str.{IsUtf8-append, IsUtf8-nil}
use Rattle.json.specs.Token.{Token}
use Rattle.json.specs.Json as json
use Rattle.json.specs.Tree.{json_tokens, items_tokens, members_tokens}
use Rattle.json.specs.Print.{token_text, separator, ends, print_from}
use Rattle.json.proofs.Printed.Utf8.{IsUtf8-are_ascii, IsUtf8-quoted, IsUtf8-key, IsUtf8-boolean, IsUtf8-separator}
use Rattle.cpe_records.specs.JsonTexts.{WritesTexts, ItemsWriteTexts, MembersWriteTexts, PrintsAreTexts}

abbrev AreTexts : List Token → Type 0
AreTexts ts = AllByRecursion (λ t. IsUtf8 (token_text t)) ts

joined : (ts us : List Token) → AreTexts ts → AreTexts us → AreTexts (ts ++ us)
joined [] us h k = k
joined (t ∷ ts) us h k = (h.0, joined ts us h.1 k)

mutual
  tokens_are : (j : json.Json) → WritesTexts j → AreTexts (json_tokens j)
  tokens_are json.null h = (IsUtf8-are_ascii _ refl, tt)
  tokens_are (json.boolean b) h = (IsUtf8-boolean b, tt)
  tokens_are (json.number s) h = (h, tt)
  tokens_are (json.string s) h = (IsUtf8-quoted s h, tt)
  tokens_are (json.array js) h = (IsUtf8-are_ascii _ refl, items_are js h)
  tokens_are (json.object ms) h = (IsUtf8-are_ascii _ refl, members_are ms h)

  items_are : (js : json.Items) → ItemsWriteTexts js → AreTexts (items_tokens js)
  items_are json.no_items h = (IsUtf8-are_ascii _ refl, tt)
  items_are (json.item j js) h = joined (json_tokens j) (items_tokens js) (tokens_are j h.0) (items_are js h.1)

  members_are : (ms : json.Members) → MembersWriteTexts ms → AreTexts (members_tokens ms)
  members_are json.no_members h = (IsUtf8-are_ascii _ refl, tt)
  members_are (json.member k j ms) h = (IsUtf8-key k h.0, joined (json_tokens j) (members_tokens ms) (tokens_are j h.1) (members_are ms h.2))

printed : (after_value : Bool) (ts : List Token) → AreTexts ts → IsUtf8 (print_from after_value ts)
unfolding print_from
printed after_value [] h = IsUtf8-nil
printed after_value (t ∷ ts) h =
    IsUtf8-append (separator after_value t) _ (IsUtf8-separator after_value t) (IsUtf8-append (token_text t) (print_from (ends t) ts) h.0 (printed (ends t) ts h.1))

pub prints_text : PrintsAreTexts
prints_text j h = printed false (json_tokens j) (tokens_are j h)
