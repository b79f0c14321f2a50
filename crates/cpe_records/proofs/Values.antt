-- Lemmas: the strings of a value are UTF-8, if the value was read from UTF-8.
use Rattle.std.proofs.Common.{ℕ, zero, suc, List, [], ◌∷◌, length, Option, Some, None, IfSome, IsUtf8, option_map, option_and_then}
use Rattle.std.specs.Ordering.{nat_cmp, match_ordering}
use Rattle.std.specs.declared.cmp.Ordering.{Ordering}
use Rattle.std.specs.declared.cmp.Ordering.TheVariants.{Less, Equal, Greater}
use Rattle.std.specs.Cmp.Lexicographic.{slice_cmp}
use Rattle.json.specs.Token.{Token}
use Rattle.json.specs.Json as json
use Rattle.json.specs.Json.{Parse, parse_map, after_end_array, read_key, items_step, members_step, value_with, if_last}
use Rattle.json.specs.Lex.{tokens}
use Rattle.serde_json.specs.Data.{Num, Data, number, array, object, Items, item, Members, no_members, member, put}
use Rattle.serde_json.specs.Read.{number_of, of_json, of_items, of_members, max_depth}
use Rattle.cpe_records.specs.JsonTexts.{HasTexts, HaveTexts, MembersHaveTexts, ValuesAreTexts}
use Rattle.cpe_records.proofs.Lexemes.{AreTextTokens, tokens_text}

-- ---- values as JSON

abbrev mutual
  IsText : json.Json → Type 0
  IsText json.null = Unit {0}
  IsText (json.boolean b) = Unit {0}
  IsText (json.number s) = Unit {0}
  IsText (json.string s) = IsUtf8 s
  IsText (json.array js) = AreTextItems js
  IsText (json.object ms) = AreTextMembers ms

  AreTextItems : json.Items → Type 0
  AreTextItems json.no_items = Unit {0}
  AreTextItems (json.item j js) = IsText j × AreTextItems js

  AreTextMembers : json.Members → Type 0
  AreTextMembers json.no_members = Unit {0}
  AreTextMembers (json.member k j ms) = IsText j × AreTextMembers ms

-- if a value was parsed, it has the property, and the tokens that remain are UTF-8
abbrev Parsed : {A : Type 0} → (A → Type 0) → Option (A × List Token) → Type 0
Parsed P r = IfSome r (λ p. P p.0 × AreTextTokens p.1)

abbrev Parses : {A : Type 0} → (A → Type 0) → Parse A → Type 0
Parses P parse = (ts : List Token) → AreTextTokens ts → Parsed P (parse ts)

abbrev Left : Option (List Token) → Type 0
Left o = IfSome o AreTextTokens

end_left : (ts : List Token) → AreTextTokens ts → Left (after_end_array ts)
end_left [] h = tt
end_left (Token.begin_object ∷ ts) h = tt
end_left (Token.end_object ∷ ts) h = tt
end_left (Token.begin_array ∷ ts) h = tt
end_left (Token.end_array ∷ ts) h = h.1
end_left (Token.key s ∷ ts) h = tt
end_left (Token.string s ∷ ts) h = tt
end_left (Token.number s ∷ ts) h = tt
end_left (Token.boolean b ∷ ts) h = tt
end_left (Token.null ∷ ts) h = tt
end_left (Token.bad ∷ ts) h = tt

key_left : (ts : List Token) → AreTextTokens ts → Parsed (λ k. Unit {0}) (read_key ts)
key_left [] h = tt
key_left (Token.begin_object ∷ ts) h = tt
key_left (Token.end_object ∷ ts) h = (tt, h.1)
key_left (Token.begin_array ∷ ts) h = tt
key_left (Token.end_array ∷ ts) h = tt
key_left (Token.key s ∷ ts) h = (tt, h.1)
key_left (Token.string s ∷ ts) h = tt
key_left (Token.number s ∷ ts) h = tt
key_left (Token.boolean b ∷ ts) h = tt
key_left (Token.null ∷ ts) h = tt
key_left (Token.bad ∷ ts) h = tt

mapped : {A B : Type 0} (P : A → Type 0) (Q : B → Type 0) (f : A → B) → ((a : A) → P a → Q (f a)) → (r : Option (A × List Token)) → Parsed P r → Parsed Q (parse_map f r)
mapped P Q f h None k = tt
mapped P Q f h (Some p) k = (h p.0 k.0, k.1)

then_parsed : {A B : Type 0} (P : A → Type 0) (Q : B → Type 0) (f : (A × List Token) → Option (B × List Token)) → ((p : A × List Token) → P p.0 → AreTextTokens p.1 → Parsed Q (f p))
    → (r : Option (A × List Token)) → Parsed P r → Parsed Q (option_and_then f r)
then_parsed P Q f h None k = tt
then_parsed P Q f h (Some p) k = h p k.0 k.1

module _ (value : Parse json.Json) (each : Parses IsText value) where
  items_text : (n : ℕ) → Parses AreTextItems (json.items value n)
  unfolding json.items
  items_text zero ts h = tt
  items_text (suc n) ts h = by (items_text n) (after_end_array ts) (end_left ts h) where
    by : Parses AreTextItems (json.items value n) → (o : Option (List Token)) → Left o → Parsed AreTextItems (items_step value (json.items value n) ts o)
    by more (Some rest) left = (tt, left)
    by more None left =
        then_parsed IsText AreTextItems (λ p. parse_map (json.item p.0) (json.items value n p.1))
        (λ p k left_now. mapped AreTextItems AreTextItems (json.item p.0) (λ js m. (k, m)) (json.items value n p.1) (more p.1 left_now)) (value ts) (each ts h)

  members_text : (n : ℕ) → Parses AreTextMembers (json.members value n)
  unfolding json.members
  members_text zero ts h = tt
  members_text (suc n) ts h =
      then_parsed (λ k. Unit {0}) AreTextMembers (λ p. members_step value (json.members value n) p.0 p.1) (λ p k left. by (members_text n) p.0 p.1 left) (read_key ts) (key_left ts h)
    where
      by : Parses AreTextMembers (json.members value n) → (k : Option (List ℕ)) → Parses AreTextMembers (members_step value (json.members value n) k)
      by more None left h_left = (tt, h_left)
      by more (Some k) left h_left =
          then_parsed IsText AreTextMembers (λ p. parse_map (json.member k p.0) (json.members value n p.1))
          (λ p is left_now. mapped AreTextMembers AreTextMembers (json.member k p.0) (λ ms m. (is, m)) (json.members value n p.1) (more p.1 left_now)) (value left) (each left h_left)

with_text : (a : Parse json.Items) (o : Parse json.Members) → Parses AreTextItems a → Parses AreTextMembers o → Parses IsText (value_with a o)
with_text a o items members [] h = tt
with_text a o items members (Token.begin_object ∷ ts) h = mapped AreTextMembers IsText json.object (λ ms k. k) (o ts) (members ts h.1)
with_text a o items members (Token.end_object ∷ ts) h = tt
with_text a o items members (Token.begin_array ∷ ts) h = mapped AreTextItems IsText json.array (λ js k. k) (a ts) (items ts h.1)
with_text a o items members (Token.end_array ∷ ts) h = tt
with_text a o items members (Token.key s ∷ ts) h = tt
with_text a o items members (Token.string s ∷ ts) h = (h.0, h.1)
with_text a o items members (Token.number s ∷ ts) h = (tt, h.1)
with_text a o items members (Token.boolean b ∷ ts) h = (tt, h.1)
with_text a o items members (Token.null ∷ ts) h = (tt, h.1)
with_text a o items members (Token.bad ∷ ts) h = tt

value_text : (depth : ℕ) → Parses IsText (json.value depth)
unfolding json.value
value_text zero = with_text (λ ts. None) (λ ts. None) (λ ts h. tt) (λ ts h. tt)
value_text (suc depth) =
    with_text (λ ts. json.items (json.value depth) (length ts) ts) (λ ts. json.members (json.value depth) (length ts) ts)
    (λ ts h. items_text (json.value depth) (value_text depth) (length ts) ts h) (λ ts h. members_text (json.value depth) (value_text depth) (length ts) ts h)

-- ---- values as data

put_text : (k : List ℕ) (d : Data) (ms : Members) → HasTexts d → MembersHaveTexts ms → MembersHaveTexts (put k d ms)
put_text k d no_members h all = (h, tt)
put_text k d (member l e ms) h all = by (put_text k d ms h all.1) (slice_cmp nat_cmp k l) where
  by : MembersHaveTexts (put k d ms) → (o : Ordering) → MembersHaveTexts (match_ordering o (member k d (member l e ms)) (member l d ms) (member l e (put k d ms)))
  by more Less = (h, all)
  by more Equal = (h, all.1)
  by more Greater = (all.0, more)

number_data : (n : Option Num) → IfSome (option_map number n) HasTexts
number_data None = tt
number_data (Some n) = tt

array_data : (o : Option Items) → IfSome o HaveTexts → IfSome (option_map array o) HasTexts
array_data None h = tt
array_data (Some ds) h = h

object_data : (o : Option Members) → IfSome o MembersHaveTexts → IfSome (option_map object o) HasTexts
object_data None h = tt
object_data (Some ms) h = h

item_data : (d : Data) (o : Option Items) → HasTexts d → IfSome o HaveTexts → IfSome (option_map (item d) o) HaveTexts
item_data d None h k = tt
item_data d (Some ds) h k = (h, k)

mutual
  json_data : (j : json.Json) → IsText j → IfSome (of_json j) HasTexts
  json_data json.null h = tt
  json_data (json.boolean b) h = tt
  json_data (json.number s) h = number_data (number_of s)
  json_data (json.string s) h = h
  json_data (json.array js) h = array_data (of_items js) (items_data js h)
  json_data (json.object ms) h = object_data (of_members ms no_members) (members_data ms no_members h tt)

  items_data : (js : json.Items) → AreTextItems js → IfSome (of_items js) HaveTexts
  items_data json.no_items h = tt
  items_data (json.item j js) h = by (items_data js h.1) (of_json j) (json_data j h.0) where
    by : IfSome (of_items js) HaveTexts → (o : Option Data) → IfSome o HasTexts → IfSome (option_and_then (λ d. option_map (item d) (of_items js)) o) HaveTexts
    by more None k = tt
    by more (Some d) k = item_data d (of_items js) k more

  members_data : (ms : json.Members) (found : Members) → AreTextMembers ms → MembersHaveTexts found → IfSome (of_members ms found) MembersHaveTexts
  members_data json.no_members found h all = all
  members_data (json.member k j ms) found h all = by (λ now. members_data ms now h.1) (of_json j) (json_data j h.0) where
    by : ((now : Members) → MembersHaveTexts now → IfSome (of_members ms now) MembersHaveTexts) → (o : Option Data) → IfSome o HasTexts → IfSome (option_and_then (λ d. of_members ms (put k d found)) o) MembersHaveTexts
    by more None m = tt
    by more (Some d) m = more (put k d found) (put_text k d found m all)

-- ---- the whole value

last_text : (p : json.Json × List Token) → IsText p.0 → IfSome (if_last p.0 p.1) IsText
last_text p h = by p.1 where
  by : (ts : List Token) → IfSome (if_last p.0 ts) IsText
  by [] = h
  by (t ∷ ts) = tt

pub values_text : ValuesAreTexts
values_text text u = data_of (option_and_then (λ p. if_last p.0 p.1) (json.value max_depth (tokens text))) (whole (json.value max_depth (tokens text)) (value_text max_depth (tokens text) (tokens_text text u))) where
  whole : (o : Option (json.Json × List Token)) → Parsed IsText o → IfSome (option_and_then (λ p. if_last p.0 p.1) o) IsText
  whole None h = tt
  whole (Some p) h = last_text p h.0

  data_of : (o : Option json.Json) → IfSome o IsText → IfSome (option_and_then of_json o) HasTexts
  data_of None h = tt
  data_of (Some j) h = json_data j h
