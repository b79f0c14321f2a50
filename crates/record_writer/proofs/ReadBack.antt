-- Lemmas: the printed form of JSON without numbers is read as the same JSON, as data (RFC 8259). If a key is there
-- twice, its last value counts.
use Rattle.std.proofs.Common.{◌≡◌, ℕ, zero, suc, ◌≤◌, [], Bool, true, false, ◌&&◌, Some, option_and_then, option_map, refl, ap, sym, ◌∙◌, arith, append-nil}
use Rattle.std.proofs.lemmas.Bool.{and_parts}
use Rattle.json.specs.Json as json
use Rattle.json.specs.Print.{print}
use Rattle.json.specs.Tree as tree
use Rattle.json.proofs.Printed.Tokens.{tokens-print}
use Rattle.json.proofs.Printed.Trees.{value-json_tokens, ArePrintable-json_tokens}
use Rattle.serde_json.specs.Data.{Data, null, boolean, string, array, object, Items, no_items, item, Members, no_members, put}
use Rattle.serde_json.specs.Read.{of_json, of_items, of_members, read, max_depth}

abbrev mutual
  -- the JSON as data; a number is read as `null`
  pub data_of : json.Json → Data
  data_of json.null = null
  data_of (json.boolean b) = boolean b
  data_of (json.number s) = null
  data_of (json.string s) = string s
  data_of (json.array js) = array (data_items js)
  data_of (json.object ms) = object (data_members ms no_members)

  pub data_items : json.Items → Items
  data_items json.no_items = no_items
  data_items (json.item j js) = item (data_of j) (data_items js)

  pub data_members : json.Members → Members → Members
  data_members json.no_members found = found
  data_members (json.member k j ms) found = data_members ms (put k (data_of j) found)

abbrev mutual
  -- whether the JSON has no numbers, and nests at most `n` arrays and objects
  pub fits : ℕ → json.Json → Bool
  fits n json.null = true
  fits n (json.boolean b) = true
  fits n (json.number s) = false
  fits n (json.string s) = true
  fits zero (json.array js) = false
  fits (suc n) (json.array js) = fit_items n js
  fits zero (json.object ms) = false
  fits (suc n) (json.object ms) = fit_members n ms

  pub fit_items : ℕ → json.Items → Bool
  fit_items n json.no_items = true
  fit_items n (json.item j js) = fits n j && fit_items n js

  pub fit_members : ℕ → json.Members → Bool
  fit_members n json.no_members = true
  fit_members n (json.member k j ms) = fits n j && fit_members n ms

mutual
  shallow : (n : ℕ) (j : json.Json) → fits n j ≡ true → tree.depth j ≤ n
  shallow n json.null h = omega arith
  shallow n (json.boolean b) h = omega arith
  shallow n (json.number s) h = omega arith
  shallow n (json.string s) h = omega arith
  shallow zero (json.array js) h = let wrong : ⊥ = cc in absurd wrong
  shallow (suc n) (json.array js) h = omega (arith, shallow_items n js h)
  shallow zero (json.object ms) h = let wrong : ⊥ = cc in absurd wrong
  shallow (suc n) (json.object ms) h = omega (arith, shallow_members n ms h)

  shallow_items : (n : ℕ) (js : json.Items) → fit_items n js ≡ true → tree.items_depth js ≤ n
  shallow_items n json.no_items h = omega arith
  shallow_items n (json.item j js) h = let p = and_parts (fits n j) (fit_items n js) h in omega (arith, shallow n j p.0, shallow_items n js p.1)

  shallow_members : (n : ℕ) (ms : json.Members) → fit_members n ms ≡ true → tree.members_depth ms ≤ n
  shallow_members n json.no_members h = omega arith
  shallow_members n (json.member k j ms) h = let p = and_parts (fits n j) (fit_members n ms) h in omega (arith, shallow n j p.0, shallow_members n ms p.1)

mutual
  plain : (n : ℕ) (j : json.Json) → fits n j ≡ true → tree.HasNumbers j
  plain n json.null h = tt
  plain n (json.boolean b) h = tt
  plain n (json.number s) h = let wrong : ⊥ = cc in absurd wrong
  plain n (json.string s) h = tt
  plain zero (json.array js) h = let wrong : ⊥ = cc in absurd wrong
  plain (suc n) (json.array js) h = plain_items n js h
  plain zero (json.object ms) h = let wrong : ⊥ = cc in absurd wrong
  plain (suc n) (json.object ms) h = plain_members n ms h

  plain_items : (n : ℕ) (js : json.Items) → fit_items n js ≡ true → tree.ItemsHaveNumbers js
  plain_items n json.no_items h = tt
  plain_items n (json.item j js) h = let p = and_parts (fits n j) (fit_items n js) h in (plain n j p.0, plain_items n js p.1)

  plain_members : (n : ℕ) (ms : json.Members) → fit_members n ms ≡ true → tree.MembersHaveNumbers ms
  plain_members n json.no_members h = tt
  plain_members n (json.member k j ms) h = let p = and_parts (fits n j) (fit_members n ms) h in (plain n j p.0, plain_members n ms p.1)

mutual
  data_is : (n : ℕ) (j : json.Json) → fits n j ≡ true → of_json j ≡ Some (data_of j)
  data_is n json.null h = refl
  data_is n (json.boolean b) h = refl
  data_is n (json.number s) h = let wrong : ⊥ = cc in absurd wrong
  data_is n (json.string s) h = refl
  data_is zero (json.array js) h = let wrong : ⊥ = cc in absurd wrong
  data_is (suc n) (json.array js) h = ap (option_map array) (items_are n js h)
  data_is zero (json.object ms) h = let wrong : ⊥ = cc in absurd wrong
  data_is (suc n) (json.object ms) h = ap (option_map object) (members_are n ms no_members h)

  items_are : (n : ℕ) (js : json.Items) → fit_items n js ≡ true → of_items js ≡ Some (data_items js)
  items_are n json.no_items h = refl
  items_are n (json.item j js) h =
      let p = and_parts (fits n j) (fit_items n js) h in
      ap (option_and_then (λ d. option_map (item d) (of_items js))) (data_is n j p.0) ∙ ap (option_map (item (data_of j))) (items_are n js p.1)

  members_are : (n : ℕ) (ms : json.Members) (found : Members) → fit_members n ms ≡ true → of_members ms found ≡ Some (data_members ms found)
  members_are n json.no_members found h = refl
  members_are n (json.member k j ms) found h =
      let p = and_parts (fits n j) (fit_members n ms) h in
      ap (option_and_then (λ d. of_members ms (put k d found))) (data_is n j p.0) ∙ members_are n ms (put k (data_of j) found) p.1

pub read-printed : (j : json.Json) → fits max_depth j ≡ true → read (print (tree.json_tokens j)) ≡ Some (data_of j)
read-printed j h =
    ap (λ o. option_and_then of_json (option_and_then (λ p. json.if_last p.0 p.1) o))
    (ap (json.value max_depth) (tokens-print (tree.json_tokens j) (ArePrintable-json_tokens j (plain max_depth j h)) ∙ sym (append-nil (tree.json_tokens j)))
    ∙ value-json_tokens j max_depth [] (shallow max_depth j h))
    ∙ data_is max_depth j h
