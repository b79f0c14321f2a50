-- Printed JSON has no control character, because texts are printed with their control characters escaped.
use Rattle.std.proofs.Common.{◌≡◌, ℕ, zero, suc, ◌+◌, ◌/◌, ◌%◌, Bool, true, false, cond, ◌&&◌, ◌||◌, ◌==◌, nat_lt, nat_le, List, [], ◌∷◌, ◌++◌, ◌⊎◌, inl, inr, refl, arith}
use Rattle.std.specs.Char.{digit_char}
use Rattle.std.specs.List.{list_all}
use Rattle.std.proofs.lemmas.Bool.{and_parts, and_from, false≢true, eqb-true, le-leb, or_cases}
use Rattle.std.proofs.lemmas.Bool.Decides.{nat_tests}
use Rattle.json.specs.Token.{Token, begin_object, end_object, begin_array, end_array, key, string, number, boolean, null, bad}
use Rattle.json.specs.Json as json
use Rattle.json.specs.Tree.{json_tokens, items_tokens, members_tokens}
use Rattle.json.specs.Print.{begins, ends, escape, escape_byte, escape_letter, print, print_from, quoted, separator, token_text}
use Rattle.serde_json.specs.Read.{max_depth}
use Rattle.record_writer.proofs.ReadBack.{fits, fit_items, fit_members}
use Rattle.convert_lines.proofs.Clean.{Clean, clean-append, clean-cons}

-- ---- texts

by_letter : (a b c d e f : Bool) (x : ℕ) → (a ≡ true → nat_le 32 x ≡ true)
    → nat_lt 0 (cond a x (cond b 98 (cond c 102 (cond d 110 (cond e 114 (cond f 116 0)))))) ≡ true
    → nat_le 32 (cond a x (cond b 98 (cond c 102 (cond d 110 (cond e 114 (cond f 116 0)))))) ≡ true
by_letter true b c d e f x h some = h refl
by_letter false true c d e f x h some = refl
by_letter false false true d e f x h some = refl
by_letter false false false true e f x h some = refl
by_letter false false false false true f x h some = refl
by_letter false false false false false true x h some = refl
by_letter false false false false false false x h some = absurd (false≢true some)

quote_or_backslash : (x : ℕ) → ((x == 34) ≡ true) ⊎ ((x == 92) ≡ true) → nat_le 32 x ≡ true
quote_or_backslash x (inl e) = le-leb 32 x (omega (arith, eqb-true x 34 e))
quote_or_backslash x (inr e) = le-leb 32 x (omega (arith, eqb-true x 92 e))

clean_letter : (x : ℕ) → nat_lt 0 (escape_letter x) ≡ true → nat_le 32 (escape_letter x) ≡ true
clean_letter x some =
    by_letter ((x == 34) || (x == 92)) (x == 8) (x == 12) (x == 10) (x == 13) (x == 9) x
    (λ e. quote_or_backslash x (or_cases (x == 34) (x == 92) e)) some

clean_digit : (d : ℕ) → nat_le 32 (digit_char d) ≡ true
clean_digit d = go (nat_lt d 10) where
  go : (b : Bool) → nat_le 32 (cond b (48 + d) (87 + d)) ≡ true
  go true = le-leb 32 (48 + d) (omega arith)
  go false = le-leb 32 (87 + d) (omega arith)

clean_byte : (x : ℕ) → Clean (escape_byte x)
unfolding escape_byte
clean_byte x = go (nat_lt 0 (escape_letter x)) (nat_lt x 32) (clean_letter x) (λ e. grind (arith, nat_tests)) where
  go : (has_letter is_control : Bool) → (has_letter ≡ true → nat_le 32 (escape_letter x) ≡ true) → (is_control ≡ false → nat_le 32 x ≡ true)
      → Clean (cond has_letter (92 ∷ escape_letter x ∷ []) (cond is_control (92 ∷ 117 ∷ 48 ∷ 48 ∷ digit_char (x / 16) ∷ digit_char (x % 16) ∷ []) (x ∷ [])))
  go true is_control h k = clean-cons (escape_letter x) [] (h refl) refl
  go false true h k = clean-cons (digit_char (x / 16)) (digit_char (x % 16) ∷ []) (clean_digit (x / 16)) (clean-cons (digit_char (x % 16)) [] (clean_digit (x % 16)) refl)
  go false false h k = clean-cons x [] (k refl) refl

clean_escape : (s : List ℕ) → Clean (escape s)
clean_escape [] = refl
clean_escape (x ∷ s) = clean-append (escape_byte x) (escape s) (clean_byte x) (clean_escape s)

clean_quoted : (s : List ℕ) → Clean (quoted s)
clean_quoted s = clean-append (escape s) (34 ∷ []) (clean_escape s) refl

-- ---- tokens

-- the token is no number
abbrev is_worded : Token → Bool
is_worded begin_object = true
is_worded end_object = true
is_worded begin_array = true
is_worded end_array = true
is_worded (key s) = true
is_worded (string s) = true
is_worded (number s) = false
is_worded (boolean b) = true
is_worded null = true
is_worded bad = true

clean_token : (t : Token) → is_worded t ≡ true → Clean (token_text t)
clean_token begin_object h = refl
clean_token end_object h = refl
clean_token begin_array h = refl
clean_token end_array h = refl
clean_token (key s) h = clean-append (quoted s) (58 ∷ []) (clean_quoted s) refl
clean_token (string s) h = clean_quoted s
clean_token (number s) h = absurd (false≢true h)
clean_token (boolean true) h = refl
clean_token (boolean false) h = refl
clean_token null h = refl
clean_token bad h = refl

clean_separator : (b : Bool) (t : Token) → Clean (separator b t)
clean_separator b t = go (b && begins t) where
  go : (c : Bool) → Clean (cond c (44 ∷ []) [])
  go true = refl
  go false = refl

clean_from : (after_value : Bool) (ts : List Token) → list_all is_worded ts ≡ true → Clean (print_from after_value ts)
unfolding print_from
clean_from after_value [] h = refl
clean_from after_value (t ∷ ts) h =
    let p = and_parts (is_worded t) (list_all is_worded ts) h in
    clean-append (separator after_value t) (token_text t ++ print_from (ends t) ts) (clean_separator after_value t)
    (clean-append (token_text t) (print_from (ends t) ts) (clean_token t p.0) (clean_from (ends t) ts p.1))

-- ---- JSON without numbers

worded-append : (ts us : List Token) → list_all is_worded ts ≡ true → list_all is_worded us ≡ true → list_all is_worded (ts ++ us) ≡ true
worded-append [] us h k = k
worded-append (t ∷ ts) us h k = let p = and_parts (is_worded t) (list_all is_worded ts) h in and_from _ _ p.0 (worded-append ts us p.1 k)

mutual
  worded : (n : ℕ) (j : json.Json) → fits n j ≡ true → list_all is_worded (json_tokens j) ≡ true
  worded n json.null h = refl
  worded n (json.boolean b) h = refl
  worded n (json.number s) h = absurd (false≢true h)
  worded n (json.string s) h = refl
  worded zero (json.array js) h = absurd (false≢true h)
  worded (suc n) (json.array js) h = worded_items n js h
  worded zero (json.object ms) h = absurd (false≢true h)
  worded (suc n) (json.object ms) h = worded_members n ms h

  worded_items : (n : ℕ) (js : json.Items) → fit_items n js ≡ true → list_all is_worded (items_tokens js) ≡ true
  worded_items n json.no_items h = refl
  worded_items n (json.item j js) h =
      let p = and_parts (fits n j) (fit_items n js) h in worded-append (json_tokens j) (items_tokens js) (worded n j p.0) (worded_items n js p.1)

  worded_members : (n : ℕ) (ms : json.Members) → fit_members n ms ≡ true → list_all is_worded (members_tokens ms) ≡ true
  worded_members n json.no_members h = refl
  worded_members n (json.member k j ms) h =
      let p = and_parts (fits n j) (fit_members n ms) h in worded-append (json_tokens j) (members_tokens ms) (worded n j p.0) (worded_members n ms p.1)

pub clean-print : (j : json.Json) → fits max_depth j ≡ true → Clean (print (json_tokens j))
clean-print j h = clean_from false (json_tokens j) (worded max_depth j h)
