-- Lemmas: the strings among the tokens of a text are UTF-8, if the text is UTF-8.
use Rattle.std.proofs.Common.{◌≡◌, ℕ, zero, suc, ◌<◌, ◌≤◌, Bool, true, false, cond, ◌==◌, List, [], ◌∷◌, ◌++◌, length, Option, Some, None, IsUtf8, inl, inr, refl, sym, ap, subst, arith, length-append, get_or}
use Rattle.std.specs.List.{AllByRecursion}
use Rattle.std.proofs.lemmas.Bool.{cases_lt, eqb-true}
use Rattle.json.specs.Token.{Token, begin_object, end_object, begin_array, end_array, key, string, number, boolean, null, bad}
use Rattle.json.specs.Text.{content, plain}
use Rattle.json.specs.Word.{is_operator, is_space, head, ends_word, after_number, number_before, literal, word}
use Rattle.json.specs.Lex.{Lexeme, token, comma, colon, Class, quote, backslash, operator, space, other, class, operator_lexeme, string_token, Mode, between, in_word, in_string, in_escape, lex_byte, lex, Place, fresh, after_value, after_comma, after_key, begins_colon, may_begin, may_close, if_allowed, place_token, punctuate, tokens}
use Rattle.json.specs.Ascii as ascii
use Rattle.cpe_records.proofs.Contents.{Texts, past_ascii, plain_text, high_first}

-- ---- the text after an ASCII byte

-- after each ASCII byte, the rest of the text is UTF-8
abbrev IsCut : List ℕ → Type 0
IsCut [] = Unit {0}
IsCut (x ∷ xs) = (x < 128 → IsUtf8 xs) × IsCut xs

high_cut : (front rest : List ℕ) → ((k : ℕ) → k < length front → 128 ≤ get_or front k 0) → IsCut rest → IsCut (front ++ rest)
high_cut [] rest high cut = cut
high_cut (x ∷ xs) rest high cut =
    let big : 128 ≤ x = high 0 (omega arith) in
    (λ small. absurd (omega (arith, big, small)), high_cut xs rest (λ k below. high (suc k) (omega arith)) cut)

text_cut : (n : ℕ) (xs : List ℕ) → length xs ≤ n → IsUtf8 xs → IsCut xs
text_cut n [] few u = tt
text_cut zero (x ∷ xs) few u = absurd (omega arith)
text_cut (suc n) (x ∷ xs) few u = elim (cases_lt x 128) [
  | inl small ↦ let left = past_ascii x xs small u in (λ _. left, text_cut n xs (omega arith) left)
  | inr big ↦
      let first = high_first x xs big u in
      let fewer : length first.rest ≤ n = omega (arith, few, ap length first.splits, length-append first.front first.rest, first.some) in
      subst IsCut (sym first.splits) (high_cut first.front first.rest first.high (text_cut n first.rest fewer first.rest_text))
]

-- ---- lexemes

-- if the token is a string, it is UTF-8
abbrev pub IsTextToken : Token → Type 0
IsTextToken begin_object = Unit {0}
IsTextToken end_object = Unit {0}
IsTextToken begin_array = Unit {0}
IsTextToken end_array = Unit {0}
IsTextToken (key s) = Unit {0}
IsTextToken (string s) = IsUtf8 s
IsTextToken (number s) = Unit {0}
IsTextToken (boolean b) = Unit {0}
IsTextToken null = Unit {0}
IsTextToken bad = Unit {0}

abbrev IsTextLexeme : Lexeme → Type 0
IsTextLexeme (token t) = IsTextToken t
IsTextLexeme comma = Unit {0}
IsTextLexeme colon = Unit {0}

abbrev pub AreTextTokens : List Token → Type 0
AreTextTokens ts = AllByRecursion IsTextToken ts

abbrev AreTextLexemes : List Lexeme → Type 0
AreTextLexemes ls = AllByRecursion IsTextLexeme ls

string_text : (found : Option (List ℕ)) → Texts found → IsTextToken (string_token found)
string_text None h = tt
string_text (Some s) h = h

-- lemma: a choice between two such tokens is such a token
one_token : (b : Bool) (p q : Token) → IsTextToken p → IsTextToken q → IsTextToken (cond b p q)
one_token true p q h k = h
one_token false p q h k = k

one_lexeme : (b : Bool) (p q : Lexeme) → IsTextLexeme p → IsTextLexeme q → IsTextLexeme (cond b p q)
one_lexeme true p q h k = h
one_lexeme false p q h k = k

operator_text : (x : ℕ) → IsTextLexeme (operator_lexeme x)
operator_text x =
    let last : Lexeme = cond (x == ascii.comma) comma colon in
    let close : Lexeme = cond (x == ascii.close_bracket) (token end_array) last in
    let open_it : Lexeme = cond (x == ascii.open_bracket) (token begin_array) close in
    let brace : Lexeme = cond (x == ascii.close_brace) (token end_object) open_it in
    one_lexeme (x == ascii.open_brace) (token begin_object) brace tt (one_lexeme (x == ascii.close_brace) (token end_object) open_it tt
    (one_lexeme (x == ascii.open_bracket) (token begin_array) close tt (one_lexeme (x == ascii.close_bracket) (token end_array) last tt (one_lexeme (x == ascii.comma) comma colon tt tt))))

number_text : (t : List ℕ) (rest : Option (List ℕ)) → IsTextToken (number_before t rest)
number_text t None = tt
number_text t (Some rest) = one_token (ends_word rest) _ bad tt tt

word_text : (t : List ℕ) → IsTextToken (word t)
unfolding word
word_text t =
    let n : Token = number_before t (after_number t) in
    let l : Token = cond (head t == ascii.lower_n) (literal ascii.null_text null t) n in
    let f : Token = cond (head t == ascii.lower_f) (literal ascii.false_text (boolean false) t) l in
    one_token (head t == ascii.lower_t) (literal ascii.true_text (boolean true) t) f (one_token _ (boolean true) bad tt tt)
    (one_token (head t == ascii.lower_f) (literal ascii.false_text (boolean false) t) l (one_token _ (boolean false) bad tt tt)
    (one_token (head t == ascii.lower_n) (literal ascii.null_text null t) n (one_token _ null bad tt tt) (number_text t (after_number t))))

-- lemma: a byte has the class `quote` only if it is a quote
quote_is : (a b c d : Bool) → cond a quote (cond b backslash (cond c operator (cond d space other))) ≡ quote → a ≡ true
quote_is true b c d e = refl
quote_is false true c d e = absurd (cc)
quote_is false false true d e = absurd (cc)
quote_is false false false true e = absurd (cc)
quote_is false false false false e = absurd (cc)

lexed : (m : Mode) (xs : List ℕ) → IsCut xs → AreTextLexemes (lex m xs)
unfolding lex
lexed m [] cut = tt
lexed m (x ∷ xs) cut = by (λ next. lexed next xs cut.1) m (class x) refl where
  by : ((next : Mode) → AreTextLexemes (lex next xs)) → (mode : Mode) (c : Class) → class x ≡ c → AreTextLexemes (lex_byte mode c x xs (λ next. lex next xs))
  by rest between quote e =
      let is : x ≡ 34 = eqb-true x 34 (quote_is (x == ascii.quote) (x == ascii.backslash) (is_operator x) (is_space x) e) in
      (string_text (content plain xs) (plain_text (length xs) xs (omega arith) (cut.0 (omega (arith, is)))), rest in_string)
  by rest between backslash e = (tt, rest in_word)
  by rest between operator e = (operator_text x, rest between)
  by rest between space e = rest between
  by rest between other e = (word_text (x ∷ xs), rest in_word)
  by rest in_word quote e = rest in_word
  by rest in_word backslash e = rest in_word
  by rest in_word operator e = (operator_text x, rest between)
  by rest in_word space e = rest between
  by rest in_word other e = rest in_word
  by rest in_string quote e = rest between
  by rest in_string backslash e = rest in_escape
  by rest in_string operator e = rest in_string
  by rest in_string space e = rest in_string
  by rest in_string other e = rest in_string
  by rest in_escape c e = rest in_string

-- ---- tokens

abbrev FromPlace : (Place → List Token) → Type 0
FromPlace k = (p : Place) → AreTextTokens (k p)

allowed : (b : Bool) (t : Token) (k : Place → List Token) (next : Place) → IsTextToken t → FromPlace k → AreTextTokens (if_allowed b t k next)
allowed true t k next h rest = (h, rest next)
allowed false t k next h rest = (tt, tt)

placed : (p : Place) (t : Token) (before_colon : Bool) (k : Place → List Token) → IsTextToken t → FromPlace k → AreTextTokens (place_token p t before_colon k)
placed p begin_object before_colon k h rest = allowed (may_begin p) begin_object k fresh tt rest
placed p end_object before_colon k h rest = allowed (may_close p) end_object k after_value tt rest
placed p begin_array before_colon k h rest = allowed (may_begin p) begin_array k fresh tt rest
placed p end_array before_colon k h rest = allowed (may_close p) end_array k after_value tt rest
placed p (key s) before_colon k h rest = (tt, tt)
placed p (string s) true k h rest = allowed (may_begin p) (key s) k after_key tt rest
placed p (string s) false k h rest = allowed (may_begin p) (string s) k after_value h rest
placed p (number s) before_colon k h rest = allowed (may_begin p) (number s) k after_value tt rest
placed p (boolean b) before_colon k h rest = allowed (may_begin p) (boolean b) k after_value tt rest
placed p null before_colon k h rest = allowed (may_begin p) null k after_value tt rest
placed p bad before_colon k h rest = (tt, tt)

punctuated : (p : Place) (ls : List Lexeme) → AreTextLexemes ls → AreTextTokens (punctuate p ls)
unfolding punctuate
punctuated fresh [] h = tt
punctuated after_value [] h = tt
punctuated after_comma [] h = (tt, tt)
punctuated after_key [] h = (tt, tt)
punctuated p (token t ∷ ls) h = placed p t (begins_colon ls) (λ next. punctuate next ls) h.0 (λ next. punctuated next ls h.1)
punctuated fresh (comma ∷ ls) h = (tt, tt)
punctuated after_value (comma ∷ ls) h = punctuated after_comma ls h.1
punctuated after_comma (comma ∷ ls) h = (tt, tt)
punctuated after_key (comma ∷ ls) h = (tt, tt)
punctuated fresh (colon ∷ ls) h = (tt, tt)
punctuated after_value (colon ∷ ls) h = (tt, tt)
punctuated after_comma (colon ∷ ls) h = (tt, tt)
punctuated after_key (colon ∷ ls) h = punctuated fresh ls h.1

pub tokens_text : (text : List ℕ) → IsUtf8 text → AreTextTokens (tokens text)
tokens_text text u = punctuated fresh (lex between text) (lexed between text (text_cut (length text) text (omega arith) u))
