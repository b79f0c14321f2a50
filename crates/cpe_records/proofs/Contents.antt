-- Lemmas: the content of a string of JSON is UTF-8, if the text of the string is UTF-8.
use Rattle.std.proofs.Common.{◌≡◌, ℕ, zero, suc, ◌+◌, ◌-◌, ◌*◌, ◌<◌, ◌≤◌, Bool, true, false, cond, ◌&&◌, ◌||◌, ◌==◌, nat_lt, nat_le, List, [], ◌∷◌, ◌++◌, length, get_or, Option, Some, None, IfSome, IsUtf8, option_and_then, inl, inr, refl, sym, ap, ◌∙◌, subst, arith, append_assoc, append-nil, length-append, true≢false}
use Rattle.std.specs.Char.{digit_value, is_digit, encode_utf8}
use Rattle.std.proofs.lemmas.Bool.{and_parts, cases_lt, ne_eqb, eqb-true, le-leb, le-ltb, lt-ltb, leb-true, ltb-true}
use Rattle.std.proofs.lemmas.Option.{same_Some}
use Rattle.std.proofs.lemmas.Str.{IsUtf8-append, IsUtf8-nil, IsUtf8-encode, IsUtf8-past_char, encode_ascii, inside_one, length-encode, len_utf8_bounds}
use lib.Utf8.{scalar, scalars, encode, encodes, low_scalar}
use Rattle.json.specs.Text.{code_unit, short_escape, is_high_surrogate, is_low_surrogate, surrogate_pair, Within, plain, after_backslash, after_u, after_high, prepend, content}

-- ---- bytes

abbrev AreHigh : List ℕ → Type 0
AreHigh xs = (k : ℕ) → k < length xs → 128 ≤ get_or xs k 0

pub ascii_text : (x : ℕ) → x < 128 → IsUtf8 (x ∷ [])
ascii_text x small = subst IsUtf8 (encode_ascii x small) (IsUtf8-encode x (low_scalar x (omega arith)))

pub past_ascii : (x : ℕ) (xs : List ℕ) → x < 128 → IsUtf8 (x ∷ xs) → IsUtf8 xs
past_ascii x xs small u = IsUtf8-past_char (x ∷ xs) xs x u (ap (λ l. l ++ xs) (sym (encode_ascii x small)))

-- a first character of several bytes, and the rest of the text
pub record HighFirst (xs : List ℕ) : Type 0 where
  pub front : List ℕ
  pub rest : List ℕ
  pub splits : xs ≡ front ++ rest
  pub text : IsUtf8 front
  pub rest_text : IsUtf8 rest
  pub high : AreHigh front
  pub some : 0 < length front

pub high_first : (x : ℕ) (xs : List ℕ) → 128 ≤ x → IsUtf8 (x ∷ xs) → HighFirst (x ∷ xs)
high_first x xs big u = by u.0 u.1.0 u.1.1 where
  by : (cs : List ℕ) → scalars cs ≡ true → encodes cs ≡ x ∷ xs → HighFirst (x ∷ xs)
  by [] s e = absurd (cc)
  by (c ∷ cs) s e =
      let p = and_parts (scalar c) (scalars cs) s in
      let high : AreHigh (encode c) = λ k below. elim (cases_lt (get_or (encode c) k 0) 128) [
        | inl low ↦ absurd (
            let is : c ≡ get_or (encode c) k 0 = inside_one c [] (encode c) k (sym (append-nil _)) below low in
            let one : x ∷ xs ≡ c ∷ encodes cs = sym e ∙ ap (λ l. l ++ encodes cs) (encode_ascii c (omega (arith, is, low))) in
            omega (arith, ap (λ l. get_or l 0 0) one, is, low))
        | inr h ↦ h
      ] in
      record {
        front = encode c;
        rest = encodes cs;
        splits = sym e;
        text = IsUtf8-encode c p.0;
        rest_text = (cs, (p.1, refl));
        high = high;
        some = omega (arith, length-encode c, (len_utf8_bounds c).0);
      }

-- ---- contents

-- if there is a text, it is UTF-8
abbrev pub Texts : Option (List ℕ) → Type 0
Texts found = IfSome found IsUtf8

prepend_text : (front : List ℕ) (found : Option (List ℕ)) → IsUtf8 front → Texts found → Texts (prepend front found)
prepend_text front None u h = tt
prepend_text front (Some s) u h = IsUtf8-append front s u h

either : (b : Bool) (p q : Option (List ℕ)) → Texts p → Texts q → Texts (cond b p q)
either true p q h k = h
either false p q h k = k

prepend-nil : (found : Option (List ℕ)) → prepend [] found ≡ found
prepend-nil None = refl
prepend-nil (Some s) = refl

prepend-prepend : (a b : List ℕ) (found : Option (List ℕ)) → prepend a (prepend b found) ≡ prepend (a ++ b) found
prepend-prepend a b None = refl
prepend-prepend a b (Some s) = ap Some (sym (append_assoc a b s))

-- lemma: bytes that are not ASCII mean themselves
high_run : (front rest : List ℕ) → AreHigh front → content plain (front ++ rest) ≡ prepend front (content plain rest)
unfolding content
high_run [] rest high = sym (prepend-nil _)
high_run (x ∷ xs) rest high =
    let big : 128 ≤ x = high 0 (omega arith) in
    (λ i. cond (ne_eqb x 34 (λ z. omega arith) i) (Some []) (cond (ne_eqb x 92 (λ z. omega arith) i) (content after_backslash (xs ++ rest)) (cond (le-ltb x 32 (omega arith) i) None (prepend (x ∷ []) (high_run xs rest (λ k below. high (suc k) (omega arith)) i)))))
    ∙ prepend-prepend (x ∷ []) xs (content plain rest)

-- ---- escapes

-- there is no byte, or the byte is ASCII; so it is with the byte that a short escape such as `\n` represents
abbrev AsciiIfAny : Option ℕ → Type 0
AsciiIfAny o = IfSome o (λ c. c < 128)

one_of : (b : Bool) (p q : Option ℕ) → AsciiIfAny p → AsciiIfAny q → AsciiIfAny (cond b p q)
one_of true p q h k = h
one_of false p q h k = k

short_ascii : (y : ℕ) → y < 128 → AsciiIfAny (short_escape y)
unfolding short_escape
short_ascii y small =
    let t : Option ℕ = cond (y == 116) (Some 9) None in
    let r : Option ℕ = cond (y == 114) (Some 13) t in
    let n : Option ℕ = cond (y == 110) (Some 10) r in
    let f : Option ℕ = cond (y == 102) (Some 12) n in
    let b : Option ℕ = cond (y == 98) (Some 8) f in
    one_of ((y == 34) || (y == 92) || (y == 47)) (Some y) b small (one_of (y == 98) (Some 8) f (omega arith) (one_of (y == 102) (Some 12) n (omega arith)
    (one_of (y == 110) (Some 10) r (omega arith) (one_of (y == 114) (Some 13) t (omega arith) (one_of (y == 116) (Some 9) None (omega arith) tt)))))

short_high : (y : ℕ) → 128 ≤ y → short_escape y ≡ None
unfolding short_escape
short_high y big =
    let no : (k : ℕ) → k < 128 → (y == k) ≡ false = λ k small. ne_eqb y k (λ z. omega arith) in
    λ i. cond (no 34 (omega arith) i || no 92 (omega arith) i || no 47 (omega arith) i) (Some y)
    (cond (no 98 (omega arith) i) (Some 8) (cond (no 102 (omega arith) i) (Some 12) (cond (no 110 (omega arith) i) (Some 10) (cond (no 114 (omega arith) i) (Some 13) (cond (no 116 (omega arith) i) (Some 9) None)))))

then_text : (o : Option ℕ) (found : Option (List ℕ)) → AsciiIfAny o → Texts found → Texts (option_and_then (λ c. prepend (c ∷ []) found) o)
then_text None found small h = tt
then_text (Some c) found small h = prepend_text (c ∷ []) found (ascii_text c small) h

-- lemma: a hexadecimal digit is ASCII
digit_ascii : (a : ℕ) → is_digit a 16 ≡ true → a < 128
digit_ascii a e = elim (cases_lt a 128) [
  | inl small ↦ small
  | inr big ↦ absurd (true≢false (sym e ∙ none big))
]
  where
    none : 128 ≤ a → is_digit a 16 ≡ false
    none big = λ i. nat_lt (cond (le-ltb a 48 (omega arith) i) 36 (cond (le-ltb a 58 (omega arith) i) (a - 48) (cond (le-ltb a 65 (omega arith) i) 36 (cond (le-ltb a 91 (omega arith) i) (a - 55) (cond (le-ltb a 97 (omega arith) i) 36 (cond (le-ltb a 123 (omega arith) i) (a - 87) 36)))))) 16

-- four digits that spell a code unit
pub record FourDigits (a b c d u : ℕ) : Type 0 where
  pub first : a < 128
  pub second : b < 128
  pub third : c < 128
  pub fourth : d < 128
  pub below : u < 65536

four_digits : (a b c d u : ℕ) → code_unit a b c d ≡ Some u → FourDigits a b c d u
unfolding code_unit
four_digits a b c d u e = by (is_digit a 16 && is_digit b 16 && is_digit c 16 && is_digit d 16) refl e where
  by : (t : Bool) → (is_digit a 16 && is_digit b 16 && is_digit c 16 && is_digit d 16) ≡ t
      → cond t (Some (digit_value a * 4096 + digit_value b * 256 + digit_value c * 16 + digit_value d)) None ≡ Some u → FourDigits a b c d u
  by false tests is = absurd (cc)
  by true tests is =
      let three = and_parts (is_digit a 16 && is_digit b 16 && is_digit c 16) (is_digit d 16) tests in
      let two = and_parts (is_digit a 16 && is_digit b 16) (is_digit c 16) three.0 in
      let one = and_parts (is_digit a 16) (is_digit b 16) two.0 in
      let is_u : digit_value a * 4096 + digit_value b * 256 + digit_value c * 16 + digit_value d ≡ u = same_Some _ _ is in
      record {
        first = digit_ascii a one.0;
        second = digit_ascii b one.1;
        third = digit_ascii c two.1;
        fourth = digit_ascii d three.1;
        below = omega (arith, is_u, ltb-true (digit_value a) 16 one.0, ltb-true (digit_value b) 16 one.1, ltb-true (digit_value c) 16 two.1, ltb-true (digit_value d) 16 three.1);
      }

-- lemma: the text after four such digits is UTF-8
behind_four : (a b c d u : ℕ) (xs : List ℕ) → FourDigits a b c d u → IsUtf8 (a ∷ b ∷ c ∷ d ∷ xs) → IsUtf8 xs
behind_four a b c d u xs four all =
    past_ascii d xs four.fourth (past_ascii c (d ∷ xs) four.third (past_ascii b (c ∷ d ∷ xs) four.second (past_ascii a (b ∷ c ∷ d ∷ xs) four.first all)))

-- lemma: a number above the surrogates is that of a character
high_scalar : (c : ℕ) → 57344 ≤ c → c < 1114112 → scalar c ≡ true
high_scalar c low high = λ i. cond (le-ltb c 55296 (omega arith) i) true (le-leb 57344 c low i && lt-ltb c 1114112 high i)

-- lemma: a number of 16 bits that is no surrogate is that of a character
unit_scalar : (u : ℕ) → u < 65536 → is_high_surrogate u ≡ false → is_low_surrogate u ≡ false → scalar u ≡ true
unit_scalar u below no_high no_low = elim (cases_lt u 55296) [
  | inl low ↦ low_scalar u low
  | inr over ↦ elim (cases_lt u 57344) [
    | inl under ↦ absurd (elim (cases_lt u 56320) [
      | inl is_high ↦ true≢false (sym (λ i. le-leb 55296 u over i && lt-ltb u 56320 is_high i) ∙ no_high)
      | inr is_low ↦ true≢false (sym (λ i. le-leb 56320 u is_low i && lt-ltb u 57344 under i) ∙ no_low)
    ])
    | inr high ↦ high_scalar u high (omega arith)
  ]
]

-- lemma: a pair of surrogates is the number of a character
pair_scalar : (h l : ℕ) → is_high_surrogate h ≡ true → is_low_surrogate l ≡ true → scalar (surrogate_pair h l) ≡ true
pair_scalar h l high low =
    let hs = and_parts (nat_le 55296 h) (nat_lt h 56320) high in
    let ls = and_parts (nat_le 56320 l) (nat_lt l 57344) low in
    let h_from = leb-true 55296 h hs.0 in
    let h_to = ltb-true h 56320 hs.1 in
    let l_from = leb-true 56320 l ls.0 in
    let l_to = ltb-true l 57344 ls.1 in
    high_scalar (surrogate_pair h l) (omega arith) (omega arith)

-- ---- induction on the length of the rest

abbrev Behind : Within → ℕ → Type 0
Behind within n = (xs : List ℕ) → length xs ≤ n → IsUtf8 xs → Texts (content within xs)

module _ (n : ℕ) (rest : Behind plain n) where
  high_text : (h : ℕ) → is_high_surrogate h ≡ true → Behind (after_high h) n
  unfolding content
  high_text h high [] few u = tt
  high_text h high (s ∷ []) few u = tt
  high_text h high (s ∷ t ∷ []) few u = tt
  high_text h high (s ∷ t ∷ a ∷ []) few u = tt
  high_text h high (s ∷ t ∷ a ∷ b ∷ []) few u = tt
  high_text h high (s ∷ t ∷ a ∷ b ∷ c ∷ []) few u = tt
  high_text h high (s ∷ t ∷ a ∷ b ∷ c ∷ d ∷ xs) few u = by ((s == 92) && (t == 117)) refl where
    digits : (o : Option ℕ) → code_unit a b c d ≡ o → IsUtf8 (a ∷ b ∷ c ∷ d ∷ xs)
        → Texts (option_and_then (λ l. cond (is_low_surrogate l) (prepend (encode_utf8 (surrogate_pair h l)) (content plain xs)) None) o)
    digits None e all = tt
    digits (Some l) e all = low (is_low_surrogate l) refl where
      low : (b : Bool) → is_low_surrogate l ≡ b → Texts (cond b (prepend (encode_utf8 (surrogate_pair h l)) (content plain xs)) None)
      low false is = tt
      low true is =
          prepend_text (encode_utf8 (surrogate_pair h l)) (content plain xs) (IsUtf8-encode (surrogate_pair h l) (pair_scalar h l high is))
          (rest xs (omega arith) (behind_four a b c d l xs (four_digits a b c d l e) all))

    by : (test : Bool) → ((s == 92) && (t == 117)) ≡ test
        → Texts (cond test (option_and_then (λ l. cond (is_low_surrogate l) (prepend (encode_utf8 (surrogate_pair h l)) (content plain xs)) None) (code_unit a b c d)) None)
    by false e = tt
    by true e =
        let both = and_parts (s == 92) (t == 117) e in
        digits (code_unit a b c d) refl (past_ascii t _ (omega (arith, eqb-true t 117 both.1)) (past_ascii s _ (omega (arith, eqb-true s 92 both.0)) u))

  unit_text : Behind after_u n
  unfolding content
  unit_text [] few u = tt
  unit_text (a ∷ []) few u = tt
  unit_text (a ∷ b ∷ []) few u = tt
  unit_text (a ∷ b ∷ c ∷ []) few u = tt
  unit_text (a ∷ b ∷ c ∷ d ∷ xs) few all = digits (code_unit a b c d) refl where
    digits : (o : Option ℕ) → code_unit a b c d ≡ o
        → Texts (option_and_then (λ u. cond (is_high_surrogate u) (content (after_high u) xs) (cond (is_low_surrogate u) None (prepend (encode_utf8 u) (content plain xs)))) o)
    digits None e = tt
    digits (Some u) e = by (is_high_surrogate u) refl (is_low_surrogate u) refl where
      four : FourDigits a b c d u
      four = four_digits a b c d u e

      left : IsUtf8 xs
      left = behind_four a b c d u xs four all

      by : (h : Bool) → is_high_surrogate u ≡ h → (l : Bool) → is_low_surrogate u ≡ l
          → Texts (cond h (content (after_high u) xs) (cond l None (prepend (encode_utf8 u) (content plain xs))))
      by true high l low = high_text u high xs (omega arith) left
      by false high true low = tt
      by false high false low = prepend_text (encode_utf8 u) (content plain xs) (IsUtf8-encode u (unit_scalar u four.below high low)) (rest xs (omega arith) left)

  escape_text : Behind after_backslash n
  unfolding content
  escape_text [] few u = tt
  escape_text (y ∷ ys) few u = elim (cases_lt y 128) [
    | inl small ↦
        let left = past_ascii y ys small u in
        either (y == 117) (content after_u ys) _ (unit_text ys (omega arith) left) (then_text (short_escape y) (content plain ys) (short_ascii y small) (rest ys (omega arith) left))
    | inr big ↦ subst Texts (sym (none big)) tt
  ]
    where
      none : 128 ≤ y → cond (y == 117) (content after_u ys) (option_and_then (λ c. prepend (c ∷ []) (content plain ys)) (short_escape y)) ≡ None
      none big = λ i. cond (ne_eqb y 117 (λ z. omega arith) i) (content after_u ys) (option_and_then (λ c. prepend (c ∷ []) (content plain ys)) (short_high y big i))

pub plain_text : (n : ℕ) → Behind plain n
unfolding content
plain_text n [] few u = tt
plain_text zero (x ∷ xs) few u = absurd (omega arith)
plain_text (suc n) (x ∷ xs) few u = elim (cases_lt x 128) [
  | inl small ↦
      let left = past_ascii x xs small u in
      either (x == 34) (Some []) _ IsUtf8-nil (either (x == 92) (content after_backslash xs) _ (escape_text n (plain_text n) xs (omega arith) left)
      (either (nat_lt x 32) None _ tt (prepend_text (x ∷ []) (content plain xs) (ascii_text x small) (plain_text n xs (omega arith) left))))
  | inr big ↦
      let first = high_first x xs big u in
      let fewer : length first.rest ≤ n = omega (arith, few, ap length first.splits, length-append first.front first.rest, first.some) in
      subst (λ l. Texts (content plain l)) (sym first.splits)
      (subst Texts (sym (high_run first.front first.rest first.high)) (prepend_text first.front (content plain first.rest) first.text (plain_text n first.rest fewer first.rest_text)))
]
