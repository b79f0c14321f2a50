-- Which words are counts.
use Rattle.std.proofs.Common.{◌≡◌, ℕ, ◌<◌, Bool, true, false, ◌&&◌, if◌then◌else◌, nat_le, List, [], ◌∷◌, length, get_or, Option, Some, None, Ok, Err, ◌≢◌, refl, sym, ap, ◌∙◌, arith}
use Rattle.std.specs.Str.{all_ascii_digits}
use Rattle.std.specs.Str.Parse.{digits_value, ParsesUnsigned}
use Rattle.std.proofs.lemmas.Str.Parse.{IsNumeralModel, numerals_by_value, tells_all_ascii_digits, parse_plain}
use Rattle.std.proofs.lemmas.Bool.Decides.{nat_tests}
use Rattle.drill_lines.specs.declared.line.TheConstants.{MOST_LINES}
use Rattle.cpe_command.specs.Command.{begins_count, count_of}

abbrev pick : (begins digits below : Bool) → ℕ → Option ℕ
pick begins digits below n = if begins && (digits && below) then Some n else None

pick-some : (begins digits below : Bool) (n : ℕ) → begins ≡ true → digits ≡ true → pick begins digits below n ≡ (if below then Some n else None)
pick-some begins digits below n b d = ap (λ x. pick x digits below n) b ∙ ap (λ x. pick true x below n) d

pick-none : (begins digits below : Bool) (n : ℕ) → (digits ≡ true → below ≡ true → ⊥) → pick begins digits below n ≡ None
pick-none false digits below n differ = refl
pick-none true false below n differ = refl
pick-none true true false n differ = refl
pick-none true true true n differ = absurd (differ refl refl)

numerals : IsNumeralModel (λ ds. all_ascii_digits ds ≡ true) (digits_value 10)
numerals = numerals_by_value _ tells_all_ascii_digits

-- a word that begins with a digit other than zero has no sign, and has at least one byte
begins-digit : (word : List ℕ) → begins_count word ≡ true → (get_or word 0 0 ≢ 43) × (0 < length word)
begins-digit [] begins = absurd (cc)
begins-digit (c ∷ cs) begins = (λ plus. grind (arith, nat_tests), omega arith)

-- a word that doesn't begin with a digit other than zero is no count
pub count_of-other : (word : List ℕ) → begins_count word ≡ false → None ≡ count_of word
unfolding count_of
count_of-other word none = sym (ap (λ b. pick b (all_ascii_digits word) (nat_le (digits_value 10 word) MOST_LINES) (digits_value 10 word)) none)

module _ (word : List ℕ) (begins : begins_count word ≡ true) where
  -- if a word that begins so is read as a number that isn't too large, the word is the count of this number
  pub count_of-read : (n : ℕ) → ParsesUnsigned {E = ℕ} 32 10 word (Ok n) → (if nat_le n MOST_LINES then Some n else None) ≡ count_of word
  unfolding count_of
  count_of-read n read =
      let plain = parse_plain numerals {E = ℕ} 32 word (Ok n) read (begins-digit word begins).0 in
      ap (λ k. if nat_le k MOST_LINES then Some k else None) plain.1
      ∙ sym (pick-some (begins_count word) (all_ascii_digits word) (nat_le (digits_value 10 word) MOST_LINES) (digits_value 10 word) begins plain.0.0)

  -- if a word that begins so can't be read as a number, it is no count
  pub count_of-unread : ParsesUnsigned {E = ℕ} 32 10 word (Err 0) → None ≡ count_of word
  unfolding count_of
  count_of-unread read =
      let plain = parse_plain numerals {E = ℕ} 32 word (Err 0) read (begins-digit word begins).0 in
      sym (pick-none (begins_count word) (all_ascii_digits word) (nat_le (digits_value 10 word) MOST_LINES) (digits_value 10 word)
      (λ digits below. plain (digits, (begins-digit word begins).1, grind (arith, nat_tests))))
