-- Lemmas: the places of the spaces in a line decide whether the line has two texts, and which.
use Rattle.std.proofs.Common.{◌≡◌, ℕ, ◌+◌, ◌-◌, ◌<◌, zero, suc, true, false, List, [], ◌∷◌, ◌==◌, refl, sym, ap, ◌∙◌, length, take, drop, get_or, Some, None, arith, length-drop}
use Rattle.std.specs.List.{slice_split, onto_first, count_by}
use Rattle.std.proofs.lemmas.List.{take_all}
use Rattle.std.proofs.lemmas.List.Splits.{slice_split-cons_yes, slice_split-cons_no, length-slice_split}
use Rattle.memchr.specs.Find.{IsFirstByte, is_byte}
use Rattle.cpe_io.specs.Halves.{is_space, only_two, halves}

not_space : (x : ℕ) → ((x == 32) ≡ true → ⊥) → is_space x ≡ false
not_space x = elim (x == 32) as (λ b. (b ≡ true → ⊥) → b ≡ false) [ true ↦ λ never. absurd (never refl) | false ↦ λ _. refl ]

-- bytes without a space are one piece
cut_none : (bytes : List ℕ) → ((k : ℕ) → k < length bytes → (get_or bytes k 0 == 32) ≡ true → ⊥) → slice_split is_space bytes ≡ bytes ∷ []
cut_none [] h = refl
cut_none (x ∷ xs) h =
    slice_split-cons_no is_space x xs (not_space x (h 0 (omega arith)))
    ∙ ap (onto_first x) (cut_none xs (λ k l e. h (suc k) (omega arith) e))

-- the first piece ends at the first space
cut_first : (bytes : List ℕ) (k : ℕ) → k < length bytes → ((j : ℕ) → j < k → (get_or bytes j 0 == 32) ≡ true → ⊥) → (get_or bytes k 0 == 32) ≡ true
    → slice_split is_space bytes ≡ take k bytes ∷ slice_split is_space (drop (suc k) bytes)
cut_first [] k high before here = absurd (omega (arith, high))
cut_first (x ∷ xs) zero high before here = slice_split-cons_yes is_space x xs here
cut_first (x ∷ xs) (suc k) high before here =
    slice_split-cons_no is_space x xs (not_space x (before 0 (omega arith)))
    ∙ ap (onto_first x) (cut_first xs k (omega (arith, high)) (λ j l e. before (suc j) (omega arith) e) here)

-- a line with two spaces or more has three pieces or more, so it has no two texts
three_pieces : (one two : List ℕ) (line : List ℕ) → only_two (one ∷ two ∷ slice_split is_space line) ≡ None
three_pieces one two line = go (slice_split is_space line) (length-slice_split is_space line) where
  go : (pieces : List (List ℕ)) → length pieces ≡ count_by is_space line + 1 → only_two (one ∷ two ∷ pieces) ≡ None
  go [] e = absurd (omega (arith, e))
  go (three ∷ more) e = refl

found_none : (bytes : List ℕ) → IsFirstByte (is_byte 32) bytes None → slice_split is_space bytes ≡ bytes ∷ []
found_none bytes none = cut_none bytes (λ k l e. none k (omega arith) l e)

found_first : (bytes : List ℕ) (k : ℕ) → IsFirstByte (is_byte 32) bytes (Some k) → slice_split is_space bytes ≡ take k bytes ∷ slice_split is_space (drop (k + 1) bytes)
found_first bytes k is =
    let next : suc k ≡ k + 1 = omega arith in
    cut_first bytes k is.0.high (λ j l e. is.0.before j (omega arith) l e) is.1
    ∙ ap (λ (n : ℕ). take k bytes ∷ slice_split is_space (drop n bytes)) next

-- a line without a space has no two texts
pub no_space : (line : List ℕ) → IsFirstByte (is_byte 32) line None → halves line ≡ None
no_space line none = ap only_two (found_none line none)

-- the bytes after the first space
abbrev tail : List ℕ → ℕ → List ℕ
tail line k = take (length line - (k + 1)) (drop (k + 1) line)

tail_is : (line : List ℕ) (k : ℕ) → tail line k ≡ drop (k + 1) line
tail_is line k = take_all (length line - (k + 1)) (drop (k + 1) line) (omega (arith, length-drop (k + 1) line))

found_behind : (line : List ℕ) (k : ℕ) → IsFirstByte (is_byte 32) line (Some k) → slice_split is_space line ≡ take k line ∷ slice_split is_space (tail line k)
found_behind line k first = found_first line k first ∙ ap (λ (l : List ℕ). take k line ∷ slice_split is_space l) (sym (tail_is line k))

-- a line with a second space has no two texts
pub more_spaces : (line : List ℕ) (k n : ℕ) → IsFirstByte (is_byte 32) line (Some k) → IsFirstByte (is_byte 32) (tail line k) (Some n) → halves line ≡ None
more_spaces line k n first second =
    ap only_two (found_behind line k first ∙ ap (λ (ps : List (List ℕ)). take k line ∷ ps) (found_first (tail line k) n second))
    ∙ three_pieces (take k line) (take n (tail line k)) (drop (n + 1) (tail line k))

-- a line with a single space has the texts before and after this space
pub one_space : (line : List ℕ) (k : ℕ) → IsFirstByte (is_byte 32) line (Some k) → IsFirstByte (is_byte 32) (tail line k) None → halves line ≡ Some (take k line, tail line k)
one_space line k first second =
    ap only_two (found_behind line k first ∙ ap (λ (ps : List (List ℕ)). take k line ∷ ps) (found_none (tail line k) second))
