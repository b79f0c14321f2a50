-- Lemmas: the first piece of a version, and where it ends.
use Rattle.std.proofs.Common.{◌≡◌, ℕ, suc, ◌+◌, Bool, true, false, not, ◌||◌, cond, List, [], ◌∷◌, ◌++◌, map, take, drop, refl, sym, ap, ◌∙◌, arith}
use Rattle.std.specs.List.{onto_first, prefix_len}
use Rattle.std.specs.Char.{is_ascii_digit, is_ascii_alphabetic}
use Rattle.std.specs.Str.{str_to_ascii_lowercase}
use Rattle.std.proofs.lemmas.Bool.Decides.{nat_tests}
use Rattle.advise_versions.specs.Pieces.{Piece, Word, End, Number, separates, is_kin, begins_piece, piece_runs, piece_of, version_pieces, without_zeros}

-- The byte b is no separator, and a byte is of the same kind as b exactly if it passes p.
pub record AreKind (p : ℕ → Bool) (b : ℕ) : Type 0 where
  pub joins : separates b ≡ false
  pub kin : (c : ℕ) → is_kin b c ≡ p c

module _ (p : ℕ → Bool) (kind : (b : ℕ) → p b ≡ true → AreKind p b) where
  alone : (b : ℕ) (rest : List (List ℕ)) → p b ≡ true → cond (separates b) rest ((b ∷ []) ∷ []) ≡ (b ∷ []) ∷ []
  alone b rest h = ap (λ s. cond s rest ((b ∷ []) ∷ [])) (kind b h).joins

  pub first_run : (b : ℕ) (bs : List ℕ) → p b ≡ true → piece_runs (b ∷ bs) ≡ (b ∷ take (prefix_len p bs) bs) ∷ piece_runs (drop (prefix_len p bs) bs)
  first_run b [] h = alone b [] h
  first_run b (c ∷ bs) h =
      let more = piece_runs (c ∷ bs) in
      ap (λ s. cond s more (cond (is_kin b c) (onto_first b more) ((b ∷ []) ∷ more))) (kind b h).joins
      ∙ ap (λ s. cond s (onto_first b more) ((b ∷ []) ∷ more)) ((kind b h).kin c)
      ∙ go (p c) (first_run c bs)
    where
      m : ℕ
      m = prefix_len p bs

      go : (q : Bool) → (q ≡ true → piece_runs (c ∷ bs) ≡ (c ∷ take (prefix_len p bs) bs) ∷ piece_runs (drop (prefix_len p bs) bs))
          → cond q (onto_first b (piece_runs (c ∷ bs))) ((b ∷ []) ∷ piece_runs (c ∷ bs))
          ≡ (b ∷ take (cond q (1 + prefix_len p bs) 0) (c ∷ bs)) ∷ piece_runs (drop (cond q (1 + prefix_len p bs) 0) (c ∷ bs))
      go true next =
          let one : suc (prefix_len p bs) ≡ 1 + prefix_len p bs = omega arith in
          ap (onto_first b) (next refl) ∙ ap (λ n. (b ∷ take n (c ∷ bs)) ∷ piece_runs (drop n (c ∷ bs))) one
      go false next = refl

  -- If the first byte of a text passes p, the first run has all bytes up to the first that does not pass.
  pub first_run_of : (s : List ℕ) → begins_piece p s ≡ true → piece_runs s ≡ take (prefix_len p s) s ∷ piece_runs (drop (prefix_len p s) s)
  first_run_of [] h = let wrong : ⊥ = cc in absurd wrong
  first_run_of (b ∷ bs) h =
      let one : suc (prefix_len p bs) ≡ 1 + prefix_len p bs = omega arith in
      first_run b bs h ∙ ap (λ n. take n (b ∷ bs) ∷ piece_runs (drop n (b ∷ bs))) (one ∙ ap (λ q. cond q (1 + prefix_len p bs) 0) (sym h))

  shorter_by : (s : List ℕ) → begins_piece p s ≡ true → (n : ℕ) × (prefix_len p s ≡ suc n)
  shorter_by [] h = let wrong : ⊥ = cc in absurd wrong
  shorter_by (b ∷ bs) h =
      let one : 1 + prefix_len p bs ≡ suc (prefix_len p bs) = omega arith in
      (prefix_len p bs, ap (λ q. cond q (1 + prefix_len p bs) 0) h ∙ one)

  pub some_pass : (s : List ℕ) → begins_piece p s ≡ true → (n : ℕ) × (prefix_len p s ≡ suc n)
  some_pass s h = shorter_by s h

pub digits_are : (b : ℕ) → is_ascii_digit b ≡ true → AreKind is_ascii_digit b
digits_are b h = record {
  joins = ap (λ q. not (q || is_ascii_alphabetic b)) h;
  kin = λ c. ap (λ q. cond q (is_ascii_digit c) (is_ascii_alphabetic c)) h;
}

letter_no_digit : (b : ℕ) → is_ascii_alphabetic b ≡ true → is_ascii_digit b ≡ false
letter_no_digit b h = grind (arith, nat_tests)

pub letters_are : (b : ℕ) → is_ascii_alphabetic b ≡ true → AreKind is_ascii_alphabetic b
letters_are b h =
    let no_digit = letter_no_digit b h in
    record {
      joins = ap (λ q. not (q || is_ascii_alphabetic b)) no_digit ∙ ap not h;
      kin = λ c. ap (λ q. cond q (is_ascii_digit c) (is_ascii_alphabetic c)) no_digit;
    }

abbrev made : Piece → List (List ℕ) → List Piece
made piece more = piece ∷ map piece_of more ++ End ∷ []

begins_with : (p : ℕ → Bool) (s : List ℕ) (n : ℕ) → begins_piece p s ≡ begins_piece p (take (suc n) s)
begins_with p [] n = refl
begins_with p (b ∷ bs) n = refl

-- The first piece, if the text begins with bytes of one kind: a number if they are digits, or else a word.
first_made : (p : ℕ → Bool) → ((b : ℕ) → p b ≡ true → AreKind p b) → (s : List ℕ) → begins_piece p s ≡ true → (digits : Bool) → begins_piece is_ascii_digit s ≡ digits
    → version_pieces s ≡ cond digits (Number (without_zeros (take (prefix_len p s) s))) (Word (str_to_ascii_lowercase (take (prefix_len p s) s))) ∷ version_pieces (drop (prefix_len p s) s)
first_made p kind s h digits are =
    let n = prefix_len p s in
    let run = take n s in
    let some = some_pass p kind s h in
    let first : begins_piece is_ascii_digit run ≡ digits = ap (λ k. begins_piece is_ascii_digit (take k s)) some.1 ∙ sym (begins_with is_ascii_digit s some.0) ∙ are in
    ap (λ rs. map piece_of rs ++ End ∷ []) (first_run_of p kind s h)
    ∙ ap (λ q. made (cond q (Number (without_zeros run)) (Word (str_to_ascii_lowercase run))) (piece_runs (drop n s))) first

pub number_first : (s : List ℕ) → begins_piece is_ascii_digit s ≡ true
    → version_pieces s ≡ Number (without_zeros (take (prefix_len is_ascii_digit s) s)) ∷ version_pieces (drop (prefix_len is_ascii_digit s) s)
number_first s h = first_made is_ascii_digit digits_are s h true h

pub word_first : (s : List ℕ) → begins_piece is_ascii_digit s ≡ false → begins_piece is_ascii_alphabetic s ≡ true
    → version_pieces s ≡ Word (str_to_ascii_lowercase (take (prefix_len is_ascii_alphabetic s) s)) ∷ version_pieces (drop (prefix_len is_ascii_alphabetic s) s)
word_first s no_digit h = first_made is_ascii_alphabetic letters_are s h false no_digit

-- A byte that is neither a digit nor a letter adds no piece.
pub passed_over : (b : ℕ) (bs : List ℕ) → is_ascii_digit b ≡ false → is_ascii_alphabetic b ≡ false → version_pieces bs ≡ version_pieces (b ∷ bs)
passed_over b bs no_digit no_letter =
    let both : separates b ≡ true = ap (λ q. not (q || is_ascii_alphabetic b)) no_digit ∙ ap not no_letter in
    let more = cond (begins_piece (is_kin b) bs) (onto_first b (piece_runs bs)) ((b ∷ []) ∷ piece_runs bs) in
    ap (λ q. map piece_of (cond q (piece_runs bs) more) ++ End ∷ []) (sym both)
