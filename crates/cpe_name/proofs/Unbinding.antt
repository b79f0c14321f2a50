-- Lemmas: what a text means in a binding, if a scanner takes the binding's texts whole.
use Rattle.std.proofs.Common.{◌≡◌, ℕ, ◌-◌, List, [], ◌++◌, length, Option, Some, None, IfSome, Result, Ok, Err, refl, sym, ap, subst, ◌∙◌}
use Rattle.std.specs.Result.{result_map_both}
use Rattle.name_grammar.specs.Place.{Leaves}
use Rattle.name_grammar.specs.Scanned.{Scans}
use Rattle.name_grammar.specs.Scanners.{Scanner}
use Rattle.name_grammar.proofs.Places.{one_place, taken_whole, stops_at}
use Rattle.name_grammar.proofs.Results.{ok_is, err_is, ok≢err}
use Rattle.cpe_name.specs.Eleven.{NameRef, Values}
use Rattle.cpe_name.specs.Borrowed.{name_lent}
use Rattle.cpe_name.specs.Text.{output_text}
use Rattle.cpe_name.specs.Binding.{SaysBy, IsHad, read_by}

-- a successful result, with its type given so that equations between results have the same type
abbrev pub named_by : Values → Result Values ℕ
named_by w = Ok w

abbrev pub no_name : ℕ → Result Values ℕ
no_name n = Err n

-- two names that were read are equal
pub one_read : (v w : Values) → named_by v ≡ named_by w → v ≡ w
one_read v w e = cc

-- two places that were read are equal
pub one_left : (m n : ℕ) → no_name m ≡ no_name n → m ≡ n
one_left m n e = cc

-- a result is not both a name and a place
pub named≢no : (w : Values) (n : ℕ) → named_by w ≡ no_name n → ⊥
named≢no w n e = cc

-- the output text of the name that was read, or the place
abbrev pub text_of : Result Values ℕ → Result (List ℕ) ℕ
text_of r = result_map_both output_text (λ (place : ℕ). place) r

-- the output text after earlier bytes, or the place
abbrev pub behind : List ℕ → Result (List ℕ) ℕ → Result (List ℕ) ℕ
behind old r = result_map_both (λ said. old ++ said) (λ (place : ℕ). place) r

-- Each text of a name is read as this name. Any other text is read as the place where it stops fitting the grammar. The
-- text that is written is the output text of the name.
pub record Unbinds (Has : Values → List ℕ → Type 0) (LeavesAt : List ℕ → ℕ → Type 0) (read : List ℕ → Result Values ℕ) (says : List ℕ → Result (List ℕ) ℕ) : Type 0 where
  -- a text of a name is read as this name
  pub read_name : (name : Values) (s : List ℕ) → Has name s → read s ≡ Ok name
  -- a name that is read has the text
  pub name_has : (name : Values) (s : List ℕ) → read s ≡ Ok name → Has name s
  -- if a place is read, no name has the text, and this is the text's place
  pub place_is : (s : List ℕ) (place : ℕ) → read s ≡ Err place → LeavesAt s place
  -- if no name has a text, its place is read
  pub read_place : (s : List ℕ) (place : ℕ) → LeavesAt s place → read s ≡ Err place
  -- the output for a text is the output text of the name that was read, or the place
  pub says_read : (s : List ℕ) → says s ≡ text_of (read s)

-- ---- each text is that of one name

module _ {Has : Values → List ℕ → Type 0} {LeavesAt : List ℕ → ℕ → Type 0} {read : List ℕ → Result Values ℕ} {says : List ℕ → Result (List ℕ) ℕ} (binding : Unbinds Has LeavesAt read says) where
  -- two names with the same text are equal
  pub one_name : (v w : Values) (s : List ℕ) → Has v s → Has w s → v ≡ w
  one_name v w s a b = one_read v w (sym (binding.read_name v s a) ∙ binding.read_name w s b)

  -- a text that a name has fits the grammar to its end
  pub never : (name : Values) (s : List ℕ) (place : ℕ) → LeavesAt s place → Has name s → ⊥
  never name s place leaves has = named≢no name place (sym (binding.read_name name s has) ∙ binding.read_place s place leaves)

  said : (s : List ℕ) (r : Result Values ℕ) → read s ≡ r → says s ≡ text_of r
  said s r e = binding.says_read s ∙ ap text_of e

  -- a text's name is written as its output text
  pub says_text : (name : Values) (s : List ℕ) → Has name s → says s ≡ Ok (output_text name)
  says_text name s has = said s (Ok name) (binding.read_name name s has)

  -- if no name has a text, its place is the result
  pub place_said : (s : List ℕ) (place : ℕ) → LeavesAt s place → says s ≡ Err place
  place_said s place at = said s (Err place) (binding.read_place s place at)

  -- a text that is written is the output text of a name that has the text `s`
  pub says_name : (s text : List ℕ) → says s ≡ Ok text → SaysBy Has output_text s text
  says_name s text is = go (read s) refl where
    go : (r : Result Values ℕ) → read s ≡ r → SaysBy Has output_text s text
    go (Ok name) e = record { name = name; has = binding.name_has name s e; is = ok_is text (output_text name) (sym is ∙ said s (Ok name) e) }
    go (Err place) e = absurd (ok≢err text place (sym is ∙ said s (Err place) e))

  -- if the result is a place, no name has the text, and this is the text's place
  pub says_place : (s : List ℕ) (place : ℕ) → says s ≡ Err place → LeavesAt s place
  says_place s place is = go (read s) refl where
    go : (r : Result Values ℕ) → read s ≡ r → LeavesAt s place
    go (Ok name) e = absurd (ok≢err (output_text name) place (sym (said s (Ok name) e) ∙ is))
    go (Err other) e = subst (LeavesAt s) (err_is other place (sym (said s (Err other) e) ∙ is)) (binding.place_is s other e)

  -- ---- the name that was found for a text

  module _ (s : List ℕ) {name found : Values} (is : found ≡ name) (has : Has name s) where
    -- a name equal to the found name has the text
    pub found_has : {w : Values} → w ≡ found → Has w s
    found_has e = subst (λ (v : Values). Has v s) (sym (e ∙ is)) has

    -- a name equal to the found name equals each name that has the text
    pub found_is : {w : Values} → w ≡ found → (other : Values) → Has other s → w ≡ other
    found_is e other its = e ∙ is ∙ one_name name other s has its

    -- a borrowed name equal to the found name has the text
    pub lent_has : (lent : Option NameRef) → IfSome lent (λ w. name_lent w ≡ found) → IfSome lent (λ w. Has (name_lent w) s)
    lent_has None e = tt
    lent_has (Some w) e = found_has e

    -- a borrowed name equal to the found name is the name read from the text
    pub lent_read : (lent : Option NameRef) → IfSome lent (λ w. name_lent w ≡ found) → IfSome lent (λ w. read s ≡ Ok (name_lent w))
    lent_read None e = tt
    lent_read (Some w) e = binding.read_name (name_lent w) s (found_has e)

-- ---- what makes a binding

-- A binding is made from a scanner and a function. The scanner takes exactly the texts of names whole. The function
-- returns the name of such a text.
module _ (Has : Values → List ℕ → Type 0) (whole : Scanner) (names : List ℕ → Values) (scans : Scans (IsHad Has) whole) (taken : (s : List ℕ) → IsHad Has s → whole s ≡ Ok [])
    (ends : (s rest : List ℕ) → whole s ≡ Ok rest → rest ≡ []) (name_back : (name : Values) (s : List ℕ) → Has name s → names s ≡ name) where
  reads_name : (name : Values) (s : List ℕ) → Has name s → read_by whole names s ≡ Ok name
  unfolding read_by
  reads_name name s has = rw (taken s (name, has)) (ap named_by (name_back name s has))

  stops : (s : List ℕ) (left : ℕ) → whole s ≡ Err left → read_by whole names s ≡ Err (length s - left)
  unfolding read_by
  stops s left e = rw e refl

  -- either a name is read that has the text, or no name has the text and its place is read
  record NameRead (s : List ℕ) (r : Result Values ℕ) : Type 0 where
    name : (w : Values) → r ≡ Ok w → Has w s
    place : (n : ℕ) → r ≡ Err n → Leaves (IsHad Has) s n

  reads : (s : List ℕ) → NameRead s (read_by whole names s)
  reads s = go (whole s) refl where
    go : (r : Result (List ℕ) ℕ) → whole s ≡ r → NameRead s (read_by whole names s)
    go (Ok rest) e =
        let had = taken_whole (IsHad Has) whole scans s rest e (ends s rest e) in
        let is = reads_name had.0 s had.1 in
        record { name = λ w h. subst (λ (v : Values). Has v s) (one_read had.0 w (sym is ∙ h)) had.1; place = λ n h. absurd cc }
    go (Err left) e =
        let is = stops s left e in
        record { name = λ w h. absurd cc; place = λ n h. subst (Leaves (IsHad Has) s) (one_left _ n (sym is ∙ h)) (stops_at (IsHad Has) whole scans taken s left e).at }

  reads_place : (s : List ℕ) (place : ℕ) → Leaves (IsHad Has) s place → read_by whole names s ≡ Err place
  reads_place s place at = go (read_by whole names s) refl where
    go : (r : Result Values ℕ) → read_by whole names s ≡ r → read_by whole names s ≡ Err place
    go (Ok name) e = absurd (at.refused (name, (reads s).name name e))
    go (Err other) e = e ∙ ap no_name (one_place (IsHad Has) s other place ((reads s).place other e).is_place at.is_place)

  -- these make a binding
  pub unbinds : (read : List ℕ → Result Values ℕ) (says : List ℕ → Result (List ℕ) ℕ) → ((s : List ℕ) → read s ≡ read_by whole names s) → ((s : List ℕ) → says s ≡ text_of (read s))
      → Unbinds Has (Leaves (IsHad Has)) read says
  unbinds read says is says_it = record {
    read_name = λ name s has. is s ∙ reads_name name s has;
    name_has = λ name s e. (reads s).name name (sym (is s) ∙ e);
    place_is = λ s place e. (reads s).place place (sym (is s) ∙ e);
    read_place = λ s place at. is s ∙ reads_place s place at;
    says_read = says_it;
  }
