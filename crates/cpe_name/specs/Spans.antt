-- The texts of the values of a name, in one of the name's texts.
use Rattle.std.specs.Prelude.{◌≡◌, ℕ, ◌+◌, ◌≤◌, List, [], ◌∷◌, length, map, codes}
use Rattle.cpe_name.specs.Eleven.{Values, Written}
use Rattle.cpe_name.specs.Names.{attributes, value_of}
use Rattle.cpe_name.specs.Text.{value_text}
use Rattle.cpe_name.specs.WfnText.{WfnText}

-- the texts of the values, in the order of the attributes
abbrev pub texts : Written → List (List ℕ)
texts t = t.part.now ∷ t.vendor.now ∷ t.product.now ∷ t.version.now ∷ t.update.now ∷ t.edition.now ∷ t.language.now ∷ t.sw_edition.now ∷ t.target_sw.now ∷ t.target_hw.now ∷ t.other.now ∷ []

-- `ANY` for an empty text, else the text itself
abbrev pub or_any : List ℕ → List ℕ
or_any [] = codes "ANY"
or_any (c ∷ u) = c ∷ u

-- the total length of the texts
abbrev pub total_length : List (List ℕ) → ℕ
total_length [] = 0
total_length (u ∷ us) = length u + total_length us

-- Some name has the text `s`, and `t` has the texts of its values. The text also has `wfn:[` and `]`, which are 6
-- bytes.
pub record AreWritten (s : List ℕ) (t : Written) : Type 0 where
  pub name : Values
  pub has : WfnText name s
  pub are : map or_any (texts t) ≡ map (λ a. value_text (value_of name a)) attributes
  pub within : total_length (texts t) + 6 ≤ length s
