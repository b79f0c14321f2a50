-- The output text of a name, made from the texts of its values in another text.
use Rattle.std.specs.Prelude.{ℕ, List, ◌++◌, codes}
use Rattle.cpe_name.specs.Eleven.{Written}

-- a key, and then the output text of a value
unfoldable pub keyed : (List ℕ → List ℕ) → List ℕ → List ℕ → List ℕ
keyed text key u = key ++ text u

-- the whole output text; the function `text` makes the output text of a value from the value's text in another text
abbrev pub output_from : (List ℕ → List ℕ) → Written → List ℕ
output_from text w =
    keyed text (codes "wfn:[part=") w.part.now ++ keyed text (codes ",vendor=") w.vendor.now ++ keyed text (codes ",product=") w.product.now ++ keyed text (codes ",version=") w.version.now
    ++ keyed text (codes ",update=") w.update.now ++ keyed text (codes ",edition=") w.edition.now ++ keyed text (codes ",language=") w.language.now ++ keyed text (codes ",sw_edition=") w.sw_edition.now
    ++ keyed text (codes ",target_sw=") w.target_sw.now ++ keyed text (codes ",target_hw=") w.target_hw.now ++ keyed text (codes ",other=") w.other.now ++ codes "]"

-- the output text up to the version
abbrev pub start_from : (List ℕ → List ℕ) → Written → List ℕ
start_from text w = keyed text (codes "wfn:[part=") w.part.now ++ keyed text (codes ",vendor=") w.vendor.now ++ keyed text (codes ",product=") w.product.now ++ keyed text (codes ",version=") w.version.now

-- the output text after the version
abbrev pub tail_from : (List ℕ → List ℕ) → Written → List ℕ
tail_from text w =
    keyed text (codes ",update=") w.update.now ++ keyed text (codes ",edition=") w.edition.now ++ keyed text (codes ",language=") w.language.now ++ keyed text (codes ",sw_edition=") w.sw_edition.now
    ++ keyed text (codes ",target_sw=") w.target_sw.now ++ keyed text (codes ",target_hw=") w.target_hw.now ++ keyed text (codes ",other=") w.other.now ++ codes "]"

-- the output text after the version, if each value there is ANY
abbrev pub any_values_tail : List ℕ
any_values_tail = codes ",update=ANY,edition=ANY,language=ANY,sw_edition=ANY,target_sw=ANY,target_hw=ANY,other=ANY]"
