-- Lemmas: the output text of a name is cut after the version; its end is fixed if all values there are ANY.
use Rattle.std.proofs.Common.{◌≡◌, ℕ, List, ◌++◌, refl, ap, ◌∙◌, append_assoc}
use Rattle.std.specs.Prelude.{codes}
use Rattle.cpe_name.specs.Eleven.{Written}
use Rattle.cpe_name.specs.OutputFrom.{keyed, output_from, start_from, tail_from, any_values_tail}

pub any_tail_is : (text : List ℕ → List ℕ) (w : Written)
    → text w.update.now ≡ codes "ANY" → text w.edition.now ≡ codes "ANY" → text w.language.now ≡ codes "ANY" → text w.sw_edition.now ≡ codes "ANY"
    → text w.target_sw.now ≡ codes "ANY" → text w.target_hw.now ≡ codes "ANY" → text w.other.now ≡ codes "ANY"
    → tail_from text w ≡ any_values_tail
unfolding keyed
any_tail_is text w a b c d e f g = rw (a, b, c, d, e, f, g) refl

joined : (x a b c d e f g h : List ℕ) → x ++ (a ++ b ++ c ++ d ++ e ++ f ++ g ++ h) ≡ x ++ a ++ b ++ c ++ d ++ e ++ f ++ g ++ h
joined x a b c d e f g h = simp append_assoc

-- the two parts of the output text together are the whole
pub start_and_tail : (text : List ℕ → List ℕ) (w : Written) → start_from text w ++ tail_from text w ≡ output_from text w
start_and_tail text w =
    joined (start_from text w) (keyed text (codes ",update=") w.update.now) (keyed text (codes ",edition=") w.edition.now) (keyed text (codes ",language=") w.language.now) (keyed text (codes ",sw_edition=") w.sw_edition.now)
    (keyed text (codes ",target_sw=") w.target_sw.now) (keyed text (codes ",target_hw=") w.target_hw.now) (keyed text (codes ",other=") w.other.now) (codes "]")

-- appending two lists one after the other equals appending the joined list
pub put_both : (x y z start tail : List ℕ) → y ≡ x ++ start → z ≡ y ++ tail → z ≡ x ++ (start ++ tail)
put_both x y z start tail first second = second ∙ ap (λ (u : List ℕ). u ++ tail) first ∙ append_assoc x start tail
