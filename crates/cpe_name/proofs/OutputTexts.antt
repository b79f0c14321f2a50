-- Lemmas: the output text of a name, built key by key.
use Rattle.std.proofs.Common.{◌≡◌, ℕ, List, ◌∷◌, ◌++◌, sym, refl, ap, ◌∙◌, append_assoc}
use Rattle.std.specs.Prelude.{codes}
use Rattle.cpe_name.specs.Eleven.{Values, Written}
use Rattle.cpe_name.specs.declared.attribute.Attribute.TheVariants.{Part, Vendor, Product, Version, Update, Edition, Language, SwEdition, TargetSw, TargetHw, Other}
use Rattle.cpe_name.specs.declared.attribute.Attribute.{Attribute}
use Rattle.cpe_name.specs.Names.{value_of}
use Rattle.cpe_name.specs.OutputFrom.{keyed, output_from}
use Rattle.cpe_name.specs.Scanning.{slot}
use Rattle.cpe_name.specs.Spans.{texts}
use Rattle.cpe_name.specs.Text.{value_text, attribute_text, output_text}

regroup : (k1 k2 k3 k4 k5 k6 k7 k8 k9 k10 k11 a1 a2 a3 a4 a5 a6 a7 a8 a9 a10 a11 z : List ℕ) → (k1 ++ a1) ++ (k2 ++ a2) ++ (k3 ++ a3) ++ (k4 ++ a4) ++ (k5 ++ a5) ++ (k6 ++ a6) ++ (k7 ++ a7) ++ (k8 ++ a8) ++ (k9 ++ a9) ++ (k10 ++ a10) ++ (k11 ++ a11) ++ z ≡ k1 ++ (a1 ++ (k2 ++ (a2 ++ (k3 ++ (a3 ++ (k4 ++ (a4 ++ (k5 ++ (a5 ++ (k6 ++ (a6 ++ (k7 ++ (a7 ++ (k8 ++ (a8 ++ (k9 ++ (a9 ++ (k10 ++ (a10 ++ (k11 ++ (a11 ++ z)))))))))))))))))))))
regroup k1 k2 k3 k4 k5 k6 k7 k8 k9 k10 k11 a1 a2 a3 a4 a5 a6 a7 a8 a9 a10 a11 z = simp append_assoc

over : (x r z q : List ℕ) → r ++ z ≡ q → (x ++ (44 ∷ r)) ++ z ≡ x ++ (44 ∷ q)
over x r z q h = append_assoc x (44 ∷ r) z ∙ ap (λ (u : List ℕ). x ++ (44 ∷ u)) h

output_is : (v : Values) → output_text v ≡ codes "wfn:[" ++ (attribute_text v Part ++ (44 ∷ (attribute_text v Vendor ++ (44 ∷ (attribute_text v Product ++ (44 ∷ (attribute_text v Version ++ (44 ∷ (attribute_text v Update ++ (44 ∷ (attribute_text v Edition ++ (44 ∷ (attribute_text v Language ++ (44 ∷ (attribute_text v SwEdition ++ (44 ∷ (attribute_text v TargetSw ++ (44 ∷ (attribute_text v TargetHw ++ (44 ∷ (attribute_text v Other ++ codes "]")))))))))))))))))))))
output_is v = ap (λ (u : List ℕ). codes "wfn:[" ++ u) (over (attribute_text v Part) _ _ _ (over (attribute_text v Vendor) _ _ _ (over (attribute_text v Product) _ _ _ (over (attribute_text v Version) _ _ _ (over (attribute_text v Update) _ _ _ (over (attribute_text v Edition) _ _ _ (over (attribute_text v Language) _ _ _ (over (attribute_text v SwEdition) _ _ _ (over (attribute_text v TargetSw) _ _ _ (over (attribute_text v TargetHw) _ _ _ (refl)))))))))))

-- the output text is each key and then the text of its value
pub output_keyed : (v : Values) → (codes "wfn:[part=" ++ value_text v.part) ++ (codes ",vendor=" ++ value_text v.vendor) ++ (codes ",product=" ++ value_text v.product) ++ (codes ",version=" ++ value_text v.version) ++ (codes ",update=" ++ value_text v.update) ++ (codes ",edition=" ++ value_text v.edition) ++ (codes ",language=" ++ value_text v.language) ++ (codes ",sw_edition=" ++ value_text v.sw_edition) ++ (codes ",target_sw=" ++ value_text v.target_sw) ++ (codes ",target_hw=" ++ value_text v.target_hw) ++ (codes ",other=" ++ value_text v.other) ++ codes "]" ≡ output_text v
output_keyed v =
    regroup (codes "wfn:[part=") (codes ",vendor=") (codes ",product=") (codes ",version=") (codes ",update=") (codes ",edition=") (codes ",language=") (codes ",sw_edition=") (codes ",target_sw=") (codes ",target_hw=") (codes ",other=") (value_text v.part) (value_text v.vendor) (value_text v.product) (value_text v.version) (value_text v.update) (value_text v.edition) (value_text v.language) (value_text v.sw_edition) (value_text v.target_sw) (value_text v.target_hw) (value_text v.other) (codes "]")
    ∙ sym (output_is v)

-- the output text is made if the text of each value is made
pub output_from_is : (text : List ℕ → List ℕ) (w : Values) (t : Written) → ((a : Attribute) → text (slot (texts t) a) ≡ value_text (value_of w a)) → output_from text t ≡ output_text w
unfolding keyed
output_from_is text w t h = rw (h Part, h Vendor, h Product, h Version, h Update, h Edition, h Language, h SwEdition, h TargetSw, h TargetHw, h Other) (output_keyed w)
