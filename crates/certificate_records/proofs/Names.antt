-- Lemmas about the names of certificates.
use Rattle.std.proofs.Common.{◌≡◌, List, [], ◌∷◌, ◌++◌, Option, Some, None, option_map, map, refl, ap, sym, ◌∙◌}
use Rattle.std.proofs.lemmas.List.Elements.{All-nil, All-cons, All-head, All-tail}
use Rattle.std.specs.List.{flat_map, All}
use Rattle.std.specs.Option.{option_map_or}
use Rattle.std.specs.Prelude.{unwrap_or}
use Rattle.cpe_rows.specs.cpe_name.Eleven.{Values}
use Rattle.cpe_rows.specs.declared.truth.Truth.{Truth}
use Rattle.certificate_check.specs.declared.certificate.Why.{Why, Logic, Pair, Plain}
use Rattle.certificate_check.specs.declared.certificate.Why.TheOpen.{Why-F}
use Rattle.certificate_check.specs.declared.certificate.Why.TheVariants.{rolls-Logic, rolls-Pair, rolls-Plain}
use Rattle.certificate_check.specs.declared.certificate.Why.TheFolds.{fold-roll-Why}
use Rattle.certificate_records.specs.Whole.{why_names, names_step}
use Rattle.certificate_records.proofs.Mapped.{mapped}

-- the names of what is given for a child
abbrev pub names_at : Option Why → List Values
names_at w = option_map_or why_names w []

abbrev pub given_names : Option (List Values) → List Values
given_names ns = unwrap_or ns []

each_given : (of : List (Option Why)) → flat_map given_names (map (option_map why_names) of) ≡ flat_map names_at of
each_given [] = refl
each_given (None ∷ of) = each_given of
each_given (Some w ∷ of) = ap (λ ns. why_names w ++ ns) (each_given of)

pub names-logic : (truth : Truth) (of : List (Option Why)) → why_names (Logic truth of) ≡ flat_map names_at of
names-logic truth of = ap why_names (sym (rolls-Logic truth of)) ∙ fold-roll-Why (List Values) names_step (Why-F.Logic truth of) ∙ ap names_step (mapped why_names truth of) ∙ each_given of

pub names-pair : (truth : Truth) (fact item : List Values) → why_names (Pair truth fact item) ≡ fact ++ item
names-pair truth fact item = ap why_names (sym (rolls-Pair truth fact item)) ∙ fold-roll-Why (List Values) names_step (Why-F.Pair truth fact item)

pub names-plain : (truth : Truth) → why_names (Plain truth) ≡ []
names-plain truth = ap why_names (sym (rolls-Plain truth)) ∙ fold-roll-Why (List Values) names_step (Why-F.Plain truth)

pub all_parts : {A : Type 0} (P : A → Type 0) (xs ys : List A) → All P (xs ++ ys) → All P xs × All P ys
all_parts P [] ys h = (All-nil P, h)
all_parts P (x ∷ xs) ys h =
    let rest = all_parts P xs ys (All-tail P x (xs ++ ys) h) in
    (All-cons P x xs (All-head P x (xs ++ ys) h) rest.0, rest.1)
