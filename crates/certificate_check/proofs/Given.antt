-- Lemmas: the truth that a certificate gives, and the truths of its children.
use Rattle.std.proofs.Common.{◌≡◌, ℕ, ◌+◌, ◌||◌, List, [], ◌∷◌, ◌++◌, Bool, false, Option, Some, None, take, slice_get, refl, ap, sym, ◌∙◌}
use Rattle.std.specs.List.{list_any}
use Rattle.std.specs.Option.{option_map_or}
use Rattle.cpe_rows.specs.cpe_name.Eleven.{Values}
use Rattle.cpe_rows.specs.Evaluation.{joined}
use Rattle.cpe_rows.specs.declared.truth.Truth.{Truth}
use Rattle.cpe_rows.specs.declared.truth.Truth.TheVariants.{True, False, Error, Unknown}
use Rattle.cpe_rows.specs.declared.test.Operator.{Operator}
use Rattle.cpe_rows.specs.declared.test.Operator.TheVariants.{And, Or}
use Rattle.cpe_rows.proofs.Joined.{joined-snoc}
use Rattle.certificate_check.specs.Certificates.{truth_in, given_truth, given_truths}
use Rattle.certificate_check.specs.declared.certificate.Why.{Why}
use Rattle.certificate_check.specs.declared.certificate.Why as why
use Rattle.certificate_check.specs.declared.certificate.Why.TheVariants as whys
use Rattle.certificate_check.proofs.Loops.{take_at}

given_last : (ws : List (Option Why)) (o : Option Why) → given_truths (ws ++ o ∷ []) ≡ given_truths ws ++ given_truths (o ∷ [])
given_last [] o = refl
given_last (None ∷ ws) o = given_last ws o
given_last (Some w ∷ ws) o = ap (λ ts. given_truth w ∷ ts) (given_last ws o)

joined_one : (operator : Operator) (t : Truth) → joined operator (t ∷ []) ≡ t
joined_one And True = refl
joined_one And False = refl
joined_one And Error = refl
joined_one And Unknown = refl
joined_one Or True = refl
joined_one Or False = refl
joined_one Or Error = refl
joined_one Or Unknown = refl

append_nothing : (ts : List Truth) → ts ++ [] ≡ ts
append_nothing [] = refl
append_nothing (t ∷ ts) = ap (λ us. t ∷ us) (append_nothing ts)

joined_last : (operator : Operator) (ts : List Truth) (o : Option Why)
    → joined operator (joined operator ts ∷ given_truths (o ∷ [])) ≡ joined operator (ts ++ given_truths (o ∷ []))
joined_last operator ts None = joined_one operator (joined operator ts) ∙ ap (joined operator) (sym (append_nothing ts))
joined_last operator ts (Some w) = sym (joined-snoc operator ts (given_truth w))

-- the truth of one more child is joined with the truths before
pub join_more : (operator : Operator) (ws : List (Option Why)) (k : ℕ) (o : Option Why) → slice_get ws k ≡ Some o
    → joined operator (joined operator (given_truths (take k ws)) ∷ given_truths (o ∷ [])) ≡ joined operator (given_truths (take (k + 1) ws))
join_more operator ws k o at =
    joined_last operator (given_truths (take k ws)) o
    ∙ ap (joined operator) (sym (given_last (take k ws) o) ∙ ap given_truths (sym (take_at ws k o at)))

pub given_any : (p : Truth → Bool) (ws : List (Option Why))
    → list_any (λ (o : Option Why). option_map_or (λ w. p (given_truth w)) o false) ws ≡ list_any p (given_truths ws)
given_any p [] = refl
given_any p (None ∷ ws) = given_any p ws
given_any p (Some w ∷ ws) = ap (λ b. p (given_truth w) || b) (given_any p ws)

-- the truth that each kind of level gives
pub given-logic : (t : Truth) (of : List (Option Why)) → given_truth (why.Logic t of) ≡ t
given-logic t of = ap truth_in (whys.outs-Logic t of)

pub given-pair : (t : Truth) (fact one : List Values) → given_truth (why.Pair t fact one) ≡ t
given-pair t fact one = ap truth_in (whys.outs-Pair t fact one)

pub given-plain : (t : Truth) → given_truth (why.Plain t) ≡ t
given-plain t = ap truth_in (whys.outs-Plain t)
