-- Lemmas: the depth of the certificate of a logical test.
use Rattle.std.proofs.Common.{◌≡◌, ℕ, suc, ◌+◌, ◌<◌, ◌&&◌, Bool, true, false, nat_le, List, map, take, length, get_or, Option, option_map, ap, sym, ◌∙◌, refl, [], ◌∷◌, Some, None, arith}
use Rattle.std.proofs.lemmas.Bool.Decides.{nat_tests}
use Rattle.std.proofs.lemmas.List.{map_more}
use Rattle.std.specs.Option.{option_map_or}
use Rattle.cpe_rows.specs.cpe_name.Eleven.{Values}
use Rattle.cpe_rows.specs.Shape.{largest}
use Rattle.cpe_rows.proofs.Within.{within-snoc}
use Rattle.cpe_rows.specs.declared.truth.Truth.{Truth}
use Rattle.certificate_check.specs.declared.certificate.Why.{Why, Logic, Pair, Plain}
use Rattle.certificate_check.specs.declared.certificate.Why.TheOpen.{Why-F}
use Rattle.certificate_check.specs.declared.certificate.Why.TheVariants.{rolls-Logic, rolls-Pair, rolls-Plain}
use Rattle.certificate_check.specs.declared.certificate.Why.TheFolds.{fold-roll-Why}
use Rattle.certificate_records.specs.Levels.{given_levels, levels, levels_step}
use Rattle.certificate_records.proofs.Mapped.{mapped}

-- the levels of what is given for a child
abbrev pub levels_at : Option Why → ℕ
levels_at w = option_map_or levels w 0

each_given : (of : List (Option Why)) → map given_levels (map (option_map levels) of) ≡ map levels_at of
each_given [] = refl
each_given (None ∷ of) = ap (λ ns. 0 ∷ ns) (each_given of)
each_given (Some w ∷ of) = ap (λ ns. levels w ∷ ns) (each_given of)

pub levels-logic : (truth : Truth) (of : List (Option Why)) → levels (Logic truth of) ≡ suc (largest (map levels_at of))
levels-logic truth of =
    ap levels (sym (rolls-Logic truth of)) ∙ fold-roll-Why ℕ levels_step (Why-F.Logic truth of) ∙ ap levels_step (mapped levels truth of) ∙ ap (λ ns. suc (largest ns)) (each_given of)

pub levels-pair : (truth : Truth) (fact item : List Values) → levels (Pair truth fact item) ≡ 0
levels-pair truth fact item = ap levels (sym (rolls-Pair truth fact item)) ∙ fold-roll-Why ℕ levels_step (Why-F.Pair truth fact item)

pub levels-plain : (truth : Truth) → levels (Plain truth) ≡ 0
levels-plain truth = ap levels (sym (rolls-Plain truth)) ∙ fold-roll-Why ℕ levels_step (Why-F.Plain truth)

-- lemma: the children up to the next are within a limit exactly if those before it and the next one are
pub within_more : (of : List (Option Why)) (i : ℕ) (d : Option Why) (limit : ℕ) → i < length of
    → nat_le (largest (map levels_at (take (i + 1) of))) limit
    ≡ (nat_le (largest (map levels_at (take i of))) limit && nat_le (levels_at (get_or of i d)) limit)
within_more of i d limit below =
    ap (λ ns. nat_le (largest ns) limit) (map_more levels_at of i d below) ∙ within-snoc (map levels_at (take i of)) (levels_at (get_or of i d)) limit

zero_within : (limit : ℕ) → nat_le 0 limit ≡ true
zero_within limit = grind (arith, nat_tests)

and_last : (a b : Bool) → b ≡ true → (a && b) ≡ a
and_last true b h = h
and_last false b h = refl

pub nothing_more : (of : List (Option Why)) (i : ℕ) (d : Option Why) (limit : ℕ) → i < length of → d ≡ get_or of i d → d ≡ None
    → nat_le (largest (map levels_at (take (i + 1) of))) limit ≡ nat_le (largest (map levels_at (take i of))) limit
nothing_more of i d limit below there none =
    within_more of i d limit below
    ∙ and_last (nat_le (largest (map levels_at (take i of))) limit) (nat_le (levels_at (get_or of i d)) limit)
    (ap (λ o. nat_le (levels_at o) limit) (sym there ∙ none) ∙ zero_within limit)
