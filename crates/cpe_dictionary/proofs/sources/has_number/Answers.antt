use Rattle.std.proofs.Common.{ℕ, refl, subst}
use Rattle.std.specs.Prelude.{Result, MatchResult}
use Rattle.std.specs.List.{Contains}
use Rattle.cpe_dictionary.proofs.SourceLemmas.{found_rising}
use Rattle.cpe_dictionary.proofs.sources.has_number.Goals as goal

pub returns-in-Ok : goal.returns-in-Ok
returns-in-Ok c =
    let xs = c.args.numbers.now in
    let x = c.args.number in
    let found = subst (λ (r : Result ℕ ℕ). MatchResult r (λ i. Contains xs x) (λ i. Contains xs x → ⊥)) c.in-Ok.is (found_rising xs x c.binary_search.result c.binary_search.ensures.position c.requires) in
    (λ h. found, λ h. refl)

pub returns-in-Err : goal.returns-in-Err
returns-in-Err c =
    let xs = c.args.numbers.now in
    let x = c.args.number in
    let none = subst (λ (r : Result ℕ ℕ). MatchResult r (λ i. Contains xs x) (λ i. Contains xs x → ⊥)) c.in-Err.is (found_rising xs x c.binary_search.result c.binary_search.ensures.position c.requires) in
    (λ h. absurd cc, λ h. absurd (none h))
