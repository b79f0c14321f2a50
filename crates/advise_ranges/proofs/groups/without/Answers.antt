use Rattle.std.proofs.Common.{◌≡◌, ◌+◌, suc, ℕ, take, drop, ◌++◌, position, sym, ap, ◌∙◌, arith}
use Rattle.std.specs.Str.{bytes_eq}
use Rattle.cpe_rows.specs.After.{without_first}
use Rattle.check_results.proofs.NameLemmas.{out_at, none_out}
use Rattle.advise_ranges.proofs.groups.without.Goals as goal

pub returns-in-Some : goal.returns-in-Some
returns-in-Some c =
    let test = bytes_eq c.args.id.now in
    let xs = c.into_vec-ids.result.items in
    let k : ℕ = c.in-Some.place in
    let next : suc k ≡ k + 1 = omega arith in
    c.from_vec.ensures ∙ c.remove.ensures.items ∙ ap (λ n. take k xs ++ drop n xs) next
    ∙ out_at test k xs (sym (c.in-Some.ensures ∙ ap (position test) c.deref.ensures.value))
    ∙ ap (without_first test) c.into_vec-ids.ensures

pub returns-in-None : goal.returns-in-None
returns-in-None c =
    let test = bytes_eq c.args.id.now in
    let xs = c.into_vec-ids.result.items in
    c.from_vec-in-None.ensures ∙ sym (none_out test xs (sym (c.in-None.ensures ∙ ap (position test) c.deref.ensures.value)))
    ∙ ap (without_first test) c.into_vec-ids.ensures
