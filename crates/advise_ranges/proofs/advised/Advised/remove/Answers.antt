use Rattle.std.proofs.Common.{List, ℕ, cond, sym, ap, ◌∙◌}
use Rattle.std.specs.Str.{bytes_eq}
use Rattle.cpe_rows.specs.After.{without_first}
use Rattle.advise_ranges.specs.Groups.{ids_in_group, is_in_group}
use Rattle.advise_ranges.specs.Kept.{advisory_from, advisories_in}
use Rattle.advise_ranges.proofs.GroupLemmas.{group-without}
use Rattle.advise_ranges.proofs.advised.Advised.remove.Goals as goal

pub invariant_of-self : goal.invariant_of-self
invariant_of-self c =
    let id = c.args.id.now in
    let a = advisory_from (id, c.in-Some.terms) in
    let ads = advisories_in c.self.inside.by_id.entries in
    record {
      lower = c.take_out.ensures.all;
      grouped = λ v.
          c.remove_grouped.ensures v
          ∙ ap (λ (old : List (List ℕ)). cond (is_in_group v a) (without_first (bytes_eq id) old) old) (c.self.invariant.grouped v)
          ∙ sym (group-without v id ads a (sym c.in-Some.ensures.found))
          ∙ ap (ids_in_group v) (sym c.take_out.ensures.left);
    }
