use Rattle.std.proofs.Common.{◌∙◌, ap, arith, Bool, ◌||◌, ◌&&◌, ℕ, List, eqb, sym}
use Rattle.std.specs.List.{list_any}
use Rattle.cpe_relation.specs.NameRelation.{covers}
use Rattle.names_in_order.specs.Places.{name_of_place}
use Rattle.cover_lines.specs.Marks.{is_name_marked}
use Rattle.cover_lines.proofs.MarkLemmas.{covered_at}
use Rattle.cover_lines.proofs.marks.mark_matched.Goals as goal

pub returns-clause-marked : goal.returns-clause-marked
returns-clause-marked g c = λ k lt.
    let name = c.args.name.now in
    let names = c.args.names.now in
    let special = sym c.has_wildcards.ensures ∙ c.if-not-has_wildcards.false in
    let old = is_name_marked c.args.marks.now k in
    c.mark_places.ensures.marked k (omega (arith, lt, c.requires.len))
    ∙ ap (λ (ks : List ℕ). old || list_any (eqb k) ks) (c.deref.ensures.value ∙ c.in_ok-places.ensures.covered)
    ∙ ap (λ (b : Bool). old || b) (covered_at name names k lt)
    ∙ ap (λ (b : Bool). old || (b && covers name (name_of_place names k))) (sym special)
