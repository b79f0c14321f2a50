use Rattle.std.proofs.Common.{◌≡◌, List, not, ap, sym, ◌∙◌}
use Rattle.std.specs.Borrow.{Bor}
use Rattle.std.specs.List.{list_any}
use Rattle.cpe_rows.specs.cpe_name.Eleven.{Values}
use Rattle.cpe_rows.specs.cpe_name.Equal.{same_name}
use Rattle.cpe_rows.specs.Names.{is_same}
use Rattle.certificate_check.specs.Seen.{with_seen_name}
use Rattle.certificate_check.proofs.Elements.{any_map, seen, seen_insert}
use Rattle.certificate_check.proofs.name_set.NameSet.insert.Goals as goal
use Rattle.certificate_check.proofs.name_set.NameSet.insert.Goals.{in-Ok, in-Err}

known : (ks : List (Bor Values)) (k : Bor Values) → list_any (λ b. same_name k.now b.now) ks ≡ list_any (is_same k.now) (seen ks)
unfolding is_same
known ks k = sym (any_map (λ (r : Bor Values). r.now) (is_same k.now) ks)

pub returns-clause-new : goal.returns-clause-new
returns-clause-new c = elim c.match-insert.branch [
  | in-Ok w ↦ rw w.result-is (
      w.in-Ok.ensures.added
      ∙ ap not (known c.self.inside.names.keys c.args.name ∙ ap (list_any (is_same c.args.name.now)) c.self.view_is))
  | in-Err w ↦ rw w.result-is tt
]

pub returns-clause-names : goal.returns-clause-names
returns-clause-names c = elim c.match-insert.branch [
  | in-Ok w ↦ rw w.result-is (
      ap seen w.in-Ok.ensures.keys
      ∙ (seen_insert c.self.inside.names.keys c.args.name ∙ ap (λ ns. with_seen_name ns c.args.name.now) c.self.view_is))
  | in-Err w ↦ rw w.result-is tt
]
