use Rattle.std.proofs.Common.{ℕ, List, Option, subst}
use Rattle.std.specs.Prelude.{IfOk}
use Rattle.name_index.specs.declared.table.NameId.{NameId}
use Rattle.cpe_rows.specs.declared.statement.Mode.{Mode}
use Rattle.verdicts.specs.Removal.{IsRemoval, RemovesWith}
use Rattle.verdicts.specs.Verdicts.{VerdictsNow}
use Rattle.verdicts.specs.declared.removal.Removal.{Removal}
use Rattle.verdicts.proofs.verdicts.Verdicts.ready_removal.Goals as goal

pub returns-in-Some : goal.returns-in-Some
returns-in-Some c =
    subst (λ (w : VerdictsNow). IfOk c.removal_of.result (IsRemoval w c.args.id.now)) c.self.view_is
    (subst (λ (o : Option (Mode × List NameId × ℕ)). IfOk c.removal_of.result (RemovesWith c.self.inside.facts o)) c.in-Some.ensures c.removal_of.ensures)

pub returns-in-None : goal.returns-in-None
returns-in-None c =
    let none : Removal = record { last = c.new.result; asked = c.new-in-None.result } in
    subst (λ (w : VerdictsNow). IsRemoval w c.args.id.now none) c.self.view_is
    (subst (λ (o : Option (Mode × List NameId × ℕ)). RemovesWith c.self.inside.facts o none) c.in-None.ensures (c.new.ensures.items, c.new-in-None.ensures.items))
