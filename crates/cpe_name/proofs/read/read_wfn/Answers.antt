use Rattle.std.proofs.Common.{sym, subst, ◌∙◌}
use Rattle.cpe_name.specs.Eleven.{Values}
use Rattle.cpe_name.specs.Names.{IsName}
use Rattle.cpe_name.specs.WfnText.{WfnText}
use Rattle.cpe_name.proofs.WholeTexts.{texts_are, values_are, one_name}
use Rattle.cpe_name.proofs.read.read_wfn.Goals as goal

pub read_name-requires : goal.read_name-requires
read_name-requires c =
    let are = c.in-Some.ensures.found in
    record { are_present = texts_are c.args.text.now c.in-Some.written are; lawful = subst IsName (sym (values_are c.args.text.now c.in-Some.written are)) are.has.name }

pub returns-in-Ok-clause-found : goal.returns-in-Ok-clause-found
returns-in-Ok-clause-found c =
    let are = c.in-Some.ensures.found in
    subst (λ (w : Values). WfnText w c.args.text.now) (sym (c.in-Ok.ensures ∙ values_are c.args.text.now c.in-Some.written are)) are.has

pub returns-in-Ok-clause-only : goal.returns-in-Ok-clause-only
returns-in-Ok-clause-only c = λ name has.
    let are = c.in-Some.ensures.found in
    c.in-Ok.ensures ∙ values_are c.args.text.now c.in-Some.written are ∙ one_name are.name name c.args.text.now are.has has
