use Rattle.std.proofs.Common.{◌∙◌, List, ap, sym, arith, slice_get}
use Rattle.std.proofs.lemmas.Option.{slice_get_within}
use Rattle.deprecation_graph.specs.declared.groups.GroupMember.{GroupMember}
use Rattle.deprecation_graph.specs.declared.groups.GroupMember.TheVariants.{Head}
use Rattle.deprecation_graph.proofs.GroupLemmas.{few_counted, put_under}
use Rattle.deprecation_graph.proofs.groups.put_under.Goals as goal

pub overflow_add-count : goal.overflow_add-count
overflow_add-count c =
    let gone = ap (λ (ms : List GroupMember). slice_get ms c.args.gone) (sym c.deref.ensures.value) ∙ c.count_of.ensures in
    let stays = ap (λ (ms : List GroupMember). slice_get ms c.args.stays) (sym c.deref-2.ensures.value) ∙ c.count_of-2.ensures in
    omega (arith, few_counted c.args.groups.now.items c.args.gone c.count_of.result c.requires.grouped gone, few_counted c.args.groups.now.items c.args.stays c.count_of-2.result c.requires.grouped stays)

pub index_mut-requires : goal.index_mut-requires
index_mut-requires c = omega (arith, slice_get_within c.args.groups.now.items c.args.stays (Head c.requires.stays.0) c.requires.stays.1, c.args.groups.now.ok.0)

pub index_mut-requires-2 : goal.index_mut-requires-2
index_mut-requires-2 c = omega (arith, slice_get_within c.args.groups.now.items c.args.gone (Head c.requires.gone.0) c.requires.gone.1, c.args.groups.now.ok.0)

pub returns-clause-puts : goal.returns-clause-puts
returns-clause-puts c =
    let gone = ap (λ (ms : List GroupMember). slice_get ms c.args.gone) (sym c.deref.ensures.value) ∙ c.count_of.ensures in
    let stays = ap (λ (ms : List GroupMember). slice_get ms c.args.stays) (sym c.deref-2.ensures.value) ∙ c.count_of-2.ensures in
    put_under c.args.groups.now.items c.args.gone c.args.stays c.count_of.result c.count_of-2.result gone stays c.requires.lower
