use Rattle.std.proofs.Common.{◌∙◌, List, ap, sym, arith, slice_get}
use Rattle.std.proofs.lemmas.Option.{slice_get_within}
use Rattle.deprecation_graph.specs.declared.groups.GroupMember.{GroupMember}
use Rattle.deprecation_graph.specs.declared.groups.GroupMember.TheVariants.{Head}
use Rattle.deprecation_graph.proofs.GroupLemmas.{still_grouped, few_counted, counted, recounted}
use Rattle.deprecation_graph.proofs.groups.recount.Goals as goal

pub recounted-count-requires-clause-room : goal.recounted-count-requires-clause-room
recounted-count-requires-clause-room c =
    let at_name = ap (λ (ms : List GroupMember). slice_get ms c.shorten-name.result) (sym c.deref.ensures.value) ∙ c.count_of-count.ensures in
    omega (arith, few_counted c.shorten-name.new.groups.items c.shorten-name.result c.count_of-count.result (still_grouped c.args.groups.now.items c.shorten-name.new.groups.items c.requires.grouped c.shorten-name.ensures.kept) at_name)

pub recounted-count-requires-clause-counted : goal.recounted-count-requires-clause-counted
recounted-count-requires-clause-counted c =
    let at_name = ap (λ (ms : List GroupMember). slice_get ms c.shorten-name.result) (sym c.deref.ensures.value) ∙ c.count_of-count.ensures in
    let group = c.requires.members.0 in
    let ok = c.requires.members.1 in
    λ active. counted c.shorten-name.new.groups.items c.args.active.now group c.args.node c.shorten-name.result c.count_of-count.result (c.shorten-name.ensures.kept c.args.active.now group ok) at_name (c.shorten-name.ensures.name c.args.active.now group ok) (omega (arith, c.requires.node, ok.same)) active

pub index_mut-requires : goal.index_mut-requires
index_mut-requires c =
    let at_name = ap (λ (ms : List GroupMember). slice_get ms c.shorten-name.result) (sym c.deref.ensures.value) ∙ c.count_of-count.ensures in
    omega (arith, slice_get_within c.shorten-name.new.groups.items c.shorten-name.result (Head c.count_of-count.result) at_name, c.shorten-name.new.groups.ok.0)

pub returns-clause-recounts : goal.returns-clause-recounts
returns-clause-recounts c =
    let at_name = ap (λ (ms : List GroupMember). slice_get ms c.shorten-name.result) (sym c.deref.ensures.value) ∙ c.count_of-count.ensures in
    let sum = c.recounted-count.ensures in
    λ group ok. recounted c.shorten-name.new.groups.items c.args.active.now group c.args.node c.shorten-name.result c.count_of-count.result c.recounted-count.result c.args.is_active (c.shorten-name.ensures.kept c.args.active.now group ok) at_name (c.shorten-name.ensures.name c.args.active.now group ok) (omega (arith, c.requires.node, ok.same)) sum
