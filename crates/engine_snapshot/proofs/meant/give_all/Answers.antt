use Rattle.std.proofs.Common.{List, Option, map, subst, sym, ◌∙◌}
use Rattle.std.proofs.lemmas.Result.{IfErr-weaker, IfOk-weaker}
use Rattle.cpe_rows.specs.Lawful.{IsLawful}
use Rattle.cpe_rows.specs.declared.entry.Deprecation.{Deprecation}
use Rattle.cpe_engine.specs.Adopting.{with_deprecations}
use Rattle.engine_snapshot.specs.Meant.{undeprecated}
use Rattle.engine_snapshot.proofs.EntriesLemmas.{none_are_given}
use Rattle.engine_snapshot.proofs.MeantLemmas.{even_meant, meant_once}
use Rattle.engine_snapshot.proofs.meant.give_all.Goals as goal

pub returns-then-are_none-clause-ok : goal.returns-then-are_none-clause-ok
returns-then-are_none-clause-ok c = none_are_given c.args.engine c.args.all c.requires.bare (c.are_none.ensures c.if-are_none.true)

pub deprecate_all-requires-clause-even : goal.deprecate_all-requires-clause-even
deprecate_all-requires-clause-even c =
    even_meant (map undeprecated c.args.engine.entries) c.args.all c.in-Ok.deprecations _ c.in-Ok.ensures.meant c.requires.even

pub returns-in-Ok-clause-ok : goal.returns-in-Ok-clause-ok
returns-in-Ok-clause-ok c =
    IfOk-weaker c.deprecate_all.result _ _ (λ e is. record { deprecations = c.in-Ok.deprecations; are_meant = c.in-Ok.ensures.meant; are_given = is }) c.deprecate_all.ensures.ok

pub returns-in-Ok-clause-refused : goal.returns-in-Ok-clause-refused
returns-in-Ok-clause-refused c =
    let engine = c.args.engine in
    let found = c.in-Ok.deprecations in
    IfErr-weaker c.deprecate_all.result _ _
    (λ f none is ds are lawful. none is
    (subst (λ (l : List (Option Deprecation)). IsLawful (with_deprecations engine l))
    (meant_once (map undeprecated engine.entries) c.args.all ds found are c.in-Ok.ensures.meant) lawful))
    c.deprecate_all.ensures.refused

pub returns-in-Err-clause-refused : goal.returns-in-Err-clause-refused
returns-in-Err-clause-refused c = λ is ds are lawful. c.in-Err.ensures.refused (sym c.discard.ensures ∙ is) ds are
