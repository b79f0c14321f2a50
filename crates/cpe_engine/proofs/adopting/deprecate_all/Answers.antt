use Rattle.std.proofs.Common.{[], List, ◌+◌, map, refl, ap, subst, ◌∙◌}
use Rattle.std.specs.Prelude.{Option}
use Rattle.cpe_rows.specs.Lawful.{IsDictionary}
use Rattle.cpe_rows.specs.Weight.{total_weight}
use Rattle.cpe_rows.specs.declared.entry.Deprecation.{Deprecation}
use Rattle.row_weight.specs.Capped.{capped}
use Rattle.cpe_engine.specs.Adopting.{given_weight, with_deprecations}
use Rattle.engine_edits.specs.Parts.{rows_in}
use Rattle.cpe_engine.proofs.AdoptLemmas.{adopted, kept_adopted, too_heavy}
use Rattle.engine_edits.proofs.PartsLemmas.{rows_are}
use Rattle.cpe_engine.proofs.adopting.deprecate_all.Goals as goal

pub returns-then-weight-gt-MOST_WEIGHT-clause-unlawful : goal.returns-then-weight-gt-MOST_WEIGHT-clause-unlawful
returns-then-weight-gt-MOST_WEIGHT-clause-unlawful c is lawful =
    let p = c.args.parts.now in
    let counted = c.with_all-weight.ensures ∙ ap (λ (xs : List (Option Deprecation)). capped (p.weight + total_weight (map given_weight xs))) c.as_slice.ensures in
    too_heavy p c.requires.kept c.requires.bare c.args.deprecations c.requires.even c.with_all-weight.result counted c.if-weight-gt-MOST_WEIGHT.true lawful

pub returns-in-Ok-clause-kept : goal.returns-in-Ok-clause-kept
returns-in-Ok-clause-kept c =
    let p = c.args.parts.now in
    let made = c.in-Ok.ensures in
    let counted = c.with_all-weight.ensures ∙ ap (λ (xs : List (Option Deprecation)). capped (p.weight + total_weight (map given_weight xs))) c.as_slice.ensures in
    kept_adopted p c.requires.kept c.requires.bare c.args.deprecations c.requires.even c.with_all-weight.result counted c.deprecate_all.new.self c.entries_alone_have_no_verdict.ensures made.table made.ok made.items
    _ refl refl refl c.if-weight-gt-MOST_WEIGHT.false (subst IsDictionary c.dictionary.ensures c.lawful.ensures.lawful)

pub returns-in-Ok-clause-ok : goal.returns-in-Ok-clause-ok
returns-in-Ok-clause-ok c =
    let p = c.args.parts.now in
    let made = c.in-Ok.ensures in
    let counted = c.with_all-weight.ensures ∙ ap (λ (xs : List (Option Deprecation)). capped (p.weight + total_weight (map given_weight xs))) c.as_slice.ensures in
    rows_are (record p { registry = c.deprecate_all.new.self; weight = c.with_all-weight.result }) (with_deprecations (rows_in p) c.args.deprecations) []
    (adopted p c.requires.kept c.requires.bare c.args.deprecations c.requires.even c.with_all-weight.result counted c.deprecate_all.new.self c.entries_alone_have_no_verdict.ensures made.table made.ok made.items)

pub returns-in-Err-Unlawful-clause-unlawful : goal.returns-in-Err-Unlawful-clause-unlawful
returns-in-Err-Unlawful-clause-unlawful c is lawful = c.in-Err-Unlawful.ensures.unlawful c.in-Err-Unlawful.field-0-is lawful.dictionary
