use Rattle.std.proofs.Common.{Result, Ok, Err, OnOk}
use Rattle.std.specs.List.{flat_map}
use Rattle.cpe_values.specs.Spelling.{style_character}
use Rattle.cpe_values.proofs.Kept.{kept_along, put_both}
use Rattle.cpe_values.proofs.BareBodies.{cut_bodies}
use Rattle.cpe_values.proofs.spelling.push_body.Goals as goal

on_ok : {T E P Q : Type 0} (r : Result T E) → (P → Q) → OnOk r P → OnOk r Q
on_ok (Ok x) f h = f h
on_ok (Err e) f h = tt

pub returns-clause-spelled : goal.returns-clause-spelled
returns-clause-spelled c =
    let all = cut_bodies c.args.style c.args.body.now c.before-2.result.now c.behind_bare-rest.result.now c.behind_bare-rest.ensures c.before-2.ensures in
    on_ok c.push_characters.result
    (λ put. put_both c.args.out.now.items c.push_bytes.new.out.items c.push_characters.new.out.items c.before-2.result.now (flat_map (style_character c.args.style) c.behind_bare-rest.result.now) (flat_map (style_character c.args.style) c.args.body.now) c.in_ok-push_bytes.ensures.put put all)
    c.push_characters.ensures.spelled

pub returns-clause-kept : goal.returns-clause-kept
returns-clause-kept c = kept_along c.args.out.now.items c.push_bytes.new.out.items c.push_characters.new.out.items c.push_bytes.ensures.kept c.push_characters.ensures.kept
