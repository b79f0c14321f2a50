use Rattle.std.proofs.Common.{◌≡◌, List, [], false, length, sym, ap, subst, arith}
use Rattle.std.specs.Prelude.{IfOk, IsTrue, Result}
use Rattle.std.specs.List.{filter}
use Rattle.std.proofs.lemmas.List.{length-map}
use Rattle.std.proofs.lemmas.Result.{IfOk-weaker}
use Rattle.name_index.specs.cpe_name.Eleven.{Values}
use Rattle.name_index.specs.cpe_name.Wildcards.{name_has_specials}
use Rattle.cpe_relation.specs.NameRelation.{covers}
use Rattle.name_index.specs.Elements.{SameElements}
use Rattle.name_index.specs.Table.{Names}
use Rattle.name_index.specs.Index.{FitsTable, ids, is_covered}
use Rattle.level_board.specs.declared.meeting.Met.{Met}
use Rattle.level_board.specs.declared.target_parts.Loose.{Loose}
use Rattle.level_board.specs.Targets.{FitsTargets, held, is_maybe_target, Targets}
use Rattle.level_board.specs.TargetParts.{pair_of_loose, pairs_of, targets_of}
use Rattle.level_board.proofs.Meetings.{covered_all, none_open}
use Rattle.level_board.proofs.TargetWalks.{met_count}
use Rattle.level_board.proofs.meeting.meet.Goals as goal

-- A covered target has no special, so it is among the targets whose product has none.
all_covered : {E : Type 0} (names : Names) (name : Values) (t : Targets) → FitsTargets t names → ((a b : Values) → IsTrue (covers a b) → name_has_specials b ≡ false) → (r : Result Met E)
    → IfOk r (λ (m : Met). SameElements (filter (is_covered names name) (ids t.plain)) m.covered.items) → IfOk r (λ (m : Met). SameElements (filter (is_covered names name) (ids (held t))) m.covered.items)
all_covered names name t fits law r plain =
    IfOk-weaker r
    (λ (m : Met). SameElements (filter (is_covered names name) (ids t.plain)) m.covered.items)
    (λ (m : Met). SameElements (filter (is_covered names name) (ids (held t))) m.covered.items)
    (λ (m : Met) same. covered_all names name t fits law m.covered.items same)
    plain

pub returns-then-parts-eq0-clause-covered : goal.returns-then-parts-eq0-clause-covered
returns-then-parts-eq0-clause-covered g c =
    all_covered c.args.table.now c.args.name.now (targets_of c.args.parts.now) c.requires.fits c.maybe_laws.ensures.whole c.meet_whole.result c.meet_whole.ensures.covered

pub returns-then-parts-eq0-clause-maybe : goal.returns-then-parts-eq0-clause-maybe
returns-then-parts-eq0-clause-maybe g c =
    let t = targets_of c.args.parts.now in
    IfOk-weaker c.meet_whole.result
    (λ (m : Met). m.maybe.items ≡ [])
    (λ (m : Met). SameElements (filter (is_maybe_target c.args.table.now c.args.name.now) (ids (held t))) m.maybe.items)
    (λ (m : Met) none. none_open c.args.table.now c.args.name.now t c.requires.fits c.maybe_laws.ensures.part c.if-parts-eq0.true m.maybe.items none)
    c.meet_whole.ensures.maybe

pub returns-then-parts-eq0-clause-steps : goal.returns-then-parts-eq0-clause-steps
returns-then-parts-eq0-clause-steps g c = (
  c.meet_whole.ensures.steps.0,
  omega (arith, c.meet_whole.ensures.steps.1, met_count c.args.table.now c.args.name.now.product c.args.parts.now.plain.held (pairs_of c.args.parts.now.loose.items) c.requires.fits.all_loose),
)

pub meet_each-requires-clause-loose : goal.meet_each-requires-clause-loose
meet_each-requires-clause-loose g c = subst (λ (xs : List Loose). FitsTable (pairs_of xs) c.args.table.now) (sym c.deref.ensures.value) c.requires.fits.loose

pub returns-clause-covered : goal.returns-clause-covered
returns-clause-covered g c =
    all_covered c.args.table.now c.args.name.now (targets_of c.args.parts.now) c.requires.fits c.maybe_laws.ensures.whole c.meet_each.result c.meet_each.ensures.covered

pub returns-clause-steps : goal.returns-clause-steps
returns-clause-steps g c = (
  c.meet_each.ensures.steps.0,
  omega (arith, c.meet_each.ensures.steps.1, ap length c.deref.ensures.value, length-map c.args.parts.now.loose.items pair_of_loose, met_count c.args.table.now c.args.name.now.product c.args.parts.now.plain.held (pairs_of c.args.parts.now.loose.items) c.requires.fits.all_loose),
)
