use Rattle.std.proofs.Common.{List, ap, arith, map, subst, sym, ◌∙◌}
use Rattle.std.proofs.lemmas.Result.{IfOk-weaker}
use Rattle.std.specs.Borrow.{Bor}
use Rattle.cpe_rows.specs.cpe_name.Eleven.{Values}
use Rattle.cpe_rows.specs.Lent.{entry_lent}
use Rattle.cpe_rows.specs.declared.entry.Entry.{Entry}
use Rattle.cpe_rows.specs.declared.statement.Mode.TheVariants.{Follow}
use Rattle.certificate_check.specs.Leading.{AreLinkedEntries}
use Rattle.certificate_check.proofs.Links.{linked}
use Rattle.certificate_check.proofs.Loops.{one_listed, all_listed, nearer, few_before}
use Rattle.certificate_check.proofs.rows.PlainRows.find_fact.Goals as goal

pub loop-item-init : goal.loop-item-init
loop-item-init g c = ap (map (λ (i : Bor Values). i.now)) c.new-items.ensures.items

pub loop-item-smaller : goal.loop-item-smaller
loop-item-smaller g c = nearer (g.Self.PlainRows.rows c.args.self.now).items c.loop-item.place c.in-Some.item.now (sym c.in-Some.ensures)

pub loop-item-preserved : goal.loop-item-preserved
loop-item-preserved g c =
    one_listed (λ (i : Bor Values). i.now) (g.Self.PlainRows.rows c.args.self.now).items c.loop-item.items.items c.push.new.self.items c.loop-item.place
    c.in-Some.item c.loop-item.invariant (sym c.in-Some.ensures) c.in_ok-push.ensures.items

pub loop-entry-init : goal.loop-entry-init
loop-entry-init g c = ap (map entry_lent) c.new-entries.ensures.items

pub overflow_add-k : goal.overflow_add-k
overflow_add-k g c =
    omega (
      arith,
      few_before (g.Self.PlainRows.rows c.args.self.now) c.lawful.ensures c.loop-entry.k (entry_lent c.in-Some-entry.entry)
          (sym c.in-Some-entry.ensures),
    )

pub loop-entry-smaller : goal.loop-entry-smaller
loop-entry-smaller g c =
    nearer (g.Self.PlainRows.rows c.args.self.now).entries c.loop-entry.k (entry_lent c.in-Some-entry.entry) (sym c.in-Some-entry.ensures)

pub loop-entry-preserved : goal.loop-entry-preserved
loop-entry-preserved g c =
    one_listed entry_lent (g.Self.PlainRows.rows c.args.self.now).entries c.loop-entry.entries.items c.push-in-Some-entry.new.self.items c.loop-entry.k
    c.in-Some-entry.entry c.loop-entry.invariant (sym c.in-Some-entry.ensures) c.in_ok-push-2.ensures.items

pub truth_in-requires : goal.truth_in-requires
truth_in-requires g c =
    let rows = g.Self.PlainRows.rows c.args.self.now in
    subst (λ (es : List Entry). AreLinkedEntries es)
    (all_listed entry_lent rows.entries c.loop-entry.entries.items c.loop-entry.k c.loop-entry.invariant (sym c.in_default-entry.ensures)
    ∙ ap (map entry_lent) (sym c.deref.ensures.value)) (linked rows Follow c.lawful.ensures)

pub returns : goal.returns
returns g c =
    let rows = g.Self.PlainRows.rows c.args.self.now in
    let now = λ (i : Bor Values). i.now in
    IfOk-weaker c.truth_in.result _ _
    (λ tested h. h rows
    (all_listed entry_lent rows.entries c.loop-entry.entries.items c.loop-entry.k c.loop-entry.invariant (sym c.in_default-entry.ensures)
    ∙ ap (map entry_lent) (sym c.deref.ensures.value))
    (all_listed now rows.items c.loop-item.items.items c.loop-item.place c.loop-item.invariant (sym c.in_default.ensures)
    ∙ ap (map now) (sym c.deref-2.ensures.value))) c.truth_in.ensures
