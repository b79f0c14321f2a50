use Rattle.std.proofs.Common.{◌∙◌, ◌+◌, ◌++◌, ◌∷◌, [], ℕ, List, ap, sym, subst, take, take_all, get_or, arith}
use Rattle.std.specs.List.{Contains}
use Rattle.std.proofs.lemmas.List.{take_more}
use Rattle.std.proofs.lemmas.List.Elements.{Contains-get_or}
use Rattle.deprecation_graph.specs.Searches.{with_number}
use Rattle.deprecation_graph.specs.Groups.{IsHead, AreGroupsOf}
use Rattle.deprecation_graph.proofs.EnclosedLemmas.{names_first, names_more, heads_one, heads_more}
use Rattle.deprecation_graph.proofs.groups.find_groups.Goals as goal

pub loop-other-init : goal.loop-other-init
loop-other-init c =
    let one = sym (c.in_ok-push.ensures.items ∙ ap (λ (xs : List ℕ). xs ++ c.in-Some.name ∷ []) c.new-names.ensures.items) in
    record {
      heads = subst (λ (names : List ℕ). (x : ℕ) → Contains names x → IsHead c.args.groups.now x) one (heads_one c.args.groups.now c.in-Some.name c.in-Some.ensures.head);
      all = subst (AreGroupsOf c.args.groups.now c.args.node []) one (names_first c.args.groups.now c.args.node c.in-Some.name c.in-Some.ensures.name);
    }

pub loop-other-preserved : goal.loop-other-preserved
loop-other-preserved c =
    let xs = take c.loop-other.other-index c.args.others.now in
    let x = get_or c.args.others.now c.loop-other.other-index 0 in
    let found = c.in-Some-find_group in
    let added = sym c.in_ok-add.ensures in
    record {
      heads = subst (λ (names : List ℕ). (y : ℕ) → Contains names y → IsHead c.args.groups.now y) added (heads_more c.args.groups.now found.name c.loop-other.names.items c.loop-other.invariant.heads found.ensures.head);
      all = subst (AreGroupsOf c.args.groups.now c.args.node (take (c.loop-other.other-index + 1) c.args.others.now)) added
          (subst (λ (ys : List ℕ). AreGroupsOf c.args.groups.now c.args.node ys (with_number c.loop-other.names.items found.name)) (sym (take_more c.args.others.now c.loop-other.other-index 0 c.loop-other-test.true))
          (names_more c.args.groups.now c.args.node x found.name c.loop-other.names.items xs c.loop-other.invariant.all found.ensures.name));
    }

pub returns-clause-heads : goal.returns-clause-heads
returns-clause-heads c = λ k d lt. c.loop-other.invariant.heads (get_or c.loop-other.names.items k d) (Contains-get_or c.loop-other.names.items k d lt)

pub returns-clause-names : goal.returns-clause-names
returns-clause-names c = subst (λ (xs : List ℕ). AreGroupsOf c.args.groups.now c.args.node xs c.loop-other.names.items) (take_all c.loop-other.other-index c.args.others.now (omega (arith, c.loop-other-test.false))) c.loop-other.invariant.all
