-- Lemmas: if a name doesn't reach another, it neither covers the other nor may cover it.
use Rattle.std.proofs.Common.{◌≡◌, List, Bool, false}
use Rattle.std.specs.List.{list_any}
use Rattle.std.proofs.lemmas.Bool.{or_parts}
use Rattle.cpe_name.specs.Eleven.{Values}
use Rattle.cpe_relation.specs.NameRelation.{covers}
use Rattle.cpe_relation.specs.Maybe.{maybe}
use Rattle.cpe_rows.specs.Chains.{ends}
use Rattle.cpe_rows.specs.declared.entry.Entry.{Entry}
use Rattle.cpe_rows.specs.declared.statement.Mode.{Mode}
use Rattle.cpe_rows.specs.declared.statement.Mode.TheVariants.{Plain, Follow}
use Rattle.cpe_rows.proofs.Lists.{no_element, not_element}
use Rattle.cpe_rows.specs.Touching.{reaches, is_related, touches_item}

module _ (relates : Values → Values → Bool) (apart : (a b : Values) → reaches a b ≡ false → relates a b ≡ false) where
  -- the same for two lists of names
  none_relates : (names others : List Values) → list_any (λ f. list_any (reaches f) others) names ≡ false → list_any (λ f. list_any (relates f) others) names ≡ false
  none_relates names others h =
      no_element (λ f. list_any (relates f) others) names (λ f m.
      no_element (relates f) others (λ x k. apart f x (not_element (reaches f) others (not_element (λ g. list_any (reaches g) others) names h f m) x k)))

  not_to : (entries : List Entry) (mode : Mode) (fact item : Values) → touches_item entries mode fact item ≡ false → is_related relates entries mode fact item ≡ false
  not_to entries Plain fact item h = apart fact item h
  not_to entries Follow fact item h = none_relates (ends entries fact) (ends entries item) h

not_covered : (a b : Values) → reaches a b ≡ false → covers a b ≡ false
not_covered a b h = (or_parts (covers a b) (maybe a b) h).0

not_maybe : (a b : Values) → reaches a b ≡ false → maybe a b ≡ false
not_maybe a b h = (or_parts (covers a b) (maybe a b) h).1

pub none_reached : (names others : List Values) → list_any (λ f. list_any (reaches f) others) names ≡ false
    → (list_any (λ f. list_any (covers f) others) names ≡ false) × (list_any (λ f. list_any (maybe f) others) names ≡ false)
none_reached names others h = (none_relates covers not_covered names others h, none_relates maybe not_maybe names others h)

pub are_apart_there : (entries : List Entry) (mode : Mode) (fact item : Values) → touches_item entries mode fact item ≡ false
    → (is_related covers entries mode fact item ≡ false) × (is_related maybe entries mode fact item ≡ false)
are_apart_there entries mode fact item h = (not_to covers not_covered entries mode fact item h, not_to maybe not_maybe entries mode fact item h)
