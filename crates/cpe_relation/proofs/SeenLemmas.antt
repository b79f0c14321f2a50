-- Lemmas: the pass over the attributes finds the same as `of_all`, which sees all relations at once.
use Rattle.std.proofs.Common.{◌≡◌, Bool, true, false, ◌&&◌, ◌||◌, List, [], ◌∷◌, map, fold, refl, ◌∙◌}
use Rattle.std.specs.List.{list_all, list_any}
use Rattle.cpe_name.specs.declared.attribute.Attribute.{Attribute}
use Rattle.cpe_relation.specs.declared.relation.Relation.{Relation}
use Rattle.cpe_relation.specs.declared.seen.Seen.{Seen}
use Rattle.cpe_relation.specs.NameRelation.{is_disjoint, is_equal, is_within, is_above, of_all}
use Rattle.cpe_relation.specs.Attributes.{seen_nothing, seen_with, relation_seen}

or_none : (a : Bool) → a ≡ a || false
or_none true = refl
or_none false = refl

and_all : (a : Bool) → a ≡ a && true
and_all true = refl
and_all false = refl

or_again : (a b c : Bool) → (a || b) || c ≡ a || (b || c)
or_again true b c = refl
or_again false b c = refl

and_again : (a b c : Bool) → (a && b) && c ≡ a && (b && c)
and_again true b c = refl
and_again false b c = refl

module _ (f : Attribute → Relation) where
  abbrev seen_all : Seen → List Attribute → Seen
  seen_all s ws = fold (λ (t : Seen) (w : Attribute). seen_with t (f w)) s ws

  seen_disjoint : (ws : List Attribute) (s : Seen) → (seen_all s ws).disjoint ≡ s.disjoint || list_any is_disjoint (map f ws)
  seen_disjoint [] s = or_none s.disjoint
  seen_disjoint (w ∷ ws) s = seen_disjoint ws (seen_with s (f w)) ∙ or_again s.disjoint (is_disjoint (f w)) (list_any is_disjoint (map f ws))

  seen_equal : (ws : List Attribute) (s : Seen) → (seen_all s ws).equal ≡ s.equal && list_all is_equal (map f ws)
  seen_equal [] s = and_all s.equal
  seen_equal (w ∷ ws) s = seen_equal ws (seen_with s (f w)) ∙ and_again s.equal (is_equal (f w)) (list_all is_equal (map f ws))

  seen_within : (ws : List Attribute) (s : Seen) → (seen_all s ws).within ≡ s.within && list_all is_within (map f ws)
  seen_within [] s = and_all s.within
  seen_within (w ∷ ws) s = seen_within ws (seen_with s (f w)) ∙ and_again s.within (is_within (f w)) (list_all is_within (map f ws))

  seen_above : (ws : List Attribute) (s : Seen) → (seen_all s ws).above ≡ s.above && list_all is_above (map f ws)
  seen_above [] s = and_all s.above
  seen_above (w ∷ ws) s = seen_above ws (seen_with s (f w)) ∙ and_again s.above (is_above (f w)) (list_all is_above (map f ws))

  -- The relation of the pass is the relation of all attributes.
  pub seen_relation : (ws : List Attribute) → relation_seen (seen_all seen_nothing ws) ≡ of_all (map f ws)
  seen_relation ws = rw (seen_disjoint ws seen_nothing, seen_equal ws seen_nothing, seen_within ws seen_nothing, seen_above ws seen_nothing) refl
