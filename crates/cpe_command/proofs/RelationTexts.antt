-- The words of relations in a line.
use Rattle.std.proofs.Common.{◌≡◌, ℕ, List, [], ◌∷◌, ◌++◌, take, drop, refl, sym, ap, ◌∙◌, map, append_assoc}
use Rattle.std.specs.List.{flat_map}
use Rattle.std.specs.Prelude.{codes}
use Rattle.std.proofs.lemmas.Grind.{flat_map-append}
use Rattle.cpe_fs.specs.cpe_name.Eleven.{Values}
use Rattle.cpe_fs.specs.cpe_name.declared.attribute.Attribute.{Attribute}
use Rattle.cpe_fs.specs.cpe_name.Names.{attributes, value_of}
use Rattle.cpe_relation.specs.declared.relation.Relation.{Relation}
use Rattle.cpe_relation.specs.declared.relation.Relation.TheVariants.{Equal}
use Rattle.cpe_relation.specs.Table.{relation}
use Rattle.cpe_relation.specs.NameRelation.{Relations, relation_of, name_relation}
use Rattle.cpe_command.specs.Pairs.{relation_text, later_texts, relation_line}

-- if each attribute has the relation of its two values, the words are the words of these relations
pub each_text : (r : Relations) (a b : Values) → ((w : Attribute) → relation_of r w ≡ relation (value_of a w) (value_of b w)) → (ws : List Attribute)
    → flat_map (λ w. 32 ∷ relation_text (relation_of r w)) ws ≡ later_texts (map (λ w. relation (value_of a w) (value_of b w)) ws)
each_text r a b each [] = refl
each_text r a b each (w ∷ ws) =
    ap (λ (q : Relation). (32 ∷ relation_text q) ++ flat_map (λ v. 32 ∷ relation_text (relation_of r v)) ws) (each w)
    ∙ ap (λ (t : List ℕ). (32 ∷ relation_text (relation (value_of a w) (value_of b w))) ++ t) (each_text r a b each ws)

-- the relations of two names give the line of the two names
pub line_is : (whole : Relation) (r : Relations) (a b : Values) → whole ≡ name_relation a b → ((w : Attribute) → relation_of r w ≡ relation (value_of a w) (value_of b w))
    → relation_text whole ++ flat_map (λ w. 32 ∷ relation_text (relation_of r w)) attributes ++ codes "\n" ≡ relation_line a b
line_is whole r a b is each =
    ap (λ (q : Relation). relation_text q ++ flat_map (λ w. 32 ∷ relation_text (relation_of r w)) attributes ++ codes "\n") is
    ∙ ap (λ (t : List ℕ). relation_text (name_relation a b) ++ t ++ codes "\n") (each_text r a b each attributes)

-- the words after the version, if each of these relations is EQUAL
pub equal_late : (r : Relations) → r.update ≡ Equal → r.edition ≡ Equal → r.language ≡ Equal → r.sw_edition ≡ Equal → r.target_sw ≡ Equal → r.target_hw ≡ Equal → r.other ≡ Equal
    → flat_map (λ w. 32 ∷ relation_text (relation_of r w)) (drop 4 attributes) ≡ codes " EQUAL EQUAL EQUAL EQUAL EQUAL EQUAL EQUAL"
equal_late r a b c d e f g = rw (a, b, c, d, e, f, g) refl

-- the words up to the version, followed by the words after it, are the words of all attributes
pub all_put : (r : Relations) (x y z : List ℕ) → y ≡ x ++ flat_map (λ w. 32 ∷ relation_text (relation_of r w)) (take 4 attributes)
    → z ≡ y ++ flat_map (λ w. 32 ∷ relation_text (relation_of r w)) (drop 4 attributes) → z ≡ x ++ flat_map (λ w. 32 ∷ relation_text (relation_of r w)) attributes
all_put r x y z early late =
    let text : Attribute → List ℕ = λ w. 32 ∷ relation_text (relation_of r w) in
    late ∙ ap (λ (u : List ℕ). u ++ flat_map text (drop 4 attributes)) early ∙ append_assoc x (flat_map text (take 4 attributes)) (flat_map text (drop 4 attributes))
    ∙ ap (λ (u : List ℕ). x ++ u) (sym (flat_map-append text (take 4 attributes) (drop 4 attributes)))
