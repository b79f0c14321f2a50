-- Lemmas: the pieces of a URI spell the values of its name.
use Rattle.std.proofs.Common.{◌≡◌, ℕ, ◌+◌, ◌≤◌, List, [], ◌∷◌, ◌++◌, length, map, get_or, refl, sym, ap, subst, ◌∙◌, arith, length-append}
use Rattle.std.specs.Prelude.{codes}
use Rattle.std.specs.List.{join_with_byte}
use Rattle.std.specs.Str.{str_to_ascii_lowercase}
use Rattle.std.proofs.lemmas.List.{length-map}
use Rattle.cpe_name.specs.Eleven.{Values}
use Rattle.cpe_name.specs.declared.attribute.Attribute.{Attribute}
use Rattle.cpe_name.specs.Names.{attributes, IsName, named}
use Rattle.cpe_name.specs.Spans.{total_length}
use Rattle.cpe_uri.specs.Spelling.{IsSpellingOf}
use Rattle.cpe_uri.specs.Grammar.{Uri}
use Rattle.cpe_uri.specs.Languages.{part_end}
use Rattle.cpe_uri.specs.Scanning.{uri_component_end, later, later_end, prefix_end}
use Rattle.cpe_uri.specs.Pieces.{rest_of_piece, left_by, piece, behind_colon, later_pieces, left_of_components, edition_pieces, in_order, before_edition, all_pieces, pieces}
use Rattle.cpe_uri.specs.SpanValues.{uri_value_at}
use Rattle.cpe_uri.proofs.Languages.{part_taken}
use Rattle.cpe_uri.proofs.Editions.{piece_taken, EditionLies, edition_lies}
use Rattle.cpe_uri.proofs.Whole.{first_of, behind_first, tail_of, components_joined, IsSpelledAs, AllSpelled, tail_ends, good_five, slot_taken, uri_spelled, prefix_taken}
use Rattle.cpe_uri.proofs.ValueLemmas.{AreSpelledIn, named_back}

-- the prefix of a URI has five bytes
pub prefix_length : (prefix : List ℕ) → str_to_ascii_lowercase prefix ≡ codes "cpe:/" → length prefix ≡ 5
prefix_length prefix e = sym (length-map prefix _) ∙ ap length e

-- ---- components after colons

behind_tail : (cs : List (List ℕ)) → behind_colon (tail_of cs) ≡ first_of cs ++ tail_of (behind_first cs)
behind_tail [] = refl
behind_tail (c ∷ cs) = refl

left_tail : (w : Values) (a : Attribute) (cs : List (List ℕ)) → IsName w → IsSpelledAs w a (first_of cs) → left_by (later_end (uri_component_end a)) (tail_of cs) ≡ tail_of (behind_first cs)
unfolding later_end
left_tail w a [] good present = refl
left_tail w a (c ∷ cs) good present = ap rest_of_piece (slot_taken w a c (tail_of cs) good present (tail_ends cs))

slot_piece : (w : Values) (a : Attribute) (cs : List (List ℕ)) → IsName w → IsSpelledAs w a (first_of cs) → piece (uri_component_end a) (behind_colon (tail_of cs)) ≡ first_of cs
slot_piece w a cs good present =
    ap (piece (uri_component_end a)) (behind_tail cs)
    ∙ piece_taken (uri_component_end a) (first_of cs) (tail_of (behind_first cs)) (slot_taken w a (first_of cs) (tail_of (behind_first cs)) good present (tail_ends (behind_first cs)))

-- the first components, one for each of these attributes
abbrev firsts : List Attribute → List (List ℕ) → List (List ℕ)
firsts [] cs = []
firsts (a ∷ rest) cs = first_of cs ∷ firsts rest (behind_first cs)

abbrev behind_firsts : List Attribute → List (List ℕ) → List (List ℕ)
behind_firsts [] cs = cs
behind_firsts (a ∷ rest) cs = behind_firsts rest (behind_first cs)

pieces_are : (w : Values) (which : List Attribute) (cs : List (List ℕ)) → IsName w → AllSpelled w which cs → later_pieces which (tail_of cs) ≡ firsts which cs
pieces_are w [] cs good are_present = refl
pieces_are w (a ∷ rest) cs good are_present =
    ap (λ (u : List ℕ). u ∷ later_pieces rest (left_by (later_end (uri_component_end a)) (tail_of cs))) (slot_piece w a cs good are_present.0)
    ∙ ap (λ (s : List ℕ). first_of cs ∷ later_pieces rest s) (left_tail w a cs good are_present.0)
    ∙ ap (λ (us : List (List ℕ)). first_of cs ∷ us) (pieces_are w rest (behind_first cs) good are_present.1)

left_are : (w : Values) (which : List Attribute) (cs : List (List ℕ)) → IsName w → AllSpelled w which cs → left_of_components which (tail_of cs) ≡ tail_of (behind_firsts which cs)
left_are w [] cs good are_present = refl
left_are w (a ∷ rest) cs good are_present = ap (left_of_components rest) (left_tail w a cs good are_present.0) ∙ left_are w rest (behind_first cs) good are_present.1

tail_length : (cs : List (List ℕ)) → length (first_of cs) + length (tail_of (behind_first cs)) ≤ length (tail_of cs)
tail_length [] = omega arith
tail_length (c ∷ cs) = omega (arith, length-append c (tail_of cs))

-- ---- the whole

-- these pieces spell the values of a name, and are together no longer than the text
record LieIn (w : Values) (s : List ℕ) (us : List (List ℕ)) : Type 0 where
  are_present : AreSpelledIn w us attributes
  within : total_length us ≤ length s

ordered : (w : Values) (s part : List ℕ) (cs es : List (List ℕ)) → IsSpellingOf w.part part → AllSpelled w later cs → EditionLies w (first_of (behind_firsts before_edition cs)) es
    → length part + length (tail_of cs) ≤ length s → LieIn w s (in_order (part ∷ firsts later cs) es)
ordered w s part cs es p are_present e within = record {
  are_present = (p, (are_present.0, (are_present.1.0, (are_present.1.1.0, (are_present.1.1.1.0, (e.edition, (are_present.1.1.1.1.1.0, (e.sw_edition, (e.target_sw, (e.target_hw, (e.other, tt)))))))))));
  within = omega (
    arith,
    within,
    e.within,
    tail_length cs,
    tail_length (behind_first cs),
    tail_length (behind_first (behind_first cs)),
    tail_length (behind_first (behind_first (behind_first cs))),
    tail_length (behind_first (behind_first (behind_first (behind_first cs)))),
    tail_length (behind_first (behind_first (behind_first (behind_first (behind_first cs))))),
  );
}

edition_behind : (w : Values) (cs : List (List ℕ)) → IsName w → AllSpelled w later cs
    → EditionLies w (first_of (behind_firsts before_edition cs)) (edition_pieces (behind_colon (left_of_components before_edition (tail_of cs))))
edition_behind w cs good are_present =
    let rest = behind_firsts before_edition cs in
    let four : AllSpelled w before_edition cs = (are_present.0, (are_present.1.0, (are_present.1.1.0, (are_present.1.1.1.0, tt)))) in
    let at : behind_colon (left_of_components before_edition (tail_of cs)) ≡ first_of rest ++ tail_of (behind_first rest) = ap behind_colon (left_are w before_edition cs good four) ∙ behind_tail rest in
    subst (λ (u : List ℕ). EditionLies w (first_of rest) (edition_pieces u)) (sym at) (edition_lies w (first_of rest) (tail_of (behind_first rest)) (good_five w good) are_present.1.1.1.1.0 (tail_ends (behind_first rest)))

lie : (w : Values) (s : List ℕ) → Uri w s → LieIn w s (pieces s)
unfolding pieces
lie w s uri = go uri.components refl where
  go : (components : List (List ℕ)) → uri.components ≡ components → LieIn w s (all_pieces (left_by (prefix_end (codes "cpe:/")) s))
  go [] is = absurd (omega (arith, uri.some, ap length is))
  go (part ∷ cs) is =
      let text : s ≡ uri.prefix ++ (part ++ tail_of cs) = uri.text ∙ ap (λ (us : List (List ℕ)). uri.prefix ++ join_with_byte 58 us) is ∙ ap (λ (v : List ℕ). uri.prefix ++ v) (components_joined part cs) in
      let present : IsSpellingOf w.part part = subst (IsSpellingOf w.part) (ap (λ (us : List (List ℕ)). get_or us 0 []) is) uri.part in
      let are_present = uri_spelled w s part cs uri is in
      let start : left_by (prefix_end (codes "cpe:/")) s ≡ part ++ tail_of cs = ap (left_by (prefix_end (codes "cpe:/"))) text ∙ ap rest_of_piece (prefix_taken (codes "cpe:/") uri.prefix (part ++ tail_of cs) uri.begins) in
      let first = part_taken w.part part (tail_of cs) uri.name.0 present (tail_ends cs) in
      let left : left_by part_end (part ++ tail_of cs) ≡ tail_of cs = ap rest_of_piece first in
      let at : piece part_end (part ++ tail_of cs) ∷ later_pieces later (left_by part_end (part ++ tail_of cs)) ≡ part ∷ firsts later cs =
      ap (λ (u : List ℕ). u ∷ later_pieces later (left_by part_end (part ++ tail_of cs))) (piece_taken part_end part (tail_of cs) first)
      ∙ ap (λ (u : List ℕ). part ∷ later_pieces later u) left
      ∙ ap (λ (us : List (List ℕ)). part ∷ us) (pieces_are w later cs uri.name are_present)
      in
      let edition = subst (λ (u : List ℕ). EditionLies w (first_of (behind_firsts before_edition cs)) (edition_pieces (behind_colon (left_of_components before_edition u)))) (sym left) (edition_behind w cs uri.name are_present) in
      let es = edition_pieces (behind_colon (left_of_components before_edition (left_by part_end (part ++ tail_of cs)))) in
      subst (λ (u : List ℕ). LieIn w s (all_pieces u)) (sym start)
      (subst (λ (us : List (List ℕ)). LieIn w s (in_order us es)) (sym at)
      (ordered w s part cs es present are_present edition (omega (arith, ap length text, length-append uri.prefix (part ++ tail_of cs), length-append part (tail_of cs)))))

-- the pieces of a URI spell the values of its name
pub pieces_spelled : (w : Values) (s : List ℕ) → Uri w s → AreSpelledIn w (pieces s) attributes
pieces_spelled w s uri = (lie w s uri).are_present

-- the pieces of a URI are together no longer than the URI
pub pieces_within : (w : Values) (s : List ℕ) → Uri w s → total_length (pieces s) ≤ length s
pieces_within w s uri = (lie w s uri).within

-- ---- the name of a URI

-- the name that is read from the pieces of a URI is the name that has this URI
pub name_of_pieces : (w : Values) (s : List ℕ) → Uri w s → named (map uri_value_at (pieces s)) ≡ w
name_of_pieces w s uri = named_back w (pieces s) uri.name (pieces_spelled w s uri)
