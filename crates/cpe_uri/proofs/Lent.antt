-- Lemmas: if the bytes of a piece of a URI spell themselves, the piece is the body of the text that it spells.
use Rattle.std.proofs.Common.{◌≡◌, ℕ, true, false, eqb, List, [], ◌∷◌, length, refl, sym, ap, subst, arith}
use Rattle.std.specs.List.{list_all, AllByRecursion}
use Rattle.std.proofs.lemmas.List.{append-nil}
use Rattle.std.proofs.lemmas.Bool.{and_parts, both_ways}
use Rattle.std.proofs.lemmas.Bool.Decides.{nat_tests}
use Rattle.cpe_values.specs.declared.value.Edge.TheVariants as edge
use Rattle.cpe_values.specs.declared.value.Value.TheVariants as value
use Rattle.cpe_values.specs.Parts.{Parts, parts, is_character, IsText}
use Rattle.cpe_uri.specs.Spelling.{Spelled, IsSpellingOf}
use Rattle.cpe_uri.specs.Rewriting.{is_uri_hyphen}
use Rattle.cpe_uri.specs.SpanValues.{uri_value_at}
use Rattle.cpe_uri.specs.Lending.{spells_itself, spell_themselves, all_spell_themselves}
use Rattle.cpe_uri.proofs.ValueLemmas.{value_back}

-- the text that has only this body
abbrev pub text_alone : List ℕ → Parts
text_alone s = parts edge.None s edge.None

each_spelled : (s : List ℕ) → spell_themselves s ≡ true → Spelled s s
each_spelled [] h = refl
each_spelled (c ∷ s) h =
    let p = and_parts (spells_itself c) (spell_themselves s) h in
    (c ∷ [], s, refl, p.0, each_spelled s p.1)

body_spelled : (s : List ℕ) → spell_themselves s ≡ true → IsSpellingOf (value.Text (text_alone s)) s
body_spelled s h = subst (λ (cs : List ℕ). Spelled cs s) (sym (append-nil s)) (each_spelled s h)

is_printable : (c : ℕ) → spells_itself c ≡ true → is_character c ≡ true
is_printable c h = grind (arith, nat_tests)

are_printable : (s : List ℕ) → spell_themselves s ≡ true → list_all is_character s ≡ true
are_printable [] h = refl
are_printable (c ∷ s) h =
    let p = and_parts (spells_itself c) (spell_themselves s) h in
    rw (is_printable c p.0) (are_printable s p.1)

body_is_text : (s : List ℕ) → spell_themselves s ≡ true → eqb (length s) 0 ≡ false → is_uri_hyphen s ≡ false → IsText (text_alone s)
body_is_text s h some other = record {
  lead = tt;
  characters = are_printable s h;
  some = λ e. both_ways (eqb (length s) 0) some (ap (λ (u : List ℕ). eqb (length u) 0) e);
  no_hyphen = λ e. both_ways (is_uri_hyphen s) other (ap (λ (t : Parts). is_uri_hyphen t.body) e);
  trail = tt;
}

-- the value of a piece whose bytes spell themselves is the text that has only this body
pub value_itself : (s : List ℕ) → spell_themselves s ≡ true → eqb (length s) 0 ≡ false → is_uri_hyphen s ≡ false → uri_value_at s ≡ value.Text (text_alone s)
value_itself s h some other = value_back (value.Text (text_alone s)) s (body_is_text s h some other) (body_spelled s h)

pub each_themselves : (us : List (List ℕ)) → all_spell_themselves us ≡ true → AllByRecursion (λ u. spell_themselves u ≡ true) us
each_themselves [] h = tt
each_themselves (u ∷ us) h =
    let p = and_parts (spell_themselves u) (all_spell_themselves us) h in
    (p.0, each_themselves us p.1)
