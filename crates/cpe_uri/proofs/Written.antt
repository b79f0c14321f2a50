-- Lemmas: what is written from the pieces of a URI is the text of its name.
use Rattle.std.proofs.Common.{◌≡◌, ℕ, List, [], ◌∷◌, ◌++◌, ap}
use Rattle.cpe_values.specs.declared.value.Value.{Value}
use Rattle.cpe_values.specs.declared.value.Value.TheVariants as value
use Rattle.cpe_values.specs.Values.{IsValue}
use Rattle.cpe_name.specs.Eleven.{Values, Written}
use Rattle.cpe_name.specs.declared.attribute.Attribute.{Attribute}
use Rattle.cpe_name.specs.declared.attribute.Attribute.TheVariants.{Part, Vendor, Product, Version, Update, Edition, Language, SwEdition, TargetSw, TargetHw, Other}
use Rattle.cpe_name.specs.Names.{attributes, value_of, IsName}
use Rattle.cpe_name.specs.OutputFrom.{output_from}
use Rattle.cpe_name.specs.Scanning.{slot}
use Rattle.cpe_name.specs.Spans.{texts}
use Rattle.cpe_name.specs.Text.{value_text, output_text}
use Rattle.cpe_name.proofs.OutputTexts.{output_from_is}
use Rattle.cpe_uri.specs.Spelling.{IsSpellingOf}
use Rattle.cpe_uri.specs.Spans.{AreUriComponents}
use Rattle.cpe_uri.specs.Rewriting.{span_text}
use Rattle.cpe_uri.proofs.Rewritten.{text_rewritten}
use Rattle.cpe_uri.proofs.ValueLemmas.{text_some, text_no_hyphen, AreSpelledIn}

-- what is written for a piece is the text of the value that the piece spells
pub spelled : (v : Value) (s : List ℕ) → IsValue v → IsSpellingOf v s → span_text s ≡ value_text v
unfolding span_text
spelled value.Any s good h = ap span_text h
spelled value.Na s good h = ap span_text h
spelled (value.Text t) s good h =
    rw (text_some t s good h, text_no_hyphen t s good h) (ap (λ (u : List ℕ). 34 ∷ (u ++ 34 ∷ [])) (text_rewritten t s good h))

-- what is written for the pieces that spell the values of a name is the output text of the name
pub name_written : (w : Values) (c : Written) → IsName w → AreSpelledIn w (texts c) attributes → output_from span_text c ≡ output_text w
name_written w c good h = output_from_is span_text w c each where
  each : (a : Attribute) → span_text (slot (texts c) a) ≡ value_text (value_of w a)
  each Part = spelled w.part c.part.now good.0.0 h.0
  each Vendor = spelled w.vendor c.vendor.now good.1.0 h.1.0
  each Product = spelled w.product c.product.now good.1.1.0 h.1.1.0
  each Version = spelled w.version c.version.now good.1.1.1.0 h.1.1.1.0
  each Update = spelled w.update c.update.now good.1.1.1.1.0 h.1.1.1.1.0
  each Edition = spelled w.edition c.edition.now good.1.1.1.1.1.0 h.1.1.1.1.1.0
  each Language = spelled w.language c.language.now good.1.1.1.1.1.1.0.0 h.1.1.1.1.1.1.0
  each SwEdition = spelled w.sw_edition c.sw_edition.now good.1.1.1.1.1.1.1.0 h.1.1.1.1.1.1.1.0
  each TargetSw = spelled w.target_sw c.target_sw.now good.1.1.1.1.1.1.1.1.0 h.1.1.1.1.1.1.1.1.0
  each TargetHw = spelled w.target_hw c.target_hw.now good.1.1.1.1.1.1.1.1.1.0 h.1.1.1.1.1.1.1.1.1.0
  each Other = spelled w.other c.other.now good.1.1.1.1.1.1.1.1.1.1.0 h.1.1.1.1.1.1.1.1.1.1.0

-- what is written for the pieces of a URI is the output text of its name
pub spans_say : (s : List ℕ) (c : Written) (are : AreUriComponents s c) → output_from span_text c ≡ output_text are.name
spans_say s c are = name_written are.name c are.uri.name are.are
