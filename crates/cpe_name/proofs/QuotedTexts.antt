-- Lemmas: the scanner of a text between double quotes takes only such texts, and takes each of them.
use Rattle.std.proofs.Common.{◌≡◌, ◌≢◌, ℕ, List, [], ◌∷◌, ◌++◌, Ok, refl, sym, ap, ◌∙◌, append_assoc}
use Rattle.std.specs.Prelude.{codes}
use Rattle.std.proofs.lemmas.Bool.{eqb-true}
use Rattle.cpe_values.specs.declared.value.Edge.{Edge}
use Rattle.cpe_values.specs.declared.value.Value.{Value}
use Rattle.cpe_values.specs.declared.value.Value.TheVariants as value
use Rattle.cpe_values.specs.declared.spelling.Style.TheVariants as style
use Rattle.cpe_values.specs.Parts.{Parts, parts, IsEdge}
use Rattle.cpe_values.specs.Spelling.{edge_text}
use Rattle.cpe_values.specs.Values.{IsValue}
use Rattle.name_grammar.specs.Scanners.{scan_both, choose, scan_one, literal}
use Rattle.name_grammar.proofs.Scans.{Scans, wider, OneOf, one_scans, Joined, both_scans, Either, choose_scans, Only, literal_scans, literal_taken}
use Rattle.cpe_values.specs.Scanning.{is_star, is_mark, edge_end, stem_end}
use Rattle.cpe_values.specs.Stems as stems
use Rattle.cpe_values.specs.Stems.{AreCharacters, IsEdgeText, EndsStem}
use Rattle.cpe_values.proofs.Edges.{edge_scans, edge_taken, no_edge}
use Rattle.cpe_values.proofs.Stems.{stem_scans, a_letter, stem_taken, body_begins, begins_fail}
use Rattle.cpe_name.specs.Text.{value_text}
use Rattle.cpe_name.specs.Scanning.{is_quote, quoted_end, begins_any, begins_na, value_end}

-- the spelling of a body in a well-formed name
abbrev pub body_text : List ℕ → List ℕ
body_text b = stems.body_text style.Wfn b

abbrev IsStem : List ℕ → Type 0
IsStem u = stems.IsStem style.Wfn u

-- ---- between double quotes

-- a lead, a body and a trail between double quotes; the text may be one hyphen alone
pub record IsInQuotes (u : List ℕ) : Type 0 where
  pub text : Parts
  pub lead : IsEdge text.lead
  pub characters : AreCharacters text.body
  pub some : text.body ≢ []
  pub trail : IsEdge text.trail
  pub is : u ≡ value_text (value.Text text)

a_quote : OneOf is_quote (34 ∷ [])
a_quote = record { byte = 34; is = refl; passed = refl }

quote_is : (u : List ℕ) → OneOf is_quote u → u ≡ 34 ∷ []
quote_is u o = o.is ∙ ap (λ (d : ℕ). d ∷ []) (eqb-true o.byte 34 o.passed)

in_quotes : (u : List ℕ) → Joined (Joined (Joined (OneOf is_quote) IsEdgeText) IsStem) (OneOf is_quote) u → IsInQuotes u
in_quotes u j =
    let opening = quote_is j.first.first.prefix j.first.first.first in
    let lead = j.first.first.second in
    let stem = j.first.second in
    let close = quote_is j.back j.second in
    let prefix : j.prefix ≡ 34 ∷ (edge_text lead.edge ++ (body_text (stem.first ∷ stem.bytes) ++ edge_text stem.trail)) =
    j.first.is ∙ ap (λ (w : List ℕ). w ++ j.first.back) (j.first.first.is ∙ ap (λ (w : List ℕ). w ++ j.first.first.back) opening ∙ ap (λ (w : List ℕ). 34 ∷ w) lead.is) ∙ ap (λ (w : List ℕ). 34 ∷ (edge_text lead.edge ++ w)) stem.is in
    record {
      text = parts lead.edge (stem.first ∷ stem.bytes) stem.trail;
      lead = lead.good;
      characters = stem.printable;
      some = λ e. absurd cc;
      trail = stem.good;
      is =
          j.is ∙ ap (λ (w : List ℕ). w ++ j.back) prefix ∙ ap (λ (w : List ℕ). (34 ∷ (edge_text lead.edge ++ (body_text (stem.first ∷ stem.bytes) ++ edge_text stem.trail))) ++ w) close
          ∙ ap (λ (w : List ℕ). 34 ∷ (w ++ 34 ∷ [])) (sym (append_assoc (edge_text lead.edge) (body_text (stem.first ∷ stem.bytes)) (edge_text stem.trail)));
    }

quoted_scans : Scans IsInQuotes quoted_end
unfolding quoted_end
quoted_scans =
    wider (Joined (Joined (Joined (OneOf is_quote) IsEdgeText) IsStem) (OneOf is_quote)) IsInQuotes quoted_end in_quotes
    (both_scans (Joined (Joined (OneOf is_quote) IsEdgeText) IsStem) (OneOf is_quote) (scan_both (scan_both (scan_one is_quote) edge_end) (stem_end style.Wfn)) (scan_one is_quote)
    (both_scans (Joined (OneOf is_quote) IsEdgeText) IsStem (scan_both (scan_one is_quote) edge_end) (stem_end style.Wfn)
    (both_scans (OneOf is_quote) IsEdgeText (scan_one is_quote) edge_end (one_scans is_quote 34 refl) edge_scans [] no_edge)
    (stem_scans style.Wfn) (97 ∷ []) (a_letter style.Wfn))
    (one_scans is_quote 34 refl) (34 ∷ []) a_quote)

-- ---- values

abbrev pub IsValueText : List ℕ → Type 0
IsValueText = Either (Only (codes "ANY")) (Either (Only (codes "NA")) IsInQuotes)

-- the scanner of values takes the texts of values, and one hyphen between double quotes
pub value_scans : Scans IsValueText value_end
unfolding value_end
value_scans =
    choose_scans begins_any (Only (codes "ANY")) (Either (Only (codes "NA")) IsInQuotes) (literal (codes "ANY")) (choose begins_na (literal (codes "NA")) quoted_end)
    (literal_scans (codes "ANY"))
    (choose_scans begins_na (Only (codes "NA")) IsInQuotes (literal (codes "NA")) quoted_end (literal_scans (codes "NA")) quoted_scans)

-- ---- each text is taken if the closing quote follows it

-- a double quote does not extend a body with its trail
quote_ends : (r : List ℕ) → EndsStem style.Wfn (34 ∷ r)
quote_ends r = record { star = refl; mark = refl; body = refl }

regroup : (x y z r : List ℕ) → (34 ∷ ((x ++ y ++ z) ++ 34 ∷ [])) ++ r ≡ 34 ∷ (x ++ (y ++ (z ++ 34 ∷ r)))
regroup x y z r = simp append_assoc

parts_taken : (lead : Edge) (body : List ℕ) (trail : Edge) (r : List ℕ) → IsEdge lead → AreCharacters body → body ≢ [] → IsEdge trail → quoted_end (34 ∷ (edge_text lead ++ (body_text body ++ (edge_text trail ++ 34 ∷ r)))) ≡ Ok r
unfolding quoted_end
parts_taken lead [] trail r good printable some good' = absurd (some refl)
parts_taken lead (c ∷ b) trail r good printable some good' =
    let rest : List ℕ = edge_text trail ++ 34 ∷ r in
    let stem = body_begins style.Wfn c b rest in
    let star = begins_fail style.Wfn is_star (body_text (c ∷ b) ++ rest) stem stem.no_star in
    let mark = begins_fail style.Wfn is_mark (body_text (c ∷ b) ++ rest) stem stem.no_mark in
    rw (edge_taken lead (body_text (c ∷ b) ++ rest) good star mark, stem_taken style.Wfn c b trail (34 ∷ r) printable good' (quote_ends r)) refl

-- each text of a value is taken
pub value_taken : (v : Value) (r : List ℕ) → IsValue v → value_end (value_text v ++ r) ≡ Ok r
unfolding value_end
value_taken value.Any r good = literal_taken (codes "ANY") r
value_taken value.Na r good = literal_taken (codes "NA") r
value_taken (value.Text t) r good =
    ap value_end (regroup (edge_text t.lead) (body_text t.body) (edge_text t.trail) r) ∙ parts_taken t.lead t.body t.trail r good.lead good.characters good.some good.trail
