-- Lemmas: the scanner of leads and trails takes only their spellings, and takes each of these.
use Rattle.std.proofs.Common.{◌≡◌, ℕ, zero, suc, ◌≤◌, true, List, [], ◌∷◌, ◌++◌, length, replicate, Ok, refl, ap, ◌∙◌, inl, inr, arith}
use Rattle.std.specs.List.{list_all}
use Rattle.std.proofs.lemmas.Bool.{eqb-true, and_parts}
use Rattle.cpe_values.specs.declared.value.Edge.{Edge}
use Rattle.cpe_values.specs.declared.value.Edge.TheVariants as edge
use Rattle.cpe_values.specs.Parts.{IsEdge}
use Rattle.cpe_values.specs.Spelling.{edge_text}
use Rattle.name_grammar.specs.Scanners.{scan_one}
use Rattle.name_grammar.proofs.Scans.{Scans, wider, OneOf, one_scans, Either, choose_scans, FewOf, up_to_scans, HeadFails, up_to_taken}
use Rattle.cpe_values.specs.Scanning.{is_star, is_mark, marks_end, edge_end}
use Rattle.cpe_values.specs.Stems.{IsEdgeText}

all_marks : (u : List ℕ) → list_all is_mark u ≡ true → u ≡ replicate (length u) 63
all_marks [] h = refl
all_marks (c ∷ u) h = let p = and_parts (is_mark c) (list_all is_mark u) h in ap (λ (d : ℕ). d ∷ u) (eqb-true c 63 p.0) ∙ ap (λ (v : List ℕ). 63 ∷ v) (all_marks u p.1)

marks_edge : (u : List ℕ) → FewOf 4294967295 is_mark u → IsEdgeText u
marks_edge [] few = record { edge = edge.None; good = tt; is = refl }
marks_edge (c ∷ u) few = record { edge = edge.Marks (suc (length u)); good = (omega arith, omega (arith, few.few)); is = all_marks (c ∷ u) few.passed }

star_edge : (u : List ℕ) → OneOf is_star u → IsEdgeText u
star_edge u o = record { edge = edge.Star; good = tt; is = o.is ∙ ap (λ (d : ℕ). d ∷ []) (eqb-true o.byte 42 o.passed) }

marks_scans : Scans (FewOf 4294967295 is_mark) marks_end
unfolding marks_end
marks_scans = up_to_scans 4294967295 is_mark 63 refl

-- the scanner takes exactly the spellings of leads and trails
pub edge_scans : Scans IsEdgeText edge_end
unfolding edge_end
edge_scans =
    wider (Either (OneOf is_star) (FewOf 4294967295 is_mark)) IsEdgeText edge_end (λ u h. elim h [ inl o ↦ star_edge u o | inr few ↦ marks_edge u few ])
    (choose_scans is_star (OneOf is_star) (FewOf 4294967295 is_mark) (scan_one is_star) marks_end (one_scans is_star 42 refl) marks_scans)

-- the empty text is the spelling of an empty lead or trail
pub no_edge : IsEdgeText []
no_edge = record { edge = edge.None; good = tt; is = refl }

-- ---- each lead or trail is taken

marks_taken : (k : ℕ) (r : List ℕ) → k ≤ 4294967295 → HeadFails is_mark r → marks_end (replicate k 63 ++ r) ≡ Ok r
unfolding marks_end
marks_taken k r le h = up_to_taken k 4294967295 is_mark 63 r le refl h

edge_other : (s : List ℕ) → HeadFails is_star s → edge_end s ≡ marks_end s
unfolding edge_end
edge_other [] h = refl
edge_other (c ∷ s) h = rw h refl

-- a lead or trail is taken if no special follows it
pub edge_taken : (e : Edge) (r : List ℕ) → IsEdge e → HeadFails is_star r → HeadFails is_mark r → edge_end (edge_text e ++ r) ≡ Ok r
unfolding edge_end
edge_taken edge.None r good star mark = edge_other r star ∙ marks_taken 0 r (omega arith) mark
edge_taken edge.Star r good star mark = refl
edge_taken (edge.Marks zero) r good star mark = absurd (omega (arith, good.0))
edge_taken (edge.Marks (suc k)) r good star mark = edge_other (replicate (suc k) 63 ++ r) refl ∙ marks_taken (suc k) r (omega (arith, good.1)) mark

-- the same for the spelling of a lead or trail
pub edge_text_taken : (u r : List ℕ) → IsEdgeText u → HeadFails is_star r → HeadFails is_mark r → edge_end (u ++ r) ≡ Ok r
edge_text_taken u r e star mark = ap (λ (w : List ℕ). edge_end (w ++ r)) e.is ∙ edge_taken e.edge r e.good star mark
