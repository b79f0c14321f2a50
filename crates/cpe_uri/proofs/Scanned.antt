-- Lemmas: `scan_uri` finds the pieces of a URI, and stops at the place of any other text.
use Rattle.std.proofs.Common.{◌≡◌, ℕ, ◌≤◌, false, eqb, List, [], length, Result, Ok, Err, refl, sym, ap, subst, ◌∙◌}
use Rattle.std.specs.Prelude.{codes}
use Rattle.name_grammar.specs.Place.{StopsAt}
use Rattle.name_grammar.proofs.Places.{no_ending, taken_whole}
use Rattle.name_grammar.proofs.Results.{left_over}
use Rattle.cpe_name.specs.Eleven.{Written}
use Rattle.cpe_name.specs.Names.{attributes}
use Rattle.cpe_name.specs.Spans.{texts, total_length}
use Rattle.cpe_uri.specs.Spans.{AreUriComponents}
use Rattle.cpe_uri.specs.Grammar.{IsUri}
use Rattle.cpe_uri.specs.Scanning.{prefix_end, all_end, whole_end}
use Rattle.cpe_uri.specs.Pieces.{rest_of_piece, all_pieces, pieces}
use Rattle.cpe_uri.proofs.ValueLemmas.{AreSpelledIn}
use Rattle.cpe_uri.proofs.Pieces.{pieces_spelled, pieces_within}
use Rattle.cpe_uri.proofs.Whole.{whole_scans, leaves}

-- ---- the pieces

whole_is : (text s : List ℕ) → prefix_end (codes "cpe:/") text ≡ Ok s → all_end s ≡ Ok [] → whole_end text ≡ Ok []
unfolding whole_end
whole_is text s start all = rw (start, all) refl

pieces_from : (text s : List ℕ) → prefix_end (codes "cpe:/") text ≡ Ok s → pieces text ≡ all_pieces s
unfolding pieces
pieces_from text s start = ap (λ (x : Result (List ℕ) ℕ). all_pieces (rest_of_piece x)) start

-- `scan_uri` finds the pieces of a name that has the text
pub found : (text s r : List ℕ) (w : Written) → prefix_end (codes "cpe:/") text ≡ Ok s → r ≡ [] → all_end s ≡ Ok r → texts w ≡ all_pieces s → AreUriComponents text w
found text s r w start over scans is =
    let uri = taken_whole IsUri whole_end whole_scans text [] (whole_is text s start (scans ∙ ap left_over over)) refl in
    let same : pieces text ≡ texts w = pieces_from text s start ∙ sym is in
    record {
      name = uri.0;
      uri = uri.1;
      are = subst (λ (us : List (List ℕ)). AreSpelledIn uri.0 us attributes) same (pieces_spelled uri.0 text uri.1);
      within = subst (λ (us : List (List ℕ)). total_length us ≤ length text) same (pieces_within uri.0 text uri.1);
    }

-- ---- where `scan_uri` stops

pub start_leaves : (text : List ℕ) (left : ℕ) → prefix_end (codes "cpe:/") text ≡ Err left → StopsAt IsUri text left
unfolding whole_end
start_leaves text left e = leaves text left (rw e refl)

pub pieces_leave : (text s : List ℕ) (left : ℕ) → prefix_end (codes "cpe:/") text ≡ Ok s → all_end s ≡ Err left → StopsAt IsUri text left
unfolding whole_end
pieces_leave text s left start e = leaves text left (rw (start, e) refl)

pub end_leaves : (text s r : List ℕ) → prefix_end (codes "cpe:/") text ≡ Ok s → all_end s ≡ Ok r → eqb (length r) 0 ≡ false → StopsAt IsUri text (length r)
unfolding whole_end
end_leaves text s r start taken more = leaves text (length r) (rw (start, taken) (no_ending r more))
