-- Lemmas: the places at which a text contains a body, by bytes and by splits of the text.
use Rattle.std.proofs.Common.{◌≡◌, ℕ, zero, suc, ◌+◌, ◌<◌, ◌≤◌, true, List, [], ◌∷◌, ◌++◌, map, take, drop, get_or, Option, Some, None, length, sym, subst, ap, ◌∙◌, refl, arith, append_assoc, take-append-drop, get_or-append-add, length-append, inl, inr}
use Rattle.std.proofs.lemmas.List.{length-take-le, length-map, get_or_append_left}
use Rattle.std.proofs.lemmas.Bool.{cases_lt}
use Rattle.std.specs.Option.{is_some}
use Rattle.memchr.specs.Find.{IsFirst, OccursAt}
use Rattle.memchr.specs.TwoWay.{OccursIn}
use Rattle.memchr.proofs.lemmas.MatchLemmas.{OccursAt-split}
use Rattle.std.specs.Char.{to_ascii_lowercase}
use Rattle.cpe_relation.specs.Folded.{table_index}
use Rattle.cpe_relation.specs.Standing.{HasBodyAt, OccursWithin}

get_or-lower : (xs : List ℕ) (k : ℕ) → get_or (map to_ascii_lowercase xs) k 0 ≡ to_ascii_lowercase (get_or xs k 0)
get_or-lower [] k = refl
get_or-lower (x ∷ xs) zero = refl
get_or-lower (x ∷ xs) (suc k) = get_or-lower xs k

pub to_occurs : (text body : List ℕ) (k : ℕ) → k + length body ≤ length text → ((j : ℕ) → j < length body → table_index text (k + j) ≡ table_index body j) → HasBodyAt text body k
to_occurs text body k fits reads =
    let t = map to_ascii_lowercase text in
    let b = map to_ascii_lowercase body in
    let len_t : length t ≡ length text = length-map text to_ascii_lowercase in
    let len_b : length b ≡ length body = length-map body to_ascii_lowercase in
    let o : OccursAt t b k = record { fits = omega arith; reads = λ j l. get_or-lower text (k + j) ∙ reads j (omega arith) ∙ sym (get_or-lower body j) } in
    record {
      before = take k t;
      behind = drop (k + length b) t;
      split = sym (take-append-drop k t) ∙ ap (λ (r : List ℕ). take k t ++ r) (OccursAt-split t b k o) ∙ sym (append_assoc (take k t) b (drop (k + length b) t));
      at = length-take-le k t (omega arith);
    }

pub present_fits : (text body : List ℕ) (k : ℕ) → HasBodyAt text body k → k + length body ≤ length text
present_fits text body k s =
    let b = map to_ascii_lowercase body in
    let at = s.at in
    let len : length text ≡ length (s.before ++ b ++ s.behind) = sym (length-map text to_ascii_lowercase) ∙ ap length s.split in
    omega (arith, len, length-append (s.before ++ b) s.behind, length-append s.before b, length-map body to_ascii_lowercase)

pub present_reads : (text body : List ℕ) (k : ℕ) → HasBodyAt text body k → (j : ℕ) → j < length body → table_index text (k + j) ≡ table_index body j
present_reads text body k s j l =
    let b = map to_ascii_lowercase body in
    let len_b : length b ≡ length body = length-map body to_ascii_lowercase in
    let place : k + j ≡ length s.before + j = ap (λ (i : ℕ). i + j) (sym s.at) in
    sym (get_or-lower text (k + j))
    ∙ ap (λ (xs : List ℕ). get_or xs (k + j) 0) (s.split ∙ append_assoc s.before b s.behind)
    ∙ ap (λ (i : ℕ). get_or (s.before ++ (b ++ s.behind)) i 0) place
    ∙ get_or-append-add s.before (b ++ s.behind) j 0
    ∙ get_or_append_left b s.behind 0 j (omega arith)
    ∙ get_or-lower body j

pub to_within : (text body : List ℕ) (low high n : ℕ) → n ≡ high + length body → n ≤ length text → (r : Option ℕ)
    → IsFirst (OccursIn (table_index body) (length body) (table_index text) n) low (n + 1) r → is_some r ≡ true → OccursWithin text body low high
to_within text body low high n is le None h e = absurd cc
to_within text body low high n is le (Some k) h e = record {
  place = k;
  above = h.0.low;
  below = omega (arith, h.1.fits);
  present = to_occurs text body k (omega (arith, h.1.fits)) h.1.reads;
}

pub from_within : (text body : List ℕ) (low high n : ℕ) → n ≡ high + length body → (r : Option ℕ)
    → IsFirst (OccursIn (table_index body) (length body) (table_index text) n) low (n + 1) r → OccursWithin text body low high → is_some r ≡ true
from_within text body low high n is (Some k) h w = refl
from_within text body low high n is None h w =
    absurd (h w.place w.above (omega (arith, w.below)) (record { fits = omega (arith, w.below); reads = present_reads text body w.place w.present }))

-- If no place before the last contains the body, the last place does.
pub or_last : (text body : List ℕ) (low high : ℕ) → ((k : ℕ) → low ≤ k → k < high → HasBodyAt text body k → ⊥) → OccursWithin text body low high → HasBodyAt text body high
or_last text body low high none w =
    elim (cases_lt w.place high) [
      | inl l ↦ absurd (none w.place w.above l w.present)
      | inr g ↦ let is : w.place ≡ high = omega (arith, w.below) in subst (λ (k : ℕ). HasBodyAt text body k) is w.present
    ]
