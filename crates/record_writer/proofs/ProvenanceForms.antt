-- Lemmas: the written form of a provenance is read as that provenance.
use Rattle.std.proofs.Common.{◌≡◌, ℕ, ◌+◌, List, [], ◌∷◌, if◌then◌else◌, IsTrue, Some, None, refl, ap}
use Rattle.std.specs.Prelude.{Result, Ok, All}
use Rattle.std.specs.List.{AllByRecursion}
use Rattle.std.proofs.lemmas.List.Elements.{All-head, All-tail}
use Rattle.json.specs.Json as json
use Rattle.serde_json.specs.Data.{Data}
use Rattle.cpe_rows.specs.Date.{is_date}
use Rattle.cpe_rows.specs.Formed.{IsDated}
use Rattle.cpe_rows.specs.declared.entry.Note.{Note}
use Rattle.cpe_rows.specs.declared.entry.Provenance.{Provenance}
use Rattle.cpe_records.specs.Gives.{◌>>=◌, all_from}
use Rattle.cpe_records.specs.Forms.{required_member, tested, list_of_items}
use Rattle.cpe_records.specs.Provenance.{note_in, provenance_in}
use Rattle.cpe_records.specs.declared.member.Member.TheVariants as member
use Rattle.cpe_records.specs.declared.member.RecordFault.{RecordFault}
use Rattle.record_writer.specs.Written.{items_by, note_json, provenance_json}
use Rattle.record_writer.proofs.ReadBack.{data_of, data_items}
use Rattle.record_writer.proofs.WordForms.{note_kind_read}

pub dated : (s : List ℕ) → IsTrue (is_date s) → tested is_date s ≡ Some s
dated s h = ap (λ b. if b then Some s else None) h

-- lemma: each item of a written list is read as the element from which it was written
pub all_read : {A : Type 0} (f : ℕ → Data → Result A RecordFault) (g : A → json.Json) (xs : List A) → AllByRecursion (λ x. (n : ℕ) → f n (data_of (g x)) ≡ Ok x) xs
    → (n : ℕ) → all_from f n (list_of_items (data_items (items_by g xs))) ≡ Ok xs
all_read f g [] h n = refl
all_read f g (x ∷ xs) h n = λ i. h.0 n i >>= λ y. all_read f g xs h.1 (n + 1) i >>= λ ys. Ok (y ∷ ys)

pub note_read : (n : Note) → IsDated n → note_in (data_of (note_json n)) ≡ Ok n
unfolding note_in
note_read n h = λ i.
    required_member member.Provenance (note_kind_read n.kind i) >>= λ kind. required_member member.Provenance (dated n.date h i) >>= λ date. Ok (record { kind = kind; date = date; comment = n.comment })

notes_read : (notes : List Note) → All IsDated notes → AllByRecursion (λ n. (k : ℕ) → note_in (data_of (note_json n)) ≡ Ok n) notes
notes_read [] h = tt
notes_read (n ∷ notes) h = (λ k. note_read n (All-head IsDated n notes h), notes_read notes (All-tail IsDated n notes h))

pub provenance_read : (p : Provenance) → All IsDated p.notes → provenance_in (data_of (provenance_json p)) ≡ Ok p
unfolding provenance_in
provenance_read p h = λ i.
    all_read (λ n. note_in) note_json p.notes (notes_read p.notes h) 1 i >>= λ notes. Ok (record { submitter = p.submitter; authority = p.authority; notes = notes })
