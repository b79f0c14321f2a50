-- Lemmas: the readers of rows.
use Rattle.std.proofs.Common.{◌≡◌, refl, sym, ◌∙◌, ap, subst, ℕ, zero, suc, ◌+◌, ◌&&◌, Bool, true, false, List, [], ◌∷◌, ◌++◌, length, Option, Some, None, append_assoc, arith, slice_get}
use Rattle.cpe_rows.specs.cpe_name.Eleven.{Values}
use Rattle.cpe_rows.specs.Date.{is_date, follows, digit, dash}
use Rattle.cpe_rows.specs.declared.entry.Note.{Note}
use Rattle.cpe_rows.specs.declared.entry.Provenance.{Provenance}
use Rattle.cpe_rows.specs.declared.entry.NoteKind.{NoteKind}
use Rattle.cpe_rows.specs.declared.entry.NoteKind.TheVariants as note
use Rattle.cpe_rows.specs.declared.entry.Kind.{Kind}
use Rattle.cpe_rows.specs.declared.entry.Kind.TheVariants.{NameCorrection, NameRemoval, AdditionalInformation}
use Rattle.cpe_rows.specs.declared.test.CheckKey.{CheckKey}
use Rattle.cpe_rows.specs.declared.truth.Truth.{Truth}
use Rattle.cpe_rows.specs.declared.truth.Truth.TheVariants.{True, False, Error, Unknown}
use Rattle.snapshot_bytes.specs.declared.read.StoredDetails.{StoredDetails}
use Rattle.snapshot_bytes.specs.declared.rows.KeptResult.{KeptResult}
use Rattle.snapshot_bytes.specs.declared.rows.PlacedDeprecation.{PlacedDeprecation}
use Rattle.snapshot_bytes.specs.declared.rows.PlacedEntry.{PlacedEntry}
use Rattle.snapshot_bytes.specs.Parts.{number, text, name, list}
use Rattle.snapshot_bytes.specs.Snapshot.{kind_byte, note_byte, truth_byte, note_row, deprecation_part, entry_row, key_part, result_row}
use Rattle.snapshot_bytes.specs.StoredRows.{IsNumber, IsStoredText, IsCountedList, IsStoredNote, IsStoredDeprecation, IsStoredEntry, IsStoredKey, IsStoredResult}
use Rattle.snapshot_bytes.specs.Reading.{read_as, read_when, byte_at, bytes_at, number_at, list_at, deprecation_kinds, note_kinds, truths, date_at, note_from, note_at, successors_at, deprecation_at, provenance_from, provenance_at, details_from, details_at, placed_entry_from, entry_at, key_from, key_at, result_from, result_at}
use Rattle.snapshot_bytes.proofs.Readers.{IsBytes, IsTaken, IsReader, bind_some, some_is, both_read, made_read, stored_read}
use Rattle.snapshot_bytes.proofs.PartReaders.{IsAny, IsLong, one_byte, plain, when_some, when_true, byte_read, bytes_read, number_read, text_read, name_read, list_read}

-- a reader whose condition is replaced by an equivalent condition
pub refit : {A : Type 0} {Fits Suits : A → Type 0} {spell : A → List ℕ} {read : List ℕ → Option (A × List ℕ)} → IsReader Fits spell read
    → ((x : A) → Fits x → Suits x) → ((x : A) → Suits x → Fits x) → IsReader Suits spell read
refit is to from = record {
  takes = λ bytes x rest are e. (let t = is.takes bytes x rest are e in record { fits = to x t.fits; parts = t.parts; are_bytes = t.are_bytes });
  again = λ x rest fits. is.again x rest (from x fits);
}

-- ---- one byte for each kind

-- the byte of each element is its place, counted from `n`
abbrev pub AreNumbered : {A : Type 0} → (A → ℕ) → ℕ → List A → Type 0
AreNumbered byte n [] = Unit {0}
AreNumbered byte n (k ∷ all) = (byte k ≡ n) × AreNumbered byte (suc n) all

numbered : {A : Type 0} (byte : A → ℕ) (n : ℕ) (all : List A) → AreNumbered byte n all → (b : ℕ) (k : A) → slice_get all b ≡ Some k → byte k ≡ n + b
numbered byte n [] are b k e = absurd cc
numbered byte n (x ∷ all) are zero k e = let here : byte k ≡ byte x = ap byte (sym (some_is x k e)) in omega (arith, here, are.0)
numbered byte n (x ∷ all) are (suc b) k e = omega (arith, numbered byte (suc n) all are.1 b k e)

-- a byte that gives one of some kinds
module _ {A : Type 0} (all : List A) (byte : A → ℕ) (are : AreNumbered byte 0 all) (again : (k : A) → slice_get all (byte k) ≡ Some k) where
  stored_by : (b : ℕ) (k : A) → IsAny b → slice_get all b ≡ Some k → (byte k ≡ b) × IsAny k
  stored_by b k any e = (omega (arith, numbered byte 0 all are b k e), tt)

  pub tag_read : IsReader IsAny (λ k. one_byte (byte k)) (read_as (slice_get all) byte_at)
  tag_read = refit (stored_read IsAny one_byte byte_at byte_read (slice_get all) byte IsAny stored_by (λ k any. again k)) (λ k fits. tt) (λ k fits. (tt, tt))

note_kind_again : (k : NoteKind) → slice_get note_kinds (note_byte k) ≡ Some k
note_kind_again note.OriginalRecord = refl
note_kind_again note.AuthorityChange = refl
note_kind_again note.Deprecation = refl
note_kind_again note.DeprecationModification = refl

-- the byte of a kind, or 0 if there is no kind
abbrev pub first_byte : Option Kind → ℕ
first_byte None = 0
first_byte (Some k) = kind_byte k

kind_again : (k : Option Kind) → slice_get deprecation_kinds (first_byte k) ≡ Some k
kind_again None = refl
kind_again (Some NameCorrection) = refl
kind_again (Some NameRemoval) = refl
kind_again (Some AdditionalInformation) = refl

truth_again : (t : Truth) → slice_get truths (truth_byte t) ≡ Some t
truth_again True = refl
truth_again False = refl
truth_again Error = refl
truth_again Unknown = refl

-- ---- notes

and_second : (a b : Bool) → a && b ≡ true → b ≡ true
and_second true b e = e
and_second false b e = absurd cc

follows_long : (ps : List (ℕ → Bool)) (bs : List ℕ) → follows ps bs ≡ true → length bs ≡ length ps
follows_long [] [] e = refl
follows_long [] (b ∷ bs) e = absurd cc
follows_long (p ∷ ps) [] e = absurd cc
follows_long (p ∷ ps) (b ∷ bs) e = ap suc (follows_long ps bs (and_second (p b) (follows ps bs) e))

date_long : (s : List ℕ) → is_date s ≡ true → length s ≡ 10
date_long s e = follows_long (digit ∷ digit ∷ digit ∷ digit ∷ dash ∷ digit ∷ digit ∷ dash ∷ digit ∷ digit ∷ []) s e

abbrev pub is_dated : List ℕ → Type 0
is_dated s = is_date s ≡ true

pub date_read : IsReader is_dated plain date_at
unfolding date_at
date_read =
    refit (stored_read (IsLong 10) plain (bytes_at 10) (bytes_read 10) (read_when is_date) plain is_dated
    (λ x y fits e. let w = when_some is_date x y e in (sym w.0, w.1)) (λ y is. when_true is_date y is))
    (λ s fits. fits.1) (λ s is. (date_long s is, is))

abbrev note_seen : Note → NoteKind × (List ℕ × List ℕ)
note_seen n = (n.kind, (n.date, n.comment))

pub note_read : IsReader IsStoredNote note_row note_at
unfolding note_at
note_read =
    refit (made_read _ _ _ (both_read _ _ _ _ _ _ (tag_read note_kinds note_byte (refl, (refl, (refl, (refl, tt)))) note_kind_again) (both_read _ _ _ _ _ _ date_read text_read))
    note_from note_seen (λ x. refl) (λ y. refl))
    (λ n fits. (fits.1.0, fits.1.1)) (λ n fits. (tt, (fits.0, fits.1)))

-- ---- deprecations

abbrev kind_in : Option PlacedDeprecation → Option Kind
kind_in None = None
kind_in (Some d) = Some d.kind

abbrev successors_part : Option PlacedDeprecation → List ℕ
successors_part None = []
successors_part (Some d) = list number d.successors

in_parts : (d : Option PlacedDeprecation) (rest : List ℕ) → deprecation_part d ++ rest ≡ first_byte (kind_in d) ∷ (successors_part d ++ rest)
in_parts None rest = refl
in_parts (Some d) rest = refl

places_read : IsReader (IsCountedList IsNumber) (list number) (list_at number_at)
places_read = list_read IsNumber number number_at number_read

successors_taken : (k : Option Kind) (bytes : List ℕ) (d : Option PlacedDeprecation) (rest : List ℕ) → IsBytes bytes → successors_at k bytes ≡ Some (d, rest)
    → (kind_in d ≡ k) × IsTaken IsStoredDeprecation successors_part bytes d rest
successors_taken None bytes d rest are e =
    let made : Option PlacedDeprecation × List ℕ = (None, bytes) in
    subst (λ (q : Option PlacedDeprecation × List ℕ). (kind_in q.0 ≡ None) × IsTaken IsStoredDeprecation successors_part bytes q.0 q.1) (some_is made (d, rest) e)
    (refl, record { fits = tt; parts = refl; are_bytes = are })
successors_taken (Some k) bytes d rest are e =
    let a = bind_some (list_at number_at bytes) (λ s. Some (Some (record { kind = k; successors = s.0 }), s.1)) (d, rest) e in
    let t = places_read.takes bytes a.0.0 a.0.1 are a.1 in
    let made : Option PlacedDeprecation × List ℕ = (Some (record { kind = k; successors = a.0.0 }), a.0.1) in
    subst (λ (q : Option PlacedDeprecation × List ℕ). (kind_in q.0 ≡ Some k) × IsTaken IsStoredDeprecation successors_part bytes q.0 q.1) (some_is made (d, rest) a.2)
    (refl, record { fits = t.fits; parts = t.parts; are_bytes = t.are_bytes })

successors_again : (d : Option PlacedDeprecation) (rest : List ℕ) → IsStoredDeprecation d → successors_at (kind_in d) (successors_part d ++ rest) ≡ Some (d, rest)
successors_again None rest fits = refl
successors_again (Some d) rest fits = rw (places_read.again d.successors rest fits) refl

kind_read : IsReader IsAny (λ k. one_byte (first_byte k)) (read_as (slice_get deprecation_kinds) byte_at)
kind_read = tag_read deprecation_kinds first_byte (refl, (refl, (refl, (refl, tt)))) kind_again

deprecation_taken : (bytes : List ℕ) (d : Option PlacedDeprecation) (rest : List ℕ) → IsBytes bytes → deprecation_at bytes ≡ Some (d, rest) → IsTaken IsStoredDeprecation deprecation_part bytes d rest
unfolding deprecation_at
deprecation_taken bytes d rest are e =
    let a = bind_some (read_as (slice_get deprecation_kinds) byte_at bytes) (λ k. successors_at k.0 k.1) (d, rest) e in
    let k = kind_read.takes bytes a.0.0 a.0.1 are a.1 in
    let s = successors_taken a.0.0 a.0.1 d rest k.are_bytes a.2 in
    record {
      fits = s.1.fits;
      parts = k.parts ∙ ap (λ (t : List ℕ). first_byte a.0.0 ∷ t) s.1.parts ∙ ap (λ b. first_byte b ∷ (successors_part d ++ rest)) (sym s.0) ∙ sym (in_parts d rest);
      are_bytes = s.1.are_bytes;
    }

deprecation_again : (d : Option PlacedDeprecation) (rest : List ℕ) → IsStoredDeprecation d → deprecation_at (deprecation_part d ++ rest) ≡ Some (d, rest)
unfolding deprecation_at
deprecation_again d rest fits =
    ap deprecation_at (in_parts d rest) ∙ rw (kind_read.again (kind_in d) (successors_part d ++ rest) tt) (successors_again d rest fits)

pub deprecation_read : IsReader IsStoredDeprecation deprecation_part deprecation_at
deprecation_read = record { takes = deprecation_taken; again = deprecation_again }

-- ---- entries

abbrev provenance_seen : Provenance → List ℕ × (List ℕ × List Note)
provenance_seen p = (p.submitter, (p.authority, p.notes))

provenance_read : IsReader (λ p. IsStoredText p.submitter × (IsStoredText p.authority × IsCountedList IsStoredNote p.notes)) (λ p. text p.submitter ++ (text p.authority ++ list note_row p.notes)) provenance_at
unfolding provenance_at
provenance_read =
    made_read _ _ _ (both_read _ _ _ _ _ _ text_read (both_read _ _ _ _ _ _ text_read (list_read _ _ _ note_read)))
    provenance_from provenance_seen (λ x. refl) (λ y. refl)

abbrev details_seen : StoredDetails → List ℕ × (Provenance × Option PlacedDeprecation)
details_seen d = (d.title, (d.provenance, d.deprecation))

abbrev spell_details : StoredDetails → List ℕ
spell_details d = text d.title ++ ((text d.provenance.submitter ++ (text d.provenance.authority ++ list note_row d.provenance.notes)) ++ deprecation_part d.deprecation)

abbrev FitDetails : StoredDetails → Type 0
FitDetails d = IsStoredText d.title × ((IsStoredText d.provenance.submitter × (IsStoredText d.provenance.authority × IsCountedList IsStoredNote d.provenance.notes)) × IsStoredDeprecation d.deprecation)

details_read : IsReader FitDetails spell_details details_at
unfolding details_at
details_read =
    made_read _ _ _ (both_read _ _ _ _ _ _ text_read (both_read _ _ _ _ _ _ provenance_read deprecation_read))
    details_from details_seen (λ x. refl) (λ y. refl)

abbrev details_of : PlacedEntry → StoredDetails
details_of e = record { title = e.title; provenance = e.provenance; deprecation = e.deprecation }

abbrev entry_seen : PlacedEntry → Values × StoredDetails
entry_seen e = (e.name, details_of e)

details_spelled : (e : PlacedEntry) → name e.name ++ spell_details (details_of e) ≡ entry_row e
details_spelled e =
    ap (λ (t : List ℕ). name e.name ++ (text e.title ++ t))
    (append_assoc (text e.provenance.submitter) (text e.provenance.authority ++ list note_row e.provenance.notes) (deprecation_part e.deprecation)
    ∙ ap (λ (t : List ℕ). text e.provenance.submitter ++ t) (append_assoc (text e.provenance.authority) (list note_row e.provenance.notes) (deprecation_part e.deprecation)))

-- a reader of an equal written form
pub respell : {A : Type 0} {Fits : A → Type 0} {spell other : A → List ℕ} {read : List ℕ → Option (A × List ℕ)} → IsReader Fits spell read
    → ((x : A) → spell x ≡ other x) → IsReader Fits other read
respell {read = read} is same = record {
  takes = λ bytes x rest are e. (let t = is.takes bytes x rest are e in record { fits = t.fits; parts = t.parts ∙ ap (λ (s : List ℕ). s ++ rest) (same x); are_bytes = t.are_bytes });
  again = λ x rest fits. ap (λ (s : List ℕ). read (s ++ rest)) (sym (same x)) ∙ is.again x rest fits;
}

pub entry_read : IsReader IsStoredEntry entry_row entry_at
unfolding entry_at
entry_read =
    refit (respell (made_read _ _ _ (both_read _ _ _ _ _ _ name_read details_read) placed_entry_from entry_seen (λ x. refl) (λ y. refl)) details_spelled)
    (λ e fits. record { name = fits.0; title = fits.1.0; submitter = fits.1.1.0.0; authority = fits.1.1.0.1.0; notes = fits.1.1.0.1.1; deprecation = fits.1.1.1 })
    (λ e fits. (fits.name, (fits.title, ((fits.submitter, (fits.authority, fits.notes)), fits.deprecation))))

-- ---- results

abbrev key_seen : CheckKey → List ℕ × (List ℕ × List ℕ)
key_seen k = (k.system, (k.href, k.id))

pub key_read : IsReader IsStoredKey key_part key_at
unfolding key_at
key_read =
    refit (made_read _ _ _ (both_read _ _ _ _ _ _ text_read (both_read _ _ _ _ _ _ text_read text_read)) key_from key_seen (λ x. refl) (λ y. refl))
    (λ k fits. (fits.0, fits.1.0, fits.1.1)) (λ k fits. (fits.0, (fits.1, fits.2)))

abbrev result_seen : KeptResult → CheckKey × Truth
result_seen r = (r.key, r.result)

pub result_read : IsReader IsStoredResult result_row result_at
unfolding result_at
result_read =
    refit (made_read _ _ _ (both_read _ _ _ _ _ _ key_read (tag_read truths truth_byte (refl, (refl, (refl, (refl, tt)))) truth_again)) result_from result_seen (λ x. refl) (λ y. refl))
    (λ r fits. fits.0) (λ r fits. (fits, tt))
