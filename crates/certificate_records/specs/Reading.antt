-- The certificate that a line is. An object with the member `of` is for a logical test. Otherwise, an object with
-- `fact` or `item` is for a fact. Any other object has only a truth. A member of any value counts as a member, also
-- `null`. Other members are ignored.
use Rattle.std.specs.Prelude.{ℕ, List, [], ◌∷◌, codes, Bool, false, ◌||◌, Option, Some, None, Result, Ok, Err, ok_or, option_and_then, option_map, is_some, nat_le, if◌then◌else◌}
use Rattle.std.specs.Option.{option_map_or}
use Rattle.std.specs.Str.{bytes_eq}
use Rattle.std.specs.Ordering.{nat_cmp, match_ordering}
use Rattle.std.specs.Cmp.Lexicographic.{slice_cmp}
use Rattle.serde_json.specs.Data.{Data, null, boolean, number, string, array, object, Items, no_items, item, Members, no_members, member}
use Rattle.serde_json.specs.Find.{get, as_str, as_array}
use Rattle.cpe_rows.specs.cpe_name.Eleven.{Values}
use Rattle.cpe_uri.specs.EitherBinding.{read_any}
use Rattle.cpe_rows.specs.Valid.{is_id}
use Rattle.cpe_rows.specs.declared.limits.TheConstants.{MOST_LEVELS}
use Rattle.cpe_rows.specs.declared.truth.Truth.{Truth}
use Rattle.cpe_records.specs.FirstFault.{◌>>=◌, all_from}
use Rattle.cpe_records.specs.Forms.{list_of_items, tested, text_in}
use Rattle.cpe_records.specs.Line.{json_value_of}
use Rattle.cpe_records.specs.Names.{lowered}
use Rattle.cpe_records.specs.Words.{truth_of_word}
use Rattle.certificate_check.specs.declared.certificate.Certificate.{Certificate}
use Rattle.certificate_check.specs.declared.certificate.Why.{Why}
use Rattle.certificate_check.specs.declared.certificate.Why as why
use Rattle.certificate_records.specs.Levels.{levels}
use Rattle.certificate_records.specs.declared.fault.CertificateFault.{CertificateFault}
use Rattle.certificate_records.specs.declared.fault.CertificateFault.TheVariants as fault

-- ---- parts of a certificate

-- the value, or the fault of `why` if there is none
abbrev pub formed : {A : Type 0} → Option A → Result A CertificateFault
formed form = ok_or form fault.Why

abbrev pub certificate_truth : Data → Result Truth CertificateFault
certificate_truth d = formed (option_and_then truth_of_word (text_in (codes "truth") d))

-- a name in lower case
abbrev pub certificate_named : Result Values ℕ → Result Values CertificateFault
certificate_named (Ok w) = Ok (lowered w)
certificate_named (Err place) = Err fault.Why

-- the name that a text is, in one of the bindings
abbrev pub certificate_name : Data → Result Values CertificateFault
certificate_name d = formed (as_str d) >>= λ text. certificate_named (read_any text)

-- the items of the array at a key
abbrev pub certificate_items_at : List ℕ → Data → Result (List Data) CertificateFault
certificate_items_at key d = formed (option_map list_of_items (option_and_then as_array (get key d)))

-- the list, if it has at least one element
abbrev pub some_whys : {A : Type 0} → List A → Result (List A) CertificateFault
some_whys [] = Err fault.Why
some_whys (x ∷ xs) = Ok (x ∷ xs)

-- the names in the array at a key, at least one
unfoldable pub names_at : List ℕ → Data → Result (List Values) CertificateFault
names_at key d = do
  ds ← certificate_items_at key d
  all ← some_whys ds
  all_from (λ k. certificate_name) 1 all

-- ---- the three cases of an object

-- the certificate of a logical test, from what is given for its children
unfoldable pub logic_in : Data → Result (List (Option Why)) CertificateFault → Result Why CertificateFault
logic_in d given = do
  of ← given
  truth ← certificate_truth d
  Ok (why.Logic truth of)

unfoldable pub pair_in : Data → Result Why CertificateFault
pair_in d = do
  facts ← names_at (codes "fact") d
  items ← names_at (codes "item") d
  truth ← certificate_truth d
  Ok (why.Pair truth facts items)

abbrev pub plain_in : Data → Result Why CertificateFault
plain_in d = certificate_truth d >>= λ truth. Ok (why.Plain truth)

abbrev pub has_member_of : List ℕ → Data → Bool
has_member_of key d = is_some (get key d)

abbrev pub certificate_leaf : Data → Result Why CertificateFault
certificate_leaf d = if has_member_of (codes "fact") d || has_member_of (codes "item") d then pair_in d else plain_in d

abbrev pub why_read : Data → Result (List (Option Why)) CertificateFault → Result Why CertificateFault
why_read d given = if has_member_of (codes "of") d then logic_in d given else certificate_leaf d

abbrev pub some_why : Result Why CertificateFault → Result (Option Why) CertificateFault
some_why read = read >>= λ w. Ok (Some w)

abbrev mutual
  -- what is given for a child: nothing if the value is `null`, otherwise an object of one of the three cases, at any
  -- depth
  pub given_of : Data → Result (Option Why) CertificateFault
  given_of null = Ok None
  given_of (boolean b) = Err fault.Why
  given_of (number n) = Err fault.Why
  given_of (string s) = Err fault.Why
  given_of (array ds) = Err fault.Why
  given_of (object ms) = some_why (why_read (object ms) (children_in ms))

  -- what is given for each child, in the array at the key `of`
  pub children_in : Members → Result (List (Option Why)) CertificateFault
  children_in no_members = Err fault.Why
  children_in (member k d ms) = match_ordering (slice_cmp nat_cmp (codes "of") k) (children_in ms) (children_at d) (children_in ms)

  pub children_at : Data → Result (List (Option Why)) CertificateFault
  children_at null = Err fault.Why
  children_at (boolean b) = Err fault.Why
  children_at (number n) = Err fault.Why
  children_at (string s) = Err fault.Why
  children_at (array ds) = children_of ds
  children_at (object ms) = Err fault.Why

  pub children_of : Items → Result (List (Option Why)) CertificateFault
  children_of no_items = Ok []
  children_of (item d ds) = given_of d >>= λ w. children_of ds >>= λ ws. Ok (w ∷ ws)

-- ---- the whole certificate

-- the certificate of a test, if it is not too deep
abbrev pub within_why_limit : Why → Result Why CertificateFault
within_why_limit w = if nat_le (levels w) MOST_LEVELS then Ok w else Err fault.Why

-- the certificate of a test, at the member `why`
unfoldable pub why_at : Data → Result Why CertificateFault
why_at d = do
  value ← formed (get (codes "why") d)
  given ← given_of value
  w ← formed given
  within_why_limit w

-- the id of a statement, at the member `id`
abbrev pub certificate_id_at : Data → Result (List ℕ) CertificateFault
certificate_id_at d = ok_or (option_and_then (tested is_id) (text_in (codes "id") d)) fault.Id

unfoldable pub certificate_in : Data → Result Certificate CertificateFault
certificate_in d = do
  id ← certificate_id_at d
  w ← why_at d
  Ok (record { id = id; why = w })

-- whether the member `do` is the text `proof`, so that the line has to be a certificate
abbrev pub is_certificate : Data → Bool
is_certificate d = option_map_or (λ word. bytes_eq word (codes "proof")) (text_in (codes "do") d) false

abbrev pub certificate_by : Option Data → Result (Option Certificate) CertificateFault
certificate_by None = Ok None
certificate_by (Some d) = if is_certificate d then (certificate_in d >>= λ p. Ok (Some p)) else Ok None

-- The certificate of a line. There is none if the line is no JSON value, is no object, or has no member `do` that is
-- the text `proof`.
unfoldable pub certificate_read_of : List ℕ → Result (Option Certificate) CertificateFault
certificate_read_of line = certificate_by (json_value_of line)
