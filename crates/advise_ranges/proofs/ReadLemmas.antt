-- The record that is read from a line is valid.
use Rattle.std.proofs.Common.{◌≡◌, ℕ, List, Bool, true, false, ◌&&◌, if◌then◌else◌, refl, subst}
use Rattle.std.specs.Prelude.{Option, Some, None, Result, Ok, Err, IfOk, option_map, option_and_then}
use Rattle.std.specs.Option.{option_map_or}
use Rattle.std.proofs.lemmas.Bool.{and_from, and_parts}
use Rattle.serde_json.specs.Data.{Data}
use Rattle.serde_json.specs.Find.{as_str, get}
use Rattle.cpe_rows.specs.cpe_name.Eleven.{Values}
use Rattle.cpe_records.specs.cpe_uri.EitherBinding.{read_any}
use Rattle.cpe_rows.specs.Names.{is_lower}
use Rattle.cpe_rows.specs.Valid.{is_id}
use Rattle.cpe_records.specs.FirstFault.{Yields}
use Rattle.cpe_records.specs.Forms.{or_default, tested, text_in}
use Rattle.cpe_records.specs.Line.{json_value_of}
use Rattle.cpe_records.proofs.LowerNames.{lowered_is_lower}
use Rattle.cpe_records.proofs.YieldLemmas.{then_yields, behind, tested_yields}
use Rattle.advise_ranges.specs.Gives.{ReadsAdvice}
use Rattle.advise_ranges.specs.Reading.{advice_by, advice_of, advisory_in, bound_of, bounds_in, flag_at, advisory_id_at, advice_json_of, advice_key_of, name_at, advice_named, required_advice, record_kind_at, version_at, version_in}
use Rattle.advise_ranges.specs.Valid.{is_bound, is_valid_advice, is_valid_advisory}
use Rattle.advise_ranges.specs.declared.member.AdviceMember.{AdviceMember}
use Rattle.advise_ranges.specs.declared.member.AdviceMember.TheVariants as member
use Rattle.advise_ranges.specs.declared.member.AdviceReadFault.{AdviceReadFault}
use Rattle.advise_ranges.specs.declared.member.AdviceReadFault.TheVariants as fault
use Rattle.advise_ranges.specs.declared.read.Advice.{Advice}
use Rattle.advise_ranges.specs.declared.read.Bounds.{Bounds}
use Rattle.advise_ranges.specs.declared.record_kind.AdviceKind.{AdviceKind}
use Rattle.advise_ranges.specs.declared.record_kind.AdviceKind.TheVariants as record_kind

-- ---- members

named_lower : (r : Result Values ℕ) → Yields is_lower (advice_named r)
named_lower (Ok w) = lowered_is_lower w
named_lower (Err k) = tt

name_lower : (d : Data) → Yields is_lower (name_at d)
unfolding name_at
name_lower d = behind is_lower (required_advice member.Name (text_in (advice_key_of member.Name) d)) (λ text. advice_named (read_any text)) (λ text. named_lower (read_any text))

id_valid : (d : Data) → Yields is_id (advisory_id_at d)
id_valid d = tested_yields is_id (fault.Member member.Id) (text_in (advice_key_of member.Id) d)

-- a version, if there is one, has the form of an id
abbrev is_version : Option (List ℕ) → Bool
is_version v = option_map_or is_id v true

tested_version : (m : AdviceMember) (s : List ℕ) (b : Bool) → is_id s ≡ b → Yields is_version (required_advice m (option_map (λ v. Some v) (if b then Some s else None)))
tested_version m s true e = e
tested_version m s false e = tt

version_form : (m : AdviceMember) (o : Option (List ℕ)) → Yields is_version (required_advice m (option_map (λ v. Some v) (option_and_then (tested is_id) o)))
version_form m None = tt
version_form m (Some s) = tested_version m s (is_id s) refl

version_default : (m : AdviceMember) (o : Option Data) → Yields is_version (required_advice m (or_default None version_in o))
version_default m None = refl
version_default m (Some d) = version_form m (as_str d)

version_valid : (m : AdviceMember) (d : Data) → Yields is_version (version_at m d)
version_valid m d = version_default m (get (advice_key_of m) d)

-- ---- kinds

bound_valid : (excluded : Bool) (v : Option (List ℕ)) → is_version v ≡ true → is_bound (bound_of excluded v) ≡ true
bound_valid excluded None h = refl
bound_valid excluded (Some s) h = h

abbrev are_bounds : Bounds → Bool
are_bounds b = is_bound b.start && is_bound b.end

bounds_valid : (d : Data) → Yields are_bounds (bounds_in d)
unfolding bounds_in
bounds_valid d =
    then_yields is_version are_bounds (version_at member.Start d) _ (version_valid member.Start d)
    (λ s hs. then_yields is_version are_bounds (version_at member.End d) _ (version_valid member.End d)
    (λ e he. behind are_bounds (flag_at member.StartExcluded d) _
    (λ x. behind are_bounds (flag_at member.EndExcluded d) _
    (λ y. and_from _ _ (bound_valid x s hs) (bound_valid y e he)))))

advisory_valid : (d : Data) → Yields is_valid_advisory (advisory_in d)
unfolding advisory_in
advisory_valid d =
    then_yields is_id is_valid_advisory (advisory_id_at d) _ (id_valid d)
    (λ i hi. then_yields is_lower is_valid_advisory (name_at d) _ (name_lower d)
    (λ n hn. then_yields are_bounds is_valid_advisory (bounds_in d) _ (bounds_valid d)
    (λ b hb. let both = and_parts (is_bound b.start) (is_bound b.end) hb in and_from _ _ (and_from _ _ (and_from _ _ hi hn) both.0) both.1)))

advice_valid : (v : AdviceKind) (d : Data) → Yields is_valid_advice (advice_by v d)
advice_valid record_kind.Item d = then_yields is_lower is_valid_advice (name_at d) _ (name_lower d) (λ n h. h)
advice_valid record_kind.DropItem d = then_yields is_lower is_valid_advice (name_at d) _ (name_lower d) (λ n h. h)
advice_valid record_kind.Advisory d = then_yields is_valid_advisory is_valid_advice (advisory_in d) _ (advisory_valid d) (λ a h. h)
advice_valid record_kind.DropAdvisory d = then_yields is_id is_valid_advice (advisory_id_at d) _ (id_valid d) (λ i h. h)
advice_valid record_kind.Affected d = then_yields is_id is_valid_advice (advisory_id_at d) _ (id_valid d) (λ i h. h)
advice_valid record_kind.Advisories d = then_yields is_lower is_valid_advice (name_at d) _ (name_lower d) (λ n h. h)

line_valid : (line : List ℕ) → Yields is_valid_advice (advice_of line)
unfolding advice_of
line_valid line = behind is_valid_advice (advice_json_of (json_value_of line)) _ (λ d. behind is_valid_advice (record_kind_at d) _ (λ v. advice_valid v d))

-- a record that a function reads from the line is valid
pub valid_by : (line : List ℕ) (r : Result Advice AdviceReadFault) → ReadsAdvice r (advice_of line) → IfOk r (λ a. is_valid_advice a ≡ true)
valid_by line (Ok x) h = subst (Yields is_valid_advice) h (line_valid line)
valid_by line (Err e) h = tt
