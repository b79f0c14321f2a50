-- Certificates that have the form of a line.
use Rattle.std.specs.Prelude.{◌&&◌, ◌++◌, List, [], ◌∷◌, Bool, true, false, nat_le, unwrap_or, All}
use Rattle.std.specs.List.{list_all, flat_map}
use Rattle.cpe_rows.specs.cpe_name.Eleven.{Values}
use Rattle.cpe_rows.specs.cpe_name.Names.{IsName}
use Rattle.cpe_rows.specs.Names.{is_lower}
use Rattle.cpe_rows.specs.Valid.{is_id}
use Rattle.cpe_rows.specs.declared.limits.TheConstants.{MOST_LEVELS}
use Rattle.certificate_check.specs.declared.certificate.Certificate.{Certificate}
use Rattle.certificate_check.specs.declared.certificate.Why.{Why}
use Rattle.certificate_check.specs.declared.certificate.Why.TheOpen.{Why-F}
use Rattle.certificate_check.specs.declared.certificate.Why.TheFolds.{fold-Why}
use Rattle.certificate_records.specs.Levels.{levels}

-- ---- names

abbrev pub names_step : Why-F (List Values) → List Values
names_step (Why-F.Logic truth of) = flat_map (λ why_names. unwrap_or why_names []) of
names_step (Why-F.Pair truth fact item) = fact ++ item
names_step (Why-F.Plain truth) = []

-- the names of a certificate: those of its facts and items
abbrev pub why_names : Why → List Values
why_names = fold-Why (List Values) names_step

-- the names of a certificate are well-formed (NIST IR 7695, 5), as in every certificate
abbrev pub HasNames : Why → Type 0
HasNames w = All IsName (why_names w)

-- ---- forms

-- whether a list has at least one name, and each is in lower case
abbrev pub are_named : List Values → Bool
are_named [] = false
are_named (n ∷ ns) = list_all is_lower (n ∷ ns)

abbrev pub sound_why_step : Why-F Bool → Bool
sound_why_step (Why-F.Logic truth of) = list_all (λ sound. unwrap_or sound true) of
sound_why_step (Why-F.Pair truth fact item) = are_named fact && are_named item
sound_why_step (Why-F.Plain truth) = true

abbrev pub is_sound_why : Why → Bool
is_sound_why = fold-Why Bool sound_why_step

-- whether the id is that of a statement, there are at most 32 levels, and all names are in lower case
abbrev pub is_formed : Certificate → Bool
is_formed p = is_id p.id && (nat_le (levels p.why) MOST_LEVELS && is_sound_why p.why)
