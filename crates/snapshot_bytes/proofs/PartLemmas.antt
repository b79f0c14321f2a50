-- Lemmas: the results of reading a text or a name from bytes.
use Rattle.std.proofs.Common.{◌≡◌, subst, refl, ap, ℕ, Bool, true, false, List, Some, None, Result, Ok, Err}
use Rattle.std.specs.Prelude.{if◌then◌else◌}
use Rattle.std.specs.Str.{is_utf8, IsUtf8}
use Rattle.std.proofs.lemmas.Str.{IsUtf8-from_is_utf8, is_utf8-from_IsUtf8}
use Rattle.cpe_rows.specs.cpe_name.Eleven.{Values}
use Rattle.cpe_fs.specs.Grammar.{Fs, IsFs, RefusesFs}
use Rattle.cpe_fs.specs.declared.FsFault.{FsFault}
use Rattle.cpe_fs.specs.declared.FsFault.TheVariants as fs_fault
use Rattle.cpe_fs.specs.Unbound.{read_fs}
use Rattle.snapshot_bytes.specs.Reading.{read_when, named_by}

pub utf8_some : (s : List ℕ) → IsUtf8 s → read_when is_utf8 s ≡ Some s
utf8_some s h = ap (λ b. if b then Some s else None) (is_utf8-from_IsUtf8 s h)

pub utf8_none : (s : List ℕ) → (IsUtf8 s → ⊥) → read_when is_utf8 s ≡ None
utf8_none s h = go (is_utf8 s) (λ e. h (IsUtf8-from_is_utf8 s e)) where
  go : (b : Bool) → (b ≡ true → ⊥) → (if b then Some s else None) ≡ None
  go true isnt = absurd (isnt refl)
  go false isnt = refl

-- a text that is no formatted string gives no name
pub unnamed : (s : List ℕ) → ((n : Values) → read_fs s ≡ Ok n → Fs n s) → (IsFs s → ⊥) → named_by (read_fs s) ≡ None
unnamed s found isnt = go (read_fs s) found where
  go : (r : Result Values ℕ) → ((n : Values) → r ≡ Ok n → Fs n s) → named_by r ≡ None
  go (Ok n) is = absurd (isnt (n, is n refl))
  go (Err place) is = refl

pub refused_at : (f : FsFault) (place : ℕ) (s : List ℕ) → f ≡ fs_fault.At place → RefusesFs f s → IsFs s → ⊥
refused_at f place s is refused = (subst (λ (g : FsFault). RefusesFs g s) is refused).refused
