-- Lemmas: the table `BARE` agrees with `is_bare` for each of the 256 bytes. A bare byte is spelled without a backslash.
use Rattle.std.proofs.Common.{◌≡◌, ℕ, ◌<◌, get_or, not, nat_eq, refl}
use Rattle.std.proofs.lemmas.Bool.{agree_below_at}
use Rattle.cpe_values.specs.declared.spelling.TheConstants.{BARE}
use Rattle.cpe_values.specs.declared.spelling.Style.TheVariants as style
use Rattle.cpe_values.specs.Spelling.{is_bare}

pub bare_in_both : (n : ℕ) → n < 256 → nat_eq (get_or BARE n 0) 1 ≡ is_bare style.Wfn n
bare_in_both n h = agree_below_at (λ c. nat_eq (get_or BARE c 0) 1) (is_bare style.Wfn) 256 n refl h

pub bare_in_one : (n : ℕ) → n < 256 → not (nat_eq (get_or BARE n 0) 0) ≡ is_bare style.Formatted n
bare_in_one n h = agree_below_at (λ c. not (nat_eq (get_or BARE c 0) 0)) (is_bare style.Formatted) 256 n refl h
