-- Lemmas: the entries of the tables in `src/` are right; each entry is checked.
use Rattle.std.proofs.Common.{◌≡◌, ℕ, ◌/◌, ◌%◌, ◌<◌, get_or, true, nat_eq, eqb, refl}
use Rattle.std.specs.Char.{to_ascii_lowercase}
use Rattle.std.proofs.lemmas.Bool.{agree_below_at, eqb-true}
use Rattle.cpe_uri.specs.declared.spelling.TheConstants.{LENGTHS, DIGITS}
use Rattle.cpe_uri.specs.declared.write.TheConstants.{LOWERED}
use Rattle.cpe_uri.specs.declared.lend.TheConstants.{ITSELF}
use Rattle.cpe_uri.specs.Spelling.{hex_digit}
use Rattle.cpe_uri.specs.Lending.{spells_itself}
use Rattle.cpe_uri.specs.Rewriting.{backslashes}
use Rattle.cpe_uri.specs.Requoting.{unquoted_length}

-- ---- bytes

pub length_at : (n : ℕ) → n < 256 → get_or LENGTHS n 0 ≡ unquoted_length n
length_at n h = eqb-true _ _ (agree_below_at (λ c. eqb (get_or LENGTHS c 0) (unquoted_length c)) (λ _. true) 256 n refl h)

pub backslashes_at : (n : ℕ) → n < 256 → get_or LOWERED n 0 / 256 ≡ backslashes n
backslashes_at n h = eqb-true _ _ (agree_below_at (λ c. eqb (get_or LOWERED c 0 / 256) (backslashes c)) (λ _. true) 256 n refl h)

pub lower_at : (n : ℕ) → n < 256 → get_or LOWERED n 0 % 256 ≡ to_ascii_lowercase n
lower_at n h = eqb-true _ _ (agree_below_at (λ c. eqb (get_or LOWERED c 0 % 256) (to_ascii_lowercase c)) (λ _. true) 256 n refl h)

pub itself_is : (n : ℕ) → n < 256 → nat_eq (get_or ITSELF n 0) 1 ≡ spells_itself n
itself_is n h = agree_below_at (λ c. nat_eq (get_or ITSELF c 0) 1) spells_itself 256 n refl h

-- ---- digits

pub digit_is : (n : ℕ) → n < 16 → get_or DIGITS.now n 0 ≡ hex_digit n
digit_is n h = eqb-true _ _ (agree_below_at (λ c. eqb (get_or DIGITS.now c 0) (hex_digit c)) (λ _. true) 16 n refl h)
