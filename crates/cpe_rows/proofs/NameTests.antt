-- Lemmas: `is_same` decides whether names are equal, and `is_lower` whether a name is in lower case.
use Rattle.std.proofs.Common.{◌≡◌, ◌↔◌, Bool, true, false, IsTrue, refl, sym, ap, ◌∙◌, Decides}
use Rattle.std.proofs.lemmas.Bool.{false_from_ne_true, true≢false}
use Rattle.cpe_name.specs.Eleven.{Values}
use Rattle.cpe_name.specs.Equal.{same_name, same_name-Decides}
use Rattle.cpe_name.specs.Lower.{lower_name, IsLower}
use Rattle.cpe_rows.specs.Names.{is_same, is_lower}

-- Two tests that decide the same statement have the same result.
same_test : (a b : Bool) {P : Type 0} → IsTrue a ↔ P → Decides b P → a ≡ b
same_test true b h d = sym (d.1 (h.0 refl))
same_test false true h d = h.1 (d.0 refl)
same_test false false h d = refl

pub lower_is : (a : Bool) (n : Values) → IsTrue a ↔ IsLower n → a ≡ is_lower n
unfolding is_lower
lower_is a n h = same_test a (same_name (lower_name n) n) h (same_name-Decides (lower_name n) n)

pub same_is : (a b : Values) → IsTrue (is_same a b) ↔ (a ≡ b)
unfolding is_same
same_is a b = same_name-Decides a b

pub is_lower_is : (n : Values) → IsTrue (is_lower n) ↔ IsLower n
unfolding is_lower
is_lower_is n = same_name-Decides (lower_name n) n

-- Two names in lower case are equal exactly if they differ at most in letter case.
pub same_in_lower : (a b : Values) → IsLower a → IsLower b → IsTrue (is_same a b) ↔ (lower_name a ≡ lower_name b)
same_in_lower a b la lb = let s = same_is a b in (λ h. ap lower_name (s.0 h), λ e. s.1 (sym la ∙ (e ∙ lb)))

pub not_same : (a b : Values) → is_same a b ≡ false → is_same b a ≡ false
not_same a b h = false_from_ne_true (is_same b a) (λ t. true≢false (sym ((same_is a b).1 (sym ((same_is b a).0 t))) ∙ h))
