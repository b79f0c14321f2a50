-- Lemmas: the test of two texts or keys decides whether they are equal.
use Rattle.std.proofs.Common.{◌≡◌, ℕ, ◌&&◌, List, true, false, sym, ◌∙◌}
use Rattle.std.specs.Str.{bytes_eq}
use Rattle.std.proofs.lemmas.Bool.{and_from, and_parts, false_from_ne_true, true≢false}
use Rattle.std.proofs.lemmas.Slice.Eq.{bytes_eq-Decides}
use Rattle.cpe_rows.specs.Rows.{same_key}
use Rattle.cpe_rows.specs.declared.test.CheckKey.{CheckKey}

same_bytes : (a b : List ℕ) → bytes_eq a b ≡ true → bytes_eq b a ≡ true
same_bytes a b h = (bytes_eq-Decides b a).1 (sym ((bytes_eq-Decides a b).0 h))

pub other_bytes : (a b : List ℕ) → bytes_eq a b ≡ false → bytes_eq b a ≡ false
other_bytes a b h = false_from_ne_true (bytes_eq b a) (λ t. true≢false (sym (same_bytes b a t) ∙ h))

abbrev Parts : CheckKey → CheckKey → Type 0
Parts a b = (bytes_eq a.system b.system ≡ true) × (bytes_eq a.href b.href ≡ true) × (bytes_eq a.id b.id ≡ true)

parts_of : (a b : CheckKey) → same_key a b ≡ true → Parts a b
parts_of a b h =
    let one = and_parts (bytes_eq a.system b.system) (bytes_eq a.href b.href && bytes_eq a.id b.id) h in
    let two = and_parts (bytes_eq a.href b.href) (bytes_eq a.id b.id) one.1 in
    (one.0, two.0, two.1)

same_other_way : (a b : CheckKey) → same_key a b ≡ true → same_key b a ≡ true
same_other_way a b h = let parts = parts_of a b h in
    and_from (bytes_eq b.system a.system) (bytes_eq b.href a.href && bytes_eq b.id a.id) (same_bytes a.system b.system parts.0)
    (and_from (bytes_eq b.href a.href) (bytes_eq b.id a.id) (same_bytes a.href b.href parts.1) (same_bytes a.id b.id parts.2))

pub other_key : (a b : CheckKey) → same_key a b ≡ false → same_key b a ≡ false
other_key a b h = false_from_ne_true (same_key b a) (λ t. true≢false (sym (same_other_way b a t) ∙ h))

pub key_is : (a b : CheckKey) → same_key a b ≡ true → a ≡ b
key_is a b h = let parts = parts_of a b h in λ i. record {
  system = (bytes_eq-Decides a.system b.system).0 parts.0 i;
  href = (bytes_eq-Decides a.href b.href).0 parts.1 i;
  id = (bytes_eq-Decides a.id b.id).0 parts.2 i;
}
