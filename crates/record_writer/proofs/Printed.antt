-- Lemmas: the bytes of formatted strings and of dates are ASCII.
use Rattle.std.proofs.Common.{◌≡◌, ℕ, zero, suc, List, [], ◌∷◌, ◌++◌, Bool, true, false, if◌then◌else◌, nat_lt, map, replicate, codes, IsTrue, refl, arith}
use Rattle.std.specs.List.{list_all, flat_map, join_with_byte, AllByRecursion}
use Rattle.std.specs.Str.{IsAscii}
use Rattle.std.proofs.lemmas.Bool.{and_parts, and_from}
use Rattle.std.proofs.lemmas.Bool.Decides.{nat_tests}
use Rattle.cpe_rows.specs.cpe_values.declared.value.Edge.{Edge}
use Rattle.cpe_rows.specs.cpe_values.declared.value.Edge.TheVariants as edge
use Rattle.cpe_rows.specs.cpe_values.declared.value.Value.{Value}
use Rattle.cpe_rows.specs.cpe_values.declared.value.Value.TheVariants as value
use Rattle.cpe_rows.specs.cpe_values.declared.spelling.Style.TheVariants as style
use Rattle.cpe_rows.specs.cpe_values.Parts.{is_character}
use Rattle.cpe_rows.specs.cpe_values.Spelling.{edge_text, style_character, is_bare}
use Rattle.cpe_rows.specs.cpe_values.Values.{IsValue}
use Rattle.cpe_rows.specs.cpe_name.Eleven.{Values}
use Rattle.cpe_rows.specs.cpe_name.declared.attribute.Attribute.{Attribute}
use Rattle.cpe_rows.specs.cpe_name.Names.{attributes, value_of, Suits, IsName}
use Rattle.cpe_rows.proofs.cpe_name.Items.{good_of}
use Rattle.cpe_fs.specs.Grammar.{fs_component, fs_text}
use Rattle.cpe_rows.specs.Date.{is_date, follows, digit, dash}

low : ℕ → Bool
low b = nat_lt b 128

-- each byte is ASCII, as a test
abbrev Low : List ℕ → Type 0
Low bs = list_all (λ b. nat_lt b 128) bs ≡ true

low-append : (xs ys : List ℕ) → Low xs → Low ys → Low (xs ++ ys)
low-append [] ys h k = k
low-append (x ∷ xs) ys h k = let p = and_parts (nat_lt x 128) (list_all (λ b. nat_lt b 128) xs) h in and_from _ _ p.0 (low-append xs ys p.1 k)

low-cons : (x : ℕ) (xs : List ℕ) → nat_lt x 128 ≡ true → Low xs → Low (x ∷ xs)
low-cons x xs h k = and_from _ _ h k

low-replicate : (n : ℕ) → Low (replicate n 63)
low-replicate zero = refl
low-replicate (suc n) = low-replicate n

low-edge : (e : Edge) → Low (edge_text e)
low-edge edge.None = refl
low-edge edge.Star = refl
low-edge (edge.Marks n) = low-replicate n

low_character : (c : ℕ) → is_character c ≡ true → nat_lt c 128 ≡ true
low_character c h = grind (arith, nat_tests)

low-spelled : (c : ℕ) (bare : Bool) → nat_lt c 128 ≡ true → Low (if bare then c ∷ [] else 92 ∷ c ∷ [])
low-spelled c true h = low-cons c [] h refl
low-spelled c false h = low-cons c [] h refl

low-body : (body : List ℕ) → list_all is_character body ≡ true → Low (flat_map (style_character style.Formatted) body)
low-body [] h = refl
low-body (c ∷ body) h =
    let p = and_parts (is_character c) (list_all is_character body) h in
    low-append (style_character style.Formatted c) (flat_map (style_character style.Formatted) body) (low-spelled c (is_bare style.Formatted c) (low_character c p.0)) (low-body body p.1)

low-component : (v : Value) → IsValue v → Low (fs_component v)
low-component value.Any h = refl
low-component value.Na h = refl
low-component (value.Text t) h =
    low-append (edge_text t.lead ++ flat_map (style_character style.Formatted) t.body) (edge_text t.trail)
    (low-append (edge_text t.lead) (flat_map (style_character style.Formatted) t.body) (low-edge t.lead) (low-body t.body h.characters)) (low-edge t.trail)

ascii_from : (bs : List ℕ) → Low bs → IsAscii bs
ascii_from [] h i = omega arith
ascii_from (b ∷ bs) h zero = let p = and_parts (nat_lt b 128) (list_all (λ b. nat_lt b 128) bs) h in grind (arith, nat_tests)
ascii_from (b ∷ bs) h (suc i) = ascii_from bs (and_parts (nat_lt b 128) (list_all (λ b. nat_lt b 128) bs) h).1 i

pub IsAscii-component : (v : Value) → IsValue v → IsAscii (fs_component v)
IsAscii-component v h = ascii_from (fs_component v) (low-component v h)

low-joined : (name : Values) (which : List Attribute) → AllByRecursion (λ a. Suits a (value_of name a)) which → Low (join_with_byte 58 (map (λ a. fs_component (value_of name a)) which))
low-joined name [] h = refl
low-joined name (a ∷ []) h = low-component (value_of name a) (good_of a (value_of name a) h.0)
low-joined name (a ∷ b ∷ rest) h =
    low-append (fs_component (value_of name a)) (58 ∷ join_with_byte 58 (map (λ a. fs_component (value_of name a)) (b ∷ rest)))
    (low-component (value_of name a) (good_of a (value_of name a) h.0)) (low-joined name (b ∷ rest) h.1)

pub IsAscii-fs_text : (name : Values) → IsName name → IsAscii (fs_text name)
IsAscii-fs_text name h =
    ascii_from (fs_text name) (low-append (codes "cpe:2.3:") (join_with_byte 58 (map (λ a. fs_component (value_of name a)) attributes)) refl (low-joined name attributes h))

low_digit : (c : ℕ) → digit c ≡ true → nat_lt c 128 ≡ true
low_digit c h = grind (arith, nat_tests)

low_dash : (c : ℕ) → dash c ≡ true → nat_lt c 128 ≡ true
low_dash c h = grind (arith, nat_tests)

-- each of these tests passes only ASCII
abbrev AreLow : List (ℕ → Bool) → Type 0
AreLow ps = AllByRecursion (λ p. (c : ℕ) → p c ≡ true → nat_lt c 128 ≡ true) ps

low-follows : (ps : List (ℕ → Bool)) (bs : List ℕ) → AreLow ps → follows ps bs ≡ true → Low bs
low-follows [] [] h k = refl
low-follows [] (b ∷ bs) h k = let wrong : ⊥ = cc in absurd wrong
low-follows (p ∷ ps) [] h k = refl
low-follows (p ∷ ps) (b ∷ bs) h k = let q = and_parts (p b) (follows ps bs) k in low-cons b bs (h.0 b q.0) (low-follows ps bs h.1 q.1)

pub IsAscii-date : (bs : List ℕ) → IsTrue (is_date bs) → IsAscii bs
IsAscii-date bs h =
    ascii_from bs
    (low-follows (digit ∷ (digit ∷ (digit ∷ (digit ∷ (dash ∷ (digit ∷ (digit ∷ (dash ∷ (digit ∷ (digit ∷ [])))))))))) bs
    (low_digit, (low_digit, (low_digit, (low_digit, (low_dash, (low_digit, (low_digit, (low_dash, (low_digit, (low_digit, tt)))))))))) h)
