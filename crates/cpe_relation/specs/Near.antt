-- Near products: a source product is near a target product. Near is coarser than covering, and can be looked up by the
-- text alone. It doesn't count the characters that a lead or trail allows. Letters are compared in lower case.
use Rattle.std.specs.Prelude.{◌≡◌, ℕ, ◌-◌, Bool, true, false, ◌&&◌, not, nat_le, if◌then◌else◌, List, ◌++◌, length, drop}
use Rattle.cpe_values.specs.declared.value.Value.{Value}
use Rattle.cpe_values.specs.declared.value.Value.TheVariants as value
use Rattle.cpe_values.specs.Parts.{Parts, is_nothing, has_special}
use Rattle.cpe_relation.specs.Matching.{lower}
use Rattle.cpe_relation.specs.MatchTests.{begins_with, same_lower}

-- `Begins`: the body is a prefix of the text. `Ends`: the body is a suffix of the text.
abbrev pub HasBodyFirst : List ℕ → List ℕ → Type 0
HasBodyFirst text body = (rest : List ℕ) × (lower text ≡ lower body ++ rest)

abbrev pub HasBodyLast : List ℕ → List ℕ → Type 0
HasBodyLast text body = (front : List ℕ) × (lower text ≡ front ++ lower body)

abbrev pub text_ends_with : List ℕ → List ℕ → Bool
text_ends_with text body = nat_le (length body) (length text) && begins_with (drop (length text - length body) text) body

-- Near, for a source text and a plain target. With lead and trail the source is near each target. With one of them, the
-- body has to be at the other end of the target. Without both, the texts have to be equal.
abbrev pub near_plain : Parts → List ℕ → Bool
near_plain p text =
    if is_nothing p.lead then (if is_nothing p.trail then same_lower p.body text else begins_with text p.body)
    else if is_nothing p.trail then text_ends_with text p.body
    else true

abbrev pub near : Value → Value → Bool
near value.Any t = true
near value.Na value.Any = false
near value.Na value.Na = true
near value.Na (value.Text t) = false
near (value.Text p) value.Any = false
near (value.Text p) value.Na = false
near (value.Text p) (value.Text t) = not (has_special t) && near_plain p t.body

-- Near as statements. The two Booleans say whether the source's lead and its trail are empty.
abbrev pub NearPlain : Bool → Bool → Parts → List ℕ → Type 0
NearPlain false false p t = Unit {0}
NearPlain false true p t = HasBodyLast t p.body
NearPlain true false p t = HasBodyFirst t p.body
NearPlain true true p t = lower p.body ≡ lower t

abbrev pub Near : Value → Value → Type 0
Near value.Any t = Unit {0}
Near value.Na value.Any = ⊥
Near value.Na value.Na = Unit {0}
Near value.Na (value.Text t) = ⊥
Near (value.Text p) value.Any = ⊥
Near (value.Text p) value.Na = ⊥
Near (value.Text p) (value.Text t) = (has_special t ≡ false) × NearPlain (is_nothing p.lead) (is_nothing p.trail) p t.body
