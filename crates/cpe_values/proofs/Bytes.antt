-- Lemmas: which bytes are bare, that is, spelled without a backslash in either style.
use Rattle.std.proofs.Common.{◌≡◌, ℕ, Bool, true, false, eqb, refl, arith}
use Rattle.std.proofs.lemmas.Bool.Decides.{nat_tests}
use Rattle.cpe_values.specs.declared.spelling.Style.{Style}
use Rattle.cpe_values.specs.declared.spelling.Style.TheVariants as style
use Rattle.cpe_values.specs.Parts.{is_character}
use Rattle.cpe_values.specs.Spelling.{is_bare}

in_both : (here : Style) (byte : ℕ) (bare : Bool) → is_bare style.Wfn byte ≡ bare → is_bare style.Formatted byte ≡ bare → is_bare here byte ≡ bare
in_both style.Wfn byte bare wfn formatted = wfn
in_both style.Formatted byte bare wfn formatted = formatted

-- the letter `a` is bare
pub letter_bare : (here : Style) → is_bare here 97 ≡ true
letter_bare here = in_both here 97 true refl refl

-- an exclamation mark is not bare
pub bang_not_bare : (here : Style) → is_bare here 33 ≡ false
bang_not_bare here = in_both here 33 false refl refl

-- an asterisk is not bare
pub star_not_bare : (here : Style) → is_bare here 42 ≡ false
star_not_bare here = in_both here 42 false refl refl

-- a question mark is not bare
pub mark_not_bare : (here : Style) → is_bare here 63 ≡ false
mark_not_bare here = in_both here 63 false refl refl

-- a backslash is not bare
pub slash_not_bare : (here : Style) → is_bare here 92 ≡ false
slash_not_bare here = in_both here 92 false refl refl

-- a bare byte is printable
pub bare_character : (here : Style) (c : ℕ) → is_bare here c ≡ true → is_character c ≡ true
bare_character style.Wfn c h = grind (arith, nat_tests)
bare_character style.Formatted c h = grind (arith, nat_tests)

-- a bare byte is not a backslash
pub bare_no_slash : (here : Style) (c : ℕ) → is_bare here c ≡ true → eqb c 92 ≡ false
bare_no_slash style.Wfn c h = grind (arith, nat_tests)
bare_no_slash style.Formatted c h = grind (arith, nat_tests)

-- a bare byte is not an asterisk
pub bare_no_star : (here : Style) (c : ℕ) → is_bare here c ≡ true → eqb c 42 ≡ false
bare_no_star style.Wfn c h = grind (arith, nat_tests)
bare_no_star style.Formatted c h = grind (arith, nat_tests)

-- a bare byte is not a question mark
pub bare_no_mark : (here : Style) (c : ℕ) → is_bare here c ≡ true → eqb c 63 ≡ false
bare_no_mark style.Wfn c h = grind (arith, nat_tests)
bare_no_mark style.Formatted c h = grind (arith, nat_tests)
