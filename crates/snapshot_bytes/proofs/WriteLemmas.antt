-- Lemmas: bytes that are written part after part.
use Rattle.std.proofs.Common.{◌≡◌, sym, ◌∙◌, ap, ℕ, ◌/◌, ◌%◌, Bool, List, [], ◌∷◌, ◌++◌, length, arith, append_assoc}
use Rattle.std.specs.List.{flat_map}
use Rattle.cpe_rows.specs.cpe_name.Eleven.{Values}
use Rattle.cpe_rows.specs.declared.test.CheckKey.{CheckKey}
use Rattle.cpe_rows.specs.declared.test.Operator.{Operator}
use Rattle.cpe_rows.specs.declared.test.Test.{Test, Logic, Fact, Check}
use Rattle.snapshot_bytes.specs.Parts.{number, name}
use Rattle.snapshot_bytes.specs.Snapshot.{operator_byte, flag_byte, key_part, test_part}
use Rattle.snapshot_bytes.proofs.TestReaders.{part_logic, part_fact, part_check}

-- ---- numbers

byte_3 : (n : ℕ) → n % 4294967296 / 16777216 % 256 ≡ n / 16777216 % 256
byte_3 n = omega arith

byte_2 : (n : ℕ) → n % 4294967296 / 65536 % 256 ≡ n / 65536 % 256
byte_2 n = omega arith

byte_1 : (n : ℕ) → n % 4294967296 / 256 % 256 ≡ n / 256 % 256
byte_1 n = omega arith

byte_0 : (n : ℕ) → n % 4294967296 % 256 ≡ n % 256
byte_0 n = omega arith

-- the four bytes of a number are those of the number modulo 2^32
pub number_of_rest : (n : ℕ) → number (n % 4294967296) ≡ number n
number_of_rest n = λ i. byte_3 n i ∷ byte_2 n i ∷ byte_1 n i ∷ byte_0 n i ∷ []

-- ---- parts, one after the other

pub five_parts : (start n t s a ns d one two three : List ℕ) → one ≡ start ++ n → two ≡ one ++ t → three ≡ two ++ (s ++ (a ++ ns))
    → three ++ d ≡ start ++ (n ++ (t ++ (s ++ (a ++ (ns ++ d)))))
five_parts start n t s a ns d one two three e f g = rw (g, f, e) (simp append_assoc)

pub four_numbers : (start m e i s r one two three four : List ℕ) → one ≡ start ++ m → two ≡ one ++ e → three ≡ two ++ i → four ≡ three ++ s
    → four ++ r ≡ start ++ (m ++ (e ++ (i ++ (s ++ r))))
four_numbers start m e i s r one two three four a b c d = rw (d, c, b, a) (simp append_assoc)

-- ---- tests

pub logic_put : (operator : Operator) (negate : Bool) (of : List Test) (start one : List ℕ) → one ≡ start ++ 0 ∷ operator_byte operator ∷ flag_byte negate ∷ number (length of)
    → one ++ flat_map test_part of ≡ start ++ test_part (Logic operator negate of)
logic_put operator negate of start one e =
    ap (λ (t : List ℕ). t ++ flat_map test_part of) e ∙ append_assoc start (0 ∷ operator_byte operator ∷ flag_byte negate ∷ number (length of)) (flat_map test_part of)
    ∙ ap (λ (t : List ℕ). start ++ t) (sym (part_logic (operator, (negate, of))))

pub fact_put : (n : Values) (start one : List ℕ) → one ≡ start ++ 1 ∷ [] → one ++ name n ≡ start ++ test_part (Fact n)
fact_put n start one e = ap (λ (t : List ℕ). t ++ name n) e ∙ append_assoc start (1 ∷ []) (name n) ∙ ap (λ (t : List ℕ). start ++ t) (sym (part_fact n))

pub check_put : (k : CheckKey) (start one : List ℕ) → one ≡ start ++ 2 ∷ [] → one ++ key_part k ≡ start ++ test_part (Check k)
check_put k start one e = ap (λ (t : List ℕ). t ++ key_part k) e ∙ append_assoc start (2 ∷ []) (key_part k) ∙ ap (λ (t : List ℕ). start ++ t) (sym (part_check k))
