-- Lemmas about the two orders of bytes.
use Rattle.std.proofs.Common.{ℕ, Bool, true, false, arith}
use Rattle.cpe_relation.specs.Folded.{IsBefore}

pub IsReached-trans : (most : Bool) (a b c : ℕ) → IsBefore most a b → IsBefore most b c → IsBefore most a c
IsReached-trans true a b c p q = omega arith
IsReached-trans false a b c p q = omega arith

pub IsReached-irrefl : (most : Bool) (a : ℕ) → IsBefore most a a → ⊥
IsReached-irrefl true a p = omega arith
IsReached-irrefl false a p = omega arith

pub IsReached-opposed : (a b : ℕ) → IsBefore true a b → IsBefore false a b → ⊥
IsReached-opposed a b p q = omega arith
