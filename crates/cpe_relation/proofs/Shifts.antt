-- The properties of a shift, for both kinds of shift.
use Rattle.std.proofs.Common.{◌≡◌, ℕ, ◌<◌, ◌≤◌, Bool, true, false}
use Rattle.memchr.specs.Critical.{IsPeriod, NoPeriodBelow}
use Rattle.memchr.specs.TwoWay.{IsShift}
use Rattle.memchr.proofs.lemmas.SearchLemmas.{IsShift-large, IsShift-small}
use Rattle.cpe_relation.specs.Folded.{shift_of}

pub record Promises (x : ℕ → ℕ) (m c s : ℕ) (repeats : Bool) : Type 0 where
  pub some : 0 < s
  pub fits : s ≤ m
  pub short : NoPeriodBelow x m s
  pub periodic : repeats ≡ true → IsPeriod x m s
  pub above : repeats ≡ true → c < s

pub promises : (x : ℕ → ℕ) (m c : ℕ) (repeats : Bool) (s : ℕ) → IsShift x m c (shift_of repeats s) → Promises x m c s repeats
promises x m c true s h = let p = IsShift-small c h in record { some = p.0; fits = p.2; short = p.4; periodic = λ e. p.3; above = λ e. p.1 }
promises x m c false s h = let p = IsShift-large c h in record { some = p.0; fits = p.1; short = p.2; periodic = λ e. absurd cc; above = λ e. absurd cc }
