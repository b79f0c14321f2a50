-- Lemmas about a run that answers its input as a whole.
use Rattle.std.proofs.Common.{◌≡◌, ℕ, ◌+◌, ◌^◌, ◌≤◌, List, ◌++◌, length, take, Option, Ok, Err, ap, arith, length-append, length-take}
use Rattle.std.specs.declared.result.Result.{Result}
use Rattle.std.specs.Prelude.{IsErrOf, is_ok}
use Rattle.std.proofs.lemmas.Bool.{true≢false}
use Rattle.std.specs.Io.KnownBytes.{Consumes}
use Rattle.std.proofs.KnownBytes.{Consumes-trans}
use Rattle.cpe_io.specs.declared.line.LineFault.{LineFault}
use Rattle.cpe_io.specs.declared.line.LineFault.TheVariants as fault
use Rattle.line_session.specs.declared.whole.Input.{Input}
use Rattle.line_session.specs.Heard.{IsWholeOrLong, ReadsWhole}

-- The bytes `bytes` were taken so far, and `input` is what is kept of them.
pub record Hears (left left_now : Option (List ℕ)) (most taken : ℕ) (input : Input) : Type 0 where
  pub bytes : List ℕ
  pub took : Consumes left left_now bytes
  pub counted : taken ≡ length bytes
  pub few : taken ≤ 2 ^ 40
  pub kept : IsWholeOrLong most bytes input

module _ {left left_then : Option (List ℕ)} {most taken : ℕ} {input : Input} (hears : Hears left left_then most taken input) where
  -- lemma: `Hears` is true after one more piece was taken and kept
  pub Hears-piece : {left_now : Option (List ℕ)} (piece : List ℕ) (count : ℕ) (now : Input) → Consumes left_then left_now (take count piece) → count ≤ length piece → taken + count ≤ 2 ^ 40
      → ((bytes : List ℕ) → IsWholeOrLong most bytes input → IsWholeOrLong most (bytes ++ take count piece) now) → Hears left left_now most (taken + count) now
  Hears-piece {left_now = left_now} piece count now took within few keeps = record {
    bytes = hears.bytes ++ take count piece;
    took = Consumes-trans left left_then left_now hears.bytes (take count piece) hears.took took;
    counted = omega (arith, hears.counted, within, length-append hears.bytes (take count piece), length-take count piece);
    few = few;
    kept = keeps hears.bytes hears.kept;
  }

-- lemma: a result that is a count of taken bytes is no fault
pub taken_no_fault : (count : ℕ) (it : LineFault) → IsErrOf {T = ℕ} {E = LineFault} (Ok count) it → ⊥
taken_no_fault count it failed = true≢false (ap (λ (r : Result ℕ LineFault). is_ok r) failed)

-- lemma: if memory ran out, reading may have taken any bytes
pub Reads-memory : {left left_now : Option (List ℕ)} {most : ℕ} (taken : List ℕ) → Consumes left left_now taken → ReadsWhole left left_now most (Err fault.Memory)
Reads-memory taken took = record { taken = taken; took = took; arriving = tt }
