-- Lemmas: a loop that reads parts one after the other.
use Rattle.std.proofs.Common.{◌≡◌, ℕ, suc, ◌-◌, ◌+◌, ◌≤◌, ◌<◌, List, [], ◌∷◌, ◌++◌, Option, Some, None, Err, refl, sym, ap, ◌∙◌, append_assoc, arith}
use Rattle.std.proofs.lemmas.List.{append-nil}
use Rattle.snapshot_bytes.specs.declared.fault.LoadFault.{LoadFault}
use Rattle.snapshot_bytes.specs.declared.fault.LoadFault.TheVariants as fault
use Rattle.snapshot_bytes.specs.Reading.{◌>>=◌, Took, many}

-- the parts read before, followed by the parts still to be read
abbrev pub with_prefix : {A : Type 0} → List A → Option (List A × List ℕ) → Option (List A × List ℕ)
with_prefix prefix read = read >>= λ x. Some (prefix ++ x.0, x.1)

regroup : {A : Type 0} (prefix : List A) (n : A) (read : Option (List A × List ℕ)) → with_prefix prefix (read >>= λ x. Some (n ∷ x.0, x.1)) ≡ with_prefix (prefix ++ n ∷ []) read
regroup prefix n (Some x) = ap (λ (ns : List _). Some (ns, x.1)) (simp append_assoc)
regroup prefix n None = refl

module _ {A : Type 0} (read : List ℕ → Option (A × List ℕ)) where
  pub is_continued : (prefix : List A) (count i : ℕ) (bytes : List ℕ) (n : A) (after : List ℕ) (total : Option (List A × List ℕ)) → i < count → read bytes ≡ Some (n, after)
      → with_prefix prefix (many read (count - i) bytes) ≡ total → with_prefix (prefix ++ n ∷ []) (many read (count - (i + 1)) after) ≡ total
  is_continued prefix count i bytes n after total lt h so_far =
      let k : count - i ≡ suc (count - (i + 1)) = omega arith in
      let one : with_prefix prefix (many read (count - i) bytes) ≡ with_prefix (prefix ++ n ∷ []) (many read (count - (i + 1)) after) = rw (k, h) (regroup prefix n (many read (count - (i + 1)) after)) in
      sym one ∙ so_far

  pub ends : (e : LoadFault) (prefix : List A) (count i : ℕ) (bytes left other : List ℕ) (total : Option (List A × List ℕ)) → i < count → Took (Err e) left (read bytes)
      → with_prefix prefix (many read (count - i) bytes) ≡ total → Took (Err e) other total
  ends fault.Memory prefix count i bytes left other total lt h so_far = tt
  ends fault.NotSnapshot prefix count i bytes left other total lt h so_far =
      let k : count - i ≡ suc (count - (i + 1)) = omega arith in
      let one : with_prefix prefix (many read (count - i) bytes) ≡ None = rw (k, h) refl in
      sym so_far ∙ one

  pub is_done : (prefix : List A) (count i : ℕ) (bytes : List ℕ) (total : Option (List A × List ℕ)) → count ≤ i → with_prefix prefix (many read (count - i) bytes) ≡ total → total ≡ Some (prefix, bytes)
  is_done prefix count i bytes total le so_far =
      let k : count - i ≡ 0 = omega arith in
      let one : with_prefix prefix (many read (count - i) bytes) ≡ Some (prefix, bytes) = rw k (ap (λ (ns : List A). Some (ns, bytes)) (append-nil prefix)) in
      sym so_far ∙ one
