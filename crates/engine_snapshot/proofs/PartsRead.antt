-- Parts that are read one after another, and the letter case of names that are read.
use Rattle.std.proofs.Common.{◌≡◌, ℕ, List, Option, Some, true, ap, subst, ◌∙◌}
use Rattle.cpe_rows.specs.cpe_name.Eleven.{Values}
use Rattle.cpe_rows.specs.cpe_fs.Unbound.{read_fs}
use Rattle.cpe_rows.specs.Names.{is_lower}
use Rattle.snapshot_bytes.specs.Reading.{◌>>=◌, read_both, counted_at, details_at, entry_at, placed_entry_from, name_at, name_of, named_by, read_when}
use Rattle.snapshot_bytes.specs.declared.rows.PlacedEntry.{PlacedEntry}
use Rattle.snapshot_bytes.proofs.PartReaders.{when_some}
use Rattle.snapshot_bytes.proofs.Readers.{bind_some, some_is}

-- ---- parts one after another

pub record InBoth {A B : Type 0} (first : List ℕ → Option (A × List ℕ)) (second : List ℕ → Option (B × List ℕ)) (bytes : List ℕ) (z : (A × B) × List ℕ) : Type 0 where
  pub left : List ℕ
  pub first_is : first bytes ≡ Some (z.0.0, left)
  pub second_is : second left ≡ Some (z.0.1, z.1)

pub in_both : {A B : Type 0} (first : List ℕ → Option (A × List ℕ)) (second : List ℕ → Option (B × List ℕ)) (bytes : List ℕ) (z : (A × B) × List ℕ) → read_both first second bytes ≡ Some z
    → InBoth first second bytes z
in_both {A} {B} first second bytes z e =
    let a = bind_some (first bytes) (λ x. second x.1 >>= λ y. Some ((x.0, y.0), y.1)) z e in
    let b = bind_some (second a.0.1) (λ y. Some ((a.0.0, y.0), y.1)) z a.2 in
    let made_of : (A × B) × List ℕ = ((a.0.0, b.0.0), b.0.1) in
    let is : made_of ≡ z = some_is made_of z b.2 in
    record {
      left = a.0.1;
      first_is = a.1 ∙ ap (λ (w : (A × B) × List ℕ). Some (w.0.0, a.0.1)) is;
      second_is = b.1 ∙ ap (λ (w : (A × B) × List ℕ). Some (w.0.1, w.1)) is;
    }

-- ---- names are in lower case

pub name_lower : (bytes : List ℕ) (n : Values) (rest : List ℕ) → name_at bytes ≡ Some (n, rest) → is_lower n ≡ true
unfolding name_at name_of
name_lower bytes n rest e =
    let a = bind_some (counted_at bytes) (λ x. name_of x.0 >>= λ y. Some (y, x.1)) (n, rest) e in
    let b = bind_some (name_of a.0.0) (λ y. Some (y, a.0.1)) (n, rest) a.2 in
    let c = bind_some (named_by (read_fs a.0.0)) (λ m. read_when is_lower m) b.0 b.1 in
    let w = when_some is_lower c.0 b.0 c.2 in
    let read : Values × List ℕ = (b.0, a.0.1) in
    subst (λ (q : Values × List ℕ). is_lower q.0 ≡ true) (some_is read (n, rest) b.2) w.1

pub entry_lower : (bytes : List ℕ) (p : PlacedEntry) (rest : List ℕ) → entry_at bytes ≡ Some (p, rest) → is_lower p.name ≡ true
unfolding entry_at
entry_lower bytes p rest e =
    let a = bind_some (read_both name_at details_at bytes) (λ x. Some (placed_entry_from x.0, x.1)) (p, rest) e in
    let m = in_both name_at details_at bytes a.0 a.1 in
    let read : PlacedEntry × List ℕ = (placed_entry_from a.0.0, a.0.1) in
    subst (λ (q : PlacedEntry × List ℕ). is_lower q.0.name ≡ true) (some_is read (p, rest) a.2) (name_lower bytes a.0.0.0 m.left m.first_is)
