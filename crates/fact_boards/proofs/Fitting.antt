-- Lemmas: a board fits another table if its numbers have the same names and products there.
use Rattle.std.proofs.Common.{◌≡◌, ◌≢◌, ◌⊎◌, ℕ, ◌≤◌, ◌<◌, Bool, false, cond, List, [], ◌∷◌, ◌++◌, count_by, Option, Some, None, refl, sym, ap, ◌∙◌, inl, inr, arith, eq-eqb, eqb-true, zero, suc}
use Rattle.std.specs.Prelude.{nat_eq, nat_lt}
use Rattle.std.specs.List.{AllByRecursion}
use Rattle.std.proofs.lemmas.Bool.{cases_Bool, cases_eq, lt-ltb}
use Rattle.std.proofs.lemmas.Option.{none-some}
use Rattle.std.proofs.lemmas.List.Sums.{sum_by-cons}
use Rattle.std.proofs.lemmas.List.Elements.{recursion_from_All, All-from_recursion}
use Rattle.cpe_rows.specs.cpe_name.Eleven.{Values}
use Rattle.cpe_rows.specs.cpe_relation.Maybe.{maybe}
use Rattle.cpe_rows.specs.cpe_relation.NameRelation.{covers}
use Rattle.name_index.specs.Table.{Names, Kept, find_kept, kept_at, kept_or, HoldsName, Releases}
use Rattle.name_index.specs.Index.{times_held}
use Rattle.level_board.specs.Targets.{StaysAt}
use Rattle.level_board.proofs.Stay.{targets_there}
use Rattle.level_board.specs.Rows.{Seen}
use Rattle.level_board.specs.Board.{Board, FitsBoard, AreHeldIds, times_if, probe_at, probe_times, target_ids, target_times, times_seen as times_of}
use Rattle.fact_laws.proofs.Tables.{keeps, keeps_live}

abbrev FitsAt : Names → ℕ × ℕ → Type 0
FitsAt names x = (k : Kept) × (find_kept names x.0 ≡ Some k) × (k.product ≡ x.1)

-- a property of all pairs of a list follows from another property, pair by pair
among : (held : List (ℕ × ℕ)) (Q P : ℕ × ℕ → Type 0) → ((x : ℕ × ℕ) → 1 ≤ times_held held x.0 → Q x → P x) → AllByRecursion Q held → AllByRecursion P held
among held Q P step all = go held (λ id h. h) all
  where
    go : (some : List (ℕ × ℕ)) → ((id : ℕ) → 1 ≤ times_held some id → 1 ≤ times_held held id) → AllByRecursion Q some → AllByRecursion P some
    go [] in_ h = tt
    go (x ∷ some) in_ h = (
      step x (in_ x.0 (omega (arith, sum_by-cons (λ (y : ℕ × ℕ). cond (nat_eq x.0 y.0) 1 0) x some, ap {B = ℕ} (λ (b : Bool). cond b 1 0) (eq-eqb x.0 x.0 refl)))) h.0,
      go some (λ id more. in_ id (omega (arith, more, sum_by-cons (λ (y : ℕ × ℕ). cond (nat_eq id y.0) 1 0) x some))) h.1,
    )

counts_agree : (p q : ℕ × ℕ → Bool) (held : List (ℕ × ℕ)) → AllByRecursion (λ x. p x ≡ q x) held → count_by p held ≡ count_by q held
counts_agree p q [] h = refl
counts_agree p q (x ∷ held) h = omega (arith, sum_by-cons (λ (y : ℕ × ℕ). cond (p y) 1 0) x held, sum_by-cons (λ (y : ℕ × ℕ). cond (q y) 1 0) x held, ap {B = ℕ} (λ (b : Bool). cond b 1 0) h.0, counts_agree p q held h.1)

positive : (n : ℕ) → 1 ≤ times_if (nat_lt 0 n) → 0 < n
positive zero h = absurd (omega (arith, h))
positive (suc n) h = omega arith

held_once : (n : ℕ) → 0 < n → 1 ≤ times_if (nat_lt 0 n)
held_once n h = omega (arith, ap {B = ℕ} times_if (lt-ltb 0 n h))

-- a property of all pairs of two lists is a property of all pairs of their concatenation
both : (P : ℕ × ℕ → Type 0) (xs ys : List (ℕ × ℕ)) → AllByRecursion P xs → AllByRecursion P ys → AllByRecursion P (xs ++ ys)
both P [] ys a b = b
both P (x ∷ xs) ys a b = (a.0, both P xs ys a.1 b)

module _ (old new : Names) (board : Board) (on : AreHeldIds board) (probes : (p : ℕ) → 0 < probe_times board p → StaysAt old new p) (targets : (t : ℕ) → 0 < target_times board t → StaysAt old new t) where
  there : (t : ℕ) → 1 ≤ times_held (target_ids board) t → StaysAt old new t
  there t more = targets t (positive (target_times board t) (omega (arith, more, on.targets t)))

  fits_at : (x : ℕ × ℕ) → StaysAt old new x.0 → FitsAt old x → FitsAt new x
  fits_at x stays fit = let l = stays fit.0 fit.1 in (l.0, l.1, l.3 ∙ fit.2)

  same_at : (id : ℕ) → StaysAt old new id → (k : Kept) → find_kept old id ≡ Some k → (kept_at new id).name ≡ (kept_at old id).name
  same_at id stays k e = let l = stays k e in ap (λ (o : Option Kept). (kept_or o).name) l.1 ∙ l.2 ∙ sym (ap (λ (o : Option Kept). (kept_or o).name) e)

  pub fits_there : FitsBoard board old → FitsBoard board new
  fits_there f = record {
    probes = All-from_recursion (FitsAt new) board.probe_ids (among board.probe_ids (FitsAt old) (FitsAt new) (λ x more fit. fits_at x (probes x.0 (positive (probe_times board x.0) (omega (arith, more, on.probes x.0)))) fit) all_probes);
    targets = targets_there old new board.target_index there f.targets;
    counts = λ p s e. f.counts p s e ∙ counted covers p (asked p s e);
    maybes = λ p s e. f.maybes p s e ∙ counted maybe p (asked p s e);
  }
    where
      all_probes : AllByRecursion (FitsAt old) board.probe_ids
      all_probes = recursion_from_All (FitsAt old) board.probe_ids f.probes

      all_targets : AllByRecursion (FitsAt old) (target_ids board)
      all_targets = both (FitsAt old) board.target_index.plain board.target_index.loose (recursion_from_All (FitsAt old) board.target_index.plain f.targets.plain) (recursion_from_All (FitsAt old) board.target_index.loose f.targets.loose)

      asked : (p : ℕ) (s : Seen) → probe_at board p ≡ Some s → 0 < probe_times board p
      asked p s e = omega (arith, on.some p s e, ap times_of e)

      -- the number of a probe is held by the board, so it is live
      live : (p : ℕ) (held : List (ℕ × ℕ)) → AllByRecursion (FitsAt old) held → 1 ≤ times_held held p → (k : Kept) × (find_kept old p ≡ Some k)
      live p [] all h = absurd (omega (arith, h))
      live p (x ∷ held) all h = elim (cases_eq p x.0) [
        | inl is ↦ (all.0.0, ap (find_kept old) is ∙ all.0.1)
        | inr ne ↦ live p held all.1 (omega (arith, h, sum_by-cons (λ (y : ℕ × ℕ). cond (nat_eq p y.0) 1 0) x held, ap {B = ℕ} (λ (b : Bool). cond b 1 0) (other p x.0 ne)))
      ]
        where
          other : (a b : ℕ) → a ≢ b → nat_eq a b ≡ false
          other a b ne = elim (cases_Bool (nat_eq a b)) [ inl t ↦ absurd (ne (eqb-true a b t)) | inr g ↦ g ]

      -- the name of the probe has the relation to as many numbers in the new table as in the old table
      counted : (relates : Values → Values → Bool) (p : ℕ) → 0 < probe_times board p
          → count_by (λ (x : ℕ × ℕ). relates (kept_at old p).name (kept_at old x.0).name) (target_ids board) ≡ count_by (λ (x : ℕ × ℕ). relates (kept_at new p).name (kept_at new x.0).name) (target_ids board)
      counted relates p some =
          let k = live p board.probe_ids all_probes (omega (arith, on.probes p, held_once (probe_times board p) some)) in
          let probe : (kept_at new p).name ≡ (kept_at old p).name = same_at p (probes p some) k.0 k.1 in
          let before = λ (x : ℕ × ℕ). relates (kept_at old p).name (kept_at old x.0).name in
          let after = λ (x : ℕ × ℕ). relates (kept_at new p).name (kept_at new x.0).name in
          counts_agree before after (target_ids board)
          (among (target_ids board) (FitsAt old) (λ x. before x ≡ after x) (λ x more fit. sym (λ i. relates (probe i) (same_at x.0 (there x.0 more) fit.0 fit.1 i))) all_targets)

pub held_fit : (old new : Names) (id : ℕ) (name : Values) (board : Board) → AreHeldIds board → HoldsName old new id name → FitsBoard board old → FitsBoard board new
held_fit old new id name board on h = fits_there old new board on (λ p some k e. keeps old new id name h p k e) (λ t some k e. keeps old new id name h t k e)

pub released_fit : (old new : Names) (id : ℕ) (board : Board) → AreHeldIds board → Releases old new id → (find_kept new id ≡ None → probe_times board id ≡ 0) → (find_kept new id ≡ None → target_times board id ≡ 0) → FitsBoard board old → FitsBoard board new
released_fit old new id board on r probe target =
    fits_there old new board on (λ p some k e. keeps_live old new id r p k e (gone (probe_times board) p some probe k e)) (λ t some k e. keeps_live old new id r t k e (gone (target_times board) t some target k e))
  where
    gone : (times : ℕ → ℕ) (p : ℕ) → 0 < times p → (find_kept new id ≡ None → times id ≡ 0) → (k : Kept) → find_kept old p ≡ Some k → find_kept new p ≡ None → ⊥
    gone times p some none k e at = by (cases_eq p id)
      where
        by : (p ≡ id) ⊎ (p ≢ id) → ⊥
        by (inl is) = omega (arith, some, ap times is, none (ap (find_kept new) (sym is) ∙ at))
        by (inr ne) = none-some k (sym at ∙ r.others p ne ∙ e)
