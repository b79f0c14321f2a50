-- Lemmas: the truths of facts by the levels of probes.
use Rattle.std.proofs.Common.{◌≡◌, ℕ, ◌<◌, ◌≤◌, Bool, true, false, ◌||◌, List, ◌∷◌, refl, sym, arith, rules}
use Rattle.std.specs.List.{list_any}
use Rattle.std.proofs.lemmas.Bool.{false_from_ne_true}
use Rattle.cpe_rows.specs.cpe_name.Eleven.{Values}
use Rattle.cpe_rows.specs.cpe_relation.Maybe.{maybe}
use Rattle.cpe_rows.specs.cpe_relation.NameRelation.{covers}
use Rattle.name_index.specs.Table.{Names, kept_at}
use Rattle.level_board.specs.Board.{Board, HasLevel, target_times}
use Rattle.level_board.specs.declared.level.Level.{Level}
use Rattle.level_board.specs.declared.level.Level.TheVariants.{Covered, Maybe, Free}
use Rattle.cpe_rows.specs.Truth.{or_of}
use Rattle.cpe_rows.specs.Verdict.{truth}
use Rattle.cpe_rows.specs.declared.truth.Truth.{Truth}
use Rattle.cpe_rows.specs.declared.truth.Truth.TheVariants.{True, False, Unknown}
use Rattle.fact_laws.specs.Asked.{is_one}
use Rattle.fact_boards.specs.Lists.{truth_of_names}

-- ---- one name

-- the truth that a probe of this level gives to a fact
abbrev pub level_truth : Level → Truth
level_truth Covered = True
level_truth Maybe = Unknown
level_truth Free = False

-- the name of the probe has the relation to the name of some target
abbrev Relates : (Values → Values → Bool) → Board → Names → ℕ → Type 0
Relates relates board names p = (t : ℕ) × (0 < target_times board t) × (relates (kept_at names p).name (kept_at names t).name ≡ true)

module _ (board : Board) (names : Names) (there : List Values) (p : ℕ)
    (somewhere : (passes : Values → Bool) (id : ℕ) → 1 ≤ target_times board id → passes (kept_at names id).name ≡ true → list_any passes there ≡ true)
    (passing : (passes : Values → Bool) → list_any passes there ≡ true → (id : ℕ) × (1 ≤ target_times board id) × (passes (kept_at names id).name ≡ true)) where
  some_there : (relates : Values → Values → Bool) → Relates relates board names p → list_any (relates (kept_at names p).name) there ≡ true
  some_there relates h = somewhere (relates (kept_at names p).name) h.0 (omega (arith, h.1)) h.2

  none_there : (relates : Values → Values → Bool) → (Relates relates board names p → ⊥) → list_any (relates (kept_at names p).name) there ≡ false
  none_there relates none = false_from_ne_true (list_any (relates (kept_at names p).name) there) (λ e. let t = passing (relates (kept_at names p).name) e in none (t.0, omega (arith, t.1), t.2))

  pub level_shown : (level : Level) → HasLevel board names p level → level_truth level ≡ truth (list_any (covers (kept_at names p).name) there) (list_any (maybe (kept_at names p).name) there)
  level_shown Covered h = λ i. truth (sym (some_there covers h) i) (list_any (maybe (kept_at names p).name) there)
  level_shown Maybe h = λ i. truth (sym (none_there covers h.0) i) (sym (some_there maybe h.1) i)
  level_shown Free h = λ i. truth (sym (none_there covers h.0) i) (sym (none_there maybe h.1) i)

-- ---- many names

pub grouped : (a b c : Truth) → or_of (or_of a b) c ≡ or_of a (or_of b c)
grouped a b c = search rules

-- the truth by two groups of names is the OR of the groups' truths
pub either_more : (a b c d : Bool) → truth (a || c) (b || d) ≡ or_of (truth a b) (truth c d)
either_more true b c d = refl
either_more false true true d = refl
either_more false true false true = refl
either_more false true false false = refl
either_more false false true d = refl
either_more false false false true = refl
either_more false false false false = refl

-- the truth by a list of names is the OR of the truths by the first name and by the others
pub first_truth : (n : Values) (names there : List Values) → truth_of_names (n ∷ names) there ≡ or_of (truth (list_any (covers n) there) (list_any (maybe n) there)) (truth_of_names names there)
first_truth n names there = either_more (list_any (covers n) there) (list_any (maybe n) there) (is_one covers names there) (is_one maybe names there)
