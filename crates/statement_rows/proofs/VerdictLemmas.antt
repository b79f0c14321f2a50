-- A verdict depends only on the truths of its own numbers and keys.
use Rattle.std.proofs.Common.{◌≡◌, ℕ, ◌||◌, Bool, true, false, List, [], ◌∷◌, map, refl, sym, ap, subst, ◌∙◌}
use Rattle.std.specs.Prelude.{nat_eq}
use Rattle.std.specs.List.{flat_map}
use Rattle.std.specs.Str.{bytes_eq}
use Rattle.std.proofs.lemmas.List.Folds.{flat_map-map, list_any-append}
use Rattle.std.proofs.lemmas.Slice.Eq.{bytes_eq-Decides}
use Rattle.std.proofs.lemmas.Bool.{and_from}
use Rattle.cpe_rows.specs.Rows.{same_key}
use Rattle.cpe_rows.specs.Evaluation.{joined, negated}
use Rattle.cpe_rows.proofs.KeyTests.{key_is}
use Rattle.cpe_rows.specs.declared.statement.Statement.{Statement}
use Rattle.cpe_rows.specs.declared.truth.Truth.{Truth}
use Rattle.cpe_rows.specs.declared.test.CheckKey.{CheckKey}
use Rattle.cpe_rows.specs.declared.test.Test.{Test}
use Rattle.cpe_rows.specs.declared.test.Test.TheOpen.{Test-F}
use Rattle.cpe_rows.specs.declared.test.Test.TheViews.{roll-Test}
use Rattle.cpe_rows.specs.declared.test.Test.TheFolds.{fold-roll-Test, ind-Test, map-Test}
use Rattle.statement_rows.specs.declared.row.JudgedRow.{JudgedRow}
use Rattle.statement_rows.specs.Readings.{FactTruths, TruthReading, check_keys, has_fact, is_asked, asked_keys_step, reading, reading_step, truths_along, truths_of}
use Rattle.statement_rows.specs.Rows.{asks, verdict_by, verdict_now}
use Rattle.check_results.specs.Kept.{kept_truth}
use Rattle.name_index.specs.declared.table.NameId.{NameId}
use Rattle.statement_rows.proofs.ListLemmas.{nat_same}

pub or_right : (a b : Bool) → b ≡ true → (a || b) ≡ true
or_right true b h = refl
or_right false b h = h

pub or_left : (a b : Bool) → a ≡ true → (a || b) ≡ true
or_left a b h = ap (λ (c : Bool). c || b) h

pub maps_same : (f g : ℕ → Truth) (ids : List NameId) → ((q : ℕ) → has_fact ids q ≡ true → f q ≡ g q) → map (λ (id : NameId). f id.0) ids ≡ map (λ (id : NameId). g id.0) ids
maps_same f g [] h = refl
maps_same f g (x ∷ xs) h =
    λ i. h x.0 (or_left (nat_eq x.0 x.0) (has_fact xs x.0) (nat_same x.0)) i ∷ maps_same f g xs (λ q m. h q (or_right (nat_eq x.0 q) (has_fact xs q) m)) i

same_bytes : (a : List ℕ) → bytes_eq a a ≡ true
same_bytes a = (bytes_eq-Decides a a).1 refl

pub key_same : (k : CheckKey) → same_key k k ≡ true
key_same k = and_from (bytes_eq k.system k.system) _ (same_bytes k.system) (and_from (bytes_eq k.href k.href) (bytes_eq k.id k.id) (same_bytes k.href) (same_bytes k.id))

module _ (check other : CheckKey → Truth) where
  abbrev Agree : List CheckKey → Type 0
  Agree keys = (k : CheckKey) → is_asked keys k ≡ true → check k ≡ other k

  abbrev Stays : Test → Type 0
  Stays t = Agree (check_keys t) → (ts : List Truth) → reading check t ts ≡ reading other t ts

  abbrev Shown : Type 0
  Shown = (t : Test) × Stays t

  both : (x y : Truth × List Truth) (rs qs : List TruthReading) → x ≡ y → truths_along rs x.1 ≡ truths_along qs y.1
      → ◌≡◌ {A = List Truth × List Truth} (x.0 ∷ (truths_along rs x.1).0, (truths_along rs x.1).1) (y.0 ∷ (truths_along qs y.1).0, (truths_along qs y.1).1)
  both x y rs qs h e = λ i. ((h i).0 ∷ (e i).0, (e i).1)

  all_stay : (es : List Shown) → Agree (flat_map check_keys (map (λ (e : Shown). e.0) es)) → (ts : List Truth)
      → truths_along (map (reading check) (map (λ (e : Shown). e.0) es)) ts ≡ truths_along (map (reading other) (map (λ (e : Shown). e.0) es)) ts
  all_stay [] h ts = refl
  all_stay (e ∷ es) h ts =
      let rest = flat_map check_keys (map (λ (e : Shown). e.0) es) in
      let here = e.1 (λ k m. h k (list_any-append (λ key. same_key key k) (check_keys e.0) rest ∙ or_left (is_asked (check_keys e.0) k) (is_asked rest k) m)) ts in
      let behind = all_stay es (λ k m. h k (list_any-append (λ key. same_key key k) (check_keys e.0) rest ∙ or_right (is_asked (check_keys e.0) k) (is_asked rest k) m)) in
      both (reading check e.0 ts) (reading other e.0 ts) (map (reading check) (map (λ (e : Shown). e.0) es)) (map (reading other) (map (λ (e : Shown). e.0) es)) here
      (behind (reading check e.0 ts).1 ∙ ap (λ (x : Truth × List Truth). truths_along (map (reading other) (map (λ (e : Shown). e.0) es)) x.1) here)

  level : (c : CheckKey → Truth) (y : Test-F Test) (ts : List Truth) → reading c (roll-Test y) ts ≡ reading_step c (map-Test Test TruthReading (reading c) y) ts
  level c y ts = ap (λ (r : TruthReading). r ts) (fold-roll-Test TruthReading (reading_step c) y)

  keys_level : (y : Test-F Test) → check_keys (roll-Test y) ≡ asked_keys_step (map-Test Test (List CheckKey) check_keys y)
  keys_level y = fold-roll-Test (List CheckKey) asked_keys_step y

  rolled : (y : Test-F Shown) → Stays (roll-Test (map-Test Shown Test (λ e. e.0) y))
  rolled (Test-F.Logic o negate es) = λ h ts.
      let y : Test-F Test = Test-F.Logic o negate (map (λ (e : Shown). e.0) es) in
      let keys = keys_level y ∙ flat_map-map (λ (ks : List CheckKey). ks) check_keys (map (λ (e : Shown). e.0) es) in
      level check y ts
      ∙ (ap (λ (r : List Truth × List Truth). (negated negate (joined o r.0), r.1)) (along ts h keys) ∙ sym (level other y ts))
    where
      along : (ts : List Truth) → Agree (check_keys (roll-Test (Test-F.Logic o negate (map (λ (e : Shown). e.0) es))))
          → check_keys (roll-Test (Test-F.Logic o negate (map (λ (e : Shown). e.0) es))) ≡ flat_map check_keys (map (λ (e : Shown). e.0) es)
          → truths_along (map (reading check) (map (λ (e : Shown). e.0) es)) ts ≡ truths_along (map (reading other) (map (λ (e : Shown). e.0) es)) ts
      along ts h keys = all_stay es (λ k m. h k (ap (λ (ks : List CheckKey). is_asked ks k) keys ∙ m)) ts
  rolled (Test-F.Fact name) = λ h ts. level check (Test-F.Fact name) ts ∙ sym (level other (Test-F.Fact name) ts)
  rolled (Test-F.Check key) = λ h ts.
      level check (Test-F.Check key) ts
      ∙ (ap (λ (t : Truth). (t, ts)) (h key (ap (λ (ks : List CheckKey). is_asked ks key) (keys_level (Test-F.Check key)) ∙ or_left (same_key key key) false (key_same key)))
      ∙ sym (level other (Test-F.Check key) ts))

  pub reading_agree : (t : Test) → Stays t
  reading_agree = ind-Test Stays (λ x y is. subst (λ z. Stays (roll-Test z)) is (rolled y))

module _ (truth truth1 : FactTruths) (checks checks1 : List (CheckKey × Truth)) (s : Statement) (ids : List NameId) where
  pub verdict_same : ((q : ℕ) → has_fact ids q ≡ true → truth s.mode q ≡ truth1 s.mode q) → ((k : CheckKey) → is_asked (check_keys s.test) k ≡ true → kept_truth checks k ≡ kept_truth checks1 k)
      → verdict_by truth checks s ids ≡ verdict_by truth1 checks1 s ids
  verdict_same facts keys =
      ap (λ (r : Truth × List Truth). r.0)
      (reading_agree (kept_truth checks) (kept_truth checks1) s.test keys (truths_of truth s.mode ids)
      ∙ ap (reading (kept_truth checks1) s.test) (maps_same (truth s.mode) (truth1 s.mode) ids facts))

-- ---- a result for which a row doesn't ask

not_this : (keys : List CheckKey) (key k : CheckKey) → is_asked keys key ≡ false → is_asked keys k ≡ true → same_key key k ≡ false
not_this keys key k no_ yes_ = go (same_key key k) refl where
  go : (b : Bool) → same_key key k ≡ b → b ≡ false
  go true e = absurd (let wrong : false ≡ true = sym no_ ∙ (ap (is_asked keys) (key_is key k e) ∙ yes_) in cc)
  go false e = refl

pub check_cover : (truth : FactTruths) (checks checks1 : List (CheckKey × Truth)) (key : CheckKey)
    → ((k : CheckKey) → same_key key k ≡ false → kept_truth checks k ≡ kept_truth checks1 k)
    → (r : JudgedRow) → asks key r ≡ false
    → verdict_now truth checks r ≡ verdict_now truth checks1 r
check_cover truth checks checks1 key others r unasked =
    verdict_same truth truth checks checks1 r.numbered.value.statement r.numbered.value.ids.items (λ q m. refl)
    (λ k m. others k (not_this (check_keys r.numbered.value.statement.test) key k unasked m))
