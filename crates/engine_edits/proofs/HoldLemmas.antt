-- The names of a statement's facts: they are held one after another, and released.
use Rattle.std.proofs.Common.{◌≡◌, ℕ, suc, ◌+◌, ◌≤◌, ◌<◌, Bool, true, false, ◌&&◌, cond, List, [], ◌∷◌, ◌++◌, drop, take, get_or, length, refl, sym, ap, subst, ◌∙◌, arith}
use Rattle.std.specs.Prelude.{None, map, IsSome, nat_lt}
use Rattle.std.specs.List.{flat_map, list_all}
use Rattle.std.proofs.lemmas.Bool.{and_parts}
use Rattle.std.proofs.lemmas.List.{append-nil, drop_more, map-append, take_more}
use Rattle.std.proofs.lemmas.List.Concat.{flat_map-append}
use Rattle.std.proofs.lemmas.List.Recursion.{max_bounds}
use Rattle.std.proofs.lemmas.List.Folds.{list_all-map, list_all_at}
use Rattle.std.proofs.lemmas.List.Sums.{sum_by-cons, sum_by-append}
use Rattle.std.proofs.lemmas.Option.{none-some}
use Rattle.cpe_rows.specs.cpe_name.Eleven.{Values}
use Rattle.name_index.specs.Elements.{SameElements}
use Rattle.name_index.specs.declared.table.NameId.{NameId}
use Rattle.name_index.specs.Table.{IsNameTable, find_kept, HoldsName, IsLive, kept_at, kept_or, Names, Releases}
use Rattle.fact_laws.specs.Shown.{holds_in, IsKnown, name_at, names_at, Shows, times_named}
use Rattle.fact_laws.proofs.Shown.{live_is, named_first, named_both, same_names}
use Rattle.fact_laws.proofs.Tables.{keeps, keeps_live, name_stays, was_live}
use Rattle.cpe_rows.specs.FactNames.{fact_names}
use Rattle.cpe_rows.specs.Rows.{Rows}
use Rattle.cpe_rows.specs.declared.entry.Entry.{Entry}
use Rattle.cpe_rows.specs.Shape.{depth_of, depth_step, is_sound, largest, sound_step}
use Rattle.cpe_rows.specs.declared.statement.Statement.{Statement}
use Rattle.cpe_rows.specs.declared.test.Operator.{Operator}
use Rattle.cpe_rows.specs.declared.test.Test.{Test, Logic}
use Rattle.cpe_rows.specs.declared.test.Test.TheFolds.{fold-roll-Test}
use Rattle.cpe_rows.specs.declared.test.Test.TheOpen.{Test-F}
use Rattle.cpe_rows.specs.declared.test.Test.TheVariants.{rolls-Logic}
use Rattle.fact_laws.specs.Asked.{entry_names, names_of_rows}
use Rattle.verdicts.specs.name_registry.Registered.{AreHeld, AreRegistryNames, Registered}
use Rattle.verdicts.specs.Verdicts.{HasVerdicts, VerdictsNow}
use Rattle.engine_edits.specs.Holding.{AreFewNames, Grows}
use Rattle.engine_edits.specs.Parts.{AreOf}

-- ---- lists with the same elements in another order

-- the first element may be moved to the end of the first of three lists
last_in_first : (x : Values) (xs ys zs : List Values) → SameElements (x ∷ ((xs ++ ys) ++ zs)) (((xs ++ x ∷ []) ++ ys) ++ zs)
last_in_first x xs ys zs f =
    omega (
      arith,
      sum_by-cons f x ((xs ++ ys) ++ zs),
      sum_by-append f (xs ++ ys) zs,
      sum_by-append f xs ys,
      sum_by-append f ((xs ++ x ∷ []) ++ ys) zs,
      sum_by-append f (xs ++ x ∷ []) ys,
      sum_by-append f xs (x ∷ []),
      sum_by-cons f x [],
    )

-- the last of four lists may be moved to the second place
last_second : (xs ys zs ws : List Values) → SameElements (xs ++ ((ys ++ zs) ++ ws)) ((xs ++ ws) ++ (ys ++ zs))
last_second xs ys zs ws f =
    omega (
      arith,
      sum_by-append f xs ((ys ++ zs) ++ ws),
      sum_by-append f (ys ++ zs) ws,
      sum_by-append f (xs ++ ws) (ys ++ zs),
      sum_by-append f xs ws,
    )

-- ---- a name that is held

live_still : (old new : Names) (id : ℕ) (name : Values) → HoldsName old new id name → (ids : List NameId) → AreRegistryNames old ids → AreRegistryNames new ids
live_still old new id name h [] live = tt
live_still old new id name h (x ∷ xs) live =
    let l = keeps old new id name h x.0 (kept_at old x.0) (live_is old x.0 live.0) in
    (subst IsSome (sym l.1) refl, live_still old new id name h xs live.1)

names_still : (old new : Names) (id : ℕ) (name : Values) → HoldsName old new id name → (ids : List NameId) → AreRegistryNames old ids → names_at new ids ≡ names_at old ids
names_still old new id name h [] live = refl
names_still old new id name h (x ∷ xs) live = λ k. name_stays old new id name h x live.0 k ∷ names_still old new id name h xs live.1 k

live_both : (table : Names) (xs : List NameId) (id : NameId) → AreRegistryNames table xs → IsLive table id.0 → AreRegistryNames table (xs ++ id ∷ [])
live_both table [] id live one = (one, tt)
live_both table (x ∷ xs) id live one = (live.0, live_both table xs id live.1 one)

pub names_more : (old new : Names) (id : NameId) (name : Values) (ids : List NameId) → HoldsName old new id.0 name → name_at new id ≡ name → AreRegistryNames old ids → names_at new (ids ++ id ∷ []) ≡ names_at old ids ++ name ∷ []
names_more old new id name ids h named live = map-append (name_at new) ids (id ∷ []) ∙ (λ k. names_still old new id.0 name h ids live k ++ named k ∷ [])

pub few_more : (old new : Names) (name : Values) (n : ℕ) → ((list : List Values) → Shows old (holds_in old) list → Shows new (holds_in new) (name ∷ list)) → AreFewNames old (1 + n) → AreFewNames new n
few_more old new name n held few = (name ∷ few.0, held few.0 few.1, omega (arith, few.2, length_more few.0))
  where
    length_more : (list : List Values) → length (name ∷ list) ≡ 1 + length list
    length_more list = omega arith

pub few_less : (table : Names) (n m : ℕ) → n ≤ m → AreFewNames table m → AreFewNames table n
few_less table n m less few = (few.0, few.1, omega (arith, few.2, less))

pub grows_none : (r : Registered) (ids : List NameId) → AreRegistryNames r.table ids → Grows r r ids ids
grows_none r ids live = record { entries = refl; items = refl; live = live; are = λ v rows others a. a }

pub grows_both : (a b c : Registered) (xs ys zs : List NameId) → Grows a b xs ys → Grows b c ys zs → Grows a c xs zs
grows_both a b c xs ys zs g h = record {
  entries = h.entries ∙ g.entries;
  items = h.items ∙ g.items;
  live = h.live;
  are = λ v rows others are. h.are v rows others (g.are v rows others are);
}

module _ (old new : Registered) (id : NameId) (name : Values) (ids : List NameId) (holds : HoldsName old.table new.table id.0 name) (named : name_at new.table id ≡ name) (one : IsLive new.table id.0)
    (entries : new.entries ≡ old.entries) (items : new.items ≡ old.items) (live : AreRegistryNames old.table ids)
    (order : (list other : List Values) → SameElements list other → Shows new.table (holds_in new.table) list → Shows new.table (holds_in new.table) other)
    (held : (list : List Values) → Shows old.table (holds_in old.table) list → Shows new.table (holds_in new.table) (name ∷ list))
    (present : (v : VerdictsNow) (rows : Rows) → HasVerdicts old.table v rows → HasVerdicts new.table v rows) where
  pub grows_one : Grows old new ids (ids ++ id ∷ [])
  grows_one = record {
    entries = entries;
    items = items;
    live = live_both new.table ids id (live_still old.table new.table id.0 name holds ids live) one;
    are = are;
  }
    where
      are : (v : VerdictsNow) (rows : Rows) (others : List Values) → AreOf old v rows (names_at old.table ids ++ others) → AreOf new v rows (names_at new.table (ids ++ id ∷ []) ++ others)
      are v rows others a =
          let more = names_more old.table new.table id name ids holds named live in
          record {
            entries = entries ∙ a.entries;
            items = items ∙ a.items;
            held = subst (λ (ns : List Values). Shows new.table (holds_in new.table) ((ns ++ others) ++ names_of_rows rows)) (sym more)
                (order (name ∷ ((names_at old.table ids ++ others) ++ names_of_rows rows)) (((names_at old.table ids ++ name ∷ []) ++ others) ++ names_of_rows rows)
                (last_in_first name (names_at old.table ids) others (names_of_rows rows)) (held ((names_at old.table ids ++ others) ++ names_of_rows rows) a.held));
            verdicts = present v rows a.verdicts;
          }

-- ---- a name that is released

-- the table holds what the registry requires: the names of its entries and items are last
pub are_held : (r : Registered) (v : VerdictsNow) (rows : Rows) (name : Values) (others : List Values)
    → ((list other : List Values) → SameElements list other → Shows r.table (holds_in r.table) list → Shows r.table (holds_in r.table) other)
    → AreOf r v rows (name ∷ others) → (ns : List Values) × AreHeld r (name ∷ ns)
are_held r v rows name others order a =
    let facts = flat_map (λ (s : Statement). fact_names s.test) rows.statements in
    let es = entry_names rows.entries in
    let list = order (name ∷ (others ++ ((es ++ rows.items) ++ facts))) (name ∷ ((others ++ facts) ++ (es ++ rows.items)))
    (λ f. omega (arith, last_second others es rows.items facts f, sum_by-cons f name (others ++ ((es ++ rows.items) ++ facts)), sum_by-cons f name ((others ++ facts) ++ (es ++ rows.items)))) a.held in (
      others ++ facts,
      subst (λ (e : List Entry). Shows r.table (holds_in r.table) (name ∷ ((others ++ facts) ++ (entry_names e ++ r.items)))) (sym a.entries)
          (subst (λ (ns : List Values). Shows r.table (holds_in r.table) (name ∷ ((others ++ facts) ++ (es ++ ns)))) (sym a.items) list),
    )

module _ (old new : Names) (id : ℕ) (are : IsNameTable old) (r : Releases old new id) (list : List Values) (shows : Shows new (holds_in new) list) where
  still_one : (y : NameId) → IsLive old y.0 → 1 ≤ times_named (name_at old y) list → IsLive new y.0 × (name_at new y ≡ name_at old y)
  still_one y live some =
      let at = live_is old y.0 live in
      let known = shows.known (name_at old y) some in
      let not_gone : find_kept new y.0 ≡ None → ⊥ = λ none.
      let was = was_live old new id r known.0 known.1.0 known.1.1 in
      let same = are.different known.0 y.0 was.0 (kept_at old y.0) was.1 at (was.2 ∙ known.1.2) in
      none-some known.1.0 (sym none ∙ ap (find_kept new) (sym same) ∙ known.1.1) in
      let kept = keeps_live old new id r y.0 (kept_at old y.0) at not_gone in
      (subst IsSome (sym kept.1) refl, ap (λ o. (kept_or o).name) kept.1 ∙ kept.2)

  pub still : (rest : List NameId) → AreRegistryNames old rest → ((n : Values) → times_named n (names_at old rest) ≤ times_named n list) → AreRegistryNames new rest × (names_at new rest ≡ names_at old rest)
  still [] live among = (tt, refl)
  still (y ∷ ys) live among =
      let n = name_at old y in
      let first = named_first n n (names_at old ys) in
      let one = still_one y live.0 (omega (arith, among n, first, ap {B = ℕ} (λ (b : Bool). cond b 1 0) (same_names n n refl))) in
      let more = still ys live.1 (λ m. omega (arith, among m, named_first m n (names_at old ys))) in
      ((one.0, more.0), λ k. one.1 k ∷ more.1 k)

-- the names that are still held
module _ (old new : Registered) (id : NameId) (are : IsNameTable old.table) (live : IsLive old.table id.0) (r : Releases old.table new.table id.0) (entries : new.entries ≡ old.entries) (items : new.items ≡ old.items)
    (released : (list : List Values) → Shows old.table (holds_in old.table) (name_at old.table id ∷ list) → Shows new.table (holds_in new.table) list)
    (present : (v : VerdictsNow) (rows : Rows) → ((n : Values) → 1 ≤ times_named n (names_of_rows rows) → IsKnown new.table n) → HasVerdicts old.table v rows → HasVerdicts new.table v rows) where
  pub left : (v : VerdictsNow) (rows : Rows) (others : List Values) (rest : List NameId) → AreRegistryNames old.table rest → AreOf old v rows (name_at old.table id ∷ (names_at old.table rest ++ others))
      → AreRegistryNames new.table rest × AreOf new v rows (names_at new.table rest ++ others)
  left v rows others rest lives a =
      let ns = names_at old.table rest in
      let list = (ns ++ others) ++ names_of_rows rows in
      let shows = released list a.held in
      let s = still old.table new.table id.0 are r list shows rest lives (λ n. omega (arith, named_both n (ns ++ others) (names_of_rows rows), named_both n ns others)) in (
        s.0,
        subst (λ (xs : List Values). AreOf new v rows (xs ++ others)) (sym s.1) (record {
          entries = entries ∙ a.entries;
          items = items ∙ a.items;
          held = shows;
          verdicts = present v rows (λ n some. shows.known n (omega (arith, some, named_both n (ns ++ others) (names_of_rows rows)))) a.verdicts;
        }),
      )

-- ---- one after another

pub first_there : {A : Type 0} (xs : List A) (i : ℕ) (d : A) → i < length xs → drop i xs ≡ get_or xs i d ∷ drop (i + 1) xs
first_there xs i d lt = drop_more xs i d lt

pub taken_next : (of : List Test) (i : ℕ) (child : Test) → i < length of → child ≡ get_or of i child → flat_map fact_names (take (i + 1) of) ≡ flat_map fact_names (take i of) ++ fact_names child
taken_next of i child lt is =
    let prefix = flat_map fact_names (take i of) in
    ap (flat_map fact_names) (take_more of i child lt)
    ∙ flat_map-append fact_names (take i of) (get_or of i child ∷ [])
    ∙ ap (λ ns. prefix ++ ns) (append-nil (fact_names (get_or of i child)))
    ∙ ap (λ x. prefix ++ fact_names x) (sym is)

length_both : (xs ys : List Values) → length (xs ++ ys) ≡ length xs + length ys
length_both [] ys = omega arith
length_both (x ∷ xs) ys = omega (arith, length_both xs ys)

pub rest_length : (of : List Test) (i : ℕ) (child : Test) → i < length of → child ≡ get_or of i child → length (flat_map fact_names (drop i of)) ≡ length (fact_names child) + length (flat_map fact_names (drop (i + 1) of))
rest_length of i child lt is =
    ap (λ ts. length (flat_map fact_names ts)) (first_there of i child lt ∙ ap (λ (x : Test). x ∷ drop (i + 1) of) (sym is))
    ∙ length_both (fact_names child) (flat_map fact_names (drop (i + 1) of))

-- each child of a sound test is sound
pub sound_child : (operator : Operator) (negate : Bool) (of : List Test) (i : ℕ) (d : Test) → is_sound (Logic operator negate of) ≡ true → i < length of → is_sound (get_or of i d) ≡ true
sound_child operator negate of i d sound lt = by (is_sound (get_or of i d)) refl
  where
    logic : is_sound (Logic operator negate of) ≡ (nat_lt 0 (length (map is_sound of)) && list_all (λ b. b) (map is_sound of))
    logic = ap is_sound (sym (rolls-Logic operator negate of)) ∙ fold-roll-Test Bool sound_step (Test-F.Logic operator negate of)

    all : list_all is_sound of ≡ true
    all = sym (list_all-map (λ (b : Bool). b) is_sound of) ∙ (and_parts (nat_lt 0 (length (map is_sound of))) (list_all (λ b. b) (map is_sound of)) (sym logic ∙ sound)).1

    by : (b : Bool) → is_sound (get_or of i d) ≡ b → is_sound (get_or of i d) ≡ true
    by true e = e
    by false e = let clash : true ≡ false = sym all ∙ list_all_at is_sound of i d lt e in let wrong : ⊥ = cc in absurd wrong

-- each child of a test is less deep than the test
pub depth_falls : (operator : Operator) (negate : Bool) (of : List Test) (i : ℕ) (d : Test) → i < length of → depth_of (get_or of i d) < depth_of (Logic operator negate of)
depth_falls operator negate of i d lt =
    let logic : depth_of (Logic operator negate of) ≡ suc (largest (map depth_of of)) = ap depth_of (sym (rolls-Logic operator negate of)) ∙ fold-roll-Test ℕ depth_step (Test-F.Logic operator negate of) in
    omega (arith, logic, max_bounds (λ ts. largest (map depth_of ts)) depth_of refl (λ t ts. refl) of i d lt)
