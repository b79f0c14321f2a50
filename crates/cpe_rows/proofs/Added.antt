-- Lemmas: an added entry is in no chain except its own, and it changes the ends of no name.
use Rattle.std.proofs.Common.{◌≡◌, ℕ, zero, suc, ◌||◌, ◌&&◌, List, [], ◌∷◌, ◌++◌, map, Bool, true, false, cond, length, Option, None, refl, ap, sym, ◌∙◌}
use Rattle.std.specs.Prelude.{filter, is_none}
use Rattle.std.specs.List.{list_any, list_all}
use Rattle.std.proofs.lemmas.Bool.{or_from, or_left, or_right, and_left, and_right, and_parts, false_from_ne_true, true≢false}
use Rattle.std.proofs.lemmas.List.Elements.{filter-append}
use Rattle.std.proofs.lemmas.List.Folds.{list_any-append}
use Rattle.cpe_name.specs.Eleven.{Values}
use Rattle.cpe_rows.specs.Names.{is_same}
use Rattle.cpe_rows.specs.Rows.{is_named}
use Rattle.cpe_rows.specs.Reach.{reached, is_reached, Among}
use Rattle.cpe_rows.specs.Chains.{successors_of, is_active, is_successor, chain, ends}
use Rattle.cpe_rows.specs.Lawful.{has_successors}
use Rattle.cpe_rows.specs.declared.entry.Entry.{Entry}
use Rattle.cpe_rows.specs.declared.entry.Deprecation.{Deprecation}
use Rattle.cpe_rows.proofs.Lists.{no_element, not_element, each_element, same_filter, any_with_last}
use Rattle.cpe_rows.proofs.NameTests.{same_is, not_same}
use Rattle.cpe_rows.proofs.Reaches.{done}

length_with_last : {A : Type 0} (xs : List A) (x : A) → length (xs ++ x ∷ []) ≡ suc (length xs)
length_with_last [] x = refl
length_with_last (y ∷ ys) x = ap suc (length_with_last ys x)

-- An element x is appended, from which no edge leads.
module _ {A : Type 0} (edge : A → A → Bool) (all : List A) (x : A) (start : A → Bool) (out : (b : A) → edge x b ≡ false) where
  same_reached : (n : ℕ) (b : A) → reached edge (all ++ x ∷ []) start n b ≡ reached edge all start n b
  same_reached zero b = refl
  same_reached (suc n) b =
      (λ i. same_reached n b i || list_any (λ a. same_reached n a i && edge a b) (all ++ x ∷ []))
      ∙ ap (λ c. reached edge all start n b || c) (any_with_last (λ a. reached edge all start n a && edge a b) all x (and_right (reached edge all start n x) (edge x b) (out b)))

  pub still_reached : (b : A) → Among all b → is_reached edge (all ++ x ∷ []) start b ≡ is_reached edge all start b
  still_reached b m = ap (λ n. reached edge (all ++ x ∷ []) start n b) (length_with_last all x) ∙ (same_reached (suc (length all)) b ∙ sym (done edge all start b m))

  -- Also no edge leads to x.
  module _ (into : (a : A) → Among all a → edge a x ≡ false) where
    by_itself : (n : ℕ) → reached edge all start n x ≡ start x
    by_itself zero = refl
    by_itself (suc n) = no_more (start x) (by_itself n) (no_element (λ a. reached edge all start n a && edge a x) all (λ a m. and_right (reached edge all start n a) (edge a x) (into a m))) where
      no_more : (b : Bool) → reached edge all start n x ≡ b → list_any (λ a. reached edge all start n a && edge a x) all ≡ false → (reached edge all start n x || list_any (λ a. reached edge all start n a && edge a x) all) ≡ b
      no_more true h e = λ i. h i || e i
      no_more false h e = λ i. h i || e i

    pub reached_alone : is_reached edge (all ++ x ∷ []) start x ≡ start x
    reached_alone = same_reached (length (all ++ x ∷ [])) x ∙ by_itself (length (all ++ x ∷ []))

-- If no element is a start, none is reached.
module _ {A : Type 0} (edge : A → A → Bool) (all : List A) (start : A → Bool) (none : (b : A) → Among all b → start b ≡ false) where
  never : (n : ℕ) (b : A) → Among all b → reached edge all start n b ≡ false
  never zero b m = none b m
  never (suc n) b m = or_from (reached edge all start n b) _ (never n b m) (no_element (λ a. reached edge all start n a && edge a b) all (λ a k. and_left (reached edge all start n a) (edge a b) (never n a k)))

  pub none_reached : (b : A) → Among all b → is_reached edge all start b ≡ false
  none_reached = never (length all)

pub nothing_kept : {A : Type 0} (p : A → Bool) (xs : List A) → ((a : A) → Among xs a → p a ≡ false) → filter p xs ≡ []
nothing_kept p xs h = same_filter p (λ _. false) xs h ∙ empty xs where
  empty : {A : Type 0} (xs : List A) → filter (λ _. false) xs ≡ []
  empty [] = refl
  empty (x ∷ xs) = empty xs

-- A name without an entry has an empty chain, and is its own only end.
module _ (entries : List Entry) (n : Values) (absent : list_any (is_named n) entries ≡ false) where
  pub no_chain : chain entries n ≡ []
  no_chain = nothing_kept (is_reached is_successor entries (is_named n)) entries
      (none_reached is_successor entries (is_named n) (not_element (is_named n) entries absent))

  pub own_end : ends entries n ≡ n ∷ []
  own_end = λ i. cond (absent i) (map (λ e. e.name) (filter is_active (chain entries n))) (n ∷ [])

-- An active entry of a new name is added. The successors of all entries are entries.
module _ (entries : List Entry) (e : Entry) (new : list_any (is_named e.name) entries ≡ false) (active : e.deprecation ≡ None) (closed : list_all (has_successors entries) entries ≡ true) where
  abbrev added : List Entry
  added = entries ++ e ∷ []

  -- The name of an entry differs from the new name.
  pub is_other : (n : Values) → list_any (is_named n) entries ≡ true → is_same n e.name ≡ false
  is_other n h = false_from_ne_true (is_same n e.name) (λ t. true≢false (sym h ∙ (ap (λ m. list_any (is_named m) entries) ((same_is n e.name).0 t) ∙ new)))

  pub unnamed : (b : Entry) → Among entries b → is_same e.name b.name ≡ false
  unnamed = not_element (is_named e.name) entries new

  not_among : (ss : List Values) → list_all (λ s. list_any (is_named s) entries) ss ≡ true → list_any (is_same e.name) ss ≡ false
  not_among [] h = refl
  not_among (s ∷ ss) h = let parts = and_parts (list_any (is_named s) entries) (list_all (λ s. list_any (is_named s) entries) ss) h in
      or_from (is_same e.name s) (list_any (is_same e.name) ss) (not_same s e.name (is_other s parts.0)) (not_among ss parts.1)

  into : (a : Entry) → Among entries a → is_successor a e ≡ false
  into a m = not_among (successors_of a) (each_element (has_successors entries) entries closed a m)

  pub no_successors : successors_of e ≡ []
  no_successors = ap (λ (d : Option Deprecation). successors_of (record e { deprecation = d })) active

  out : (b : Entry) → is_successor e b ≡ false
  out b = ap (list_any (is_same b.name)) no_successors

  chain_of_added : (n : Values) → chain added n ≡ chain entries n ++ cond (is_named n e) (e ∷ []) []
  chain_of_added n =
      filter-append (is_reached is_successor added (is_named n)) entries (e ∷ [])
      ∙ (λ i. same_filter (is_reached is_successor added (is_named n)) (is_reached is_successor entries (is_named n)) entries (still_reached is_successor entries e (is_named n) out) i
      ++ cond (reached_alone is_successor entries e (is_named n) out into i) (e ∷ []) [])

  append_nothing : {A : Type 0} (xs : List A) → xs ++ [] ≡ xs
  append_nothing [] = refl
  append_nothing (x ∷ xs) = ap (λ l. x ∷ l) (append_nothing xs)

  -- The chain of another name is unchanged.
  pub other_chain : (n : Values) → is_same n e.name ≡ false → chain added n ≡ chain entries n
  other_chain n h = chain_of_added n ∙ (ap (λ b. chain entries n ++ cond b (e ∷ []) []) h ∙ append_nothing (chain entries n))

  no_entry : (n : Values) → is_same n e.name ≡ true → list_any (is_named n) entries ≡ false
  no_entry n h = ap (λ m. list_any (is_named m) entries) ((same_is n e.name).0 h) ∙ new

  -- The chain of the new name has only the new entry.
  pub own_chain : (n : Values) → is_same n e.name ≡ true → chain added n ≡ e ∷ []
  own_chain n h = chain_of_added n ∙ (λ i. before i ++ cond (h i) (e ∷ []) []) where
    before : chain entries n ≡ []
    before = no_chain entries n (no_entry n h)

  pub same_ends : (n : Values) → ends added n ≡ ends entries n
  same_ends n = go (is_same n e.name) refl where
    named : is_same n e.name ≡ true → list_any (is_named n) added ≡ true
    named h = list_any-append (is_named n) entries (e ∷ []) ∙ or_right (list_any (is_named n) entries) (is_named n e || false) (or_left (is_named n e) false h)

    end_of_added : is_same n e.name ≡ true → ends added n ≡ n ∷ []
    end_of_added h =
        (λ i. cond (named h i) (map (λ x. x.name) (filter is_active (own_chain n h i))) (n ∷ []))
        ∙ ((λ i. map (λ x. x.name) (cond (is_none (active i)) (e ∷ []) []))
        ∙ ap (λ m. m ∷ []) (sym ((same_is n e.name).0 h)))

    go : (b : Bool) → is_same n e.name ≡ b → ends added n ≡ ends entries n
    go true h = end_of_added h ∙ sym (own_end entries n (no_entry n h))
    go false h = λ i. cond (any_with_last (is_named n) entries e h i) (map (λ x. x.name) (filter is_active (other_chain n h i))) (n ∷ [])
