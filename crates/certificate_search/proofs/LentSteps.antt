-- Lemmas: the search for a path to an end, with the steps as the code has them.
use Rattle.std.proofs.Common.{◌≡◌, ◌&&◌, ℕ, ◌-◌, ◌<◌, ◌≤◌, List, [], ◌∷◌, ◌++◌, true, false, map, take, drop, get_or, length, refl, ap, sym, ◌∙◌, subst, arith}
use Rattle.std.specs.List.{list_any}
use Rattle.std.proofs.lemmas.List.{nil_from_length}
use Rattle.cpe_rows.specs.cpe_name.Eleven.{Values}
use Rattle.cpe_rows.specs.Names.{is_same}
use Rattle.cpe_rows.specs.Rows.{Rows}
use Rattle.cpe_rows.specs.Lawful.{is_cyclic, IsLawful}
use Rattle.cpe_rows.specs.declared.entry.Entry.{Entry}
use Rattle.cpe_rows.specs.declared.statement.Mode.TheVariants.{Follow}
use Rattle.certificate_check.specs.Leading.{is_end_of, AreLinkedEntries}
use Rattle.certificate_check.specs.Seen.{with_seen_name}
use Rattle.certificate_check.proofs.Elements.{map_last}
use Rattle.certificate_check.proofs.Links.{linked}
use Rattle.certificate_search.specs.Choices.{trace_to}
use Rattle.certificate_search.specs.Steps.{Step, lent_step, step_to, with_step}
use Rattle.certificate_search.specs.declared.paths.StepRef.{StepRef}
use Rattle.certificate_search.proofs.SearchPaths.{name_of}
use Rattle.certificate_search.proofs.SearchSteps.{IsSearch, work, search_starts, search_ends, search_fails, search_drops, search_goes, less_dropped, less_goes, next_is_known}

-- what is left of a list without its first element, as a slice pattern has it
abbrev pub rest_of : List Values → List Values
rest_of xs = take (length xs - 1) (drop 1 xs)

all_taken : (xs : List Values) (n : ℕ) → n ≡ length xs → take n xs ≡ xs
all_taken xs n e = ap (λ (k : ℕ). take k xs) e ∙ go xs where
  go : (ys : List Values) → take (length ys) ys ≡ ys
  go [] = refl
  go (y ∷ ys) = ap (λ (zs : List Values). y ∷ zs) (go ys)

first_and_rest : (xs : List Values) (x : Values) → 1 ≤ length xs → x ≡ get_or xs 0 x → xs ≡ x ∷ rest_of xs
first_and_rest [] x some is = absurd (omega arith)
first_and_rest (y ∷ xs) x some is = λ i. sym is i ∷ sym (all_taken xs (length (y ∷ xs) - 1) (omega arith)) i

-- the names of the steps
abbrev pub lent_names : List StepRef → List Values
lent_names steps = map (λ s. s.name.now) steps

named : (steps : List StepRef) → lent_names steps ≡ map name_of (map lent_step steps)
named [] = refl
named (s ∷ steps) = ap (λ (ns : List Values). s.name.now ∷ ns) (named steps)

module _ (rows : Rows) (to from : Values) where
  abbrev es : List Entry
  es = rows.entries

  -- the state of the search
  abbrev pub IsLentSearch : List StepRef → List Values → Type 0
  IsLentSearch steps seen = IsSearch rows.entries to from (map lent_step steps) seen

  -- how many times the search still goes on, at most
  abbrev pub lent_work : List StepRef → List Values → ℕ
  lent_work steps seen = work rows.entries (map lent_step steps) seen

  pub started : (none steps : List StepRef) (seen : List Values) → none ≡ [] → map lent_step steps ≡ map lent_step none ++ step_to rows.entries from ∷ []
      → seen ≡ [] → IsLentSearch steps seen
  started none steps seen e f g =
      search_starts es to from (map lent_step steps) seen (f ∙ ap (λ (ss : List StepRef). map lent_step ss ++ step_to es from ∷ []) e) g

  module _ (lawful : IsLawful rows) where
    abbrev ok : AreLinkedEntries es
    ok = linked rows Follow lawful

    abbrev acyclic : list_any (is_cyclic es) es ≡ false
    acyclic = lawful.dictionary.no_cycle

    pub failed : (steps : List StepRef) (seen : List Values) → steps ≡ [] → IsLentSearch steps seen → from ∷ [] ≡ trace_to rows.entries to from
    failed steps seen none so_far =
        search_fails es ok acyclic to from seen (subst (λ (ss : List StepRef). IsLentSearch ss seen) none so_far)

    -- after the last step is taken off
    module _ (steps before : List StepRef) (s : StepRef) (seen : List Values) (popped : steps ≡ before ++ s ∷ []) (so_far : IsLentSearch steps seen) where
      abbrev turned : map lent_step steps ≡ map lent_step before ++ lent_step s ∷ []
      turned = ap (map lent_step) popped ∙ map_last lent_step before s

      search : IsSearch es to from (map lent_step before ++ lent_step s ∷ []) seen
      search = subst (λ (ss : List Step). IsSearch es to from ss seen) turned so_far

      pub arrived : (lent : List StepRef) → lent ≡ before → (is_same s.name.now to && is_end_of rows.entries s.name.now) ≡ true
          → lent_names lent ++ s.name.now ∷ [] ≡ trace_to rows.entries to from
      arrived lent e here =
          ap (λ (ss : List StepRef). lent_names ss ++ s.name.now ∷ []) e
          ∙ (ap (λ (ns : List Values). ns ++ s.name.now ∷ []) (named before)
          ∙ search_ends es ok acyclic to from (map lent_step before) (lent_step s) seen search here)

      pub turned_back : length s.left.now < 1 → (is_same s.name.now to && is_end_of rows.entries s.name.now) ≡ false → IsLentSearch before seen
      turned_back few other =
          search_drops es ok acyclic to from (map lent_step before) (lent_step s) seen search (nil_from_length s.left.now (omega (arith, few))) other

      pub less_turned : lent_work before seen < lent_work steps seen
      less_turned =
          subst (λ (ss : List Step). work es (map lent_step before) seen < work es ss seen) (sym turned)
          (less_dropped es (map lent_step before) (lent_step s) seen)

      -- after the step is put back without its next successor, and this successor is tried
      module _ (x : Values) (some : 1 ≤ length s.left.now) (is : x ≡ get_or s.left.now 0 x) (back tried : List StepRef) (t : StepRef) (pushed : back ≡ before ++ t ∷ []) (same : lent_step t ≡ record { name = s.name.now; left = rest_of s.left.now }) (now_seen : List Values) (tries : map lent_step tried ≡ with_step es seen (map lent_step back) x) (sees : now_seen ≡ with_seen_name seen x) where
        first : s.left.now ≡ x ∷ rest_of s.left.now
        first = first_and_rest s.left.now x some is

        went : map lent_step tried ≡ with_step es seen (map lent_step before ++ record { name = s.name.now; left = rest_of s.left.now } ∷ []) x
        went =
            tries
            ∙ ap (λ (ss : List Step). with_step es seen ss x)
            (ap (map lent_step) pushed
            ∙ (map_last lent_step before t ∙ ap (λ (r : Step). map lent_step before ++ r ∷ []) same))

        pub went_on : IsLentSearch tried now_seen
        went_on =
            search_goes es ok acyclic to from (map lent_step before) (lent_step s) seen search x (rest_of s.left.now) first (map lent_step tried)
            now_seen went sees

        pub less_on : lent_work tried now_seen < lent_work steps seen
        less_on =
            subst (λ (ss : List Step). work es (map lent_step tried) now_seen < work es ss seen) (sym turned)
            (less_goes es (map lent_step before) (lent_step s) seen x (rest_of s.left.now) first
            (next_is_known es ok to from (map lent_step before) (lent_step s) seen x (rest_of s.left.now) search first) (map lent_step tried) now_seen went sees)
