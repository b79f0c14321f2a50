-- Lemmas: what the lines of two lists write, the state after them, and their steps; and lines that are made.
use Rattle.std.proofs.Common.{◌≡◌, ℕ, zero, suc, ◌+◌, ◌-◌, ◌≤◌, List, [], ◌∷◌, ◌++◌, length, take, Option, Some, refl, sym, ap, ◌∙◌, arith, append_assoc, append-nil, length-append}
use Rattle.std.proofs.lemmas.List.{take_at}
use Rattle.line_session.specs.Session.{Session, Stage, next_writes, after_next, stage_after, out_from, costs}
use Rattle.line_session.specs.Table.{made_lines}
use Rattle.line_session.specs.Folding.{ChangesBy, CostsBy, folded_lines, summed_by}

pub stage_after-append : {State : Type 0} (session : Session State) (s : Stage State) (xs ys : List (Option (List ℕ))) → stage_after session s (xs ++ ys) ≡ stage_after session (stage_after session s xs) ys
stage_after-append session s [] ys = refl
stage_after-append session s (x ∷ xs) ys = stage_after-append session (after_next session s x) xs ys

pub out_from-append : {State : Type 0} (session : Session State) (s : Stage State) (xs ys : List (Option (List ℕ))) → out_from session s (xs ++ ys) ≡ out_from session s xs ++ out_from session (stage_after session s xs) ys
out_from-append session s [] ys = refl
out_from-append session s (x ∷ xs) ys =
    ap (λ (l : List ℕ). next_writes session s x ++ l) (out_from-append session (after_next session s x) xs ys)
    ∙ sym (append_assoc (next_writes session s x) (out_from session (after_next session s x) xs) (out_from session (stage_after session (after_next session s x) xs) ys))

pub costs-append : {State : Type 0} (session : Session State) (s : Stage State) (xs ys : List (Option (List ℕ))) → costs session s (xs ++ ys) ≡ costs session s xs + costs session (stage_after session s xs) ys
costs-append session s [] ys = omega arith
costs-append session s (x ∷ xs) ys = omega (arith, costs-append session (after_next session s x) xs ys)

-- lemma: the number of the stage after lines increases by the number of these lines
pub number-after : {State : Type 0} (session : Session State) (s : Stage State) (xs : List (Option (List ℕ))) → (stage_after session s xs).number ≡ s.number + length xs
number-after session s [] = omega arith
number-after session s (x ∷ xs) = omega (arith, number-after session (after_next session s x) xs)

-- lemma: lines change the state by a fold, if each line changes it by a function
pub state-folded : {State : Type 0} (session : Session State) (change : State → Option (List ℕ) → State) → ChangesBy session change → (s : Stage State) (ls : List (Option (List ℕ)))
    → (stage_after session s ls).state ≡ folded_lines change s.state ls
state-folded session change changes s [] = refl
state-folded session change changes s (line ∷ more) =
    state-folded session change changes (after_next session s line) more
    ∙ ap (λ state. folded_lines change state more) (changes s.state (s.number + 1) line)

-- lemma: the steps of lines are a sum, if the steps of each line are a number of the state and the line
pub costs-summed : {State : Type 0} (session : Session State) (change : State → Option (List ℕ) → State) (cost : State → Option (List ℕ) → ℕ) → ChangesBy session change → CostsBy session cost
    → (s : Stage State) (ls : List (Option (List ℕ))) → costs session s ls ≡ summed_by change cost s.state ls
costs-summed session change cost changes costed s [] = refl
costs-summed session change cost changes costed s (line ∷ more) =
    ap (λ k. k + costs session (after_next session s line) more) (costed s line)
    ∙ ap (λ k. cost s.state line + k) (costs-summed session change cost changes costed (after_next session s line) more
    ∙ ap (λ state. summed_by change cost state more) (changes s.state (s.number + 1) line))

pub folded-append : {State : Type 0} (change : State → Option (List ℕ) → State) (state : State) (xs ys : List (Option (List ℕ)))
    → folded_lines change state (xs ++ ys) ≡ folded_lines change (folded_lines change state xs) ys
folded-append change state [] ys = refl
folded-append change state (x ∷ xs) ys = folded-append change (change state x) xs ys

-- the lines after the first k of n made lines
abbrev Behind : (ℕ → List ℕ) → ℕ → ℕ → Type 0
Behind line k n = (later : List (Option (List ℕ))) × (made_lines line n ≡ made_lines line k ++ later)

lines_more : (line : ℕ → List ℕ) (k d n : ℕ) → n ≡ k + d → Behind line k n
lines_more line k zero n is =
    let same : n ≡ k = omega (arith, is) in
    ([], ap (made_lines line) same ∙ sym (append-nil (made_lines line k)))
lines_more line k (suc d) n is =
    let behind = lines_more line k d (k + d) refl in
    let same : n ≡ suc (k + d) = omega (arith, is) in (
      behind.0 ++ Some (line (k + d)) ∷ [],
      ap (made_lines line) same ∙ ap (λ (ls : List (Option (List ℕ))). ls ++ Some (line (k + d)) ∷ []) behind.1
          ∙ append_assoc (made_lines line k) behind.0 (Some (line (k + d)) ∷ []),
    )

pub lines_behind : (line : ℕ → List ℕ) (k n : ℕ) → k ≤ n → Behind line k n
lines_behind line k n below = lines_more line k (n - k) n (omega (arith, below))

pub length-made : (line : ℕ → List ℕ) (n : ℕ) → length (made_lines line n) ≡ n
length-made line zero = refl
length-made line (suc n) = omega (arith, length-made line n, length-append (made_lines line n) (Some (line n) ∷ []))

-- lemma: if n made lines are split in two parts, the first part has the lines that are made first
pub prefix_made : (line : ℕ → List ℕ) (n : ℕ) (xs ys : List (Option (List ℕ))) → made_lines line n ≡ xs ++ ys → (length xs ≤ n) × (xs ≡ made_lines line (length xs))
prefix_made line n xs ys splits =
    let k = length xs in
    let few : k ≤ n = omega (arith, ap length splits, length-append xs ys, length-made line n) in
    let behind = lines_behind line k n few in (
      few,
      sym (take_at xs ys k refl) ∙ ap (take k) (sym splits ∙ behind.1) ∙ take_at (made_lines line k) behind.0 k (length-made line k),
    )
