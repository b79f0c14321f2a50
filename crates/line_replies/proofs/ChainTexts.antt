-- The entries of a chain give the lines of the answer to the question for the chain.
use Rattle.std.proofs.Common.{◌≡◌, ℕ, zero, suc, Bool, true, false, cond, ◌&&◌, ◌||◌, if◌then◌else◌, List, [], ◌∷◌, ◌++◌, codes, filter, length, map, refl, sym, ap, ◌∙◌}
use Rattle.std.specs.List.{flat_map, list_any}
use Rattle.std.proofs.Math.Dec.{eqb-suc-zero}
use Rattle.std.proofs.lemmas.Bool.{true≢false}
use Rattle.std.proofs.lemmas.List.{append-nil, length-map}
use Rattle.std.proofs.lemmas.List.Concat.{flat_map-cons}
use Rattle.std.proofs.lemmas.List.Folds.{flat_map-map}
use Rattle.cpe_rows.specs.cpe_name.Eleven.{Values}
use Rattle.cpe_rows.specs.Answers.{row_of}
use Rattle.cpe_rows.specs.Chains.{chain, ends, is_active, is_successor}
use Rattle.cpe_rows.specs.Lent.{entry_lent}
use Rattle.cpe_rows.specs.Reach.{is_reached, reached}
use Rattle.cpe_rows.specs.Rows.{is_named}
use Rattle.cpe_rows.specs.declared.entry.Entry.{Entry}
use Rattle.cpe_rows.specs.declared.entry_ref.EntryRef.{EntryRef}
use Rattle.cpe_rows.specs.declared.reply.Reply.TheVariants.{Chain}
use Rattle.line_replies.specs.Chains.{end_line, lent_text, step_line}
use Rattle.line_replies.specs.Replies.{chain_line, name_line, reply_text, row_line}

-- ---- a chain without entries

-- each node at which a path starts is reached
starts : {A : Type 0} (edge : A → A → Bool) (all : List A) (start : A → Bool) (k : ℕ) (b : A) → start b ≡ true → reached edge all start k b ≡ true
starts edge all start zero b h = h
starts edge all start (suc k) b h = ap (λ (x : Bool). x || list_any (λ a. reached edge all start k a && edge a b) all) (starts edge all start k b h)

none_among : {A : Type 0} (p q : A → Bool) (xs : List A) → ((x : A) → q x ≡ true → p x ≡ true) → filter p xs ≡ [] → list_any q xs ≡ false
none_among p q [] more h = refl
none_among p q (x ∷ xs) more h = go (p x) (q x) (more x) h (none_among p q xs more)
  where
    go : (a b : Bool) → (b ≡ true → a ≡ true) → cond a (x ∷ filter p xs) (filter p xs) ≡ [] → (filter p xs ≡ [] → list_any q xs ≡ false) → (b || list_any q xs) ≡ false
    go true b m e rest = let wrong : ⊥ = cc in absurd wrong
    go false true m e rest = absurd (true≢false (sym (m refl)))
    go false false m e rest = rest e

abbrev OwnEnd : Type 0
OwnEnd = (entries : List Entry) (n : Values) → list_any (is_named n) entries ≡ false → ends entries n ≡ n ∷ []

own_end : (entries : List Entry) (n : Values) → OwnEnd → chain entries n ≡ [] → ends entries n ≡ n ∷ []
own_end entries n own h =
    own entries n (none_among (is_reached is_successor entries (is_named n)) (is_named n) entries (starts is_successor entries (is_named n) (length entries)) h)

-- ---- a chain of entries

abbrev NoChain : Type 0
NoChain = (entries : List Entry) (n : Values) → list_any (is_named n) entries ≡ false → chain entries n ≡ []

active_ends : (entries : List Entry) (n : Values) (e : Entry) (es : List Entry) → NoChain → chain entries n ≡ e ∷ es → ends entries n ≡ map (λ (x : Entry). x.name) (filter is_active (e ∷ es))
active_ends entries n e es none h = go (list_any (is_named n) entries) (none entries n)
  where
    go : (b : Bool) → (b ≡ false → chain entries n ≡ []) → (if b then map (λ (x : Entry). x.name) (filter is_active (chain entries n)) else n ∷ []) ≡ map (λ (x : Entry). x.name) (filter is_active (e ∷ es))
    go true out = ap (λ (xs : List Entry). map (λ (x : Entry). x.name) (filter is_active xs)) h
    go false out = let empty = sym (out refl) ∙ h in let wrong : ⊥ = cc in absurd wrong

steps_are : (xs : List EntryRef) → flat_map (λ x. step_line (entry_lent x)) xs ≡ flat_map (row_line (codes "step ")) (map row_of (map entry_lent xs))
steps_are xs =
    sym
    (
    flat_map-map (row_line (codes "step ")) row_of (map entry_lent xs)
    ∙ flat_map-map (λ (e : Entry). row_line (codes "step ") (row_of e)) entry_lent xs
    )

active_count : (xs : List EntryRef) → length (filter (λ x. is_active (entry_lent x)) xs) ≡ length (map (λ (e : Entry). e.name) (filter is_active (map entry_lent xs)))
active_count [] = refl
active_count (x ∷ xs) = go (is_active (entry_lent x)) (active_count xs)
  where
    go : (b : Bool) → length (filter (λ y. is_active (entry_lent y)) xs) ≡ length (map (λ (e : Entry). e.name) (filter is_active (map entry_lent xs)))
        → length (cond b (x ∷ filter (λ y. is_active (entry_lent y)) xs) (filter (λ y. is_active (entry_lent y)) xs))
        ≡ length (map (λ (e : Entry). e.name) (cond b (entry_lent x ∷ filter is_active (map entry_lent xs)) (filter is_active (map entry_lent xs))))
    go true h = ap suc h
    go false h = h

active_lines : (xs : List EntryRef) → flat_map (λ x. end_line (entry_lent x)) xs ≡ flat_map (name_line (codes "end ")) (map (λ (e : Entry). e.name) (filter is_active (map entry_lent xs)))
active_lines [] = refl
active_lines (x ∷ xs) = flat_map-cons (λ (y : EntryRef). end_line (entry_lent y)) x xs ∙ go (is_active (entry_lent x)) (active_lines xs)
  where
    kept : List Values
    kept = map (λ (e : Entry). e.name) (filter is_active (map entry_lent xs))

    line : Values → List ℕ
    line = name_line (codes "end ")

    go : (b : Bool) → flat_map (λ y. end_line (entry_lent y)) xs ≡ flat_map line kept
        → (if b then line (entry_lent x).name else []) ++ flat_map (λ y. end_line (entry_lent y)) xs
        ≡ flat_map line (map (λ (e : Entry). e.name) (cond b (entry_lent x ∷ filter is_active (map entry_lent xs)) (filter is_active (map entry_lent xs))))
    go true h = ap (λ (ys : List ℕ). line (entry_lent x).name ++ ys) h ∙ sym (flat_map-cons line (entry_lent x).name kept)
    go false h = h

-- ---- the answer

pub lent_answer : (n : Values) (xs : List EntryRef) (entries : List Entry) → NoChain → OwnEnd → map entry_lent xs ≡ chain entries n
    → lent_text n xs ≡ reply_text (Chain n (map row_of (chain entries n)) (ends entries n))
lent_answer n [] entries none own h =
    let line = name_line (codes "end ") in
    let before = chain_line n 0 1 in
    let alone = sym (append-nil (line n)) ∙ sym (flat_map-cons line n []) in
    (λ i. sym (append-nil before) i ++ alone i)
    ∙ (λ i. reply_text (Chain n (map row_of (h i)) (sym (own_end entries n own (sym h)) i)))
lent_answer n (x ∷ xs) entries none own h =
    let all = map entry_lent (x ∷ xs) in
    let count = sym (length-map all row_of ∙ length-map (x ∷ xs) entry_lent) in
    let lines : List ℕ = chain_line n (length (x ∷ xs)) (length (filter (λ y. is_active (entry_lent y)) (x ∷ xs))) ++ flat_map (λ y. step_line (entry_lent y)) (x ∷ xs) ++ flat_map (λ y. end_line (entry_lent y)) (x ∷ xs) in
    ap (λ (b : Bool). if b then chain_line n 0 1 ++ name_line (codes "end ") n else lines) (eqb-suc-zero (length xs))
    ∙ (λ i. chain_line n (count i) (active_count (x ∷ xs) i) ++ steps_are (x ∷ xs) i ++ active_lines (x ∷ xs) i)
    ∙ (λ i. reply_text (Chain n (map row_of (h i)) (sym (active_ends entries n (entry_lent x) (map entry_lent xs) none (sym h)) i)))
