-- Lemmas: if a machine can still reach an end from each state, it is a scanner of the texts that it reads whole.
use Rattle.std.proofs.Common.{◌≡◌, ◌⊎◌, ℕ, suc, Bool, true, false, List, [], ◌∷◌, ◌++◌, length, Option, Some, None, Ok, Err, refl, sym, ap, ◌∙◌, inl, inr}
use Rattle.std.proofs.lemmas.Bool.{cases_Bool}
use Rattle.std.proofs.lemmas.List.{append_cancel_right}
use Rattle.name_grammar.specs.Machines.{machine}
use Rattle.name_grammar.proofs.Results.{left_over, stopped, chosen, ok_is, err_is, ok≢err}
use Rattle.name_grammar.proofs.Scans.{TakesText, Stops, Scans}

-- there is a next state, or there is none
pub stepped : {S : Type 0} (o : Option S) → ((q : S) × (o ≡ Some q)) ⊎ (o ≡ None)
stepped (Some q) = inl (q, refl)
stepped None = inr refl

module _ {S : Type 0} (step : S → ℕ → Option S) (ends : S → Bool) where
  -- if there is a step, the machine continues from the next state
  pub rest_goes : (q t : S) (c : ℕ) (s : List ℕ) → step q c ≡ Some t → machine step ends q (c ∷ s) ≡ machine step ends t s
  rest_goes q t c s e = rw e refl

  -- if there is no step, and the machine may end, it ends here
  pub ends_here : (q : S) (c : ℕ) (s : List ℕ) → step q c ≡ None → ends q ≡ true → machine step ends q (c ∷ s) ≡ Ok (c ∷ s)
  ends_here q c s e h = rw (e, h) refl

  -- if there is no step, and the machine may not end, it fails
  pub halts : (q : S) (c : ℕ) (s : List ℕ) → step q c ≡ None → ends q ≡ false → machine step ends q (c ∷ s) ≡ Err (suc (length s))
  halts q c s e h = rw (e, h) refl

  pub ends_there : (q : S) → ends q ≡ true → machine step ends q [] ≡ Ok []
  ends_there q h = rw h refl

  -- if a text with a first byte is read whole, the machine makes a step with this byte
  pub went_in : (q : S) (c : ℕ) (s : List ℕ) → machine step ends q (c ∷ s) ≡ Ok [] → (t : S) × (step q c ≡ Some t) × (machine step ends t s ≡ Ok [])
  went_in q c s e =
      elim (stepped (step q c)) [
        | inl go ↦ (go.0, go.1, sym (rest_goes q go.0 c s go.1) ∙ e)
        | inr none ↦ elim (cases_Bool (ends q)) [
          | inl h ↦ let all : c ∷ s ≡ [] = ok_is (c ∷ s) [] (sym (ends_here q c s none h) ∙ e) in absurd cc
          | inr h ↦ absurd (ok≢err [] _ (sym e ∙ halts q c s none h))
        ]
      ]

  -- if the empty text is read whole, the machine may end
  pub went_out : (q : S) → machine step ends q [] ≡ Ok [] → ends q ≡ true
  went_out q e = elim (cases_Bool (ends q)) [
    | inl h ↦ h
    | inr h ↦ absurd (ok≢err [] 0 (sym e ∙ rw h refl))
  ]

  -- the texts that the machine reads whole from a state on
  abbrev pub Taken : S → List ℕ → Type 0
  Taken q s = machine step ends q s ≡ Ok []

  machine_takes : (q : S) (s r : List ℕ) → machine step ends q s ≡ Ok r → TakesText (Taken q) s r
  machine_takes q [] r e =
      elim (chosen (ends q) (left_over []) (stopped 0) (left_over r) e) [
        | inl h ↦ record { taken = []; cut = ok_is [] r h.1; lawful = ends_there q h.0 }
        | inr h ↦ absurd (ok≢err r 0 (sym h.1))
      ]
  machine_takes q (c ∷ s) r e =
      elim (stepped (step q c)) [
        | inl go ↦
            let a = machine_takes go.0 s r (sym (rest_goes q go.0 c s go.1) ∙ e) in
            record { taken = c ∷ a.taken; cut = ap (λ (u : List ℕ). c ∷ u) a.cut; lawful = rest_goes q go.0 c a.taken go.1 ∙ a.lawful }
        | inr none ↦ elim (cases_Bool (ends q)) [
          | inl h ↦ record { taken = []; cut = ok_is (c ∷ s) r (sym (ends_here q c s none h) ∙ e); lawful = ends_there q h }
          | inr h ↦ absurd (ok≢err r _ (sym e ∙ halts q c s none h))
        ]
      ]

  machine_looks : (q : S) (u : List ℕ) (d : ℕ) (r t : List ℕ) → machine step ends q (u ++ d ∷ r) ≡ Ok (d ∷ r) → machine step ends q (u ++ d ∷ t) ≡ Ok (d ∷ t)
  machine_looks q [] d r t e =
      elim (stepped (step q d)) [
        | inl go ↦
            let a = machine_takes go.0 r (d ∷ r) (sym (rest_goes q go.0 d r go.1) ∙ e) in
            absurd (longer a.taken a.cut)
        | inr none ↦ elim (cases_Bool (ends q)) [
          | inl h ↦ ends_here q d t none h
          | inr h ↦ absurd (ok≢err (d ∷ r) _ (sym e ∙ halts q d r none h))
        ]
      ]
    where
      longer : (v : List ℕ) → r ≡ v ++ d ∷ r → ⊥
      longer v cut = absurd_nil v (append_cancel_right [] (v ++ d ∷ []) r (cut ∙ regroup v))
        where
          regroup : (v : List ℕ) → v ++ d ∷ r ≡ (v ++ d ∷ []) ++ r
          regroup [] = refl
          regroup (x ∷ v) = ap (λ (u : List ℕ). x ∷ u) (regroup v)

          absurd_nil : (v : List ℕ) → [] ≡ v ++ d ∷ [] → ⊥
          absurd_nil [] e = absurd cc
          absurd_nil (x ∷ v) e = absurd cc
  machine_looks q (x ∷ u) d r t e =
      elim (stepped (step q x)) [
        | inl go ↦ rest_goes q go.0 x (u ++ d ∷ t) go.1 ∙ machine_looks go.0 u d r t (sym (rest_goes q go.0 x (u ++ d ∷ r) go.1) ∙ e)
        | inr none ↦ elim (cases_Bool (ends q)) [
          | inl h ↦ let all : x ∷ u ≡ [] = append_cancel_right (x ∷ u) [] (d ∷ r) (ok_is _ _ (sym (ends_here q x (u ++ d ∷ r) none h) ∙ e)) in absurd cc
          | inr h ↦ absurd (ok≢err (d ∷ r) _ (sym e ∙ halts q x (u ++ d ∷ r) none h))
        ]
      ]

  -- each state that the machine reaches is good, and for each good state there is a text that it reads whole
  module _ (Good : S → Type 0) (stays : (q t : S) (c : ℕ) → Good q → step q c ≡ Some t → Good t) (more : (q : S) → Good q → (u : List ℕ) × Taken q u) where
    machine_stops : (q : S) → Good q → (s : List ℕ) (left : ℕ) → machine step ends q s ≡ Err left → Stops (Taken q) (machine step ends q) s left
    machine_stops q good [] left e =
        elim (chosen (ends q) (left_over []) (stopped 0) (stopped left) e) [
          | inl h ↦ absurd (ok≢err [] left h.1)
          | inr h ↦ let u = more q good in record { prefix = []; rest = []; cut = refl; left_is = sym (err_is 0 left h.1); more = u.0; is_continued = u.1; refused = λ d r t no. absurd cc }
        ]
    machine_stops q good (c ∷ s) left e =
        elim (stepped (step q c)) [
          | inl go ↦
              let a = machine_stops go.0 (stays q go.0 c good go.1) s left (sym (rest_goes q go.0 c s go.1) ∙ e) in record {
                prefix = c ∷ a.prefix;
                rest = a.rest;
                cut = ap (λ (u : List ℕ). c ∷ u) a.cut;
                left_is = a.left_is;
                more = a.more;
                is_continued = rest_goes q go.0 c (a.prefix ++ a.more) go.1 ∙ a.is_continued;
                refused = λ d r t is. rest_goes q go.0 c (a.prefix ++ d ∷ t) go.1 ∙ a.refused d r t is;
              }
          | inr none ↦ elim (cases_Bool (ends q)) [
            | inl h ↦ absurd (ok≢err _ left (sym (ends_here q c s none h) ∙ e))
            | inr h ↦ let u = more q good in record {
              prefix = [];
              rest = c ∷ s;
              cut = refl;
              left_is = sym (err_is _ left (sym (halts q c s none h) ∙ e));
              more = u.0;
              is_continued = u.1;
              refused = λ d r t is. let same : c ≡ d = cc in halts q d t (ap (step q) (sym same) ∙ none) h;
            }
          ]
        ]

    -- the machine is a scanner of the texts that it reads whole
    pub machine_scans : (q : S) → Good q → Scans (Taken q) (machine step ends q)
    machine_scans q good = record { takes = machine_takes q; stops = machine_stops q good; looks_at_one = machine_looks q }
