-- Lemmas: the written certificate of a test is read as that certificate.
use Rattle.std.proofs.Common.{◌≡◌, List, [], ◌∷◌, Bool, true, ◌&&◌, Option, Some, None, map, codes, refl, ap, sym, ◌∙◌, subst}
use Rattle.std.specs.Prelude.{Result, Ok, All, option_map, unwrap_or}
use Rattle.std.specs.List.{list_all, flat_map}
use Rattle.std.proofs.lemmas.Bool.{and_parts}
use Rattle.serde_json.specs.Data.{Data}
use Rattle.cpe_rows.specs.cpe_name.Eleven.{Values}
use Rattle.cpe_rows.specs.cpe_name.Names.{IsName}
use Rattle.cpe_rows.specs.declared.truth.Truth.{Truth}
use Rattle.cpe_records.specs.FirstFault.{◌>>=◌}
use Rattle.record_writer.specs.Written.{items_by}
use Rattle.record_writer.proofs.ReadBack.{data_of, data_items}
use Rattle.record_writer.proofs.WordForms.{truth_read}
use Rattle.certificate_check.specs.declared.certificate.Why.{Why, Logic, Pair, Plain, roll-Why}
use Rattle.certificate_check.specs.declared.certificate.Why.TheOpen.{Why-F}
use Rattle.certificate_check.specs.declared.certificate.Why.TheVariants.{rolls-Logic, rolls-Pair, rolls-Plain}
use Rattle.certificate_check.specs.declared.certificate.Why.TheFolds.{fold-roll-Why, ind-Why, map-Why}
use Rattle.certificate_records.specs.declared.fault.CertificateFault.{CertificateFault}
use Rattle.certificate_records.specs.Reading.{formed, logic_in, pair_in, some_why, given_of, children_of}
use Rattle.certificate_records.specs.Whole.{why_names, HasNames, are_named, sound_why_step, is_sound_why}
use Rattle.certificate_records.specs.Written.{or_null, logic_json, pair_json, why_json}
use Rattle.certificate_records.proofs.Forms.{json-logic, json-pair, json-plain}
use Rattle.certificate_records.proofs.Names.{names_at, names-logic, names-pair, all_parts}
use Rattle.certificate_records.proofs.NamesRead.{ReadsNames, names_there}
use Rattle.certificate_records.proofs.Mapped.{mapped}

-- ---- soundness by levels

abbrev pub sound_at : Option Bool → Bool
sound_at sound = unwrap_or sound true

sound-logic : (truth : Truth) (of : List (Option Why)) → is_sound_why (Logic truth of) ≡ list_all sound_at (map (option_map is_sound_why) of)
sound-logic truth of = ap is_sound_why (sym (rolls-Logic truth of)) ∙ fold-roll-Why Bool sound_why_step (Why-F.Logic truth of) ∙ ap sound_why_step (mapped is_sound_why truth of)

sound-pair : (truth : Truth) (fact item : List Values) → is_sound_why (Pair truth fact item) ≡ (are_named fact && are_named item)
sound-pair truth fact item = ap is_sound_why (sym (rolls-Pair truth fact item)) ∙ fold-roll-Why Bool sound_why_step (Why-F.Pair truth fact item)

-- ---- levels

abbrev Reads : Why → Type 0
Reads w = HasNames w → is_sound_why w ≡ true → given_of (data_of (why_json w)) ≡ Ok (Some w)

abbrev Shown : Type 0
Shown = (w : Why) × Reads w

abbrev whys : List (Option Shown) → List (Option Why)
whys es = map (option_map (λ (e : Shown). e.0)) es

abbrev children : List (Option Why) → Result (List (Option Why)) CertificateFault
children of = children_of (data_items (items_by or_null (map (option_map why_json) of)))

children_read : (es : List (Option Shown)) → All IsName (flat_map names_at (whys es)) → list_all sound_at (map (option_map is_sound_why) (whys es)) ≡ true
    → children (whys es) ≡ Ok (whys es)
children_read [] h k = refl
children_read (None ∷ es) h k = ap (λ r. r >>= λ ws. Ok (None ∷ ws)) (children_read es h k)
children_read (Some e ∷ es) h k =
    let named = all_parts IsName (why_names e.0) (flat_map names_at (whys es)) h in
    let sound = and_parts (is_sound_why e.0) (list_all sound_at (map (option_map is_sound_why) (whys es))) k in
    λ i. e.1 named.0 sound.0 i >>= λ w. children_read es named.1 sound.1 i >>= λ ws. Ok (w ∷ ws)

logic_made : (truth : Truth) (of : List (Option Why)) → logic_in (data_of (logic_json truth (map (option_map why_json) of))) (Ok of) ≡ Ok (Logic truth of)
unfolding logic_in
logic_made truth of = λ i. formed (truth_read truth i) >>= λ t. Ok (Logic t of)

logic_read : (truth : Truth) (es : List (Option Shown)) → Reads (Logic truth (whys es))
logic_read truth es h k =
    let of = whys es in
    ap (λ j. given_of (data_of j)) (json-logic (Logic truth of) truth of refl)
    ∙ (ap (λ r. some_why (logic_in (data_of (logic_json truth (map (option_map why_json) of))) r))
    (children_read es (subst (All IsName) (names-logic truth of) h) (sym (sound-logic truth of) ∙ k))
    ∙ ap some_why (logic_made truth of))

module _ (reads : ReadsNames) where
  pair_made : (truth : Truth) (fact item : List Values) → All IsName fact → All IsName item → are_named fact ≡ true → are_named item ≡ true
      → pair_in (data_of (pair_json truth fact item)) ≡ Ok (Pair truth fact item)
  unfolding pair_in
  pair_made truth fact item fact_names item_names fact_named item_named =
      let d : Data = data_of (pair_json truth fact item) in
      λ i. names_there reads (codes "fact") d fact refl fact_names fact_named i >>= λ f.
      names_there reads (codes "item") d item refl item_names item_named i >>= λ one.
      formed (truth_read truth i) >>= λ t. Ok (Pair t f one)

  pair_read : (truth : Truth) (fact item : List Values) → Reads (Pair truth fact item)
  pair_read truth fact item h k =
      let named = all_parts IsName fact item (subst (All IsName) (names-pair truth fact item) h) in
      let sound = and_parts (are_named fact) (are_named item) (sym (sound-pair truth fact item) ∙ k) in
      ap (λ j. given_of (data_of j)) (json-pair (Pair truth fact item) truth fact item refl)
      ∙ ap some_why (pair_made truth fact item named.0 named.1 sound.0 sound.1)

  plain_read : (truth : Truth) → Reads (Plain truth)
  plain_read truth h k =
      ap (λ j. given_of (data_of j)) (json-plain (Plain truth) truth refl)
      ∙ (λ i. some_why (formed (truth_read truth i) >>= λ t. Ok (Plain t)))

  rolled : (y : Why-F Shown) → Reads (roll-Why (map-Why Shown Why (λ e. e.0) y))
  rolled (Why-F.Logic truth es) =
      subst (λ y. Reads (roll-Why y)) (sym (mapped (λ (e : Shown). e.0) truth es)) (subst Reads (sym (rolls-Logic truth (whys es))) (logic_read truth es))
  rolled (Why-F.Pair truth fact item) = subst Reads (sym (rolls-Pair truth fact item)) (pair_read truth fact item)
  rolled (Why-F.Plain truth) = subst Reads (sym (rolls-Plain truth)) (plain_read truth)

  pub why_read : (w : Why) → Reads w
  why_read = ind-Why Reads (λ x y is. subst (λ z. Reads (roll-Why z)) is (rolled y))
