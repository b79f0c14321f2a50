-- Lemmas: what is given for a child, by looking up the members of a value.
use Rattle.std.proofs.Common.{◌≡◌, ℕ, ◌+◌, List, ◌∷◌, codes, Ordering, Less, Equal, Greater, Bool, true, false, if◌then◌else◌, is_some, true≢false, refl, ap, sym, ◌∙◌}
use Rattle.std.specs.Prelude.{Result, Ok, Err, Option, Some, None, option_and_then, option_map}
use Rattle.std.specs.Ordering.{nat_cmp, match_ordering}
use Rattle.std.specs.Cmp.Lexicographic.{slice_cmp}
use Rattle.serde_json.specs.Data.{Data, null, boolean, number, string, array, object, Items, no_items, item, Members, no_members, member}
use Rattle.serde_json.specs.Find.{get, get_member, as_array, as_null}
use Rattle.cpe_records.specs.FirstFault.{◌>>=◌, all_from, FailsUnless}
use Rattle.cpe_records.specs.Forms.{list_of_items}
use Rattle.certificate_check.specs.declared.certificate.Why.{Why}
use Rattle.cpe_records.proofs.AllFrom.{carried}
use Rattle.certificate_records.specs.declared.fault.CertificateFault.{CertificateFault}
use Rattle.certificate_records.specs.declared.fault.CertificateFault.TheVariants as fault
use Rattle.certificate_records.specs.Gives.{is_certificate_memory}
use Rattle.certificate_records.specs.Reading.{formed, certificate_items_at, has_member_of, logic_in, certificate_leaf, why_read, some_why, given_of, children_in, children_at, children_of}

-- the certificates of the children, from the array that was looked up
abbrev pub read_all : Result (List Data) CertificateFault → Result (List (Option Why)) CertificateFault
read_all found = found >>= λ ds. all_from (λ k. given_of) 1 ds

abbrev pub looked_up : Option Data → Result (List (Option Why)) CertificateFault
looked_up o = read_all (formed (option_map list_of_items (option_and_then as_array o)))

children_of-all_from : (ds : Items) (n : ℕ) → children_of ds ≡ all_from (λ k. given_of) n (list_of_items ds)
children_of-all_from no_items n = refl
children_of-all_from (item d ds) n = ap (λ r. given_of d >>= λ w. r >>= λ ws. Ok (w ∷ ws)) (children_of-all_from ds (n + 1))

children_at-looked_up : (d : Data) → children_at d ≡ looked_up (Some d)
children_at-looked_up null = refl
children_at-looked_up (boolean b) = refl
children_at-looked_up (number n) = refl
children_at-looked_up (string s) = refl
children_at-looked_up (array ds) = children_of-all_from ds 1
children_at-looked_up (object ms) = refl

chosen : (o : Ordering) (d : Data) (r : Result (List (Option Why)) CertificateFault) (e : Option Data) → r ≡ looked_up e
    → match_ordering o r (children_at d) r ≡ looked_up (match_ordering o e (Some d) e)
chosen Less d r e h = h
chosen Equal d r e h = children_at-looked_up d
chosen Greater d r e h = h

children_in-looked_up : (ms : Members) → children_in ms ≡ looked_up (get_member (codes "of") ms)
children_in-looked_up no_members = refl
children_in-looked_up (member k d ms) =
    chosen (slice_cmp nat_cmp (codes "of") k) d (children_in ms) (get_member (codes "of") ms) (children_in-looked_up ms)

given_of-looked_up : (d : Data) → is_some (as_null d) ≡ false → given_of d ≡ some_why (why_read d (looked_up (get (codes "of") d)))
given_of-looked_up null h = absurd (true≢false h)
given_of-looked_up (boolean b) h = refl
given_of-looked_up (number n) h = refl
given_of-looked_up (string s) h = refl
given_of-looked_up (array ds) h = refl
given_of-looked_up (object ms) h = ap (λ r. some_why (why_read (object ms) r)) (children_in-looked_up ms)

pub given_of-null : (d : Data) → is_some (as_null d) ≡ true → given_of d ≡ Ok None
given_of-null null h = refl
given_of-null (boolean b) h = absurd (true≢false (sym h))
given_of-null (number n) h = absurd (true≢false (sym h))
given_of-null (string s) h = absurd (true≢false (sym h))
given_of-null (array ds) h = absurd (true≢false (sym h))
given_of-null (object ms) h = absurd (true≢false (sym h))

abbrev branch : Data → Bool → Result (Option Why) CertificateFault
branch d b = some_why (if b then logic_in d (looked_up (get (codes "of") d)) else certificate_leaf d)

pub given_of-logic : (d : Data) → is_some (as_null d) ≡ false → has_member_of (codes "of") d ≡ true
    → given_of d ≡ some_why (logic_in d (read_all (certificate_items_at (codes "of") d)))
given_of-logic d h k = given_of-looked_up d h ∙ ap (branch d) k

pub given_of-leaf : (d : Data) → is_some (as_null d) ≡ false → has_member_of (codes "of") d ≡ false → given_of d ≡ some_why (certificate_leaf d)
given_of-leaf d h k = given_of-looked_up d h ∙ ap (branch d) k

-- ---- what a reader finds

pub has_of : {V : Type 0} (view : V → Data) (d : Data) (of : Option V) → option_map view of ≡ get (codes "of") d → is_some of ≡ true → has_member_of (codes "of") d ≡ true
has_of view d None e some_why = absurd (true≢false (sym some_why))
has_of view d (Some v) e some_why = ap is_some (sym e)

logic_fails : (d : Data) (e : CertificateFault) → logic_in d (Err e) ≡ Err e
unfolding logic_in
logic_fails d e = refl

module _ (d : Data) (no_null : is_some (as_null d) ≡ false) (has_it : has_member_of (codes "of") d ≡ true) where
  -- lemma: the member `of` is no array
  pub none_there : None ≡ option_map list_of_items (option_and_then as_array (get (codes "of") d)) → given_of d ≡ Err fault.Why
  none_there none =
      given_of-logic d no_null has_it
      ∙ ap (λ o. some_why (logic_in d (read_all (formed o)))) (sym none)
      ∙ ap some_why (logic_fails d fault.Why)

  -- lemma: the member `of` is an array
  pub all_there : (ds : List Data) → Some ds ≡ option_map list_of_items (option_and_then as_array (get (codes "of") d))
      → given_of d ≡ some_why (logic_in d (all_from (λ k. given_of) 1 ds))
  all_there ds some = given_of-logic d no_null has_it ∙ ap (λ o. some_why (logic_in d (read_all (formed o)))) (sym some)

  -- lemma: a fault of a child is the fault of the logical test
  pub child_fails : (ds : List Data) → Some ds ≡ option_map list_of_items (option_and_then as_array (get (codes "of") d))
      → (e : CertificateFault) → FailsUnless is_certificate_memory e (all_from (λ k. given_of) 1 ds) → FailsUnless is_certificate_memory e (given_of d)
  child_fails ds some e =
      carried is_certificate_memory e (all_from (λ k. given_of) 1 ds) (given_of d)
      (λ p. all_there ds some ∙ (ap (λ r. some_why (logic_in d r)) p ∙ ap some_why (logic_fails d e)))
