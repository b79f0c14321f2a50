-- Lemmas: the draft that a value is, by looking up its members.
use Rattle.std.proofs.Common.{◌≡◌, ℕ, ◌+◌, List, ◌∷◌, codes, Ordering, Less, Equal, Greater, true, if◌then◌else◌, is_some, refl, ap, sym, ◌∙◌}
use Rattle.std.specs.Prelude.{Result, Ok, Err, Option, Some, None, option_and_then, option_map}
use Rattle.std.specs.Ordering.{nat_cmp, match_ordering}
use Rattle.std.specs.Cmp.Lexicographic.{slice_cmp}
use Rattle.serde_json.specs.Data.{Data, null, boolean, number, string, array, object, Items, no_items, item, Members, no_members, member}
use Rattle.serde_json.specs.Find.{get, get_member, as_array}
use Rattle.cpe_records.specs.declared.member.RecordFault.{RecordFault}
use Rattle.cpe_records.specs.declared.member.RecordFault.TheVariants as fault
use Rattle.cpe_records.specs.declared.member.Member.TheVariants as part
use Rattle.cpe_records.specs.declared.format.Format.{Format}
use Rattle.cpe_records.specs.declared.draft.Draft.{Draft}
use Rattle.cpe_records.specs.Gives.{◌>>=◌, all_from, Fails, is_memory_fault}
use Rattle.cpe_records.specs.Forms.{list_of_items}
use Rattle.cpe_records.proofs.AllFrom.{carried}
use Rattle.cpe_records.specs.Tests.{draft_of, drafts_of, drafts_in, children_in, draft_by, logic_in, leaf_read}

-- the children, from the array that was looked up
abbrev pub children_by : Format → Option (List Data) → Result (List Draft) RecordFault
children_by f None = Err (fault.Member part.Test)
children_by f (Some ds) = all_from (λ k. draft_of f) 1 ds

abbrev pub looked_up : Format → Option Data → Result (List Draft) RecordFault
looked_up f o = children_by f (option_map list_of_items (option_and_then as_array o))

drafts_of-all_from : (f : Format) (ds : Items) (n : ℕ) → drafts_of f ds ≡ all_from (λ k. draft_of f) n (list_of_items ds)
drafts_of-all_from f no_items n = refl
drafts_of-all_from f (item d ds) n = ap (λ r. draft_of f d >>= λ t. r >>= λ ts. Ok (t ∷ ts)) (drafts_of-all_from f ds (n + 1))

drafts_in-looked_up : (f : Format) (d : Data) → drafts_in f d ≡ looked_up f (Some d)
drafts_in-looked_up f null = refl
drafts_in-looked_up f (boolean b) = refl
drafts_in-looked_up f (number n) = refl
drafts_in-looked_up f (string s) = refl
drafts_in-looked_up f (array ds) = drafts_of-all_from f ds 1
drafts_in-looked_up f (object ms) = refl

chosen : (f : Format) (o : Ordering) (d : Data) (r : Result (List Draft) RecordFault) (e : Option Data) → r ≡ looked_up f e → match_ordering o r (drafts_in f d) r ≡ looked_up f (match_ordering o e (Some d) e)
chosen f Less d r e h = h
chosen f Equal d r e h = drafts_in-looked_up f d
chosen f Greater d r e h = h

children_in-looked_up : (f : Format) (ms : Members) → children_in f ms ≡ looked_up f (get_member (codes "of") ms)
children_in-looked_up f no_members = refl
children_in-looked_up f (member k d ms) = chosen f (slice_cmp nat_cmp (codes "of") k) d (children_in f ms) (get_member (codes "of") ms) (children_in-looked_up f ms)

pub draft_of-looked_up : (f : Format) (d : Data) → draft_of f d ≡ draft_by f d (looked_up f (get (codes "of") d))
draft_of-looked_up f null = refl
draft_of-looked_up f (boolean b) = refl
draft_of-looked_up f (number n) = refl
draft_of-looked_up f (string s) = refl
draft_of-looked_up f (array ds) = refl
draft_of-looked_up f (object ms) = ap (draft_by f (object ms)) (children_in-looked_up f ms)

abbrev branch : Format → Data → Option Data → Result Draft RecordFault
branch f d op = if is_some op then logic_in d (looked_up f (get (codes "of") d)) else leaf_read f d

pub draft_of-logic : {V : Type 0} (view : V → Data) (f : Format) (d : Data) (op : Option V) → option_map view op ≡ get (codes "op") d → is_some op ≡ true → draft_of f d ≡ logic_in d (looked_up f (get (codes "of") d))
draft_of-logic view f d None e there = let wrong : ⊥ = cc in absurd wrong
draft_of-logic view f d (Some v) e there = draft_of-looked_up f d ∙ ap (branch f d) (sym e)

-- lemma: a fault of the children is the fault of the logical test
pub logic_fails : (d : Data) (e : RecordFault) (r : Result (List Draft) RecordFault) → Fails e r → Fails e (logic_in d r)
unfolding logic_in
logic_fails d e r h = carried is_memory_fault e r (logic_in d r) (λ p. ap (logic_in d) p) h

pub looked_up-items : (f : Format) (o : Option Data) (ds : List Data) → Some ds ≡ option_map list_of_items (option_and_then as_array o) → looked_up f o ≡ all_from (λ k. draft_of f) 1 ds
looked_up-items f o ds h = ap (children_by f) (sym h)

pub looked_up-none : (f : Format) (o : Option Data) → None ≡ option_map list_of_items (option_and_then as_array o) → looked_up f o ≡ Err (fault.Member part.Test)
looked_up-none f o h = ap (children_by f) (sym h)
