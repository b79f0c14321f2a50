use Rattle.std.proofs.Common.{◌≡◌, codes, Ordering, Less, Equal, Greater, refl}
use Rattle.std.specs.Prelude.{List, Option, Some, Result}
use Rattle.std.specs.Ordering.{nat_cmp, match_ordering}
use Rattle.std.specs.Cmp.Lexicographic.{slice_cmp}
use Rattle.serde_json.specs.Data.{Data, Members, no_members, member, object}
use Rattle.serde_json.specs.Find.{get, get_member}
use Rattle.cpe_records.specs.Tests.{children_at, children_in, drafts_in}
use Rattle.cpe_records.specs.declared.draft.Draft.{Draft}
use Rattle.cpe_records.specs.declared.format.Format.{Format}
use Rattle.cpe_records.specs.declared.member.RecordFault.{RecordFault}
use Rattle.cpe_records.proofs.law.children_occur_at_of.Goals as goal

-- lemma: one more member, by the order of its key and `of`
one_more : (f : Format) (o : Ordering) (d : Data) (children : Result (List Draft) RecordFault) (found : Option Data) → children ≡ children_at f found
    → match_ordering o children (drafts_in f d) children ≡ children_at f (match_ordering o found (Some d) found)
one_more f Less d children found h = h
one_more f Equal d children found h = refl
one_more f Greater d children found h = h

occur_at_of : (f : Format) (ms : Members) → children_in f ms ≡ children_at f (get (codes "of") (object ms))
occur_at_of f no_members = refl
occur_at_of f (member k d ms) = one_more f (slice_cmp nat_cmp (codes "of") k) d (children_in f ms) (get_member (codes "of") ms) (occur_at_of f ms)

pub returns : goal.returns
returns c = occur_at_of
