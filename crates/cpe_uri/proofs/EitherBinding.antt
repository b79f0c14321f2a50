-- Lemmas: what a text says in either binding.
use Rattle.std.proofs.Common.{◌≡◌, ℕ, ◌≤◌, Bool, true, false, List, take, Result, Ok, Err, refl, sym, ap, subst, ◌∙◌, inl, inr, arith}
use Rattle.std.specs.Bool.{MatchBool}
use Rattle.std.specs.Prelude.{codes}
use Rattle.std.specs.List.{join_with_byte}
use Rattle.std.specs.Result.{IfOk, IfErr, MatchResult}
use Rattle.std.specs.Str.{str_to_ascii_lowercase}
use Rattle.std.proofs.lemmas.Bool.{cases_Bool, MatchBool-at_true, MatchBool-at_false}
use Rattle.std.proofs.lemmas.List.{take_at}
use Rattle.std.proofs.lemmas.Slice.Eq.{bytes_eq-Decides}
use Rattle.cpe_name.specs.Eleven.{Values}
use Rattle.cpe_fs.specs.Grammar.{Fs, LeavesAt}
use Rattle.cpe_fs.specs.Unbound.{read_fs, unbound}
use Rattle.cpe_fs.proofs.Said.{said as fs}
use Rattle.cpe_name.proofs.Unbinding.{Unbinds, behind, text_of}
use Rattle.cpe_fs.specs.Writing.{WritesOutput}
use Rattle.cpe_uri.specs.Grammar.{Uri, LeavesUri}
use Rattle.cpe_uri.specs.Unbound.{read_uri, unbound_uri}
use Rattle.cpe_uri.specs.EitherBinding.{begins_as_uri, UriOrFs, LeavesUriOrFs, RefusesUriOrFs, SaysFault, read_any, unbound_any}
use Rattle.cpe_uri.proofs.Pieces.{prefix_length}
use Rattle.cpe_uri.proofs.Said.{said as uri}
use Rattle.cpe_uri.specs.declared.UriFault.{UriFault}
use Rattle.cpe_uri.specs.declared.UriFault.TheVariants as fault

-- ---- the two grammars

-- each URI begins as a URI
pub uri_begins : (w : Values) (s : List ℕ) → Uri w s → begins_as_uri s ≡ true
uri_begins w s uri =
    let prefix : take 5 s ≡ uri.prefix = ap (take 5) uri.text ∙ take_at uri.prefix (join_with_byte 58 uri.components) 5 (prefix_length uri.prefix uri.begins) in
    (bytes_eq-Decides (str_to_ascii_lowercase (take 5 s)) (codes "cpe:/")).1 (ap str_to_ascii_lowercase prefix ∙ uri.begins)

-- no formatted string begins as a URI
pub fs_begins : (w : Values) (s : List ℕ) → Fs w s → begins_as_uri s ≡ false
fs_begins w s fs = ap begins_as_uri fs.1

at_true : (b : Bool) (P Q : Type 0) → b ≡ true → P → MatchBool b P Q
at_true b P Q h p = subst (λ (x : Bool). MatchBool x P Q) (sym h) p

at_false : (b : Bool) (P Q : Type 0) → b ≡ false → Q → MatchBool b P Q
at_false b P Q h q = subst (λ (x : Bool). MatchBool x P Q) (sym h) q

-- a URI of a name is a text of this name
pub uri_is_either : (w : Values) (s : List ℕ) → Uri w s → UriOrFs w s
uri_is_either w s uri = at_true (begins_as_uri s) (Uri w s) (Fs w s) (uri_begins w s uri) uri

-- a formatted string of a name is a text of this name
pub fs_is_either : (w : Values) (s : List ℕ) → Fs w s → UriOrFs w s
fs_is_either w s fs = at_false (begins_as_uri s) (Uri w s) (Fs w s) (fs_begins w s fs) fs

-- ---- the name that is read

-- a text that begins as a URI is read as a URI
pub any_uri : (s : List ℕ) → begins_as_uri s ≡ true → read_any s ≡ read_uri s
unfolding read_any
any_uri s b = rw b refl

-- a text that doesn't begin as a URI is read as a formatted string
pub any_fs : (s : List ℕ) → begins_as_uri s ≡ false → read_any s ≡ read_fs s
unfolding read_any
any_fs s b = rw b refl

-- a text of a name is read as the name
any_read : (name : Values) (s : List ℕ) → UriOrFs name s → read_any s ≡ Ok name
any_read name s h =
    elim (cases_Bool (begins_as_uri s)) [
      | inl b ↦ any_uri s b ∙ uri.read_name name s (MatchBool-at_true (Uri name s) (Fs name s) b h)
      | inr b ↦ any_fs s b ∙ fs.read_name name s (MatchBool-at_false (Uri name s) (Fs name s) b h)
    ]

-- a name that is read has this text
any_has : (name : Values) (s : List ℕ) → read_any s ≡ Ok name → UriOrFs name s
any_has name s is =
    elim (cases_Bool (begins_as_uri s)) [
      | inl b ↦ uri_is_either name s (uri.name_has name s (sym (any_uri s b) ∙ is))
      | inr b ↦ fs_is_either name s (fs.name_has name s (sym (any_fs s b) ∙ is))
    ]

-- if a place is read, no name has the text, and the place is that of the text
any_left : (s : List ℕ) (place : ℕ) → read_any s ≡ Err place → LeavesUriOrFs s place
any_left s place is =
    elim (cases_Bool (begins_as_uri s)) [
      | inl b ↦ at_true (begins_as_uri s) (LeavesUri s place) (LeavesAt s place) b (uri.place_is s place (sym (any_uri s b) ∙ is))
      | inr b ↦ at_false (begins_as_uri s) (LeavesUri s place) (LeavesAt s place) b (fs.place_is s place (sym (any_fs s b) ∙ is))
    ]

-- if no name has the text, the place of the text is read
any_left_read : (s : List ℕ) (place : ℕ) → LeavesUriOrFs s place → read_any s ≡ Err place
any_left_read s place at =
    elim (cases_Bool (begins_as_uri s)) [
      | inl b ↦ any_uri s b ∙ uri.read_place s place (MatchBool-at_true (LeavesUri s place) (LeavesAt s place) b at)
      | inr b ↦ any_fs s b ∙ fs.read_place s place (MatchBool-at_false (LeavesUri s place) (LeavesAt s place) b at)
    ]

-- a result equals that of `read_any`, if a returned name has the text and an error refuses it
pub any_reads : (r : Result Values UriFault) (s : List ℕ) → IfOk r (λ name. UriOrFs name s) → IfErr r (λ f. RefusesUriOrFs f s)
    → MatchResult r (λ name. read_any s ≡ Ok name) (λ f. SaysFault f (read_any s))
any_reads (Ok name) s has refused = any_read name s has
any_reads (Err (fault.At place)) s has refused = any_left_read s place refused
any_reads (Err fault.Memory) s has refused = tt

-- ---- the output text of the name

-- `read_any` and `unbound_any` have the properties `Unbinds` of a binding
pub either : Unbinds UriOrFs LeavesUriOrFs read_any unbound_any
unfolding unbound_any
either = record { read_name = any_read; name_has = any_has; place_is = any_left; read_place = any_left_read; says_read = λ s. refl }

-- if a text begins as a URI, `unbound_any` returns what `unbound_uri` returns
any_says_uri : (s : List ℕ) → begins_as_uri s ≡ true → unbound_any s ≡ unbound_uri s
any_says_uri s b = either.says_read s ∙ ap text_of (any_uri s b) ∙ sym (uri.says_read s)

-- if a text doesn't begin as a URI, `unbound_any` returns what `unbound` returns
any_says_fs : (s : List ℕ) → begins_as_uri s ≡ false → unbound_any s ≡ unbound s
any_says_fs s b = either.says_read s ∙ ap text_of (any_fs s b) ∙ sym (fs.says_read s)

-- ---- what is written into a room

-- if a text is read by one binding, `WritesOutput` for this binding implies `WritesOutput` for either binding
module _ (Has : Values → List ℕ → Type 0) (Leaves : List ℕ → ℕ → Type 0) (says : List ℕ → Result (List ℕ) ℕ) (s : List ℕ) (either : (name : Values) → Has name s → UriOrFs name s)
    (one : (name : Values) → UriOrFs name s → Has name s) (leaves : (place : ℕ) → Leaves s place → LeavesUriOrFs s place) (same : unbound_any s ≡ says s) where
  written_as : (at most more : ℕ) (old new : List ℕ) (r : Result ℕ ℕ) → most ≤ more → WritesOutput Has Leaves says s at most old new r → WritesOutput UriOrFs LeavesUriOrFs unbound_any s at more old new r
  written_as at most more old new (Ok end) far w = record {
    found = record { name = w.found.name; has = either w.found.name w.found.has; written = w.found.written };
    only = λ name has. w.only name (one name has);
    refused = tt;
    said = w.said ∙ ap (behind (take at old)) (sym same);
    within = omega (arith, w.within, far);
    length = w.length;
    unchanged = tt;
  }
  written_as at most more old new (Err place) far w = record {
    found = tt;
    only = λ name has. w.only name (one name has);
    refused = leaves place w.refused;
    said = w.said ∙ ap (behind (take at old)) (sym same);
    within = tt;
    length = w.length;
    unchanged = w.unchanged;
  }

-- `WritesOutput` for a URI implies `WritesOutput` for either binding
pub written_uri : (s : List ℕ) (at most more : ℕ) (old new : List ℕ) (r : Result ℕ ℕ) → begins_as_uri s ≡ true → most ≤ more
    → WritesOutput Uri LeavesUri unbound_uri s at most old new r → WritesOutput UriOrFs LeavesUriOrFs unbound_any s at more old new r
written_uri s at most more old new r b far w =
    written_as Uri LeavesUri unbound_uri s (λ name. at_true (begins_as_uri s) (Uri name s) (Fs name s) b) (λ name. MatchBool-at_true (Uri name s) (Fs name s) b)
    (λ place. at_true (begins_as_uri s) (LeavesUri s place) (LeavesAt s place) b) (any_says_uri s b) at most more old new r far w

-- `WritesOutput` for a formatted string implies `WritesOutput` for either binding
pub written_fs : (s : List ℕ) (at most more : ℕ) (old new : List ℕ) (r : Result ℕ ℕ) → begins_as_uri s ≡ false → most ≤ more
    → WritesOutput Fs LeavesAt unbound s at most old new r → WritesOutput UriOrFs LeavesUriOrFs unbound_any s at more old new r
written_fs s at most more old new r b far w =
    written_as Fs LeavesAt unbound s (λ name. at_false (begins_as_uri s) (Uri name s) (Fs name s) b) (λ name. MatchBool-at_false (Uri name s) (Fs name s) b)
    (λ place. at_false (begins_as_uri s) (LeavesUri s place) (LeavesAt s place) b) (any_says_fs s b) at most more old new r far w
