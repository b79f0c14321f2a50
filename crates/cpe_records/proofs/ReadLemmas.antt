-- Lemmas: properties of what is read, if it is read in steps that each have a property.
use Rattle.std.proofs.Common.{◌≡◌, ℕ, ◌+◌, List, [], ◌∷◌, Bool, true, false, Option, Some, None, IfSome, if◌then◌else◌, refl}
use Rattle.std.specs.Prelude.{Result, Ok, Err, IfOk, option_and_then, option_map}
use Rattle.std.specs.List.{AllByRecursion}
use Rattle.serde_json.specs.Data.{Data}
use Rattle.cpe_records.specs.FirstFault.{◌>>=◌, all_from}
use Rattle.cpe_records.specs.Forms.{required_member, or_default, tested}
use Rattle.cpe_records.specs.declared.member.Member.{Member}

pub then_if : {A B E : Type 0} (P : A → Type 0) (Q : B → Type 0) (r : Result A E) (f : A → Result B E) → IfOk r P → ((x : A) → P x → IfOk (f x) Q) → IfOk (r >>= f) Q
then_if P Q (Ok x) f h k = k x h
then_if P Q (Err e) f h k = tt

pub behind_if : {A B E : Type 0} (Q : B → Type 0) (r : Result A E) (f : A → Result B E) → ((x : A) → IfOk (f x) Q) → IfOk (r >>= f) Q
behind_if Q (Ok x) f k = k x
behind_if Q (Err e) f k = tt

pub all_if : {A B E : Type 0} (P : A → Type 0) (Q : B → Type 0) (f : ℕ → A → Result B E) (n : ℕ) (xs : List A) → ((k : ℕ) (x : A) → P x → IfOk (f k x) Q) → AllByRecursion P xs
    → IfOk (all_from f n xs) (AllByRecursion Q)
all_if P Q f n [] each h = tt
all_if P Q f n (x ∷ xs) each h =
    then_if Q (AllByRecursion Q) (f n x) (λ y. all_from f (n + 1) xs >>= λ ys. Ok (y ∷ ys)) (each n x h.0)
    (λ y one. then_if (AllByRecursion Q) (AllByRecursion Q) (all_from f (n + 1) xs) (λ ys. Ok (y ∷ ys)) (all_if P Q f (n + 1) xs each h.1) (λ ys more. (one, more)))

pub required_if : {A : Type 0} (P : A → Type 0) (m : Member) (o : Option A) → IfSome o P → IfOk (required_member m o) P
required_if P m (Some x) h = h
required_if P m None h = tt

pub some_if : {A B : Type 0} (P : A → Type 0) (Q : B → Type 0) (o : Option A) (f : A → Option B) → IfSome o P → ((x : A) → P x → IfSome (f x) Q) → IfSome (option_and_then f o) Q
some_if P Q (Some x) f h k = k x h
some_if P Q None f h k = tt

pub map_if : {A B : Type 0} (P : A → Type 0) (Q : B → Type 0) (o : Option A) (f : A → B) → IfSome o P → ((x : A) → P x → Q (f x)) → IfSome (option_map f o) Q
map_if P Q (Some x) f h k = k x h
map_if P Q None f h k = tt

pub default_if : {A : Type 0} (P : A → Type 0) (Q : Data → Type 0) (default : A) (form : Data → Option A) (o : Option Data) → P default → ((d : Data) → Q d → IfSome (form d) P) → IfSome o Q
    → IfSome (or_default default form o) P
default_if P Q default form (Some d) at_default each h = each d h
default_if P Q default form None at_default each h = at_default

pub tested_if : (passes : List ℕ → Bool) (P : List ℕ → Type 0) (s : List ℕ) → P s → IfSome (tested passes s) (λ t. P t × (passes t ≡ true))
tested_if passes P s h = by (passes s) refl where
  by : (b : Bool) → passes s ≡ b → IfSome (if b then Some s else None) (λ t. P t × (passes t ≡ true))
  by true e = (h, e)
  by false e = tt
