-- Lemma: two writes, one after the other, append the bytes of both.
use Rattle.std.proofs.Common.{◌≡◌, ℕ, List, ◌++◌, ap, append_assoc, ◌∙◌}

pub put_more : (x y z a b : List ℕ) → y ≡ x ++ a → z ≡ y ++ b → z ≡ x ++ (a ++ b)
put_more x y z a b first second = second ∙ ap (λ (u : List ℕ). u ++ b) first ∙ append_assoc x a b
