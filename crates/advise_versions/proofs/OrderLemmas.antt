-- Lemmas about the order of pieces and of versions.
use Rattle.std.proofs.Common.{◌≡◌, ℕ, false, eqb, eq-eqb, List, drop, get_or, refl, ap, subst}
use Rattle.std.specs.declared.cmp.Ordering.TheVariants.{Equal}
use Rattle.std.specs.Cmp.{IsTotalOrder}
use Rattle.std.specs.Cmp.Lexicographic.{slice_cmp}
use Rattle.std.specs.FinMap.{slice_cmp-IsAntisymmetric, nat_cmp-IsAntisymmetric}
use Rattle.std.proofs.lemmas.Cmp.{lists_total, on_total, nat_list_cmp_total, tied_itself}
use Rattle.advise_versions.specs.Pieces.{Piece, Word, End, Number, version_pieces}
use Rattle.advise_versions.specs.Order.{piece_key, piece_order, version_order, IsVersionOrder}

abbrev first : List ℕ → ℕ
first xs = get_or xs 0 0

unequal : (m n : ℕ) → m ≡ n → eqb m n ≡ false → ⊥
unequal m n e f = let t = eq-eqb m n e in let wrong : ⊥ = cc in wrong

same_key : (p q : Piece) → piece_key p ≡ piece_key q → p ≡ q
same_key (Word a) (Word b) e = ap (λ k. Word (drop 1 k)) e
same_key (Word a) End e = absurd (unequal 0 1 (ap first e) refl)
same_key (Word a) (Number b) e = absurd (unequal 0 2 (ap first e) refl)
same_key End (Word b) e = absurd (unequal 1 0 (ap first e) refl)
same_key End End e = refl
same_key End (Number b) e = absurd (unequal 1 2 (ap first e) refl)
same_key (Number a) (Word b) e = absurd (unequal 2 0 (ap first e) refl)
same_key (Number a) End e = absurd (unequal 2 1 (ap first e) refl)
same_key (Number a) (Number b) e = ap (λ k. Number (drop 2 k)) e

pub piece_order_total : IsTotalOrder piece_order
piece_order_total = on_total piece_key nat_list_cmp_total

pub versions_ordered : IsVersionOrder version_order
versions_ordered = record {
  total = on_total version_pieces (lists_total piece_order_total);
  equal = λ a b. (
    λ e. slice_cmp-IsAntisymmetric (λ p q h. same_key p q (slice_cmp-IsAntisymmetric nat_cmp-IsAntisymmetric (piece_key p) (piece_key q) h)) (version_pieces a) (version_pieces b) e,
    λ e. subst (λ ps. slice_cmp piece_order (version_pieces a) ps ≡ Equal) e (tied_itself (lists_total piece_order_total) (version_pieces a)),
  );
}
