use Rattle.std.proofs.Common.{ℕ, List, ◌∷◌, sym, ap, ◌∙◌}
use Rattle.cpe_fs.proofs.AnyTail.{tail_taken, tail_components}
use Rattle.cpe_fs.proofs.scan.scan_fields.Goals as goal

pub returns-then-is_any_tail-clause-scans : goal.returns-then-is_any_tail-clause-scans
returns-then-is_any_tail-clause-scans c =
    rw (c.in_ok-part.ensures.scans, c.in_ok-vendor.ensures.scans, c.in_ok-product.ensures.scans, c.in_ok-version.ensures.scans)
    (tail_taken _ (c.is_any_tail.ensures c.if-is_any_tail.true))

pub returns-then-is_any_tail-clause-texts : goal.returns-then-is_any_tail-clause-texts
returns-then-is_any_tail-clause-texts c =
    c.with_any_tail.ensures ∙
    rw (sym c.in_ok-part.ensures.rest, sym c.in_ok-part.ensures.component, sym c.in_ok-vendor.ensures.rest, sym c.in_ok-vendor.ensures.component)
    rw (sym c.in_ok-product.ensures.rest, sym c.in_ok-product.ensures.component, sym c.in_ok-version.ensures.rest, sym c.in_ok-version.ensures.component)
    (ap (λ (us : List (List ℕ)). c.in_ok-part.part.now ∷ c.in_ok-vendor.vendor.now ∷ c.in_ok-product.product.now ∷ c.in_ok-version.version.now ∷ us) (sym (tail_components _ (c.is_any_tail.ensures c.if-is_any_tail.true))))
