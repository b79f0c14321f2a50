-- The fit that a reference to a fit means.
use Rattle.certificate_search.specs.Choices.{Fit}
use Rattle.certificate_search.specs.declared.fits.FitRef.{FitRef}

abbrev pub lent_fit : FitRef → Fit
lent_fit f = record { item = f.item.now; item_end = f.item_end.now; fact_end = f.fact_end.now }
