use Rattle.std.proofs.Common.{ap, ◌∙◌}
use Rattle.cpe_rows.specs.cpe_name.declared.attribute.Attribute.TheVariants.{Part, Vendor, Product, Version, Update, Edition, Language, SwEdition, TargetSw, TargetHw, Other}
use Rattle.c_library.specs.Pairs.{relation_rank}
use Rattle.c_library.proofs.pairs.numbers_of.Goals as goal

pub returns : goal.returns
returns c a b are = λ i. record {
  whole = (c.rank.ensures ∙ ap relation_rank are.whole) i;
  part = (c.rank-2.ensures ∙ ap relation_rank (are.each Part)) i;
  vendor = (c.rank-3.ensures ∙ ap relation_rank (are.each Vendor)) i;
  product = (c.rank-4.ensures ∙ ap relation_rank (are.each Product)) i;
  version = (c.rank-5.ensures ∙ ap relation_rank (are.each Version)) i;
  update = (c.rank-6.ensures ∙ ap relation_rank (are.each Update)) i;
  edition = (c.rank-7.ensures ∙ ap relation_rank (are.each Edition)) i;
  language = (c.rank-8.ensures ∙ ap relation_rank (are.each Language)) i;
  sw_edition = (c.rank-9.ensures ∙ ap relation_rank (are.each SwEdition)) i;
  target_sw = (c.rank-10.ensures ∙ ap relation_rank (are.each TargetSw)) i;
  target_hw = (c.rank-11.ensures ∙ ap relation_rank (are.each TargetHw)) i;
  other = (c.rank-12.ensures ∙ ap relation_rank (are.each Other)) i;
}
