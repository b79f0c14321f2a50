use Rattle.std.proofs.Common.{◌≡◌, ◌++◌, List, ℕ, subst}
use Rattle.std.specs.Prelude.{OnOk}
use Rattle.line_replies.proofs.ChainTexts.{lent_answer}
use Rattle.line_replies.proofs.chain.push_chain_lent.Goals as goal

pub returns : goal.returns
returns c entries same =
    subst (λ (text : List ℕ). OnOk c.push_links.result (c.push_links.new.page ≡ c.args.page.now ++ text))
    (lent_answer c.args.name.now c.args.links.now entries c.absent_names_are_alone.ensures.chains c.absent_names_are_alone.ensures.ends same)
    c.push_links.ensures
