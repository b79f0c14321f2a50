use Rattle.std.proofs.Common.{true, false, List, sym, ap, subst, ◌∙◌, ◌<◌, length}
use Rattle.name_index.specs.Blocks.{Numbers, AllAre}
use Rattle.name_index.specs.Places.{Block, before, numbers_behind}
use Rattle.name_index.proofs.BlockLemmas.{whole}
use Rattle.name_index.proofs.blocks.Blocks.put.Goals as goal

pub returns : goal.returns
returns g c =
    let p = g.T.Test.passes c.args.test.now in
    let bs = c.self.inside.blocks.items in
    let i = c.find-place.result.block in
    let at = c.find-place.result.at in
    let value = c.deref.ensures.value in
    record {
      front = before bs i at;
      back = numbers_behind bs i at;
      whole = ap (λ (n : Numbers). n.items) (sym c.self.view_is) ∙ whole bs i at (subst (λ (u : List Block). i < length u) value c.find-place.ensures.inside);
      passing = subst (λ (u : List Block). AllAre p true (before u i at)) value c.find-place.ensures.passing;
      failing = subst (λ (u : List Block). AllAre p false (numbers_behind u i at)) value c.find-place.ensures.failing;
      put = c.put_at.ensures.put;
    }
