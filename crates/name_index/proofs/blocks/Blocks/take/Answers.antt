use Rattle.std.proofs.Common.{ℕ, ◌+◌, ◌∷◌, ◌++◌, List, sym, ap, subst, ◌∙◌, ◌<◌, length, true, ◌≡◌}
use Rattle.std.specs.List.{Contains, list_any}
use Rattle.name_index.specs.Blocks.{Numbers, AllAre}
use Rattle.name_index.specs.Places.{Block, flat, before, numbers_behind}
use Rattle.name_index.proofs.BlockLemmas.{whole}
use Rattle.name_index.proofs.Taken.{is, is_behind}
use Rattle.name_index.proofs.blocks.Blocks.take.Goals as goal

pub place_of-place-requires : goal.place_of-place-requires
place_of-place-requires g c =
    let p = g.T.Test.passes c.args.test.now in
    let bs = c.self.inside.blocks.items in
    let i = c.find_block-from.result in
    let n = c.args.number in
    let inside = subst (λ (u : List Block). i < length u) c.deref.ensures.value c.find_block-from.ensures.inside in
    let passing = subst (λ (u : List Block). AllAre p true (before u i 0)) c.deref.ensures.value c.find_block-from.ensures.passing in
    let there = subst (λ (u : Numbers). Contains u.items n) (sym c.self.view_is) c.requires.there in
    subst (λ (u : List Block). list_any (is n) (numbers_behind u i 0) ≡ true) (sym c.deref-2.ensures.value) (is_behind p n (flat bs) (before bs i 0) (numbers_behind bs i 0) (whole bs i 0 inside) c.requires.fails passing there)

pub returns : goal.returns
returns g c =
    let bs = c.self.inside.blocks.items in
    let i = c.place_of-place.result.block in
    let at = c.place_of-place.result.at in
    let n = c.args.number in
    let value = c.deref-2.ensures.value in
    let inside = subst (λ (u : List Block). i < length u) value c.place_of-place.ensures.inside in
    record {
      front = before bs i at;
      back = numbers_behind bs i (at + 1);
      whole = ap (λ (u : Numbers). u.items) (sym c.self.view_is) ∙ whole bs i at inside ∙ ap (λ (u : List ℕ). before bs i at ++ u) (subst (λ (u : List Block). numbers_behind u i at ≡ n ∷ numbers_behind u i (at + 1)) value c.place_of-place.ensures.is);
      left = c.take_and_join.ensures.taken;
    }
