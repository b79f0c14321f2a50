use Rattle.std.proofs.Common.{List, [], ◌∷◌, ◌++◌, codes}
use Rattle.json.specs.Token.{Token, key, begin_object, begin_array, end_array}
use Rattle.json.specs.Tree.{items_tokens}
use Rattle.record_writer.specs.Written.{items_by, name_json}
use Rattle.record_writer.proofs.Pieces.{listed, two}
use Rattle.certificate_records.specs.Written.{truth_end}
use Rattle.certificate_records.proofs.put.put_pair.Goals as goal

pub returns : goal.returns
returns c =
    let named = c.put_names.new.writer.tokens in
    let listing = c.put_names-2.new.writer.tokens in
    let ended = c.put_truth.new.writer.tokens in
    let rest = truth_end c.args.truth in
    let opened : List Token = begin_object ∷ key (codes "fact") ∷ begin_array ∷ [] in
    let between : List Token = key (codes "item") ∷ begin_array ∷ [] in
    let last = two listing (end_array ∷ []) rest c.put-3.new.writer.tokens ended c.in_ok-put-3.ensures.1 c.in_ok-put_truth.ensures.1 in
    let items = listed name_json c.args.item.now rest named (end_array ∷ between) c.put-2.new.writer.tokens listing ended c.in_ok-put-2.ensures.1 c.in_ok-put_names-2.ensures.1 last in (
      cc (c.in_ok-put.ensures.0, c.in_ok-put_names.ensures.0, c.in_ok-put-2.ensures.0, c.in_ok-put_names-2.ensures.0, c.in_ok-put-3.ensures.0, c.in_ok-put_truth.ensures.0),
      listed name_json c.args.fact.now (between ++ (items_tokens (items_by name_json c.args.item.now) ++ rest)) c.args.writer.now.tokens opened c.put.new.writer.tokens named ended
          c.in_ok-put.ensures.1 c.in_ok-put_names.ensures.1 items,
    )
