use Rattle.std.proofs.Common.{List, [], ◌∷◌, ◌++◌, option_map, codes, ap, subst, sym, ◌∙◌}
use Rattle.json.specs.Token.{Token, key, begin_object, begin_array, end_array}
use Rattle.json.specs.Tree.{json_tokens}
use Rattle.record_writer.specs.Puts.{AppendsTokens}
use Rattle.record_writer.proofs.Pieces.{looped, two}
use Rattle.certificate_records.specs.Written.{or_null, pair_json, truth_end, why_json}
use Rattle.certificate_records.proofs.Forms.{json-logic, json-pair, json-plain}
use Rattle.certificate_records.proofs.put.+put_why.Goals as goal

pub returns-in_ok-put_truth-in-Logic : goal.returns-in_ok-put_truth-in-Logic
returns-in_ok-put_truth-in-Logic t c =
    let start = c.args.writer.now.tokens in
    let of = c.in-Logic.of in
    let before : List Token = begin_object ∷ key (codes "of") ∷ begin_array ∷ [] in
    let rest = truth_end c.in-Logic.truth in
    let last = two c.loop-given.writer.tokens (end_array ∷ []) rest c.put-in-Logic.new.writer.tokens c.put_truth.new.writer.tokens c.in_ok-put-in-Logic-3.ensures.1 c.in_ok-put_truth-in-Logic.ensures.1 in (
      cc (c.in_ok-put-in-Logic.ensures.0, c.loop-given.invariant.0, c.in_ok-put-in-Logic-3.ensures.0, c.in_ok-put_truth-in-Logic.ensures.0),
      looped or_null (option_map why_json) of c.as_slice-given-items.result.now c.loop-given.given-index c.loop-given-test.false c.as_slice-given-items.ensures
          rest start before c.put.new.writer.tokens c.loop-given.writer.tokens c.put_truth.new.writer.tokens c.in_ok-put-in-Logic.ensures.1 c.loop-given.invariant.1 last
          ∙ ap (λ j. start ++ json_tokens j) (sym (json-logic c.args.why.now c.in-Logic.truth of c.in-Logic.is)),
    )

pub returns-in-Pair : goal.returns-in-Pair
returns-in-Pair t c =
    subst (λ j. AppendsTokens c.put_pair.result c.args.writer.now c.put_pair.new.writer (json_tokens j))
    ((λ i. pair_json c.in-Pair.truth (c.as_slice.ensures i) (c.as_slice-in-Pair.ensures i)) ∙ sym (json-pair c.args.why.now c.in-Pair.truth c.in-Pair.fact c.in-Pair.item c.in-Pair.is))
    c.put_pair.ensures

pub returns-in-Plain : goal.returns-in-Plain
returns-in-Plain t c =
    subst (λ j. AppendsTokens c.put_plain.result c.args.writer.now c.put_plain.new.writer (json_tokens j))
    (sym (json-plain c.args.why.now c.in-Plain.truth c.in-Plain.is)) c.put_plain.ensures
