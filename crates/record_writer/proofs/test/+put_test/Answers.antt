use Rattle.std.proofs.Common.{◌≡◌, List, [], ◌∷◌, ◌++◌, codes, ap, subst, sym, ◌∙◌}
use Rattle.json.specs.Token.{Token, string, boolean, key, begin_object, begin_array, end_array, end_object}
use Rattle.json.specs.Tree.{json_tokens}
use Rattle.cpe_records.specs.Words.{operator_word}
use Rattle.record_writer.specs.Puts.{AppendsTokens}
use Rattle.record_writer.specs.WrittenRecord.{test_json}
use Rattle.record_writer.proofs.Pieces.{looped}
use Rattle.record_writer.proofs.TestForms.{json-logic, json-fact, json-check}
use Rattle.record_writer.proofs.test.+put_test.Goals as goal

pub returns-in_ok-put-in-Logic-2 : goal.returns-in_ok-put-in-Logic-2
returns-in_ok-put-in-Logic-2 t c =
    let start = c.args.writer.now.tokens in
    let of = c.in-Logic.of in
    let before : List Token = begin_object ∷ key (codes "negate") ∷ boolean c.in-Logic.negate ∷ key (codes "of") ∷ begin_array ∷ [] in
    let rest : List Token = key (codes "op") ∷ string (operator_word c.in-Logic.operator) ∷ end_object ∷ [] in
    let last : c.put-in-Logic.new.writer.tokens ≡ c.loop-child.writer.tokens ++ end_array ∷ rest = cc (c.in_ok-put-in-Logic-2.ensures.1, c.operator_word.ensures) in (
      cc (c.in_ok-put-in-Logic.ensures.0, c.loop-child.invariant.0, c.in_ok-put-in-Logic-2.ensures.0),
      looped (λ j. j) test_json of c.as_slice-child-items.result.now c.loop-child.child-index c.loop-child-test.false c.as_slice-child-items.ensures
          rest start before c.put.new.writer.tokens c.loop-child.writer.tokens c.put-in-Logic.new.writer.tokens c.in_ok-put-in-Logic.ensures.1 c.loop-child.invariant.1 last
          ∙ ap (λ j. start ++ json_tokens j) (sym (json-logic c.args.test.now c.in-Logic.operator c.in-Logic.negate of c.in-Logic.is)),
    )

pub returns-in-Fact : goal.returns-in-Fact
returns-in-Fact t c =
    subst (λ j. AppendsTokens c.put_fact.result c.args.writer.now c.put_fact.new.writer (json_tokens j))
    (sym (json-fact c.args.test.now c.in-Fact.name c.in-Fact.is)) c.put_fact.ensures

pub returns-in-Check : goal.returns-in-Check
returns-in-Check t c =
    subst (λ j. AppendsTokens c.put_check.result c.args.writer.now c.put_check.new.writer (json_tokens j))
    (sym (json-check c.args.test.now c.in-Check.key c.in-Check.is)) c.put_check.ensures
