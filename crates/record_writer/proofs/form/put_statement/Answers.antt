use Rattle.std.proofs.Common.{◌≡◌, List, [], ◌∷◌, ◌++◌, codes}
use Rattle.json.specs.Token.{Token, string, key, begin_object}
use Rattle.json.specs.Tree.{json_tokens}
use Rattle.cpe_records.specs.Words.{mode_word}
use Rattle.record_writer.specs.WrittenRecord.{test_json, titled_end}
use Rattle.record_writer.proofs.Pieces.{three}
use Rattle.record_writer.proofs.form.put_statement.Goals as goal

pub returns : goal.returns
returns c =
    let s = c.args.statement.now in
    let before : List Token =
    begin_object ∷ key (codes "do") ∷ string (codes "statement") ∷ key (codes "id") ∷ string s.id ∷ key (codes "mode") ∷ string (mode_word s.mode) ∷ key (codes "test") ∷ [] in
    let test : List Token = json_tokens (test_json s.test) in
    let t1 = c.put.new.writer.tokens in
    let t2 = c.put_test.new.writer.tokens in
    let t3 = c.put_titled_end.new.writer.tokens in
    let h1 : t1 ≡ c.args.writer.now.tokens ++ before = cc (c.in_ok-put.ensures.1, c.word.ensures, c.as_str.ensures, c.mode_word.ensures) in (
      cc (c.in_ok-put.ensures.0, c.in_ok-put_test.ensures.0, c.in_ok-put_titled_end.ensures.0),
      three c.args.writer.now.tokens before test (titled_end s.title) t1 t2 t3 h1 c.in_ok-put_test.ensures.1 c.in_ok-put_titled_end.ensures.1,
    )
