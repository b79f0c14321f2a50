use Rattle.std.proofs.Common.{◌≡◌, List, [], ◌∷◌, ◌++◌, codes}
use Rattle.json.specs.Token.{Token, string, key, begin_object}
use Rattle.json.specs.Tree.{json_tokens}
use Rattle.record_writer.specs.NameObject.{name_object}
use Rattle.record_writer.specs.Written.{provenance_json}
use Rattle.record_writer.specs.WrittenRecord.{titled_end}
use Rattle.record_writer.proofs.Pieces.{around}
use Rattle.record_writer.proofs.form.put_entry_record.Goals as goal

pub returns : goal.returns
returns c =
    let e = c.args.entry.now in
    let before : List Token = begin_object ∷ key (codes "do") ∷ string (codes "entry") ∷ key (codes "name") ∷ [] in
    let name : List Token = json_tokens (name_object e.name) in
    let between : List Token = key (codes "provenance") ∷ [] in
    let provenance : List Token = json_tokens (provenance_json e.provenance) in
    let t1 = c.put_around_name.new.writer.tokens in
    let t2 = c.put_provenance.new.writer.tokens in
    let t3 = c.put_titled_end.new.writer.tokens in
    let h1 : t1 ≡ c.args.writer.now.tokens ++ (before ++ (name ++ between)) = cc (c.in_ok-put_around_name.ensures.1, c.word.ensures) in (
      cc (c.in_ok-put_around_name.ensures.0, c.in_ok-put_provenance.ensures.0, c.in_ok-put_titled_end.ensures.0),
      around c.args.writer.now.tokens before name between provenance (titled_end e.title) t1 t2 t3 h1 c.in_ok-put_provenance.ensures.1 c.in_ok-put_titled_end.ensures.1,
    )
