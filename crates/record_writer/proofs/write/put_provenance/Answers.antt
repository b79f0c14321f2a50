use Rattle.std.proofs.Common.{◌≡◌, List, [], ◌∷◌, ◌++◌, codes}
use Rattle.std.specs.List.{flat_map}
use Rattle.json.specs.Token.{Token, string, key, begin_object, end_object, begin_array, end_array}
use Rattle.json.specs.Tree.{json_tokens}
use Rattle.record_writer.specs.Written.{note_json}
use Rattle.record_writer.proofs.Pieces.{listed}
use Rattle.record_writer.proofs.write.put_provenance.Goals as goal

pub returns : goal.returns
returns c =
    let provenance = c.args.provenance.now in
    let opened = c.put.new.writer.tokens in
    let noted = c.put_notes.new.writer.tokens in
    let ended = c.put-2.new.writer.tokens in
    let prefix : List Token = begin_object ∷ key (codes "authority") ∷ string provenance.authority ∷ key (codes "changes") ∷ begin_array ∷ [] in
    let rest : List Token = key (codes "submitter") ∷ string provenance.submitter ∷ end_object ∷ [] in
    let first : opened ≡ c.args.writer.now.tokens ++ prefix = cc (c.in_ok-put.ensures.1, c.as_str.ensures) in
    let second : noted ≡ opened ++ flat_map (λ n. json_tokens (note_json n)) provenance.notes = cc (c.in_ok-put_notes.ensures.1, c.as_slice.ensures) in
    let third : ended ≡ noted ++ end_array ∷ rest = cc (c.in_ok-put-2.ensures.1, c.as_str-2.ensures) in
    (cc (c.in_ok-put.ensures.0, c.in_ok-put_notes.ensures.0, c.in_ok-put-2.ensures.0), listed note_json provenance.notes rest c.args.writer.now.tokens prefix opened noted ended first second third)
