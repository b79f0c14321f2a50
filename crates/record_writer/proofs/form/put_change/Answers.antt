use Rattle.std.proofs.Common.{◌≡◌, List, [], ◌∷◌, ◌++◌, codes, ap, sym, ◌∙◌}
use Rattle.std.specs.List.{flat_map}
use Rattle.json.specs.Token.{Token, string, key, begin_object, begin_array, end_array, end_object}
use Rattle.json.specs.Tree.{json_tokens}
use Rattle.cpe_records.specs.Words.{kind_word}
use Rattle.cpe_records.specs.RecordKinds.{record_word}
use Rattle.record_writer.specs.NameObject.{name_object}
use Rattle.record_writer.proofs.Pieces.{around, closed}
use Rattle.record_writer.proofs.form.put_change.Goals as goal

pub returns : goal.returns
returns c =
    let d = c.args.deprecation.now in
    let start = c.args.writer.now.tokens in
    let before : List Token =
    begin_object ∷ key (codes "comment") ∷ string c.args.comment.now ∷ key (codes "date") ∷ string c.args.date.now ∷ key (codes "do") ∷ string (record_word c.args.kind) ∷ key (codes "kind") ∷ string (kind_word d.kind)
    ∷ key (codes "name") ∷ [] in
    let name : List Token = json_tokens (name_object c.args.name.now) in
    let between : List Token = key (codes "successors") ∷ begin_array ∷ [] in
    let names : List Token = flat_map (λ n. json_tokens (name_object n)) d.successors in
    let last : List Token = key (codes "v") ∷ string (codes "2") ∷ end_object ∷ [] in
    let t1 = c.put_change_head.new.writer.tokens in
    let t2 = c.put_name_objects.new.writer.tokens in
    let t3 = c.put.new.writer.tokens in
    let h2 : t2 ≡ t1 ++ names = cc (c.in_ok-put_name_objects.ensures.1, c.as_slice.ensures) in
    let all : t3 ≡ start ++ (before ++ (name ++ (between ++ (names ++ end_array ∷ last)))) =
    around start before name between names (end_array ∷ last) t1 t2 t3 c.in_ok-put_change_head.ensures.1 h2 c.in_ok-put.ensures.1 in (
      cc (c.in_ok-put_change_head.ensures.0, c.in_ok-put_name_objects.ensures.0, c.in_ok-put.ensures.0),
      all ∙ ap (λ (z : List Token). start ++ (before ++ (name ++ (between ++ z)))) (sym (closed name_object d.successors last)),
    )
