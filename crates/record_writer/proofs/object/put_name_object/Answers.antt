use Rattle.std.proofs.Common.{List, [], ◌∷◌, ◌++◌, ap, sym, ◌∙◌}
use Rattle.std.specs.List.{flat_map}
use Rattle.json.specs.Token.{Token, begin_object, end_object}
use Rattle.record_writer.specs.NameObject.{sorted_attributes, value_tokens, name_object}
use Rattle.record_writer.proofs.Pieces.{three, closed_values}
use Rattle.record_writer.proofs.object.put_name_object.Goals as goal

pub returns : goal.returns
unfolding name_object
returns c =
    let start = c.args.writer.now.tokens in
    let opened : List Token = begin_object ∷ [] in
    let values : List Token = flat_map (value_tokens c.args.name.now) sorted_attributes in
    let ended : List Token = end_object ∷ [] in (
      cc (c.in_ok-put.ensures.0, c.in_ok-put_attributes.ensures.0, c.in_ok-put-2.ensures.0),
      three start opened values ended c.put.new.writer.tokens c.put_attributes.new.writer.tokens c.put-2.new.writer.tokens c.in_ok-put.ensures.1 c.in_ok-put_attributes.ensures.1 c.in_ok-put-2.ensures.1
          ∙ ap (λ (z : List Token). start ++ begin_object ∷ z) (sym (closed_values c.args.name.now sorted_attributes)),
    )
