use Rattle.cpe_name.proofs.Tags.{letters_scans, third_scans, code_scans, tag_scans, tag_taken, tag_case, tag_lawful, tag_text, text_tag}
use Rattle.cpe_name.proofs.tag.language_tags.Goals as goal

pub returns : goal.returns
returns c = record {
  letters = letters_scans;
  third = third_scans;
  code = code_scans;
  tags = tag_scans;
  taken = tag_taken;
  language = λ u. ((λ h. tag_text u (tag_case u h)), (λ t. tag_lawful u (text_tag u t)));
}
