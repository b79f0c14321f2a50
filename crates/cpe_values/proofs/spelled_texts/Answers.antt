use Rattle.cpe_values.proofs.Edges.{edge_scans, edge_text_taken}
use Rattle.cpe_values.proofs.Stems.{stem_scans, stem_text_taken}
use Rattle.cpe_values.proofs.spelled_texts.Goals as goal

pub returns : goal.returns
returns c = record { edges = edge_scans; edge = edge_text_taken; stems = stem_scans; stem = stem_text_taken }
