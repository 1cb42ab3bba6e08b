use Rattle.rdo_labels.proofs.SteadyStatements.{read_alike, refused_alike, text_read_alike, text_refused_alike}
use Rattle.rdo_labels.proofs.laws.labels_do_not_matter.Goals as goal

pub returns : goal.returns
returns c = record { read = read_alike; refused = refused_alike; text_read = text_read_alike; text_refused = text_refused_alike }
