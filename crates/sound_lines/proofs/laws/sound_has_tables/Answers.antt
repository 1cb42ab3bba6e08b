use Rattle.sound_lines.proofs.laws.sound_has_tables.Goals as goal

pub returns : goal.returns
returns c = λ all is. record { catalog = is.catalog; decodes = is.decodes; tables = is.are }
