use Rattle.faultless_databases.proofs.Whole.{whole_catalog, no_definition}
use Rattle.faultless_databases.proofs.laws.no_catalog_line_is_at_fault.Goals as goal

pub returns-clause-whole : goal.returns-clause-whole
returns-clause-whole c = whole_catalog

pub returns-clause-none : goal.returns-clause-none
returns-clause-none c = no_definition
