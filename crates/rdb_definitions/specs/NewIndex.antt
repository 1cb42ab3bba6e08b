-- The index that a definition brings.
use Rattle.rdo_ast.specs.declared.syntax.IndexDefinition.{IndexDefinition}
use Rattle.rdb_checks.specs.rdb_meaning.declared.tables.Index.{Index}
use Rattle.rdb_checks.specs.rdb_meaning.declared.tables.Tables.{Tables}
use Rattle.rdb_checks.specs.rdb_meaning.Contents.{relation_named, fields_of, new_index_area}
use Rattle.rdb_checks.specs.rdb_meaning.Defining.{positions_of}
use Rattle.rdb_checks.specs.rdb_meaning.Execution.{area_of}

abbrev pub new_index : IndexDefinition → Tables → Index
new_index d t =
    record {
      area = new_index_area t;
      relation = area_of (relation_named d.relation t);
      unique = d.unique;
      fields = positions_of d.fields (fields_of (relation_named d.relation t));
    }
