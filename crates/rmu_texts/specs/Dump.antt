-- What a database is and holds, as it is written.
use Rattle.std.specs.Prelude.{ℕ, List, ◌++◌, codes}
use Rattle.std.specs.List.{flat_map}
use Rattle.rdb_types.specs.declared.keys.Limits.{Limits}
use Rattle.root_file.specs.declared.Root.{Root}
use Rattle.rmu_texts.specs.Numbers.{numbered}
use Rattle.rmu_texts.specs.declared.dump.Counted.{Counted}
use Rattle.rmu_texts.specs.declared.dump.Dump.{Dump}

abbrev pub format_line : ℕ → ℕ → List ℕ
format_line format state = numbered (codes "database format ") format ++ numbered (codes " state ") state ++ codes "\n"

-- pages, snapshot slots, undo entries, slots of the after-image journal
abbrev pub limits_line : Limits → List ℕ
limits_line l = numbered (codes "limits ") l.pages ++ numbered (codes " ") l.snaps ++ numbered (codes " ") l.entries ++ numbered (codes " ") l.slots ++ codes "\n"

abbrev pub ceiling_line : ℕ → List ℕ
ceiling_line ceiling = numbered (codes "ceiling ") ceiling ++ codes "\n"

abbrev pub root_lines : Root → List ℕ
root_lines r = format_line r.format r.state ++ limits_line r.limits ++ ceiling_line r.ceiling

abbrev pub counted_line : List ℕ → Counted → List ℕ
counted_line words c = words ++ c.name ++ numbered (codes " area ") c.area ++ numbered (codes " lines ") c.lines ++ codes "\n"

abbrev pub groups_line : ℕ → List ℕ
groups_line groups = numbered (codes "groups ") groups ++ codes "\n"

abbrev pub dump_text : Dump → List ℕ
dump_text d = root_lines d.root ++ flat_map (counted_line (codes "relation ")) d.relations ++ flat_map (counted_line (codes "index ")) d.indexes ++ groups_line d.groups
