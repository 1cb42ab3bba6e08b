-- The worked map is sound.
use Rattle.std.proofs.Common.{◌≡◌, true, List, [], ◌∷◌, pos, Some, None, inl, refl, arith}
use Rattle.std.specs.List.{All, IsDistinct}
use Rattle.std.proofs.lemmas.List.Elements.{All-push}
use Rattle.std.proofs.lemmas.Int.{ints}
use Rattle.slot_fields.specs.Fields.{number_at}
use Rattle.rdb_types.specs.declared.values.Value.TheVariants.{Number}
use Rattle.record_format.specs.Values.{IsValue}
use Rattle.record_format.specs.Rows.{IsRowImage}
use Rattle.catalog_lines.specs.declared.line.CatalogLine.{CatalogLine}
use Rattle.catalog_lines.specs.declared.line.CatalogLine.TheVariants.{Relation, Field as FieldOf, Index}
use Rattle.catalog_lines.specs.Parts.{IsName, is_name_byte}
use Rattle.catalog_lines.specs.Lines.{IsCatalogLine}
use Rattle.catalog.specs.declared.directory.PlacedLine.{PlacedLine}
use Rattle.catalog.specs.declared.reading.Catalog.{Catalog}
use Rattle.catalog.specs.Schema.{catalog_tables, relation_fields}
use Rattle.catalog.specs.Reading.{IsPresent, IsCatalogOf}
use Rattle.relation_rows.specs.declared.stored.StoredRelation.{StoredRelation}
use Rattle.relation_rows.specs.Stored.{IsRowOf}
use Rattle.index_node.specs.declared.entry.NodeEntry.{NodeEntry}
use Rattle.index_node.specs.Node.{IsEntry, IsNode}
use Rattle.index_node.proofs.Nodes.{ascends_none, ascends_more}
use Rattle.relation_rows.specs.sorted_index_laws.Tree.{Tree, IsIndex}
use Rattle.sound_lines.specs.Contents.{stored, AreTablesWith, AreTablesOf}
use Rattle.sound_lines.specs.Sound.{IsSoundIndex, IsSoundRelation, IsSound}
use Rattle.sound_lines.specs.Worked.{at_page, row_bytes, relation_bytes, field_bytes, index_bytes, root_bytes, worked_lines, worked_field, worked_tables}

all_none : {X : Type 0} (P : X → Type 0) → All P []
all_none P k d inside = absurd (omega (arith, inside))

all_one : {X : Type 0} (P : X → Type 0) (x : X) → P x → All P (x ∷ [])
all_one P x is = All-push P [] x (all_none P) is

all_two : {X : Type 0} (P : X → Type 0) (x y : X) → P x → P y → All P (x ∷ y ∷ [])
all_two P x y is too = All-push P (x ∷ []) y (all_one P x is) too

-- ---- the catalog

abbrev relation_line : CatalogLine
relation_line = Relation (record { area = 16; class = 208; version = 1; name = 84 ∷ [] })

abbrev field_line : CatalogLine
field_line = FieldOf (record { relation = 16; position = 0; field = worked_field })

abbrev index_line : CatalogLine
index_line = Index (record { area = 17; relation = 16; unique = true; root = at_page 17 2; fields = 0 ∷ []; name = 88 ∷ [] })

letter_t : IsName (84 ∷ [])
letter_t = record { length = (omega arith, omega arith); letter = refl; bytes = all_one (λ b. is_name_byte b ≡ true) 84 refl }

letter_k : IsName (75 ∷ [])
letter_k = record { length = (omega arith, omega arith); letter = refl; bytes = all_one (λ b. is_name_byte b ≡ true) 75 refl }

letter_x : IsName (88 ∷ [])
letter_x = record { length = (omega arith, omega arith); letter = refl; bytes = all_one (λ b. is_name_byte b ≡ true) 88 refl }

relation_is : IsCatalogLine relation_bytes relation_line
unfolding number_at
relation_is = record {
  fields = (refl, (refl, (refl, (refl, (refl, (refl, refl))))));
  allowed = record { area = (omega arith, refl); class = inl refl; version = (omega arith, omega arith); name = letter_t };
}

field_is : IsCatalogLine field_bytes field_line
unfolding number_at
field_is = record {
  fields = (refl, (refl, (refl, (refl, (refl, (refl, (refl, (refl, (refl, refl)))))))));
  allowed = record { relation = (omega arith, refl); version = (omega arith, omega arith); kind = (omega arith, refl); name = letter_k };
}

index_is : IsCatalogLine index_bytes index_line
unfolding number_at
index_is = record {
  fields = (refl, (refl, (refl, (refl, (refl, (refl, (refl, (refl, (refl, (refl, (refl, refl)))))))))));
  allowed = record { area = (omega arith, refl); relation = (omega arith, refl); count = (omega arith, omega arith); name = letter_x };
}

abbrev relation_placed : PlacedLine
relation_placed = record { key = at_page 1 2; line = relation_line }

abbrev field_placed : PlacedLine
field_placed = record { key = at_page 1 3; line = field_line }

abbrev index_placed : PlacedLine
index_placed = record { key = at_page 1 4; line = index_line }

abbrev placed : List PlacedLine
placed = relation_placed ∷ field_placed ∷ index_placed ∷ []

abbrev its_catalog : Catalog
its_catalog = record { lines = placed; tables = catalog_tables placed }

decodes : IsCatalogOf worked_lines its_catalog
unfolding relation_fields
decodes = record {
  lines = record {
    keys = refl;
    images = All-push (IsPresent worked_lines) (relation_placed ∷ field_placed ∷ []) index_placed
        (all_two (IsPresent worked_lines) relation_placed field_placed
        (record { image = relation_bytes; present = refl; decodes = relation_is })
        (record { image = field_bytes; present = refl; decodes = field_is }))
        (record { image = index_bytes; present = refl; decodes = index_is });
  };
  fit = refl;
  tables = refl;
}

-- ---- the rows

seven : IsValue (Number (pos 7))
seven = omega (arith, ints)

nine : IsValue (Number (pos 9))
nine = omega (arith, ints)

image_of_seven : IsRowImage (row_bytes 7) 1 (Number (pos 7) ∷ [])
unfolding number_at
image_of_seven = record { fields = (refl, (refl, (refl, (refl, refl)))); versioned = (omega arith, omega arith); values = all_one IsValue _ seven }

image_of_nine : IsRowImage (row_bytes 9) 1 (Number (pos 9) ∷ [])
unfolding number_at
image_of_nine = record { fields = (refl, (refl, (refl, (refl, refl)))); versioned = (omega arith, omega arith); values = all_one IsValue _ nine }

abbrev rows_of_t : StoredRelation
rows_of_t = stored 1 (record { area = 16; fields = worked_field ∷ []; rows = [] })

row_of_seven : IsRowOf rows_of_t (row_bytes 7) (Number (pos 7) ∷ [])
row_of_seven = record { version = 1; values = Number (pos 7) ∷ []; stands = image_of_seven; fit = record { known = omega arith; count = refl; fit = refl }; whole = refl }

row_of_nine : IsRowOf rows_of_t (row_bytes 9) (Number (pos 9) ∷ [])
row_of_nine = record { version = 1; values = Number (pos 9) ∷ []; stands = image_of_nine; fit = record { known = omega arith; count = refl; fit = refl }; whole = refl }

its_tables : AreTablesWith worked_lines its_catalog worked_tables
unfolding relation_fields
its_tables = record {
  globals = refl;
  relations = (refl, record { area = refl; fields = refl; rows = (refl, row_of_seven, (refl, row_of_nine, tt)) }, tt);
  indexes = refl;
}

pub worked_has_tables : AreTablesOf worked_lines worked_tables
worked_has_tables = record { catalog = its_catalog; decodes = decodes; tables = its_tables }

-- ---- the index

abbrev first : NodeEntry
first = record { key = Number (pos 7) ∷ []; row = at_page 16 2; child = None }

abbrev second : NodeEntry
second = record { key = Number (pos 9) ∷ []; row = at_page 16 3; child = None }

first_is : IsEntry 0 first
first_is = record { key = all_one IsValue _ seven; short = omega arith; child = (λ h. absurd (let bad : ⊥ = cc in bad), λ h. absurd (omega (arith, h))) }

second_is : IsEntry 0 second
second_is = record { key = all_one IsValue _ nine; short = omega arith; child = (λ h. absurd (let bad : ⊥ = cc in bad), λ h. absurd (omega (arith, h))) }

root_is : IsNode root_bytes (record { level = 0; entries = first ∷ second ∷ [] })
unfolding number_at
root_is = record {
  fields = (refl, (refl, (refl, (refl, (refl, (refl, (refl, (refl, (refl, (refl, (refl, (refl, (refl, (refl, (refl, refl)))))))))))))));
  allowed = record {
    entries = all_two (IsEntry 0) first second first_is second_is;
    ascending = ascends_more (first ∷ second ∷ []) 1 first second true (omega arith) (omega arith) refl refl refl refl (ascends_none (first ∷ second ∷ []));
  };
  small = omega arith;
}

abbrev its_tree : Tree 0
its_tree = record { at = at_page 17 2; entries = first ∷ second ∷ [] }

in_order : IsIndex worked_lines (at_page 17 2) 0 its_tree
unfolding IsDistinct
in_order = record { rooted = refl; stands = (refl, root_is); once = (tt, tt) }

index_is_sound : IsSoundIndex worked_lines (record { area = 17; relation = 16; unique = true; root = at_page 17 2; fields = 0 ∷ []; name = 88 ∷ [] }) (Some (record { area = 16; fields = worked_field ∷ []; rows = (at_page 16 2, Number (pos 7) ∷ []) ∷ (at_page 16 3, Number (pos 9) ∷ []) ∷ [] }))
index_is_sound = record { short = omega arith; is = record { level = 0; tree = its_tree; is = in_order; holds = refl }; unique = λ _. refl }

relation_is_sound : IsSoundRelation (record { area = 16; class = 208; version = 1; name = 84 ∷ [] }) (worked_field ∷ [])
relation_is_sound = record { class = refl; versions = refl; version = omega arith }

-- ---- the map

pub worked_is_sound : IsSound worked_lines
worked_is_sound = record {
  catalog = its_catalog;
  decodes = decodes;
  tables = worked_tables;
  are = its_tables;
  things = (relation_is_sound, (tt, (index_is_sound, tt)));
  owned = ((λ odd. absurd (omega (arith, odd))), ((λ odd. absurd (omega (arith, odd))), ((λ odd. absurd (omega (arith, odd))), ((λ _. refl), ((λ _. refl), ((λ odd. absurd (omega (arith, odd))), tt))))));
}
