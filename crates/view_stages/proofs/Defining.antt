-- The record of a definition or a deletion.
use Rattle.std.proofs.Common.{◌≡◌, ℕ, true, List, [], Some, None, refl, ap, ◌∙◌}
use Rattle.rdo_ast.specs.declared.reply.Reply.{Reply}
use Rattle.rdo_ast.specs.declared.reply.Reply.TheVariants as r
use Rattle.rdo_ast.specs.declared.reply.Standing.{Standing}
use Rattle.rdo_ast.specs.Tree.{Command, invoke, start_read_only, start_read_write, commit, rollback, finish, back_up, perform, define_field, define_relation, define_index, delete_relation, delete_index, said}
use Rattle.rdb_meaning.specs.declared.tables.Tables.{Tables}
use Rattle.rdb_meaning.specs.Meaning.{meaning, unless, doing, command_refusal, after, standing_after}
use Rattle.line_view.specs.Knowledge.{Lines}
use Rattle.line_view.specs.declared.writes.Write.{Write}
use Rattle.line_view.specs.Writes.{laid_all}
use Rattle.catalog.specs.declared.reading.Catalog.{Catalog}
use Rattle.sound_changes.specs.Standing.{IsSoundAs}
use Rattle.sound_changes.proofs.AllDone.{is_sound, are_tables}
use Rattle.view_stages.specs.Records.{IsRightOver, is_definition}

-- what it means
means_so : (word : List ℕ) (standing : Standing) (command : Command) (t : Tables) → is_definition command ≡ true → meaning word standing (said command) [] t ≡ unless (command_refusal word command standing t) t standing [] (doing (after command t) (standing_after command standing) [])
means_so word standing (define_field n type) t is = refl
means_so word standing (define_relation n fields) t is = refl
means_so word standing (define_index d) t is = refl
means_so word standing (delete_relation n) t is = refl
means_so word standing (delete_index n) t is = refl
means_so word standing (invoke text) t is = let bad : ⊥ = cc in absurd bad
means_so word standing start_read_only t is = let bad : ⊥ = cc in absurd bad
means_so word standing (start_read_write wait rs) t is = let bad : ⊥ = cc in absurd bad
means_so word standing commit t is = let bad : ⊥ = cc in absurd bad
means_so word standing rollback t is = let bad : ⊥ = cc in absurd bad
means_so word standing finish t is = let bad : ⊥ = cc in absurd bad
means_so word standing (back_up n) t is = let bad : ⊥ = cc in absurd bad
means_so word standing (perform a) t is = let bad : ⊥ = cc in absurd bad

-- one that nothing refuses
pub definition_ends : (c : Catalog) (word : List ℕ) (standing : Standing) (command : Command) (writes : List Write) (all : Lines) (t : Tables) → is_definition command ≡ true → command_refusal word command standing t ≡ None →
    IsSoundAs (laid_all writes all) c (after command t) → IsRightOver word standing command (record { choices = []; reply = r.Done []; writes = writes }) all t
definition_ends c word standing command writes all t is free sound = record {
  after = after command t;
  left = standing_after command standing;
  does = means_so word standing command t is ∙ ap (λ o. unless o t standing [] (doing (after command t) (standing_after command standing) [])) free;
  sound = is_sound (laid_all writes all) c (after command t) sound;
  tables = are_tables (laid_all writes all) c (after command t) sound;
}

-- one that is refused: nothing is written
pub definition_barred : (c : Catalog) (word : List ℕ) (standing : Standing) (command : Command) (reply : Reply) (all : Lines) (t : Tables) → is_definition command ≡ true → command_refusal word command standing t ≡ Some reply →
    IsSoundAs all c t → IsRightOver word standing command (record { choices = []; reply = reply; writes = [] }) all t
definition_barred c word standing command reply all t is barred sound = record {
  after = t;
  left = standing;
  does = means_so word standing command t is ∙ ap (λ o. unless o t standing [] (doing (after command t) (standing_after command standing) [])) barred;
  sound = is_sound all c t sound;
  tables = are_tables all c t sound;
}
