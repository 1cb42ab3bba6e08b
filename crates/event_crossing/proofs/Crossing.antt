-- Items and events may cross threads. Expressions and actions are recursive types, whose laws stand with their knots; a search does each
-- of them anew at every use and comes to its end, so the parts are shown one by one here.
use denote.Param.Send.{IsSend, sendable, recorded_send, enum_send, struct_send}
use denote.Builtin as Builtin
use denote.Enum.Enum.{Enum}
use denote.Enum.Declared as E
use denote.Struct.Declared as S
use denote.Struct.Struct.{Struct}
use Rattle.std.proofs.Crossing.{crosses}
use Rattle.sqlite_items.specs.contracts.items.Items as Items
use Rattle.sqlite_items.proofs.boxed.Boxed.TheSendSync as boxed
use Rattle.sqlite_items.proofs.items.Items.TheSendSync as items
use Rattle.std.proofs.option.Option.TheSendSync as option
use Rattle.rdb_types.proofs.values.FieldType.TheSendSync as field_type
use Rattle.rdo_ast.specs.contracts.syntax.Expression as Expression
use Rattle.rdo_ast.specs.contracts.syntax.Inner as Inner
use Rattle.rdo_ast.specs.contracts.syntax.Selection as Selection
use Rattle.rdo_ast.specs.contracts.syntax.Assign as Assign
use Rattle.rdo_ast.specs.contracts.syntax.PrintItem as PrintItem
use Rattle.rdo_ast.specs.contracts.syntax.Action as Action
use Rattle.rdo_ast.specs.contracts.syntax.Statement as Statement
use Rattle.rdo_ast.specs.contracts.syntax.Item as Item
use Rattle.rdb_account.specs.contracts.event.Event as Event
use Rattle.rdb_types.specs.contracts.keys.Dbkey as Dbkey
use Rattle.rdb_types.proofs.keys.Dbkey.TheSendSync as dbkey
use Rattle.rdb_types.proofs.session.Session.TheSendSync as session
use Rattle.rdb_types.proofs.session.Moment.TheSendSync as moment
use Rattle.rdb_types.proofs.session.Cause.TheSendSync as cause
use Rattle.rdb_types.proofs.node.Node.TheSendSync as node
use Rattle.vms_queues.proofs.lock_mode.Mode.TheSendSync as mode
use Rattle.rdo_ast.proofs.backup.BackupNumber.TheSendSync as backup_number
use Rattle.rdo_ast.proofs.reply.Standing.TheSendSync as standing
use Rattle.rdo_ast.proofs.reply.Reply.TheSendSync as reply
use Rattle.rdo_ast.proofs.syntax.Expression.TheLaws.TheKnot as expressions
use Rattle.rdo_ast.proofs.syntax.Action.TheLaws.TheKnot as actions
use Rattle.rdo_ast.proofs.syntax.Reference.TheSendSync as reference
use Rattle.rdo_ast.proofs.syntax.Range.TheSendSync as range
use Rattle.rdo_ast.proofs.syntax.Statistic.TheSendSync as statistic
use Rattle.rdo_ast.proofs.syntax.Comparison.TheSendSync as comparison
use Rattle.rdo_ast.proofs.syntax.Arithmetic.TheSendSync as arithmetic
use Rattle.rdo_ast.proofs.syntax.Clause.TheSendSync as clause
use Rattle.rdo_ast.proofs.syntax.Reservation.TheSendSync as reservation
use Rattle.rdo_ast.proofs.syntax.FieldDefinition.TheSendSync as field_definition
use Rattle.rdo_ast.proofs.syntax.IndexDefinition.TheSendSync as index_definition

pub expression_send : IsSend (Expression.the_field).row
expression_send =
    expressions.send-Expression (search sendable) (search sendable) (search (sendable, items.the_send, crosses)) reference.the_field_send
    boxed.the_send items.the_send statistic.the_field_send comparison.the_field_send (search sendable)
    (search (sendable, items.the_send, crosses, range.the_send)) (λ h s. search (sendable, option.the_send, boxed.the_send)) arithmetic.the_field_send

pub inner_send : IsSend (Inner.the_field).row
inner_send =
    expressions.send-Inner (search sendable) (search sendable) (search (sendable, items.the_send, crosses)) reference.the_field_send
    boxed.the_send items.the_send statistic.the_field_send comparison.the_field_send (search sendable)
    (search (sendable, items.the_send, crosses, range.the_send)) (λ h s. search (sendable, option.the_send, boxed.the_send)) arithmetic.the_field_send

pub whole_struct : (T : S.Declared) → IsSend (Struct (S.shape T)) → IsSend (S.row T)
whole_struct T s = recorded_send (Struct (S.shape T)) T.D T.to T.to_one s

pub whole_enum : (T : E.Declared) → IsSend (Enum (E.shape T)) → IsSend (E.row T)
whole_enum T s = recorded_send (Enum (E.shape T)) T.D T.to T.to_one s

assign_send : IsSend Assign.the_row
assign_send = whole_struct Assign.the_type (struct_send (S.shape Assign.the_type) (reference.the_field_send, (expression_send, tt)))

selection_send : IsSend (Selection.the_field).row
selection_send = struct_send (S.shape Selection.the_type) (inner_send, (search (sendable, items.the_send, crosses, clause.the_send), tt))

print_item_send : IsSend PrintItem.the_row
print_item_send = whole_enum PrintItem.the_type (enum_send (E.shape PrintItem.the_type) ((expression_send, tt), ((search (sendable, items.the_send, crosses), tt), tt)))

pub action_send : IsSend (Action.the_field).row
action_send = actions.send-Action (search (sendable, range.the_field_send)) (search (sendable, items.the_send, assign_send)) selection_send items.the_send (search (sendable, items.the_send, print_item_send)) (search (sendable, items.the_send, crosses))

pub names_send : IsSend (Items.the_row Builtin.u8)
names_send = search (sendable, items.the_send, crosses)

pub statement_send : IsSend (Statement.the_field).row
statement_send = enum_send (E.shape Statement.the_type) (
  (names_send, tt),
  (
    tt,
    (
      (search sendable, (items.the_send _ reservation.the_send, tt)),
      (
        tt,
        (
          tt,
          (
            tt,
            (
              (backup_number.the_send, tt),
              (
                (action_send, tt),
                (
                  (names_send, (field_type.the_field_send, tt)),
                  (
                    (names_send, (items.the_send _ field_definition.the_send, tt)),
                    ((index_definition.the_field_send, tt), ((names_send, tt), ((names_send, tt), tt))),
                  ),
                ),
              ),
            ),
          ),
        ),
      ),
    ),
  ),
)

pub item_field_send : IsSend (Item.the_field).row
item_field_send = enum_send (E.shape Item.the_type) ((statement_send, tt), ((search sendable, (search sendable, tt)), tt))

pub item_send : IsSend Item.the_row
item_send = whole_enum Item.the_type item_field_send

keys_send : IsSend (Items.the_row Dbkey.the_row)
keys_send = items.the_send _ dbkey.the_send

pub event_send : IsSend Event.the_row
event_send =
    let s = session.the_field_send in let n = node.the_field_send in let m = mode.the_field_send in let at = moment.the_field_send in
    whole_enum Event.the_type (enum_send (E.shape Event.the_type) (
      (s, (standing.the_field_send, tt)),
      (
        (s, (n, (m, (n, tt)))),
        (
          (s, (n, (m, tt))),
          (
            (s, (n, (m, (m, tt)))),
            ((s, (item_field_send, (keys_send, (reply.the_field_send, tt)))), ((s, (at, tt)), ((s, tt), ((s, (cause.the_field_send, tt)), ((s, (search sendable, (at, tt))), tt))))),
          ),
        ),
      ),
    ))
