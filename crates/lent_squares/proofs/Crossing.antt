-- The office may cross threads.
use denote.Param.Send.{IsSend, sendable, recorded_send, enum_send, struct_send, view_send}
use denote.RattleType.{RattleType}
use denote.Builtin as Builtin
use denote.Enum.Declared as E
use denote.Struct.Declared as S
use denote.Struct.Struct.{Struct}
use Rattle.std.proofs.Crossing.{crosses}
use Rattle.lent_values.proofs.desk.Desk.TheSendSync as desk
use Rattle.lent_values.proofs.Crossing.{receipt_send}
use Rattle.lent_values.specs.declared.desk.Naming.{Ghosts}
use Rattle.lent_squares.specs.declared.office.Asked.{Ghosts as AskedGhosts}
use Rattle.lent_squares.proofs.square.Square.TheSendSync as square
use Rattle.lent_squares.specs.contracts.seat.Place as Place
use Rattle.lent_squares.specs.contracts.seat.Seat as Seat
use Rattle.lent_squares.specs.contracts.seat.Seat.TheInside as seat_inside
use Rattle.lent_squares.specs.contracts.office.Office as Office

whole_struct : (T : S.Declared) → IsSend (Struct (S.shape T)) → IsSend (S.row T)
whole_struct T s = recorded_send (Struct (S.shape T)) T.D T.to T.to_one s

module _ (A : RattleType) (j : Ghosts A.Denot) (k : AskedGhosts A.Denot) where
  place_send : IsSend (Place.the_field A j).row
  place_send = enum_send (E.shape (Place.the_type A j)) ((search sendable, tt), ((receipt_send A Builtin.u32 j, tt), ((square.the_field_send, tt), tt)))

  seat_send : IsSend (Seat.the_row A j)
  seat_send = view_send _ _ _ _ _ (whole_struct (seat_inside.the_type A j) (struct_send (S.shape (seat_inside.the_type A j)) (place_send, tt)))

  pub office_send : IsSend (Office.the_row A j k)
  office_send = whole_struct (Office.the_type A j k) (struct_send (S.shape (Office.the_type A j k)) (search (sendable, desk.the_field_send), (seat_send, (seat_send, tt))))
