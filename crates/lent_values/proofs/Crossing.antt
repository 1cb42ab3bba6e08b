-- A desk, a receipt, a loan and what is made of it may cross threads.
use denote.Param.Send.{IsSend, sendable, recorded_send, struct_send, view_send}
use denote.RattleType.{RattleType}
use denote.Struct.Declared as S
use denote.Struct.Struct.{Struct}
use Rattle.std.proofs.Crossing.{crosses}
use Rattle.std.proofs.marker.PhantomData.TheSendSync as phantom
use Rattle.logbook.proofs.tokens.Seen.TheSendSync as seen
use Rattle.lent_values.specs.declared.desk.Naming.{Ghosts}
use Rattle.lent_values.specs.declared.loan.Answer.{Ghosts as AnswerGhosts}
use Rattle.lent_values.specs.contracts.receipt.Receipt as Receipt
use Rattle.lent_values.specs.contracts.receipt.Receipt.TheInside as receipt_inside
use Rattle.lent_values.specs.contracts.loan.Loan as Loan
use Rattle.lent_values.specs.contracts.loan.Loan.TheInside as loan_inside
use Rattle.lent_values.specs.contracts.loan.Worked as Worked

whole_struct : (T : S.Declared) → IsSend (Struct (S.shape T)) → IsSend (S.row T)
whole_struct T s = recorded_send (Struct (S.shape T)) T.D T.to T.to_one s

module _ (A T : RattleType) (j : Ghosts A.Denot) where
  pub receipt_send : IsSend (Receipt.the_row A T j)
  receipt_send = view_send _ _ _ _ _ (whole_struct (receipt_inside.the_type A T j)
      (struct_send (S.shape (receipt_inside.the_type A T j)) (search sendable, (search crosses, (search (sendable, seen.the_send), (search phantom.the_field_send, tt))))))

  pub loan_send : IsSend T → IsSend (Loan.the_row A T j)
  loan_send t = view_send _ _ _ _ _ (whole_struct (loan_inside.the_type A T j) (struct_send (S.shape (loan_inside.the_type A T j)) (receipt_send, (t, tt))))

module _ (A T R : RattleType) (j : Ghosts A.Denot) (r : AnswerGhosts R.Denot T.Denot) where
  pub worked_send : IsSend R → IsSend (Worked.the_row A T R j r)
  worked_send s = whole_struct (Worked.the_type A T R j r) (struct_send (S.shape (Worked.the_type A T R j r)) (receipt_send A T j, (s, tt)))
