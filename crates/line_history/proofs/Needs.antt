-- The needs that the rules ask for: by reservations, by what a statement names, reads and changes, and by COMMIT.
use Rattle.std.proofs.Common.{◌≡◌, Bool, true, List, subst, sym, Some, None}
use Rattle.std.proofs.lemmas.Bool.{or_right}
use Rattle.rdo_ast.specs.declared.syntax.Reservation.{Reservation}
use Rattle.rdo_ast.specs.declared.reply.Standing.{Standing}
use Rattle.rdo_ast.specs.declared.reply.Standing.TheVariants.{Closed, ReadWrite}
use Rattle.rdo_ast.specs.Tree.{Uttered, Command, said, commit, start_read_write}
use Rattle.rdb_meaning.specs.Checks.{Refusal}
use Rattle.vms_queues.specs.declared.lock_mode.Mode.TheVariants.{EX}
use Rattle.lock_needs.specs.declared.need.Need.{Need}
use Rattle.line_view.specs.Knowledge.{Knowledge}
use Rattle.rdb_account.specs.Lawful.{first_refusal}
use Rattle.rdb_account.specs.AskedFor.{item_asks, command_asks, reservations_ask, is_on_catalog, is_on_journal}
use Rattle.session_jobs.specs.Records.{Model}
use Rattle.session_jobs.specs.Asked.{AsksFor, locks}
use Rattle.session_jobs.specs.Jobs.{WhereItAgrees}
use Rattle.line_history.specs.Transactions.{IsAskedOver}

module _ (M : Model) where
  -- a command that the standing doesn't refuse asks for its needs
  pub command-asked : (standing : Standing) (known : Knowledge) (c : Command) (n : Need) → first_refusal standing (said c) ≡ None → WhereItAgrees M known (λ t. command_asks t n c ≡ true) → IsAskedOver M standing (Some (said c)) known n
  command-asked standing known c n free asks all t m agrees = subst (λ (refused : Refusal). item_asks refused t n (said c) ≡ true) (sym free) (asks all t m agrees)

  -- COMMIT asks for the journal
  pub journal-asked : (wait : Bool) (rs : List Reservation) (known : Knowledge) (n : Need) → is_on_journal EX n ≡ true → IsAskedOver M (ReadWrite wait rs) (Some (said commit)) known n
  journal-asked wait rs known n is all t m agrees = is

  -- START_TRANSACTION asks for what it reserves
  pub reserved-asked : (wait : Bool) (rs : List Reservation) (known : Knowledge) (n : Need) → WhereItAgrees M known (λ t. reservations_ask t n rs ≡ true) → IsAskedOver M Closed (Some (said (start_read_write wait rs))) known n
  reserved-asked wait rs known n asks all t m agrees = or_right (is_on_catalog EX n) (reservations_ask t n rs) (asks all t m agrees)

  -- what is lacking, and the line of a write, are asked for as the record of the statement says
  pub found-asked : (standing : Standing) (known : Knowledge) (item : Uttered) (these : Need → Bool) (n : Need) → locks standing item ≡ true → these n ≡ true → WhereItAgrees M known (λ t. AsksFor standing item t these) → IsAskedOver M standing (Some item) known n
  found-asked standing known item these n takes is asks all t m agrees = asks all t m agrees takes n is
