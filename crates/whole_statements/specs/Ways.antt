-- How an item is worked.
use Rattle.std.specs.Prelude.{◌≡◌, ℕ, true, false, List, None}
use Rattle.rdo_ast.specs.declared.reply.Standing.{Standing}
use Rattle.rdo_ast.specs.declared.reply.Standing.TheVariants.{Closed}
use Rattle.rdo_ast.specs.Tree.{Uttered}
use Rattle.rdb_account.specs.Places.{begins}
use Rattle.line_view.specs.Knowledge.{Knowledge}
use Rattle.session_jobs.specs.Asked.{locks}
use Rattle.whole_statements.specs.declared.way.Way.{Way}
use Rattle.whole_statements.specs.declared.way.Way.TheVariants.{Locking, Unread, Reading}
use Rattle.whole_statements.specs.Standings.{IsReading}

pub record IsUnread (standing : Standing) (item : Uttered) : Type 0 where
  pub closed : standing ≡ Closed
  pub none : begins item ≡ None

pub record IsRead (standing : Standing) (item : Uttered) : Type 0 where
  pub reads : IsReading standing
  pub free : locks standing item ≡ false
  pub begun : IsUnread standing item → ⊥

-- An item that takes locks is left unworked, whatever the word and what is known.
abbrev pub TakesLocks : List ℕ → Standing → Uttered → Knowledge → Type 0
TakesLocks word standing item known = locks standing item ≡ true

abbrev pub IsWay : Way → Standing → Uttered → Type 0
IsWay Locking standing item = locks standing item ≡ true
IsWay Unread standing item = IsUnread standing item
IsWay Reading standing item = IsRead standing item
