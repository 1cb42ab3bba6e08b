-- One session alone.
use Rattle.std.specs.Prelude.{ℕ, List, [], ◌∷◌}
use Rattle.ordered_entries.specs.rdb_types.declared.keys.Dbkey.{Dbkey}
use Rattle.rdo_ast.specs.declared.reply.Reply.{Reply}
use Rattle.rdo_ast.specs.declared.reply.Standing.{Standing}
use Rattle.rdo_ast.specs.declared.reply.Standing.TheVariants.{Closed}
use Rattle.rdo_ast.specs.Tree.{commit, rollback, Uttered, said}
use Rattle.rdb_meaning.specs.declared.tables.Tables.{Tables}
use Rattle.rdb_meaning.specs.Contents.{no_tables}
use Rattle.rdb_meaning.specs.Meaning.{Meaning, means, meaningless, meaning}

-- The tables of the last commit, the tables with the changes of the open transaction, and the session's standing.
pub record Alone : Type 0 where
  pub committed : Tables
  pub tables : Tables
  pub standing : Standing

abbrev pub alone : Tables → Tables → Standing → Alone
alone committed t standing = record { committed = committed; tables = t; standing = standing }

abbrev pub fresh : Alone
fresh = alone no_tables no_tables Closed

-- COMMIT makes the changes lasting, ROLLBACK drops them.
abbrev pub left_by : Uttered → Tables → Tables → Standing → Alone
left_by (said commit) committed t standing = alone t t standing
left_by (said rollback) committed t standing = alone committed committed standing
left_by _ committed t standing = alone committed t standing

-- each item with the Dbkeys that its rows are given
abbrev pub Script : Type 0
Script = List (Uttered × List Dbkey)

abbrev pub go_on : Meaning → (Reply → Tables → Standing → List Reply) → List Reply
go_on (means reply t standing ks) next = next reply t standing
go_on meaningless next = []

-- the replies to a script
abbrev pub replies : List ℕ → Script → Alone → List Reply
replies word [] a = []
replies word (i ∷ is) a =
    go_on (meaning word a.standing i.0 i.1 a.tables) (λ reply t standing. reply ∷ replies word is (left_by i.0 a.committed t standing))

abbrev pub go_on_from : Meaning → Alone → (Tables → Standing → Alone) → Alone
go_on_from (means reply t standing ks) a next = next t standing
go_on_from meaningless a next = a

-- where a script leads to, with no word on its replies
abbrev pub after_script : List ℕ → Script → Alone → Alone
after_script word [] a = a
after_script word (i ∷ is) a =
    go_on_from (meaning word a.standing i.0 i.1 a.tables) a (λ t standing. after_script word is (left_by i.0 a.committed t standing))
