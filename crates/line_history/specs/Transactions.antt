-- What is always true of an open transaction over lines.
use Rattle.std.specs.Prelude.{◌≡◌, ℕ, true, List, map, Option, Some, None}
use Rattle.rdo_ast.specs.declared.reply.Standing.{Standing}
use Rattle.rdo_ast.specs.Tree.{Uttered}
use Rattle.rdb_meaning.specs.declared.tables.Tables.{Tables}
use Rattle.lock_needs.specs.declared.need.Need.{Need}
use Rattle.line_view.specs.declared.writes.Write.{Write}
use Rattle.line_view.specs.Knowledge.{Knowledge, Lines, Agrees}
use Rattle.line_view.specs.Writes.{laid_all}
use Rattle.rdb_account.specs.Places.{Line, retold, some_reply}
use Rattle.rdb_account.specs.Lawful.{first_refusal}
use Rattle.rdb_account.specs.AskedFor.{item_asks}
use Rattle.kept_apart.specs.Guards.{AreOwn}
use Rattle.kept_apart.specs.Alike.{AreAlike, IsGuarded}
use Rattle.session_jobs.specs.Records.{Model, Worked}
use Rattle.session_jobs.specs.Jobs.{WhereItAgrees}

-- a statement that was worked over a view, as an account has it
abbrev pub line_of : Worked → Line
line_of r = record { item = r.item; choices = r.choices; reply = r.reply }

-- ---- what was said

-- Over these tables the lines have their replies and lead to this standing, and the map with the writes laid over it stands for the tables behind them.
pub record Leads (M : Model) (word : List ℕ) (lines : List Line) (writes : List Write) (standing : Standing) (all : Lines) (t : Tables) : Type 0 where
  pub then : Tables
  pub folded : retold word t lines ≡ record { tables = then; standing = standing; replies = map some_reply lines }
  pub stands : M (laid_all writes all) then

-- What was said so far in a read-write transaction that has got these needs, and what it wrote, stands over every map that is like the
-- committed lines where the needs guard. So it stands whatever others commit.
abbrev pub Holds : Model → List ℕ → List Need → Lines → List Line → List Write → Standing → Type 0
Holds M word got now lines writes standing = (all : Lines) (t : Tables) → AreAlike got now all → M all t → Leads M word lines writes standing all t

-- An open read-write transaction: what was said holds, its writes are on lines that are its own, and what it knows is guarded and agrees
-- with the committed lines under its writes.
pub record IsWriting (M : Model) (word : List ℕ) (got : List Need) (now : Lines) (lines : List Line) (writes : List Write) (standing : Standing) (known : Knowledge) : Type 0 where
  pub holds : Holds M word got now lines writes standing
  pub own : AreOwn got writes
  pub guarded : IsGuarded got known
  pub agrees : Agrees known (laid_all writes now)

-- A read-only transaction: the lines at its start stood for the tables at its start, and what it knows agrees with them.
pub record IsReading (M : Model) (start : Lines) (base : Tables) (known : Knowledge) : Type 0 where
  pub stands : M start base
  pub agrees : Agrees known start

-- ---- what is asked for

-- Over each sound map that agrees with what is known, the statement under way asks for the need.
abbrev pub IsAskedOver : Model → Standing → Option Uttered → Knowledge → Need → Type 0
IsAskedOver M standing None known n = ⊥
IsAskedOver M standing (Some item) known n = WhereItAgrees M known (λ t. item_asks (first_refusal standing item) t n item ≡ true)
