-- What is done on tables.
use Rattle.std.specs.Prelude.{◌≡◌, ℕ, false, List, []}
use Rattle.rdo_ast.specs.declared.reply.Standing.{Standing}
use Rattle.rdo_ast.specs.Tree.{Uttered}
use Rattle.rdb_meaning.specs.declared.tables.Tables.{Tables}
use Rattle.rdb_meaning.specs.Meaning.{Does}
use Rattle.rdb_meaning.specs.Usual.{is_refusal_of_means}
use Rattle.session_jobs.specs.declared.jobs.Found.{Found}
use Rattle.session_jobs.specs.declared.jobs.Found.TheVariants.{Done, Missing, Bad, Unworked, NoMemory}

-- done so on these tables, which stay
abbrev pub DoneOn : List ℕ → Standing → Uttered → Tables → Found → Type 0
DoneOn word standing item t (Done r) = Does word standing item r.choices t r.reply t r.standing × (is_refusal_of_means r.reply ≡ false) × (r.writes ≡ [])
DoneOn word standing item t (Missing next later) = ⊥
DoneOn word standing item t (Bad key) = ⊥
DoneOn word standing item t Unworked = ⊥
DoneOn word standing item t NoMemory = Unit {0}
