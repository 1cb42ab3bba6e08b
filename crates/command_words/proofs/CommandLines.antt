-- Some command lines, worked.
use Rattle.std.proofs.Common.{◌≡◌, ℕ, zero, suc, List, [], ◌∷◌, Option, Some, None, refl}
use Rattle.std.specs.Prelude.{codes, replicate, ◌++◌, true, false}
use Rattle.command_words.specs.Copies.{copies_in}
use Rattle.command_words.specs.Orders.{is_order}
use Rattle.command_words.specs.Words.{command_of, database_place, word_of, order_in}
use Rattle.command_words.specs.declared.deaths.DeathPoint.TheVariants.{Step, Barrier}
use Rattle.command_words.specs.declared.words.Command.{Command}
use Rattle.command_words.specs.declared.words.Command.TheVariants.{Rdo, Workload, Verify, Dump, DumpPage, Backup, BackupJournal, Restore, Recover}

-- `RDO --ORDER=1,2 PERS a b`
in_turns : List (List ℕ)
in_turns = codes "RDO" ∷ codes "--ORDER=1,2" ∷ codes "PERS" ∷ codes "a" ∷ codes "b" ∷ []

in_turns-row : command_of in_turns ≡ Some (Rdo (record { first = 3; count = 2; has_order = true; death = None }))
unfolding in_turns
in_turns-row = refl

in_turns-word : word_of in_turns ≡ codes "PERS"
unfolding in_turns
in_turns-word = refl

in_turns-place : database_place in_turns ≡ Some 2
unfolding in_turns
in_turns-place = refl

in_turns-order : order_in in_turns ≡ 1 ∷ 2 ∷ []
unfolding in_turns
in_turns-order = refl

-- `RDO PERS a`
without_order : command_of (codes "RDO" ∷ codes "PERS" ∷ codes "a" ∷ []) ≡ Some (Rdo (record { first = 2; count = 1; has_order = false; death = None }))
without_order = refl

-- Behind the database's word stand scripts: `rdo PERS --ORDER=1`
named_like_an_option : command_of (codes "rdo" ∷ codes "PERS" ∷ codes "--ORDER=1" ∷ []) ≡ Some (Rdo (record { first = 2; count = 1; has_order = false; death = None }))
named_like_an_option = refl

in_small_letters : command_of (codes "Rdo" ∷ codes "--order=0000000001" ∷ codes "Pers" ∷ codes "a" ∷ []) ≡ Some (Rdo (record { first = 3; count = 1; has_order = true; death = None }))
in_small_letters = refl

-- sixteen scripts, and one more
sixteen : command_of (codes "RDO" ∷ codes "PERS" ∷ replicate 16 (codes "a")) ≡ Some (Rdo (record { first = 2; count = 16; has_order = false; death = None }))
sixteen = refl

seventeen : command_of (codes "RDO" ∷ codes "PERS" ∷ replicate 17 (codes "a")) ≡ None
seventeen = refl

no_script : command_of (codes "RDO" ∷ codes "PERS" ∷ []) ≡ None
no_script = refl

-- orders of two sessions that are none
empty : is_order 2 (codes "") ≡ false
empty = refl

empty_entry : is_order 2 (codes "1,,2") ≡ false
empty_entry = refl

third_session : is_order 2 (codes "3") ≡ false
third_session = refl

eleven_digits : is_order 2 (codes "00000000001") ≡ false
eleven_digits = refl

with_order : List ℕ → Option Command
with_order word = command_of (codes "RDO" ∷ word ∷ codes "PERS" ∷ codes "a" ∷ codes "b" ∷ [])

refused : (with_order (codes "--ORDER=") ≡ None) × (with_order (codes "--ORDER=1,,2") ≡ None) × (with_order (codes "--ORDER=3") ≡ None) × (with_order (codes "--ORDER=1,2,") ≡ None)
unfolding with_order
refused = (refl, refl, refl, refl)

-- `--DIE` in front of `--ORDER`, and behind it
dies_first : command_of (codes "RDO" ∷ codes "--DIE=1:barrier" ∷ codes "--ORDER=2,1" ∷ codes "PERS" ∷ codes "a" ∷ codes "b" ∷ []) ≡
    Some (Rdo (record { first = 4; count = 2; has_order = true; death = Some (record { session = 1; at = Barrier }) }))
dies_first = refl

dies_behind : List (List ℕ)
dies_behind = codes "RDO" ∷ codes "--ORDER=2,1" ∷ codes "--die=2:17" ∷ codes "PERS" ∷ codes "a" ∷ codes "b" ∷ []

dies_behind-row : command_of dies_behind ≡ Some (Rdo (record { first = 4; count = 2; has_order = true; death = Some (record { session = 2; at = Step 17 }) }))
unfolding dies_behind
dies_behind-row = refl

dies_behind-word : word_of dies_behind ≡ codes "PERS"
unfolding dies_behind
dies_behind-word = refl

dies_behind-order : order_in dies_behind ≡ 2 ∷ 1 ∷ []
unfolding dies_behind
dies_behind-order = refl

-- deaths of one session that are none
with_death : List ℕ → Option Command
with_death word = command_of (codes "RDO" ∷ word ∷ codes "PERS" ∷ codes "a" ∷ [])

no_deaths : (with_death (codes "--DIE=2:1") ≡ None) × (with_death (codes "--DIE=1:0") ≡ None) × (with_death (codes "--DIE=1") ≡ None) × (with_death (codes "--DIE=1:1:1") ≡ None) × (with_death (codes "--DIE=1:") ≡ None)
unfolding with_death
no_deaths = (refl, refl, refl, refl, refl)

-- `--ORDER` twice
twice : command_of (codes "RDO" ∷ codes "--ORDER=1" ∷ codes "--ORDER=1" ∷ codes "PERS" ∷ codes "a" ∷ []) ≡ None
twice = refl

-- a turn of session 1 behind so many others
turns : ℕ → List ℕ
turns zero = codes "1"
turns (suc n) = codes "1," ++ turns n

thousand : is_order 1 (turns 999) ≡ true
unfolding turns
thousand = refl

one_more : is_order 1 (turns 1000) ≡ false
unfolding turns
one_more = refl

-- the commands of RMU
verify : command_of (codes "rmu/Verify" ∷ codes "PERS" ∷ []) ≡ Some Verify
verify = refl

dump : command_of (codes "RMU/DUMP" ∷ codes "PERS" ∷ []) ≡ Some Dump
dump = refl

page : command_of (codes "RMU/DUMP/PAGE" ∷ codes "PERS" ∷ codes "2" ∷ codes "65536" ∷ []) ≡ Some (DumpPage (record { file = 2; page = 65536 }))
page = refl

page-place : database_place (codes "RMU/DUMP/PAGE" ∷ codes "PERS" ∷ codes "2" ∷ codes "1" ∷ []) ≡ Some 1
page-place = refl

-- two databases, no database, a fourth area file, no page
no_rows : (command_of (codes "RMU/VERIFY" ∷ codes "A" ∷ codes "B" ∷ []) ≡ None) × (command_of (codes "RMU/DUMP" ∷ []) ≡ None) × (command_of (codes "RMU/DUMP/PAGE" ∷ codes "A" ∷ codes "4" ∷ codes "1" ∷ []) ≡ None) × (command_of (codes "RMU/DUMP/PAGE" ∷ codes "A" ∷ codes "1" ∷ codes "0" ∷ []) ≡ None) × (command_of (codes "RMU/DUMP/PAGE" ∷ codes "A" ∷ codes "1" ∷ []) ≡ None)
no_rows = (refl, refl, refl, refl, refl)

-- the commands that keep copies
backup : command_of (codes "RMU/Backup" ∷ codes "PERS" ∷ codes "1" ∷ []) ≡ Some (Backup 1)
backup = refl

backup_journal : command_of (codes "RMU/BACKUP/AFTER_JOURNAL" ∷ codes "PERS" ∷ codes "9" ∷ []) ≡ Some (BackupJournal 9)
backup_journal = refl

restore : command_of (codes "rmu/restore" ∷ codes "PERS" ∷ codes "02" ∷ []) ≡ Some (Restore 2)
restore = refl

restore-place : database_place (codes "RMU/RESTORE" ∷ codes "PERS" ∷ codes "2" ∷ []) ≡ Some 1
restore-place = refl

-- no number, 0, 10, two numbers, no database
no_copies : (command_of (codes "RMU/BACKUP" ∷ codes "A" ∷ []) ≡ None) × (command_of (codes "RMU/BACKUP" ∷ codes "A" ∷ codes "0" ∷ []) ≡ None) × (command_of (codes "RMU/RESTORE" ∷ codes "A" ∷ codes "10" ∷ []) ≡ None) × (command_of (codes "RMU/RESTORE" ∷ codes "A" ∷ codes "1" ∷ codes "2" ∷ []) ≡ None) × (command_of (codes "RMU/BACKUP/AFTER_JOURNAL" ∷ codes "1" ∷ codes "1" ∷ []) ≡ None)
no_copies = (refl, refl, refl, refl, refl)

-- a roll-forward over no copy, and over two of which one is named twice
recover : command_of (codes "RMU/RECOVER" ∷ codes "PERS" ∷ []) ≡ Some (Recover 0)
recover = refl

over_copies : List (List ℕ)
over_copies = codes "rmu/recover" ∷ codes "PERS" ∷ codes "3" ∷ codes "01" ∷ codes "3" ∷ []

over_copies-row : command_of over_copies ≡ Some (Recover 3)
unfolding over_copies
over_copies-row = refl

over_copies-place : database_place over_copies ≡ Some 1
unfolding over_copies
over_copies-place = refl

over_copies-numbers : copies_in over_copies ≡ 3 ∷ 1 ∷ 3 ∷ []
unfolding over_copies
over_copies-numbers = refl

-- nine copies
nine : command_of (codes "RMU/RECOVER" ∷ codes "A" ∷ replicate 9 (codes "9")) ≡ Some (Recover 9)
nine = refl

-- ten copies, 0, 10, no database
no_rolls : (command_of (codes "RMU/RECOVER" ∷ codes "A" ∷ replicate 10 (codes "9")) ≡ None) × (command_of (codes "RMU/RECOVER" ∷ codes "A" ∷ codes "1" ∷ codes "0" ∷ []) ≡ None) × (command_of (codes "RMU/RECOVER" ∷ codes "A" ∷ codes "10" ∷ []) ≡ None) × (command_of (codes "RMU/RECOVER" ∷ []) ≡ None) × (command_of (codes "RMU/RECOVER" ∷ codes "1" ∷ []) ≡ None)
no_rolls = (refl, refl, refl, refl, refl)

-- a workload
workload : command_of (codes "Workload" ∷ codes "PERS" ∷ codes "100" ∷ []) ≡ Some (Workload 100)
workload = refl

workload-place : database_place (codes "WORKLOAD" ∷ codes "PERS" ∷ codes "2000" ∷ []) ≡ Some 1
workload-place = refl

-- no count, one account, 2,001, two counts, no database
no_workloads : (command_of (codes "WORKLOAD" ∷ codes "A" ∷ []) ≡ None) × (command_of (codes "WORKLOAD" ∷ codes "A" ∷ codes "1" ∷ []) ≡ None) × (command_of (codes "WORKLOAD" ∷ codes "A" ∷ codes "2001" ∷ []) ≡ None) × (command_of (codes "WORKLOAD" ∷ codes "A" ∷ codes "2" ∷ codes "2" ∷ []) ≡ None) × (command_of (codes "WORKLOAD" ∷ codes "2" ∷ codes "2" ∷ []) ≡ None)
no_workloads = (refl, refl, refl, refl, refl)
