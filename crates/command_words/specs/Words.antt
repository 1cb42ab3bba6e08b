-- The words of the command line.
use Rattle.std.specs.Prelude.{◌≡◌, ◌≤◌, ℕ, Bool, true, false, ◌||◌, ◌&&◌, ◌+◌, ◌-◌, nat_le, nat_eq, List, [], ◌∷◌, length, codes, slice_index_or, Option, Some, None, is_some, if◌then◌else◌}
use Rattle.std.specs.List.{list_all}
use Rattle.rdb_types.specs.declared.keys.Limits.{Limits}
use Rattle.std.specs.Char.{is_ascii_alphabetic, is_ascii_digit}
use Rattle.root_file.specs.Root.{AreLimits}
use Rattle.command_words.specs.Bytes.{behind, is_command}
use Rattle.command_words.specs.Copies.{is_copy}
use Rattle.command_words.specs.Deaths.{death_in}
use Rattle.command_words.specs.Options.{ask, limits_of, nothing_asked, number_in}
use Rattle.command_words.specs.Orders.{is_order, sessions_in}
use Rattle.command_words.specs.declared.deaths.Death.{Death}
use Rattle.command_words.specs.declared.options.Asked.{Asked}
use Rattle.command_words.specs.declared.words.Scripts.{Scripts}
use Rattle.command_words.specs.declared.words.Command.{Command}
use Rattle.command_words.specs.declared.words.PagePlace.{PagePlace}
use Rattle.command_words.specs.declared.words.Command.TheVariants.{New, Rdo, Workload, Verify, Dump, DumpPage, Backup, BackupJournal, Restore, Recover}

-- a letter, a digit or `_`
abbrev pub is_database_byte : ℕ → Bool
is_database_byte b = (is_ascii_alphabetic b || is_ascii_digit b) || nat_eq b 95

-- the name of a database: 1 to 24 such bytes, a letter first
abbrev pub is_database : List ℕ → Bool
is_database [] = false
is_database (b ∷ bs) = (is_ascii_alphabetic b && nat_le (length bs) 23) && list_all is_database_byte bs

-- the words behind NEW: options, and a database last
abbrev pub new_words : Asked → List (List ℕ) → Option Limits
new_words a [] = None
new_words a (w ∷ ws) =
    if nat_eq (length ws) 0 then (if is_database w then Some (limits_of a) else None)
    else elim (ask a w) [ None ↦ None | Some b ↦ new_words b ws ]

-- what a word says for `--ORDER`
abbrev pub order_text : List ℕ → Option (List ℕ)
order_text word = behind (codes "--ORDER=") word

-- what a word says for `--DIE`
abbrev pub death_text : List ℕ → Option (List ℕ)
death_text word = behind (codes "--DIE=") word

-- a database and 1 to 16 scripts, of which the first stands at this place
abbrev pub scripts_at : ℕ → Bool → List (List ℕ) → Option Scripts
scripts_at first has_order [] = None
scripts_at first has_order (d ∷ scripts) =
    if is_database d && (nat_le 1 (length scripts) && nat_le (length scripts) 16) then Some (record { first = first; count = length scripts; has_order = has_order; death = None }) else None

-- the scripts, where the order is one of their sessions
abbrev pub with_order : List ℕ → Option Scripts → Option Scripts
with_order order None = None
with_order order (Some s) = if is_order s.count order then Some s else None

abbrev pub dying : Scripts → Option Death → Option Scripts
dying s None = None
dying s (Some death) = Some (record s { death = Some death })

-- the scripts, where the death is that of one of their sessions
abbrev pub with_death : List ℕ → Option Scripts → Option Scripts
with_death text None = None
with_death text (Some s) = dying s (death_in s.count text)

-- the words behind `--ORDER`: `--DIE` or none, a database and its scripts
abbrev pub behind_order : List (List ℕ) → Option Scripts
behind_order [] = None
behind_order (w ∷ ws) = elim (death_text w) [ None ↦ scripts_at 3 true (w ∷ ws) | Some text ↦ with_death text (scripts_at 4 true ws) ]

-- the words behind `--DIE`: `--ORDER` or none, a database and its scripts
abbrev pub behind_death : List (List ℕ) → Option Scripts
behind_death [] = None
behind_death (w ∷ ws) = elim (order_text w) [ None ↦ scripts_at 3 false (w ∷ ws) | Some order ↦ with_order order (scripts_at 4 true ws) ]

-- the words behind RDO: both options in either order, one of them or none, a database and its scripts
abbrev pub rdo_from : Option (List ℕ) → Option (List ℕ) → List (List ℕ) → List (List ℕ) → Option Scripts
rdo_from (Some order) death ws all = with_order order (behind_order ws)
rdo_from None (Some text) ws all = with_death text (behind_death ws)
rdo_from None None ws all = scripts_at 2 false all

abbrev pub rdo_words : List (List ℕ) → Option Scripts
rdo_words [] = None
rdo_words (w ∷ ws) = rdo_from (order_text w) (death_text w) ws (w ∷ ws)

abbrev pub as_rdo : Option Scripts → Option Command
as_rdo None = None
as_rdo (Some s) = Some (Rdo s)

abbrev pub as_new : Option Limits → Option Command
as_new None = None
as_new (Some l) = Some (New l)

-- a database alone
abbrev pub is_one_database : List (List ℕ) → Bool
is_one_database [] = false
is_one_database (d ∷ []) = is_database d
is_one_database (d ∷ w ∷ ws) = false

-- an area file from 1 to 3 and a page of it from 1 to 65,536
abbrev pub place_of : Option ℕ → Option ℕ → Option PagePlace
place_of None page = None
place_of (Some file) None = None
place_of (Some file) (Some page) = Some (record { file = file; page = page })

-- a database, an area file and a page
abbrev pub page_words : List (List ℕ) → Option PagePlace
page_words [] = None
page_words (d ∷ []) = None
page_words (d ∷ f ∷ []) = None
page_words (d ∷ f ∷ p ∷ []) = if is_database d then place_of (number_in 1 3 f) (number_in 1 65536 p) else None
page_words (d ∷ f ∷ p ∷ w ∷ ws) = None

abbrev pub as_page : Option PagePlace → Option Command
as_page None = None
as_page (Some place) = Some (DumpPage place)

-- a database, and the number of a backup or of a copy of the journal, from 1 to 9
abbrev pub copy_words : List (List ℕ) → Option ℕ
copy_words [] = None
copy_words (d ∷ []) = None
copy_words (d ∷ n ∷ []) = if is_database d then number_in 1 9 n else None
copy_words (d ∷ n ∷ w ∷ ws) = None

abbrev pub keeping_of : List ℕ → Option ℕ → Option Command
keeping_of c None = None
keeping_of c (Some number) =
    if is_command (codes "RMU/BACKUP") c then Some (Backup number)
    else (if is_command (codes "RMU/BACKUP/AFTER_JOURNAL") c then Some (BackupJournal number)
    else (if is_command (codes "RMU/RESTORE") c then Some (Restore number) else None))

-- a command of RMU that keeps copies, and the words behind it
abbrev pub keeping_command : List ℕ → List (List ℕ) → Option Command
keeping_command c ws = keeping_of c (copy_words ws)

-- a database, and up to 9 numbers of copies of the journal
abbrev pub roll_words : List (List ℕ) → Option ℕ
roll_words [] = None
roll_words (d ∷ ns) = if is_database d && (nat_le (length ns) 9 && list_all is_copy ns) then Some (length ns) else None

abbrev pub as_roll : Option ℕ → Option Command
as_roll None = None
as_roll (Some count) = Some (Recover count)

-- a database, and how many accounts a workload makes in it, from 2 to 2,000
abbrev pub workload_words : List (List ℕ) → Option ℕ
workload_words [] = None
workload_words (d ∷ []) = None
workload_words (d ∷ n ∷ []) = if is_database d then number_in 2 2000 n else None
workload_words (d ∷ n ∷ w ∷ ws) = None

abbrev pub as_workload : Option ℕ → Option Command
as_workload None = None
as_workload (Some accounts) = Some (Workload accounts)

-- a command of RMU, and the words behind it
abbrev pub rmu_command : List ℕ → List (List ℕ) → Option Command
rmu_command c ws =
    if is_command (codes "RMU/VERIFY") c then (if is_one_database ws then Some Verify else None)
    else (if is_command (codes "RMU/DUMP") c then (if is_one_database ws then Some Dump else None)
    else (if is_command (codes "RMU/DUMP/PAGE") c then as_page (page_words ws)
    else (if is_command (codes "RMU/RECOVER") c then as_roll (roll_words ws) else keeping_command c ws)))

-- a command that names neither scripts nor limits, and the words behind it
abbrev pub other_command : List ℕ → List (List ℕ) → Option Command
other_command c ws = if is_command (codes "WORKLOAD") c then as_workload (workload_words ws) else rmu_command c ws

-- the row of the table of commands that the words are
abbrev pub command_of : List (List ℕ) → Option Command
command_of [] = None
command_of (c ∷ ws) =
    if is_command (codes "RDO") c then as_rdo (rdo_words ws)
    else (if is_command (codes "NEW") c then as_new (new_words nothing_asked ws) else other_command c ws)

-- the place of the database's word
abbrev pub place_for : ℕ → Option Command → Option ℕ
place_for n None = None
place_for n (Some (Rdo s)) = Some (s.first - 1)
place_for n (Some (New l)) = Some (n - 1)
place_for n (Some (Workload accounts)) = Some (n - 2)
place_for n (Some Verify) = Some (n - 1)
place_for n (Some Dump) = Some (n - 1)
place_for n (Some (DumpPage p)) = Some (n - 3)
place_for n (Some (Backup number)) = Some (n - 2)
place_for n (Some (BackupJournal number)) = Some (n - 2)
place_for n (Some (Restore number)) = Some (n - 2)
place_for n (Some (Recover count)) = Some (n - 1 - count)

abbrev pub database_place : List (List ℕ) → Option ℕ
database_place words = place_for (length words) (command_of words)

abbrev pub first_word : List (List ℕ) → List ℕ
first_word [] = []
first_word (w ∷ ws) = w

-- the first word, or the next one where that is such an option
abbrev pub past_option : (List ℕ → Option (List ℕ)) → List (List ℕ) → List ℕ
past_option text [] = []
past_option text (w ∷ ws) = if is_some (text w) then first_word ws else w

-- the database's word behind RDO
abbrev pub word_of : List (List ℕ) → List ℕ
word_of [] = []
word_of (c ∷ []) = []
word_of (c ∷ w ∷ ws) = if is_some (order_text w) then past_option death_text ws else (if is_some (death_text w) then past_option order_text ws else w)

abbrev pub order_first : List (List ℕ) → Option (List ℕ)
order_first [] = None
order_first (w ∷ ws) = order_text w

abbrev pub order_among : Option (List ℕ) → Option (List ℕ) → List (List ℕ) → Option (List ℕ)
order_among (Some order) death ws = Some order
order_among None (Some text) ws = order_first ws
order_among None None ws = None

-- what `--ORDER` says among the options behind a command word
abbrev pub said_order : List (List ℕ) → Option (List ℕ)
said_order [] = None
said_order (c ∷ []) = None
said_order (c ∷ w ∷ ws) = order_among (order_text w) (death_text w) ws

abbrev pub sessions_said : ℕ → Option (List ℕ) → List ℕ
sessions_said sessions None = []
sessions_said sessions (Some order) = sessions_in sessions order

abbrev pub order_for : Option Command → Option (List ℕ) → List ℕ
order_for None order = []
order_for (Some (New l)) order = []
order_for (Some (Workload accounts)) order = []
order_for (Some Verify) order = []
order_for (Some Dump) order = []
order_for (Some (DumpPage p)) order = []
order_for (Some (Backup number)) order = []
order_for (Some (BackupJournal number)) order = []
order_for (Some (Restore number)) order = []
order_for (Some (Recover count)) order = []
order_for (Some (Rdo s)) order = sessions_said s.count order

-- the sessions that `--ORDER` names, in order
abbrev pub order_in : List (List ℕ) → List ℕ
order_in words = order_for (command_of words) (said_order words)

-- the death of one of so many sessions, or none
abbrev pub MayBeOf : ℕ → Option Death → Type 0
MayBeOf sessions None = Unit {0}
MayBeOf sessions (Some death) = (1 ≤ death.session) × (death.session ≤ sessions)

-- the scripts are the last words, 1 to 16 of them; the database's word stands in front of them; who dies is one of their sessions
pub record AreLast (words : List (List ℕ)) (s : Scripts) : Type 0 where
  pub some : 1 ≤ s.count
  pub few : s.count ≤ 16
  pub behind_database : 2 ≤ s.first
  pub last : s.first + s.count ≡ length words
  pub database : slice_index_or words (s.first - 1) [] ≡ word_of words
  pub order : s.has_order ≡ is_some (said_order words)
  pub death : MayBeOf s.count s.death

-- pages count from 1 to 65,536, and area files from 1 to 3
pub record IsAllowedPlace (p : PagePlace) : Type 0 where
  pub file : (1 ≤ p.file) × (p.file ≤ 3)
  pub page : (1 ≤ p.page) × (p.page ≤ 65536)

-- a command that only reads, and writes what it finds
abbrev pub only_reads : Option Command → Bool
only_reads None = false
only_reads (Some (New l)) = false
only_reads (Some (Rdo s)) = false
only_reads (Some (Workload accounts)) = false
only_reads (Some Verify) = true
only_reads (Some Dump) = true
only_reads (Some (DumpPage p)) = true
only_reads (Some (Backup number)) = false
only_reads (Some (BackupJournal number)) = false
only_reads (Some (Restore number)) = false
only_reads (Some (Recover count)) = false

-- backups, and copies of the journal, count from 1 to 9
abbrev pub IsCopyNumber : ℕ → Type 0
IsCopyNumber number = (1 ≤ number) × (number ≤ 9)

-- a workload makes so many accounts
abbrev pub AreAccounts : ℕ → Type 0
AreAccounts accounts = (2 ≤ accounts) × (accounts ≤ 2000)

-- the limits of a command, the page, the number and the count that it names are within their ranges, and its scripts within its words
abbrev pub IsAllowedCommand : List (List ℕ) → Command → Type 0
IsAllowedCommand words (New limits) = AreLimits limits
IsAllowedCommand words (Rdo scripts) = AreLast words scripts
IsAllowedCommand words (Workload accounts) = AreAccounts accounts
IsAllowedCommand words Verify = Unit {0}
IsAllowedCommand words Dump = Unit {0}
IsAllowedCommand words (DumpPage place) = IsAllowedPlace place
IsAllowedCommand words (Backup number) = IsCopyNumber number
IsAllowedCommand words (BackupJournal number) = IsCopyNumber number
IsAllowedCommand words (Restore number) = IsCopyNumber number
IsAllowedCommand words (Recover count) = count ≤ 9
