-- Runs of calls behind a root that guards, and zeros into slot after slot of a file.
use Rattle.std.specs.Prelude.{ℕ, ◌≡◌, ◌≢◌, ◌≤◌, ◌<◌, ◌+◌, ◌⊎◌, IsTrue, List, Result, OnOk, OnErr}
use Rattle.std.proofs.Common.{◌∙◌, ap, ⊎_elim, refl, arith}
use Rattle.rdb_types.specs.declared.file.FileId.{FileId}
use Rattle.rdb_outside.specs.Disk.{View, Counts, Keeps, Puts, Adds, SameContent, IsPending, OnlyReads, zeros}
use Rattle.rdb_outside.specs.Moments.{started, goes_on, weaker}
use Rattle.new_database.specs.Maker.{root_file}
use Rattle.line_moves.proofs.Runs.{reads_once, writes_now, still_tells}
use Rattle.database_opening.proofs.of_line_opening.Standing.{leaves_on}
use Rattle.database_opening.specs.Others.{KeepsFile}
use Rattle.database_opening.proofs.Others.{file_read, file_unused, file_apart, file_on}
use Rattle.guarded_root.specs.Guarded.{IsInState, IsFile, RunsBehind}
use Rattle.guarded_root.proofs.Stages.{stays_guarded, in_state}

-- ---- one file that isn't written

pub kept_by_read : {T E : Type 0} (old new : View) (r : Result T E) → Counts old new r → (IsTrue old.tells → Keeps old new) → IsTrue old.tells → (file : FileId) → KeepsFile file old new
kept_by_read old new r counts keeps t file = file_read old new (reads_once old new r counts keeps) t file

pub kept_by_write : {T E : Type 0} (written : FileId) (slot : ℕ) (bytes : List ℕ) (old new : View) (r : Result T E) → Counts old new r → (IsTrue old.tells → Adds written slot bytes old new)
    → OnOk r (IsTrue old.tells → Puts written slot bytes old.content new.content) → OnErr r (IsTrue old.tells → SameContent old.content new.content ⊎ Puts written slot bytes old.content new.content)
    → IsTrue old.tells → (file : FileId) → file ≢ written → KeepsFile file old new
kept_by_write written slot bytes old new r counts adds put failed t file apart =
    file_apart old new written slot (writes_now old new written written slot slot bytes r refl refl counts adds put failed) t file apart

-- ---- runs

pub no_run : (may : FileId → Type 0) (v : View) → RunsBehind may v v
no_run may v = record {
  told = refl;
  no_fewer = omega arith;
  guarded = λ state t guarded. guarded;
  leaves = λ state t guarded. started v (IsInState state) (in_state state v guarded);
  others = λ t file apart. file_unused v t file;
}

-- one behind another
pub run_on : (may : FileId → Type 0) (old mid new : View) → RunsBehind may old mid → RunsBehind may mid new → RunsBehind may old new
run_on may old mid new first second = record {
  told = second.told ∙ first.told;
  no_fewer = let a = first.no_fewer in let b = second.no_fewer in omega (arith, a, b);
  guarded = λ state t was. second.guarded state (now t) (first.guarded state t was);
  leaves = λ state t was. leaves_on old mid new (IsInState state) (first.leaves state t was) (second.leaves state (now t) (first.guarded state t was));
  others = λ t file apart. file_on old mid new file (first.others t file apart) (second.others (now t) file apart);
}
  where
    now : IsTrue old.tells → IsTrue mid.tells
    now t = still_tells old mid first.told t

-- which may write more files
pub wider_run : (may more : FileId → Type 0) (old new : View) → ((file : FileId) → may file → more file) → RunsBehind may old new → RunsBehind more old new
wider_run may more old new to run = record {
  told = run.told;
  no_fewer = run.no_fewer;
  guarded = run.guarded;
  leaves = run.leaves;
  others = λ t file apart. run.others t file (λ is. apart (to file is));
}

pub read_run : (may : FileId → Type 0) (old new : View) → OnlyReads old new → RunsBehind may old new
read_run may old new reads = record {
  told = reads.told;
  no_fewer = reads.no_fewer;
  guarded = λ state t was x p. was x ((reads.keeps t).pending root_file 0 x p);
  leaves = λ state t was. weaker old new (IsPending old) (IsInState state) (λ image may. was (image root_file 0) (may root_file 0)) (reads.leaves t);
  others = λ t file apart. file_read old new reads t file;
}

pub write_run : {T E : Type 0} (file : FileId) (slot : ℕ) (bytes : List ℕ) (old new : View) (r : Result T E) → file ≢ root_file → Counts old new r → (IsTrue old.tells → Adds file slot bytes old new)
    → OnOk r (IsTrue old.tells → Puts file slot bytes old.content new.content) → OnErr r (IsTrue old.tells → SameContent old.content new.content ⊎ Puts file slot bytes old.content new.content)
    → RunsBehind (IsFile file) old new
write_run file slot bytes old new r other counts adds put failed = record {
  told = counts.told;
  no_fewer = counts.no_fewer;
  guarded = λ state t was. stays_guarded state file slot bytes old new other (adds t) was;
  leaves = λ state t was. goes_on old old new (IsInState state) r t (started old (IsInState state) (in_state state old was)) counts (in_state state new (stays_guarded state file slot bytes old new other (adds t) was));
  others = λ t f apart. kept_by_write file slot bytes old new r counts adds put failed t f apart;
}

-- ---- sweeping

-- so far zeros stand in the slots up to this one, and from the end on
pub record Sweeps (file : FileId) (end place : ℕ) (old new : View) : Type 0 where
  pub runs : RunsBehind (IsFile file) old new
  pub swept : IsTrue old.tells → (slot : ℕ) → slot < place → new.content file slot ≡ zeros file
  pub ends : IsTrue old.tells → (slot : ℕ) → end ≤ slot → new.content file slot ≡ zeros file

pub measured : {T E : Type 0} (file : FileId) (end : ℕ) (old new : View) (r : Result T E) → Counts old new r → (IsTrue old.tells → Keeps old new) → (IsTrue old.tells → (slot : ℕ) → end ≤ slot → old.content file slot ≡ zeros file) → Sweeps file end 0 old new
measured file end old new r counts keeps ends = record {
  runs = read_run (IsFile file) old new (reads_once old new r counts keeps);
  swept = λ tells slot less. absurd (omega (arith, less));
  ends = λ tells slot le. (keeps tells).content file slot ∙ ends tells slot le;
}

pub one_more : {T E : Type 0} (file : FileId) (end place : ℕ) (bytes : List ℕ) (old mid new : View) (r : Result T E) → bytes ≡ zeros file → place < end → Sweeps file end place old mid → RunsBehind (IsFile file) mid new → (IsTrue mid.tells → Puts file place bytes mid.content new.content) → Sweeps file end (place + 1) old new
one_more file end place bytes old mid new r blank within was run puts = record {
  runs = run_on (IsFile file) old mid new was.runs run;
  swept = λ tells slot less. ⊎_elim (λ (lt : slot < place). (puts (now tells)).others file slot (λ same. (λ is. absurd (let bad : slot ≡ place = is in omega (arith, bad, lt)))) ∙ was.swept tells slot lt)
      (λ (is : slot ≡ place). ap (λ n. new.content file n) is ∙ (puts (now tells)).here ∙ blank) (cases slot place less);
  ends = λ tells slot le. (puts (now tells)).others file slot (λ same. (λ is. absurd (let bad : slot ≡ place = is in omega (arith, bad, le, within)))) ∙ was.ends tells slot le;
}
  where
    now : IsTrue old.tells → IsTrue mid.tells
    now t = still_tells old mid was.runs.told t

    cases : (slot place : ℕ) → slot < place + 1 → (slot < place) ⊎ (slot ≡ place)
    cases slot place less = grind (arith, less)

pub all_zeros : (file : FileId) (end place : ℕ) (old new : View) → end ≤ place → Sweeps file end place old new → IsTrue old.tells → (slot : ℕ) → new.content file slot ≡ zeros file
all_zeros file end place old new done was tells slot = ⊎_elim (λ (lt : slot < place). was.swept tells slot lt) (λ (le : place ≤ slot). was.ends tells slot (omega (arith, done, le))) (cases slot place)
  where
    cases : (slot place : ℕ) → (slot < place) ⊎ (place ≤ slot)
    cases slot place = grind arith
